-- A worker sees its own earlier commits, since it never sees less than it knows.
use Rattle.std.proofs.Common.{◌≡◌, ◌≢◌, ℕ, suc, ◌+◌, ◌-◌, ◌<◌, ◌≤◌, max, true, inl, inr, List, [], ◌∷◌, ◌++◌, length}
use Rattle.std.proofs.Common.{get_or, refl, ap, sym, ◌∙◌, subst, arith, Option, Some, None}
use Rattle.std.specs.Prelude.{replicate}
use Rattle.std.specs.List.{AllByRecursion}
use Rattle.std.proofs.lemmas.List.{length-set, length-replicate, get_or-replicate, get_or-set_same, get_or-set_other}
use Rattle.si_model.specs.declared.log.Outcome.{Outcome}
use Rattle.si_model.specs.declared.log.Outcome.TheVariants.{Commit, Again, TooOld}
use Rattle.si_model.specs.declared.log.Event.{Event}
use Rattle.si_model.specs.declared.log.Event.TheVariants.{Tried, Collected, CollectAgain}
use Rattle.si_model.specs.Lists.{Listed, Pairwise}
use Rattle.si_model.specs.Rows.{Rows}
use Rattle.si_model.specs.History.{stamp_of}
use Rattle.si_model.specs.Tells.{Tell, number_in, commit_in}
use Rattle.si_model.specs.Commits.{Published, published_of, published_from}
use Rattle.si_model.specs.Snapshots.{contains}
use Rattle.si_model.specs.View.{View, by_snapshots}
use Rattle.si_model.specs.Setting.{Setting, Asked}
use Rattle.si_model.specs.Knowledge.{AreAtMost, knowledge_with, SeesPrefix, known_with, SeesOutcome, known_by}
use Rattle.si_model.specs.Knowledge.{SeesEvent, known_after, SeesForward}
use Rattle.si_model.specs.Causes.{OutcomeCause, EventCause, HaveCausesAfter}
use Rattle.si_model.specs.Consistency.{OwnsSnapshot, NumbersFollow, AreOwned, AreSound}
use Rattle.si_model.proofs.ListLemmas.{All-listed, All-from_listed, listed_append_cases}
use Rattle.si_model.proofs.SnapshotLemmas.{at_most_at, contains_is}
use Rattle.si_law.proofs.Standing.{IsPublishing, publishing_at, worker_from, publishes, worker_is, number_above}

length_at_most : (as' bs : List ℕ) → AreAtMost as' bs → length as' ≤ length bs
length_at_most [] bs h = omega arith
length_at_most (a ∷ as') [] h = elim h [ ]
length_at_most (a ∷ as') (b ∷ bs) h = omega (arith, length_at_most as' bs h.1)

-- worker j's own number is known to be at least n
abbrev Keeps : ℕ → List ℕ → ℕ → Type 0
Keeps j known n = (j ≤ length known) × (n ≤ get_or known (j - 1) 0)

keeps_at_most : (j n : ℕ) (known snap : List ℕ) → Keeps j known n → AreAtMost known snap → Keeps j snap n
keeps_at_most j n known snap k h =
    (omega (arith, k.0, length_at_most known snap h), omega (arith, k.1, at_most_at known snap (j - 1) h))

-- what is knowledge_with of another worker
keeps_other : (j n i m : ℕ) (known : List ℕ) → 0 < j → 1 ≤ i → i ≢ j → Keeps j known n
    → Keeps j (knowledge_with known i m) n
keeps_other j n i m known p q r k =
    let apart : j - 1 ≢ i - 1 = λ e. r (omega (arith, e, p, q)) in (
      omega (arith, length-set known (i - 1) m, k.0),
      omega (arith, get_or-set_other known (i - 1) (j - 1) m 0 apart, k.1),
    )

-- and of itself
keeps_own : (j n : ℕ) (known : List ℕ) → 0 < j → j ≤ length known → Keeps j (knowledge_with known j n) n
keeps_own j n known p k = (
  omega (arith, length-set known (j - 1) n, k),
  omega (arith, get_or-set_same known (j - 1) n 0 (omega (arith, p, k))),
)

module _ (s : Setting) (rows : Rows) (cs : List Published) (tss : List (List Tell)) (j : ℕ) (positive : 0 < j) where
  abbrev v : View
  v = by_snapshots rows cs

  keeps_prefix : (n : ℕ) (t : Tell) (known : List ℕ) (p : Option ℕ) → Keeps j known n → SeesPrefix v t known p
      → Keeps j (known_with v t known p) n
  keeps_prefix n t known None k h = k
  keeps_prefix n t known (Some p) k h = keeps_at_most j n known t.snap k h.1

  keeps_outcome : (n : ℕ) (done : List Tell) (t : Tell) (known : List ℕ) (o : Outcome) → Keeps j known n
      → SeesOutcome known o
      → OutcomeCause s v tss j done t o → number_in o ≡ None → Keeps j (known_by j known o) n
  keeps_outcome n done t known (Commit number) k h c q = absurd (cc)
  keeps_outcome n done t known (Again i first second) k h c q = keeps_other j n i second known positive h.0 c.0 k
  keeps_outcome n done t known (TooOld i entry horizon) k h c q =
      keeps_other j n i (max (get_or known (i - 1) 0) horizon) known positive h.0 c.0 k
  keeps_outcome n done t known o k h c q = k

  keeps_after : (n : ℕ) (done : List Tell) (t : Tell) (known : List ℕ) (e : Event) → Keeps j known n
      → SeesEvent v t known e
      → EventCause s v tss j done t e → commit_in e ≡ None → Keeps j (known_after v j t known e) n
  keeps_after n done t known (Tried a) k h c q =
      keeps_outcome n done t (known_with v t known a.prefix) a.outcome (keeps_prefix n t known a.prefix k h.0) h.1 c q
  keeps_after n done t known (Collected b p entries cut) k h c q = keeps_at_most j n known t.snap k h.1
  keeps_after n done t known (CollectAgain b i first second) k h c q = keeps_other j n i second known positive h.0 c.0 k
  keeps_after n done t known e k h c q = k

  -- before a commit
  sees_commit : (n : ℕ) (t : Tell) (known : List ℕ) (c : Published) → IsPublishing j t c → Keeps j known n
      → SeesEvent v t known t.event
      → Keeps j c.snap n × Keeps j (known_after v j t known t.event) c.line.number
  sees_commit n t known c p k h =
      let at : SeesEvent v t known (Tried p.attempt) = subst (SeesEvent v t known) p.event h in
      let seen : SeesPrefix v t known (Some c.line.prefix) = subst (SeesPrefix v t known) p.prefix at.0 in
      let here = keeps_at_most j n known t.snap k seen.1 in
      let after : known_after v j t known t.event ≡ knowledge_with t.snap j c.line.number =
      ap (known_after v j t known) p.event
      ∙ ap (λ q. known_by j (known_with v t known q) p.attempt.outcome) p.prefix ∙ ap (known_by j t.snap) p.number in (
        subst (λ z. Keeps j z n) (sym p.snap) here,
        subst (λ z. Keeps j z c.line.number) (sym after) (keeps_own j c.line.number t.snap positive here.0),
      )

  -- a later commit's own entry is at least an earlier one's number
  abbrev SeesOwn : Published → Published → Type 0
  SeesOwn c d = c.line.number ≤ get_or d.snap (j - 1) 0

  sees_own : (start n : ℕ) (done : List Tell) (known : List ℕ) (ts : List Tell) → Keeps j known n
      → SeesForward v j known ts
      → HaveCausesAfter s v tss j done ts → AllByRecursion (OwnsSnapshot start) ts → NumbersFollow n (published_of j ts)
      → AllByRecursion (λ c. n ≤ get_or c.snap (j - 1) 0) (published_of j ts) × Pairwise SeesOwn (published_of j ts)
  sees_own start n done known [] k h c o f = (tt, tt)
  sees_own start n done known (t ∷ ts) k h c o f =
      elim (publishes j t t.event o.0.commit) [
        | inl q ↦
            let after = keeps_after n done t known t.event k h.0 c.0 q.1 in
            rw q.0 (sees_own start n (done ++ t ∷ []) (known_after v j t known t.event) ts after h.1 c.1 o.1
            (rw q.0 at f))
        | inr q ↦
            let p : IsPublishing j t q.0 = publishing_at j t t.event q.0 (rw q.1 (inl refl)) refl in
            let f' : NumbersFollow n (q.0 ∷ published_of j ts) = rw q.1 at f in
            let here = sees_commit n t known q.0 p k h.0 in
            let rest = sees_own start q.0.line.number (done ++ t ∷ []) (known_after v j t known t.event) ts here.1 h.1
            c.1 o.1 (rw f'.0 f'.1) in
            rw q.1 (
              (
                here.0.1,
                All-from_listed (λ c. n ≤ get_or c.snap (j - 1) 0) (published_of j ts)
                    (λ c l. omega (
                      arith,
                      f'.0,
                      All-listed (λ c. q.0.line.number ≤ get_or c.snap (j - 1) 0)
                          (published_of j ts) c rest.0 l,
                    )),
              ),
              (rest.0, rest.1),
            )
      ]

  -- commits stand in the order of their numbers
  pair_by_number : (n : ℕ) (ds : List Published) → NumbersFollow n ds → Pairwise SeesOwn ds → (c d : Published)
      → Listed c ds → Listed d ds
      → c.line.number < d.line.number → SeesOwn c d
  pair_by_number n [] f p c d l k lt = elim l [ ]
  pair_by_number n (x ∷ ds) f p c d l k lt =
      elim k [
        | inl q ↦ elim l [
          | inl r ↦ absurd (omega (arith, lt, ap (λ z. z.line.number) q, ap (λ z. z.line.number) r))
          | inr r ↦ absurd (omega (arith, lt, f.0, ap (λ z. z.line.number) q, number_above (suc n) ds f.1 c r))
        ]
        | inr q ↦ elim l [
          | inl r ↦ subst (λ z. SeesOwn z d) r (All-listed (SeesOwn x) ds d p.0 q)
          | inr r ↦ pair_by_number (suc n) ds f.1 p.1 c d r q lt
        ]
      ]

-- of one worker's commits the later has the earlier in its snapshot
pub own_before : (s : Setting) (asked : Asked) (rows : Rows) (cs : List Published) (all : List (List Tell)) (j : ℕ)
    (tss : List (List Tell))
    → 0 < j → j + length tss ≤ suc s.workers → AreOwned s.start j tss
    → AreSound s asked (by_snapshots rows cs) all j tss
    → (c d : Published) → Listed c (published_from j tss) → Listed d (published_from j tss)
    → c.line.worker ≡ d.line.worker
    → c.line.number < d.line.number → contains d.snap (stamp_of c.line) ≡ true
own_before s asked rows cs all j [] p w o h c d l k e lt = elim l [ ]
own_before s asked rows cs all j (ts ∷ tss) p w o h c d l k e lt =
    elim (listed_append_cases (published_of j ts) (published_from (suc j) tss) c l) [
      | inl a ↦ elim (listed_append_cases (published_of j ts) (published_from (suc j) tss) d k) [
        | inl b ↦
            let knows : Keeps j (replicate s.workers s.start) s.start = (
              omega (arith, w, length-replicate s.workers s.start),
              omega (arith, get_or-replicate s.workers (j - 1) s.start 0 (omega (arith, w, p))),
            ) in
            let seen = sees_own s rows cs all j p s.start s.start [] (replicate s.workers s.start) ts knows h.0.sees
            h.0.causes o.0.snapshots o.0.numbers in
            let le = pair_by_number s rows cs all j p s.start (published_of j ts) o.0.numbers seen.1 c d a b lt in
            let is : c.line.worker ≡ j = worker_is j ts c a in
            contains_is d.snap (stamp_of c.line) (omega (arith, is, p)) (rw is le)
        | inr b ↦ absurd (omega (arith, e, worker_is j ts c a, worker_from (suc j) tss d b))
      ]
      | inr a ↦ elim (listed_append_cases (published_of j ts) (published_from (suc j) tss) d k) [
        | inl b ↦ absurd (omega (arith, e, worker_is j ts d b, worker_from (suc j) tss c a))
        | inr b ↦ own_before s asked rows cs all (suc j) tss (omega arith) (omega (arith, w)) o.1 h.1 c d a b e lt
      ]
    ]
