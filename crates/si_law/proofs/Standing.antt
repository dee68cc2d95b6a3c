-- What stands of the commits and snapshots of logs that own them.
use Rattle.std.proofs.Common.{Bool, false, ◌≡◌, ℕ, suc, ◌+◌, ◌-◌, ◌<◌, ◌≤◌, true, ◌⊎◌, inl, inr, List, [], ◌∷◌, length}
use Rattle.std.proofs.Common.{drop, refl, ap, sym, ◌∙◌, subst, arith, Option, Some, None}
use Rattle.std.specs.Prelude.{◌==◌, IsTrue, IfSome, is_some, slice_index_or, map}
use Rattle.std.specs.List.{AllByRecursion}
use Rattle.std.proofs.lemmas.Bool.{cond_both, false≢true}
use Rattle.si_model.specs.declared.row.Key.{Key}
use Rattle.si_model.specs.declared.row.Item.{Item}
use Rattle.si_model.specs.declared.op.Op.{Op}
use Rattle.si_model.specs.declared.log.Lock.{Lock}
use Rattle.si_model.specs.declared.log.Log.{Log}
use Rattle.si_model.specs.declared.log.Attempt.{Attempt}
use Rattle.si_model.specs.declared.log.Outcome.{Outcome}
use Rattle.si_model.specs.declared.log.Outcome.TheVariants.{Commit}
use Rattle.si_model.specs.declared.log.Event.{Event}
use Rattle.si_model.specs.declared.log.Event.TheVariants.{Tried}
use Rattle.si_model.specs.Lists.{Listed}
use Rattle.si_model.specs.Rows.{writes_key}
use Rattle.si_model.specs.History.{stamp_at, stamp_of}
use Rattle.si_model.specs.Tells.{Tell, prefix_in, number_in, commit_in, last_number, reads_in, locks_in, writes_in}
use Rattle.si_model.specs.Tells.{snaps_in, ops_in, tells_from, tells_of}
use Rattle.si_model.specs.Commits.{Published, published_in, published_at, published_of, published_from, published_by}
use Rattle.si_model.specs.Commits.{snaps_of, snaps_by}
use Rattle.si_model.specs.Snapshots.{contains, sum_above}
use Rattle.si_model.specs.Consistency.{OwnsSnapshot, NumbersFollow, AreOwned}
use Rattle.si_model.proofs.ListLemmas.{All-listed, All-from_listed, listed_append_left, listed_append_right}
use Rattle.si_model.proofs.ListLemmas.{listed_append_cases}

abbrev pub is_of : ℕ → Published → Bool
is_of j c = c.line.worker == j

abbrev pub is_writer : Key → Published → Bool
is_writer key c = writes_key c.line.writes key

-- is the commit in the snapshot
abbrev pub is_inside : List ℕ → Published → Bool
is_inside snap c = contains snap (stamp_of c.line)

-- no commit is in its own snapshot
abbrev pub AreOutside : List (List Tell) → Type 0
AreOutside tss = (c : Published) → Listed c (published_by tss) → contains c.snap (stamp_of c.line) ≡ false

-- c is what the event of worker j publishes
pub record IsPublishing (j : ℕ) (t : Tell) (c : Published) : Type 0 where
  pub attempt : Attempt
  pub event : t.event ≡ Tried attempt
  pub worker : c.line.worker ≡ j
  pub number : attempt.outcome ≡ Commit c.line.number
  pub prefix : attempt.prefix ≡ Some c.line.prefix
  pub txn : c.line.txn ≡ attempt.txn
  pub writes : c.line.writes ≡ t.writes
  pub snap : c.snap ≡ t.snap
  pub ops : c.ops ≡ t.ops

publishing_in : (j : ℕ) (t : Tell) (a : Attempt) (p : Option ℕ) (o : Outcome) (c : Published)
    → Listed c (published_in j t a p o)
    → t.event ≡ Tried a → a.prefix ≡ p → a.outcome ≡ o → IsPublishing j t c
publishing_in j t a (Some p) (Commit n) c l e q r = elim l [
  | inl h ↦ record {
    attempt = a;
    event = e;
    worker = sym (ap (λ x. x.line.worker) h);
    number = r ∙ ap (λ x. Commit x.line.number) h;
    prefix = q ∙ ap (λ x. Some x.line.prefix) h;
    txn = sym (ap (λ x. x.line.txn) h);
    writes = sym (ap (λ x. x.line.writes) h);
    snap = sym (ap (λ x. x.snap) h);
    ops = sym (ap (λ x. x.ops) h);
  }
  | inr h ↦ elim h [ ]
]
publishing_in j t a p o c l e q r = elim l [ ]

pub publishing_at : (j : ℕ) (t : Tell) (e : Event) (c : Published) → Listed c (published_at j t e) → t.event ≡ e
    → IsPublishing j t c
publishing_at j t (Tried a) c l e = publishing_in j t a a.prefix a.outcome c l e refl refl
publishing_at j t v c l e = elim l [ ]

-- a listed commit is published by a listed event
pub publishing : (j : ℕ) (ts : List Tell) (c : Published) → Listed c (published_of j ts) → (t : Tell) × Listed t ts
    × IsPublishing j t c
publishing j [] c l = elim l [ ]
publishing j (t ∷ ts) c l =
    elim (listed_append_cases (published_at j t t.event) (published_of j ts) c l) [
      | inl h ↦ (t, inl refl, publishing_at j t t.event c h refl)
      | inr h ↦ let r = publishing j ts c h in (r.0, inr r.1, r.2)
    ]

-- the commits of worker j are worker j's
pub worker_of : (j : ℕ) (ts : List Tell) → AllByRecursion (λ c. c.line.worker ≡ j) (published_of j ts)
worker_of j ts = All-from_listed (λ c. c.line.worker ≡ j) (published_of j ts) (λ c l. (publishing j ts c l).2.worker)

pub worker_is : (j : ℕ) (ts : List Tell) (c : Published) → Listed c (published_of j ts) → c.line.worker ≡ j
worker_is j ts c l = (publishing j ts c l).2.worker

pub worker_from : (j : ℕ) (tss : List (List Tell)) (c : Published) → Listed c (published_from j tss) → j ≤ c.line.worker
worker_from j [] c l = elim l [ ]
worker_from j (ts ∷ tss) c l =
    elim (listed_append_cases (published_of j ts) (published_from (suc j) tss) c l) [
      | inl h ↦ omega (arith, worker_is j ts c h)
      | inr h ↦ omega (arith, worker_from (suc j) tss c h)
    ]

pub snap_listed : (ts : List Tell) (t : Tell) → Listed t ts → is_some (prefix_in t.event) ≡ true
    → Listed t.snap (snaps_of ts)
snap_listed [] t l h = elim l [ ]
snap_listed (x ∷ ts) t l h =
    cond_both (is_some (prefix_in x.event)) (x.snap ∷ snaps_of ts) (snaps_of ts) (λ zs. Listed t.snap zs)
    (λ e. elim l [ inl q ↦ inl (ap (λ z. z.snap) q) | inr r ↦ inr (snap_listed ts t r h) ])
    (λ e. elim l [
      | inl q ↦ absurd (false≢true (sym e ∙ ap (λ z. is_some (prefix_in z.event)) q ∙ h))
      | inr r ↦ snap_listed ts t r h
    ])

-- an event with a prefix lists its snapshot, and the prefix is the snapshot's sum
pub tell_stands : (start j : ℕ) (tss : List (List Tell)) → AreOwned start j tss → (ts : List Tell) → Listed ts tss
    → (t : Tell)
    → Listed t ts → (p : ℕ) → prefix_in t.event ≡ Some p → Listed t.snap (snaps_by tss) × (p ≡ sum_above start t.snap)
tell_stands start j [] w ts l t k p e = elim l [ ]
tell_stands start j (us ∷ tss) w ts l t k p e =
    elim l [
      | inl q ↦
          let here : Listed t us = subst (Listed t) (sym q) k in (
            listed_append_left (snaps_of us) (snaps_by tss) t.snap (snap_listed us t here (ap is_some e)),
            subst (λ o. IfSome o (λ p. p ≡ sum_above start t.snap)) e
                (All-listed (OwnsSnapshot start) us t w.0.snapshots here).sum,
          )
      | inr r ↦ let h = tell_stands start (suc j) tss w.1 ts r t k p e in
          (listed_append_right (snaps_of us) (snaps_by tss) t.snap h.0, h.1)
    ]

-- the snapshot of a listed commit is listed, and its sum is the commit's prefix
pub record IsStanding (start : ℕ) (tss : List (List Tell)) (c : Published) : Type 0 where
  pub snap : Listed c.snap (snaps_by tss)
  pub prefix : c.line.prefix ≡ sum_above start c.snap

-- the log of a listed commit's worker
pub published_log : (j : ℕ) (tss : List (List Tell)) (c : Published) → Listed c (published_from j tss)
    → (ts : List Tell) × Listed ts tss × Listed c (published_of c.line.worker ts)
published_log j [] c l = elim l [ ]
published_log j (ts ∷ tss) c l =
    elim (listed_append_cases (published_of j ts) (published_from (suc j) tss) c l) [
      | inl h ↦ (ts, inl refl, subst (λ i. Listed c (published_of i ts)) (sym (worker_is j ts c h)) h)
      | inr h ↦ let r = published_log (suc j) tss c h in (r.0, inr r.1, r.2)
    ]

pub prefix_at : (j : ℕ) (t : Tell) (c : Published) → IsPublishing j t c → prefix_in t.event ≡ Some c.line.prefix
prefix_at j t c p = ap prefix_in p.event ∙ p.prefix

pub standing : (start j : ℕ) (tss : List (List Tell)) → AreOwned start j tss → (c : Published)
    → Listed c (published_from j tss)
    → IsStanding start tss c
standing start j tss w c l =
    let log = published_log j tss c l in
    let p = publishing c.line.worker log.0 c log.2 in
    let s = tell_stands start j tss w log.0 log.1 p.0 p.1 c.line.prefix (prefix_at c.line.worker p.0 c p.2) in
    record {
      snap = subst (λ z. Listed z (snaps_by tss)) (sym p.2.snap) s.0;
      prefix = s.1 ∙ ap (sum_above start) (sym p.2.snap);
    }

-- ---- numbers

pub stamp_path : (a b c d : ℕ) → a ≡ b → c ≡ d → stamp_at a c ≡ stamp_at b d
stamp_path a b c d e f = ap (λ x. stamp_at x c) e ∙ ap (λ y. stamp_at b y) f

-- numbers that follow m are above it
pub number_above : (m : ℕ) (cs : List Published) → NumbersFollow m cs → (c : Published) → Listed c cs
    → m < c.line.number
number_above m [] h c l = elim l [ ]
number_above m (x ∷ cs) h c l = elim l [
  | inl q ↦ omega (arith, h.0, ap (λ z. z.line.number) q)
  | inr r ↦ omega (arith, number_above (suc m) cs h.1 c r)
]

one_number : (m : ℕ) (cs : List Published) → NumbersFollow m cs → (c d : Published) → Listed c cs → Listed d cs
    → c.line.number ≡ d.line.number → c ≡ d
one_number m [] h c d l k e = elim l [ ]
one_number m (x ∷ cs) h c d l k e =
    elim l [
      | inl p ↦ elim k [
        | inl q ↦ sym p ∙ q
        | inr q ↦ absurd (omega (arith, h.0, e, ap (λ z. z.line.number) p, number_above (suc m) cs h.1 d q))
      ]
      | inr p ↦ elim k [
        | inl q ↦ absurd (omega (arith, h.0, e, ap (λ z. z.line.number) q, number_above (suc m) cs h.1 c p))
        | inr q ↦ one_number (suc m) cs h.1 c d p q e
      ]
    ]

-- a stamp names one commit
pub one_stamp : (start j : ℕ) (tss : List (List Tell)) → AreOwned start j tss → (c d : Published)
    → Listed c (published_from j tss)
    → Listed d (published_from j tss) → stamp_of c.line ≡ stamp_of d.line → c ≡ d
one_stamp start j [] w c d l k e = elim l [ ]
one_stamp start j (ts ∷ tss) w c d l k e =
    let same : c.line.worker ≡ d.line.worker = ap (λ s. s.thread) e in
    elim (listed_append_cases (published_of j ts) (published_from (suc j) tss) c l) [
      | inl p ↦ elim (listed_append_cases (published_of j ts) (published_from (suc j) tss) d k) [
        | inl q ↦ one_number start (published_of j ts) w.0.numbers c d p q (ap (λ s. s.number) e)
        | inr q ↦ absurd (omega (arith, same, worker_is j ts c p, worker_from (suc j) tss d q))
      ]
      | inr p ↦ elim (listed_append_cases (published_of j ts) (published_from (suc j) tss) d k) [
        | inl q ↦ absurd (omega (arith, same, worker_is j ts d q, worker_from (suc j) tss c p))
        | inr q ↦ one_stamp start (suc j) tss w.1 c d p q e
      ]
    ]

-- an event publishes nothing, or one commit of its number
abbrev pub Publishes : ℕ → Tell → Event → Type 0
Publishes j t e =
    ((published_at j t e ≡ []) × (commit_in e ≡ None))
    ⊎ ((c : Published) × (published_at j t e ≡ c ∷ []) × (commit_in e ≡ Some c.line.number))

publishes_in : (j : ℕ) (t : Tell) (a : Attempt) (p : Option ℕ) (o : Outcome)
    → (IsTrue (is_some (number_in o)) → IsTrue (is_some p))
    → ((published_in j t a p o ≡ []) × (number_in o ≡ None))
    ⊎ ((c : Published) × (published_in j t a p o ≡ c ∷ []) × (number_in o ≡ Some c.line.number))
publishes_in j t a (Some p) (Commit n) h =
    inr (
      record {
        line = record { worker = j; number = n; prefix = p; txn = a.txn; writes = t.writes };
        snap = t.snap;
        ops = t.ops;
      },
      refl,
      refl,
    )
publishes_in j t a None (Commit n) h = absurd (false≢true (h refl))
publishes_in j t a p o h = inl (refl, refl)

pub publishes : (j : ℕ) (t : Tell) (e : Event) → (IsTrue (is_some (commit_in e)) → IsTrue (is_some (prefix_in e)))
    → Publishes j t e
publishes j t (Tried a) h = publishes_in j t a a.prefix a.outcome h
publishes j t e h = inl (refl, refl)

-- the last number counts the commits
pub last_number-is : (start j last : ℕ) (ts : List Tell) → AllByRecursion (OwnsSnapshot start) ts
    → NumbersFollow last (published_of j ts)
    → last_number last ts ≡ last + length (published_of j ts)
last_number-is start j last [] w n = omega arith
last_number-is start j last (t ∷ ts) w n =
    elim (publishes j t t.event w.0.commit) [
      | inl h ↦ rw (h.0, h.1) (last_number-is start j last ts w.1 (rw h.0 at n))
      | inr h ↦
          let n' : NumbersFollow last (h.0 ∷ published_of j ts) = rw h.1 at n in
          let rest = last_number-is start j (suc last) ts w.1 n'.1 in
          rw (h.1, h.2, n'.0) (omega (arith, rest))
    ]

-- ---- operations

tell_ops : (jobs : List (List Op)) (es : List Event) (rs : List Item) (ls : List Lock) (ws : List Item)
    (ss : List (List ℕ)) (t : Tell)
    → Listed t (tells_from jobs es rs ls ws ss) → t.ops ≡ ops_in jobs t.event
tell_ops jobs [] rs ls ws ss t l = elim l [ ]
tell_ops jobs (e ∷ es) rs ls ws ss t l = elim l [
  | inl q ↦ sym (ap (λ z. z.ops) q) ∙ ap (λ z. ops_in jobs z.event) q
  | inr r ↦ tell_ops jobs es (drop (reads_in e) rs) (drop (locks_in e) ls) (drop (writes_in e) ws)
      (drop (snaps_in e) ss) t r
]

-- a commit's operations are those of its transaction
pub commit_ops : (jobs : List (List Op)) (j : ℕ) (logs : List Log) (c : Published)
    → Listed c (published_from j (map (tells_of jobs) logs))
    → c.ops ≡ slice_index_or jobs (c.line.txn - 1) []
commit_ops jobs j [] c l = elim l [ ]
commit_ops jobs j (log ∷ logs) c l =
    elim (listed_append_cases (published_of j (tells_of jobs log)) (published_from (suc j) (map (tells_of jobs) logs)) c
    l) [
      | inl h ↦
          let r = publishing j (tells_of jobs log) c h in
          let s = r.2 in
          s.ops ∙ tell_ops jobs log.events log.reads log.locks log.writes log.snaps r.0 r.1
          ∙ ap (ops_in jobs) s.event ∙ ap (λ x. slice_index_or jobs (x - 1) []) (sym s.txn)
      | inr h ↦ commit_ops jobs (suc j) logs c h
    ]
