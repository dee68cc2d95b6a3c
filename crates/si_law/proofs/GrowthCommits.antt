-- The commits of a log: what each of its events publishes, and in which order.
use Rattle.std.proofs.Common.{◌≡◌, ◌≢◌, ℕ, suc, ◌+◌, ◌≤◌, Bool, true, false, cond, inl, inr, List, [], ◌∷◌, ◌++◌}
use Rattle.std.proofs.Common.{length, refl, ap, sym, ◌∙◌, subst, arith, Option, Some, None}
use Rattle.std.specs.Prelude.{is_some, unwrap_or, slice_index_or}
use Rattle.std.specs.List.{AllByRecursion}
use Rattle.std.proofs.lemmas.Bool.{true≢false}
use Rattle.std.proofs.lemmas.List.{append_assoc}
use Rattle.si_model.specs.declared.log.Attempt.{Attempt}
use Rattle.si_model.specs.declared.log.Outcome.{Outcome}
use Rattle.si_model.specs.declared.log.Outcome.TheVariants.{Commit}
use Rattle.si_model.specs.declared.log.Event.{Event}
use Rattle.si_model.specs.declared.log.Event.TheVariants.{Tried}
use Rattle.si_model.specs.Lists.{Listed}
use Rattle.si_model.specs.Tells.{Tell, prefix_in, number_in, commit_in, last_number}
use Rattle.si_model.specs.Commits.{Published, published_in, published_at, published_of, published_from, snaps_of}
use Rattle.si_model.specs.Commits.{snaps_by}
use Rattle.si_model.specs.Consistency.{OwnsSnapshot, NumbersFollow, AreOwned}
use Rattle.si_law.specs.Growth.{IsNoCommit}
use Rattle.si_model.proofs.ListLemmas.{listed_append_cases, listed_append_left, listed_append_right}
use Rattle.si_law.proofs.GrowthEnds.{listed_snap}

Some≢None : {X : Type 0} (x : X) → Some x ≢ None
Some≢None x e = true≢false (ap is_some e)

Some-says : (m n : ℕ) → Some m ≡ Some n → m ≡ n
Some-says m n e = ap (λ o. unwrap_or o 0) e

-- ---- one event

silent_in : (j : ℕ) (t : Tell) (a : Attempt) (p : Option ℕ) (o : Outcome) → number_in o ≡ None
    → published_in j t a p o ≡ []
silent_in j t a p (Commit n) e = absurd (Some≢None n e)
silent_in j t a None o e = refl
silent_in j t a (Some p) o e = refl

silent_at : (j : ℕ) (t : Tell) (event : Event) → commit_in event ≡ None → published_at j t event ≡ []
silent_at j t (Tried a) e = silent_in j t a a.prefix a.outcome e
silent_at j t event e = refl

-- the event is an attempt that committed on a prefix
pub record IsCommitOn (t : Tell) (a : Attempt) (p n : ℕ) : Type 0 where
  pub tried : t.event ≡ Tried a
  pub prefix : a.prefix ≡ Some p
  pub outcome : a.outcome ≡ Commit n

-- what such an attempt of worker j publishes
abbrev pub published_on : ℕ → Tell → Attempt → ℕ → ℕ → Published
published_on j t a p n = record {
  line = record { worker = j; number = n; prefix = p; txn = a.txn; writes = t.writes };
  snap = t.snap;
  ops = t.ops;
}

prefix_on : (p : Option ℕ) → is_some p ≡ true → (q : ℕ) × (p ≡ Some q)
prefix_on None h = absurd (true≢false (sym h))
prefix_on (Some q) h = (q, refl)

outcome_on : (o : Outcome) (n : ℕ) → number_in o ≡ Some n → o ≡ Commit n
outcome_on (Commit k) n e = ap Commit (Some-says k n e)
outcome_on o n e = absurd (Some≢None n (sym e))

commit_on : (t : Tell) (event : Event) (n : ℕ) → t.event ≡ event → commit_in event ≡ Some n
    → is_some (prefix_in event) ≡ true →
    (a : Attempt) × (p : ℕ) × IsCommitOn t a p n
commit_on t (Tried a) n is commits some =
    let p = prefix_on a.prefix some in
    (a, p.0, record { tried = is; prefix = p.1; outcome = outcome_on a.outcome n commits })
commit_on t event n is commits some = absurd (Some≢None n (sym commits))

published_there : (j : ℕ) (t : Tell) (a : Attempt) (p n : ℕ) → IsCommitOn t a p n
    → published_at j t t.event ≡ published_on j t a p n ∷ []
published_there j t a p n h =
    ap (published_at j t) h.tried ∙ ap (λ q. published_in j t a q a.outcome) h.prefix
    ∙ ap (published_in j t a (Some p)) h.outcome

-- a commit of an owned snapshot is an attempt on a prefix
pub owned_commit : (start : ℕ) (t : Tell) (n : ℕ) → OwnsSnapshot start t → commit_in t.event ≡ Some n → (a : Attempt)
    × (p : ℕ) × IsCommitOn t a p n
owned_commit start t n owns e = commit_on t t.event n refl e (owns.commit (ap is_some e))

-- an event publishes nothing, or one commit
data EventCases (j : ℕ) (t : Tell) : Type 0 where
  is_silent : commit_in t.event ≡ None → published_at j t t.event ≡ [] → EventCases j t
  is_commit : (a : Attempt) (p n : ℕ) → IsCommitOn t a p n → commit_in t.event ≡ Some n
      → published_at j t t.event ≡ published_on j t a p n ∷ [] →
      EventCases j t

event_cases : (start j : ℕ) (t : Tell) → OwnsSnapshot start t → EventCases j t
event_cases start j t owns = by_number (commit_in t.event) refl
  where
    by_number : (c : Option ℕ) → commit_in t.event ≡ c → EventCases j t
    by_number None e = is_silent e (silent_at j t t.event e)
    by_number (Some n) e = let h = owned_commit start t n owns e in
        is_commit h.0 h.1 n h.2 e (published_there j t h.0 h.1 n h.2)

-- ---- the events of a log

pub published_of-append : (j : ℕ) (xs ys : List Tell) → published_of j (xs ++ ys) ≡ published_of j xs
    ++ published_of j ys
published_of-append j [] ys = refl
published_of-append j (x ∷ xs) ys =
    ap (λ cs. published_at j x x.event ++ cs) (published_of-append j xs ys)
    ∙ sym (append_assoc (published_at j x x.event) (published_of j xs) (published_of j ys))

pub silent_published : (j : ℕ) (ts : List Tell) → AllByRecursion IsNoCommit ts → published_of j ts ≡ []
silent_published j [] h = refl
silent_published j (t ∷ ts) h = rw (silent_at j t t.event h.0) (silent_published j ts h.1)

pub silent_last : (n : ℕ) (ts : List Tell) → AllByRecursion IsNoCommit ts → last_number n ts ≡ n
silent_last n [] h = refl
silent_last n (t ∷ ts) h = ap (λ c. last_number (unwrap_or c n) ts) h.0 ∙ silent_last n ts h.1

-- a commit, and what follows it
pub commit_published : (j : ℕ) (t : Tell) (rest : List Tell) (a : Attempt) (p n : ℕ) → IsCommitOn t a p n
    → AllByRecursion IsNoCommit rest →
    published_of j (t ∷ rest) ≡ published_on j t a p n ∷ []
commit_published j t rest a p n is silent =
    ap (λ cs. cs ++ published_of j rest) (published_there j t a p n is)
    ∙ ap (λ cs. published_on j t a p n ∷ cs) (silent_published j rest silent)

pub commit_last : (k n : ℕ) (t : Tell) (rest : List Tell) → commit_in t.event ≡ Some n → AllByRecursion IsNoCommit rest
    → last_number k (t ∷ rest) ≡ n
commit_last k n t rest e silent = ap (λ c. last_number (unwrap_or c k) rest) e ∙ silent_last n rest silent

-- the last number is as far on as commits are listed
pub last_is : (start j n : ℕ) (ts : List Tell) → AllByRecursion (OwnsSnapshot start) ts
    → NumbersFollow n (published_of j ts) →
    last_number n ts ≡ n + length (published_of j ts)
last_is start j n [] owns follow = omega arith
last_is start j n (t ∷ ts) owns follow = elim (event_cases start j t owns.0) [
  | is_silent none nothing ↦
      let rest = last_is start j n ts owns.1 (subst (λ cs. NumbersFollow n (cs ++ published_of j ts)) nothing follow) in
      ap (λ c. last_number (unwrap_or c n) ts) none ∙ rest
      ∙ ap (λ cs. n + length (cs ++ published_of j ts)) (sym nothing)
  | is_commit a p k is number one ↦
      let h : NumbersFollow n (published_on j t a p k ∷ published_of j ts) =
      subst (λ cs. NumbersFollow n (cs ++ published_of j ts)) one follow in
      let rest = last_is start j (suc n) ts owns.1 h.1 in
      let here : last_number n (t ∷ ts) ≡ last_number (suc n) ts =
      ap (λ c. last_number (unwrap_or c n) ts) number ∙ ap (λ m. last_number m ts) h.0 in
      let count : length (published_of j (t ∷ ts)) ≡ suc (length (published_of j ts)) =
      ap (λ cs. length (cs ++ published_of j ts)) one in
      omega (arith, here, rest, count)
]

-- ---- numbers that follow

pub follow_append : (n : ℕ) (cs : List Published) (c : Published) → NumbersFollow n cs
    → c.line.number ≡ suc (n + length cs) →
    NumbersFollow n (cs ++ c ∷ [])
follow_append n [] c h e = (omega (arith, e), tt)
follow_append n (d ∷ cs) c h e = (h.0, follow_append (suc n) cs c h.1 (omega (arith, e)))

follow_below : (n : ℕ) (cs : List Published) (d : Published) → NumbersFollow n cs → Listed d cs
    → d.line.number ≤ n + length cs
follow_below n [] d h l = elim l [ ]
follow_below n (c ∷ cs) d h l = elim l [
  | inl e ↦ omega (arith, h.0, ap (λ z. z.line.number) e)
  | inr r ↦ omega (arith, follow_below (suc n) cs d h.1 r)
]

-- ---- members

record IsOf (j : ℕ) (t : Tell) (event : Event) (c : Published) : Type 0 where
  worker : c.line.worker ≡ j
  snap : t.snap ≡ c.snap
  some : is_some (prefix_in event) ≡ true

of_in : (j : ℕ) (t : Tell) (a : Attempt) (c : Published) (p : Option ℕ) (o : Outcome)
    → Listed c (published_in j t a p o) →
    (c.line.worker ≡ j) × (t.snap ≡ c.snap) × (is_some p ≡ true)
of_in j t a c None o l = elim l [ ]
of_in j t a c (Some p) (Commit n) l = elim l [
  | inl e ↦ (sym (ap (λ z. z.line.worker) e), ap (λ z. z.snap) e, refl)
  | inr r ↦ elim r [ ]
]
of_in j t a c (Some p) o l = elim l [ ]

of_at : (j : ℕ) (t : Tell) (c : Published) (event : Event) → Listed c (published_at j t event) → IsOf j t event c
of_at j t c (Tried a) l = let h = of_in j t a c a.prefix a.outcome l in record { worker = h.0; snap = h.1; some = h.2 }
of_at j t c event l = elim l [ ]

of_log : (j : ℕ) (ts : List Tell) (c : Published) → Listed c (published_of j ts) → (c.line.worker ≡ j)
    × Listed c.snap (snaps_of ts)
of_log j [] c l = elim l [ ]
of_log j (t ∷ ts) c l = elim (listed_append_cases (published_at j t t.event) (published_of j ts) c l) [
  | inl a ↦
      let h = of_at j t c t.event a in
      let p = prefix_on (prefix_in t.event) h.some in
      (h.worker, subst (λ ns. Listed ns (snaps_of (t ∷ ts))) h.snap (listed_snap t (t ∷ ts) p.0 (inl refl) p.1))
  | inr b ↦
      let h = of_log j ts c b in
      (h.0, longer t ts c.snap (is_some (prefix_in t.event)) h.1)
]
  where
    longer : (t : Tell) (ts : List Tell) (ns : List ℕ) (b : Bool) → Listed ns (snaps_of ts)
        → Listed ns (cond b (t.snap ∷ snaps_of ts) (snaps_of ts))
    longer t ts ns true m = inr m
    longer t ts ns false m = m

-- a commit's snapshot is listed
pub published_snap : (k : ℕ) (tss : List (List Tell)) (c : Published) → Listed c (published_from k tss)
    → Listed c.snap (snaps_by tss)
published_snap k [] c l = elim l [ ]
published_snap k (ts ∷ tss) c l = elim (listed_append_cases (published_of k ts) (published_from (suc k) tss) c l) [
  | inl a ↦ listed_append_left (snaps_of ts) (snaps_by tss) c.snap (of_log k ts c a).1
  | inr b ↦ listed_append_right (snaps_of ts) (snaps_by tss) c.snap (published_snap (suc k) tss c b)
]

-- a commit's number is at most its worker's last
pub published_number : (start k : ℕ) (tss : List (List Tell)) (c : Published) → AreOwned start k tss
    → Listed c (published_from k tss) →
    (i : ℕ) × (c.line.worker ≡ k + i) × (c.line.number ≤ last_number start (slice_index_or tss i []))
published_number start k [] c owned l = elim l [ ]
published_number start k (ts ∷ tss) c owned l =
    elim (listed_append_cases (published_of k ts) (published_from (suc k) tss) c l) [
      | inl a ↦
          let below = follow_below start (published_of k ts) c owned.0.numbers a in
          let last = last_is start k start ts owned.0.snapshots owned.0.numbers in
          (0, omega (arith, (of_log k ts c a).0), omega (arith, below, last))
      | inr b ↦ let h = published_number start (suc k) tss c owned.1 b in (suc h.0, omega (arith, h.1), h.2)
    ]
