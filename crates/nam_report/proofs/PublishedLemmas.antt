-- Published commits: their workers, numbers and operations, and how many a snapshot has.
use Rattle.std.proofs.Common.{◌≡◌, ℕ, suc, ◌+◌, ◌-◌, ◌<◌, ◌≤◌, Bool, false, inl, inr, List, [], ◌∷◌, ◌++◌}
use Rattle.std.proofs.Common.{get_or, take, drop, map, refl, arith, Option, Some}
use Rattle.std.specs.Prelude.{slice_index_or}
use Rattle.std.specs.List.{AllByRecursion, IsDistinct}
use Rattle.std.proofs.lemmas.Bool.Decides.{nat_tests}
use Rattle.si_model.specs.declared.row.Item.{Item}
use Rattle.si_model.specs.declared.op.Op.{Op}
use Rattle.si_model.specs.declared.log.Lock.{Lock}
use Rattle.si_model.specs.declared.log.Attempt.{Attempt}
use Rattle.si_model.specs.declared.log.Outcome.{Outcome}
use Rattle.si_model.specs.declared.log.Outcome.TheVariants.{Commit}
use Rattle.si_model.specs.declared.log.Event.{Event}
use Rattle.si_model.specs.declared.log.Event.TheVariants.{Tried}
use Rattle.si_model.specs.declared.log.Log.{Log}
use Rattle.si_model.specs.Lists.{Listed, Pairwise}
use Rattle.si_model.specs.History.{stamp_of, same_stamp}
use Rattle.si_model.specs.Tells.{Tell, tells_from, tells_of, ops_in, reads_in, locks_in, writes_in, snaps_in}
use Rattle.si_model.specs.Commits.{Published, published_in, published_at, published_of, published_from}
use Rattle.si_model.specs.Consistency.{NumbersFollow, AreOwned}
use Rattle.si_model.proofs.ListLemmas.{All-listed, All-from_listed, All-append}

-- ---- the worker

worker_in : (j : ℕ) (t : Tell) (a : Attempt) (p : Option ℕ) (o : Outcome)
    → AllByRecursion (λ c. c.line.worker ≡ j) (published_in j t a p o)
worker_in j t a (Some p) (Commit n) = (refl, tt)
worker_in j t a p o = tt

worker_at : (j : ℕ) (t : Tell) (e : Event) → AllByRecursion (λ c. c.line.worker ≡ j) (published_at j t e)
worker_at j t (Tried a) = worker_in j t a a.prefix a.outcome
worker_at j t e = tt

pub worker_of : (j : ℕ) (ts : List Tell) → AllByRecursion (λ c. c.line.worker ≡ j) (published_of j ts)
worker_of j [] = tt
worker_of j (t ∷ ts) =
    All-append (λ c. c.line.worker ≡ j) (published_at j t t.event) (published_of j ts) (worker_at j t t.event)
    (worker_of j ts)

pub worker_from : (j : ℕ) (tss : List (List Tell)) → AllByRecursion (λ c. j ≤ c.line.worker) (published_from j tss)
worker_from j [] = tt
worker_from j (ts ∷ tss) =
    All-append (λ c. j ≤ c.line.worker) (published_of j ts) (published_from (suc j) tss)
    (All-from_listed (λ c. j ≤ c.line.worker) (published_of j ts)
    (λ c l. omega (arith, All-listed (λ c. c.line.worker ≡ j) (published_of j ts) c (worker_of j ts) l)))
    (All-from_listed (λ c. j ≤ c.line.worker) (published_from (suc j) tss)
    (λ c l. omega (
      arith,
      All-listed (λ c. suc j ≤ c.line.worker) (published_from (suc j) tss) c
          (worker_from (suc j) tss) l,
    )))

-- ---- the operations

abbrev pub HasOps : List (List Op) → Published → Type 0
HasOps jobs c = c.ops ≡ slice_index_or jobs (c.line.txn - 1) []

ops_in_attempt : (jobs : List (List Op)) (j : ℕ) (t : Tell) (a : Attempt) (p : Option ℕ) (o : Outcome)
    → t.ops ≡ slice_index_or jobs (a.txn - 1) [] → AllByRecursion (HasOps jobs) (published_in j t a p o)
ops_in_attempt jobs j t a (Some p) (Commit n) h = (h, tt)
ops_in_attempt jobs j t a p o h = tt

ops_at : (jobs : List (List Op)) (j : ℕ) (t : Tell) (e : Event) → t.ops ≡ ops_in jobs e
    → AllByRecursion (HasOps jobs) (published_at j t e)
ops_at jobs j t (Tried a) h = ops_in_attempt jobs j t a a.prefix a.outcome h
ops_at jobs j t e h = tt

ops_of : (jobs : List (List Op)) (j : ℕ) (es : List Event) (rs : List Item) (ls : List Lock) (ws : List Item)
    (ss : List (List ℕ))
    → AllByRecursion (HasOps jobs) (published_of j (tells_from jobs es rs ls ws ss))
ops_of jobs j [] rs ls ws ss = tt
ops_of jobs j (e ∷ es) rs ls ws ss =
    let t : Tell = record {
      event = e;
      ops = ops_in jobs e;
      reads = take (reads_in e) rs;
      locks = take (locks_in e) ls;
      writes = take (writes_in e) ws;
      snap = get_or (take (snaps_in e) ss) 0 [];
    } in
    All-append (HasOps jobs) (published_at j t e)
    (published_of j (tells_from jobs es (drop (reads_in e) rs) (drop (locks_in e) ls) (drop (writes_in e) ws)
    (drop (snaps_in e) ss)))
    (ops_at jobs j t e refl) (ops_of jobs j es (drop (reads_in e) rs) (drop (locks_in e) ls) (drop (writes_in e) ws)
    (drop (snaps_in e) ss))

-- published commits have their transactions' operations
pub ops_from : (jobs : List (List Op)) (j : ℕ) (logs : List Log)
    → AllByRecursion (HasOps jobs) (published_from j (map (tells_of jobs) logs))
ops_from jobs j [] = tt
ops_from jobs j (log ∷ logs) =
    All-append (HasOps jobs) (published_of j (tells_of jobs log)) (published_from (suc j) (map (tells_of jobs) logs))
    (ops_of jobs j log.events log.reads log.locks log.writes log.snaps) (ops_from jobs (suc j) logs)

-- ---- each stamp once

abbrev pub Apart : Published → Published → Type 0
Apart c d = same_stamp (stamp_of c.line) (stamp_of d.line) ≡ false

pub numbers_above : (m : ℕ) (cs : List Published) → NumbersFollow m cs → AllByRecursion (λ c. m < c.line.number) cs
numbers_above m [] h = tt
numbers_above m (c ∷ cs) h = (
  omega (arith, h.0),
  All-from_listed (λ d. m < d.line.number) cs
      (λ d l. omega (arith, All-listed (λ d. suc m < d.line.number) cs d (numbers_above (suc m) cs h.1) l)),
)

apart_number : (c d : Published) → c.line.number < d.line.number → Apart c d
apart_number c d h = grind (arith, nat_tests)

apart_worker : (c d : Published) → c.line.worker < d.line.worker → Apart c d
apart_worker c d h = grind (arith, nat_tests)

apart_numbers : (m : ℕ) (cs : List Published) → NumbersFollow m cs → Pairwise Apart cs
apart_numbers m [] h = tt
apart_numbers m (c ∷ cs) h = (
  All-from_listed (Apart c) cs (λ d l. apart_number c d
      (omega (arith, h.0, All-listed (λ d. suc m < d.line.number) cs d (numbers_above (suc m) cs h.1) l))),
  apart_numbers (suc m) cs h.1,
)

Pairwise-append : {X : Type 0} (R : X → X → Type 0) (xs ys : List X) → Pairwise R xs → Pairwise R ys
    → ((x y : X) → Listed x xs → Listed y ys → R x y) → Pairwise R (xs ++ ys)
Pairwise-append R [] ys h k cross = k
Pairwise-append R (x ∷ xs) ys h k cross = (
  All-append (R x) xs ys h.0 (All-from_listed (R x) ys (λ y l. cross x y (inl refl) l)),
  Pairwise-append R xs ys h.1 k (λ a b la lb. cross a b (inr la) lb),
)

pub apart_from : (start j : ℕ) (tss : List (List Tell)) → AreOwned start j tss → Pairwise Apart (published_from j tss)
apart_from start j [] owned = tt
apart_from start j (ts ∷ tss) owned =
    Pairwise-append Apart (published_of j ts) (published_from (suc j) tss)
    (apart_numbers start (published_of j ts) owned.0.numbers) (apart_from start (suc j) tss owned.1)
    (λ c d lc ld. apart_worker c d (omega (
      arith,
      All-listed (λ c. c.line.worker ≡ j) (published_of j ts) c (worker_of j ts) lc,
      All-listed (λ c. suc j ≤ c.line.worker) (published_from (suc j) tss) d (worker_from (suc j) tss) ld,
    )))

pub distinct_from_pairs : {X : Type 0} (e : X → X → Bool) (xs : List X) → Pairwise (λ x y. e x y ≡ false) xs
    → IsDistinct e xs
unfolding IsDistinct
distinct_from_pairs e [] h = tt
distinct_from_pairs e (x ∷ xs) h = (h.0, distinct_from_pairs e xs h.1)

pub pairs_from_distinct : {X : Type 0} (e : X → X → Bool) (xs : List X) → IsDistinct e xs
    → Pairwise (λ x y. e x y ≡ false) xs
unfolding IsDistinct
pairs_from_distinct e [] h = tt
pairs_from_distinct e (x ∷ xs) h = (h.0, pairs_from_distinct e xs h.1)
