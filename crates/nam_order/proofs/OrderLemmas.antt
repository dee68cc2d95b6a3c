-- The logs' commits are numbered in order, and their snapshots are of what was published, any two of them ordered.
use Rattle.std.proofs.Common.{List, Some, [], ap, arith, inl, inr, length, refl, subst, suc, sym, ℕ}
use Rattle.std.proofs.Common.{◌+◌, ◌<◌, ◌∙◌, ◌∷◌, ◌≡◌, ◌≤◌, ⊎_elim}
use Rattle.std.specs.List.{AllByRecursion}
use Rattle.std.specs.Prelude.{slice_get, slice_index, slice_index_or}
use Rattle.si_model.specs.Causes.{tells_by}
use Rattle.si_model.specs.Commits.{Published}
use Rattle.si_model.specs.Consistency.{AreOwned, HaveOrder, IsWithin, NumbersFollow, OwnsAll, OwnsSnapshot}
use Rattle.si_model.specs.Knowledge.{AreAtMost}
use Rattle.si_model.specs.Tells.{Tell, last_number}
use Rattle.si_model.specs.declared.log.Stamp.{Stamp}
use Rattle.si_law.proofs.GrowthCommits.{last_is}
use Rattle.nam_catalog.specs.declared.shape.Shape.{Shape}
use Rattle.nam_calls.specs.Memory.{memory}
use Rattle.nam_store.specs.Store.{Store}
use Rattle.nam_ghost.specs.Ghost.{Ghost}
use Rattle.nam_ghost.specs.Moments.{AtMost, vector_of}
use Rattle.nam_tells.specs.Teller.{Teller}
use Rattle.nam_told.specs.Commits.{commits_of}
use Rattle.nam_tells.specs.Logs.{logs_cut}
use Rattle.nam_order.specs.OrderLaw.{OrderLaw, RestsOn}
use Rattle.nam_order.proofs.FoundLemmas.{all_logs, got_within, place_within}
use Rattle.nam_order.proofs.GuardsLemmas.{candidate, wide}
use Rattle.nam_order.proofs.WinsLemmas.{publishes}

-- 1. By place

numbers_follow : (n : ℕ) (cs : List Published)
    → ((k : ℕ) (c : Published) → slice_get cs k ≡ Some c → c.line.number ≡ n + k + 1) → NumbersFollow n cs
numbers_follow n [] all = tt
numbers_follow n (c ∷ cs) all =
    let first = all 0 c refl in
    (omega arith, numbers_follow (suc n) cs (λ k d e. let next = all (suc k) d e in omega arith))

are_owned : (start i : ℕ) (tss : List (List Tell))
    → ((n : ℕ) → n < length tss → OwnsAll start (suc (i + n)) (slice_index_or tss n []))
    → AreOwned start (suc i) tss
are_owned start i [] all = tt
are_owned start i (ts ∷ tss) all =
    let same : i + 0 ≡ i = omega arith in (
      subst (λ j. OwnsAll start (suc j) ts) same (all 0 (omega arith)),
      are_owned start (suc i) tss
          (λ n less. let next : i + suc n ≡ suc i + n = omega arith in
          subst (λ j. OwnsAll start (suc j) (slice_index_or tss n [])) next (all (suc n) (omega arith))),
    )

-- one entry for each log, from the start to its last number
abbrev AreEntries : ℕ → List ℕ → List (List Tell) → Type 0
AreEntries start ns tss = (n : ℕ) → n < length tss
    → (start ≤ slice_index ns n) × (slice_index ns n ≤ last_number start (slice_index_or tss n []))

is_within : (start : ℕ) (ns : List ℕ) (tss : List (List Tell)) → length ns ≡ length tss → AreEntries start ns tss
    → IsWithin start ns tss
is_within start [] [] long all = tt
is_within start [] (ts ∷ tss) long all = absurd (omega arith)
is_within start (n ∷ ns) [] long all = absurd (omega arith)
is_within start (n ∷ ns) (ts ∷ tss) long all =
    let first = all 0 (omega arith) in
    (first.0, first.1, is_within start ns tss (omega arith) (λ k less. all (suc k) (omega arith)))

at_most_all : (s t : List ℕ) → length s ≡ length t → AtMost (length s) s t → AreAtMost s t
at_most_all [] t long all = tt
at_most_all (m ∷ s) [] long all = absurd (omega arith)
at_most_all (m ∷ s) (n ∷ t) long all =
    (all 0 (omega arith), at_most_all s t (omega arith) (λ a less. all (suc a) (omega arith)))

-- 2. A store

module _ (shape : Shape) (store : Store) (tellers : ℕ → Teller) (ghost : Ghost)
    (rests : RestsOn shape store ghost tellers)
    (owns : (nth : ℕ) → nth < shape.workers
    → AllByRecursion (OwnsSnapshot shape.start) (tells_by (suc nth) (logs_cut shape tellers store))) where
  abbrev tss : List (List Tell)
  tss = logs_cut shape tellers store

  follows : (nth : ℕ) → nth < shape.workers → NumbersFollow shape.start (commits_of tss nth)
  follows nth less =
      numbers_follow shape.start (commits_of tss nth)
      (λ k c e.
      let count = rests.commits.count nth less in
      let place = place_within (commits_of tss nth) k c e in
      let commit = got_within (ghost.published nth) k (omega arith) in
      let is = rests.commits.each nth k less commit.0 c commit.1 e in
      let stamp = (publishes shape store tellers ghost rests nth less).1.1.stamped k commit.0 commit.1 in
      ap (λ (s : Stamp). s.number) (is.stamp_is ∙ stamp))

  -- the vector's entry is the log's last number
  last_entry : (nth : ℕ) → nth < shape.workers
      → last_number shape.start (tells_by (suc nth) tss) ≡ vector_of (memory shape store.words) nth
  last_entry nth less =
      let last = last_is shape.start (suc nth) shape.start (tells_by (suc nth) tss) (owns nth less)
      (follows nth less) in
      let count = rests.commits.count nth less in
      let at = publishes shape store tellers ghost rests nth less in
      let all = at.1.1.all in
      let entry = (rests.moments.each nth at.0 at.1.0).entry in
      omega arith

  ordered : HaveOrder shape.start tss
  ordered =
      let workers = rests.base.workers in
      let long = all_logs shape store tellers workers in
      record {
        owned = are_owned shape.start 0 tss
            (λ n less. let same : n ≡ 0 + n = omega arith in
            subst (λ j. OwnsAll shape.start (suc j) (slice_index_or tss n [])) same
            (record { snapshots = owns n (omega arith); numbers = follows n (omega arith) }));
        within = λ snap listed.
            let count = wide shape store tellers ghost rests snap listed in
            is_within shape.start snap tss (omega arith)
            (λ n less.
            let found = rests.moments.moments.within snap shape.workers
            (candidate shape store tellers ghost rests snap listed) n (omega arith) in
            let last = last_entry n (omega arith) in
            (found.0, omega (arith, found.1)));
        ordered = λ a b first second.
            let long_a = wide shape store tellers ghost rests a first in
            let long_b = wide shape store tellers ghost rests b second in
            ⊎_elim (λ most. inl (at_most_all a b (omega arith) (subst (λ n. AtMost n a b) (sym long_a) most)))
            (λ most. inr (at_most_all b a (omega arith) (subst (λ n. AtMost n b a) (sym long_b) most)))
            (rests.moments.moments.ordered a b shape.workers shape.workers
            (candidate shape store tellers ghost rests a first) (candidate shape store tellers ghost rests b second)
            (λ n from less. absurd (omega arith)) (λ n from less. absurd (omega arith)));
      }

pub order_law : OrderLaw
order_law = ordered
