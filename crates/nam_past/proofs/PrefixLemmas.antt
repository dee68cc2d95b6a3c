-- What the moment of a snapshot that was taken comes to: which stamps it contains, and how many they are.
use Rattle.std.proofs.Common.{List, Some, ap, arith, drop, inl, inr, length, subst, suc, take, true, ℕ, ⊎_elim, ◌+◌}
use Rattle.std.proofs.Common.{◌-◌, ◌<◌, ◌^◌, ◌∙◌, ◌≡◌, ◌≤◌}
use Rattle.std.proofs.lemmas.Bool.{cases_lt}
use Rattle.std.proofs.lemmas.List.{length-take-le, take-append-drop}
use Rattle.std.proofs.lemmas.Nat.{mul-le}
use Rattle.std.specs.Prelude.{slice_get, slice_index}
use Rattle.nam_catalog.specs.declared.shape.Shape.{Shape}
use Rattle.nam_ghost.proofs.ListLemmas.{got_front}
use Rattle.nam_ghost.proofs.SnapshotLemmas.{entry_small, greatest_small, taken_candidate, taken_found, taken_wide}
use Rattle.nam_ghost.proofs.VisibleLemmas.{sees_by, sees_says, visible_says}
use Rattle.nam_ghost.specs.Moments.{AreFound, IsTaken, entry_in}
use Rattle.nam_header.specs.Visible.{IsLoaders, IsReached, is_visible}
use Rattle.nam_past.proofs.CountLemmas.{after_next, after_rises, stands}
use Rattle.nam_past.proofs.SumLemmas.{all_counted, prefix_sum, sum_entries, sum_most, sum_over}
use Rattle.nam_past.specs.Past.{IsNext, PastOk, count_of, entry_after}
use Rattle.nam_past.specs.PastLaw.{RestsOn}
use Rattle.nam_past.specs.PrefixLaw.{AllLaw, ContainsLaw, IsPrefix, MomentLaw, SumLaw}
use Rattle.nam_protocol.specs.Log.{prefix_of}
use Rattle.nam_store.specs.Store.{Store}
use Rattle.si_model.specs.Snapshots.{sum_above}
use Rattle.si_model.specs.declared.log.Stamp.{Stamp}

module _ (shape : Shape) (store : Store) (rests : RestsOn shape store) (order : List Stamp)
    (past : PastOk shape store order) where
  pub taken_moment : (s : List ℕ) → IsTaken store s → (count : ℕ) × IsPrefix shape order s count
  taken_moment s taken =
      let has = past.moments s shape.workers (taken_candidate store shape.workers s taken) in
      (has.count, record { within = has.within; entries = has.same })

  -- 1. What the order says of a stamp

  -- whose it is
  module _ (place : ℕ) (stamp : Stamp) (at : slice_get order place ≡ Some stamp) where
    next : IsNext shape.start shape.workers order place stamp
    next = past.numbered place stamp at

    thread_is : stamp.thread ≡ next.worker + 1
    thread_is = ap (λ (x : Stamp). x.thread) next.stamp_is

    number_is : stamp.number ≡ entry_after shape.start order place next.worker + 1
    number_is = ap (λ (x : Stamp). x.number) next.stamp_is

    number_by : (worker : ℕ) → stamp.thread ≡ worker + 1
        → stamp.number ≡ entry_after shape.start order place worker + 1
    number_by worker thread =
        let own = thread_is in
        let same : next.worker ≡ worker = omega arith in
        subst (λ w. stamp.number ≡ entry_after shape.start order place w + 1) same number_is

  -- 2. A snapshot and its moment

  module _ (s : List ℕ) (taken : IsTaken store s) (count : ℕ) (is : IsPrefix shape order s count) where
    wide : length s ≡ shape.workers
    wide = taken_wide shape store rests.moments s taken

    found : AreFound shape.start (entry_in shape store) shape.workers s
    found = taken_found shape store rests.moments s taken

    pub sees_front : (place : ℕ) (stamp : Stamp) → slice_get order place ≡ Some stamp → place < count
        → is_visible stamp s ≡ true
    sees_front place stamp at less =
        let by = next place stamp at in
        let thread = thread_is place stamp at in
        let number = number_is place stamp at in
        let inside = by.inside in
        let long = wide in
        let entry = is.entries by.worker by.inside in
        let step = after_next shape.start order place by.worker stamp at thread in
        let rises = after_rises shape.start order (suc place) count by.worker (omega arith) in
        sees_by stamp by.worker s thread (omega arith) (omega arith)

    pub front_seen : (place : ℕ) (stamp : Stamp) → slice_get order place ≡ Some stamp → is_visible stamp s ≡ true
        → place < count
    front_seen place stamp at sees = elim (cases_lt place count) [
      | inl less ↦ less
      | inr behind ↦
          let by = next place stamp at in
          let thread = thread_is place stamp at in
          let number = number_is place stamp at in
          let entry = is.entries by.worker by.inside in
          let says = (sees_says stamp by.worker s thread sees).1 in
          let rises = after_rises shape.start order count place by.worker behind in
          absurd (omega arith)
    ]

    -- a number of a worker that it sees stands in the front
    reached_stands : (stamp : Stamp) (worker : ℕ) → worker < shape.workers → stamp.thread ≡ worker + 1
        → shape.start < stamp.number → stamp.number ≤ slice_index s worker
        → (place : ℕ) × (place < count) × (slice_get order place ≡ Some stamp)
    reached_stands stamp worker inside thread above reached =
        let entry = is.entries worker inside in
        let at = stands order worker count (stamp.number - shape.start - 1) (omega arith) in
        let own = at.thread in
        let others = at.others in
        let number = number_by at.place at.stamp at.is worker at.thread in
        let same_thread : at.stamp.thread ≡ stamp.thread = omega arith in
        let same_number : at.stamp.number ≡ stamp.number = omega arith in
        (at.place, at.within, at.is ∙ (λ t. Some (record { thread = same_thread t; number = same_number t })))

    pub all_stand : (stamp : Stamp) → is_visible stamp s ≡ true → shape.start < stamp.number
        → (place : ℕ) × (place < count) × (slice_get order place ≡ Some stamp)
    all_stand stamp sees above =
        ⊎_elim (λ (loaders : IsLoaders stamp). let none = loaders.1 in absurd (omega arith))
        (λ (reached : IsReached stamp s).
        let some = reached.0 in
        let few = reached.1 in
        let long = wide in
        reached_stands stamp (stamp.thread - 1) (omega arith) (omega arith) above reached.2)
        (visible_says stamp s sees)

    -- 3. Their number

    pub sum_is : sum_above shape.start s ≡ count
    sum_is =
        let front = take count order in
        let entries = sum_entries shape.start (λ a. count_of a front) s 0
        (λ a b less same. is.entries a (let long = wide in omega arith)
        ∙ ap (λ w. shape.start + count_of w front) (omega (arith, same))) in
        let counted = all_counted front shape.workers
        (λ place stamp at.
        let there = subst (λ (xs : List Stamp). slice_get xs place ≡ Some stamp) (take-append-drop count order)
        (got_front front (drop count order) place stamp at) in
        record {
          worker = (next place stamp there).worker;
          inside = (next place stamp there).inside;
          thread = thread_is place stamp there;
        }) in
        entries ∙ ap (sum_over (λ a. count_of a front) 0) wide ∙ counted ∙ length-take-le count order is.within

    pub prefix_is : prefix_of shape.start s ≡ count
    prefix_is =
        let long = wide in
        let workers = rests.base.limits.most_workers in
        let start = rests.base.limits.start in
        let small = greatest_small shape.form in
        let most = sum_most shape.start (2 ^ 45) s
        (λ a less. let most = (found a (omega arith)).1 in
        let entry = entry_small shape store rests.base rests.moments a (omega arith) in
        omega arith) in
        let product = mul-le (length s) (2 ^ 45) 16 (2 ^ 45) (omega arith) (omega arith) in
        prefix_sum shape.start s (omega arith) (λ a less. (found a (omega arith)).0) (omega arith) ∙ sum_is

-- 4. The laws

pub moment_law : MomentLaw
moment_law shape store order rests past = taken_moment shape store rests order past

pub contains_law : ContainsLaw
contains_law shape store order rests past s taken count is place stamp at = (
  front_seen shape store rests order past s taken count is place stamp at,
  sees_front shape store rests order past s taken count is place stamp at,
)

pub all_law : AllLaw
all_law shape store order rests past = all_stand shape store rests order past

pub sum_law : SumLaw
sum_law shape store order rests past s taken count is =
    (sum_is shape store rests order past s taken count is, prefix_is shape store rests order past s taken count is)
