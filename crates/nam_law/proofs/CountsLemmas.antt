-- A chain has fewer versions than the sum of the vector's entries, so its count never wraps.
use Rattle.std.proofs.Common.{Bool, arith, false, length, map, refl, subst, suc, sym, true, zero, ℕ, ⊎_elim, ◌+◌, ◌-◌}
use Rattle.std.proofs.Common.{◌<◌, ◌∙◌, ◌≡◌, ◌≤◌}
use Rattle.std.proofs.Math.Nat.{mod-eq_of_lt}
use Rattle.std.proofs.lemmas.Nat.{mul-le}
use Rattle.std.proofs.lemmas.Option.{slice_get_within}
use Rattle.std.specs.Prelude.{slice_index, ◌^◌}
use Rattle.nam_calls.specs.Memory.{memory}
use Rattle.nam_catalog.specs.Greatest.{greatest_number}
use Rattle.nam_catalog.specs.declared.shape.Shape.{Shape}
use Rattle.nam_ghost.proofs.ChainLemmas.{pairs_got}
use Rattle.nam_ghost.proofs.ListLemmas.{got_end}
use Rattle.nam_ghost.proofs.ObserverLemmas.{observed_client}
use Rattle.nam_ghost.proofs.SnapshotLemmas.{entry_small, greatest_small, taken_found, taken_ordered, taken_wide}
use Rattle.nam_ghost.proofs.VisibleLemmas.{sees_says}
use Rattle.nam_ghost.specs.Chains.{ChainOk, IsSeenBy, WrittenBy}
use Rattle.nam_ghost.specs.Ghost.{Ghost}
use Rattle.nam_ghost.specs.Law.{GroundOk}
use Rattle.nam_ghost.specs.Moments.{AtMost, IsTaken, Observer, observer_of}
use Rattle.nam_ghost.specs.Versions.{Chain, IsNth, Version, current_number, versions}
use Rattle.nam_header.specs.Header.{flag}
use Rattle.nam_law.proofs.CountLemmas.{total, total_most, total_rises}
use Rattle.nam_law.specs.CountsLaw.{CountsLaw, RoomLaw}
use Rattle.nam_layout.specs.Address.{IsRow}
use Rattle.nam_layout.specs.Rows.{width_at}
use Rattle.nam_layout.specs.declared.field.Field.TheVariants.{Count}
use Rattle.nam_store.proofs.Lists.{some_within}
use Rattle.nam_store.specs.Everyone.{Someone}
use Rattle.nam_store.specs.Store.{Store}
use Rattle.si_model.specs.Lists.{Listed}

module _ (shape : Shape) (store : Store) (ghost : Ghost) (ground : GroundOk shape store ghost) (row : ℕ)
    (is_row : IsRow shape row) where
  abbrev chain : Chain
  chain = ghost.chains row

  abbrev ok : ChainOk (width_at shape.tables row) (map observer_of store.clients) (ghost.chains row)
  ok = ground.chains row is_row

  -- the snapshot of each version's writer was taken, before the version was published
  record Comes (version : Version) : Type 0 where
    worker : ℕ
    inside : worker < shape.workers
    thread : version.stamp.thread ≡ worker + 1
    taken : IsTaken store version.seen
    before : slice_index version.seen worker < version.stamp.number

  comes : (number : ℕ) (version : Version) → IsNth (ghost.chains row) (number + 1) version → Comes version
  comes number version is = from (ok.later number version is)
    where
      from : Someone (WrittenBy version) (map observer_of store.clients) → Comes version
      from (nth, (observer, (here, by))) =
          let t = observed_client store.clients nth observer here in
          let less : nth < length store.clients = slice_get_within store.clients nth t.0 t.1 in
          let all = ground.base.workers in
          record {
            worker = nth;
            inside = omega arith;
            thread = by.thread;
            taken = (nth, (t.0, (t.1, subst (λ (o : Observer). Listed version.seen o.snaps) (sym t.2) by.seen)));
            before = by.before;
          }

  rises : (number : ℕ) (earlier later : Version) → IsNth (ghost.chains row) (number + 1) earlier
      → IsNth (ghost.chains row) (number + 1 + 1) later → total earlier.seen < total later.seen
  rises number earlier later at is =
      let u = comes number earlier at in
      let v = comes (number + 1) later is in
      let thread = u.thread in
      let before = u.before in
      let sees = pairs_got IsSeenBy (versions (ghost.chains row)) (number + 1) (number + 1 + 1) earlier later ok.order
      (omega arith) at is in
      let reaches = (sees_says earlier.stamp u.worker later.seen thread sees).1 in
      let wide = taken_wide shape store ground.moments earlier.seen u.taken in
      let long = taken_wide shape store ground.moments later.seen v.taken in
      let inside = u.inside in
      ⊎_elim
      (λ (most : AtMost shape.workers earlier.seen later.seen).
      total_rises earlier.seen later.seen (wide ∙ sym long) (λ a less. most a (omega arith)) u.worker (omega arith)
      (omega arith))
      (λ (most : AtMost shape.workers later.seen earlier.seen).
      let other = most u.worker u.inside in absurd (omega arith))
      (taken_ordered shape store ground.moments earlier.seen later.seen u.taken v.taken)

  reaches_number : (number : ℕ) (version : Version) → IsNth (ghost.chains row) (number + 1) version
      → number ≤ total version.seen
  reaches_number zero version is = omega arith
  reaches_number (suc number) version is =
      let less : suc number + 1 < length (versions (ghost.chains row)) =
      slice_get_within (versions (ghost.chains row)) (suc number + 1) version is in
      let t = some_within (versions (ghost.chains row)) (number + 1) (omega arith) in
      let before = reaches_number number t.0 t.1 in
      let same : suc number + 1 ≡ number + 1 + 1 = omega arith in
      let up = rises number t.0 version t.1 (subst (λ n. IsNth (ghost.chains row) n version) same is) in omega arith

  few : (number : ℕ) (version : Version) → IsNth (ghost.chains row) (number + 1) version → number < 2 ^ 50 - 1
  few number version is =
      let u = comes number version is in
      let wide = taken_wide shape store ground.moments version.seen u.taken in
      let least = reaches_number number version is in
      let most = total_most (greatest_number shape.form + 1) version.seen
      (λ a less. let found = (taken_found shape store ground.moments version.seen u.taken a (omega arith)).1 in
      let small = entry_small shape store ground.base ground.moments a (omega arith) in omega arith) in
      let small = greatest_small shape.form in
      let workers = ground.base.limits.most_workers in
      let product = mul-le (length version.seen) (greatest_number shape.form + 1) 16 (2 ^ 45) (omega arith)
      (omega arith) in omega arith

  room : current_number (ghost.chains row) < 2 ^ 50
  room = by (current_number (ghost.chains row)) refl
    where
      by : (number : ℕ) → current_number (ghost.chains row) ≡ number → number < 2 ^ 50
      by zero is = omega arith
      by (suc number) is =
          let at : IsNth (ghost.chains row) (number + 1) (ghost.chains row).now =
          subst (λ n. IsNth (ghost.chains row) n (ghost.chains row).now) (is ∙ omega arith)
          (got_end (ghost.chains row).old (ghost.chains row).now) in
          let small = few number (ghost.chains row).now at in omega arith

  pub counted : memory shape store.words (Count row)
      ≡ current_number (ghost.chains row) + flag (ghost.chains row).counted
  counted = (ground.locks.rows row is_row).count_is ∙ mod-eq_of_lt (below (ghost.chains row).counted)
    where
      below : (b : Bool) → current_number (ghost.chains row) + flag b < 2 ^ 64
      below true = let small = room in omega arith
      below false = let small = room in omega arith

pub room_law : RoomLaw
room_law = room

pub counts_law : CountsLaw
counts_law = counted
