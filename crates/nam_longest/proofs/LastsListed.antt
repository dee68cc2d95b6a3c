-- Words that make a whole commit last as long as it can, from its listing on.
use Rattle.std.proofs.Common.{◌≡◌, ℕ, zero, suc, ◌+◌, ◌-◌, ◌*◌, ◌<◌, ◌≤◌, List, [], length, drop, refl, arith, ap}
use Rattle.std.proofs.Common.{Bool, true, false, is_some, Option, Some, None}
use Rattle.std.proofs.lemmas.Bool.{eq-eqb}
use Rattle.std.proofs.lemmas.Bool.Decides.{nat_tests}
use Rattle.std.specs.Prelude.{if◌then◌else◌, ◌==◌, nat_lt}
use Rattle.nam_verbs.specs.declared.now.Now.TheVariants.{At}
use Rattle.nam_verbs.proofs.TestLemmas.{by_test}
use Rattle.nam_catalog.specs.declared.shape.Shape.{Shape}
use Rattle.nam_catalog.specs.Fits.{FitsLimits}
use Rattle.nam_calls.specs.declared.intent.IntentKind.TheVariants.{Guard}
use Rattle.nam_calls.specs.declared.lock.LockPoint.TheVariants.{Peek}
use Rattle.nam_calls.specs.Lock.{lock_begin}
use Rattle.nam_calls.proofs.FallsTests.{or_last}
use Rattle.nam_protocol.specs.declared.txn.TxnState.{TxnState}
use Rattle.nam_protocol.specs.declared.txn.ListPoint.TheVariants.{ListRow, ListKind, ListData, ListNumber, ListState}
use Rattle.nam_protocol.specs.declared.txn.CommitPoint.TheVariants.{Locking, Listing}
use Rattle.nam_protocol.specs.Commit.{records_of, places, record_place, value_at, go, on_list, list_next}
use Rattle.nam_protocol.specs.Commit.{list_kind_after, kind_of}
use Rattle.nam_protocol.specs.Bound.{listed_most, listed_from, clear_left, after_locks}
use Rattle.nam_protocol.specs.TxnFits.{StateFits}
use Rattle.nam_longest.specs.Deletions.{spared_from}
use Rattle.nam_longest.proofs.CommitToCome.{within, as_many, later_spared, none_spared, nth_spared, nth_listed}
use Rattle.nam_longest.proofs.SparedLemmas.{spared_listed_from}
use Rattle.nam_longest.proofs.LastsMachines.{on_true, on_false}
use Rattle.nam_longest.proofs.LastsTxn.{TxnLasts}
use Rattle.nam_longest.proofs.LastsCommit.{then_lasts}
use Rattle.nam_longest.proofs.LastsWhole.{guard_listed, all_listed, wide, spares, checked_lasts, slots_last, locks_last}

-- a commit that holds no lock and has no count yet
abbrev pub unlocked : TxnState → TxnState
unlocked state = record state { held = []; counts = [] }

module _ (shape : Shape) (limits : FitsLimits shape) (state : TxnState) (fits : StateFits shape state)
    (are : state.records ≡ records_of state) (some : 1 ≤ length state.writes) where
  -- 1. The locks and what follows

  pub locked_lasts : (m : ℕ)
      → m + spared_from state 0 ≡ 2 * length (places state) + after_locks state + clear_left state
      → TxnLasts shape (go (unlocked state) (Locking Peek)) m
  locked_lasts m e =
      let w = within shape limits state fits are some in
      let a = as_many shape limits state fits are some in
      let s = later_spared shape limits state fits are some 0 in
      let n = m - 2 * length (places state) in
      let k = n - 2 * length state.writes in
      locks_last shape (unlocked state) (length (places state) - 1) n m [] (omega arith) (omega arith)
      (λ held. slots_last shape (record (unlocked state) { held = held }) (length state.writes - 1) k n [] (omega arith)
      (omega arith)
      (λ counts. checked_lasts shape limits (record state { held = held; counts = counts }) fits are some k
      (omega arith)))

  -- 2. The listing

  guard_from : (nth : ℕ) → nth < length state.records → length state.writes ≤ nth
      → listed_from state nth ≡ 2 + listed_from state (nth + 1)
  guard_from nth l m =
      let e = as_many shape limits state fits are some in
      let none : length state.writes - nth ≡ 0 = omega arith in
      let later : length state.writes - suc nth ≡ 0 = omega arith in
      let same : suc nth ≡ nth + 1 = omega arith in
      let here = ap (λ k. listed_most k (drop nth (places state))) none in
      let next = ap (λ k. listed_most k (drop (suc nth) (places state))) later in
      let one = guard_listed nth (places state) (omega arith) in
      let more = ap (listed_from state) same in
      omega arith

  abbrev NextLasts : ℕ → ℕ → Type 0
  NextLasts nth n = TxnLasts shape (on_list state (list_next state nth)) n

  data_listed : (nth rest word n m : ℕ) → word + suc rest ≡ (record_place state nth).width → m ≡ n + suc rest
      → NextLasts nth n → TxnLasts shape (go state (Listing (ListData nth word))) m
  data_listed nth zero word n m e f next =
      then_lasts shape state (Listing (ListData nth word)) 0 n m (omega arith) (omega arith)
      (or_last (λ now. TxnLasts shape (on_list state now) n) (record_place state nth).width word (list_next state nth)
      (At (ListData nth (word + 1))) (omega arith) (λ t. next) (λ t. absurd (omega arith)))
  data_listed nth (suc rest) word n m e f next =
      then_lasts shape state (Listing (ListData nth word)) 0 (n + suc rest) m (omega arith) (omega arith)
      (or_last (λ now. TxnLasts shape (on_list state now) (n + suc rest)) (record_place state nth).width word
      (list_next state nth) (At (ListData nth (word + 1))) (omega arith) (λ t. absurd (omega arith))
      (λ t. data_listed nth rest (word + 1) n (n + suc rest) (omega arith) refl next))

  kind_listed : (nth n k : ℕ) (value : Option (List ℕ)) → 1 ≤ (record_place state nth).width
      → k ≡ n + (if is_some value then (record_place state nth).width else 0) → NextLasts nth n
      → TxnLasts shape (on_list state (list_kind_after state nth (kind_of value))) k
  kind_listed nth n k None w e next = let same : k ≡ n = omega arith in rw same next
  kind_listed nth n k (Some value) w e next =
      data_listed nth ((record_place state nth).width - 1) 0 n k (omega arith) (omega arith) next

  record_listed : (nth n m : ℕ) → nth < length state.records
      → m + spared_from state nth + listed_from state (nth + 1)
      ≡ n + spared_from state (nth + 1) + listed_from state nth
      → NextLasts nth n → TxnLasts shape (go state (Listing (ListRow nth))) m
  record_listed nth n m l e next =
      let more = two_more nth n m l e in
      then_lasts shape state (Listing (ListRow nth)) 0 (m - 1) m (omega arith) (omega arith)
      (then_lasts shape state (Listing (ListKind nth)) 0 (m - 2) (m - 1) (omega arith) (omega arith)
      (by_test (λ kind. TxnLasts shape (on_list state (list_kind_after state nth kind)) (m - 2))
      (nat_lt nth (length state.writes)) (kind_of (value_at state nth)) Guard
      (λ t. let k : nth < length state.writes = grind (arith, nat_tests) in
      let f = nth_listed shape limits state fits are some nth k in
      let s = nth_spared shape limits state fits are some nth k in
      let b = spares shape limits state fits are some nth k in
      kind_listed nth n (m - 2) (value_at state nth) (wide shape limits state fits are some nth k) (omega arith) next)
      (λ t. let k : length state.writes ≤ nth = grind (arith, nat_tests) in
      let f = guard_from nth l k in
      let s = none_spared shape limits state fits are some nth k in
      let r = none_spared shape limits state fits are some (nth + 1) (omega arith) in
      let same : m - 2 ≡ n = omega arith in
      rw same next)))
    where
      two_more : (nth n m : ℕ) → nth < length state.records
          → m + spared_from state nth + listed_from state (nth + 1)
          ≡ n + spared_from state (nth + 1) + listed_from state nth → 2 ≤ m
      two_more nth n m l e =
          by_test (λ (b : Bool). 2 ≤ m) (nat_lt nth (length state.writes)) true false
          (λ t. let k : nth < length state.writes = grind (arith, nat_tests) in
          let f = nth_listed shape limits state fits are some nth k in
          let s = nth_spared shape limits state fits are some nth k in
          let b = spares shape limits state fits are some nth k in
          omega arith)
          (λ t. let k : length state.writes ≤ nth = grind (arith, nat_tests) in
          let f = guard_from nth l k in
          let s = none_spared shape limits state fits are some nth k in
          omega arith)

  pub listed_last : (rest nth n m : ℕ) → nth + suc rest ≡ length state.records
      → m + spared_from state nth ≡ listed_from state nth + 2 + n
      → TxnLasts shape (go state (Locking lock_begin)) n
      → TxnLasts shape (go state (Listing (ListRow nth))) m
  listed_last zero nth n m e f next =
      let w = within shape limits state fits are some in
      let a = as_many shape limits state fits are some in
      let s = none_spared shape limits state fits are some (nth + 1) (omega arith) in
      let r = all_listed (length state.writes - (nth + 1)) (nth + 1) (places state) (omega arith) in
      record_listed nth (n + 2) m (omega arith) (omega arith)
      (on_true (λ now. TxnLasts shape (on_list state now) (n + 2)) (nth + 1 == length state.records) (At ListNumber)
      (At (ListRow (nth + 1))) (eq-eqb (nth + 1) (length state.records) (omega arith))
      (then_lasts shape state (Listing ListNumber) 0 (n + 1) (n + 2) (omega arith) (omega arith)
      (then_lasts shape state (Listing ListState) 0 n (n + 1) (omega arith) refl next)))
  listed_last (suc rest) nth n m e f next =
      let s = spared_fewer (nth + 1) in
      let k = listed_from state (nth + 1) + 2 + n - spared_from state (nth + 1) in
      record_listed nth k m (omega arith) (omega arith)
      (on_false (λ now. TxnLasts shape (on_list state now) k) (nth + 1 == length state.records) (At ListNumber)
      (At (ListRow (nth + 1))) (grind (arith, nat_tests))
      (listed_last rest (nth + 1) n k (omega arith) (omega arith) next))
    where
      spared_fewer : (nth : ℕ) → spared_from state nth ≤ listed_from state nth
      spared_fewer nth =
          let w = within shape limits state fits are some in
          let a = as_many shape limits state fits are some in
          spared_listed_from state.writes (places state) nth (omega arith)
