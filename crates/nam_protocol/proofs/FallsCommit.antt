-- The verbs to come fall in a commit, and how many it begins with.
use Rattle.std.proofs.Common.{◌≡◌, ℕ, zero, suc, ◌+◌, ◌-◌, ◌*◌, ◌<◌, ◌≤◌, List, [], ◌∷◌, ◌++◌, length, take, drop}
use Rattle.std.proofs.Common.{length-append, refl, sym, ◌∙◌, ap, subst, arith, Option, Some, None}
use Rattle.std.specs.Prelude.{◌==◌, Bool, true, if◌then◌else◌, nat_lt}
use Rattle.std.proofs.lemmas.Bool.Decides.{nat_tests}
use Rattle.std.proofs.lemmas.List.{length-take}
use Rattle.si_model.specs.declared.log.Lock.{Lock}
use Rattle.nam_verbs.specs.declared.now.Now.{Now}
use Rattle.nam_verbs.specs.declared.now.Now.TheVariants.{At, Over}
use Rattle.nam_verbs.proofs.TestLemmas.{by_test}
use Rattle.nam_catalog.specs.declared.shape.Shape.{Shape}
use Rattle.nam_catalog.specs.Fits.{FitsLimits}
use Rattle.nam_catalog.specs.Greatest.{greatest_number}
use Rattle.nam_layout.specs.declared.field.Place.{Place}
use Rattle.nam_layout.specs.PlaceFits.{FitsPlace}
use Rattle.nam_calls.specs.declared.record.InstallPoint.{InstallPoint}
use Rattle.nam_calls.specs.declared.record.InstallPoint.TheVariants.{InstallWord, InstallCount}
use Rattle.nam_calls.specs.declared.ring.SlotPoint.{SlotPoint}
use Rattle.nam_calls.specs.declared.ring.SlotEnd.{SlotEnd}
use Rattle.nam_calls.specs.declared.ring.SlotEnd.TheVariants.{Free, NotMoved}
use Rattle.nam_calls.specs.declared.ring.CopyPoint.{CopyPoint}
use Rattle.nam_verbs.specs.Falls.{Falls}
use Rattle.nam_calls.specs.declared.intent.IntentKind.TheVariants.{Guard}
use Rattle.nam_calls.specs.declared.lock.Locks.{Locks}
use Rattle.nam_calls.specs.declared.lock.LockPoint.{LockPoint}
use Rattle.nam_calls.specs.declared.lock.LockPoint.TheVariants.{Peek, Seize, GiveBack}
use Rattle.nam_calls.specs.declared.lock.LockEnd.{LockEnd}
use Rattle.nam_calls.specs.Record.{words_begin, install_begin}
use Rattle.nam_calls.specs.Ring.{slot_begin, copy_begin}
use Rattle.nam_calls.specs.Lock.{nth_place, lock_begin, lock_left}
use Rattle.nam_calls.specs.Fits.{LockFits}
use Rattle.nam_calls.proofs.FallsMachines.{WordsFall, words_fall, InstallFalls, install_falls, SlotFalls, slot_falls}
use Rattle.nam_calls.proofs.FallsMachines.{CopyFalls, copy_falls}
use Rattle.nam_calls.proofs.FallsLocks.{LockFalls, lock_falls, UnlockFalls, unlock_falls}
use Rattle.nam_calls.specs.declared.lock.LockEnd.TheVariants as lock_end
use Rattle.nam_protocol.specs.declared.txn.TxnState.{TxnState}
use Rattle.nam_protocol.specs.declared.txn.CommitPoint.{CommitPoint}
use Rattle.nam_protocol.specs.declared.txn.CommitPoint.TheVariants.{Locking, Checking, Returning, Saving, Copying}
use Rattle.nam_protocol.specs.declared.txn.CommitPoint.TheVariants.{Installing, Publishing, Freeing}
use Rattle.nam_protocol.specs.declared.txn.CommitPoint.TheVariants.{Listing, Counting, Deciding, Clearing, Ending}
use Rattle.nam_protocol.specs.declared.txn.ListPoint.{ListPoint}
use Rattle.nam_protocol.specs.declared.txn.ListPoint.TheVariants.{ListRow, ListKind, ListData, ListNumber, ListState}
use Rattle.nam_protocol.specs.declared.txn.Refusal.{Refusal}
use Rattle.nam_protocol.specs.declared.txn.Refusal.TheVariants as refusal
use Rattle.nam_protocol.specs.declared.txn.TxnAnswer.{TxnAnswer}
use Rattle.nam_protocol.specs.declared.txn.TxnAnswer.TheVariants.{Committed, Locked, Newer, Full}
use Rattle.nam_protocol.specs.Txn.{over}
use Rattle.nam_protocol.specs.Commit.{records_of, lock_at, places, record_place, value_at, go, on_lock, next_check}
use Rattle.nam_protocol.specs.Commit.{on_slot, on_return, on_words, on_copy, on_install, next_free, commit_after}
use Rattle.nam_protocol.specs.Commit.{tells_intent, kind_of, list_next, list_kind_after, list_after, on_list, refused}
use Rattle.nam_protocol.specs.Commit.{refusal_answer, checked, next_count, ended}
use Rattle.nam_protocol.specs.Bound.{installs_most, publish_most, rest_from, commit_left, of_intent, listed_most}
use Rattle.nam_protocol.specs.Bound.{listed_from, list_left, after_checks, after_locks, clear_left}
use Rattle.nam_protocol.specs.TxnFits.{AnswerFits, StateFits, ListFits, CommitPointFits, CommitFits, TxnFalls}
use Rattle.nam_protocol.proofs.FallsKeys.{places_length, writes_within, nth_fits}

-- 1. What copies and installs take

one_install : (xs : List Place) (nth : ℕ) → nth < length xs
    → installs_most (drop nth xs) ≡ 3 * (nth_place xs nth).width + 5 + installs_most (drop (suc nth) xs)
one_install [] nth l = absurd (omega arith)
one_install (x ∷ xs) zero l = refl
one_install (x ∷ xs) (suc nth) l = one_install xs nth (omega arith)

nth_taken : (n nth : ℕ) (xs : List Place) → nth < n → nth_place (take n xs) nth ≡ nth_place xs nth
nth_taken zero nth xs l = absurd (omega arith)
nth_taken (suc n) nth [] l = refl
nth_taken (suc n) zero (x ∷ xs) l = refl
nth_taken (suc n) (suc nth) (x ∷ xs) l = nth_taken n nth xs (omega arith)

pub installs_least : (xs : List Place) → length xs ≤ installs_most xs
installs_least [] = omega arith
installs_least (x ∷ xs) = let r = installs_least xs in omega arith

-- no more headers are held than there are records
pub held_within : (records : ℕ) (held : List ℕ) (at : LockPoint) → LockFits records held at → length held ≤ records
held_within records held Peek l = omega arith
held_within records held (Seize header) l = omega arith
held_within records held (GiveBack given found) l = let m = l.0 in omega arith

-- 2. A commit goes on, or is over

goes : (shape : Shape) (state : TxnState) (n : ℕ) (place : CommitPoint) → StateFits shape state
    → state.records ≡ records_of state
    → 1 ≤ length state.writes → state.last < greatest_number shape.form
    → CommitPointFits shape state place → commit_left state place < n → TxnFalls shape n (go state place)
goes shape state n place fits are some room at l = (fits, ((are, some, at, room), l))

ends : (shape : Shape) (state : TxnState) (n : ℕ) (answer : TxnAnswer) → StateFits shape state
    → AnswerFits shape.form answer → 0 < n
    → TxnFalls shape n (over state answer)
ends shape state n answer fits is l = (fits, (is, l))

module _ (shape : Shape) (limits : FitsLimits shape) (state : TxnState) (fits : StateFits shape state)
    (are : state.records ≡ records_of state)
    (some : 1 ≤ length state.writes) (room : state.last < greatest_number shape.form) where
  abbrev writes : ℕ
  writes = length state.writes

  abbrev records : ℕ
  records = length state.records

  within : writes ≤ records
  within = writes_within shape state fits are

  as_many : length (places state) ≡ records
  as_many = places_length shape state fits are

  taken_length : length (take writes (places state)) ≡ writes
  taken_length = let w = within in let e = as_many in let t = length-take writes (places state) in omega arith

  -- the nth written record is copied and installed before the others
  rest_is : (nth : ℕ) → nth < writes
      → rest_from state nth ≡ 3 * (record_place state nth).width + 5 + rest_from state (nth + 1)
  rest_is nth l =
      let t = taken_length in
      let one = one_install (take writes (places state)) nth (omega arith) in
      let same = ap (λ (p : Place). p.width) (nth_taken writes nth (places state) l) in
      let next : suc nth ≡ nth + 1 = omega arith in
      let more = ap (λ n. installs_most (drop n (take writes (places state)))) next in
      omega arith

  rest_least : writes + 1 + (records - writes) ≤ rest_from state 0
  rest_least = let t = taken_length in let l = installs_least (take writes (places state)) in omega arith

  -- the nth written record's place
  nth_is : (nth : ℕ) → nth < writes → FitsPlace (record_place state nth)
  nth_is nth l = let w = within in nth_fits shape state fits are limits nth (omega arith)

  -- 3. Each step

  abbrev clear : ℕ
  clear = clear_left state

  enough : length (places state) ≤ after_locks state
  enough = let w = within in let e = as_many in let l = rest_least in omega arith

  clear_is : tells_intent state ≡ true → clear ≡ 1
  clear_is e = ap (λ (b : Bool). if b then 1 else 0) e

  -- it is answered, or the intent is cleared first
  refused_falls : (n : ℕ) (refusal : Refusal) → length state.held ≤ records → length state.counts ≤ writes
      → AnswerFits shape.form (refusal_answer refusal) → 0 < n
      → TxnFalls shape (n + clear) (refused state refusal)
  refused_falls n refusal held counts is l =
      by_test (TxnFalls shape (n + clear)) (tells_intent state) (go state (Clearing refusal))
      (over state (refusal_answer refusal))
      (λ e. let c = clear_is e in
      goes shape state (n + clear) (Clearing refusal) fits are some room (held, counts, e) (omega arith))
      (λ e. ends shape state (n + clear) (refusal_answer refusal) fits is (omega arith))

  on_lock_falls : (n : ℕ) (now : Now Locks LockEnd) → length state.counts ≡ 0 → length state.held ≤ records
      → LockFalls (places state) (after_locks state) enough n now
      → TxnFalls shape (n + clear) (on_lock state now)
  on_lock_falls n (At locks) none within h =
      goes shape (record state { held = locks.held }) (n + clear) (Locking locks.at) fits are some room
      (subst (λ m. LockFits m locks.held locks.at) as_many h.0, none) (let m = h.1 in omega arith)
  on_lock_falls n (Over (lock_end.Held headers)) none within h =
      goes shape (record state { held = headers }) (n + clear) (Checking slot_begin) fits are some room
      (h.0 ∙ as_many, omega arith)
      (let m = h.1 in omega arith)
  on_lock_falls n (Over (lock_end.Locked nth found)) none within h =
      refused_falls n (refusal.Locked (lock_at state nth found)) within (omega arith) tt h.1
  on_lock_falls n (Over (lock_end.Newer nth found)) none within h =
      refused_falls n (refusal.Newer (lock_at state nth found)) within (omega arith) tt h.1

  -- the words of a written record are to be read
  saving : (nth n : ℕ) → length state.held ≡ records → length state.counts ≡ writes → nth < writes
      → rest_from state nth + clear < n
      → TxnFalls shape n (go state (Saving nth words_begin))
  saving nth n held counts l m =
      let w = (nth_is nth l).least_width in
      let r = rest_is nth l in
      goes shape state n (Saving nth words_begin) fits are some room (held, counts, l, omega arith) (omega arith)

  on_words_falls : (nth n : ℕ) (now : Now (List ℕ) (List ℕ)) → length state.held ≡ records
      → length state.counts ≡ writes → (l : nth < writes)
      → WordsFall (record_place state nth) (nth_is nth l) n now
      → TxnFalls shape (n + (2 * (record_place state nth).width + 5) + rest_from state (nth + 1) + clear)
      (on_words state nth now)
  on_words_falls nth n (At got) held counts l h =
      goes shape state _ (Saving nth got) fits are some room (held, counts, l, h.0) (let m = h.1 in omega arith)
  on_words_falls nth n (Over old) held counts l h =
      goes shape state _ (Copying nth old copy_begin) fits are some room (held, counts, l, h.0, tt)
      (let m = h.1 in omega arith)

  install_begins : (nth n : ℕ) (value : Option (List ℕ)) → length state.held ≡ records → length state.counts ≡ writes
      → nth < writes
      → (record_place state nth).width + 2 + rest_from state (nth + 1) + clear < n
      → TxnFalls shape n (go state (Installing nth (install_begin value)))
  install_begins nth n None held counts l m =
      goes shape state n (Installing nth InstallCount) fits are some room (held, counts, l, tt) (omega arith)
  install_begins nth n (Some value) held counts l m =
      let w = (nth_is nth l).least_width in
      goes shape state n (Installing nth (InstallWord 0)) fits are some room (held, counts, l, omega arith)
      (omega arith)

  on_copy_falls : (nth n : ℕ) (old : List ℕ) (now : Now CopyPoint (Unit {0})) → length state.held ≡ records
      → length state.counts ≡ writes
      → (l : nth < writes)
      → length old ≡ (record_place state nth).width → CopyFalls (record_place state nth) (nth_is nth l) n now
      → TxnFalls shape (n + ((record_place state nth).width + 2) + rest_from state (nth + 1) + clear)
      (on_copy state nth old now)
  on_copy_falls nth n old (At place) held counts l wide h =
      goes shape state _ (Copying nth old place) fits are some room (held, counts, l, wide, h.0)
      (let m = h.1 in omega arith)
  on_copy_falls nth n old (Over done) held counts l wide h =
      install_begins nth _ (value_at state nth) held counts l (let m = h.1 in omega arith)

  publishing : (n : ℕ) → length state.held ≡ records → length state.counts ≡ writes → publish_most state + clear < n
      → TxnFalls shape n (go state Publishing)
  publishing n held counts m = goes shape state n Publishing fits are some room (held, counts) m

  on_install_falls : (nth n : ℕ) (now : Now InstallPoint (Unit {0})) → length state.held ≡ records
      → length state.counts ≡ writes → (l : nth < writes)
      → InstallFalls (record_place state nth) (nth_is nth l) n now
      → TxnFalls shape (n + rest_from state (nth + 1) + clear) (on_install state nth now)
  on_install_falls nth n (At place) held counts l h =
      goes shape state _ (Installing nth place) fits are some room (held, counts, l, h.0) (let m = h.1 in omega arith)
  on_install_falls nth n (Over done) held counts l h =
      by_test (TxnFalls shape (n + rest_from state (nth + 1) + clear)) (nth + 1 == writes) (go state Publishing)
      (go state (Saving (nth + 1) words_begin))
      (λ e. publishing _ held counts (let m = h.1 in omega arith))
      (λ e. let m : nth + 1 < writes = grind (arith, nat_tests) in
      saving (nth + 1) _ held counts m (let k = h.1 in omega arith))

  ended_falls : (n : ℕ) → length state.held ≡ records → length state.counts ≡ writes → 0 < n
      → TxnFalls shape (n + clear) (ended state)
  ended_falls n held counts l =
      by_test (TxnFalls shape (n + clear)) (tells_intent state) (go state Ending)
      (over state (Committed (state.last + 1)))
      (λ e. let c = clear_is e in
      goes shape state (n + clear) Ending fits are some room (held, counts, e) (omega arith))
      (λ e. ends shape state (n + clear) (Committed (state.last + 1)) fits (omega arith) (omega arith))

  next_free_falls : (nth n : ℕ) → length state.held ≡ records → length state.counts ≡ writes → writes ≤ nth
      → nth ≤ records → records - nth < n
      → TxnFalls shape (n + clear) (next_free state nth)
  next_free_falls nth n held counts l m r =
      by_test (TxnFalls shape (n + clear)) (nth == records) (ended state) (go state (Freeing nth))
      (λ e. ended_falls n held counts (omega arith))
      (λ e. let k : nth < records = grind (arith, nat_tests) in let a = as_many in
      goes shape state (n + clear) (Freeing nth) fits are some room
      (held, counts, l, k) (omega arith))

  -- an intent is told: the counts, and the decision
  next_count_falls : (nth n : ℕ) → length state.held ≡ records → length state.counts ≡ writes
      → tells_intent state ≡ true → nth ≤ writes
      → writes - nth + 1 + rest_from state 0 + clear < n
      → TxnFalls shape n (next_count state nth)
  next_count_falls nth n held counts tells l r =
      by_test (TxnFalls shape n) (nth == writes) (go state Deciding) (go state (Counting nth))
      (λ e. goes shape state n Deciding fits are some room (held, counts, tells) (omega arith))
      (λ e. let k : nth < writes = grind (arith, nat_tests) in
      goes shape state n (Counting nth) fits are some room (held, counts, k, tells) (omega arith))

  -- the slots are free
  counting_most : tells_intent state ≡ true → of_intent state (writes + 1) ≡ writes + 1
  counting_most e = ap (λ (b : Bool). if b then writes + 1 else 0) e

  checked_all_falls : (n : ℕ) → length state.held ≡ records → length state.counts ≡ writes
      → after_checks state + clear < n
      → TxnFalls shape n (checked state)
  checked_all_falls n held counts l =
      by_test (TxnFalls shape n) (tells_intent state) (go state (Counting 0)) (go state (Saving 0 words_begin))
      (λ e. let c = counting_most e in
      goes shape state n (Counting 0) fits are some room (held, counts, some, e) (omega arith))
      (λ e. saving 0 n held counts some (omega arith))

  on_return_falls : (full : Lock) (n : ℕ) (now : Now ℕ (Unit {0})) → length state.held ≡ records
      → length state.counts < writes → UnlockFalls (places state) n now
      → TxnFalls shape (n + clear) (on_return state full now)
  on_return_falls full n (At given) held counts h =
      goes shape state (n + clear) (Returning given full) fits are some room
      (held, let e = as_many in let l = h.0 in omega arith, counts) (let m = h.1 in omega arith)
  on_return_falls full n (Over done) held counts h =
      refused_falls n (refusal.Full full) (omega arith) (omega arith) tt h.1

-- 4. The slots: each that is free brings a count

module _ (shape : Shape) (limits : FitsLimits shape) (state : TxnState) (fits : StateFits shape state)
    (are : state.records ≡ records_of state)
    (some : 1 ≤ length state.writes) (room : state.last < greatest_number shape.form) where
  checked_falls : (n count : ℕ) → length state.held ≡ length state.records → length state.counts < length state.writes
      → 0 < n
      → TxnFalls shape (n + (2 * (length state.writes - length state.counts - 1) + after_checks state) + clear_left state)
      (next_check (record state { counts = state.counts ++ count ∷ [] }))
  checked_falls n count held l m =
      let all = state.counts ++ count ∷ [] in
      let long : length all ≡ length state.counts + 1 = length-append state.counts (count ∷ []) in
      let state' = record state { counts = all } in
      let most = n + (2 * (length state.writes - length state.counts - 1) + after_checks state) + clear_left state in
      by_test (TxnFalls shape most) (length all == length state.writes) (checked state')
      (go state' (Checking slot_begin))
      (λ e. let f : length all ≡ length state.writes = grind (arith, nat_tests) in
      checked_all_falls shape limits state' fits are some room most held f (omega arith))
      (λ e. let f : length all < length state.writes = grind (arith, nat_tests) in
      goes shape state' most (Checking slot_begin) fits are some room
      (held, f) (omega arith))

  on_slot_falls : (place : Place) (is : FitsPlace place) (n : ℕ) (now : Now SlotPoint SlotEnd)
      → length state.held ≡ length state.records
      → length state.counts < length state.writes → SlotFalls place is n now
      → TxnFalls shape (n + (2 * (length state.writes - length state.counts - 1) + after_checks state) + clear_left state)
      (on_slot state now)
  on_slot_falls place is n (At at) held l h =
      goes shape state _ (Checking at) fits are some room (held, l) (let m = h.1 in omega arith)
  on_slot_falls place is n (Over (Free count)) held l h = checked_falls n count held l h.1
  on_slot_falls place is n (Over (NotMoved slot found)) held l h =
      let w = within shape limits state fits are some room in
      let e = as_many shape limits state fits are some room in
      let r = rest_least shape limits state fits are some room in
      let m = h.1 in
      goes shape state _ (Returning 0 (lock_at state (length state.counts) found)) fits are some room
      (held, omega arith, l) (omega arith)

-- 5. The listing

guard_listed : (nth : ℕ) (xs : List Place) → nth < length xs
    → listed_most 0 (drop nth xs) ≡ 2 + listed_most 0 (drop (suc nth) xs)
guard_listed nth [] l = absurd (omega arith)
guard_listed zero (x ∷ xs) l = refl
guard_listed (suc nth) (x ∷ xs) l = guard_listed nth xs (omega arith)

value_listed : (rest nth : ℕ) (xs : List Place) → nth < length xs
    → listed_most (suc rest) (drop nth xs) ≡ (nth_place xs nth).width + 2 + listed_most rest (drop (suc nth) xs)
value_listed rest nth [] l = absurd (omega arith)
value_listed rest zero (x ∷ xs) l = refl
value_listed rest (suc nth) (x ∷ xs) l = value_listed rest nth xs (omega arith)

module _ (shape : Shape) (limits : FitsLimits shape) (state : TxnState) (fits : StateFits shape state)
    (are : state.records ≡ records_of state)
    (some : 1 ≤ length state.writes) (room : state.last < greatest_number shape.form) where
  abbrev ListFalls : ℕ → Now ListPoint (Unit {0}) → Type 0
  ListFalls n now = Falls (ListFits shape state) (λ done. Unit {0}) (list_left state) n now

  list_next_falls : (nth n : ℕ) → nth < length state.records → listed_from state (nth + 1) + 2 < n
      → ListFalls n (list_next state nth)
  list_next_falls nth n l m =
      by_test (ListFalls n) (nth + 1 == length state.records) (At ListNumber) (At (ListRow (nth + 1)))
      (λ e. (tt, omega arith))
      (λ e. let k : nth + 1 < length state.records = grind (arith, nat_tests) in (k, m))

  kind_falls : (nth n : ℕ) (value : Option (List ℕ)) → nth < length state.writes
      → (record_place state nth).width + listed_from state (nth + 1) + 2 < n
      → ListFalls n (list_kind_after state nth (kind_of value))
  kind_falls nth n None l m =
      let w = within shape limits state fits are some room in list_next_falls nth n (omega arith) (omega arith)
  kind_falls nth n (Some value) l m =
      let w = (nth_is shape limits state fits are some room nth l).least_width in ((l, omega arith), omega arith)

  from_next : (k : ℕ) → listed_from state (suc k) ≡ listed_from state (k + 1)
  from_next k = ap (listed_from state) (next_is k)
    where
      next_is : (k : ℕ) → suc k ≡ k + 1
      next_is k = omega arith

  guard_from : (nth : ℕ) → nth < length state.records → length state.writes ≤ nth
      → listed_from state nth ≡ 2 + listed_from state (nth + 1)
  guard_from nth l m =
      let e = as_many shape limits state fits are some room in
      let here = ap (λ k. listed_most k (drop nth (places state))) (none_left nth m) in
      let next = ap (λ k. listed_most k (drop (suc nth) (places state))) (none_left (suc nth) (omega arith)) in
      let one = guard_listed nth (places state) (omega arith) in
      let same = from_next nth in
      omega arith
    where
      none_left : (k : ℕ) → length state.writes ≤ k → length state.writes - k ≡ 0
      none_left k m = omega arith

  value_from : (nth : ℕ) → nth < length state.records → nth < length state.writes
      → listed_from state nth ≡ (record_place state nth).width + 2 + listed_from state (nth + 1)
  value_from nth l m =
      let e = as_many shape limits state fits are some room in
      let here = ap (λ k. listed_most k (drop nth (places state))) (one_left nth m) in
      let one = value_listed (length state.writes - suc nth) nth (places state) (omega arith) in
      let same = from_next nth in
      omega arith
    where
      one_left : (k : ℕ) → k < length state.writes → length state.writes - k ≡ suc (length state.writes - suc k)
      one_left k m = omega arith

  list_falls : (at : ListPoint) → ListFits shape state at → ListFalls (list_left state at) (list_after state at)
  list_falls (ListRow nth) l = (l, omega arith)
  list_falls (ListKind nth) l =
      by_test (λ kind. ListFalls (list_left state (ListKind nth)) (list_kind_after state nth kind))
      (nat_lt nth (length state.writes)) (kind_of (value_at state nth)) Guard
      (λ t. let m : nth < length state.writes = grind (arith, nat_tests) in
      let f = value_from nth l m in
      kind_falls nth _ (value_at state nth) m (omega arith))
      (λ t. let m : length state.writes ≤ nth = grind (arith, nat_tests) in
      let f = guard_from nth l m in
      list_next_falls nth _ l (omega arith))
  list_falls (ListData nth word) l =
      let w = within shape limits state fits are some room in
      let m = l.0 in
      let k = l.1 in
      by_test (ListFalls (list_left state (ListData nth word))) (word + 1 == (record_place state nth).width)
      (list_next state nth) (At (ListData nth (word + 1)))
      (λ e. list_next_falls nth _ (omega arith) (omega arith))
      (λ e. let f : word + 1 < (record_place state nth).width = grind (arith, nat_tests) in
      ((m, f), omega arith))
  list_falls ListNumber l = (tt, omega arith)
  list_falls ListState l = omega arith

  on_list_falls : (n : ℕ) (now : Now ListPoint (Unit {0})) → length state.held ≡ 0 → length state.counts ≡ 0
      → tells_intent state ≡ true → ListFalls n now
      → TxnFalls shape (n + lock_left (places state) (after_locks state) state.held lock_begin + clear_left state)
      (on_list state now)
  on_list_falls n (At place) held counts tells h =
      goes shape state _ (Listing place) fits are some room (held, counts, h.0, tells) (let m = h.1 in omega arith)
  on_list_falls n (Over done) held counts tells h =
      let w = within shape limits state fits are some room in
      goes shape state _ (Locking lock_begin) fits are some room (omega arith, counts) (let m = h.1 in omega arith)

-- 6. A commit

module _ (shape : Shape) (limits : FitsLimits shape) (state : TxnState) (fits : StateFits shape state) where
  pub commit_falls : (at : CommitPoint) (found : ℕ) → CommitFits shape state at
      → TxnFalls shape (commit_left state at) (commit_after state at found)
  commit_falls (Listing at) found c =
      on_list_falls shape limits state fits c.0 c.1 c.3 _ _ c.2.0 c.2.1 c.2.3
      (list_falls shape limits state fits c.0 c.1 c.3 at c.2.2)
  commit_falls (Locking at) found c =
      let e = as_many shape limits state fits c.0 c.1 c.3 in
      on_lock_falls shape limits state fits c.0 c.1 c.3 _ _ c.2.1
      (held_within (length state.records) state.held at c.2.0)
      (lock_falls (places state) _ (enough shape limits state fits c.0 c.1 c.3) state.seen state.held at found
      (subst (λ m. LockFits m state.held at) (sym e) c.2.0))
  commit_falls (Checking at) found c =
      let is = nth_is shape limits state fits c.0 c.1 c.3 (length state.counts) c.2.1 in
      on_slot_falls shape limits state fits c.0 c.1 c.3 _ is _ _ c.2.0 c.2.1
      (slot_falls (record_place state (length state.counts)) is at found)
  commit_falls (Returning given full) found c =
      let e = as_many shape limits state fits c.0 c.1 c.3 in
      on_return_falls shape limits state fits c.0 c.1 c.3 full _ _ c.2.0 c.2.2
      (unlock_falls (places state) given (let l = c.2.1 in omega arith))
  commit_falls (Counting nth) found c =
      let l = c.2.2 in
      next_count_falls shape limits state fits c.0 c.1 c.3 (nth + 1) _ c.2.0 c.2.1 c.2.3 (omega arith) (omega arith)
  commit_falls Deciding found c =
      saving shape limits state fits c.0 c.1 c.3 0 _ c.2.0 c.2.1 c.1 (omega arith)
  commit_falls (Saving nth got) found c =
      on_words_falls shape limits state fits c.0 c.1 c.3 nth _ _ c.2.0 c.2.1 c.2.2
      (words_fall (record_place state nth) (nth_is shape limits state fits c.0 c.1 c.3 nth c.2.2) got found c.2.3)
  commit_falls (Copying nth old at) found c =
      on_copy_falls shape limits state fits c.0 c.1 c.3 nth _ old _ c.2.0 c.2.1 c.2.2 c.2.3
      (copy_falls (record_place state nth) (nth_is shape limits state fits c.0 c.1 c.3 nth c.2.2) at c.2.4)
  commit_falls (Installing nth at) found c =
      on_install_falls shape limits state fits c.0 c.1 c.3 nth _ _ c.2.0 c.2.1 c.2.2
      (install_falls (record_place state nth) (nth_is shape limits state fits c.0 c.1 c.3 nth c.2.2) at c.2.3)
  commit_falls Publishing found c =
      let w = within shape limits state fits c.0 c.1 c.3 in
      next_free_falls shape limits state fits c.0 c.1 c.3 (length state.writes) _ c.2.0 c.2.1 (omega arith) w
      (omega arith)
  commit_falls (Freeing nth) found c =
      let e = as_many shape limits state fits c.0 c.1 c.3 in
      let l = c.2.3 in
      next_free_falls shape limits state fits c.0 c.1 c.3 (nth + 1) _ c.2.0 c.2.1 (let m = c.2.2 in omega arith)
      (omega arith) (omega arith)
  commit_falls (Clearing (refusal.Locked lock)) found c =
      ends shape state 1 (Locked lock) fits tt (omega arith)
  commit_falls (Clearing (refusal.Newer lock)) found c =
      ends shape state 1 (Newer lock) fits tt (omega arith)
  commit_falls (Clearing (refusal.Full lock)) found c =
      ends shape state 1 (Full lock) fits tt (omega arith)
  commit_falls Ending found c =
      let r = c.3 in ends shape state 1 (Committed (state.last + 1)) fits (omega arith) (omega arith)
