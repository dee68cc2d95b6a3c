-- Words that make a whole commit last as long as it can.
use Rattle.std.proofs.Common.{◌≡◌, ℕ, zero, suc, ◌+◌, ◌-◌, ◌*◌, ◌<◌, ◌≤◌, List, [], ◌∷◌, ◌++◌, length, take, drop, refl}
use Rattle.std.proofs.Common.{arith, ap, length-append, Bool, true, false, is_some}
use Rattle.std.proofs.lemmas.Bool.{eq-eqb}
use Rattle.std.proofs.lemmas.Bool.Decides.{nat_tests}
use Rattle.std.specs.Prelude.{if◌then◌else◌, ◌==◌}
use Rattle.nam_verbs.specs.declared.now.Now.TheVariants.{At, Over}
use Rattle.nam_verbs.proofs.TestLemmas.{by_test}
use Rattle.nam_catalog.specs.declared.shape.Shape.{Shape}
use Rattle.nam_catalog.specs.Fits.{FitsLimits}
use Rattle.nam_header.specs.Stamp.{is_locked, is_moved, sees}
use Rattle.nam_layout.specs.declared.field.Place.{Place}
use Rattle.nam_layout.specs.Place.{slot_of}
use Rattle.nam_calls.specs.declared.lock.LockPoint.TheVariants.{Peek, Seize}
use Rattle.nam_calls.specs.declared.lock.LockEnd.TheVariants as lock_end
use Rattle.nam_calls.specs.declared.ring.SlotPoint.TheVariants.{CheckCount, CheckHead}
use Rattle.nam_calls.specs.declared.ring.SlotEnd.TheVariants.{Free, NotMoved}
use Rattle.nam_calls.specs.Lock.{nth_place, locks_at, lock_next, give_back}
use Rattle.nam_protocol.specs.declared.txn.TxnState.{TxnState}
use Rattle.nam_protocol.specs.declared.txn.CommitPoint.TheVariants.{Locking, Checking, Saving, Publishing}
use Rattle.nam_protocol.specs.declared.txn.CommitPoint.TheVariants.{Counting, Deciding}
use Rattle.nam_protocol.specs.Commit.{records_of, places, record_place, value_at, tells_intent, go, on_lock, checked}
use Rattle.nam_protocol.specs.Commit.{next_check, on_slot}
use Rattle.nam_protocol.specs.Bound.{installs_most, publish_most, rest_from, listed_most, clear_left}
use Rattle.nam_protocol.specs.Bound.{of_intent, after_checks}
use Rattle.nam_protocol.specs.TxnFits.{StateFits}
use Rattle.nam_protocol.proofs.FallsKeys.{nth_fits}
use Rattle.nam_longest.specs.Deletions.{spared_from}
use Rattle.nam_longest.proofs.CommitToCome.{within, as_many, later_spared, none_spared, nth_spared}
use Rattle.nam_longest.proofs.LastsMachines.{on_true, on_false, sees_0}
use Rattle.nam_longest.proofs.LastsTxn.{TxnLasts}
use Rattle.nam_longest.proofs.LastsCommit.{unlocked_0, moved_4, then_lasts, publish_lasts, record_lasts}

-- the nth of the first so many is copied and installed before the others
taken_install : (n nth : ℕ) (ps : List Place) → nth < n → nth < length ps
    → installs_most (drop nth (take n ps))
    ≡ 3 * (nth_place ps nth).width + 5 + installs_most (drop (suc nth) (take n ps))
taken_install zero nth ps l m = absurd (omega arith)
taken_install (suc n) nth [] l m = absurd (omega arith)
taken_install (suc n) zero (p ∷ ps) l m = refl
taken_install (suc n) (suc nth) (p ∷ ps) l m = taken_install n nth ps (omega arith) (omega arith)

all_taken : (n : ℕ) (ps : List Place) → installs_most (drop n (take n ps)) ≡ 0
all_taken zero ps = refl
all_taken (suc n) [] = refl
all_taken (suc n) (p ∷ ps) = all_taken n ps

-- what isn't written is listed by its row and kind
pub guard_listed : (nth : ℕ) (ps : List Place) → nth < length ps
    → listed_most 0 (drop nth ps) ≡ 2 + listed_most 0 (drop (suc nth) ps)
guard_listed nth [] l = absurd (omega arith)
guard_listed zero (p ∷ ps) l = refl
guard_listed (suc nth) (p ∷ ps) l = guard_listed nth ps (omega arith)

pub all_listed : (n nth : ℕ) (ps : List Place) → length ps ≤ nth → listed_most n (drop nth ps) ≡ 0
all_listed zero zero [] l = refl
all_listed (suc n) zero [] l = refl
all_listed zero (suc nth) [] l = refl
all_listed (suc n) (suc nth) [] l = refl
all_listed n zero (p ∷ ps) l = absurd (omega arith)
all_listed n (suc nth) (p ∷ ps) l = all_listed n nth ps (omega arith)

module _ (shape : Shape) (limits : FitsLimits shape) (state : TxnState) (fits : StateFits shape state)
    (are : state.records ≡ records_of state) (some : 1 ≤ length state.writes) where
  abbrev writes : ℕ
  writes = length state.writes

  abbrev records : ℕ
  records = length state.records

  abbrev clear : ℕ
  clear = clear_left state

  pub wide : (nth : ℕ) → nth < writes → 1 ≤ (record_place state nth).width
  wide nth l =
      let w = within shape limits state fits are some in
      (nth_fits shape state fits are limits nth (omega arith)).least_width

  -- 1. The records

  nth_rest : (nth : ℕ) → nth < writes
      → rest_from state nth ≡ 3 * (record_place state nth).width + 5 + rest_from state (nth + 1)
  nth_rest nth l =
      let w = within shape limits state fits are some in
      let e = as_many shape limits state fits are some in
      let t = taken_install writes nth (places state) l (omega arith) in
      let same : suc nth ≡ nth + 1 = omega arith in
      let next = ap (rest_from state) same in
      omega arith

  pub spares : (nth : ℕ) → nth < writes
      → (if is_some (value_at state nth) then (record_place state nth).width else 0)
      + (if is_some (value_at state nth) then 0 else (record_place state nth).width)
      ≡ (record_place state nth).width
  spares nth l = both (is_some (value_at state nth)) (record_place state nth).width
    where
      both : (b : Bool) (width : ℕ) → (if b then width else 0) + (if b then 0 else width) ≡ width
      both true width = omega arith
      both false width = omega arith

  records_last : (rest nth m : ℕ) → nth + suc rest ≡ writes → m + spared_from state nth ≡ rest_from state nth + clear
      → TxnLasts shape (go state (Saving nth [])) m
  records_last zero nth m e f =
      let w = within shape limits state fits are some in
      let r = nth_rest nth (omega arith) in
      let s = nth_spared shape limits state fits are some nth (omega arith) in
      let b = spares nth (omega arith) in
      let all : nth + 1 ≡ writes = omega arith in
      let n = none_spared shape limits state fits are some (nth + 1) (omega arith) in
      let t = ap (rest_from state) all in
      let a = all_taken writes (places state) in
      record_lasts shape state nth (wide nth (omega arith)) (publish_most state + clear) m (omega arith)
      (on_true (λ step. TxnLasts shape step (publish_most state + clear)) (nth + 1 == length state.writes)
      (go state Publishing) (go state (Saving (nth + 1) [])) (eq-eqb (nth + 1) writes all)
      (publish_lasts shape state w))
  records_last (suc rest) nth m e f =
      let r = nth_rest nth (omega arith) in
      let s = nth_spared shape limits state fits are some nth (omega arith) in
      let b = spares nth (omega arith) in
      let part = if is_some (value_at state nth) then (record_place state nth).width else 0 in
      let n = m - (part + (2 * (record_place state nth).width + 5)) in
      let least = later_spared shape limits state fits are some (nth + 1) in
      record_lasts shape state nth (wide nth (omega arith)) n m (omega arith)
      (on_false (λ step. TxnLasts shape step n) (nth + 1 == length state.writes) (go state Publishing)
      (go state (Saving (nth + 1) [])) (grind (arith, nat_tests))
      (records_last rest (nth + 1) n (omega arith) (omega arith)))

  -- 2. The decision and the counts, where an intent is told

  decision_lasts : (m : ℕ) → m + spared_from state 0 ≡ 1 + rest_from state 0 + clear
      → TxnLasts shape (go state Deciding) m
  decision_lasts m e =
      let s = later_spared shape limits state fits are some 0 in
      then_lasts shape state Deciding 0 (m - 1) m (omega arith) (omega arith)
      (records_last (writes - 1) 0 (m - 1) (omega arith) (omega arith))

  counts_last : (rest nth m : ℕ) → nth + suc rest ≡ writes
      → m + spared_from state 0 ≡ suc rest + 1 + rest_from state 0 + clear
      → TxnLasts shape (go state (Counting nth)) m
  counts_last zero nth m e f =
      let s = later_spared shape limits state fits are some 0 in
      then_lasts shape state (Counting nth) 0 (m - 1) m (omega arith) (omega arith)
      (on_true (λ step. TxnLasts shape step (m - 1)) (nth + 1 == length state.writes) (go state Deciding)
      (go state (Counting (nth + 1))) (eq-eqb (nth + 1) writes (omega arith)) (decision_lasts (m - 1) (omega arith)))
  counts_last (suc rest) nth m e f =
      let s = later_spared shape limits state fits are some 0 in
      then_lasts shape state (Counting nth) 0 (m - 1) m (omega arith) (omega arith)
      (on_false (λ step. TxnLasts shape step (m - 1)) (nth + 1 == length state.writes) (go state Deciding)
      (go state (Counting (nth + 1))) (grind (arith, nat_tests))
      (counts_last rest (nth + 1) (m - 1) (omega arith) (omega arith)))

  told : tells_intent state ≡ true → of_intent state (writes + 1) ≡ writes + 1
  told e = ap (λ (b : Bool). if b then writes + 1 else 0) e

  untold : tells_intent state ≡ false → of_intent state (writes + 1) ≡ 0
  untold e = ap (λ (b : Bool). if b then writes + 1 else 0) e

  pub checked_lasts : (m : ℕ) → m + spared_from state 0 ≡ after_checks state + clear → TxnLasts shape (checked state) m
  checked_lasts m e =
      by_test (λ step. TxnLasts shape step m) (tells_intent state) (go state (Counting 0)) (go state (Saving 0 []))
      (λ t. let o = told t in counts_last (writes - 1) 0 m (omega arith) (omega arith))
      (λ t. let o = untold t in records_last (writes - 1) 0 m (omega arith) (omega arith))

-- 3. The slots and the locks

module _ (shape : Shape) where
  slot_free : (state : TxnState) (n m : ℕ) (counts : List ℕ) → m ≡ n + 2
      → TxnLasts shape (next_check (record state { counts = counts ++ 0 ∷ [] })) n
      → TxnLasts shape (go (record state { counts = counts }) (Checking CheckCount)) m
  slot_free state n m counts e next =
      let now = record state { counts = counts } in
      let place = record_place state (length counts) in
      then_lasts shape now (Checking CheckCount) 0 (n + 1) m (omega arith) (omega arith)
      (then_lasts shape now (Checking (CheckHead 0)) 4 n (n + 1) (omega arith) refl
      (on_true (λ end. TxnLasts shape (on_slot now end) n) (is_moved place.form 4) (Over (Free 0))
      (Over (NotMoved (slot_of place 0) 4)) (moved_4 place.form) next))

  pub slots_last : (state : TxnState) (rest n m : ℕ) (counts : List ℕ) → length counts + suc rest ≡ length state.writes
      → m ≡ n + 2 * suc rest
      → ((all : List ℕ) → TxnLasts shape (checked (record state { counts = all })) n)
      → TxnLasts shape (go (record state { counts = counts }) (Checking CheckCount)) m
  slots_last state zero n m counts e f next =
      let all = counts ++ 0 ∷ [] in
      let long : length all ≡ length counts + 1 = length-append counts (0 ∷ []) in
      slot_free state n m counts (omega arith)
      (on_true (λ step. TxnLasts shape step n) (length all == length state.writes)
      (checked (record state { counts = all })) (go (record state { counts = all }) (Checking CheckCount))
      (eq-eqb (length all) (length state.writes) (omega arith)) (next all))
  slots_last state (suc rest) n m counts e f next =
      let all = counts ++ 0 ∷ [] in
      let long : length all ≡ length counts + 1 = length-append counts (0 ∷ []) in
      slot_free state (n + 2 * suc rest) m counts (omega arith)
      (on_false (λ step. TxnLasts shape step (n + 2 * suc rest)) (length all == length state.writes)
      (checked (record state { counts = all })) (go (record state { counts = all }) (Checking CheckCount))
      (grind (arith, nat_tests)) (slots_last state rest n (n + 2 * suc rest) all (omega arith) refl next))

  lock_taken : (state : TxnState) (n m : ℕ) (held : List ℕ) → m ≡ n + 2
      → TxnLasts shape (on_lock (record state { held = held }) (lock_next (places state) (held ++ 0 ∷ []))) n
      → TxnLasts shape (go (record state { held = held }) (Locking Peek)) m
  lock_taken state n m held e next =
      let now = record state { held = held } in
      let form = (nth_place (places state) (length held)).form in
      then_lasts shape now (Locking Peek) 0 (n + 1) m (omega arith) (omega arith)
      (on_false (λ end. TxnLasts shape (on_lock now end) (n + 1)) (is_locked form 0) (give_back (places state) held 0 0)
      (if sees form state.seen 0 then At (locks_at held (Seize 0)) else give_back (places state) held 0 0)
      (unlocked_0 form)
      (on_true (λ end. TxnLasts shape (on_lock now end) (n + 1)) (sees form state.seen 0) (At (locks_at held (Seize 0)))
      (give_back (places state) held 0 0) (sees_0 form state.seen)
      (then_lasts shape now (Locking (Seize 0)) 0 n (n + 1) (omega arith) refl next)))

  pub locks_last : (state : TxnState) (rest n m : ℕ) (held : List ℕ) → length held + suc rest ≡ length (places state)
      → m ≡ n + 2 * suc rest
      → ((all : List ℕ) → TxnLasts shape (go (record state { held = all }) (Checking CheckCount)) n)
      → TxnLasts shape (go (record state { held = held }) (Locking Peek)) m
  locks_last state zero n m held e f next =
      let all = held ++ 0 ∷ [] in
      let long : length all ≡ length held + 1 = length-append held (0 ∷ []) in
      lock_taken state n m held (omega arith)
      (on_true (λ end. TxnLasts shape (on_lock (record state { held = held }) end) n)
      (length all == length (places state)) (Over (lock_end.Held all)) (At (locks_at all Peek))
      (eq-eqb (length all) (length (places state)) (omega arith)) (next all))
  locks_last state (suc rest) n m held e f next =
      let all = held ++ 0 ∷ [] in
      let long : length all ≡ length held + 1 = length-append held (0 ∷ []) in
      lock_taken state (n + 2 * suc rest) m held (omega arith)
      (on_false (λ end. TxnLasts shape (on_lock (record state { held = held }) end) (n + 2 * suc rest))
      (length all == length (places state)) (Over (lock_end.Held all)) (At (locks_at all Peek))
      (grind (arith, nat_tests)) (locks_last state rest n (n + 2 * suc rest) all (omega arith) refl next))
