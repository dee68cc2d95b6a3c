-- The verbs to come fall in the machines of locks.
use Rattle.std.proofs.Common.{◌≡◌, ℕ, ◌+◌, ◌-◌, ◌<◌, ◌≤◌, List, [], ◌∷◌, ◌++◌, length, length-append, arith}
use Rattle.std.specs.Prelude.{if◌then◌else◌, ◌==◌}
use Rattle.std.proofs.lemmas.Bool.Decides.{nat_tests}
use Rattle.nam_verbs.specs.declared.now.Now.{Now}
use Rattle.nam_verbs.specs.declared.now.Now.TheVariants.{At, Over}
use Rattle.nam_verbs.proofs.TestLemmas.{by_test}
use Rattle.nam_verbs.specs.Falls.{FallsTo, Falls, Any}
use Rattle.nam_catalog.specs.declared.form.Form.{Form}
use Rattle.nam_header.specs.Stamp.{is_locked, sees}
use Rattle.nam_layout.specs.declared.field.Place.{Place}
use Rattle.nam_calls.specs.declared.lock.LockPoint.{LockPoint}
use Rattle.nam_calls.specs.declared.lock.Locks.{Locks}
use Rattle.nam_calls.specs.declared.lock.LockPoint.TheVariants.{Peek, Seize, GiveBack}
use Rattle.nam_calls.specs.declared.lock.LockEnd.{LockEnd}
use Rattle.nam_calls.specs.declared.lock.LockEnd.TheVariants.{Held, Locked, Newer}
use Rattle.nam_calls.specs.Lock.{locks_at, of_locks, nth_place, loss_of, give_back, lock_next, lock_after, lock_left}
use Rattle.nam_calls.specs.Lock.{unlock_after, unlock_left}
use Rattle.nam_calls.specs.Fits.{LockFits, LockEnds, after_locks}
use Rattle.nam_calls.proofs.FallsTests.{either, or_last}

module _ (places : List Place) (rest : ℕ) (enough : length places ≤ rest) where
  abbrev pub LockFalls : ℕ → Now Locks LockEnd → Type 0
  LockFalls =
      FallsTo (of_locks (LockFits (length places))) (LockEnds (length places)) (of_locks (lock_left places rest))
      (after_locks rest)

  loss_falls : (form : Form) (nth found n : ℕ) → nth < length places → 0 < n
      → LockFalls n (Over (loss_of form nth found))
  loss_falls form nth found n l m =
      either (λ end. LockEnds (length places) end × (after_locks rest end < n)) (is_locked form found)
      (Locked nth found) (Newer nth found) (l, m)
      (l, m)

  give_back_falls : (held : List ℕ) (given found n : ℕ) → length held < length places → given ≤ length held
      → length held - given < n
      → LockFalls n (give_back places held given found)
  give_back_falls held given found n l m r =
      by_test (LockFalls n) (given == length held)
      (Over (loss_of (nth_place places (length held)).form (length held) found))
      (At (locks_at held (GiveBack given found)))
      (λ e. loss_falls (nth_place places (length held)).form (length held) found n l (omega arith))
      (λ e. let f : given < length held = grind (arith, nat_tests) in ((l, f), r))

  pub lock_falls : (seen held : List ℕ) (at : LockPoint) (found : ℕ) → LockFits (length places) held at
      → LockFalls (lock_left places rest held at) (lock_after places seen held at found)
  lock_falls seen held Peek found l =
      let n = lock_left places rest held Peek in
      let form = (nth_place places (length held)).form in
      let back = give_back_falls held 0 found n l (omega arith) (omega arith) in
      either (LockFalls n) (is_locked form found) (give_back places held 0 found)
      (if sees form seen found then At (locks_at held (Seize found)) else give_back places held 0 found)
      back (either (LockFalls n) (sees form seen found) (At (locks_at held (Seize found)))
      (give_back places held 0 found) (l, omega arith) back)
  lock_falls seen held (Seize header) found l =
      let n = lock_left places rest held (Seize header) in
      let all = held ++ header ∷ [] in
      let long : length all ≡ length held + 1 = length-append held (header ∷ []) in
      either (LockFalls n) (found == header) (lock_next places all) (give_back places held 0 found)
      (by_test (LockFalls n) (length all == length places) (Over (Held all)) (At (locks_at all Peek))
      (λ e. let f : length all ≡ length places = grind (arith, nat_tests) in (f, omega arith))
      (λ e. let f : length all < length places = grind (arith, nat_tests) in (f, omega arith)))
      (give_back_falls held 0 found n l (omega arith) (omega arith))
  lock_falls seen held (GiveBack given found) word l =
      give_back_falls held (given + 1) found _ l.0 (let m = l.1 in omega arith) (let m = l.1 in omega arith)

module _ (places : List Place) where
  abbrev pub UnlockFalls : ℕ → Now ℕ (Unit {0}) → Type 0
  UnlockFalls = Falls (λ given. given < length places) Any (unlock_left places)

  pub unlock_falls : (given : ℕ) → given < length places
      → UnlockFalls (unlock_left places given) (unlock_after places given)
  unlock_falls given l =
      or_last (UnlockFalls (unlock_left places given)) (length places) given (Over tt) (At (given + 1)) l
      (λ e. (tt, omega arith))
      (λ e. (e, omega arith))
