-- each verb is at the header of a record's row
use Rattle.std.proofs.Common.{◌≡◌, refl, sym, ap, subst, arith, ℕ, ◌<◌, List, [], length}
use Rattle.std.specs.Prelude.{◌==◌, All, slice_index}
use Rattle.std.proofs.lemmas.List.{length-map, get_or-map}
use Rattle.std.proofs.lemmas.Bool.Decides.{nat_tests}
use Rattle.nam_verbs.specs.declared.verb.Verb.TheVariants.{Read, Write, Exchange}
use Rattle.nam_verbs.specs.declared.now.Now.TheVariants.{At, Over}
use Rattle.nam_verbs.specs.Now.{FitsNow}
use Rattle.nam_verbs.specs.Falls.{Any}
use Rattle.nam_verbs.specs.Machine.{Always}
use Rattle.nam_verbs.proofs.TakenLemmas.{holds_always}
use Rattle.nam_verbs.proofs.TestLemmas.{by_test}
use Rattle.nam_catalog.specs.declared.shape.Shape.{Shape}
use Rattle.nam_layout.specs.declared.field.Place.{Place}
use Rattle.nam_layout.specs.Address.{IsRow, IsField, address}
use Rattle.nam_layout.specs.Place.{place_at, no_place}
use Rattle.nam_header.specs.Stamp.{with_lock}
use Rattle.nam_calls.specs.declared.lock.LockPoint.{LockPoint}
use Rattle.nam_calls.specs.declared.lock.LockPoint.TheVariants.{Peek, Seize, GiveBack}
use Rattle.nam_calls.specs.declared.lock.LockEnd.TheVariants.{Held}
use Rattle.nam_calls.specs.Lock.{locks_at, of_locks, nth_place, header_field, lock_verb_by, lock_verb, lock_next, unlock_verb_by}
use Rattle.nam_calls.specs.Lock.{unlock_verb, unlock_begin}
use Rattle.nam_calls.specs.Fits.{LockFits, LockEnds}
use Rattle.nam_calls.proofs.FallsLocks.{unlock_falls}
use Rattle.nam_lock.specs.Headers.{header_address}
use Rattle.nam_lock.specs.Locking as lock
use Rattle.nam_lock.specs.Unlocking as unlock
use Rattle.nam_lock.specs.FieldLaw.{places_of, IsAtField}
use Rattle.nam_lock.proofs.TakenLemmas.{word_falls}

module _ (shape : Shape) (rows : List ℕ) (are : All (IsRow shape) rows) where
  abbrev places : List Place
  places = places_of shape rows

  abbrev HasHeader : Place → Type 0
  HasHeader place = (header_address place ≡ address shape (header_field place)) × IsField shape (header_field place)

  has_header : (nth : ℕ) → nth < length places → HasHeader (nth_place places nth)
  has_header nth within =
      let of_rows : nth < length rows = omega (arith, within, length-map rows (place_at shape)) in
      subst HasHeader (sym (get_or-map (place_at shape) rows nth 0 no_place of_rows)) (refl, are nth 0 of_rows)

  -- 1. Locking

  lock_at_field : (worker : ℕ) (held : List ℕ) (at : LockPoint) → LockFits (length places) held at
      → IsAtField shape (lock_verb_by (λ place. place) worker places held at) (lock_verb worker places held at)
  lock_at_field worker held Peek fits =
      let has = has_header (length held) fits in record { same = ap Read has.0; is_field = has.1 }
  lock_at_field worker held (Seize header) fits =
      let has = has_header (length held) fits in
      let word = with_lock (nth_place places (length held)).form worker header in
      record { same = ap (λ n. Exchange n header word) has.0; is_field = has.1 }
  lock_at_field worker held (GiveBack given found) fits =
      let has = has_header given (omega (arith, fits.0, fits.1)) in
      record { same = ap (λ n. Write n (slice_index held given)) has.0; is_field = has.1 }

  lock_begins : FitsNow (of_locks (LockFits (length places))) (lock_next places [])
  lock_begins =
      by_test (FitsNow (of_locks (LockFits (length places)))) (length {A = ℕ} [] == length places) (Over (Held []))
      (At (locks_at [] Peek)) (λ none. tt) (λ some. grind (arith, nat_tests))

  pub locks_at_fields : (worker : ℕ) (seen : List ℕ)
      → Always (λ locks. IsAtField shape (of_locks (lock_verb_by (λ place. place) worker places) locks)
      (of_locks (lock_verb worker places) locks))
      (lock.running (lock.locking worker places seen))
  locks_at_fields worker seen =
      holds_always (of_locks (LockFits (length places))) (LockEnds (length places))
      (lock.running (lock.locking worker places seen))
      (λ locks fits found. word_falls places seen found locks.held locks.at fits) _ lock_begins
      (λ locks fits. lock_at_field worker locks.held locks.at fits)

  -- 2. Writing back

  unlock_begins : FitsNow (λ given. given < length places) (unlock_begin places)
  unlock_begins =
      by_test (FitsNow (λ given. given < length places)) (length places == 0) (Over tt) (At 0) (λ none. tt)
      (λ some. grind (arith, nat_tests))

  pub unlocks_at_fields : (headers : List ℕ)
      → Always (λ given. IsAtField shape (unlock_verb_by (λ place. place) places headers given)
      (unlock_verb places headers given)) (unlock.running (unlock.unlocking places headers))
  unlocks_at_fields headers =
      holds_always (λ given. given < length places) Any (unlock.running (unlock.unlocking places headers))
      (λ given fits found. unlock_falls places given fits) _ unlock_begins
      (λ given fits. let has = has_header given fits in
      record { same = ap (λ n. Write n (slice_index headers given)) has.0; is_field = has.1 })
