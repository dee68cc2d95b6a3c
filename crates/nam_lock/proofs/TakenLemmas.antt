-- how many locks a locking has taken, and that its verbs fall.
use Rattle.std.proofs.Common.{◌≡◌, ◌∙◌, refl, arith}
use Rattle.std.proofs.Common.{ℕ, ◌+◌, List, [], ◌∷◌, ◌++◌, length}
use Rattle.std.specs.Prelude.{◌==◌, if◌then◌else◌}
use Rattle.std.proofs.lemmas.List.{length-append}
use Rattle.nam_verbs.specs.declared.now.Now.{Now}
use Rattle.nam_verbs.specs.declared.now.Now.TheVariants.{At, Over}
use Rattle.nam_verbs.specs.Machine.{after_words}
use Rattle.nam_verbs.specs.Running.{Running, next_verb}
use Rattle.nam_verbs.specs.Falls.{FallsTo, Falls}
use Rattle.nam_verbs.proofs.TestLemmas.{by_test}
use Rattle.nam_header.specs.Stamp.{sees, is_locked}
use Rattle.nam_layout.specs.declared.field.Place.{Place}
use Rattle.nam_calls.specs.declared.lock.LockPoint.{LockPoint}
use Rattle.nam_calls.specs.declared.lock.Locks.{Locks}
use Rattle.nam_calls.specs.declared.lock.LockPoint.TheVariants.{Peek, Seize, GiveBack}
use Rattle.nam_calls.specs.declared.lock.LockEnd.{LockEnd}
use Rattle.nam_calls.specs.declared.lock.LockEnd.TheVariants.{Held, Locked, Newer}
use Rattle.nam_calls.specs.Lock.{locks_at, of_locks, nth_place, lock_next, lock_after, lock_left, loss_of, give_back}
use Rattle.nam_calls.specs.Fits.{LockFits, LockEnds}
use Rattle.nam_calls.proofs.FallsLocks.{lock_falls}
use Rattle.nam_lock.specs.Locking.{running, taken_by}
use Rattle.nam_lock.specs.TakenLaw.{stored, exchanges}

-- 1. Locks

module _ (worker : ℕ) (places : List Place) (seen : List ℕ) where
  abbrev call : Now Locks LockEnd → Running Place Locks LockEnd
  call state = running (record { worker = worker; places = places; seen = seen; state = state })

  abbrev taken_after : Now Locks LockEnd → List ℕ → ℕ
  taken_after state words = taken_by (after_words (call state) words).state

  back_takes : (held : List ℕ) (given found : ℕ) → taken_by (give_back places held given found) ≡ length held
  back_takes held given found =
      let n = length held in
      let form = (nth_place places n).form in
      let lost = by_test (λ end. taken_by (Over end) ≡ n) (is_locked form found) (Locked n found) (Newer n found)
      (λ test. refl) (λ test. refl) in
      by_test (λ now. taken_by now ≡ n) (given == n) (Over (loss_of form n found)) (At (locks_at held (GiveBack given found)))
      (λ last. lost) (λ more. refl)

  next_takes : (held : List ℕ) → taken_by (lock_next places held) ≡ length held
  next_takes held =
      by_test (λ now. taken_by now ≡ length held) (length held == length places) (Over (Held held)) (At (locks_at held Peek))
      (λ last. refl) (λ more. refl)

  -- one word more
  word_takes : (held : List ℕ) (at : LockPoint) (found : ℕ)
      → taken_by (lock_after places seen held at found)
      ≡ length held + stored (next_verb (call (At (locks_at held at)))) found
  word_takes held Peek found =
      let form = (nth_place places (length held)).form in
      let back = give_back places held 0 found in
      let Claim = λ (now : Now Locks LockEnd). taken_by now ≡ length held + 0 in
      let returned : Claim back = back_takes held 0 found ∙ omega arith in
      by_test Claim (is_locked form found) back (if sees form seen found then At (locks_at held (Seize found)) else back)
      (λ taken. returned)
      (λ unlocked.
      by_test Claim (sees form seen found) (At (locks_at held (Seize found))) back (λ visible. omega arith) (λ unseen. returned))
  word_takes held (Seize header) found =
      let more = held ++ header ∷ [] in
      let Claim = λ (now : Now Locks LockEnd). taken_by now ≡ length held + (if found == header then 1 else 0) in
      by_test Claim (found == header) (lock_next places more) (give_back places held 0 found)
      (λ same. next_takes more ∙ length-append held (header ∷ []) ∙ rw same refl)
      (λ other. back_takes held 0 found ∙ rw other (omega arith))
  word_takes held (GiveBack given found) word = back_takes held (given + 1) found ∙ omega arith

  ended_takes : (end : LockEnd) (words : List ℕ)
      → taken_after (Over end) words ≡ taken_by (Over end) + exchanges (call (Over end)) words
  ended_takes end [] = omega arith
  ended_takes end (word ∷ words) = ended_takes end words ∙ omega arith

  words_take : (words : List ℕ) (state : Now Locks LockEnd)
      → taken_after state words ≡ taken_by state + exchanges (call state) words
  words_take [] state = omega arith
  words_take (word ∷ words) (At locks) =
      let one = word_takes locks.held locks.at word in
      let later = words_take words (lock_after places seen locks.held locks.at word) in omega arith
  words_take (word ∷ words) (Over end) = ended_takes end (word ∷ words)

  pub start_takes : (words : List ℕ)
      → taken_after (lock_next places []) words ≡ exchanges (call (lock_next places [])) words
  start_takes words = let none = next_takes [] in let all = words_take words (lock_next places []) in omega arith

-- 2. Verbs to come, where nothing follows the locks

module _ (places : List Place) where
  abbrev LockFalls : ℕ → Now Locks LockEnd → Type 0
  LockFalls =
      Falls (of_locks (LockFits (length places))) (LockEnds (length places))
      (of_locks (lock_left places (length places)))

  ends_fall : (after : LockEnd → ℕ) (n : ℕ) (now : Now Locks LockEnd)
      → FallsTo (of_locks (LockFits (length places))) (LockEnds (length places))
      (of_locks (lock_left places (length places))) after n now
      → LockFalls n now
  ends_fall after n (At at) falls = falls
  ends_fall after n (Over end) falls = (falls.0, omega (arith, falls.1))

  pub word_falls : (seen : List ℕ) (found : ℕ) (held : List ℕ) (at : LockPoint) → LockFits (length places) held at
      → LockFalls (lock_left places (length places) held at) (lock_after places seen held at found)
  word_falls seen found held at fits =
      ends_fall _ _ _ (lock_falls places (length places) (omega arith) seen held at found fits)
