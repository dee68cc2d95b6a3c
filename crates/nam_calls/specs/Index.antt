-- Finding the position of a key, and claiming one.
use Rattle.std.specs.Prelude.{if◌then◌else◌, ℕ, ◌+◌, ◌-◌, ◌*◌, ◌==◌, ◌||◌}
use Rattle.nam_verbs.specs.declared.now.Now.{Now}
use Rattle.nam_verbs.specs.declared.now.Now.TheVariants.{At, Over}
use Rattle.nam_verbs.specs.VerbAt.{VerbAt, ReadAt, ExchangeAt}
use Rattle.nam_layout.specs.declared.field.Field.{Field}
use Rattle.nam_layout.specs.declared.field.Field.TheVariants as field
use Rattle.nam_calls.specs.declared.index.FindEnd.{FindEnd}
use Rattle.nam_calls.specs.declared.index.ClaimKeyPoint.{ClaimKeyPoint}
use Rattle.nam_calls.specs.declared.index.ClaimKeyPoint.TheVariants.{KeyLook, KeyTake}
use Rattle.nam_calls.specs.declared.index.ClaimKeyEnd.{ClaimKeyEnd}
use Rattle.nam_calls.specs.Words.{on_path, key_word}
use Rattle.nam_calls.specs.declared.index.Path.{Path}
use Rattle.nam_calls.specs.declared.index.FindEnd.TheVariants as found_key
use Rattle.nam_calls.specs.declared.index.ClaimKeyEnd.TheVariants as claimed_key

-- the point of a search is the number of positions passed
abbrev pub find_begin : ℕ
find_begin = 0

abbrev pub claim_key_begin : ClaimKeyPoint
claim_key_begin = KeyLook 0

module _ (path : Path) where
  -- the position after so many others, and its key word
  abbrev pub nth_position : ℕ → ℕ
  nth_position passed = on_path path.capacity path.key passed

  abbrev pub nth_key : ℕ → Field
  nth_key passed = field.Key (path.row + nth_position passed)

  -- 1. Find

  abbrev pub find_verb : ℕ → VerbAt Field
  find_verb passed = ReadAt (nth_key passed)

  -- the key ends the search, a free position too, and so does the last of the path
  abbrev pub find_after : ℕ → ℕ → Now ℕ FindEnd
  find_after passed found =
      if found == key_word path.key then Over (found_key.At (nth_position passed))
      else if (found == 0) || (passed + 1 == path.capacity) then Over found_key.Absent
      else At (passed + 1)

  abbrev pub find_left : ℕ → ℕ
  find_left passed = path.capacity - passed

  -- 2. FindOrClaim: a free position is claimed by an exchange

  abbrev pub claim_key_verb : ClaimKeyPoint → VerbAt Field
  claim_key_verb (KeyLook passed) = ReadAt (nth_key passed)
  claim_key_verb (KeyTake passed) = ExchangeAt (nth_key passed) 0 (key_word path.key)

  abbrev pub claim_key_next : ℕ → Now ClaimKeyPoint ClaimKeyEnd
  claim_key_next passed =
      if passed + 1 == path.capacity then Over claimed_key.NoSpace else At (KeyLook (passed + 1))

  abbrev pub claim_key_after : ClaimKeyPoint → ℕ → Now ClaimKeyPoint ClaimKeyEnd
  claim_key_after (KeyLook passed) found =
      if found == key_word path.key then Over (claimed_key.At (nth_position passed))
      else if found == 0 then At (KeyTake passed)
      else claim_key_next passed
  claim_key_after (KeyTake passed) found =
      if (found == 0) || (found == key_word path.key) then Over (claimed_key.At (nth_position passed))
      else claim_key_next passed

  abbrev pub claim_key_left : ClaimKeyPoint → ℕ
  claim_key_left (KeyLook passed) = 2 * (path.capacity - passed - 1) + 2
  claim_key_left (KeyTake passed) = 2 * (path.capacity - passed - 1) + 1
