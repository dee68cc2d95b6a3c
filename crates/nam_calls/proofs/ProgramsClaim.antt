-- Finding and claiming the position of a key are their straight programs.
use Rattle.std.proofs.Common.{◌≡◌, ℕ, zero, suc, ◌+◌, ◌<◌, Bool, true, false, ◌||◌, refl, arith}
use Rattle.std.specs.Prelude.{if◌then◌else◌, ◌==◌}
use Rattle.nam_verbs.specs.declared.now.Now.{Now}
use Rattle.nam_verbs.specs.declared.now.Now.TheVariants.{At, Over}
use Rattle.nam_calls.specs.declared.index.FindEnd.{FindEnd}
use Rattle.nam_calls.specs.declared.index.ClaimKeyPoint.{ClaimKeyPoint}
use Rattle.nam_calls.specs.declared.index.ClaimKeyPoint.TheVariants.{KeyLook}
use Rattle.nam_calls.specs.declared.index.ClaimKeyEnd.{ClaimKeyEnd}
use Rattle.nam_calls.specs.Words.{key_word}
use Rattle.nam_calls.specs.Index.{find_verb, find_after, claim_key_verb, claim_key_after, claim_key_next}
use Rattle.nam_calls.specs.Program.{Prog, Ret, IsProgram, standing, taking}
use Rattle.nam_calls.specs.ProgramClaim.{find_from, claim_from, ClaimIsProgram}
use Rattle.nam_calls.proofs.Programs.{both, both_not, is_last, is_more, word_then, the_program}
use Rattle.nam_calls.specs.declared.index.Path.{Path}
use Rattle.nam_calls.specs.declared.index.FindEnd.TheVariants as found_key

module _ (path : Path) where
  -- 1. Find

  abbrev IsFind : Now ℕ FindEnd → Prog FindEnd → Type 0
  IsFind = IsProgram (standing (find_verb path)) (taking (find_after path))

  -- a free position ends the search, and the last one of the path does
  abbrev goes_on : ℕ → Bool → Now ℕ FindEnd
  goes_on passed free = if free || (passed + 1 == path.capacity) then Over found_key.Absent else At (passed + 1)

  free_or : (passed : ℕ) (free : Bool) (p : Prog FindEnd)
      → IsFind (if passed + 1 == path.capacity then Over found_key.Absent else At (passed + 1)) p
      → IsFind (goes_on passed free) (if free then Ret found_key.Absent else p)
  free_or passed true p f = refl
  free_or passed false p f = f

  find_at : (rest passed : ℕ) → passed + suc rest ≡ path.capacity
      → IsFind (At passed) (find_from path (suc rest) passed)
  find_at zero passed e =
      word_then refl λ found.
      both IsFind (found == key_word path.key) _ _ _ _ (λ t. refl) λ t.
      free_or passed (found == 0) _
      (is_last (λ call. IsFind call (find_from path zero (passed + 1))) passed path.capacity _ _ (omega arith) refl)
  find_at (suc rest) passed e =
      word_then refl λ found.
      both IsFind (found == key_word path.key) _ _ _ _ (λ t. refl) λ t.
      free_or passed (found == 0) _
      (is_more (λ call. IsFind call (find_from path (suc rest) (passed + 1))) passed path.capacity _ _ rest
      (omega arith)
      (find_at rest (passed + 1) (omega arith)))

  find_of : (count : ℕ) → count ≡ path.capacity → 0 < count → IsFind (At 0) (find_from path count 0)
  find_of zero e l = absurd (omega arith)
  find_of (suc rest) e l = find_at rest 0 (omega arith)

  -- 2. FindOrClaim

  abbrev IsClaim : Now ClaimKeyPoint ClaimKeyEnd → Prog ClaimKeyEnd → Type 0
  IsClaim = IsProgram (standing (claim_key_verb path)) (taking (claim_key_after path))

  position_is : (rest passed : ℕ) → IsClaim (claim_key_next path passed) (claim_from path rest (passed + 1))
      → IsClaim (At (KeyLook passed)) (claim_from path (suc rest) passed)
  position_is rest passed next =
      word_then refl λ found.
      both IsClaim (found == key_word path.key) _ _ _ _ (λ t. refl) λ t.
      both_not IsClaim (found == 0) _ _ _ _ (λ t. next) λ t.
      word_then refl λ word.
      both IsClaim ((word == 0) || (word == key_word path.key)) _ _ _ _ (λ t. refl) (λ t. next)

  claim_at : (rest passed : ℕ) → passed + suc rest ≡ path.capacity
      → IsClaim (At (KeyLook passed)) (claim_from path (suc rest) passed)
  claim_at zero passed e =
      position_is zero passed
      (is_last (λ call. IsClaim call (claim_from path zero (passed + 1))) passed path.capacity _ _ (omega arith) refl)
  claim_at (suc rest) passed e =
      position_is (suc rest) passed
      (is_more (λ call. IsClaim call (claim_from path (suc rest) (passed + 1))) passed path.capacity _ _ rest
      (omega arith)
      (claim_at rest (passed + 1) (omega arith)))

  claim_of : (count : ℕ) → count ≡ path.capacity → 0 < count → IsClaim (At (KeyLook 0)) (claim_from path count 0)
  claim_of zero e l = absurd (omega arith)
  claim_of (suc rest) e l = claim_at rest 0 (omega arith)

pub claims_are_programs : ClaimIsProgram
claims_are_programs = record {
  find = λ path l. the_program (standing (find_verb path)) (taking (find_after path)) _ _
      (find_of path path.capacity refl l);
  claim = λ path l. the_program (standing (claim_key_verb path)) (taking (claim_key_after path)) _ _
      (claim_of path path.capacity refl l);
}
