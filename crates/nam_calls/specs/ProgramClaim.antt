-- Finding and claiming the position of a key as straight programs, to be compared with the order of verbs.
use Rattle.std.specs.Prelude.{if◌then◌else◌, ℕ, zero, suc, ◌+◌, ◌<◌, ◌==◌, ◌||◌, not}
use Rattle.nam_verbs.specs.declared.now.Now.TheVariants.{At}
use Rattle.nam_calls.specs.declared.index.FindEnd.{FindEnd}
use Rattle.nam_calls.specs.declared.index.ClaimKeyEnd.{ClaimKeyEnd}
use Rattle.nam_calls.specs.Words.{key_word}
use Rattle.nam_calls.specs.Index.{nth_position, nth_key, find_begin, find_verb, find_after, claim_key_begin}
use Rattle.nam_calls.specs.Index.{claim_key_verb, claim_key_after}
use Rattle.nam_calls.specs.Program.{Prog, Ret, ◌>>=◌, read, exchange, IsTheProgram, standing, taking}
use Rattle.nam_calls.specs.declared.index.Path.{Path}
use Rattle.nam_calls.specs.declared.index.FindEnd.TheVariants as found_key
use Rattle.nam_calls.specs.declared.index.ClaimKeyEnd.TheVariants as claimed_key

module _ (path : Path) where
  -- so many positions of the key's path, from this one on
  abbrev pub find_from : ℕ → ℕ → Prog FindEnd
  find_from zero passed = Ret found_key.Absent
  find_from (suc rest) passed =
      read (nth_key path passed) >>= λ found.
      if found == key_word path.key then Ret (found_key.At (nth_position path passed)) else
      if found == 0 then Ret found_key.Absent else find_from rest (passed + 1)

  abbrev pub claim_from : ℕ → ℕ → Prog ClaimKeyEnd
  claim_from zero passed = Ret claimed_key.NoSpace
  claim_from (suc rest) passed =
      read (nth_key path passed) >>= λ found.
      if found == key_word path.key then Ret (claimed_key.At (nth_position path passed)) else
      if not (found == 0) then claim_from rest (passed + 1) else
      exchange (nth_key path passed) 0 (key_word path.key) >>= λ word.
      if (word == 0) || (word == key_word path.key) then Ret (claimed_key.At (nth_position path passed))
      else claim_from rest (passed + 1)

  abbrev pub find_program : Prog FindEnd
  find_program = find_from path.capacity 0

  abbrev pub claim_program : Prog ClaimKeyEnd
  claim_program = claim_from path.capacity 0

-- in a table that has positions, the search for a key and the claim of its position do what their programs say
pub record ClaimIsProgram : Type 0 where
  pub find : (path : Path) → 0 < path.capacity
      → IsTheProgram (standing (find_verb path)) (taking (find_after path)) (At find_begin)
      (find_program path)
  pub claim : (path : Path) → 0 < path.capacity
      → IsTheProgram (standing (claim_key_verb path)) (taking (claim_key_after path)) (At claim_key_begin)
      (claim_program path)
