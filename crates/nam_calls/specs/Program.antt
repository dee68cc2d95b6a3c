-- Calls as straight programs: verb after verb, each with what follows the word that it found.
use Rattle.std.specs.Prelude.{◌≡◌, ℕ, zero, suc, ◌+◌, List, [], ◌∷◌, ◌++◌, length}
use Rattle.nam_verbs.specs.declared.now.Now.{Now}
use Rattle.nam_verbs.specs.declared.now.Now.TheVariants.{At, Over}
use Rattle.nam_verbs.specs.VerbAt.{VerbAt, ReadAt, WriteAt, ExchangeAt}
use Rattle.nam_layout.specs.declared.field.Field.{Field}

pub data Prog (A : Type 0) : Type 0 where
  Ret : A → Prog A
  Do : VerbAt Field → (ℕ → Prog A) → Prog A

-- 1. One program after another

infixl 10 ◌>>=◌
abbrev pub ◌>>=◌ : {A B : Type 0} → Prog A → (A → Prog B) → Prog B
(Ret answer) >>= rest = rest answer
(Do verb next) >>= rest = Do verb (λ found. next found >>= rest)

infixl 10 ◌>>◌
abbrev pub ◌>>◌ : {A B : Type 0} → Prog A → Prog B → Prog B
first >> rest = first >>= (λ answer. rest)

-- 2. One verb

abbrev pub read : Field → Prog ℕ
read at = Do (ReadAt at) Ret

abbrev pub exchange : Field → ℕ → ℕ → Prog ℕ
exchange at expected new = Do (ExchangeAt at expected new) Ret

abbrev pub write : Field → ℕ → Prog (Unit {0})
write at word = Do (WriteAt at word) (λ found. Ret tt)

-- 3. Words one after another, of which the nth is this one

-- so many more after those got
abbrev pub words : (ℕ → Field) → ℕ → List ℕ → Prog (List ℕ)
words at zero got = Ret got
words at (suc rest) got = do
  word ← read (at (length got))
  words at rest (got ++ word ∷ [])

-- so many from the nth on
abbrev pub write_words : (ℕ → Field) → (ℕ → ℕ) → ℕ → ℕ → Prog (Unit {0})
write_words at word zero nth = Ret tt
write_words at word (suc rest) nth = do
  write (at nth) (word nth)
  write_words at word rest (nth + 1)

-- 4. A call does what a program says: where the program returns, the call is over, with that answer; where it has a
-- verb,
-- that verb stands, and whatever word it finds, the call goes on as the program does

module _ {S A : Type 0} (stands : S → Now (VerbAt Field) A) (after : S → ℕ → S) where
  abbrev pub IsProgram : S → Prog A → Type 0
  IsProgram call (Ret answer) = stands call ≡ Over answer
  IsProgram call (Do verb next) = (stands call ≡ At verb) × ((found : ℕ) → IsProgram (after call found) (next found))

  -- and it does what no other program says
  pub record IsTheProgram (call : S) (program : Prog A) : Type 0 where
    pub does : IsProgram call program
    pub only : (other : Prog A) → IsProgram call other → other ≡ program

module _ {P E : Type 0} where
  -- the verb of a call at a point, and the call after a word
  abbrev pub standing : (P → VerbAt Field) → Now P E → Now (VerbAt Field) E
  standing verb (At place) = At (verb place)
  standing verb (Over end) = Over end

  abbrev pub taking : (P → ℕ → Now P E) → Now P E → ℕ → Now P E
  taking after (At place) found = after place found
  taking after (Over end) found = Over end
