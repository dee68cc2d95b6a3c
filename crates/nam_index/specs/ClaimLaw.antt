-- when a position is found or claimed for a key, and when a table has no space for it
use Rattle.std.specs.Prelude.{◌≡◌, ◌≢◌, ◌↔◌, ℕ, List, [], ◌∷◌}
use Rattle.nam_verbs.specs.Steps.{Step, saw, tried, EndsWith, Stretches, StopsAt}
use Rattle.nam_catalog.specs.declared.shape.Shape.{Shape}
use Rattle.nam_catalog.specs.Fits.{FitsLimits}
use Rattle.nam_layout.specs.declared.field.Field.{Field}
use Rattle.nam_calls.specs.declared.index.ClaimKeyEnd.TheVariants.{At, NoSpace}
use Rattle.nam_calls.specs.declared.index.Path.{Path}
use Rattle.nam_calls.specs.Words.{key_word, path_of}
use Rattle.nam_calls.specs.Index.{nth_position, nth_key}
use Rattle.nam_calls.specs.Fits.{IsTableOf}
use Rattle.nam_index.specs.Claim.{claiming, running}

module _ (path : Path) where
  -- a position of the path was found to bear no key, and its exchange for the key found this word
  abbrev pub exchange_steps : ℕ → ℕ → List (Step Field)
  exchange_steps nth word = saw (nth_key path nth) 0 ∷ tried (nth_key path nth) 0 (key_word path.key) word ∷ []

  -- the position bears another key: it was read, or the exchange was lost to it
  pub data OtherHas (nth : ℕ) (steps : List (Step Field)) : Type 0 where
    by_look : (word : ℕ) → word ≢ 0 → word ≢ key_word path.key → steps ≡ saw (nth_key path nth) word ∷ []
        → OtherHas nth steps
    by_loss : (word : ℕ) → word ≢ 0 → word ≢ key_word path.key → steps ≡ exchange_steps nth word → OtherHas nth steps

  -- the position bears the key: it was read, or the exchange was done, or lost to the same key
  pub data KeyHas (position nth : ℕ) (steps : List (Step Field)) : Type 0 where
    was_there : position ≡ nth_position path nth → steps ≡ saw (nth_key path nth) (key_word path.key) ∷ []
        → KeyHas position nth steps
    is_claimed : position ≡ nth_position path nth → steps ≡ exchange_steps nth 0 → KeyHas position nth steps
    was_claimed : position ≡ nth_position path nth → steps ≡ exchange_steps nth (key_word path.key)
        → KeyHas position nth steps

-- at a position exactly where it was found to bear the key or was claimed, after each before it on the path was found
-- to bear another
abbrev pub ClaimedLaw : Type 0
ClaimedLaw = (shape : Shape) → FitsLimits shape → (table : ℕ) → IsTableOf shape table
    → (key : ℕ) (steps : List (Step Field)) (position : ℕ) → let path = path_of shape table key in
    EndsWith (running (claiming shape table key)) steps (At position)
    ↔ StopsAt (OtherHas path) (KeyHas path position) path.capacity steps

-- no space exactly where all positions were found to bear other keys
abbrev pub NoSpaceLaw : Type 0
NoSpaceLaw = (shape : Shape) → FitsLimits shape → (table : ℕ) → IsTableOf shape table
    → (key : ℕ) (steps : List (Step Field)) → let path = path_of shape table key in
    EndsWith (running (claiming shape table key)) steps NoSpace
    ↔ Stretches (OtherHas path) 0 path.capacity steps
