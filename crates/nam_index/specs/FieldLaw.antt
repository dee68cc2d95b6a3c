-- the key words of a table's rows, at their addresses
use Rattle.std.specs.Prelude.{◌≡◌, ℕ}
use Rattle.nam_verbs.specs.VerbAt.{target}
use Rattle.nam_verbs.specs.Machine.{Always}
use Rattle.nam_catalog.specs.declared.shape.Shape.{Shape}
use Rattle.nam_catalog.specs.Fits.{FitsLimits}
use Rattle.nam_layout.specs.declared.field.Field.{Field}
use Rattle.nam_layout.specs.declared.field.Field.TheVariants.{Key}
use Rattle.nam_layout.specs.Rows.{row_of}
use Rattle.nam_layout.specs.Address.{IsField, address}
use Rattle.nam_calls.specs.Words.{capacity_of, path_of}
use Rattle.nam_calls.specs.Index.{nth_position, nth_key, find_verb, claim_key_verb}
use Rattle.nam_calls.specs.Fits.{FindFits, IsTableOf}
use Rattle.nam_index.specs.Path.{path_address}
use Rattle.nam_index.specs.Find as find
use Rattle.nam_index.specs.Claim as claim

module _ (shape : Shape) (table key : ℕ) where
  -- the path knows where the field stands
  abbrev pub Stands : Field → Type 0
  Stands word = path_address (path_of shape table key) word ≡ address shape word

  -- the word is the key of one of the table's rows
  pub record IsKeyWord (word : Field) : Type 0 where
    pub passed : ℕ
    pub within : FindFits (capacity_of shape table) passed
    pub is_key : word ≡ Key (row_of shape.tables table (nth_position (path_of shape table key) passed))
    pub is_field : IsField shape word
    pub stands : Stands word

-- each key word of a path stands where its field stands
abbrev pub AddressLaw : Type 0
AddressLaw = (shape : Shape) → FitsLimits shape → (table : ℕ) → IsTableOf shape table → (key passed : ℕ)
    → FindFits (capacity_of shape table) passed → Stands shape table key (nth_key (path_of shape table key) passed)

-- whatever words are found, each verb reaches the key word of a row of the table
abbrev pub FindFieldLaw : Type 0
FindFieldLaw = (shape : Shape) → FitsLimits shape → (table : ℕ) → IsTableOf shape table → (key : ℕ)
    → Always (λ passed. IsKeyWord shape table key (target (find_verb (path_of shape table key) passed)))
    (find.running (find.finding shape table key))

abbrev pub ClaimFieldLaw : Type 0
ClaimFieldLaw = (shape : Shape) → FitsLimits shape → (table : ℕ) → IsTableOf shape table → (key : ℕ)
    → Always (λ at. IsKeyWord shape table key (target (claim_key_verb (path_of shape table key) at)))
    (claim.running (claim.claiming shape table key))
