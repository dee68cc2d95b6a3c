-- Addresses are distinct, and fill 0 to the number of words, less 1.
use Rattle.std.specs.Prelude.{◌≡◌, ℕ, ◌<◌}
use Rattle.nam_catalog.specs.declared.shape.Shape.{Shape}
use Rattle.nam_catalog.specs.Words.{words_of}
use Rattle.nam_layout.specs.declared.field.Field.{Field}
use Rattle.nam_layout.specs.Address.{IsField, address}
use Rattle.nam_layout.specs.FieldAt.{field_at}

-- each field has an address, and is the field of it
abbrev pub FieldLaw : Type 0
FieldLaw =
    (shape : Shape) (f : Field) → IsField shape f
    → (address shape f < words_of shape) × (field_at shape (address shape f) ≡ f)

-- each address has a field, and is the address of it
abbrev pub AddressLaw : Type 0
AddressLaw =
    (shape : Shape) (at : ℕ) → at < words_of shape
    → IsField shape (field_at shape at) × (address shape (field_at shape at) ≡ at)

-- fields with one address are one
abbrev pub DistinctLaw : Type 0
DistinctLaw =
    (shape : Shape) (f g : Field) → IsField shape f → IsField shape g → address shape f ≡ address shape g → f ≡ g
