-- A verb at a field changes that field's word and no other.
use Rattle.std.proofs.Common.{ℕ, List, refl, arith, length-set, get_or-set_same, get_or-set_other}
use Rattle.std.specs.Prelude.{◌==◌}
use Rattle.nam_verbs.specs.VerbAt.{ReadAt, WriteAt, ExchangeAt}
use Rattle.nam_catalog.specs.declared.shape.Shape.{Shape}
use Rattle.nam_layout.specs.declared.field.Field.{Field}
use Rattle.nam_layout.specs.Address.{address}
use Rattle.nam_layout.proofs.AddressLemmas.{found_there, are_one}
use Rattle.nam_calls.proofs.Programs.{both}
use Rattle.nam_calls.specs.Memory.{memory, Changes, StoreLaw, MemoryLaw}

pub store_changes : StoreLaw
store_changes shape words field word whole is = record {
  here = get_or-set_same words (address shape field) word 0 (let less = (found_there shape field is).0 in omega arith);
  others = λ other of_shape apart.
      get_or-set_other words (address shape field) (address shape other) word 0
      (λ same. apart (are_one shape other field of_shape is same));
  whole = length-set words (address shape field) word;
}

-- nothing is changed
stays : (shape : Shape) (words : List ℕ) (field : Field)
    → Changes shape words words field (memory shape words field)
stays shape words field = record { here = refl; others = λ other is apart. refl; whole = refl }

pub verb_changes : MemoryLaw
verb_changes shape words (ReadAt at) whole is = (refl, stays shape words at)
verb_changes shape words (WriteAt at word) whole is = (refl, store_changes shape words at word whole is)
verb_changes shape words (ExchangeAt at expect word) whole is = (
  refl,
  both (λ (after : List ℕ) (left : ℕ). Changes shape words after at left) (memory shape words at == expect) _ _ _ _
      (λ same. store_changes shape words at word whole is) (λ other. stays shape words at),
)
