-- At the opening loaded keys stand on their paths, and no other position was used.
use Rattle.std.proofs.Common.{List, None, Some, arith, inl, inr, map, refl, subst, sym, ℕ, ◌∙◌, ◌≡◌}
use Rattle.std.specs.Prelude.{if◌then◌else◌}
use Rattle.nam_calls.specs.Memory.{memory}
use Rattle.nam_catalog.specs.declared.form.Form.{Form}
use Rattle.nam_catalog.specs.declared.form.Form.TheVariants.{Held, Narrow, Wide}
use Rattle.nam_ghost.specs.Keys.{KeyClientOk}
use Rattle.nam_header.specs.Stamp.{blank_header, is_deleted}
use Rattle.nam_keys.specs.KeysLaw.{OpensLaw}
use Rattle.nam_layout.specs.Rows.{width_at}
use Rattle.nam_layout.specs.declared.field.Field.{Field}
use Rattle.nam_layout.specs.declared.field.Field.TheVariants.{Word}
use Rattle.nam_protocol.proofs.OpeningLemmas.{opening_law}
use Rattle.nam_protocol.specs.Opening.{opening_words}
use Rattle.nam_protocol.specs.Schedule.{numbers_from}
use Rattle.nam_protocol.specs.declared.client.ClientState.{ClientState}
use Rattle.nam_store.proofs.OpeningLemmas.{opening_client}
use Rattle.nam_store.proofs.KeysOpen as opened

-- the header of a position without a version has the deleted flag
blank_absent : (form : Form) (values : List ℕ) → (if is_deleted form blank_header then None else Some values) ≡ None
blank_absent Narrow values = refl
blank_absent Wide values = refl
blank_absent Held values = refl

pub keys_open : OpensLaw
keys_open shape limits rows loaded =
    let words = opening_words shape rows in
    let m : Field → ℕ = memory shape words in
    record {
      paths = opened.keys_open shape rows loaded;
      unused = λ row is none. elim ((opening_law shape rows loaded.of_tables).positions row is) [
        | inl free ↦
            let values = map (λ nth. m (Word row nth)) (numbers_from 0 (width_at shape.tables row)) in
            record {
              old = refl;
              absent = subst (λ header. (if is_deleted shape.form header then None else Some values) ≡ None)
                  (sym free.header) (blank_absent shape.form values);
              free = refl;
            }
        | inr has ↦ let e = sym has.2.key ∙ none in absurd (omega arith)
      ];
      clients = λ nth client e.
          subst (λ (c : ClientState). KeyClientOk shape m c) (sym (opening_client shape rows nth client e).1)
          record { at = tt; claims = tt; scanned = tt };
    }
