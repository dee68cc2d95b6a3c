use Rattle.std.proofs.Common.{◌≡◌, sym, ◌∙◌, ap, refl, false, true, length, arith, inl, inr}
use Rattle.std.specs.Prelude.{◌==◌}
use Rattle.nam_catalog.specs.Greatest.{greatest_number}
use Rattle.nam_protocol.specs.Commit.{committing, has_intents}
use Rattle.nam_commit.proofs.RecordsLemmas.{few_records, begins_so, some_written}
use Rattle.nam_commit.proofs.asking.begin.Goals as goal

pub fill_records-requires : goal.fill_records-requires
fill_records-requires c = few_records c.args.layout.now c.args.state.now c.requires

pub returns-in-Narrow : goal.returns-in-Narrow
returns-in-Narrow c words =
    let shape = c.args.layout.now in
    let state = c.args.state.now in
    let some : (length state.writes == 0) ≡ false
    = some_written state.writes c.is_empty.result c.is_empty.ensures c.if-is_empty.false in
    let left : (state.last == greatest_number shape.form) ≡ false
    = grind (arith, c.if-state-greatest.false, c.greatest.ensures, c.form-form.ensures) in
    let form : has_intents shape.form ≡ false = elim c.in-Narrow.is [
      | inl e ↦ ap has_intents (sym c.form-form.ensures ∙ e)
      | inr e ↦ ap has_intents (sym c.form-form.ensures ∙ e)
    ] in
    begins_so shape state _ false c.requires some left form
    (rw c.fill_records.ensures (rw c.clear.ensures (rw c.clear-2.ensures refl)))

pub returns-in-Held : goal.returns-in-Held
returns-in-Held c words =
    let shape = c.args.layout.now in
    let state = c.args.state.now in
    let some : (length state.writes == 0) ≡ false
    = some_written state.writes c.is_empty.result c.is_empty.ensures c.if-is_empty.false in
    let left : (state.last == greatest_number shape.form) ≡ false
    = grind (arith, c.if-state-greatest.false, c.greatest.ensures, c.form-form.ensures) in
    let form : has_intents shape.form ≡ true = ap has_intents (sym c.form-form.ensures ∙ c.in-Held.is) in
    begins_so shape state _ true c.requires some left form
    (rw c.fill_records.ensures (rw c.clear.ensures (rw c.clear-2.ensures refl)))
