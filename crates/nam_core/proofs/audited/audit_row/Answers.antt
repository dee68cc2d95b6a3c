use Rattle.std.proofs.Common.{◌<◌, sym, subst}
use Rattle.nam_catalog.specs.Words.{words_of}
use Rattle.nam_layout.specs.declared.field.Place.{Place}
use Rattle.nam_layout.specs.declared.field.Field.TheVariants.{Key, Header}
use Rattle.nam_layout.specs.Rows.{row_of}
use Rattle.nam_layout.proofs.AddressLemmas.{found_there}
use Rattle.nam_calls.proofs.FieldLemmas.{row_within}
use Rattle.nam_core.proofs.audited.audit_row.Goals as goal

pub bounds-words-place : goal.bounds-words-place
bounds-words-place c =
    let shape = c.args.layout.now in
    let place = c.place-place.result in
    let at = c.requires.position in
    subst (λ n. place.key_at < n) (sym c.requires.long)
    (subst (λ (p : Place). p.key_at < words_of shape) (sym c.place-place.ensures.value)
    (found_there shape (Key (row_of shape.tables c.args.table c.args.position))
    (row_within shape c.args.table c.args.position at.0 at.1)).0)

pub bounds-words-place-2 : goal.bounds-words-place-2
bounds-words-place-2 c =
    let shape = c.args.layout.now in
    let place = c.place-place.result in
    let at = c.requires.position in
    subst (λ n. place.header_at < n) (sym c.requires.long)
    (subst (λ (p : Place). p.header_at < words_of shape) (sym c.place-place.ensures.value)
    (found_there shape (Header (row_of shape.tables c.args.table c.args.position))
    (row_within shape c.args.table c.args.position at.0 at.1)).0)
