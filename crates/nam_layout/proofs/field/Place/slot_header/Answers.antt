use Rattle.std.proofs.Common.{refl}
use Rattle.nam_layout.specs.declared.field.Field.TheVariants.{SlotHeader}
use Rattle.nam_layout.proofs.PlaceLemmas.{place_within}
use Rattle.nam_layout.proofs.field.Place.slot_header.Goals as goal

pub returns-clause-within : goal.returns-clause-within
returns-clause-within c =
    let place = c.args.self.now in
    rw c.slot_words.ensures
    (place_within place (SlotHeader place.row c.args.slot) c.requires.fits (refl, c.requires.slot))
