-- What a copy writes.
use Rattle.std.proofs.Common.{[], ◌∷◌, refl, arith}
use Rattle.nam_verbs.specs.declared.now.Now.TheVariants.{At}
use Rattle.nam_verbs.proofs.WritingLemmas.{writes_words}
use Rattle.nam_verbs.specs.VerbAt.{WriteAt}
use Rattle.nam_layout.specs.Place.{slot_of}
use Rattle.nam_layout.specs.declared.field.Field.TheVariants as field
use Rattle.nam_calls.specs.declared.ring.CopyPoint.TheVariants.{CopyWord, CopyHead}
use Rattle.nam_calls.specs.Ring.{copy_verb, copy_after}
use Rattle.nam_ring.specs.CopyLaw.{CopyLaw}

pub copy_writes : CopyLaw
copy_writes place fits count header old wide ending =
    let some = fits.least_width in (
      refl,
      λ found. (
        refl,
        λ found. writes_words (copy_verb place count header old ending) (λ at found. copy_after place at)
            (field.SlotWord place.row (slot_of place count)) old CopyWord (At CopyHead) (λ nth. refl)
            (λ nth found. rw wide refl)
            (WriteAt (field.SlotHeader place.row (slot_of place count)) header ∷ []) tt (refl, λ found. refl)
            (omega arith),
      ),
    )
