-- The writes of a filling.
use Rattle.std.proofs.Common.{◌≡◌, ℕ, ◌<◌, [], length, refl, arith}
use Rattle.std.proofs.lemmas.List.{append-nil}
use Rattle.nam_verbs.specs.declared.now.Now.TheVariants.{At, Over}
use Rattle.nam_verbs.specs.Steps.{Does}
use Rattle.nam_verbs.proofs.WritingLemmas.{writes_words}
use Rattle.nam_layout.specs.declared.field.Cells.{Cells}
use Rattle.nam_layout.specs.declared.field.Field.TheVariants as field
use Rattle.nam_calls.specs.declared.overflow.Version.{Version}
use Rattle.nam_calls.specs.declared.overflow.FillPoint.TheVariants.{FillOwner, FillWord}
use Rattle.nam_calls.specs.Overflow.{fill_verb, fill_after}
use Rattle.nam_overflow.specs.FillLaw.{fill_verbs}

-- the writes of a cell, where the version has so many words
pub fills : (cells : Cells) (cell owner : ℕ) (version : Version) (width : ℕ) → length version.value ≡ width → 0 < width
    → Does (fill_verb cells cell owner version) (λ at found. fill_after width at) (At FillOwner)
    (fill_verbs cells cell owner version.begin version.«end» version.value) tt
fills cells cell owner version width wide some =
    let words = writes_words (fill_verb cells cell owner version) (λ at found. fill_after width at)
    (field.CellWord cells.bucket cell) version.value FillWord
    (Over tt) (λ nth. refl) (λ nth found. rw wide refl) [] tt refl (omega arith) in
    (refl, λ owned. (refl, λ begun. (refl, λ ended. rw append-nil at words)))
