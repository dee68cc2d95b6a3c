-- Each verb is at a field of the position, whatever words are found.
use Rattle.std.proofs.Common.{List, ℕ, Option, Some, None, refl, arith}
use Rattle.nam_verbs.specs.VerbAt.{target}
use Rattle.nam_verbs.specs.Falls.{Any}
use Rattle.nam_verbs.proofs.TakenLemmas.{holds_always}
use Rattle.nam_layout.specs.declared.field.Place.{Place}
use Rattle.nam_layout.specs.PlaceFits.{FitsPlace}
use Rattle.nam_layout.specs.Known.{IsOfPlace}
use Rattle.nam_calls.specs.Record.{current_verb, recheck_verb, words_verb, install_verb, install_begin}
use Rattle.nam_calls.specs.Fits.{CurrentFits, CurrentEnds, WordsFit, WordsEnd, InstallFits}
use Rattle.nam_calls.proofs.FallsMachines.{current_falls, words_fall, install_falls}
use Rattle.nam_calls.proofs.FieldLemmas.{current_field, install_field}
use Rattle.nam_record.specs.Current as current
use Rattle.nam_record.specs.Recheck as recheck
use Rattle.nam_record.specs.ReadWords as words
use Rattle.nam_record.specs.Install as install
use Rattle.nam_record.specs.CurrentLaw.{CurrentFieldLaw}
use Rattle.nam_record.specs.RecheckLaw.{RecheckFieldLaw}
use Rattle.nam_record.specs.WordsLaw.{WordsFieldLaw}
use Rattle.nam_record.specs.InstallLaw.{InstallFieldLaw}

pub current_fields : CurrentFieldLaw
current_fields place fits seen =
    holds_always (CurrentFits place) (CurrentEnds place) (current.running (current.reading_current place seen))
    (λ at here found. current_falls place fits seen at found here)
    (λ at. IsOfPlace place (target (current_verb place at))) tt (current_field place fits)

pub recheck_fields : RecheckFieldLaw
recheck_fields place header =
    holds_always Any Any (recheck.running (recheck.rechecking place header)) (λ at here found. (tt, omega arith))
    (λ at. IsOfPlace place (target (recheck_verb place))) tt (λ at here. refl)

pub words_fields : WordsFieldLaw
words_fields place fits =
    holds_always (WordsFit place) (WordsEnd place) (words.running (words.reading_words place))
    (λ got here found. words_fall place fits got found here)
    (λ got. IsOfPlace place (target (words_verb place got))) fits.least_width (λ got here. (refl, here))

begins : (place : Place) → FitsPlace place → (value : Option (List ℕ)) → InstallFits place (install_begin value)
begins place fits None = tt
begins place fits (Some value) = fits.least_width

pub install_fields : InstallFieldLaw
install_fields place fits value count header =
    holds_always (InstallFits place) Any (install.running (install.installing place value count header))
    (λ at here found. install_falls place fits at here)
    (λ at. IsOfPlace place (target (install_verb place value count header at))) (begins place fits value)
    (install_field place fits value count header)
