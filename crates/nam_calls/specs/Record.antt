-- The current version of a record: reading it, looking once more, its words alone, and installing the next version.
use Rattle.std.specs.Prelude.{if◌then◌else◌, ℕ, ◌+◌, ◌-◌, ◌==◌, ◌||◌, Bool, List, [], ◌∷◌, ◌++◌, length, slice_index}
use Rattle.std.specs.Prelude.{Option, Some, None}
use Rattle.nam_verbs.specs.declared.now.Now.{Now}
use Rattle.nam_verbs.specs.declared.now.Now.TheVariants.{At, Over}
use Rattle.nam_verbs.specs.Until.{until}
use Rattle.nam_verbs.specs.VerbAt.{VerbAt, ReadAt, WriteAt}
use Rattle.nam_header.specs.Stamp.{is_locked, is_deleted, same_stamp, sees}
use Rattle.nam_layout.specs.declared.field.Place.{Place}
use Rattle.nam_layout.specs.declared.field.Field.{Field}
use Rattle.nam_layout.specs.declared.field.Field.TheVariants as field
use Rattle.nam_calls.specs.declared.record.CurrentPoint.{CurrentPoint}
use Rattle.nam_calls.specs.declared.record.CurrentPoint.TheVariants.{CurrentHead, CurrentWords, CurrentAgain}
use Rattle.nam_calls.specs.declared.record.CurrentEnd.{CurrentEnd}
use Rattle.nam_calls.specs.declared.record.CurrentEnd.TheVariants.{Found, Unsure, GoOld}
use Rattle.nam_calls.specs.declared.record.InstallPoint.{InstallPoint}
use Rattle.nam_calls.specs.declared.record.InstallPoint.TheVariants.{InstallWord, InstallCount, InstallHead}
use Rattle.nam_calls.specs.Words.{wrapped}

-- 1. ReadCurrent: the header, the data words, the header again

abbrev pub current_begin : CurrentPoint
current_begin = CurrentHead

abbrev pub current_verb : Place → CurrentPoint → VerbAt Field
current_verb place CurrentHead = ReadAt (field.Header place.row)
current_verb place (CurrentWords header got) = ReadAt (field.Word place.row (length got))
current_verb place (CurrentAgain header value) = ReadAt (field.Header place.row)

abbrev pub current_after : Place → List ℕ → CurrentPoint → ℕ → Now CurrentPoint CurrentEnd
current_after place seen CurrentHead found =
    if sees place.form seen found
    then (if is_deleted place.form found then Over (Found None) else At (CurrentWords found []))
    else Over GoOld
current_after place seen (CurrentWords header got) found =
    At (until place.width (got ++ found ∷ []) (CurrentWords header) (CurrentAgain header))
current_after place seen (CurrentAgain header value) found =
    if same_stamp place.form found header
    then (if is_locked place.form header || is_locked place.form found then Over (Unsure value header)
    else Over (Found (Some value)))
    else Over GoOld

abbrev pub current_left : Place → CurrentPoint → ℕ
current_left place CurrentHead = place.width + 2
current_left place (CurrentWords header got) = place.width - length got + 1
current_left place (CurrentAgain header value) = 1

-- 2. Recheck: does the header still bear the stamp. There is one point

abbrev pub recheck_verb : Place → VerbAt Field
recheck_verb place = ReadAt (field.Header place.row)

abbrev pub recheck_end : Place → ℕ → ℕ → Bool
recheck_end place header found = same_stamp place.form found header

-- 3. ReadWords: the point is what was got

abbrev pub words_begin : List ℕ
words_begin = []

abbrev pub words_verb : Place → List ℕ → VerbAt Field
words_verb place got = ReadAt (field.Word place.row (length got))

abbrev pub words_after : Place → List ℕ → ℕ → Now (List ℕ) (List ℕ)
words_after place got found = until place.width (got ++ found ∷ []) At Over

abbrev pub words_left : Place → List ℕ → ℕ
words_left place got = place.width - length got

-- 4. Install: the data words, for a deletion none; the count; the header

abbrev pub install_begin : Option (List ℕ) → InstallPoint
install_begin None = InstallCount
install_begin (Some value) = InstallWord 0

-- a word of the value, and 0 of a deletion
abbrev pub word_in : Option (List ℕ) → ℕ → ℕ
word_in None nth = 0
word_in (Some value) nth = slice_index value nth

abbrev pub install_verb : Place → Option (List ℕ) → ℕ → ℕ → InstallPoint → VerbAt Field
install_verb place value count header (InstallWord nth) = WriteAt (field.Word place.row nth) (word_in value nth)
install_verb place value count header InstallCount = WriteAt (field.Count place.row) (wrapped (count + 1))
install_verb place value count header InstallHead = WriteAt (field.Header place.row) header

abbrev pub install_after : Place → InstallPoint → Now InstallPoint (Unit {0})
install_after place (InstallWord nth) = if nth + 1 == place.width then At InstallCount else At (InstallWord (nth + 1))
install_after place InstallCount = At InstallHead
install_after place InstallHead = Over tt

abbrev pub install_left : Place → InstallPoint → ℕ
install_left place (InstallWord nth) = place.width - nth + 2
install_left place InstallCount = 2
install_left place InstallHead = 1
