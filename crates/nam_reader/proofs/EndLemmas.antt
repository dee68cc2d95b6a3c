-- How a read ended, by the end without the words of its value.
use Rattle.std.proofs.Common.{◌≡◌, ℕ, refl, Some, None}
use Rattle.nam_verbs.specs.declared.now.Now.{Now}
use Rattle.nam_verbs.specs.declared.now.Now.TheVariants.{At, Over}
use Rattle.nam_calls.specs.declared.reading.ReadPoint.{ReadPoint}
use Rattle.nam_calls.specs.declared.reading.ReadingEnd.{ReadingEnd}
use Rattle.nam_calls.specs.declared.reading.ReadingEnd.TheVariants.{Got, Passed}
use Rattle.nam_calls.specs.declared.reading.ReadingEnd.TheVariants as reading_end
use Rattle.nam_reader.specs.declared.end.ReaderEnd.TheVariants.{Absent, TooOld, Astray}
use Rattle.nam_reader.specs.Reading.{ended}

pub ended_absent : (state : Now ReadPoint ReadingEnd) → ended state ≡ Some Absent → state ≡ Over (Got None)
ended_absent (At at) is = absurd (cc)
ended_absent (Over (Got None)) is = refl
ended_absent (Over (Got (Some value))) is = absurd (cc)
ended_absent (Over (Passed worker entry horizon)) is = absurd (cc)
ended_absent (Over reading_end.Astray) is = absurd (cc)

pub ended_too_old : (worker entry horizon : ℕ) (state : Now ReadPoint ReadingEnd)
    → ended state ≡ Some (TooOld worker entry horizon) → state ≡ Over (Passed worker entry horizon)
ended_too_old worker entry horizon (At at) is = absurd (cc)
ended_too_old worker entry horizon (Over (Got None)) is = absurd (cc)
ended_too_old worker entry horizon (Over (Got (Some value))) is = absurd (cc)
ended_too_old worker entry horizon (Over (Passed w e h)) is = cc
ended_too_old worker entry horizon (Over reading_end.Astray) is = absurd (cc)

pub ended_astray : (state : Now ReadPoint ReadingEnd) → ended state ≡ Some Astray → state ≡ Over reading_end.Astray
ended_astray (At at) is = absurd (cc)
ended_astray (Over (Got None)) is = absurd (cc)
ended_astray (Over (Got (Some value))) is = absurd (cc)
ended_astray (Over (Passed worker entry horizon)) is = absurd (cc)
ended_astray (Over reading_end.Astray) is = refl
