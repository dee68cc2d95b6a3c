-- A read that has taken a word: it fits, and fewer verbs are to come.
use Rattle.std.proofs.Common.{◌≡◌, ℕ, ◌<◌, List, refl}
use Rattle.std.specs.Prelude.{IsSome}
use Rattle.nam_verbs.specs.declared.now.Now.{Now}
use Rattle.nam_verbs.specs.declared.now.Now.TheVariants.{At, Over}
use Rattle.nam_verbs.specs.declared.verb.Verb.{Verb}
use Rattle.nam_verbs.specs.Now.{FitsNow, verb_now, after_now, left_now}
use Rattle.nam_verbs.proofs.TakenLemmas.{taken}
use Rattle.nam_calls.specs.declared.reading.Sight.{Sight}
use Rattle.nam_calls.specs.declared.reading.ReadPoint.{ReadPoint}
use Rattle.nam_calls.specs.declared.reading.ReadingEnd.{ReadingEnd}
use Rattle.nam_calls.specs.Reading.{read_after, read_left}
use Rattle.nam_calls.specs.Fits.{ReadFits, ReadEnds}
use Rattle.nam_calls.proofs.FallsRead.{read_falls}
use Rattle.nam_reader.specs.Reading.{StandsIn}

module _ (sight : Sight) where
  -- where one point fits, each point does that fits its place
  stands_too : (there : ReadPoint) (now : Now ReadPoint ReadingEnd) → StandsIn sight there
      → FitsNow (ReadFits sight) now → FitsNow (StandsIn sight) now
  stands_too there (At at) stands fits =
      record { sight_fits = stands.sight_fits; workers = stands.workers; at_fits = fits }
  stands_too there (Over end) stands fits = tt

  module _ (seen : List ℕ) (found : ℕ) where
    both : (at : ReadPoint) (new : Now ReadPoint ReadingEnd) → StandsIn sight at → new ≡ read_after sight seen at found
        → FitsNow (ReadFits sight) new × (left_now (read_left sight) new < read_left sight at)
    both at new stands goes =
        taken (ReadFits sight) (ReadEnds sight) (read_left sight) (λ here. read_after sight seen here found)
        (λ here fits. read_falls sight stands.sight_fits seen here found fits) (At at) new at stands.at_fits refl goes

    pub still_fits : (old new : Now ReadPoint ReadingEnd) → FitsNow (StandsIn sight) old
        → new ≡ after_now (read_after sight seen) old found → FitsNow (StandsIn sight) new
    still_fits (At at) new stands goes = stands_too at new stands (both at new stands goes).0
    still_fits (Over end) new stands goes = rw goes tt

    pub fewer_left : (verb : ReadPoint → Verb) (old new : Now ReadPoint ReadingEnd) → FitsNow (StandsIn sight) old
        → IsSome (verb_now verb old) → new ≡ after_now (read_after sight seen) old found
        → left_now (read_left sight) new < left_now (read_left sight) old
    fewer_left verb (At at) new stands some goes = (both at new stands goes).1
    fewer_left verb (Over end) new stands some goes = absurd (cc)
