use Rattle.nam_record.proofs.RecordLemmas.{words_tell, told_words}
use Rattle.nam_record.proofs.laws.words_law.Goals as goal

pub returns : goal.returns
returns c = λ place fits steps value.
    (words_tell place fits.least_width steps value, told_words place fits.least_width steps value)
