-- What a read got.
use Rattle.std.specs.Prelude.{ℕ, List, Option, None}
use Rattle.nam_verbs.specs.declared.now.Now.{Now}
use Rattle.nam_verbs.specs.declared.now.Now.TheVariants.{Over}
use Rattle.nam_calls.specs.declared.reading.ReadPoint.{ReadPoint}
use Rattle.nam_calls.specs.declared.reading.ReadingEnd.{ReadingEnd}
use Rattle.nam_calls.specs.declared.reading.ReadingEnd.TheVariants.{Got}

-- the value of a read that has ended with one
abbrev pub value_in : Now ReadPoint ReadingEnd → Option (List ℕ)
value_in (Over (Got value)) = value
value_in _ = None
