-- How a call ends, step by step.
use Rattle.std.specs.Prelude.{◌≡◌, ℕ, List, ◌⊎◌, Option, ⊤}
use Rattle.std.specs.Io.KnownBytes.{Appends}
use Rattle.nam_io.specs.Faults.{Rose}
use Rattle.nam_io.specs.Fronts.{AppendsFront}
use Rattle.namdb.specs.declared.status.Status.{Status}
use Rattle.namdb.specs.declared.status.Status.TheVariants.{Done, BadScript, WriteFault, Memory}
use Rattle.namdb.specs.Headline.{IsBadScript}

-- an input that was read whole may be answered so, if not by a report
abbrev pub IsAnswerToInput : List ℕ → Status → Type 0
IsAnswerToInput input (BadScript line kind) = IsBadScript input line kind
IsAnswerToInput input Memory = ⊤
IsAnswerToInput input status = ⊥

-- the status writes a line
abbrev pub HasLine : Status → Type 0
HasLine Done = ⊥
HasLine WriteFault = ⊥
HasLine Memory = ⊥
HasLine status = ⊤

-- the line of the status is made, which takes memory
abbrev pub MakesLine : Status → Type 0
MakesLine (BadScript line kind) = ⊤
MakesLine status = ⊥

-- a sink tells that this was taken, and counts so many faults, before and after: the text of the status went out
-- whole, or the sink failed and took a front of it
abbrev pub Sends : Option (List ℕ) → Option (List ℕ) → ℕ → ℕ → Status → List ℕ → Status → Type 0
Sends taken now faults faults_now status text result =
    ((result ≡ status) × Appends taken now text)
    ⊎ ((result ≡ WriteFault) × Rose faults faults_now × AppendsFront taken now text)
