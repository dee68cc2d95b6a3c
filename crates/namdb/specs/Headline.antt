-- What the program promises of its words, its input and what it writes.
use Rattle.std.specs.Prelude.{◌≡◌, ◌≤◌, ◌<◌, ◌⊎◌, ℕ, List, [], length, codes, IfSome, slice_get, Result, Ok, Err}
use Rattle.std.specs.Prelude.{Option, Some, None, String, string_bytes, ⊤}
use Rattle.std.specs.declared.alloc.Global.{Global}
use Rattle.nam_io.specs.Faults.{Rose}
use Rattle.nam_io.specs.Fronts.{LosesFront}
use Rattle.si_model.specs.declared.report.Report.{Report}
use Rattle.si_model.specs.Run.{IsRun}
use Rattle.nam_script.specs.declared.script.Script.{Script}
use Rattle.nam_script.specs.declared.refusal.Kind.{Kind}
use Rattle.nam_script.specs.Text.{IsSpelt}
use Rattle.nam_script.specs.Limits.{IsScript}
use Rattle.nam_script.specs.Parse.{Fault, script_of}
use Rattle.nam_line.specs.Plan.{Line}
use Rattle.nam_report.specs.Fits.{FitsScript}
use Rattle.nam_report.specs.Text.{report_text}
use Rattle.nam_simulation.specs.SimulatedText.{IsSimulatedText}
use Rattle.namdb.specs.declared.command.Command.{Command}
use Rattle.namdb.specs.declared.command.Command.TheVariants.{Run, Sim}
use Rattle.namdb.specs.declared.status.Status.{Status}
use Rattle.namdb.specs.declared.status.Status.TheVariants.{Done, Usage, BadScript, ReadFault, Memory, TooLong}
use Rattle.nam_script.specs.ScriptSetting.{setting_of}
use Rattle.namdb.specs.Status.{line_of}

-- the text is that of a report which is a run of the script
pub record IsRunText (script : Script) (text : List ℕ) : Type 0 where
  pub report : Report
  pub run : IsRun (setting_of script) report
  pub fits : FitsScript script report
  pub written : text ≡ report_text script.shape.tables report

-- what a command writes for a script: `run` such a text, and `sim` that of the simulated run under these lines
abbrev pub IsTextFor : Command → List Line → Script → List ℕ → Type 0
IsTextFor Run lines script text = IsRunText script text
IsTextFor Sim lines script text = IsSimulatedText script lines text

-- the text is what the command writes for the script that the input spells
pub record IsReportOn (command : Command) (lines : List Line) (input text : List ℕ) : Type 0 where
  pub script : Script
  pub read : script_of input ≡ Ok script
  pub spelt : IsSpelt script input
  pub limits : IsScript script
  pub report : IsTextFor command lines script text

abbrev pub command_word : Command → List ℕ
command_word Run = codes "run"
command_word Sim = codes "sim"

-- the program's name and the command's word
abbrev pub AreWordsFor : List (String Global) → Command → Type 0
AreWordsFor words command =
    (length words ≡ 2) × IfSome (slice_get words 1) (λ word. string_bytes word ≡ command_word command)

abbrev pub AreWords : List (String Global) → Type 0
AreWords words = (command : Command) × AreWordsFor words command

-- the input is all that was left of a source that tells that, and nothing is left now
abbrev pub IsAllThatWasLeft : Option (List ℕ) → Option (List ℕ) → List ℕ → Type 0
IsAllThatWasLeft None now input = ⊤
IsAllThatWasLeft (Some left) now input = (left ≡ input) × (now ≡ Some [])

-- the whole input was read, which has at most 1,048,576 bytes
abbrev pub IsWholeInput : Option (List ℕ) → Option (List ℕ) → List ℕ → Type 0
IsWholeInput left now input = IsAllThatWasLeft left now input × (length input ≤ 1048576)

-- the input is no script: its first bad line, and the first of that line's kinds of fault
abbrev pub IsBadScript : List ℕ → ℕ → Kind → Type 0
IsBadScript input line kind = script_of input ≡ Err (record { line = line; kind = kind })

-- without a fault of source or sink: a script is answered by its report, any other input by its first bad line, or
-- memory is not found
abbrev pub IsAnsweredBy : Result Script Fault → Status → Type 0
IsAnsweredBy (Ok script) status = (status ≡ Done) ⊎ (status ≡ Memory)
IsAnsweredBy (Err fault) status = (status ≡ BadScript fault.line fault.kind) ⊎ (status ≡ Memory)

-- more than 1,048,576 bytes were left, and one more than these was read
abbrev pub HasTooMuch : Option (List ℕ) → Option (List ℕ) → Type 0
HasTooMuch left now = IfSome left (λ bytes. 1048576 < length bytes) × LosesFront left now (λ n. n ≡ 1048577)

-- at most 1,048,576 bytes were read
abbrev pub HasAtMost : Option (List ℕ) → Option (List ℕ) → Type 0
HasAtMost left now = LosesFront left now (λ n. n ≤ 1048576)

-- a call with these words, before and after which the source tells that this is left, may be done under these lines,
-- and have written this text
abbrev pub MayBeDone : List (String Global) → Option (List ℕ) → Option (List ℕ) → List Line → List ℕ → Type 0
MayBeDone words left now lines text =
    (command : Command) × AreWordsFor words command
    × ((input : List ℕ) × IsWholeInput left now input × IsReportOn command lines input text)

-- Of a call with these words, before and after which the source tells that this is left, and counts so many faults:
module _ (words : List (String Global)) (left now : Option (List ℕ)) (faults faults_now : ℕ) where
  -- it may be refused so
  abbrev pub MayRefuse : Status → Type 0
  MayRefuse Usage = (AreWords words → ⊥) × (now ≡ left)
  MayRefuse (BadScript line kind) = AreWords words
      × ((input : List ℕ) × IsWholeInput left now input × IsBadScript input line kind)
  MayRefuse ReadFault = AreWords words × Rose faults faults_now × HasAtMost left now
  MayRefuse TooLong = AreWords words × HasTooMuch left now
  MayRefuse Memory = AreWords words × HasAtMost left now
  MayRefuse status = ⊥

  -- it may end so with this text. (`Memory` and `WriteFault` have none of their own.)
  abbrev pub MayWrite : List Line → Status → List ℕ → Type 0
  MayWrite lines Done text = MayBeDone words left now lines text
  MayWrite lines Memory text = ⊥
  MayWrite lines status text = MayRefuse status × (text ≡ line_of status)
