-- A script from its text: its lines in turn, up to the first bad one.
use Rattle.std.specs.Prelude.{◌≡◌, ℕ, ◌+◌, List, [], ◌∷◌, length, Result, Ok, Err, ◌&&◌, ◌==◌, if◌then◌else◌}
use Rattle.nam_text.specs.Fields.{lines_of}
use Rattle.nam_script.specs.declared.refusal.Kind.{Kind}
use Rattle.nam_script.specs.declared.refusal.Kind.TheVariants as kind
use Rattle.nam_script.specs.declared.refusal.LineEnd.{LineEnd}
use Rattle.nam_script.specs.declared.refusal.LineEnd.TheVariants as line_ends
use Rattle.nam_script.specs.declared.refusal.ParseEnd.{ParseEnd}
use Rattle.nam_script.specs.declared.refusal.ParseEnd.TheVariants as ends
use Rattle.nam_script.specs.declared.script.Stint.{Stint}
use Rattle.nam_script.specs.declared.script.Turns.{Turns}
use Rattle.nam_script.specs.declared.script.Turns.TheVariants as turns
use Rattle.nam_script.specs.declared.script.Script.{Script}
use Rattle.nam_script.specs.declared.draft.Draft.{Draft}
use Rattle.nam_script.specs.declared.stage.Stage.{Stage}
use Rattle.nam_script.specs.declared.stage.Stage.TheVariants as stage
use Rattle.nam_script.specs.Stages.{is_at, can_end}
use Rattle.nam_script.specs.Admit.{start, admit_text}

-- a bad line: its number and its kind
pub record Fault : Type 0 where
  pub line : ℕ
  pub kind : Kind

-- what follows line n, unless it is bad
abbrev pub at_line : ℕ → Result Draft Kind → (Draft → Result Draft Fault) → Result Draft Fault
at_line n (Ok d) go_on = go_on d
at_line n (Err k) go_on = Err (record { line = n; kind = k })

-- The lines from number n on, after a draft. What follows the last newline has to be empty, where a
-- script can end; else that line is cut.
unfoldable pub draft_from : ℕ → Draft → List (List ℕ) → Result Draft Fault
draft_from n d [] = Err (record { line = n; kind = kind.Cut })
draft_from n d (text ∷ []) =
    if length text == 0 && can_end d.stage then Ok d else Err (record { line = n; kind = kind.Cut })
draft_from n d (text ∷ next ∷ texts) = at_line n (admit_text d text) (λ e. draft_from (n + 1) e (next ∷ texts))

unfoldable pub draft_of : List ℕ → Result Draft Fault
draft_of text = draft_from 1 start (lines_of text)

-- the turns of the lines so far
abbrev pub turns_of : Stage → List Stint → ℕ → ℕ → Turns
turns_of st stints seed picks = if is_at st stage.Seed then turns.Seed seed picks else turns.List stints

-- the script of the lines so far
abbrev pub whole_script : Draft → Script
whole_script d =
    record {
      shape = d.shape;
      policy = d.policy;
      rows = d.body.rows;
      txns = d.body.txns;
      turns = turns_of d.stage
          d.body.stints d.body.seed d.body.picks;
    }

abbrev pub script_if : Result Draft Fault → Result Script Fault
script_if (Ok d) = Ok (whole_script d)
script_if (Err f) = Err f

-- the script that a text spells, or its first bad line with the first of its kinds
abbrev pub script_of : List ℕ → Result Script Fault
script_of text = script_if (draft_of text)

-- what was returned is what reading gives, unless memory ran out
abbrev pub Gives : Result Script ParseEnd → Result Script Fault → Type 0
Gives (Ok s) given = given ≡ Ok s
Gives (Err (ends.Bad line kind)) given = given ≡ Err (record { line = line; kind = kind })
Gives (Err ends.Memory) given = Unit {0}

-- the same of the lines so far
abbrev pub GivesDraft : Result Draft ParseEnd → Result Draft Fault → Type 0
GivesDraft (Ok d) given = given ≡ Ok d
GivesDraft (Err (ends.Bad line kind)) given = given ≡ Err (record { line = line; kind = kind })
GivesDraft (Err ends.Memory) given = Unit {0}

-- why a text was not read, where line n was not taken
abbrev pub end_at : ℕ → LineEnd → ParseEnd
end_at n (line_ends.Bad k) = ends.Bad n k
end_at n line_ends.Memory = ends.Memory
