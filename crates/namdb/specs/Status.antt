-- How a call of the program ends, and the line that it writes if it is refused.
use Rattle.std.specs.Prelude.{ℕ, List, [], ◌++◌, codes}
use Rattle.std.specs.Fmt.{decimal}
use Rattle.nam_io.specs.declared.read_end.ReadEnd.{ReadEnd}
use Rattle.nam_io.specs.declared.read_end.ReadEnd.TheVariants as end
use Rattle.nam_script.specs.declared.refusal.Kind.{Kind}
use Rattle.nam_script.specs.declared.refusal.Kind.TheVariants.{Cut, Word, Name, Range, Twice, Size, Json}
use Rattle.nam_script.specs.declared.refusal.ParseEnd.{ParseEnd}
use Rattle.nam_script.specs.declared.refusal.ParseEnd.TheVariants as parse
use Rattle.namdb.specs.declared.status.Status.{Status}
use Rattle.namdb.specs.declared.status.Status.TheVariants.{Done, Usage, BadScript, ReadFault, WriteFault, Memory}
use Rattle.namdb.specs.declared.status.Status.TheVariants.{TooLong}

-- the status with which the process exits
abbrev pub code_of : Status → ℕ
code_of Done = 0
code_of Usage = 2
code_of (BadScript line kind) = 3
code_of ReadFault = 4
code_of WriteFault = 5
code_of Memory = 6
code_of TooLong = 7

-- how the call ends where its input was not read
abbrev pub status_of_read : ReadEnd → Status
status_of_read end.ReadFault = ReadFault
status_of_read end.TooLong = TooLong
status_of_read end.Memory = Memory

-- how it ends where its input is no script
abbrev pub status_of_parse : ParseEnd → Status
status_of_parse (parse.Bad line kind) = BadScript line kind
status_of_parse parse.Memory = Memory

-- the word for what is wrong with a line of a script
abbrev pub kind_word : Kind → List ℕ
kind_word Cut = codes "cut"
kind_word Word = codes "word"
kind_word Name = codes "name"
kind_word Range = codes "range"
kind_word Twice = codes "twice"
kind_word Size = codes "size"
kind_word Json = codes "json"

-- the line that names a bad line of a script
abbrev pub script_line : ℕ → Kind → List ℕ
script_line line kind = codes "error script " ++ decimal line ++ codes " " ++ kind_word kind ++ codes "\n"

-- the line of a refusal
abbrev pub line_of : Status → List ℕ
line_of Usage = codes "error usage\n"
line_of (BadScript line kind) = script_line line kind
line_of ReadFault = codes "error read\n"
line_of TooLong = codes "error long\n"
line_of status = []
