-- The source and the sink in memory.
use Rattle.std.specs.Prelude.{ℕ, ◌-◌, ◌==◌, min, List, ◌++◌, length, take, drop, if◌then◌else◌}
use Rattle.nam_io.specs.Calls.{Calls, after_call, after_fault}

-- what is left, the greatest number of bytes in a call, and the calls
pub record SourceState : Type 0 where
  pub left : List ℕ
  pub piece : ℕ
  pub calls : Calls

-- how many bytes a call gives that is asked for as many as these
abbrev pub read_count : SourceState → ℕ → ℕ
read_count source asked = min (min asked source.piece) (length source.left)

-- the source after a call that gave n bytes
abbrev pub after_read : SourceState → ℕ → SourceState
after_read source n = record source { left = drop n source.left; calls = after_call source.calls }

-- what was taken, how many bytes may be, the greatest number of bytes in a call, and the calls
pub record SinkState : Type 0 where
  pub taken : List ℕ
  pub room : ℕ
  pub piece : ℕ
  pub calls : Calls

-- how many bytes a call takes that is given as many as these
abbrev pub write_count : SinkState → ℕ → ℕ
write_count sink given = min (min given sink.piece) (sink.room - length sink.taken)

-- the calls after one that took n bytes: to take none is a fault
abbrev pub after_taking : Calls → ℕ → Calls
after_taking calls n = if n == 0 then after_fault calls else after_call calls

-- the sink after a call that took n of these bytes
abbrev pub after_write : SinkState → ℕ → List ℕ → SinkState
after_write sink n bytes = record sink { taken = sink.taken ++ take n bytes; calls = after_taking sink.calls n }
