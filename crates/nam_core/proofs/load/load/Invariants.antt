use Rattle.std.proofs.Common.{◌≡◌, ◌-◌, ◌<◌}
use Rattle.nam_calls.specs.Words.{capacity_of, on_path}
use Rattle.nam_protocol.specs.Opening.{load_from}
use Rattle.nam_core.proofs.load.load.Given as goal

abbrev pub invariant-loop : goal.invariant-loop
invariant-loop l = let capacity = capacity_of l.layout l.row.table in record {
  within : l.position < capacity;
  stands : l.position ≡ on_path capacity l.row.key l.counter;
  rest :
      load_from l.layout l.row (capacity - l.counter) l.counter l.fn.words
      ≡ load_from l.layout l.row capacity 0 l.fn.words;
  same : l.words ≡ l.fn.words;
}
