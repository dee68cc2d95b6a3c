use Rattle.std.proofs.Common.{◌∙◌, ap, refl}
use Rattle.nam_reader.specs.Reading.{reading}
use Rattle.nam_txn.proofs.ReadLemmas.{looks, begins_within}
use Rattle.nam_txn.proofs.registers.Registers.begin_read.Goals as goal

pub returns-clause-keeps : goal.returns-clause-keeps
returns-clause-keeps c =
    let shape = c.args.layout.now in
    let a = c.args.self.now in
    let runs = c.requires.runs in
    let place = rw c.key-key.ensures at c.place-place.ensures.value in
    let cells = rw c.bucket_of.ensures.value at c.cells-cells.ensures.value in
    let same = c.begin.ensures
    ∙ ap reading (looks shape a runs c.place-place.result c.cells-cells.result c.len.result place cells
    c.len.ensures.value) in
    record {
      holds = record { walk = runs.walk; at = rw same (refl, begins_within shape a runs) };
      at = rw same (
        record {
          path = runs.table.path;
          width = runs.table.width;
          read_most = runs.table.read_most;
        },
        refl,
      );
    }
