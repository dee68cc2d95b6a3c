-- Jobs whose operations fit the tables, and rooms whose numbers are short.
use Rattle.std.specs.Prelude.{◌<◌, ◌^◌}
use Rattle.std.specs.List.{AllByRecursion}
use Rattle.si_model.specs.Evaluation.{OpFits}
use Rattle.nam_catalog.specs.declared.shape.Shape.{Shape}
use Rattle.nam_catalog.specs.Tables.{widths_of}
use Rattle.nam_protocol.specs.declared.session.Job.{Job}
use Rattle.nam_protocol.specs.Left.{Room}

-- each operation of the job fits the tables; how many keys they write doesn't matter here
abbrev pub FitsTables : Shape → Job → Type 0
FitsTables shape job = AllByRecursion (OpFits (widths_of shape.tables)) job.ops

-- each of its numbers is below 2^32
pub record IsSmall (room : Room) : Type 0 where
  pub attempts : room.attempts < 2 ^ 32
  pub ops : room.ops < 2 ^ 32
  pub tidies : room.tidies < 2 ^ 32
