use Rattle.std.proofs.Common.{refl, ap, ◌∙◌}
use Rattle.nam_catalog.specs.Tables.{widths_of}
use Rattle.namdb.proofs.serial.plan_of.Goals as goal

pub returns : goal.returns
returns c =
    record {
      workers = refl;
      greatest = c.greatest.ensures;
      widths = c.in_ok-widths.ensures ∙ ap widths_of c.as_slice.ensures.value;
    }
