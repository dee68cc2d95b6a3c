-- The audit of any words fits their shape.
use Rattle.std.specs.Prelude.{ℕ, List}
use Rattle.std.specs.List.{AllByRecursion}
use Rattle.nam_catalog.specs.declared.shape.Shape.{Shape}
use Rattle.nam_catalog.specs.Fits.{FitsLimits}
use Rattle.nam_catalog.specs.Tables.{widths_of}
use Rattle.nam_protocol.specs.Closed.{audit_of}
use Rattle.nam_report.specs.Fits.{AuditRowFits}

-- each row is of a table, and its value has the table's width
abbrev pub AuditLaw : Type 0
AuditLaw = (shape : Shape) → FitsLimits shape → (words : List ℕ)
    → AllByRecursion (AuditRowFits (widths_of shape.tables)) (audit_of shape words)
