-- Which operations read a key, and which claim a position for one.
use Rattle.std.specs.Prelude.{Bool, is_some}
use Rattle.si_model.specs.declared.op.Op.{Op}
use Rattle.si_model.specs.Evaluation.{key_read, key_claimed}

-- does the operation read its key
abbrev pub op_reads : Op → Bool
op_reads op = is_some (key_read op)

-- does it write or guard its key
abbrev pub op_claims : Op → Bool
op_claims op = is_some (key_claimed op)
