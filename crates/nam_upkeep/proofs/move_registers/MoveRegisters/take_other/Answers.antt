use Rattle.nam_upkeep.proofs.move_registers.MoveRegisters.take_other.Goals as goal

pub returns-in-FillWord-clause-value : goal.returns-in-FillWord-clause-value
returns-in-FillWord-clause-value c = c.fill_word.ensures.value c.args.found
