use Rattle.nam_upkeep.proofs.collect_registers.CollectRegisters.take.Goals as goal

pub returns-in-Tag-clause-value : goal.returns-in-Tag-clause-value
returns-in-Tag-clause-value c = c.tag.ensures.value c.args.seen.now

pub returns-in-Ending-clause-value : goal.returns-in-Ending-clause-value
returns-in-Ending-clause-value c = c.ending.ensures.value c.args.seen.now
