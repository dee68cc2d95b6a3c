use Rattle.nam_client.proofs.calls.pass_tag.Goals as goal

pub returns-in-Moving-clause-hand : goal.returns-in-Moving-clause-hand
returns-in-Moving-clause-hand c = c.pass_cell.ensures.hand c.args.layout.now c.requires.of.hand
