use Rattle.nam_client.proofs.VerbLemmas.{collecting}
use Rattle.nam_client.proofs.verbs.verbs_left.Goals as goal

pub returns-in-Collecting : goal.returns-in-Collecting
returns-in-Collecting c = λ shape of.
    collecting shape c.args.a.now of c.if-a.false c.in-Collecting.bucket c.in-Collecting.prefix
    c.left-in-Collecting.result c.in-Collecting.is c.left-in-Collecting.ensures
