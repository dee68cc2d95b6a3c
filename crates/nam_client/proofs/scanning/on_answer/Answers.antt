use Rattle.nam_client.proofs.ScanLemmas.{answered_same}
use Rattle.nam_client.proofs.scanning.on_answer.Goals as goal

pub list_rows-requires-clause-rise : goal.list_rows-requires-clause-rise
list_rows-requires-clause-rise c =
    (answered_same c.args.layout.now c.args.a.now c.args.position c.args.a.now.scan c.requires).rise

pub list_rows-requires-clause-reads : goal.list_rows-requires-clause-reads
list_rows-requires-clause-reads c =
    (answered_same c.args.layout.now c.args.a.now c.args.position c.args.a.now.scan c.requires).reads

pub list_rows-requires-clause-word : goal.list_rows-requires-clause-word
list_rows-requires-clause-word c =
    (answered_same c.args.layout.now c.args.a.now c.args.position c.args.a.now.scan c.requires).word
