use Rattle.nam_worker.proofs.MedicLemmas.{rests_or_cut}
use Rattle.nam_core.proofs.session.SessionRuns.into_log.Goals as goal

pub into_log-requires : goal.into_log-requires
into_log-requires c runs = rests_or_cut c.requires.0 c.args.self c.requires.1 c.requires.2 runs
