use Rattle.nam_simulation.proofs.OpenedLemmas.{can_serve, is_new}
use Rattle.nam_simulation.proofs.sessions.session_with.Goals as goal

pub prepare-requires : goal.prepare-requires
prepare-requires c =
    let script = c.args.script.now in
    let is = c.requires.script in
    let of = c.new-client.ensures.of script.shape (can_serve script is c.args.worker c.requires.worker) in
    let new = is_new script is c.args.worker c.requires.worker c.new-client.result of c.new-client.ensures.client
    c.args.jobs c.requires.jobs in
    rw (c.requires.layout, c.new-session.ensures, c.into_vec.ensures) new
