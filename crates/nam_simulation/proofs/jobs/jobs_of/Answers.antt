use Rattle.std.proofs.Common.{◌<◌, ◌+◌, ◌-◌, length, ap, sym, subst, ◌∙◌, arith}
use Rattle.std.proofs.lemmas.List.{length-set}
use Rattle.nam_script.specs.Limits.{TxnFits}
use Rattle.nam_protocol.proofs.FallsKeys.{all_at}
use Rattle.nam_simulation.specs.Simulation.{with_job}
use Rattle.nam_simulation.proofs.JobLemmas.{jobs_none, jobs_step, written_back}
use Rattle.nam_simulation.proofs.jobs.jobs_of.Goals as goal

pub loop-place-init : goal.loop-place-init
loop-place-init c = c.in_ok-jobs.ensures ∙ sym (jobs_none c.args.script.now.shape.workers)

pub loop-place-preserved : goal.loop-place-preserved
loop-place-preserved c =
    let script = c.args.script.now in
    let txn = c.at.result.now in
    let place = c.loop-place.place in
    let before = c.loop-place.jobs.items in
    let within : place < length script.txns = omega (arith, c.loop-place-test.true, c.len-place-end.ensures) in
    let after_is = c.in_ok-add_job.ensures ∙ ap (λ js. with_job js (place + 1) txn) c.as_mut_slice.ensures.value in
    let long = ap length after_is ∙ length-set before (txn.worker - 1) _ in
    let txn_fits = TxnFits script.shape.workers script.shape.tables in
    let fits = subst txn_fits (sym c.at.ensures) (all_at txn_fits txn script.txns place c.requires.txns within) in
    written_back c.loop-place.jobs.len c.add_job.new.jobs before c.loop-place.jobs.ok.0 long
    ∙ jobs_step script.shape.workers script.txns place txn before c.add_job.new.jobs within c.at.ensures fits.worker
    c.loop-place.invariant after_is
