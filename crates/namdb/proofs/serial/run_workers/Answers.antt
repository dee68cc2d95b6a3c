use Rattle.std.proofs.Common.{◌≡◌, ◌+◌, ◌-◌, suc, ◌∙◌, arith}
use Rattle.nam_script.specs.ScriptSetting.{setting_of}
use Rattle.namdb.proofs.ServeLemmas.{end_next, logs_next}
use Rattle.namdb.proofs.serial.run_workers.Goals as goal

pub loop-before-preserved : goal.loop-before-preserved
loop-before-preserved c =
    let s = setting_of c.args.script.now in
    let b = c.loop-before.before in
    let m = c.args.script.now.shape.workers - (b + 1) in
    let n = c.args.script.now.shape.workers - b in
    let history = c.loop-before.store.history in
    let next = c.run_worker.new.store.history in
    let left : n ≡ suc m = omega arith in
    record {
      store = c.in_ok-log.ensures.store;
      history = end_next s b history next m n left c.in_ok-log.ensures.history ∙ c.loop-before.invariant.history;
      logs = logs_next s b history next m n c.loop-before.logs c.push.new.self c.in_ok-log.log left
          c.in_ok-log.ensures.history c.in_ok-log.ensures.log c.in_ok-push.ensures.ok ∙ c.loop-before.invariant.logs;
    }
