use Rattle.std.proofs.Common.{◌≡◌, ◌+◌, ◌-◌, ◌++◌}
use Rattle.nam_script.specs.ScriptSetting.{setting_of}
use Rattle.namdb.specs.Store.{IsStore}
use Rattle.namdb.specs.Serial.{logs_after, end_after}
use Rattle.namdb.proofs.serial.run_workers.Given as goal

-- with the workers from here on, the history and the logs are those of all
abbrev pub invariant-loop-before : goal.invariant-loop-before
invariant-loop-before l =
    let s = setting_of l.script in
    record {
      store : IsStore s l.store;
      history : end_after s (l.before + 1) l.store.history (s.workers - l.before)
          ≡ end_after s 1 l.fn.store.history s.workers;
      logs : l.logs ++ logs_after s (l.before + 1) l.store.history (s.workers - l.before)
          ≡ logs_after s 1 l.fn.store.history s.workers;
    }
