use Rattle.std.proofs.Common.{◌≡◌, ◌+◌, drop}
use Rattle.si_model.specs.Setting.{txns_of, places_of}
use Rattle.nam_script.specs.ScriptSetting.{setting_of}
use Rattle.namdb.specs.Store.{IsStore}
use Rattle.namdb.specs.Serial.{tells_after, history_after, log_of, log_grown}
use Rattle.namdb.proofs.serial.run_worker.Given as goal

-- with the transactions from here on, the history and the log are those of all
abbrev pub invariant-loop-place : goal.invariant-loop-place
invariant-loop-place l =
    let s = setting_of l.script in
    record {
      store : IsStore s l.store;
      history : history_after s l.worker l.store.history (places_of l.worker (l.place + 1) (drop l.place s.owners))
          ≡ history_after s l.worker l.fn.store.history (txns_of l.worker s.owners);
      log : log_grown l.log (tells_after s l.worker l.store.history
          (places_of l.worker (l.place + 1) (drop l.place s.owners)))
          ≡ log_of (tells_after s l.worker l.fn.store.history (txns_of l.worker s.owners));
    }
