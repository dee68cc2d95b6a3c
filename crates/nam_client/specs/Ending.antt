-- What an answer does with the open transaction, and what is listed then.
use Rattle.std.specs.Prelude.{ℕ, ◌+◌, ◌-◌, false, length, Option, Some, None}
use Rattle.si_model.specs.declared.log.Outcome.{Outcome}
use Rattle.si_model.specs.declared.log.Outcome.TheVariants as outcome
use Rattle.nam_verbs.specs.declared.now.Now.{Now}
use Rattle.nam_verbs.specs.declared.now.Now.TheVariants.{At, Over}
use Rattle.nam_protocol.specs.declared.txn.TxnPoint.{TxnPoint}
use Rattle.nam_protocol.specs.declared.txn.TxnAnswer.{TxnAnswer}
use Rattle.nam_protocol.specs.declared.txn.TxnAnswer.TheVariants as txn_answer
use Rattle.nam_protocol.specs.declared.txn.TxnCall.{TxnCall}
use Rattle.nam_protocol.specs.declared.txn.TxnCall.TheVariants.{Commit}
use Rattle.nam_protocol.specs.Log.{attempt_of, with_event, with_reads, with_writes}
use Rattle.nam_protocol.specs.Telling.{items_of}
use Rattle.nam_client.specs.declared.ending.Ending.{Ending}
use Rattle.nam_client.specs.declared.ending.Ending.TheVariants as ending
use Rattle.nam_client.specs.declared.registers.Registers.{Registers}
use Rattle.nam_client.specs.declared.registers.Step.TheVariants as step
use Rattle.nam_client.specs.Registers.{listed, open_of}
use Rattle.nam_client.specs.Room.{CanList, HasRoom}

-- after so many operations
abbrev pub ending_of : TxnAnswer → ℕ → Ending
ending_of (txn_answer.Value value) ops = ending.Passes
ending_of txn_answer.Written ops = ending.Passes
ending_of (txn_answer.Added number) ops = ending.Passes
ending_of txn_answer.Met ops = ending.Passes
ending_of (txn_answer.Committed number) ops = ending.Commits number
ending_of txn_answer.ReadOnly ops = ending.Ends outcome.ReadOnly
ending_of (txn_answer.TooOld worker entry horizon) ops = ending.Ends (outcome.TooOld worker entry horizon)
ending_of (txn_answer.NoSpace table) ops = ending.EndsReading (outcome.NoSpace table)
ending_of txn_answer.Declined ops = ending.EndsReading (outcome.Declined ops)
ending_of txn_answer.Spent ops = ending.Ends outcome.Spent
ending_of (txn_answer.Locked lock) ops = ending.Ends (outcome.Locked lock)
ending_of (txn_answer.Newer lock) ops = ending.Ends (outcome.Newer lock)
ending_of (txn_answer.Full lock) ops = ending.Ends (outcome.Full lock)
ending_of txn_answer.Astray ops = ending.Ends outcome.Left

-- the open transaction's attempt is listed, which wrote so many keys, and is no longer open
abbrev pub attempt_listed : Registers → Outcome → ℕ → Registers
attempt_listed a end writes = listed (record a { is_open = false }) (attempt_of (open_of a) end writes)

-- it is listed as a commit
abbrev pub commit_listed : Registers → ℕ → Registers
commit_listed a number =
    let writes = a.txn.state.writes in
    let b = attempt_listed (record a { last = number }) (outcome.Commit number) (length writes) in
    record b {
      log = record {
        log = with_writes b.log.log writes;
        room = record b.log.room { writes = b.log.room.writes - length writes };
      };
    }

-- what the call has read is listed, and at hand no longer
abbrev pub read_listed : Registers → Registers
read_listed a =
    let items = items_of a.txn.state.read in
    record a {
      log = record {
        log = with_reads a.log.log items;
        room = record a.log.room { reads = a.log.room.reads - length items };
      };
      attempt = record a.attempt { reads = a.attempt.reads + length items };
      txn = record a.txn { state = record a.txn.state { read = None } };
    }

-- there is room for the transaction's call to go on, and for its answer to be listed
abbrev pub CanGoOn : Registers → Option (Now TxnPoint TxnAnswer) → Type 0
CanGoOn a None = ⊥
CanGoOn a (Some (At at)) = HasRoom a
CanGoOn a (Some (Over end)) = CanList a

-- how many operations a call is
abbrev pub op_count : TxnCall → ℕ
op_count Commit = 0
op_count call = 1

-- a call of the transaction is counted, and is to run
abbrev pub call_counted : Registers → TxnCall → Registers
call_counted a call = record a {
  spare = record a.spare { ops = a.spare.ops - op_count call };
  attempt = record a.attempt {
    ops = a.attempt.ops + op_count call;
    ops_so_far = a.attempt.ops_so_far + op_count call;
  };
  step = step.InTxn;
}
