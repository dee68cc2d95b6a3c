-- What a client lists, and how its log grows.
use Rattle.std.specs.Prelude.{ℕ, ◌+◌, ◌-◌, ◌^◌, List, [], ◌∷◌, ◌++◌, Some, None}
use Rattle.si_model.specs.declared.row.Item.{Item}
use Rattle.si_model.specs.declared.log.Lock.{Lock}
use Rattle.si_model.specs.declared.log.Outcome.{Outcome}
use Rattle.si_model.specs.declared.log.Event.{Event}
use Rattle.si_model.specs.declared.log.Event.TheVariants.{Tried}
use Rattle.si_model.specs.declared.log.Log.{Log}
use Rattle.nam_calls.specs.Words.{wrapped}
use Rattle.nam_protocol.specs.declared.client.Open.{Open}

abbrev pub no_log : Log
no_log = record { events = []; reads = []; locks = []; writes = []; snaps = [] }

-- the log with one more event, and with more items of its lists
abbrev pub with_event : Log → Event → Log
with_event log event = record log { events = log.events ++ event ∷ [] }

abbrev pub with_reads : Log → List Item → Log
with_reads log items = record log { reads = log.reads ++ items }

abbrev pub with_locks : Log → List Lock → Log
with_locks log locks = record log { locks = log.locks ++ locks }

abbrev pub with_writes : Log → List Item → Log
with_writes log items = record log { writes = log.writes ++ items }

abbrev pub with_snap : Log → List ℕ → Log
with_snap log seen = record log { snaps = log.snaps ++ seen ∷ [] }

-- the entries' sum above start, modulo 2^64, which in a world is the number of commits that the snapshot sees
abbrev pub prefix_of : ℕ → List ℕ → ℕ
prefix_of start [] = 0
prefix_of start (entry ∷ entries) = wrapped (wrapped (entry + (2 ^ 64 - start)) + prefix_of start entries)

-- an attempt that got no snapshot
abbrev pub unbegun : ℕ → ℕ → Outcome → Event
unbegun txn nth outcome =
    Tried record { txn = txn; nth = nth; prefix = None; reads = 0; locks = 0; writes = 0; outcome = outcome }

-- an attempt that wrote so many keys
abbrev pub attempt_of : Open → Outcome → ℕ → Event
attempt_of attempt outcome writes = Tried record {
  txn = attempt.txn;
  nth = attempt.nth;
  prefix = Some attempt.prefix;
  reads = attempt.reads;
  locks = attempt.locks;
  writes = writes;
  outcome = outcome;
}
