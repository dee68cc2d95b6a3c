-- A log that fits its shape, up to what its open attempt has listed, fits it with more.
use Rattle.std.proofs.Common.{◌≡◌, ℕ, ◌+◌, List, [], ◌∷◌, ◌++◌, length, length-append, arith}
use Rattle.std.proofs.lemmas.List.{length_push}
use Rattle.std.specs.List.{AllByRecursion}
use Rattle.si_model.specs.declared.row.Item.{Item}
use Rattle.si_model.specs.declared.log.Lock.{Lock}
use Rattle.si_model.specs.declared.log.Event.{Event}
use Rattle.si_model.specs.declared.log.Log.{Log}
use Rattle.si_model.specs.declared.log.Outcome.{Outcome}
use Rattle.si_model.specs.Tells.{reads_in, locks_in, writes_in, snaps_in, total}
use Rattle.si_model.proofs.ListLemmas.{All-append}
use Rattle.nam_catalog.specs.declared.shape.Shape.{Shape}
use Rattle.nam_catalog.specs.Tables.{widths_of}
use Rattle.nam_protocol.specs.declared.client.Open.{Open}
use Rattle.nam_protocol.specs.Log.{with_event, with_reads, with_locks, with_writes, with_snap, attempt_of}
use Rattle.nam_report.specs.Fits.{EventFits, ItemFits, LockFits, OutcomeFits}
use Rattle.nam_simulated.specs.LogLaw.{LogIsOf}

total_push : (owned : Event → ℕ) (es : List Event) (e : Event) → total owned (es ++ e ∷ []) ≡ total owned es + owned e
total_push owned [] e = omega arith
total_push owned (x ∷ es) e = let more = total_push owned es e in omega arith

-- it fits, and so many reads, locks and snapshots are owned by no event yet
pub record LogSo (shape : Shape) (log : Log) (reads locks snaps : ℕ) : Type 0 where
  pub events : AllByRecursion (EventFits shape.workers (widths_of shape.tables)) log.events
  pub reads_fit : AllByRecursion (ItemFits (widths_of shape.tables)) log.reads
  pub locks_fit : AllByRecursion (LockFits (widths_of shape.tables)) log.locks
  pub writes_fit : AllByRecursion (ItemFits (widths_of shape.tables)) log.writes
  pub reads_owned : total reads_in log.events + reads ≡ length log.reads
  pub locks_owned : total locks_in log.events + locks ≡ length log.locks
  pub writes_owned : total writes_in log.events ≡ length log.writes
  pub snaps_owned : total snaps_in log.events + snaps ≡ length log.snaps

module _ (shape : Shape) where
  pub log_is_of : (log : Log) → LogSo shape log 0 0 0 → LogIsOf shape log
  log_is_of log so = record {
    fits = record {
      events = so.events;
      reads = so.reads_fit;
      locks = so.locks_fit;
      counts = record {
        reads = (let r = so.reads_owned in omega arith);
        locks = (let l = so.locks_owned in omega arith);
      };
    };
    writes = so.writes_fit;
    counts = record {
      reads = (let r = so.reads_owned in omega arith);
      locks = (let l = so.locks_owned in omega arith);
      writes = so.writes_owned;
      snaps = (let s = so.snaps_owned in omega arith);
    };
  }

  -- an event that owns so many of them, and no writes
  pub event_so : (log : Log) (event : Event) (reads locks snaps : ℕ)
      → LogSo shape log (reads_in event + reads) (locks_in event + locks) (snaps_in event + snaps)
      → EventFits shape.workers (widths_of shape.tables) event → writes_in event ≡ 0
      → LogSo shape (with_event log event) reads locks snaps
  event_so log event reads locks snaps so fits none = record {
    events = All-append (EventFits shape.workers (widths_of shape.tables)) log.events (event ∷ []) so.events (fits, tt);
    reads_fit = so.reads_fit;
    locks_fit = so.locks_fit;
    writes_fit = so.writes_fit;
    reads_owned = (let t = total_push reads_in log.events event in let o = so.reads_owned in omega arith);
    locks_owned = (let t = total_push locks_in log.events event in let o = so.locks_owned in omega arith);
    writes_owned = (let t = total_push writes_in log.events event in let o = so.writes_owned in omega arith);
    snaps_owned = (let t = total_push snaps_in log.events event in let o = so.snaps_owned in omega arith);
  }

  pub reads_so : (log : Log) (items : List Item) (reads locks snaps : ℕ) → LogSo shape log reads locks snaps
      → AllByRecursion (ItemFits (widths_of shape.tables)) items
      → LogSo shape (with_reads log items) (reads + length items) locks snaps
  reads_so log items reads locks snaps so fit = record {
    events = so.events;
    reads_fit = All-append (ItemFits (widths_of shape.tables)) log.reads items so.reads_fit fit;
    locks_fit = so.locks_fit;
    writes_fit = so.writes_fit;
    reads_owned = (let l = length-append log.reads items in let o = so.reads_owned in omega arith);
    locks_owned = so.locks_owned;
    writes_owned = so.writes_owned;
    snaps_owned = so.snaps_owned;
  }

  pub locks_so : (log : Log) (items : List Lock) (reads locks snaps : ℕ) → LogSo shape log reads locks snaps
      → AllByRecursion (LockFits (widths_of shape.tables)) items
      → LogSo shape (with_locks log items) reads (locks + length items) snaps
  locks_so log items reads locks snaps so fit = record {
    events = so.events;
    reads_fit = so.reads_fit;
    locks_fit = All-append (LockFits (widths_of shape.tables)) log.locks items so.locks_fit fit;
    writes_fit = so.writes_fit;
    reads_owned = so.reads_owned;
    locks_owned = (let l = length-append log.locks items in let o = so.locks_owned in omega arith);
    writes_owned = so.writes_owned;
    snaps_owned = so.snaps_owned;
  }

  pub snap_so : (log : Log) (seen : List ℕ) (reads locks snaps : ℕ) → LogSo shape log reads locks snaps
      → LogSo shape (with_snap log seen) reads locks (snaps + 1)
  snap_so log seen reads locks snaps so = record {
    events = so.events;
    reads_fit = so.reads_fit;
    locks_fit = so.locks_fit;
    writes_fit = so.writes_fit;
    reads_owned = so.reads_owned;
    locks_owned = so.locks_owned;
    writes_owned = so.writes_owned;
    snaps_owned = (let l = length_push log.snaps seen in let o = so.snaps_owned in omega arith);
  }

  -- the attempt is listed, with no writes
  pub end_so : (log : Log) (attempt : Open) (how : Outcome) → LogSo shape log attempt.reads attempt.locks 1
      → OutcomeFits (widths_of shape.tables) how → LogSo shape (with_event log (attempt_of attempt how 0)) 0 0 0
  end_so log attempt how so fits = record {
    events =
        All-append (EventFits shape.workers (widths_of shape.tables)) log.events (attempt_of attempt how 0 ∷ [])
        so.events (fits, tt);
    reads_fit = so.reads_fit;
    locks_fit = so.locks_fit;
    writes_fit = so.writes_fit;
    reads_owned =
        (let t = total_push reads_in log.events (attempt_of attempt how 0) in let o = so.reads_owned in omega arith);
    locks_owned =
        (let t = total_push locks_in log.events (attempt_of attempt how 0) in let o = so.locks_owned in omega arith);
    writes_owned =
        (let t = total_push writes_in log.events (attempt_of attempt how 0) in let o = so.writes_owned in omega arith);
    snaps_owned =
        (let t = total_push snaps_in log.events (attempt_of attempt how 0) in let o = so.snaps_owned in omega arith);
  }

  -- the commit is listed with what it wrote
  pub commit_so : (log : Log) (attempt : Open) (how : Outcome) (items : List Item)
      → LogSo shape log attempt.reads attempt.locks 1 → OutcomeFits (widths_of shape.tables) how
      → AllByRecursion (ItemFits (widths_of shape.tables)) items
      → LogSo shape (with_writes (with_event log (attempt_of attempt how (length items))) items) 0 0 0
  commit_so log attempt how items so fits fit = let event = attempt_of attempt how (length items) in record {
    events = All-append (EventFits shape.workers (widths_of shape.tables)) log.events (event ∷ []) so.events (fits, tt);
    reads_fit = so.reads_fit;
    locks_fit = so.locks_fit;
    writes_fit = All-append (ItemFits (widths_of shape.tables)) log.writes items so.writes_fit fit;
    reads_owned = (let t = total_push reads_in log.events event in let o = so.reads_owned in omega arith);
    locks_owned = (let t = total_push locks_in log.events event in let o = so.locks_owned in omega arith);
    writes_owned =
        (let t = total_push writes_in log.events event in
        let l = length-append log.writes items in
        let o = so.writes_owned in
        omega arith);
    snaps_owned = (let t = total_push snaps_in log.events event in let o = so.snaps_owned in omega arith);
  }
