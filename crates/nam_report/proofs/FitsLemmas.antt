-- Logs fit as they grow.
use Rattle.std.proofs.Common.{◌≡◌, ◌+◌, ℕ, List, [], ◌∷◌, ◌++◌, length, arith, length-append}
use Rattle.std.specs.List.{AllByRecursion}
use Rattle.si_model.specs.declared.row.Item.{Item}
use Rattle.si_model.specs.declared.log.Lock.{Lock}
use Rattle.si_model.specs.declared.log.Event.{Event}
use Rattle.si_model.specs.declared.log.Log.{Log}
use Rattle.si_model.specs.Tells.{reads_in, locks_in, total}
use Rattle.nam_report.specs.Fits.{ItemFits, LockFits, EventFits, LogFits}

pub total-append : (owned : Event → ℕ) (es : List Event) (e : Event)
    → total owned (es ++ e ∷ []) ≡ total owned es + owned e
total-append owned [] e = omega arith
total-append owned (d ∷ ds) e = omega (arith, total-append owned ds e)

pub AllByRecursion-append : {X : Type 0} (P : X → Type 0) (xs ys : List X) → AllByRecursion P xs → AllByRecursion P ys
    → AllByRecursion P (xs ++ ys)
AllByRecursion-append P [] ys front back = back
AllByRecursion-append P (x ∷ xs) ys front back = (front.0, AllByRecursion-append P xs ys front.1 back)

-- a log still fits with one more event and the reads and locks that it owns
pub log_fits_more : (workers : ℕ) (widths : List ℕ) (old new : Log) (e : Event) (reads : List Item) (locks : List Lock)
    → LogFits workers widths old →
    new.events ≡ old.events ++ e ∷ [] → new.reads ≡ old.reads ++ reads → new.locks ≡ old.locks ++ locks →
    reads_in e ≡ length reads → locks_in e ≡ length locks →
    EventFits workers widths e → AllByRecursion (ItemFits widths) reads → AllByRecursion (LockFits widths) locks →
    LogFits workers widths new
log_fits_more workers widths old new e reads locks fits events_are reads_are locks_are reads_count locks_count
    event_fits reads_fit locks_fit =
    record {
      events = rw events_are
          (AllByRecursion-append (EventFits workers widths) old.events (e ∷ []) fits.events (event_fits, tt));
      reads = rw reads_are (AllByRecursion-append (ItemFits widths) old.reads reads fits.reads reads_fit);
      locks = rw locks_are (AllByRecursion-append (LockFits widths) old.locks locks fits.locks locks_fit);
      counts = record {
        reads = rw (events_are, reads_are, total-append reads_in old.events e, length-append old.reads reads)
            (omega (arith, fits.counts.reads));
        locks = rw (events_are, locks_are, total-append locks_in old.events e, length-append old.locks locks)
            (omega (arith, fits.counts.locks));
      };
    }
