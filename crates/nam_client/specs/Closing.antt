-- What a client lists at its end: the call that was stopped, or the open transaction.
use Rattle.std.specs.Prelude.{Bool, ℕ, ◌+◌, ◌&&◌, ◌||◌, false, true, if◌then◌else◌, is_some, Option, Some, None}
use Rattle.si_model.specs.declared.log.Event.TheVariants as event
use Rattle.si_model.specs.declared.log.Finish.{Finish}
use Rattle.si_model.specs.declared.log.Log.{Log}
use Rattle.si_model.specs.declared.log.Finish.TheVariants.{RolledOn}
use Rattle.si_model.specs.declared.log.MoveEnd.TheVariants as moved
use Rattle.si_model.specs.declared.log.Outcome.TheVariants as outcome
use Rattle.si_model.specs.declared.log.Stamp.{Stamp}
use Rattle.nam_catalog.specs.declared.shape.Shape.{Shape}
use Rattle.nam_protocol.specs.declared.client.ClientState.{ClientState}
use Rattle.nam_protocol.specs.CutClient.{closed_call, finish_of, finished_call, has_rolled_on}
use Rattle.nam_protocol.specs.Log.{with_event}
use Rattle.nam_txn.specs.Txn.{has_published, is_committing}
use Rattle.nam_upkeep.specs.Move.{claimed_now}
use Rattle.nam_client.specs.declared.registers.Registers.{Registers}
use Rattle.nam_client.specs.Registers.{listed}
use Rattle.nam_client.specs.Ending.{attempt_listed, commit_listed}

-- 1. By what ran

abbrev pub open_listed : Registers → Registers
open_listed a =
    if a.is_open then attempt_listed a (if a.is_cut then outcome.Cut else outcome.Left) 0 else a

abbrev pub cut_move : Registers → ℕ → ℕ → Option Stamp → Registers
cut_move a table key None = listed a (event.TidyCut table key)
cut_move a table key (Some stamp) = listed a (event.Moved a.mover.cells.bucket table key stamp moved.Cut)

abbrev pub cut_move_listed : Registers → ℕ → ℕ → Registers
cut_move_listed a table key = cut_move a table key (claimed_now a.mover)

abbrev pub was_rolled_on : Option Finish → Bool
was_rolled_on None = false
was_rolled_on (Some how) = has_rolled_on how

-- a commit that has published is one, and so is one that was rolled on; its tail is cut where no medic has finished it
abbrev pub cut_txn_listed : Registers → Registers
cut_txn_listed a =
    let b = commit_listed a (a.txn.state.last + 1) in
    if has_published a.txn.call || (is_committing a.txn.call && was_rolled_on a.finish)
    then (if is_some a.finish then b else listed b event.TailCut)
    else attempt_listed a outcome.Cut 0

-- 2. As the definitions say

abbrev pub ended_by : Shape → ClientState → Option Finish → ClientState
ended_by shape client None = closed_call shape client client.call
ended_by shape client (Some how) = finished_call shape client how client.call

-- the client whose call was listed as it was stopped
abbrev pub ended : Shape → ClientState → ClientState
ended shape client = ended_by shape client (finish_of client.medic)

-- how a medic has finished it is listed last
abbrev pub finish_listed : Option Finish → Log → Log
finish_listed None log = log
finish_listed (Some how) log = with_event log (event.Finished how)
