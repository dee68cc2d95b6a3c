-- A client as a holder of locks: what its commit has locked, and how far it has come with the record at hand.
use Rattle.nam_calls.specs.declared.lock.LockPoint.TheVariants.{GiveBack, Peek, Seize}
use Rattle.nam_calls.specs.declared.record.InstallPoint.{InstallPoint}
use Rattle.nam_calls.specs.declared.record.InstallPoint.TheVariants.{InstallCount, InstallHead, InstallWord}
use Rattle.nam_calls.specs.declared.ring.SlotPoint.TheVariants.{CheckHead}
use Rattle.nam_ghost.specs.Versions.{Version}
use Rattle.nam_protocol.specs.Commit.{own_stamp, record_place, value_at}
use Rattle.nam_protocol.specs.declared.client.Answer.{Answer}
use Rattle.nam_protocol.specs.declared.client.CallPoint.{CallPoint}
use Rattle.nam_protocol.specs.declared.client.CallPoint.TheVariants.{InTxn}
use Rattle.nam_protocol.specs.declared.client.ClientState.{ClientState}
use Rattle.nam_protocol.specs.declared.client.Open.{Open}
use Rattle.nam_protocol.specs.declared.txn.CommitPoint.{CommitPoint}
use Rattle.nam_protocol.specs.declared.txn.CommitPoint.TheVariants.{Checking, Clearing, Copying, Counting, Deciding}
use Rattle.nam_protocol.specs.declared.txn.CommitPoint.TheVariants.{Ending, Freeing, Installing, Listing, Locking}
use Rattle.nam_protocol.specs.declared.txn.CommitPoint.TheVariants.{Publishing, Returning, Saving}
use Rattle.nam_protocol.specs.declared.txn.TxnAnswer.{TxnAnswer}
use Rattle.nam_protocol.specs.declared.txn.TxnPoint.{TxnPoint}
use Rattle.nam_protocol.specs.declared.txn.TxnPoint.TheVariants.{Committing}
use Rattle.nam_protocol.specs.declared.txn.TxnState.{TxnState}
use Rattle.nam_verbs.specs.declared.now.Now.{Now}
use Rattle.nam_verbs.specs.declared.now.Now.TheVariants.{At}
use Rattle.si_model.specs.declared.log.Stamp.{Stamp}
use Rattle.std.specs.Prelude.{Bool, List, None, Option, Some, [], false, if◌then◌else◌, is_some, length, nat_lt, true}
use Rattle.std.specs.Prelude.{ℕ, ◌++◌, ◌<◌, ◌∷◌, ◌≡◌, ◌≤◌}

-- The records of a commit are numbered from 0: the written ones, then those that are only guarded. It has locked the
-- first of them, under the headers `held`, and those from `from` on are locked still. The first `done` have their new
-- version. Of the record at `from` it has written so many data words, and maybe the count. `counts` are the numbers
-- that it has found of the first written records' current versions. A client without a commit holds nothing.
pub record Holder : Type 0 where
  pub stamp : Stamp
  pub seen : List ℕ
  pub row : ℕ → ℕ
  pub value : ℕ → Option (List ℕ)
  pub held : List ℕ
  pub counts : List ℕ
  pub from : ℕ
  pub done : ℕ
  pub words : ℕ
  pub dirty : Bool
  pub counted : Bool

-- the version that the commit gives its record of this number
abbrev pub version_of : Holder → ℕ → Version
version_of holder p = record { stamp = holder.stamp; value = holder.value p; seen = holder.seen }

-- the lock of the record of this number is held
pub record Holds (holder : Holder) (p : ℕ) : Type 0 where
  pub begins : holder.from ≤ p
  pub ends : p < length holder.held

-- the client lists the lock of this row
abbrev pub HoldsRow : Holder → ℕ → Type 0
HoldsRow holder row = (p : ℕ) × Holds holder p × (holder.row p ≡ row)

abbrev pub no_holder : ℕ → Holder
no_holder worker = record {
  stamp = record { thread = worker; number = 0 };
  seen = [];
  row = λ p. 0;
  value = λ p. None;
  held = [];
  counts = [];
  from = 0;
  done = 0;
  words = 0;
  dirty = false;
  counted = false;
}

-- 1. A commit at its point

abbrev pub record_row : TxnState → ℕ → ℕ
record_row state nth = (record_place state nth).row

-- The first record whose lock is still held. A lock is given up by the write of its header: back, where the commit is
-- refused or the record only guarded; with the new version else. While an intent is cleared none is held.
abbrev pub from_at : TxnState → CommitPoint → ℕ
from_at state (Listing at) = 0
from_at state (Locking Peek) = 0
from_at state (Locking (Seize header)) = 0
from_at state (Locking (GiveBack given found)) = given
from_at state (Checking at) = 0
from_at state (Returning given full) = given
from_at state (Counting nth) = 0
from_at state Deciding = 0
from_at state (Saving nth got) = nth
from_at state (Copying nth old at) = nth
from_at state (Installing nth at) = nth
from_at state Publishing = length state.writes
from_at state (Freeing nth) = nth
from_at state (Clearing refusal) = length state.held
from_at state Ending = length state.held

-- how many records have their new version
abbrev pub done_at : TxnState → CommitPoint → ℕ
done_at state (Saving nth got) = nth
done_at state (Copying nth old at) = nth
done_at state (Installing nth at) = nth
done_at state Publishing = length state.writes
done_at state (Freeing nth) = length state.writes
done_at state Ending = length state.writes
done_at state _ = 0

-- a count stands from the word that found it on
abbrev pub counts_at : TxnState → CommitPoint → List ℕ
counts_at state (Checking (CheckHead count)) = state.counts ++ count ∷ []
counts_at state _ = state.counts

-- of the value that is installed: how many words are written, whether there is one, and whether the count is
abbrev pub words_in : Option (List ℕ) → ℕ → InstallPoint → ℕ
words_in value width (InstallWord nth) = nth
words_in value width InstallCount = if is_some value then width else 0
words_in value width InstallHead = if is_some value then width else 0

abbrev pub dirty_in : Option (List ℕ) → InstallPoint → Bool
dirty_in value (InstallWord nth) = nat_lt 0 nth
dirty_in value InstallCount = is_some value
dirty_in value InstallHead = is_some value

abbrev pub counted_in : InstallPoint → Bool
counted_in InstallHead = true
counted_in _ = false

abbrev pub words_at : TxnState → CommitPoint → ℕ
words_at state (Installing nth at) = words_in (value_at state nth) (record_place state nth).width at
words_at state _ = 0

abbrev pub dirty_at : TxnState → CommitPoint → Bool
dirty_at state (Installing nth at) = dirty_in (value_at state nth) at
dirty_at state _ = false

abbrev pub counted_at : CommitPoint → Bool
counted_at (Installing nth at) = counted_in at
counted_at _ = false

abbrev pub holder_at : TxnState → CommitPoint → Holder
holder_at state at = record {
  stamp = own_stamp state;
  seen = state.seen;
  row = record_row state;
  value = value_at state;
  held = state.held;
  counts = counts_at state at;
  from = from_at state at;
  done = done_at state at;
  words = words_at state at;
  dirty = dirty_at state at;
  counted = counted_at at;
}

-- 2. A client

abbrev pub holder_in : ℕ → Option (Now CallPoint Answer) → Option Open → Holder
holder_in worker (Some (At (InTxn (Committing at)))) (Some attempt) = holder_at attempt.state at
holder_in worker _ _ = no_holder worker

abbrev pub holder_of : ClientState → Holder
holder_of client = holder_in client.worker client.call client.txn

-- after a word of the commit
abbrev pub holder_now : ℕ → TxnState → Now TxnPoint TxnAnswer → Holder
holder_now worker state (At (Committing at)) = holder_at state at
holder_now worker state _ = no_holder worker
