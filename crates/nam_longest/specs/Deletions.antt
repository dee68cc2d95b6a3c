-- How much less a commit takes for its deletions: a deletion neither lists nor installs data words.
use Rattle.std.specs.Prelude.{ℕ, ◌+◌, ◌-◌, if◌then◌else◌, List, [], ◌∷◌, drop, is_some}
use Rattle.si_model.specs.declared.row.Item.{Item}
use Rattle.nam_catalog.specs.declared.shape.Shape.{Shape}
use Rattle.nam_layout.specs.declared.field.Place.{Place}
use Rattle.nam_calls.specs.declared.lock.LockPoint.TheVariants.{GiveBack}
use Rattle.nam_calls.specs.Words.{width_of}
use Rattle.nam_protocol.specs.declared.txn.TxnState.{TxnState}
use Rattle.nam_protocol.specs.declared.txn.ListPoint.{ListPoint}
use Rattle.nam_protocol.specs.declared.txn.ListPoint.TheVariants.{ListRow, ListKind, ListData, ListNumber, ListState}
use Rattle.nam_protocol.specs.declared.txn.CommitPoint.{CommitPoint}
use Rattle.nam_protocol.specs.declared.txn.CommitPoint.TheVariants.{Locking, Checking, Saving, Copying, Installing}
use Rattle.nam_protocol.specs.declared.txn.CommitPoint.TheVariants.{Listing, Counting, Deciding}
use Rattle.nam_protocol.specs.Commit.{places, has_intents}
use Rattle.nam_protocol.specs.Bound.{commit_left}
use Rattle.nam_protocol.specs.TxnFits.{commit_bound}

-- 1. A commit that is asked

module _ (shape : Shape) where
  -- the data words of the deleted rows
  abbrev pub deleted_words : List Item → ℕ
  deleted_words [] = 0
  deleted_words (w ∷ ws) = (if is_some w.value then 0 else width_of shape w.table) + deleted_words ws

  -- they aren't installed, and where the commit tells its intent they aren't listed
  abbrev pub commit_longest : TxnState → ℕ
  commit_longest state =
      commit_bound shape state
      - (deleted_words state.writes + (if has_intents shape.form then deleted_words state.writes else 0))

-- 2. A commit that runs

-- the data words of the deletions among these, which go to these places
abbrev pub spared : List Item → List Place → ℕ
spared [] ps = 0
spared (w ∷ ws) [] = 0
spared (w ∷ ws) (p ∷ ps) = (if is_some w.value then 0 else p.width) + spared ws ps

-- of the written records from the nth on
abbrev pub spared_from : TxnState → ℕ → ℕ
spared_from state nth = spared (drop nth state.writes) (drop nth (places state))

abbrev pub spared_list : TxnState → ListPoint → ℕ
spared_list state (ListRow nth) = spared_from state nth
spared_list state (ListKind nth) = spared_from state nth
spared_list state (ListData nth word) = spared_from state (nth + 1)
spared_list state ListNumber = 0
spared_list state ListState = 0

abbrev pub commit_spared : TxnState → CommitPoint → ℕ
commit_spared state (Listing at) = spared_list state at + spared_from state 0
commit_spared state (Locking (GiveBack given found)) = 0
commit_spared state (Locking at) = spared_from state 0
commit_spared state (Checking at) = spared_from state 0
commit_spared state (Counting nth) = spared_from state 0
commit_spared state Deciding = spared_from state 0
commit_spared state (Saving nth got) = spared_from state nth
commit_spared state (Copying nth old at) = spared_from state nth
commit_spared state (Installing nth at) = spared_from state (nth + 1)
commit_spared state at = 0

abbrev pub commit_to_come : TxnState → CommitPoint → ℕ
commit_to_come state at = commit_left state at - commit_spared state at
