-- A step of a commit takes at most one lock.
use Rattle.std.specs.Prelude.{◌≡◌, ℕ, [], ◌∷◌, ◌++◌}
use Rattle.std.specs.Prelude.{◌⊎◌}
use Rattle.nam_calls.specs.declared.lock.LockPoint.TheVariants.{Seize}
use Rattle.nam_protocol.specs.declared.txn.TxnState.{TxnState}
use Rattle.nam_protocol.specs.declared.txn.CommitPoint.{CommitPoint}
use Rattle.nam_protocol.specs.declared.txn.CommitPoint.TheVariants.{Locking}
use Rattle.nam_protocol.specs.Commit.{commit_after}

-- its header is the one that the exchange expected and found
pub record IsTaken (before after : TxnState) (at : CommitPoint) (found : ℕ) : Type 0 where
  pub point : at ≡ Locking (Seize found)
  pub held : after.held ≡ before.held ++ found ∷ []

-- the locks held stay as they were, or an exchange was won and there is one more
abbrev pub HeldLaw : Type 0
HeldLaw = (state : TxnState) (at : CommitPoint) (found : ℕ)
    → let after = (commit_after state at found).state in
    (after.held ≡ state.held) ⊎ IsTaken state after at found
