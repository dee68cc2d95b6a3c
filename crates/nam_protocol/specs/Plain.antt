-- Plain steps of a client: those that neither take a snapshot, nor belong to a commit, nor publish; and what they keep.
use Rattle.std.specs.Prelude.{None, Option, Some, ◌≡◌}
use Rattle.nam_verbs.specs.declared.now.Now.{Now}
use Rattle.nam_verbs.specs.declared.now.Now.TheVariants.{At}
use Rattle.nam_protocol.specs.declared.client.Answer.{Answer}
use Rattle.nam_protocol.specs.declared.client.CallPoint.{CallPoint}
use Rattle.nam_protocol.specs.declared.client.CallPoint.TheVariants.{Beginning, InTxn, Snapping}
use Rattle.nam_protocol.specs.declared.client.ClientState.{ClientState}
use Rattle.nam_protocol.specs.declared.client.Open.{Open}
use Rattle.nam_protocol.specs.declared.txn.TxnPoint.{TxnPoint}
use Rattle.nam_protocol.specs.declared.txn.TxnPoint.TheVariants.{Committing}
use Rattle.nam_protocol.specs.declared.txn.TxnState.{TxnState}

-- an operation's point
abbrev pub IsOperation : TxnPoint → Type 0
IsOperation (Committing at) = ⊥
IsOperation _ = Unit {0}

-- no snapshot is being taken, and no commit runs
abbrev pub IsAside : Option (Now CallPoint Answer) → Type 0
IsAside (Some (At (Beginning txn nth at))) = ⊥
IsAside (Some (At (Snapping bucket at))) = ⊥
IsAside (Some (At (InTxn (Committing at)))) = ⊥
IsAside _ = Unit {0}

-- what a transaction never changes: its worker, the number of its worker's last commit, and its snapshot
pub record SameBegin (s t : TxnState) : Type 0 where
  pub worker : t.worker ≡ s.worker
  pub last : t.last ≡ s.last
  pub seen : t.seen ≡ s.seen

-- the open transaction is the one that was, or is no longer open
abbrev pub KeepsOpen : Option Open → Option Open → Type 0
KeepsOpen was None = Unit {0}
KeepsOpen None (Some later) = ⊥
KeepsOpen (Some attempt) (Some later) = SameBegin attempt.state later.state

-- what a plain step keeps
pub record Plain (before after : ClientState) : Type 0 where
  pub worker : after.worker ≡ before.worker
  pub start : after.start ≡ before.start
  pub last : after.last ≡ before.last
  pub cut : after.cut ≡ before.cut
  pub snaps : after.log.snaps ≡ before.log.snaps
  pub opened : KeepsOpen before.txn after.txn
  pub aside : IsAside after.call
