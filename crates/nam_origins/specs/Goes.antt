-- What the step of one client owes the group of origins: of the client itself, and of a commit's step.
use Rattle.std.specs.Prelude.{List, Some, true, ℕ, ◌+◌, ◌≡◌, ◌≢◌, ◌⊎◌}
use Rattle.nam_ghost.specs.Holders.{Holder, holder_now, holder_of}
use Rattle.nam_ghost.specs.Moments.{has_published}
use Rattle.nam_ghost.specs.Origins.{HasOrigin, IsDoneAs, IsPublishedAs, IsStanding}
use Rattle.nam_ghost.specs.Publications.{Publication, publication_of}
use Rattle.nam_ghost.specs.Versions.{Chain, IsNth, Version, versions}
use Rattle.nam_protocol.specs.Txn.{Stepped}
use Rattle.nam_protocol.specs.declared.client.CallPoint.TheVariants.{InTxn}
use Rattle.nam_protocol.specs.declared.client.ClientState.{ClientState}
use Rattle.nam_protocol.specs.declared.txn.TxnAnswer.{TxnAnswer}
use Rattle.nam_protocol.specs.declared.txn.TxnPoint.{TxnPoint}
use Rattle.nam_protocol.specs.declared.txn.TxnState.{TxnState}
use Rattle.nam_verbs.specs.declared.now.Now.{Now}
use Rattle.nam_verbs.specs.declared.now.Now.TheVariants.{At}
use Rattle.si_model.specs.Lists.{Listed, last_of}

-- no chain has a version more or less
abbrev pub SameVersions : (ℕ → Chain) → (ℕ → Chain) → Type 0
SameVersions chains later = (row : ℕ) → versions (later row) ≡ versions (chains row)

-- each version but the loader's was there, or is what this holder has done
abbrev pub GrowsBy : (ℕ → Chain) → (ℕ → Chain) → Holder → Type 0
GrowsBy chains later holder = (row number : ℕ) → (version : Version) → IsNth (later row) (number + 1) version
    → IsNth (chains row) (number + 1) version ⊎ IsDoneAs holder row version

-- the version is one of these publications' writes, or what the holder has done
abbrev pub OriginIn : List Publication → Holder → ℕ → Version → Type 0
OriginIn published holder row version =
    ((commit : Publication) × Listed commit published × IsPublishedAs commit row version) ⊎ IsDoneAs holder row version

abbrev pub OthersSame : ℕ → (ℕ → List Publication) → (ℕ → List Publication) → Type 0
OthersSame nth published now = (other : ℕ) → other ≢ nth → now other ≡ published other

module _ (chains later : ℕ → Chain) (published now : ℕ → List Publication) (nth : ℕ) where
  -- from the client to what it is after its step
  pub record Goes (before after : ClientState) : Type 0 where
    pub grows : GrowsBy chains later (holder_of after)
    pub kept : (row : ℕ) (version : Version) → HasOrigin published row version nth before
        → HasOrigin now row version nth after
    pub others : OthersSame nth published now
    pub standing : IsStanding now nth after

  -- the same of a commit that has stepped
  abbrev pub StandsNow : TxnState → Now TxnPoint TxnAnswer → Type 0
  StandsNow state (At place) =
      has_published (Some (At (InTxn place))) ≡ true → last_of (now nth) ≡ Some (publication_of state)
  StandsNow state _ = Unit {0}

  pub record CommitGoes (before : Holder) (worker : ℕ) (step : Stepped) : Type 0 where
    pub grows : GrowsBy chains later (holder_now worker step.state step.call)
    pub kept : (row : ℕ) (version : Version) → IsDoneAs before row version
        → OriginIn (now nth) (holder_now worker step.state step.call) row version
    pub listed : (commit : Publication) → Listed commit (published nth) → Listed commit (now nth)
    pub others : OthersSame nth published now
    pub standing : StandsNow step.state step.call
