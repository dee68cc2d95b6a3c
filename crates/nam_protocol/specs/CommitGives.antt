-- What a commit gives the calls that it is made of: a stamp that headers can bear, and values of their records' widths.
use Rattle.std.specs.Prelude.{◌≡◌, ℕ, ◌<◌, length}
use Rattle.nam_catalog.specs.declared.shape.Shape.{Shape}
use Rattle.nam_catalog.specs.Fits.{FitsLimits}
use Rattle.nam_header.specs.Stamp.{FitsStamp}
use Rattle.nam_calls.specs.Fits.{HasWidth}
use Rattle.nam_protocol.specs.declared.txn.CommitPoint.{CommitPoint}
use Rattle.nam_protocol.specs.declared.txn.TxnState.{TxnState}
use Rattle.nam_protocol.specs.Commit.{record_place, value_at, own_stamp}
use Rattle.nam_protocol.specs.TxnFits.{StateFits, CommitFits}

pub record CommitGives (shape : Shape) (state : TxnState) : Type 0 where
  pub stamp : FitsStamp shape.form (own_stamp state)
  pub form : (nth : ℕ) → nth < length state.records → (record_place state nth).form ≡ shape.form
  pub value : (nth : ℕ) → nth < length state.writes → HasWidth (record_place state nth).width (value_at state nth)

abbrev pub CommitGivesLaw : Type 0
CommitGivesLaw = (shape : Shape) → FitsLimits shape → (state : TxnState) (at : CommitPoint) → StateFits shape state
    → CommitFits shape state at → CommitGives shape state
