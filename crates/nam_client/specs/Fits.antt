-- What holds of a client's registers for the shape of its store.
use Rattle.std.specs.Prelude.{◌≡◌, ℕ, ◌<◌, List, [], length, Option, Some, None, IsTrue, Bool, true}
use Rattle.nam_verbs.specs.declared.verb.Verb.{Verb}
use Rattle.nam_verbs.specs.declared.now.Now.{Now}
use Rattle.nam_verbs.specs.declared.now.Now.TheVariants.{At, Over}
use Rattle.nam_catalog.specs.declared.shape.Shape.{Shape}
use Rattle.nam_catalog.specs.Fits.{FitsLimits}
use Rattle.nam_layout.specs.Place.{place_of, cells_by, cells_of}
use Rattle.nam_vector.specs.declared.snap.SnapEnd.TheVariants as snap_end
use Rattle.nam_calls.specs.Words.{path_of}
use Rattle.nam_calls.specs.Left.{move_most, collect_most}
use Rattle.nam_index.specs.Path.{FitsPath}
use Rattle.nam_protocol.specs.declared.client.Answer.{Answer}
use Rattle.nam_protocol.specs.declared.client.CallPoint.{CallPoint}
use Rattle.nam_protocol.specs.declared.client.CallPoint.TheVariants.{Beginning, InTxn, Scanning, Seeking, Moving}
use Rattle.nam_protocol.specs.declared.client.CallPoint.TheVariants.{Snapping, Collecting}
use Rattle.nam_protocol.specs.ClientFits.{ClientFits}
use Rattle.nam_scan.specs.Scan.{Scanning as ScanValue, IsScanOf}
use Rattle.nam_txn.specs.Txn.{IsTxnOf, Transacting}
use Rattle.nam_client.specs.declared.registers.Registers.{Registers}
use Rattle.nam_client.specs.Registers.{call_of, client_of}
use Rattle.nam_client.specs.Client.{verb_of}

-- a transaction that was asked no call yet
pub record IsFresh (t : Transacting) : Type 0 where
  pub call : t.call ≡ None
  pub held : t.state.held ≡ []
  pub read : t.state.read ≡ None

module _ (shape : Shape) where
  -- the scan is of a table, under the transaction's snapshot
  abbrev pub IsScanIn : List ℕ → Option ScanValue → Type 0
  IsScanIn seen None = ⊥
  IsScanIn seen (Some scan) = IsScanOf shape scan × (scan.seen ≡ seen)

  -- what the call's machine has at hand is the shape's
  abbrev pub HasAtHand : Registers → CallPoint → Type 0
  HasAtHand a (Beginning txn nth at) = a.snapper.workers ≡ shape.workers
  HasAtHand a (InTxn at) = Unit {0}
  HasAtHand a (Scanning table low high at) = IsScanIn a.txn.state.seen a.scan
  HasAtHand a (Seeking table key passed) =
      (a.path ≡ path_of shape table key) × FitsPath a.path × (a.to_follow ≡ move_most shape table)
  HasAtHand a (Moving table key position at) =
      (a.mover.place ≡ place_of shape table position) × (a.mover.cells ≡ cells_by shape a.mover.place)
  HasAtHand a (Snapping bucket at) = (a.snapper.workers ≡ shape.workers) × (a.to_follow ≡ collect_most shape)
  HasAtHand a (Collecting bucket prefix seen at) =
      (a.collector.cells ≡ cells_of shape bucket) × (a.collector.workers ≡ shape.workers)
      × (a.snapper.state ≡ Over (snap_end.Done seen))

  abbrev pub HandFits : Registers → Option (Now CallPoint Answer) → Type 0
  HandFits a (Some (At at)) = HasAtHand a at
  HandFits a _ = Unit {0}

  -- the client is of a worker of this shape
  pub record IsClientOf (a : Registers) : Type 0 where
    pub limits : FitsLimits shape
    pub fits : ClientFits shape (client_of a)
    pub txn : a.is_open ≡ true → IsTxnOf shape a.txn
    pub hand : HandFits a (call_of a.step a)

-- the verb stands, of whatever store the client is
abbrev pub IsStanding : Registers → Option Verb → Type 0
IsStanding a verb = (shape : Shape) → IsClientOf shape a → verb ≡ verb_of shape a
