-- A client as a reader: where it reads, of an operation's key or of a scan's position, and on which snapshot.
use Rattle.std.specs.Prelude.{List, None, Option, Some, ℕ, ◌≡◌}
use Rattle.si_model.specs.Evaluation.{op_key}
use Rattle.nam_verbs.specs.declared.now.Now.{Now}
use Rattle.nam_verbs.specs.declared.now.Now.TheVariants.{At, Over}
use Rattle.nam_catalog.specs.declared.shape.Shape.{Shape}
use Rattle.nam_calls.specs.declared.reading.ReadPoint.{ReadPoint}
use Rattle.nam_calls.specs.declared.reading.ReadingEnd.{ReadingEnd}
use Rattle.nam_calls.specs.declared.reading.Sight.{Sight}
use Rattle.nam_calls.specs.Reading.{read_begin, sight_of}
use Rattle.nam_protocol.specs.declared.client.Answer.{Answer}
use Rattle.nam_protocol.specs.declared.client.CallPoint.{CallPoint}
use Rattle.nam_protocol.specs.declared.client.CallPoint.TheVariants.{InTxn, Scanning}
use Rattle.nam_protocol.specs.declared.client.ClientState.{ClientState}
use Rattle.nam_protocol.specs.declared.client.Open.{Open}
use Rattle.nam_protocol.specs.declared.scan.ScanPoint.TheVariants.{ScanRead}
use Rattle.nam_protocol.specs.declared.txn.TxnPoint.TheVariants.{Reading}

pub record Reader : Type 0 where
  pub sight : Sight
  pub seen : List ℕ
  pub at : ReadPoint

-- the reader at another point
abbrev pub reads_at : Reader → ReadPoint → Reader
reads_at reader at = record reader { at = at }

module _ (shape : Shape) where
  abbrev pub reader_at : Option Open → CallPoint → Option Reader
  reader_at (Some attempt) (InTxn (Reading op position at)) =
      Some record { sight = sight_of shape (op_key op).table position; seen = attempt.state.seen; at = at }
  reader_at (Some attempt) (Scanning table low high (ScanRead position key at)) =
      Some record { sight = sight_of shape table position; seen = attempt.state.seen; at = at }
  reader_at _ _ = None

  abbrev pub reader_in : Option Open → Option (Now CallPoint Answer) → Option Reader
  reader_in opened (Some (At place)) = reader_at opened place
  reader_in opened _ = None

  abbrev pub reader_of : ClientState → Option Reader
  reader_of client = reader_in client.txn client.call

-- the client reads no more, or at a read's begin
abbrev pub ReadsAnew : Option Reader → Type 0
ReadsAnew None = Unit {0}
ReadsAnew (Some reader) = reader.at ≡ read_begin

-- the reader is where its word leads, and none once the read is over
abbrev pub ReadsOn : Reader → Option Reader → Now ReadPoint ReadingEnd → Type 0
ReadsOn reader later (At next) = later ≡ Some (reads_at reader next)
ReadsOn reader later (Over end) = later ≡ None
