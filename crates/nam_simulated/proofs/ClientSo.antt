-- What a client has listed fits, and what its open transaction or its collection has listed is owned by no event yet.
use Rattle.std.proofs.Common.{◌≡◌, ℕ, false, List, length, Option, Some, None, refl, sym}
use Rattle.std.specs.Prelude.{is_some}
use Rattle.std.specs.List.{AllByRecursion}
use Rattle.std.proofs.lemmas.Bool.{false≢true}
use Rattle.si_model.specs.declared.log.Log.{Log}
use Rattle.nam_verbs.specs.declared.now.Now.{Now}
use Rattle.nam_verbs.specs.declared.now.Now.TheVariants.{At}
use Rattle.nam_catalog.specs.declared.shape.Shape.{Shape}
use Rattle.nam_calls.specs.Words.{width_of}
use Rattle.nam_protocol.specs.declared.client.Answer.{Answer}
use Rattle.nam_protocol.specs.declared.client.CallPoint.{CallPoint}
use Rattle.nam_protocol.specs.declared.client.CallPoint.TheVariants.{Collecting, Scanning}
use Rattle.nam_protocol.specs.declared.client.ClientState.{ClientState}
use Rattle.nam_protocol.specs.declared.client.Open.{Open}
use Rattle.nam_protocol.specs.declared.client.Scanned.{Scanned}
use Rattle.nam_simulated.proofs.LogGrows.{LogSo}

pub none_is : {A : Type 0} (o : Option A) → is_some o ≡ false → o ≡ None
none_is None e = refl
none_is (Some a) e = absurd (false≢true (sym e))

-- an open transaction owns its reads, its locks and its snapshot
abbrev pub OpenSo : Shape → Log → Option Open → Type 0
OpenSo shape log None = LogSo shape log 0 0 0
OpenSo shape log (Some attempt) = LogSo shape log attempt.reads attempt.locks 1

-- a collection owns its snapshot
abbrev pub NowSo : Shape → Log → Option Open → Option (Now CallPoint Answer) → Type 0
NowSo shape log opened (Some (At (Collecting bucket prefix seen at))) = LogSo shape log 0 0 1
NowSo shape log opened _ = OpenSo shape log opened

-- each row's value has so many words
abbrev pub AreOfWidth : ℕ → List Scanned → Type 0
AreOfWidth width rows = AllByRecursion (λ row. length row.value ≡ width) rows

-- the rows that a scan has gathered are of its table's width
abbrev pub ScanWide : Shape → List Scanned → Option (Now CallPoint Answer) → Type 0
ScanWide shape rows (Some (At (Scanning table low high at))) = AreOfWidth (width_of shape table) rows
ScanWide shape rows _ = Unit {0}

pub record ClientSo (shape : Shape) (client : ClientState) : Type 0 where
  pub so : NowSo shape client.log client.txn client.call
  pub scanned : ScanWide shape client.scanned client.call

pub open_before : (shape : Shape) (opened : Option Open) (log : Log) → is_some opened ≡ false → OpenSo shape log opened
    → LogSo shape log 0 0 0
open_before shape None log e so = so
open_before shape (Some attempt) log e so = absurd (false≢true (sym e))

abbrev pub IsNoScan : CallPoint → Type 0
IsNoScan (Scanning table low high at) = ⊥
IsNoScan _ = Unit {0}
