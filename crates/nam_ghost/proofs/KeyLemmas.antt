-- What follows for positions that are passed or found from key words that stand.
use Rattle.std.proofs.Common.{List, None, Option, Some, [], arith, sym, true, ℕ, ◌<◌, ◌∙◌, ◌∷◌, ◌≡◌, ◌≤◌}
use Rattle.std.proofs.lemmas.Bool.{false≢true}
use Rattle.std.specs.List.{AllByRecursion}
use Rattle.nam_calls.proofs.FieldLemmas.{row_within}
use Rattle.nam_calls.specs.Fits.{ClaimKeyFits, IsTableOf}
use Rattle.nam_calls.specs.Words.{capacity_of, key_word}
use Rattle.nam_calls.specs.declared.index.ClaimKeyPoint.{ClaimKeyPoint}
use Rattle.nam_calls.specs.declared.index.ClaimKeyPoint.TheVariants.{KeyLook, KeyTake}
use Rattle.nam_catalog.specs.Fits.{FitsLimits}
use Rattle.nam_catalog.specs.declared.shape.Shape.{Shape}
use Rattle.nam_ghost.specs.Keys.{Bears, HasFound, IsPast, KeyView, KeysNext, LooksFor, NoKey, ViewFits, ViewOk}
use Rattle.nam_ghost.specs.Keys.{claim_view, key_view, scan_view, txn_view}
use Rattle.nam_layout.specs.Address.{IsRow}
use Rattle.nam_layout.specs.Rows.{row_of}
use Rattle.nam_layout.specs.declared.field.Field.{Field}
use Rattle.nam_protocol.proofs.FallsKeys.{op_table}
use Rattle.nam_protocol.specs.ClientFits.{NowFits, OpenPointFits}
use Rattle.nam_protocol.specs.Commit.{record_in}
use Rattle.nam_protocol.specs.Scan.{position_of}
use Rattle.nam_protocol.specs.TxnFits.{ScanFits, is_claimed}
use Rattle.nam_protocol.specs.declared.client.Answer.{Answer}
use Rattle.nam_protocol.specs.declared.client.CallPoint.{CallPoint}
use Rattle.nam_protocol.specs.declared.client.CallPoint.TheVariants.{InTxn, Moving, Scanning, Seeking}
use Rattle.nam_protocol.specs.declared.client.Open.{Open}
use Rattle.nam_protocol.specs.declared.scan.ScanPoint.{ScanPoint}
use Rattle.nam_protocol.specs.declared.scan.ScanPoint.TheVariants.{ScanKey, ScanRead}
use Rattle.nam_protocol.specs.declared.txn.Record.{Record}
use Rattle.nam_protocol.specs.declared.txn.TxnPoint.{TxnPoint}
use Rattle.nam_protocol.specs.declared.txn.TxnPoint.TheVariants.{Claiming, Committing, Finding, Reading}
use Rattle.nam_store.proofs.PathLemmas.{on_row, row_on}
use Rattle.nam_verbs.proofs.TestLemmas.{by_test}
use Rattle.nam_verbs.specs.declared.now.Now.{Now}
use Rattle.nam_verbs.specs.declared.now.Now.TheVariants.{At, Over}
use Rattle.si_model.specs.Evaluation.{op_key}
use Rattle.si_model.specs.Rows.{same_key}
use Rattle.si_model.specs.declared.row.Key.{Key}
use Rattle.nam_layout.specs.declared.field.Field.TheVariants as field
use Rattle.si_model.specs.declared.row.Key as row_key

-- 1. What a client knows of is of a table

module _ (shape : Shape) (limits : FitsLimits shape) where
  claim_fits : (key : Key) (at : ClaimKeyPoint) → IsTableOf shape key.table
      → ClaimKeyFits (capacity_of shape key.table) at → ViewFits shape (claim_view key at)
  claim_fits key (KeyLook passed) is less = (is, less)
  claim_fits key (KeyTake passed) is less = (is, less)

  txn_fits : (opened : Option Open) (at : TxnPoint) → OpenPointFits shape opened at → ViewFits shape (txn_view at)
  txn_fits None at fits = absurd fits
  txn_fits (Some attempt) (Finding op passed) fits = (op_table shape limits attempt.state.claims op fits.0, fits.1)
  txn_fits (Some attempt) (Reading op position at) fits =
      (op_table shape limits attempt.state.claims op fits.0, fits.1)
  txn_fits (Some attempt) (Claiming op at) fits =
      claim_fits (op_key op) at (op_table shape limits attempt.state.claims op fits.0) fits.1
  txn_fits (Some attempt) (Committing at) fits = tt

  scan_fits : (table : ℕ) (at : ScanPoint) → IsTableOf shape table → ScanFits shape table at
      → ViewFits shape (scan_view table at)
  scan_fits table (ScanKey position) is fits = tt
  scan_fits table (ScanRead position key at) is fits = (is, fits.0)

  pub view_fits : (opened : Option Open) (call : Option (Now CallPoint Answer)) → NowFits shape opened call
      → ViewFits shape (key_view call)
  view_fits opened (Some (At (InTxn at))) fits = txn_fits opened at fits
  view_fits opened (Some (At (Scanning table low high at))) fits = scan_fits table at fits.1 fits.2
  view_fits opened (Some (At (Seeking table key passed))) fits = (fits.0, fits.1)
  view_fits opened (Some (At (Moving table key position at))) fits = (fits.0, fits.1)
  view_fits opened (Some (At _)) fits = tt
  view_fits opened (Some (Over answer)) fits = tt
  view_fits opened None fits = tt

pub position_within : (shape : Shape) (table : ℕ) (at : ScanPoint) → ScanFits shape table at
    → position_of at < capacity_of shape table
position_within shape table (ScanKey position) fits = fits
position_within shape table (ScanRead position key at) fits = fits.0

-- 2. What stays, as long as key words that stand do

module _ (shape : Shape) (m now : Field → ℕ) (next : KeysNext shape m now) where
  -- what was passed stays passed
  pub past_stays : (table key passed : ℕ) → IsTableOf shape table → passed ≤ capacity_of shape table
      → IsPast shape m table key passed → IsPast shape now table key passed
  past_stays table key passed is most past q less =
      let other = past q less in
      let same = next (row_on shape table key q) (on_row shape table is key q (omega arith)).within other.0 in
      ((λ e. other.0 (sym same ∙ e)), (λ e. other.1 (sym same ∙ e)))

  pub key_stays : (row key : ℕ) → IsRow shape row → m (field.Key row) ≡ key_word key
      → now (field.Key row) ≡ key_word key
  key_stays row key is here = next row is (λ none. let e = sym here ∙ none in omega arith) ∙ here

  -- and what was found stays found
  pub bears_stays : (table key position : ℕ) → IsTableOf shape table → position < capacity_of shape table
      → Bears shape m table key position → Bears shape now table key position
  bears_stays table key position is less =
      key_stays (row_of shape.tables table position) key (row_within shape table position is less)

  pub view_stays : (view : KeyView) → ViewFits shape view → ViewOk shape m view → ViewOk shape now view
  view_stays NoKey fits ok = tt
  view_stays (LooksFor table key passed) fits ok =
      let less = fits.1 in past_stays table key passed fits.0 (omega arith) ok
  view_stays (HasFound table key position) fits ok = bears_stays table key position fits.0 fits.1 ok

-- 3. Claims

-- what holds of all claims holds of the record of a claimed key
pub claimed_holds : (P : Record → Type 0) (claims : List Record) (key : row_key.Key) → AllByRecursion P claims
    → is_claimed claims key ≡ true → P (record_in claims key)
claimed_holds P [] key all is = absurd (false≢true is)
claimed_holds P (c ∷ cs) key all is =
    by_test P (same_key c.key key) c (record_in cs key) (λ same. all.0)
    (λ other. claimed_holds P cs key all.1 (rw other at is))
