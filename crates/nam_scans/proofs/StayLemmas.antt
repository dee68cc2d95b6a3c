-- What a running scan has gathered stays, whatever a step does to key words and chains as it may.
use Rattle.std.proofs.Common.{Bool, List, Option, Some, arith, false, inl, inr, refl, sym, true, ℕ, ◌<◌, ◌∙◌, ◌≡◌, ◌≢◌}
use Rattle.std.proofs.Common.{◌≤◌}
use Rattle.std.proofs.lemmas.Bool.{cases_eq}
use Rattle.nam_calls.proofs.FieldLemmas.{row_within}
use Rattle.nam_calls.specs.Fits.{IsTableOf}
use Rattle.nam_calls.specs.Words.{capacity_of}
use Rattle.nam_catalog.specs.declared.shape.Shape.{Shape}
use Rattle.nam_ghost.proofs.KeyLemmas.{bears_stays, position_within}
use Rattle.nam_ghost.specs.Keys.{AreUnused, Bears, KeysNext}
use Rattle.nam_ghost.specs.Versions.{Chain}
use Rattle.nam_layout.specs.Address.{IsRow}
use Rattle.nam_layout.specs.Rows.{row_of}
use Rattle.nam_layout.specs.declared.field.Field.{Field}
use Rattle.nam_layout.specs.declared.field.Field.TheVariants.{Key}
use Rattle.nam_protocol.specs.Scan.{position_of}
use Rattle.nam_protocol.specs.TxnFits.{ScanFits}
use Rattle.nam_protocol.specs.declared.client.Scanned.{Scanned}
use Rattle.nam_protocol.specs.declared.scan.ScanPoint.{ScanPoint}
use Rattle.nam_protocol.specs.declared.txn.TxnState.{TxnState}
use Rattle.nam_scans.proofs.NewestLemmas.{SameNewest, unused_absent}
use Rattle.nam_scans.specs.Gathered.{FindsBy, HasGathered, IsOfRange, ScanOk}
use Rattle.si_model.specs.Rows.{key_at, writes_key}
use Rattle.si_model.specs.declared.row.Key as row_key

-- one step, as a scan of this transaction relies on it: a key word that stands does, the snapshot's newest versions are
-- the same, and no position comes to bear a key that the transaction writes
pub record TableNext (shape : Shape) (m now : Field → ℕ) (chains later : ℕ → Chain) (state : TxnState) (table : ℕ)
    : Type 0 where
  pub next : KeysNext shape m now
  pub unused : AreUnused shape m chains
  pub newest : (row : ℕ) → IsRow shape row → SameNewest state.seen (chains row) (later row)
  pub own : (position key : ℕ) → position < capacity_of shape table
      → writes_key state.writes (key_at table key) ≡ true → Bears shape now table key position
      → m (Key (row_of shape.tables table position)) ≢ 0

module _ (state : TxnState) (chain later : Chain) (same : SameNewest state.seen chain later) (key : row_key.Key)
    (value : Option (List ℕ)) where
  pub finds_on : (test : Bool) → FindsBy test state chain key value → FindsBy test state later key value
  finds_on true finds = finds
  finds_on false finds = same.stays value finds

  found_before : (test : Bool) → FindsBy test state later key value → FindsBy test state chain key value
  found_before true finds = finds
  found_before false finds = same.was value finds

module _ (shape : Shape) (m now : Field → ℕ) (chains later : ℕ → Chain) (state : TxnState) (table : ℕ)
    (is : IsTableOf shape table) (goes : TableNext shape m now chains later state table) (low high : ℕ) where
  abbrev Before : Scanned → Type 0
  Before = IsOfRange shape m chains state table low high

  abbrev After : Scanned → Type 0
  After = IsOfRange shape now later state table low high

  abbrev row_at : ℕ → ℕ
  row_at position = row_of shape.tables table position

  -- 1. A row of the range

  row_stays : (row : Scanned) → row.position < capacity_of shape table → Before row → After row
  row_stays row less ok = record {
    bears = bears_stays shape m now goes.next table row.key row.position is less ok.bears;
    between = ok.between;
    finds = finds_on state (chains (row_at row.position)) (later (row_at row.position))
        (goes.newest (row_at row.position) (row_within shape table row.position is less)) (key_at table row.key)
        (Some row.value) (writes_key state.writes (key_at table row.key)) ok.finds;
  }

  -- its position bore a key before: an unused one has no value, and is claimed for no key that the transaction writes
  module _ (row : Scanned) (less : row.position < capacity_of shape table) (ok : After row) where
    within : IsRow shape (row_at row.position)
    within = row_within shape table row.position is less

    never_free : m (Key (row_at row.position)) ≡ 0 → (test : Bool)
        → writes_key state.writes (key_at table row.key) ≡ test
        → FindsBy test state (later (row_at row.position)) (key_at table row.key) (Some row.value) → ⊥
    never_free free true writes finds = goes.own row.position row.key less writes ok.bears free
    never_free free false writes finds =
        unused_absent state.seen (chains (row_at row.position)) (goes.unused (row_at row.position) within free)
        row.value ((goes.newest (row_at row.position) within).was (Some row.value) finds)

    row_was : Before row
    row_was = elim (cases_eq (m (Key (row_at row.position))) 0) [
      | inl free ↦ absurd (never_free free (writes_key state.writes (key_at table row.key)) refl ok.finds)
      | inr some ↦ record {
        bears = sym (goes.next (row_at row.position) within some) ∙ ok.bears;
        between = ok.between;
        finds = found_before state (chains (row_at row.position)) (later (row_at row.position))
            (goes.newest (row_at row.position) within) (key_at table row.key) (Some row.value)
            (writes_key state.writes (key_at table row.key)) ok.finds;
      }
    ]

  -- 2. What was gathered

  gathered_stays : (position : ℕ) (rows : List Scanned) → position ≤ capacity_of shape table
      → HasGathered shape m chains state table low high position rows
      → HasGathered shape now later state table low high position rows
  gathered_stays position rows most ok = record {
    only = λ row listed.
        let o = ok.only row listed in let less = o.0 in (less, row_stays row (omega arith) o.1);
    each = λ row less of_range. ok.each row less (row_was row (omega arith) of_range);
    order = ok.order;
  }

  pub scan_stays : (at : ScanPoint) (rows : List Scanned) → ScanFits shape table at
      → ScanOk shape m chains state table low high at rows → ScanOk shape now later state table low high at rows
  scan_stays at rows fits ok =
      let less = position_within shape table at fits in
      record {
        gathered = gathered_stays (position_of at) rows (omega arith) ok.gathered;
        key = ok.key;
        others = ok.others;
      }
