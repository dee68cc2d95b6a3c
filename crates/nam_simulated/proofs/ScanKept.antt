-- A word of a scan keeps the log, and each gathered row has its table's width.
use Rattle.nam_calls.specs.Fits.{HasWidth, IsTableOf}
use Rattle.nam_calls.specs.Reading.{read_begin}
use Rattle.nam_calls.specs.Words.{capacity_of, width_of}
use Rattle.nam_catalog.specs.Fits.{FitsLimits}
use Rattle.nam_catalog.specs.Tables.{widths_of}
use Rattle.nam_catalog.specs.declared.shape.Shape.{Shape}
use Rattle.nam_protocol.proofs.FallsKeys.{own_wide}
use Rattle.nam_protocol.proofs.FallsScan.{ScanFalls}
use Rattle.nam_protocol.specs.Operations.{own_value}
use Rattle.nam_protocol.specs.Scan.{scan_skip}
use Rattle.nam_protocol.specs.ScanCall.{inserted, item_of, on_scan, on_skip, scan_ended, scan_listed, scanned_items}
use Rattle.nam_protocol.specs.ScanCall.{sorted_onto, with_gathered}
use Rattle.nam_protocol.specs.Telling.{go}
use Rattle.nam_protocol.specs.TxnFits.{StateFits}
use Rattle.nam_protocol.specs.declared.client.CallPoint.TheVariants.{Scanning}
use Rattle.nam_protocol.specs.declared.client.ClientState.{ClientState}
use Rattle.nam_protocol.specs.declared.client.Open.{Open}
use Rattle.nam_protocol.specs.declared.client.Scanned.{Scanned}
use Rattle.nam_protocol.specs.declared.scan.ScanAnswer.{ScanAnswer}
use Rattle.nam_protocol.specs.declared.scan.ScanPoint.{ScanPoint}
use Rattle.nam_protocol.specs.declared.scan.ScanPoint.TheVariants.{ScanKey, ScanRead}
use Rattle.nam_protocol.specs.declared.txn.TxnAnswer.{TxnAnswer}
use Rattle.nam_protocol.specs.declared.txn.TxnAnswer.TheVariants.{Astray}
use Rattle.nam_report.specs.Fits.{ItemFits, OutcomeFits}
use Rattle.nam_simulated.proofs.ClientSo.{AreOfWidth, ClientSo, OpenSo}
use Rattle.nam_simulated.proofs.ItemsFit.{table_named}
use Rattle.nam_simulated.proofs.LogGrows.{LogSo, end_so, reads_so}
use Rattle.nam_verbs.proofs.TestLemmas.{by_equal, by_test}
use Rattle.nam_verbs.specs.declared.now.Now.{Now}
use Rattle.nam_verbs.specs.declared.now.Now.TheVariants.{At, Over}
use Rattle.si_model.proofs.ListLemmas.{All-append}
use Rattle.si_model.specs.Rows.{key_at, writes_key}
use Rattle.si_model.specs.declared.log.Outcome.{Outcome}
use Rattle.si_model.specs.declared.log.Outcome.TheVariants.{Left, TooOld}
use Rattle.std.proofs.Common.{List, None, Option, Some, [], length, subst, sym, ℕ, ◌++◌, ◌+◌, ◌∷◌, ◌≡◌}
use Rattle.nam_protocol.proofs.GoesClient.{with_rows}
use Rattle.std.specs.List.{AllByRecursion}
use Rattle.std.specs.Prelude.{map, nat_lt}
use Rattle.nam_protocol.specs.declared.scan.ScanAnswer.TheVariants as scan_answer
use Rattle.nam_protocol.specs.declared.txn.TxnAnswer.TheVariants as txn_answer
use Rattle.si_model.specs.declared.log.Outcome.TheVariants as outcome

-- 1. The rows

module _ (P : Scanned → Type 0) where
  all_inserted : (row : Scanned) (rows : List Scanned) → P row → AllByRecursion P rows
      → AllByRecursion P (inserted row rows)
  all_inserted row [] p all = (p, tt)
  all_inserted row (r ∷ rs) p all =
      by_test (AllByRecursion P) (nat_lt row.key r.key) (row ∷ r ∷ rs) (r ∷ inserted row rs) (λ e. (p, all))
      (λ e. (all.0, all_inserted row rs p all.1))

  all_sorted : (done rows : List Scanned) → AllByRecursion P done → AllByRecursion P rows
      → AllByRecursion P (sorted_onto done rows)
  all_sorted done [] all more = all
  all_sorted done (row ∷ rows) all more =
      all_sorted (inserted row done) rows (all_inserted row done more.0 all) more.1

module _ (shape : Shape) (limits : FitsLimits shape) (table : ℕ) (is : IsTableOf shape table) where
  rows_fit : (rows : List Scanned) → AreOfWidth (width_of shape table) rows
      → AllByRecursion (ItemFits (widths_of shape.tables)) (map (item_of table) rows)
  rows_fit [] wide = tt
  rows_fit (row ∷ rows) wide = ((table_named shape table is, wide.0), rows_fit rows wide.1)

  items_fit : (rows : List Scanned) → AreOfWidth (width_of shape table) rows
      → AllByRecursion (ItemFits (widths_of shape.tables)) (scanned_items table rows)
  items_fit rows wide =
      rows_fit (sorted_onto [] rows)
      (all_sorted (λ row. length row.value ≡ width_of shape table) [] rows tt wide)

  -- 2. What follows a position

  module _ (client : ClientState) (attempt : Open) (opened : client.txn ≡ Some attempt)
      (so : LogSo shape client.log attempt.reads attempt.locks 1) (low high : ℕ) where
    goes_on : (rows : List Scanned) (place : ScanPoint) → AreOfWidth (width_of shape table) rows
        → ClientSo shape (go (with_rows client rows) (Scanning table low high place))
    goes_on rows place wide = record { so = subst (OpenSo shape client.log) (sym opened) so; scanned = wide }

    is_listed : (rows : List Scanned) → AreOfWidth (width_of shape table) rows
        → ClientSo shape (scan_listed (with_rows client rows) attempt table)
    is_listed rows wide =
        let items = scanned_items table rows in
        record {
          so = reads_so shape client.log items attempt.reads attempt.locks 1 so (items_fit rows wide);
          scanned = tt;
        }

    is_ended : (how : Outcome) (end : TxnAnswer) → OutcomeFits (widths_of shape.tables) how
        → ClientSo shape (scan_ended client attempt how end)
    is_ended how end fits = record { so = end_so shape client.log attempt how so fits; scanned = tt }

    skips : (rows : List Scanned) (position : ℕ) → AreOfWidth (width_of shape table) rows
        → ClientSo shape (on_skip (with_rows client rows) attempt table low high (scan_skip shape table position))
    skips rows position wide =
        by_equal (λ now. ClientSo shape (on_skip (with_rows client rows) attempt table low high now)) (position + 1)
        (capacity_of shape table) _ _ (λ e. is_listed rows wide) (λ e. goes_on rows (ScanKey (position + 1)) wide)

    gathers : (position key : ℕ) (value : Option (List ℕ)) → AreOfWidth (width_of shape table) client.scanned
        → HasWidth (width_of shape table) value
        → ClientSo shape (on_skip (with_gathered client position key value) attempt table low high
        (scan_skip shape table position))
    gathers position key None rows wide = skips client.scanned position rows
    gathers position key (Some value) rows wide =
        skips (client.scanned ++ record { position = position; key = key; value = value } ∷ []) position
        (All-append (λ (row : Scanned). length row.value ≡ width_of shape table) client.scanned
        (record { position = position; key = key; value = value } ∷ []) rows (wide, tt))

    -- 3. The word

    pub scan_kept : (position : ℕ) (now : Now ScanPoint ScanAnswer) (n : ℕ) → StateFits shape attempt.state
        → AreOfWidth (width_of shape table) client.scanned → ScanFalls shape limits table is position n now
        → ClientSo shape (on_scan shape client attempt table low high position now)
    scan_kept position (At place) n fits rows falls = goes_on client.scanned place rows
    scan_kept position (Over (scan_answer.Key key)) n fits rows falls =
        by_test (ClientSo shape) (writes_key attempt.state.writes (key_at table key)) _ _
        (λ e. gathers position key (own_value attempt.state.writes (key_at table key)) rows
        (own_wide shape attempt.state.writes (key_at table key) fits.wide))
        (λ e. goes_on client.scanned (ScanRead position key read_begin) rows)
    scan_kept position (Over (scan_answer.Row item)) n fits rows falls =
        gathers position item.key item.value rows falls.0
    scan_kept position (Over scan_answer.Done) n fits rows falls = is_listed client.scanned rows
    scan_kept position (Over (scan_answer.TooOld worker entry horizon)) n fits rows falls =
        is_ended (outcome.TooOld worker entry horizon) (txn_answer.TooOld worker entry horizon) tt
    scan_kept position (Over scan_answer.Astray) n fits rows falls = is_ended outcome.Left txn_answer.Astray tt
