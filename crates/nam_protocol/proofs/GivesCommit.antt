-- A commit's stamp is one that headers can bear, and each written record gets a value of its width.
use Rattle.std.proofs.Common.{◌≡◌, ℕ, zero, suc, ◌+◌, ◌<◌, ◌≤◌, List, [], ◌∷◌, ◌++◌, length, refl, sym, ◌∙◌, ap, subst}
use Rattle.std.proofs.Common.{arith, true}
use Rattle.std.specs.Prelude.{map, slice_index_or}
use Rattle.si_model.specs.declared.row.Key.{Key}
use Rattle.si_model.specs.declared.row.Item.{Item}
use Rattle.si_model.specs.Rows.{item_key}
use Rattle.si_model.specs.Evaluation.{unwritten}
use Rattle.si_model.specs.EvaluationLaws.{IsWide}
use Rattle.nam_catalog.specs.declared.bounds.TheConstants.{MOST_WORKERS}
use Rattle.nam_catalog.specs.declared.form.Form.{Form}
use Rattle.nam_catalog.specs.declared.form.Form.TheVariants.{Narrow, Wide, Held}
use Rattle.nam_catalog.specs.declared.shape.Shape.{Shape}
use Rattle.nam_catalog.specs.Fits.{FitsLimits}
use Rattle.nam_catalog.specs.Greatest.{greatest_number}
use Rattle.nam_catalog.specs.Tables.{widths_of}
use Rattle.nam_header.specs.Stamp.{FitsStamp}
use Rattle.nam_layout.specs.declared.field.Place.{Place}
use Rattle.nam_calls.specs.Fits.{HasWidth}
use Rattle.nam_protocol.specs.declared.txn.Record.{Record}
use Rattle.nam_protocol.specs.declared.txn.TxnState.{TxnState}
use Rattle.nam_protocol.specs.Commit.{record_in, records_of, record_at, record_place, no_record, no_item, value_at}
use Rattle.nam_protocol.specs.TxnFits.{is_claimed, StateFits}
use Rattle.nam_protocol.specs.CommitGives.{CommitGivesLaw}
use Rattle.nam_protocol.proofs.FallsKeys.{all_at, place_of_nth, record_is_placed}
use Rattle.nam_protocol.proofs.FallsBegins.{record_width}

stamp_fits : (form : Form) (worker number : ℕ) → worker ≤ MOST_WORKERS → number ≤ greatest_number form
    → FitsStamp form record { thread = worker; number = number }
stamp_fits Narrow worker number w n = record { thread = omega arith; number = omega arith }
stamp_fits Wide worker number w n = record { thread = omega arith; number = omega arith }
stamp_fits Held worker number w n = record { thread = omega arith; number = omega arith }

-- the nth record is of the nth written key
written_record : (cs : List Record) (ws : List Item) (rest : List Key) (nth : ℕ) → nth < length ws
    → slice_index_or (map (record_in cs) (map item_key ws ++ rest)) nth no_record
    ≡ record_in cs (item_key (slice_index_or ws nth no_item))
written_record cs [] rest nth l = absurd (omega arith)
written_record cs (w ∷ ws) rest zero l = refl
written_record cs (w ∷ ws) rest (suc nth) l = written_record cs ws rest nth (omega arith)

module _ (shape : Shape) (limits : FitsLimits shape) (state : TxnState) (fits : StateFits shape state)
    (are : state.records ≡ records_of state) where
  form_is : (nth : ℕ) → nth < length state.records → (record_place state nth).form ≡ shape.form
  form_is nth l =
      let p = record_is_placed shape state fits are nth l in
      ap (λ (place : Place). place.form) (place_of_nth state.records nth ∙ p.2)

  value_wide : (nth : ℕ) → nth < length state.writes
      → HasWidth (record_place state nth).width (value_at state nth)
  value_wide nth l =
      let item = slice_index_or state.writes nth no_item in
      let key = item_key item in
      let claimed = all_at (λ (i : Item). is_claimed state.claims (item_key i) ≡ true) no_item state.writes nth
      fits.written l in
      let here : record_at state nth ≡ record_in state.claims key =
      ap (λ (rs : List Record). slice_index_or rs nth no_record) are
      ∙ written_record state.claims state.writes (unwritten state.writes state.guards) nth l in
      let width = ap (λ (place : Place). place.width) (place_of_nth state.records nth)
      ∙ ap (λ (r : Record). r.place.width) here
      ∙ record_width shape limits state.claims key fits.placed claimed in
      subst (λ w. HasWidth w item.value) (sym width)
      (all_at (IsWide (widths_of shape.tables)) no_item state.writes nth fits.wide l)

pub commit_gives : CommitGivesLaw
commit_gives shape limits state at fits c =
    let room = c.3 in
    let worker = fits.worker_is.1 in
    let most = limits.most_workers in
    record {
      stamp = stamp_fits shape.form state.worker (state.last + 1) (omega arith) (omega arith);
      form = form_is shape limits state fits c.0;
      value = value_wide shape limits state fits c.0;
    }
