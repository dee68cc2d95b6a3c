-- The records of a commit, as they are looked up and filled in.
use Rattle.std.specs.Prelude.{slice_index, slice_index_or, Option, ◌==◌, if◌then◌else◌, IsTrue, ◌↔◌}
use Rattle.std.proofs.Common.{◌≡◌, ℕ, ◌+◌, ◌<◌, ◌≤◌, List, [], ◌∷◌, ◌++◌, length, map, refl, sym, ap}
use Rattle.std.proofs.Common.{arith, ◌∙◌, true, false, Bool}
use Rattle.std.proofs.lemmas.Bool.{eqb-false, false≢true}
use Rattle.std.proofs.lemmas.List.{get_or_read, length-map}
use Rattle.si_model.specs.declared.row.Item.{Item}
use Rattle.si_model.specs.declared.row.Key.{Key}
use Rattle.si_model.specs.declared.log.Lock.{Lock}
use Rattle.si_model.specs.Rows.{item_key}
use Rattle.si_model.specs.Evaluation.{unwritten}
use Rattle.nam_catalog.specs.declared.shape.Shape.{Shape}
use Rattle.nam_catalog.specs.Greatest.{greatest_number}
use Rattle.nam_calls.specs.Lock.{lock_begin}
use Rattle.nam_protocol.specs.declared.txn.TxnPoint.TheVariants.{Committing}
use Rattle.nam_protocol.specs.declared.txn.CommitPoint.TheVariants.{Listing, Locking}
use Rattle.nam_protocol.specs.Txn.{at}
use Rattle.nam_protocol.specs.Commit.{ask_commit, list_begin}
use Rattle.nam_layout.specs.declared.field.Place.{Place}
use Rattle.nam_protocol.specs.declared.txn.Record.{Record}
use Rattle.nam_protocol.specs.declared.txn.TxnState.{TxnState}
use Rattle.nam_protocol.specs.Commit.{places, value_at, no_item, records_of, commit_keys, record_in, committing}
use Rattle.nam_protocol.specs.Commit.{tells_intent, has_intents}
use Rattle.nam_protocol.specs.TxnFits.{StateFits}
use Rattle.nam_protocol.proofs.FallsKeys.{tells_by_form}
use Rattle.nam_protocol.proofs.FewLemmas.{few_keys}

-- there are as many places as records
pub places_length : (state : TxnState) → length (places state) ≡ length state.records
places_length state = length-map state.records (λ (r : Record). r.place)

-- the value of an item that was looked up
pub value_read : (state : TxnState) (nth : ℕ) (item : Item) → nth < length state.writes
    → item ≡ slice_index_or state.writes nth item → item.value ≡ value_at state nth
value_read state nth item within read =
    ap (λ (i : Item). i.value) (sym (sym (get_or_read state.writes nth item within read no_item)))

-- a commit that is asked tells its intent exactly in form Held
pub tells_asked : (shape : Shape) (state : TxnState) → StateFits shape state → 1 ≤ length state.writes
    → tells_intent (committing state) ≡ has_intents shape.form
tells_asked shape state fits some = tells_by_form shape (committing state) fits refl some

-- a list that isn't empty has a length
pub some_written : (items : List Item) (empty : Bool) → (IsTrue empty ↔ (items ≡ [])) → empty ≡ false
    → (length items == 0) ≡ false
some_written [] empty iff full = absurd (false≢true (sym full ∙ iff.1 refl))
some_written (item ∷ items) empty iff full = grind arith

-- where a commit begins that has something to commit and a number for it
pub begins : (shape : Shape) (state : TxnState) → StateFits shape state → (length state.writes == 0) ≡ false
    → (state.last == greatest_number shape.form) ≡ false
    → ask_commit shape state
    ≡ at (committing state) (Committing (if has_intents shape.form then Listing list_begin else Locking lock_begin))
begins shape state fits some left =
    let tells = tells_asked shape state fits (let e = eqb-false (length state.writes) 0 some in omega arith) in
    rw some (rw left (ap (λ b. at (committing state)
    (Committing (if b then Listing list_begin else Locking lock_begin))) tells))

pub begins_so : (shape : Shape) (state next : TxnState) (told : Bool) → StateFits shape state
    → (length state.writes == 0) ≡ false → (state.last == greatest_number shape.form) ≡ false
    → has_intents shape.form ≡ told → next ≡ committing state
    → at next (Committing (if told then Listing list_begin else Locking lock_begin)) ≡ ask_commit shape state
begins_so shape state next told fits some left form same =
    ap (λ s. at s (Committing (if told then Listing list_begin else Locking lock_begin))) same
    ∙ ap (λ b. at (committing state) (Committing (if b then Listing list_begin else Locking lock_begin))) (sym form)
    ∙ sym (begins shape state fits some left)

-- the keys of a commit are few enough
pub few_records : (shape : Shape) (state : TxnState) → StateFits shape state → length (records_of state) ≤ 16
few_records shape state fits = (few_keys shape state fits).records
