-- A commit that has published may be listed so: its written records stand at the keys of its write set.
use Rattle.std.proofs.Common.{Some, ap, length, refl, subst, sym, true, ℕ, ◌+◌, ◌<◌, ◌∙◌, ◌≡◌}
use Rattle.std.proofs.lemmas.Option.{get_or_from_slice_get, slice_get_within}
use Rattle.std.specs.List.{AllByRecursion}
use Rattle.std.specs.Prelude.{slice_get, slice_index_or}
use Rattle.nam_calls.specs.Words.{key_word}
use Rattle.nam_catalog.specs.Fits.{FitsLimits}
use Rattle.nam_catalog.specs.declared.shape.Shape.{Shape}
use Rattle.nam_ghost.proofs.KeyLemmas.{claimed_holds}
use Rattle.nam_ghost.specs.Holders.{record_row}
use Rattle.nam_ghost.specs.Keys.{AreAtKeys, IsAtKey}
use Rattle.nam_ghost.specs.Origins.{IsListedAs}
use Rattle.nam_ghost.specs.Publications.{publication_of}
use Rattle.nam_layout.proofs.PositionLemmas.{position_is_row}
use Rattle.nam_layout.specs.Rows.{table_of}
use Rattle.nam_layout.specs.declared.field.Field.{Field}
use Rattle.nam_layout.specs.declared.field.Field.TheVariants.{Key}
use Rattle.nam_layout.specs.declared.field.Place.{Place}
use Rattle.nam_origins.proofs.LogKinds.{listed_commit}
use Rattle.nam_protocol.proofs.FallsKeys.{all_at, keys_claimed, record_is_placed}
use Rattle.nam_protocol.proofs.FieldLemmas.{written_less}
use Rattle.nam_protocol.proofs.RecordLemmas.{place_is, written_key_is}
use Rattle.nam_protocol.specs.Commit.{commit_keys, no_item, no_record, record_at, record_in, records_of}
use Rattle.nam_protocol.specs.TxnFits.{StateFits, is_claimed}
use Rattle.nam_protocol.specs.declared.client.Open.{Open}
use Rattle.nam_protocol.specs.declared.txn.Record.{Record}
use Rattle.nam_protocol.specs.declared.txn.TxnState.{TxnState}
use Rattle.si_model.proofs.ListLemmas.{All-from_listed, All-listed, All-map}
use Rattle.si_model.specs.Rows.{item_key}
use Rattle.si_model.specs.declared.row.Item.{Item}
use Rattle.si_model.specs.declared.row.Key as row_key

module _ (shape : Shape) (limits : FitsLimits shape) (m : Field → ℕ) (state : TxnState) (fits : StateFits shape state)
    (are : state.records ≡ records_of state)
    (claims : AreAtKeys shape m state.claims) where
  abbrev IsAt : Record → Type 0
  IsAt = IsAtKey shape m

  records_at_keys : AllByRecursion IsAt state.records
  records_at_keys =
      let keys = commit_keys state in
      let claimed = All-from_listed IsAt state.claims claims in
      subst (AllByRecursion IsAt) (sym are)
      (All-map (record_in state.claims) IsAt keys
      (All-from_listed (λ key. IsAt (record_in state.claims key)) keys
      (λ key listed. claimed_holds IsAt state.claims key claimed
      (All-listed (λ k. is_claimed state.claims k ≡ true) keys key (keys_claimed shape state fits) listed))))

  module _ (p : ℕ) (less : p < length state.writes) where
    abbrev item : Item
    item = slice_index_or state.writes p no_item

    key_same : (record_at state p).key ≡ item_key item
    key_same = written_key_is shape state fits are p less

    row_same : record_row state p ≡ (record_at state p).place.row
    row_same = ap (λ (place : Place). place.row) (place_is state p)

    table_same : table_of shape.tables (record_row state p) ≡ item.table
    table_same =
        let within = written_less shape limits state fits are p less in
        let placed = record_is_placed shape state fits are p within in
        ap (table_of shape.tables) (row_same ∙ ap (λ (place : Place). place.row) placed.2)
        ∙ (position_is_row shape.tables (record_at state p).key.table placed.0 placed.1).table_is
        ∙ ap (λ (key : row_key.Key). key.table) key_same

    word_same : m (Key (record_row state p)) ≡ key_word item.key
    word_same =
        let within = written_less shape limits state fits are p less in
        ap (λ row. m (Key row)) row_same ∙ all_at IsAt no_record state.records p records_at_keys within
        ∙ ap (λ (key : row_key.Key). key_word key.key) key_same

  pub listed_as : (attempt : Open) → attempt.state ≡ state
      → IsListedAs shape m (publication_of state) (listed_commit state.worker attempt (state.last + 1) state.seen)
  listed_as attempt same = record {
    stamp_is = refl;
    seen_is = refl;
    writes_are = ap (λ (s : TxnState). length s.writes) same;
    each = λ p given here.
        let got : slice_get state.writes p ≡ Some given =
        ap (λ (s : TxnState). slice_get s.writes p) (sym same) ∙ here in
        let less = slice_get_within state.writes p given got in
        let is : item p less ≡ given = get_or_from_slice_get state.writes p given no_item got in (
          table_same p less ∙ ap (λ (i : Item). i.table) is,
          word_same p less ∙ ap (λ (i : Item). key_word i.key) is,
          ap (λ (i : Item). i.value) is,
        );
  }
