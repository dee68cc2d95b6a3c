-- The records of a commit are different rows: each row bears its record's key, and no key comes twice.
use Rattle.std.proofs.Common.{List, [], ap, arith, inl, inr, length, map, refl, subst, suc, sym, true, zero, ℕ, ◌<◌}
use Rattle.std.proofs.Common.{◌∙◌, ◌∷◌, ◌≡◌}
use Rattle.std.proofs.lemmas.Bool.{false≢true, true≢false}
use Rattle.std.proofs.lemmas.List.{length-map}
use Rattle.std.proofs.lemmas.Map.Keys.{apart_from_distinct}
use Rattle.std.specs.Prelude.{slice_index_or}
use Rattle.nam_calls.specs.Words.{key_word}
use Rattle.nam_catalog.specs.declared.shape.Shape.{Shape}
use Rattle.nam_ghost.specs.Holders.{record_row}
use Rattle.nam_layout.proofs.PositionLemmas.{position_is_row}
use Rattle.nam_layout.specs.Rows.{table_of}
use Rattle.nam_layout.specs.declared.field.Field.{Field}
use Rattle.nam_layout.specs.declared.field.Field.TheVariants.{Key}
use Rattle.nam_layout.specs.declared.field.Place.{Place}
use Rattle.nam_protocol.proofs.FallsKeys.{all_at, keys_claimed, place_of_nth, record_is_placed}
use Rattle.nam_protocol.proofs.KeyLemmas.{used_once}
use Rattle.nam_protocol.specs.Commit.{commit_keys, no_record, record_at, record_in, records_of}
use Rattle.nam_protocol.specs.TxnFits.{StateFits, is_claimed}
use Rattle.nam_protocol.specs.declared.txn.Record.{Record}
use Rattle.nam_protocol.specs.declared.txn.TxnState.{TxnState}
use Rattle.nam_verbs.proofs.TestLemmas.{by_test}
use Rattle.si_model.proofs.EvaluationLemmas.{same_key-refl, same_key_says}
use Rattle.si_model.specs.Lists.{Listed}
use Rattle.si_model.specs.Rows.{key_at, same_key}
use Rattle.si_model.specs.declared.row.Key as row_key

-- 1. The record of a key

record_key : (claims : List Record) (key : row_key.Key) → (record_in claims key).key ≡ key
record_key [] key = refl
record_key (c ∷ cs) key =
    by_test (λ (r : Record). r.key ≡ key) (same_key c.key key) c (record_in cs key)
    (λ same. same_key_says c.key key same) (λ other. record_key cs key)

record_claimed : (claims : List Record) (key : row_key.Key) → is_claimed claims key ≡ true
    → Listed (record_in claims key) claims
record_claimed [] key is = absurd (false≢true is)
record_claimed (c ∷ cs) key is =
    by_test (λ (r : Record). Listed r (c ∷ cs)) (same_key c.key key) c (record_in cs key) (λ same. inl refl)
    (λ other. inr (record_claimed cs key (rw other at is)))

map_at : {A B : Type 0} (f : A → B) (xs : List A) (nth : ℕ) (x : A) (y : B) → nth < length xs
    → slice_index_or (map f xs) nth y ≡ f (slice_index_or xs nth x)
map_at f [] nth x y less = absurd (omega arith)
map_at f (z ∷ zs) zero x y less = refl
map_at f (z ∷ zs) (suc nth) x y less = map_at f zs nth x y (omega arith)

key_from : (a b : row_key.Key) → a.table ≡ b.table → a.key ≡ b.key → a ≡ b
key_from a b table key = λ k. record { table = table k; key = key k }

-- 2. The records of a commit

module _ (shape : Shape) (m : Field → ℕ) (state : TxnState) (fits : StateFits shape state)
    (are : state.records ≡ records_of state)
    (claims : (claim : Record) → Listed claim state.claims → m (Key claim.place.row) ≡ key_word claim.key.key) where
  abbrev key_of : ℕ → row_key.Key
  key_of p = slice_index_or (commit_keys state) p (key_at 0 0)

  keys_length : length state.records ≡ length (commit_keys state)
  keys_length = ap (λ (rs : List Record). length rs) are ∙ length-map (commit_keys state) (record_in state.claims)

  record_is : (p : ℕ) → p < length state.records → record_at state p ≡ record_in state.claims (key_of p)
  record_is p less =
      let same = keys_length in
      ap (λ (rs : List Record). slice_index_or rs p no_record) are
      ∙ map_at (record_in state.claims) (commit_keys state) p (key_at 0 0) no_record (omega arith)

  key_is : (p : ℕ) → p < length state.records → (record_at state p).key ≡ key_of p
  key_is p less = ap (λ (r : Record). r.key) (record_is p less) ∙ record_key state.claims (key_of p)

  row_is : (p : ℕ) → (record_at state p).place.row ≡ record_row state p
  row_is p = ap (λ (place : Place). place.row) (sym (place_of_nth state.records p))

  -- the row bears the record's key
  pub row_bears : (p : ℕ) → p < length state.records
      → m (Key (record_row state p)) ≡ key_word (record_at state p).key.key
  row_bears p less =
      let same = keys_length in
      let claimed = all_at (λ key. is_claimed state.claims key ≡ true) (key_at 0 0) (commit_keys state) p
      (keys_claimed shape state fits) (omega arith) in
      ap (λ (row : ℕ). m (Key row)) (sym (row_is p))
      ∙ subst (λ (r : Record). m (Key r.place.row) ≡ key_word r.key.key) (sym (record_is p less))
      (claims (record_in state.claims (key_of p)) (record_claimed state.claims (key_of p) claimed))

  -- and is of the key's table
  pub row_table : (p : ℕ) → p < length state.records
      → table_of shape.tables (record_row state p) ≡ (record_at state p).key.table
  row_table p less =
      let placed = record_is_placed shape state fits are p less in
      let row = ap (λ (place : Place). place.row) placed.2 in
      ap (table_of shape.tables) (sym (row_is p) ∙ row)
      ∙ (position_is_row shape.tables (record_at state p).key.table placed.0 placed.1).table_is

  -- so one row has one key
  same_row : (p q : ℕ) → p < length state.records → q < length state.records → record_row state p ≡ record_row state q
      → key_of p ≡ key_of q
  same_row p q one other same =
      let word = sym (row_bears p one) ∙ ap (λ (row : ℕ). m (Key row)) same ∙ row_bears q other in
      let table = sym (row_table p one) ∙ ap (table_of shape.tables) same ∙ row_table q other in
      sym (key_is p one) ∙ key_from (record_at state p).key (record_at state q).key table (omega arith)
      ∙ key_is q other

  pub records_apart : (p q : ℕ) → p < q → q < length state.records → record_row state p ≡ record_row state q → ⊥
  records_apart p q before less same =
      let keys = same_row p q (omega arith) less same in
      let long = keys_length in
      let apart = apart_from_distinct same_key (commit_keys state) p q (key_at 0 0)
      (used_once state.writes state.guards fits.written_once fits.guarded_once) before (omega arith) in
      true≢false (sym (subst (λ (k : row_key.Key). same_key (key_of p) k ≡ true) keys (same_key-refl (key_of p)))
      ∙ apart)
