-- The rows of a scan's range: at most one at a position, and what has been gathered once a position is left.
use Rattle.std.proofs.Common.{Bool, List, None, Option, Some, [], arith, false, inl, inr, refl, subst, sym, true, ℕ}
use Rattle.std.proofs.Common.{◌++◌, ◌+◌, ◌<◌, ◌∙◌, ◌∷◌, ◌≡◌}
use Rattle.std.proofs.lemmas.Bool.{cases_lt}
use Rattle.std.proofs.lemmas.Option.{none-some, same_Some}
use Rattle.nam_catalog.specs.declared.shape.Shape.{Shape}
use Rattle.nam_ghost.proofs.ListLemmas.{got_listed, pairs_push}
use Rattle.nam_ghost.specs.Keys.{Bears}
use Rattle.nam_ghost.specs.Versions.{Chain}
use Rattle.nam_layout.specs.Rows.{row_of}
use Rattle.nam_layout.specs.declared.field.Field.{Field}
use Rattle.nam_protocol.specs.Carries.{IsBetween}
use Rattle.nam_protocol.specs.declared.client.Scanned.{Scanned}
use Rattle.nam_protocol.specs.declared.txn.TxnState.{TxnState}
use Rattle.nam_scans.proofs.NewestLemmas.{newest_once}
use Rattle.nam_scans.specs.Gathered.{Finds, FindsBy, HasGathered, IsOfRange}
use Rattle.si_model.proofs.ListLemmas.{listed_append_cases, listed_append_left, listed_append_right}
use Rattle.si_model.specs.Rows.{key_at, writes_key}
use Rattle.si_model.specs.declared.row.Key.{Key}

-- what a transaction finds at a key is one value
by_once : (test : Bool) (state : TxnState) (chain : Chain) (key : Key) (one other : Option (List ℕ))
    → FindsBy test state chain key one → FindsBy test state chain key other → one ≡ other
by_once true state chain key one other a b = a ∙ sym b
by_once false state chain key one other a b = newest_once state.seen chain one other a b

pub finds_once : (state : TxnState) (chain : Chain) (key : Key) (one other : Option (List ℕ))
    → Finds state chain key one → Finds state chain key other → one ≡ other
finds_once state chain key = by_once (writes_key state.writes key) state chain key

module _ (shape : Shape) (m : Field → ℕ) (chains : ℕ → Chain) (state : TxnState) (table low high : ℕ) where
  abbrev Row : Scanned → Type 0
  Row = IsOfRange shape m chains state table low high

  abbrev Gathers : ℕ → List Scanned → Type 0
  Gathers = HasGathered shape m chains state table low high

  -- 1. One position

  abbrev at_position : ℕ → ℕ → List ℕ → Scanned
  at_position position key value = record { position = position; key = key; value = value }

  -- a position that bears a key has no row but of this key, with the value that is found there
  pub row_is : (position key : ℕ) (value : Option (List ℕ)) → Bears shape m table key position
      → Finds state (chains (row_of shape.tables table position)) (key_at table key) value → (row : Scanned)
      → row.position ≡ position → Row row → (row.key ≡ key) × (value ≡ Some row.value)
  row_is position key value bears finds row at is =
      let here : Row (at_position position row.key row.value) =
      subst (λ p. Row (at_position p row.key row.value)) at is in
      let other = here.bears in
      let same : row.key ≡ key = omega arith in
      let there : Row (at_position position key row.value) =
      subst (λ k. Row (at_position position k row.value)) same here in (
        same,
        finds_once state (chains (row_of shape.tables table position)) (key_at table key) value (Some row.value) finds
            there.finds,
      )

  -- so two rows of a position are one
  pub range_once : (one other : Scanned) → one.position ≡ other.position → Row one → Row other → one ≡ other
  range_once one other at is there =
      let row = row_is other.position other.key (Some other.value) there.bears there.finds one at is in
      let same = sym (same_Some other.value one.value row.1) in
      λ i. record { position = at i; key = row.0 i; value = same i }

  -- 2. A position is left

  module _ (position : ℕ) (rows : List Scanned) (before : Gathers position rows) where
    -- it has no row
    pub left_empty : ((row : Scanned) → row.position ≡ position → Row row → ⊥) → Gathers (position + 1) rows
    left_empty none = record {
      only = λ row listed. let o = before.only row listed in let less = o.0 in ((omega arith), o.1);
      each = λ row less is. elim (cases_lt row.position position) [
        | inl earlier ↦ before.each row earlier is
        | inr most ↦ absurd (none row (omega arith) is)
      ];
      order = before.order;
    }

    -- it has this row
    left_with : (row : Scanned) → row.position ≡ position → Row row → Gathers (position + 1) (rows ++ row ∷ [])
    left_with row at is = record {
      only = λ other listed. elim (listed_append_cases rows (row ∷ []) other listed) [
        | inl earlier ↦ let o = before.only other earlier in let less = o.0 in ((omega arith), o.1)
        | inr last ↦ elim last [
          | inl same ↦ subst (λ (r : Scanned). (r.position < position + 1) × Row r) same ((omega arith), is)
          | inr none ↦ absurd none
        ]
      ];
      each = λ other less there. elim (cases_lt other.position position) [
        | inl earlier ↦ listed_append_left rows (row ∷ []) other (before.each other earlier there)
        | inr most ↦
            listed_append_right rows (row ∷ []) other (inl (range_once row other (omega arith) is there))
      ];
      order = pairs_push (λ (a b : Scanned). a.position < b.position) rows row before.order
          (λ n other got. let less = (before.only other (got_listed rows n other got)).0 in omega arith);
    }

    -- the rows with what a position's key holds, where it is present
    abbrev with_value : ℕ → Option (List ℕ) → List Scanned
    with_value key None = rows
    with_value key (Some value) = rows ++ at_position position key value ∷ []

    -- it bears a key of the range
    pub left_found : (key : ℕ) (value : Option (List ℕ)) → Bears shape m table key position → IsBetween low high key
        → Finds state (chains (row_of shape.tables table position)) (key_at table key) value
        → Gathers (position + 1) (with_value key value)
    left_found key None bears between finds =
        left_empty (λ row at is. none-some row.value (row_is position key None bears finds row at is).1)
    left_found key (Some value) bears between finds =
        left_with (at_position position key value) refl record { bears = bears; between = between; finds = finds }
