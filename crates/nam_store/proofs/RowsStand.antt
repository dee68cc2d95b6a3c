-- Each loaded row stands on its key's path, since its table has room for it.
use Rattle.std.proofs.Common.{Bool, List, [], ap, arith, inl, inr, length, map, refl, subst, suc, sym, true, zero}
use Rattle.std.proofs.Common.{ℕ, ◌+◌, ◌<◌, ◌≤◌, ◌∙◌, ◌∷◌, ◌≡◌, ◌≢◌, ◌⊎◌}
use Rattle.std.specs.List.{filter}
use Rattle.std.specs.Prelude.{◌==◌, ◌&&◌, false}
use Rattle.std.proofs.lemmas.Bool.{cases_eq, cases_lt, eq-eqb, false≢true}
use Rattle.std.proofs.lemmas.List.{length-map}
use Rattle.si_model.specs.declared.row.Row.{Row}
use Rattle.si_model.specs.Lists.{Listed, Pairwise}
use Rattle.si_model.specs.Rows.{row_key, same_key}
use Rattle.si_model.proofs.ListLemmas.{All-listed, listed_filter, listed_map}
use Rattle.nam_catalog.specs.declared.shape.Shape.{Shape}
use Rattle.nam_layout.specs.RowLaw.{IsRowOf}
use Rattle.nam_layout.specs.Rows.{position_of, row_of, table_of}
use Rattle.nam_layout.proofs.PositionLemmas.{position_is_row}
use Rattle.nam_calls.specs.Fits.{IsTableOf}
use Rattle.nam_calls.specs.Index.{nth_position}
use Rattle.nam_calls.specs.Words.{capacity_of, key_word, path_of}
use Rattle.nam_protocol.specs.Opening.{opening_words}
use Rattle.nam_protocol.specs.OpeningLaw.{BearKeys, HasRow, IsOfTable, IsOpening, StandsOnPath}
use Rattle.nam_protocol.proofs.OpeningLemmas.{opening_law, path_law}
use Rattle.nam_store.specs.LoadedLaw.{KeysStand, RowsStandLaw, word_after}
use Rattle.nam_store.specs.Opening.{AreLoaded}
use Rattle.nam_store.proofs.KeysOpen.{key_at, keys_open}
use Rattle.nam_store.proofs.PathLemmas.{on_row, row_on, row_reached, rows_differ}

-- 1. Numbers that differ, each in a list, are no more than the list has

-- a list without one of its elements
shorter : (ys : List ℕ) (x : ℕ) → Listed x ys
    → (zs : List ℕ) × (length ys ≡ suc (length zs)) × ((y : ℕ) → y ≢ x → Listed y ys → Listed y zs)
shorter [] x listed = absurd listed
shorter (y ∷ ys) x (inl same) =
    (ys, refl, λ z apart listed. elim listed [ inl e ↦ absurd (apart (sym e ∙ same)) | inr later ↦ later ])
shorter (y ∷ ys) x (inr later) =
    let t = shorter ys x later in
    (y ∷ t.0, ap suc t.1, λ z apart listed. elim listed [ inl e ↦ inl e | inr l ↦ inr (t.2 z apart l) ])

few_listed : (word : ℕ → ℕ) (n : ℕ) (ys : List ℕ) → ((j k : ℕ) → j < k → k < n → word j ≢ word k)
    → ((k : ℕ) → k < n → Listed (word k) ys) → n ≤ length ys
few_listed word zero ys differ listed = omega arith
few_listed word (suc n) ys differ listed =
    let t = shorter ys (word n) (listed n (omega arith)) in
    let less = few_listed word n t.0 (λ j k before within. differ j k before (omega arith))
    (λ k within. t.2 (word k) (differ k n within (omega arith)) (listed k (omega arith))) in
    let long = t.1 in omega arith

-- one of the first n is this, or none
among : (word : ℕ → ℕ) (x n : ℕ)
    → ((k : ℕ) × (k < n) × (word k ≡ x)) ⊎ ((k : ℕ) → k < n → word k ≢ x)
among word x zero = inr (λ k within. absurd (omega arith))
among word x (suc n) = elim (cases_eq (word n) x) [
  | inl same ↦ inl (n, (omega arith), same)
  | inr apart ↦ elim (among word x n) [
    | inl some ↦ let within = some.1 in inl (some.0, (omega arith), some.2)
    | inr none ↦ inr (λ k within e. elim (cases_eq k n) [
      | inl last ↦ apart (ap word (sym last) ∙ e)
      | inr before ↦ none k (omega arith) e
    ])
  ]
]

-- 2. Rows of one key are one

keys_same : (a b : Row) → a.table ≡ b.table → a.key ≡ b.key → same_key (row_key a) (row_key b) ≡ true
keys_same a b table key =
    ap (λ (t : Bool). t && (a.key == b.key)) (eq-eqb a.table b.table table) ∙ eq-eqb a.key b.key key

rows_same : (rows : List Row) (a b : Row)
    → Pairwise (λ (x y : Row). same_key (row_key x) (row_key y) ≡ false) rows → Listed a rows → Listed b rows
    → a.table ≡ b.table → a.key ≡ b.key → a ≡ b
rows_same [] a b apart la lb table key = absurd la
rows_same (r ∷ rows) a b apart (inl ea) (inl eb) table key = sym ea ∙ eb
rows_same (r ∷ rows) a b apart (inl ea) (inr lb) table key =
    absurd (false≢true (sym (All-listed _ rows b apart.0 lb)
    ∙ keys_same r b (ap (λ (x : Row). x.table) ea ∙ table) (ap (λ (x : Row). x.key) ea ∙ key)))
rows_same (r ∷ rows) a b apart (inr la) (inl eb) table key =
    absurd (false≢true (sym (All-listed _ rows a apart.0 la)
    ∙ keys_same r a (ap (λ (x : Row). x.table) eb ∙ sym table) (ap (λ (x : Row). x.key) eb ∙ sym key)))
rows_same (r ∷ rows) a b apart (inr la) (inr lb) table key = rows_same rows a b apart.1 la lb table key

-- 3. A key has at most one position

module _ (shape : Shape) (words : List ℕ) (stand : KeysStand shape words) (table : ℕ) (is : IsTableOf shape table)
    (key : ℕ) where
  -- no two on its path bear it
  not_twice : (p q : ℕ) → q < capacity_of shape table → word_after shape words table key p ≡ key_word key
      → word_after shape words table key q ≡ key_word key → p < q → ⊥
  not_twice p q within here there less = (stand table key q is within there p less).1 here

  pub key_once : (a b : ℕ) → a < capacity_of shape table → b < capacity_of shape table
      → key_at shape words (row_of shape.tables table a) ≡ key_word key
      → key_at shape words (row_of shape.tables table b) ≡ key_word key → a ≡ b
  key_once a b la lb here there =
      let s = row_reached shape table is key a la in
      let t = row_reached shape table is key b lb in
      let at_a : word_after shape words table key s.0 ≡ key_word key = ap (key_at shape words) s.2 ∙ here in
      let at_b : word_after shape words table key t.0 ≡ key_word key = ap (key_at shape words) t.2 ∙ there in
      elim (cases_lt s.0 t.0) [
        | inl less ↦ absurd (not_twice s.0 t.0 t.1 at_a at_b less)
        | inr least ↦ elim (cases_lt t.0 s.0) [
          | inl less ↦ absurd (not_twice t.0 s.0 s.1 at_b at_a less)
          | inr most ↦
              let same : s.0 ≡ t.0 = omega arith in
              sym (position_is_row shape.tables table a (is, la)).position_is
              ∙ ap (position_of shape.tables) (sym s.2 ∙ ap (row_on shape table key) same ∙ t.2)
              ∙ (position_is_row shape.tables table b (is, lb)).position_is
        ]
      ]

-- 4. The row stands

module _ (shape : Shape) (rows : List Row) (loaded : AreLoaded shape rows) (row : Row) (listed : Listed row rows) where
  abbrev words : List ℕ
  words = opening_words shape rows

  abbrev capacity : ℕ
  capacity = capacity_of shape row.table

  -- the words of the row's path
  abbrev word : ℕ → ℕ
  word = word_after shape words row.table row.key

  opening : IsOpening shape rows words
  opening = opening_law shape rows loaded.of_tables

  stand : KeysStand shape words
  stand = keys_open shape rows loaded

  is : IsTableOf shape row.table
  is = (All-listed (IsOfTable shape) rows row loaded.of_tables listed).table_is

  -- a row of the same table that a position bears
  record Bears (k : ℕ) : Type 0 where
    other : Row
    found : Listed other rows
    table : other.table ≡ row.table
    has : HasRow shape words (row_on shape row.table row.key k) other

  bears : (k : ℕ) → k < capacity → word k ≢ 0 → Bears k
  bears k within some = elim (opening.positions (row_on shape row.table row.key k) at.within) [
    | inl free ↦ absurd (some free.key)
    | inr (other, of_rows, has) ↦ record {
      other = other;
      found = of_rows;
      table =
          sym (position_is_row shape.tables other.table has.position
          ((All-listed (IsOfTable shape) rows other loaded.of_tables of_rows).table_is, has.within)).table_is
          ∙ ap (table_of shape.tables) (sym has.at_is) ∙ at.table_is;
      has = has;
    }
  ]
    where
      at : IsRowOf shape.tables row.table (nth_position (path_of shape row.table row.key) k)
          (row_on shape row.table row.key k)
      at = on_row shape row.table is row.key k within

  -- where its key is, it is
  stands_at : (k : ℕ) → k < capacity → word k ≡ key_word row.key → StandsOnPath shape words row
  stands_at k within e =
      let b = bears k within (λ none. let same = e in omega arith) in
      let key : b.other.key ≡ row.key = let here = b.has.key in omega arith in
      record {
        passed = k;
        within = within;
        has =
            subst (HasRow shape words (row_on shape row.table row.key k))
            (rows_same rows b.other row loaded.apart b.found listed b.table key) b.has;
        past = λ j before. (stand row.table row.key k is within e j before).0;
      }

  abbrev of_table : Row → Bool
  of_table other = other.table == row.table

  abbrev their_words : List ℕ
  their_words = map (λ (other : Row). key_word other.key) (filter of_table rows)

  word_listed : (other : Row) → Listed other rows → other.table ≡ row.table → Listed (key_word other.key) their_words
  word_listed other l table =
      listed_map (λ (r : Row). key_word r.key) (filter of_table rows) other
      (listed_filter of_table rows other l (eq-eqb other.table row.table table))

  words_differ : BearKeys shape words row capacity → (j k : ℕ) → j < k → k < capacity → word j ≢ word k
  words_differ full j k before within e =
      let b = bears k within (full k within) in
      let at : word k ≡ key_word b.other.key = b.has.key in
      let path = path_of shape row.table row.key in
      let one = key_once shape words stand row.table is b.other.key (nth_position path j) (nth_position path k)
      (omega arith) (omega arith)
      (ap (key_at shape words) (on_row shape row.table is row.key j (omega arith)).row_is ∙ e ∙ at)
      (ap (key_at shape words) (on_row shape row.table is row.key k within).row_is ∙ at) in
      let same = rows_differ shape row.table is row.key j k (omega arith) within
      (ap (λ p. row_of shape.tables row.table 0 + p) one) in
      omega arith

  -- if the table's positions bore other keys alone, it had more rows than positions
  not_full : BearKeys shape words row capacity → ((k : ℕ) → k < capacity → word k ≢ key_word row.key) → ⊥
  not_full full none =
      let t = shorter their_words (key_word row.key) (word_listed row listed refl) in
      let few = few_listed word capacity t.0 (words_differ full) (λ k within.
      let b = bears k within (full k within) in
      t.2 (word k) (none k within)
      (subst (λ w. Listed w their_words) (sym b.has.key) (word_listed b.other b.found b.table))) in
      let long = t.1 in
      let same = length-map (filter of_table rows) (λ (other : Row). key_word other.key) in
      let room = loaded.room row.table is in
      omega arith

pub rows_stand : RowsStandLaw
rows_stand shape rows loaded row listed = elim (path_law shape rows loaded.of_tables row listed) [
  | inl stands ↦ stands
  | inr full ↦
      elim (among (word shape rows loaded row listed) (key_word row.key) (capacity_of shape row.table)) [
        | inl some ↦ stands_at shape rows loaded row listed some.0 some.1 some.2
        | inr none ↦ absurd (not_full shape rows loaded row listed full none)
      ]
]
