-- Each position of a new store is blank or has a loaded row; all other fields are blank.
use Rattle.std.proofs.Common.{◌≡◌, ◌≢◌, ◌⊎◌, ℕ, zero, suc, ◌+◌, ◌-◌, ◌<◌, ◌≤◌, inl, inr, Bool, true, false, List, []}
use Rattle.std.proofs.Common.{◌∷◌, length, refl, sym, ◌∙◌, ap, subst, arith}
use Rattle.std.specs.Prelude.{◌==◌, slice_index}
use Rattle.std.specs.List.{AllByRecursion}
use Rattle.std.proofs.lemmas.Bool.{cases_eq, eqb-true, eqb-false}
use Rattle.si_model.specs.declared.row.Row.{Row}
use Rattle.si_model.specs.Lists.{Listed}
use Rattle.nam_catalog.specs.declared.shape.Shape.{Shape}
use Rattle.nam_catalog.specs.Words.{words_of}
use Rattle.nam_layout.specs.declared.field.Field.{Field}
use Rattle.nam_layout.specs.declared.field.Field.TheVariants.{Key, Header, Word}
use Rattle.nam_layout.specs.Rows.{row_of, width_at}
use Rattle.nam_layout.specs.Address.{IsRow, IsField}
use Rattle.nam_layout.proofs.PositionLemmas.{position_is_row}
use Rattle.nam_calls.specs.Words.{capacity_of, key_word, path_of}
use Rattle.nam_calls.specs.Index.{nth_position}
use Rattle.nam_calls.specs.Memory.{memory, with_word}
use Rattle.nam_calls.proofs.MemoryLemmas.{store_changes}
use Rattle.nam_calls.proofs.FieldLemmas.{row_after, row_within}
use Rattle.nam_protocol.specs.Opening.{with_value, with_row, load_from, with_rows, blank_words}
use Rattle.nam_protocol.specs.OpeningLaw.{IsOfTable, IsUntouched, IsFree, HasRow, IsOpening, BearKeys, StandsOnPath}
use Rattle.nam_protocol.specs.OpeningLaw.{OpeningLaw, PathLaw}
use Rattle.nam_protocol.proofs.BlankLemmas.{blank_law}

module _ (shape : Shape) where
  -- 1. A row's words

  -- the data words of a position from the nth on are these now
  record Writes (at nth : ℕ) (values before after : List ℕ) : Type 0 where
    whole : length after ≡ words_of shape
    here : (k : ℕ) → nth ≤ k → k < nth + length values
        → memory shape after (Word at k) ≡ slice_index values (k - nth)
    others : (f : Field) → IsField shape f → ((k : ℕ) → nth ≤ k → f ≢ Word at k)
        → memory shape after f ≡ memory shape before f

  value_writes : (at nth : ℕ) (values words : List ℕ) → length words ≡ words_of shape → IsRow shape at
      → nth + length values ≤ width_at shape.tables at
      → Writes at nth values words (with_value shape at nth values words)
  value_writes at nth [] words whole is fits =
      record { whole = whole; here = λ k least less. absurd (omega arith); others = λ f of_shape apart. refl }
  value_writes at nth (v ∷ vs) words whole is fits =
      let now = with_word shape words (Word at nth) v in
      let first = store_changes shape words (Word at nth) v whole (is, omega arith) in
      let rest = value_writes at (nth + 1) vs now (first.whole ∙ whole) is (omega arith) in
      record {
        whole = rest.whole;
        here = λ k least less. elim (cases_eq k nth) [
          | inl same ↦
              let none : k - nth ≡ 0 = omega arith in
              rest.others (Word at k) (is, omega arith)
              (λ n later e. let other : k ≡ n = cc in omega arith)
              ∙ ap (λ n. memory shape now (Word at n)) same ∙ first.here ∙ ap (slice_index (v ∷ vs)) (sym none)
          | inr other ↦
              let more : suc (k - (nth + 1)) ≡ k - nth = omega arith in
              rest.here k (omega arith) (omega arith) ∙ ap (slice_index (v ∷ vs)) more
        ];
        others = λ f of_shape apart.
            rest.others f of_shape (λ k later. apart k (omega arith))
            ∙ first.others f of_shape (apart nth (omega arith));
      }

  -- a row is loaded into a position, and no other field is changed
  record Loads (at : ℕ) (row : Row) (before after : List ℕ) : Type 0 where
    whole : length after ≡ words_of shape
    key : memory shape after (Key at) ≡ key_word row.key
    header : memory shape after (Header at) ≡ 0
    words_are : (nth : ℕ) → nth < length row.value → memory shape after (Word at nth) ≡ slice_index row.value nth
    others : (f : Field) → IsField shape f → f ≢ Key at → f ≢ Header at → ((nth : ℕ) → f ≢ Word at nth)
        → memory shape after f ≡ memory shape before f

  row_loads : (at : ℕ) (row : Row) (words : List ℕ) → length words ≡ words_of shape → IsRow shape at
      → length row.value ≡ width_at shape.tables at → Loads at row words (with_row shape at row words)
  row_loads at row words whole is wide =
      let keyed = with_word shape words (Key at) (key_word row.key) in
      let headed = with_word shape keyed (Header at) 0 in
      let k = store_changes shape words (Key at) (key_word row.key) whole is in
      let h = store_changes shape keyed (Header at) 0 (k.whole ∙ whole) is in
      let v = value_writes at 0 row.value headed (h.whole ∙ k.whole ∙ whole) is (omega arith) in
      record {
        whole = v.whole;
        key = v.others (Key at) is (λ nth least e. cc) ∙ h.others (Key at) is (λ e. cc) ∙ k.here;
        header = v.others (Header at) is (λ nth least e. cc) ∙ h.here;
        words_are = λ nth less.
            let from : nth - 0 ≡ nth = omega arith in
            v.here nth (omega arith) (omega arith) ∙ ap (slice_index row.value) from;
        others = λ f of_shape no_key no_header no_word.
            v.others f of_shape (λ nth least. no_word nth) ∙ h.others f of_shape no_header
            ∙ k.others f of_shape no_key;
      }

  module _ (at : ℕ) (row : Row) (before after : List ℕ) (loads : Loads at row before after) where
    -- the fields of another position are kept
    key_kept : (r : ℕ) → IsRow shape r → r ≢ at → memory shape after (Key r) ≡ memory shape before (Key r)
    key_kept r is other = loads.others (Key r) is (λ e. other (cc)) (λ e. cc) (λ nth e. cc)

    header_kept : (r : ℕ) → IsRow shape r → r ≢ at → memory shape after (Header r) ≡ memory shape before (Header r)
    header_kept r is other = loads.others (Header r) is (λ e. cc) (λ e. other (cc)) (λ nth e. cc)

    word_kept : (r nth : ℕ) → IsRow shape r → r ≢ at → nth < width_at shape.tables r
        → memory shape after (Word r nth) ≡ memory shape before (Word r nth)
    word_kept r nth is other less =
        loads.others (Word r nth) (is, less) (λ e. cc) (λ e. cc) (λ k e. other (cc))

    row_kept : (r : ℕ) (had : Row) → IsRow shape r → r ≢ at → HasRow shape before r had → HasRow shape after r had
    row_kept r had is other has = record {
      position = has.position;
      within = has.within;
      at_is = has.at_is;
      key = key_kept r is other ∙ has.key;
      header = header_kept r is other ∙ has.header;
      words_are = λ nth less. word_kept r nth is other less ∙ has.words_are nth less;
    }

    free_kept : (r : ℕ) → IsRow shape r → r ≢ at → IsFree shape before r → IsFree shape after r
    free_kept r is other free = record {
      key = key_kept r is other ∙ free.key;
      header = header_kept r is other ∙ free.header;
      words_are = λ nth less. word_kept r nth is other less ∙ free.words_are nth less;
    }

    -- where it is loaded into a free position, no position loses its key
    bears_kept : (r : ℕ) → IsRow shape r → memory shape before (Key at) ≡ 0 → memory shape before (Key r) ≢ 0
        → memory shape after (Key r) ≢ 0
    bears_kept r is free bears none = elim (cases_eq r at) [
      | inl same ↦ bears (ap (λ n. memory shape before (Key n)) same ∙ free)
      | inr other ↦ bears (sym (key_kept r is other) ∙ none)
    ]

  -- 2. The positions of a row's path

  module _ (row : Row) (fits : IsOfTable shape row) where
    abbrev spot : ℕ → ℕ
    spot passed = let path = path_of shape row.table row.key in path.row + nth_position path passed

    module _ (passed : ℕ) (less : passed < capacity_of shape row.table) where
      abbrev position : ℕ
      position = nth_position (path_of shape row.table row.key) passed

      within : position < capacity_of shape row.table
      within = omega arith

      spot_is : spot passed ≡ row_of shape.tables row.table position
      spot_is = row_after shape.tables row.table position

      is_row : IsRow shape (spot passed)
      is_row = subst (IsRow shape) (sym spot_is) (row_within shape row.table position fits.table_is within)

      wide : length row.value ≡ width_at shape.tables (spot passed)
      wide =
          fits.wide
          ∙ sym (position_is_row shape.tables row.table position (fits.table_is, within)).width_is
          ∙ ap (width_at shape.tables) (sym spot_is)

      spot_loads : (words : List ℕ) → length words ≡ words_of shape
          → Loads (spot passed) row words (with_row shape (spot passed) row words)
      spot_loads words whole = row_loads (spot passed) row words whole is_row wide

      has_row : (before after : List ℕ) → Loads (spot passed) row before after → HasRow shape after (spot passed) row
      has_row before after loads = record {
        position = position;
        within = within;
        at_is = spot_is;
        key = loads.key;
        header = loads.header;
        words_are = λ nth less. loads.words_are nth (omega (arith, wide));
      }

  -- a position is free or the next one is looked at
  by_bool : (P : List ℕ → Type 0) (b : Bool) (here next : List ℕ) → (b ≡ true → P here) → (b ≡ false → P next)
      → P (elim b [ true ↦ here | false ↦ next ])
  by_bool P true here next h n = h refl
  by_bool P false here next h n = n refl

  by_look : (P : List ℕ → Type 0) (word : ℕ) (here next : List ℕ) → (word ≡ 0 → P here) → (word ≢ 0 → P next)
      → P (elim (word == 0) [ true ↦ here | false ↦ next ])
  by_look P word here next h n =
      by_bool P (word == 0) here next (λ e. h (eqb-true word 0 e)) (λ e. n (eqb-false word 0 e))

  -- 3. Each position is free or has a row

  module _ (rows : List Row) (row : Row) (fits : IsOfTable shape row) (listed : Listed row rows) where
    spot_opens : (passed : ℕ) (words : List ℕ) → passed < capacity_of shape row.table → IsOpening shape rows words
        → IsOpening shape rows (with_row shape (spot row fits passed) row words)
    spot_opens passed words less opening =
        let at = spot row fits passed in
        let after = with_row shape at row words in
        let loads = spot_loads row fits passed less words opening.whole in
        record {
          whole = loads.whole;
          positions = λ r is. elim (cases_eq r at) [
            | inl same ↦
                inr (
                  row,
                  listed,
                  subst (λ n. HasRow shape after n row) (sym same)
                      (has_row row fits passed less words after loads),
                )
            | inr other ↦ elim (opening.positions r is) [
              | inl free ↦ inl (free_kept at row words after loads r is other free)
              | inr some ↦ inr (some.0, some.1, row_kept at row words after loads r some.0 is other some.2)
            ]
          ];
          untouched = λ f is apart.
              loads.others f is (λ e. subst IsUntouched e apart) (λ e. subst IsUntouched e apart)
              (λ nth e. subst IsUntouched e apart)
              ∙ opening.untouched f is apart;
        }

    load_opens : (rest passed : ℕ) (words : List ℕ) → passed + rest ≡ capacity_of shape row.table
        → IsOpening shape rows words → IsOpening shape rows (load_from shape row rest passed words)
    unfolding load_from
    load_opens zero passed words all opening = opening
    load_opens (suc rest) passed words all opening =
        by_look (IsOpening shape rows) (memory shape words (Key (spot row fits passed)))
        (with_row shape (spot row fits passed) row words) (load_from shape row rest (passed + 1) words)
        (λ free. spot_opens passed words (omega arith) opening)
        (λ bears. load_opens rest (passed + 1) words (omega arith) opening)

  rows_open : (rows those : List Row) (words : List ℕ) → ((row : Row) → Listed row those → Listed row rows)
      → AllByRecursion (IsOfTable shape) those → IsOpening shape rows words
      → IsOpening shape rows (with_rows shape those words)
  rows_open rows [] words among all opening = opening
  rows_open rows (row ∷ those) words among all opening =
      rows_open rows those (load_from shape row (capacity_of shape row.table) 0 words)
      (λ r l. among r (inr l)) all.1
      (load_opens rows row all.0 (among row (inl refl)) (capacity_of shape row.table) 0 words (omega arith) opening)

  -- 4. Each row stands on its path

  abbrev IsPlaced : List ℕ → Row → Type 0
  IsPlaced words row = StandsOnPath shape words row ⊎ BearKeys shape words row (capacity_of shape row.table)

  -- rows stay where they are while another one is loaded into a free position
  module _ (at : ℕ) (row : Row) (before after : List ℕ) (loads : Loads at row before after)
      (free : memory shape before (Key at) ≡ 0) where
    keys_kept : (had : Row) → IsOfTable shape had → (count : ℕ) → count ≤ capacity_of shape had.table
        → BearKeys shape before had count → BearKeys shape after had count
    keys_kept had fits count most bear k less =
        bears_kept at row before after loads (spot had fits k) (is_row had fits k (omega arith)) free (bear k less)

    place_kept : (had : Row) → IsOfTable shape had → IsPlaced before had → IsPlaced after had
    place_kept had fits (inl stands) = inl record {
      passed = stands.passed;
      within = stands.within;
      has = row_kept at row before after loads (spot had fits stands.passed) had
          (is_row had fits stands.passed stands.within)
          (λ same.
          let key = stands.has.key in let none = ap (λ n. memory shape before (Key n)) same ∙ free in omega arith)
          stands.has;
      past = keys_kept had fits stands.passed (let l = stands.within in omega arith) stands.past;
    }
    place_kept had fits (inr full) = inr (keys_kept had fits (capacity_of shape had.table) (omega arith) full)

  -- a row was loaded
  record Places (row : Row) (before after : List ℕ) : Type 0 where
    whole : length after ≡ words_of shape
    placed : IsPlaced after row
    kept : (had : Row) → IsOfTable shape had → IsPlaced before had → IsPlaced after had

  module _ (row : Row) (fits : IsOfTable shape row) where
    load_places : (rest passed : ℕ) (words : List ℕ) → passed + rest ≡ capacity_of shape row.table
        → length words ≡ words_of shape → BearKeys shape words row passed
        → Places row words (load_from shape row rest passed words)
    unfolding load_from
    load_places zero passed words all whole past = record {
      whole = whole;
      placed = inr (λ k less. past k (omega arith));
      kept = λ had of_table placed. placed;
    }
    load_places (suc rest) passed words all whole past =
        let at = spot row fits passed in
        let after = with_row shape at row words in
        by_look (Places row words) (memory shape words (Key at)) after (load_from shape row rest (passed + 1) words)
        (λ free.
        let less : passed < capacity_of shape row.table = omega arith in
        let loads = spot_loads row fits passed less words whole in
        record {
          whole = loads.whole;
          placed = inl record {
            passed = passed;
            within = less;
            has = has_row row fits passed less words after loads;
            past = keys_kept at row words after loads free row fits passed (omega arith) past;
          };
          kept = place_kept at row words after loads free;
        })
        (λ bears. load_places rest (passed + 1) words (omega arith) whole (λ k less. elim (cases_eq k passed) [
          | inl same ↦ λ none. bears (ap (λ n. memory shape words (Key (spot row fits n))) (sym same) ∙ none)
          | inr other ↦ past k (omega arith)
        ]))

  -- those to be loaded will stand, and the others do
  rows_stand : (those : List Row) (words : List ℕ) → length words ≡ words_of shape
      → AllByRecursion (IsOfTable shape) those
      → (row : Row) → IsOfTable shape row → Listed row those ⊎ IsPlaced words row
      → IsPlaced (with_rows shape those words) row
  rows_stand [] words whole all row fits (inl none) = absurd none
  rows_stand [] words whole all row fits (inr placed) = placed
  rows_stand (next ∷ those) words whole all row fits state =
      let places = load_places next all.0 (capacity_of shape next.table) 0 words (omega arith) whole
      (λ k less. absurd (omega arith)) in
      rows_stand those (load_from shape next (capacity_of shape next.table) 0 words) places.whole all.1 row fits
      (elim state [
        | inl listed ↦ elim listed [
          | inl same ↦
              inr (subst (λ r. IsPlaced (load_from shape next (capacity_of shape next.table) 0 words) r) same
              places.placed)
          | inr later ↦ inl later
        ]
        | inr placed ↦ inr (places.kept row fits placed)
      ])

listed_fits : (P : Row → Type 0) (rows : List Row) (row : Row) → AllByRecursion P rows → Listed row rows → P row
listed_fits P [] row all none = absurd none
listed_fits P (r ∷ rows) row all (inl same) = subst P same all.0
listed_fits P (r ∷ rows) row all (inr later) = listed_fits P rows row all.1 later

pub path_law : PathLaw
path_law shape rows all row listed =
    rows_stand shape rows (blank_words shape) (blank_law shape).whole all row
    (listed_fits (IsOfTable shape) rows row all listed) (inl listed)

pub opening_law : OpeningLaw
opening_law shape rows all =
    let blank = blank_law shape in
    rows_open shape rows rows (blank_words shape) (λ row l. l) all record {
      whole = blank.whole;
      positions = λ at is. inl record {
        key = blank.each (Key at) is;
        header = blank.each (Header at) is;
        words_are = λ nth less. blank.each (Word at nth) (is, less);
      };
      untouched = λ f is apart. blank.each f is;
    }
