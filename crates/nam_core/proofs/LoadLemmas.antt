-- Where a row is loaded.
use Rattle.std.proofs.Common.{◌≡◌, ◌≢◌, ℕ, zero, suc, ◌+◌, ◌-◌, ◌<◌, ◌≤◌, ◌%◌, Bool, true, false, List, length, refl}
use Rattle.std.proofs.Common.{sym, ◌∙◌, ap, subst, arith}
use Rattle.std.specs.Prelude.{slice_index}
use Rattle.std.proofs.Math.Nat.{mod-eq_of_lt, mod_self, suc-mod}
use Rattle.std.proofs.lemmas.Bool.{eq-eqb, ne_eqb}
use Rattle.std.proofs.lemmas.Nat.{mod_below}
use Rattle.si_model.specs.declared.row.Row.{Row}
use Rattle.nam_catalog.specs.declared.shape.Shape.{Shape}
use Rattle.nam_catalog.specs.Words.{words_of}
use Rattle.nam_catalog.specs.Fits.{FitsLimits}
use Rattle.nam_layout.specs.declared.field.Place.{Place}
use Rattle.nam_layout.specs.declared.field.Field.TheVariants.{Key, Word}
use Rattle.nam_layout.specs.Rows.{row_of}
use Rattle.nam_layout.specs.Address.{position_at}
use Rattle.nam_layout.specs.Place.{place_of}
use Rattle.nam_layout.proofs.AddressLemmas.{found_there}
use Rattle.nam_calls.specs.declared.index.Path.{Path}
use Rattle.nam_calls.specs.Words.{capacity_of, on_path, path_of}
use Rattle.nam_calls.specs.Index.{nth_position, nth_key}
use Rattle.nam_calls.specs.Memory.{memory}
use Rattle.nam_calls.proofs.FallsTables.{width_is, place_fits}
use Rattle.nam_calls.proofs.FieldLemmas.{row_after, row_within}
use Rattle.nam_protocol.specs.Opening.{with_row, load_from}
use Rattle.nam_protocol.specs.OpeningLaw.{IsOfTable}

-- 1. The positions of a path, one after another

pub path_begins : (capacity key : ℕ) → 1 ≤ capacity → key % capacity ≡ on_path capacity key 0
path_begins capacity key some =
    let below = mod_below key capacity some in
    let sum : key % capacity + 0 ≡ key % capacity = omega arith in
    sym (ap (λ n. n % capacity) sum ∙ mod-eq_of_lt below)

next_on : (capacity key passed position : ℕ) → position ≡ on_path capacity key passed
    → on_path capacity key (passed + 1) ≡ suc position % capacity
next_on capacity key passed position stands =
    let sum : key % capacity + (passed + 1) ≡ suc (key % capacity + passed) = omega arith in
    ap (λ n. n % capacity) sum ∙ suc-mod (key % capacity + passed) capacity
    ∙ ap (λ n. suc n % capacity) (sym stands)

pub path_turns : (capacity key passed position : ℕ) → position ≡ on_path capacity key passed → position + 1 ≡ capacity
    → 0 ≡ on_path capacity key (passed + 1)
path_turns capacity key passed position stands last =
    let is : suc position ≡ capacity = omega arith in
    sym (next_on capacity key passed position stands ∙ ap (λ n. n % capacity) is ∙ mod_self capacity)

pub path_goes : (capacity key passed position : ℕ) → position ≡ on_path capacity key passed → position < capacity
    → position + 1 ≢ capacity → position + 1 ≡ on_path capacity key (passed + 1)
path_goes capacity key passed position stands within other =
    let is : suc position ≡ position + 1 = omega arith in
    let less : suc position < capacity = omega arith in
    sym (next_on capacity key passed position stands ∙ mod-eq_of_lt less ∙ is)

-- 2. A position of a row's path

choose : (test : Bool) (here next : List ℕ) → test ≡ true → elim test [ true ↦ here | false ↦ next ] ≡ here
choose true here next is = refl
choose false here next is = absurd (cc)

pass : (test : Bool) (here next : List ℕ) → test ≡ false → elim test [ true ↦ here | false ↦ next ] ≡ next
pass true here next is = absurd (cc)
pass false here next is = refl

module _ (shape : Shape) (row : Row) where
  abbrev capacity : ℕ
  capacity = capacity_of shape row.table

  abbrev path : Path
  path = path_of shape row.table row.key

  pub spot_is : (passed position : ℕ) → position ≡ on_path capacity row.key passed
      → path.row + nth_position path passed ≡ row_of shape.tables row.table position
  spot_is passed position stands =
      ap (λ n. row_of shape.tables row.table 0 + n) (sym stands) ∙ row_after shape.tables row.table position

  -- the key word of the position
  pub key_is : (passed position : ℕ) (place : Place) (words : List ℕ) → position ≡ on_path capacity row.key passed
      → place ≡ place_of shape row.table position
      → memory shape words (nth_key path passed) ≡ slice_index words place.key_at
  key_is passed position place words stands is =
      ap (λ n. slice_index words (position_at shape n)) (spot_is passed position stands)
      ∙ sym (ap (λ (p : Place). slice_index words p.key_at) is)

  now : (rest passed : ℕ) (words : List ℕ) → memory shape words (nth_key path passed) ≡ 0
      → load_from shape row (suc rest) passed words ≡ with_row shape (path.row + nth_position path passed) row words
  unfolding load_from
  now rest passed words free = choose _ _ _ (eq-eqb _ 0 free)

  later : (rest passed : ℕ) (words : List ℕ) → memory shape words (nth_key path passed) ≢ 0
      → load_from shape row (suc rest) passed words ≡ load_from shape row rest (passed + 1) words
  unfolding load_from
  later rest passed words bears = pass _ _ _ (ne_eqb _ 0 bears)

  none : (passed : ℕ) (words : List ℕ) → load_from shape row zero passed words ≡ words
  unfolding load_from
  none passed words = refl

  pub load_here : (passed : ℕ) (words : List ℕ) → passed < capacity → memory shape words (nth_key path passed) ≡ 0
      → load_from shape row (capacity - passed) passed words
      ≡ with_row shape (path.row + nth_position path passed) row words
  load_here passed words less free =
      let more : capacity - passed ≡ suc (capacity - (passed + 1)) = omega arith in
      ap (λ n. load_from shape row n passed words) more ∙ now (capacity - (passed + 1)) passed words free

  pub load_later : (passed : ℕ) (words : List ℕ) → passed < capacity → memory shape words (nth_key path passed) ≢ 0
      → load_from shape row (capacity - passed) passed words
      ≡ load_from shape row (capacity - (passed + 1)) (passed + 1) words
  load_later passed words less bears =
      let more : capacity - passed ≡ suc (capacity - (passed + 1)) = omega arith in
      ap (λ n. load_from shape row n passed words) more ∙ later (capacity - (passed + 1)) passed words bears

  pub load_ends : (passed : ℕ) (words : List ℕ) → capacity ≤ passed
      → load_from shape row (capacity - passed) passed words ≡ words
  load_ends passed words past =
      let over : capacity - passed ≡ zero = omega arith in
      ap (λ n. load_from shape row n passed words) over ∙ none passed words

  -- the words of the position are the shape's
  module _ (limits : FitsLimits shape) (of : IsOfTable shape row) (position : ℕ) (within : position < capacity)
      (place : Place) (is : place ≡ place_of shape row.table position) where
    pub wide : length row.value ≡ place.width
    wide =
        of.wide ∙ sym (width_is shape limits row.table position of.table_is within)
        ∙ sym (ap (λ (p : Place). p.width) is)

    pub key_within : place.key_at < words_of shape
    key_within =
        subst (λ (p : Place). p.key_at < words_of shape) (sym is)
        (found_there shape (Key (row_of shape.tables row.table position))
        (row_within shape row.table position of.table_is within)).0

    pub place_within : place.words_at + place.width ≤ words_of shape
    place_within =
        let at = row_of shape.tables row.table position in
        let there = place_of shape row.table position in
        let some = (place_fits shape limits row.table position of.table_is within).least_width in
        let last = (found_there shape (Word at (there.width - 1))
        (row_within shape row.table position of.table_is within, omega arith)).0 in
        subst (λ (p : Place). p.words_at + p.width ≤ words_of shape) (sym is) (omega arith)
