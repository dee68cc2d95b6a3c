-- A key's home is the one position that bears it.
use Rattle.std.proofs.Common.{List, None, Some, ap, arith, inl, inr, length, sym, ℕ}
use Rattle.std.proofs.Common.{◌<◌, ◌∙◌, ◌≡◌, ◌≢◌}
use Rattle.std.proofs.lemmas.Bool.{cases_eq, cases_lt}
use Rattle.std.proofs.lemmas.List.{get_or_past, length-map}
use Rattle.si_model.specs.Rows.{key_at}
use Rattle.si_model.specs.declared.row.Key.{Key}
use Rattle.nam_catalog.specs.Tables.{capacities_of}
use Rattle.nam_catalog.specs.declared.shape.Shape.{Shape}
use Rattle.nam_catalog.specs.declared.shape.Table.{Table}
use Rattle.nam_layout.specs.Rows.{row_of}
use Rattle.nam_layout.specs.declared.field.Field.{Field}
use Rattle.nam_calls.specs.Fits.{IsTableOf}
use Rattle.nam_calls.specs.Memory.{memory}
use Rattle.nam_calls.specs.Words.{capacity_of, key_word}
use Rattle.nam_calls.proofs.FieldLemmas.{row_within}
use Rattle.nam_store.specs.LoadedLaw.{KeysStand}
use Rattle.nam_store.proofs.RowsStand.{key_once}
use Rattle.nam_ghost.specs.Keys.{Bears, KeysNext}
use Rattle.nam_claimed.specs.Home.{home_of, word_at}
use Rattle.nam_claimed.specs.HomeLaw.{ApartLaw, GoesLaw, StandsLaw}
use Rattle.nam_claimed.proofs.FirstLemmas.{first_is, first_none, first_stands}

-- 1. Only a table has positions

pub table_within : (shape : Shape) (table position : ℕ) → position < capacity_of shape table → IsTableOf shape table
table_within shape table position less = elim (cases_lt table (length shape.tables)) [
  | inl is ↦ is
  | inr past ↦
      let many = length-map shape.tables (λ (t : Table). t.capacity) in
      let none = get_or_past (capacities_of shape.tables) table 0 (omega arith) in
      absurd (omega arith)
]

-- 2. The home, in any words

module _ (shape : Shape) (m : Field → ℕ) (key : Key) where
  abbrev IsHome : ℕ → Type 0
  IsHome position = home_of shape m key ≡ Some position

  pub home_is : (position : ℕ) → IsHome position
      → (position < capacity_of shape key.table) × Bears shape m key.table key.key position
  home_is position e =
      let is = first_is (word_at shape m key.table) (key_word key.key) 0 (capacity_of shape key.table) position e in
      let within = is.within in
      (omega arith, is.bears)

  pub home_stands : (position : ℕ) → position < capacity_of shape key.table
      → Bears shape m key.table key.key position → (home : ℕ) × IsHome home
  home_stands position less bears =
      first_stands (word_at shape m key.table) (key_word key.key) 0 (capacity_of shape key.table) position
      (record { least = omega arith; within = omega arith; bears = bears })

  pub home_none : ((position : ℕ) → position < capacity_of shape key.table
      → word_at shape m key.table position ≢ key_word key.key) → home_of shape m key ≡ None
  home_none none =
      first_none (word_at shape m key.table) (key_word key.key) 0 (capacity_of shape key.table)
      (λ position least within. none position (omega arith))

-- a key by its parts
pub keys_meet : (a b k l : ℕ) → a ≡ b → k ≡ l → key_at a k ≡ key_at b l
keys_meet a b k l table key = ap (λ (x : ℕ × ℕ). key_at x.0 x.1) (λ i. (table i, key i))

pub apart_holds : ApartLaw
apart_holds shape m a b position table here there =
    let first = (home_is shape m a position here).1 in
    let second = (home_is shape m b position there).1 in
    let row = ap (λ t. word_at shape m t position) table in
    keys_meet a.table b.table a.key b.key table (omega arith)

-- 3. Where keys stand on their paths

module _ (shape : Shape) (words : List ℕ) (stand : KeysStand shape words) where
  abbrev m : Field → ℕ
  m = memory shape words

  -- it is where the key stands
  pub home_at : (key : Key) (position : ℕ) → position < capacity_of shape key.table
      → Bears shape m key.table key.key position → home_of shape m key ≡ Some position
  home_at key position less bears =
      let home = home_stands shape m key position less bears in
      let is = home_is shape m key home.0 home.1 in
      home.1 ∙ ap Some (key_once shape words stand key.table (table_within shape key.table position less) key.key
      home.0 position is.0 less is.1 bears)

pub stands_holds : StandsLaw
stands_holds shape words stand key position =
    (home_is shape (memory shape words) key position, λ at. home_at shape words stand key position at.0 at.1)

-- 4. Where key words that stand stay

module _ (shape : Shape) (m now : Field → ℕ) (next : KeysNext shape m now) where
  pub word_stays : (table position : ℕ) → position < capacity_of shape table → word_at shape m table position ≢ 0
      → word_at shape now table position ≡ word_at shape m table position
  word_stays table position less some =
      next (row_of shape.tables table position)
      (row_within shape table position (table_within shape table position less) less) some

  pub bears_stays : (table key position : ℕ) → position < capacity_of shape table → Bears shape m table key position
      → Bears shape now table key position
  bears_stays table key position less bears =
      word_stays table position less (λ none. omega (arith, bears, none)) ∙ bears

pub goes_holds : GoesLaw
goes_holds shape before after stand later next =
    let m = memory shape before in
    let now = memory shape after in
    record {
      stays = λ key position e.
          let is = home_is shape m key position e in
          home_at shape after later key position is.0
          (bears_stays shape m now next key.table key.key position is.0 is.1);
      new = λ key position none e.
          let is = home_is shape now key position e in
          elim (cases_eq (word_at shape m key.table position) 0) [
            | inl free ↦ free
            | inr some ↦
                let bears = sym (word_stays shape m now next key.table position is.0 some) ∙ is.1 in
                let home = home_at shape before stand key position is.0 bears in
                absurd (cc)
          ];
    }
