-- What each kind of written word owes: none of cells and horizon, a horizon entry, a tag, a word inside a cell.
use Rattle.std.proofs.Common.{None, Some, ap, arith, eqb, inl, inr, refl, subst, sym, ℕ, ⊎_elim, ◌&&◌, ◌+◌, ◌<◌, ◌∙◌}
use Rattle.std.proofs.Common.{◌≡◌, ◌≢◌, ◌≤◌, ◌⊎◌}
use Rattle.std.proofs.lemmas.Bool.{and_cases, and_parts, cases_eq, cond_both, eqb-false, eqb-true}
use Rattle.std.proofs.lemmas.Option.{none-some, same_Some}
use Rattle.nam_catalog.specs.declared.shape.Shape.{Shape}
use Rattle.nam_cells.proofs.RowLemmas.{cell_stays}
use Rattle.nam_cells.specs.Turn.{TurnOk}
use Rattle.nam_cells.specs.Words.{IsUpkeepField, SameUpkeep, inside_of}
use Rattle.nam_ghost.specs.Cells.{Cell, CellIs, CellMap, CellsAre, ClaimedBy, IsEnded, IsHorizonBehind, Stores}
use Rattle.nam_ghost.specs.Cells.{put_cell}
use Rattle.nam_ghost.specs.Turn.{Turn}
use Rattle.nam_ghost.specs.Upkeep.{CellsNext, SameCell, Upkeep, UpkeepOk}
use Rattle.nam_ghost.specs.Versions.{cell_image}
use Rattle.nam_header.specs.Tag.{state_of}
use Rattle.nam_layout.proofs.AddressLemmas.{are_one}
use Rattle.nam_layout.specs.Address.{IsCell, IsField, address}
use Rattle.nam_layout.specs.declared.field.Field.{Field}
use Rattle.nam_layout.specs.declared.field.Field.TheVariants.{Begin, CellWord, End, Entry, Horizon, Owner, Tag}
use Rattle.nam_store.specs.Changed.{Changed}

-- 1. One cell is put

abbrev pub IsSpot : ℕ → ℕ → ℕ → ℕ → Type 0
IsSpot b c bucket cell = (b ≡ bucket) × (c ≡ cell)

pub put_cases : (P : Cell → Type 0) (cells : CellMap) (bucket cell : ℕ) (x : Cell) (b c : ℕ)
    → (IsSpot b c bucket cell → P x) → ((IsSpot b c bucket cell → ⊥) → P (cells b c))
    → P (put_cell cells bucket cell x b c)
put_cases P cells bucket cell x b c here other =
    cond_both (eqb b bucket && eqb c cell) x (cells b c) P
    (λ e. let parts = and_parts (eqb b bucket) (eqb c cell) e in
    here (eqb-true b bucket parts.0, eqb-true c cell parts.1))
    (λ e. other (λ spot. ⊎_elim (λ f. eqb-false b bucket f spot.0) (λ f. eqb-false c cell f spot.1)
    (and_cases (eqb b bucket) (eqb c cell) e)))

put_other : (cells : CellMap) (bucket cell : ℕ) (x : Cell) (b c : ℕ) → (IsSpot b c bucket cell → ⊥)
    → put_cell cells bucket cell x b c ≡ cells b c
put_other cells bucket cell x b c apart =
    put_cases (λ y. y ≡ cells b c) cells bucket cell x b c (λ spot. absurd (apart spot)) (λ other. refl)

pub put_here : (cells : CellMap) (bucket cell : ℕ) (x : Cell) → put_cell cells bucket cell x bucket cell ≡ x
put_here cells bucket cell x =
    put_cases (λ y. y ≡ x) cells bucket cell x bucket cell (λ spot. refl) (λ apart. absurd (apart (refl, refl)))

spot_cases : (b c bucket cell : ℕ) → IsSpot b c bucket cell ⊎ (IsSpot b c bucket cell → ⊥)
spot_cases b c bucket cell =
    ⊎_elim (λ (e : b ≡ bucket). ⊎_elim (λ (f : c ≡ cell). inl (e, f)) (λ apart. inr (λ spot. apart spot.1))
    (cases_eq c cell))
    (λ apart. inr (λ spot. apart spot.0)) (cases_eq b bucket)

-- a claim of the spot, of the cell there
at_spot : (P : ℕ → ℕ → Type 0) (b c bucket cell : ℕ) → IsSpot b c bucket cell → P bucket cell → P b c
at_spot P b c bucket cell spot is = subst (λ (z : ℕ × ℕ). P z.0 z.1) (λ k. (sym spot.0 k, sym spot.1 k)) is

from_spot : (P : ℕ → ℕ → Type 0) (b c bucket cell : ℕ) → IsSpot b c bucket cell → P b c → P bucket cell
from_spot P b c bucket cell spot is = subst (λ (z : ℕ × ℕ). P z.0 z.1) (λ k. (spot.0 k, spot.1 k)) is

-- 2. Fields

-- another word was written, or this one as it was
pub written_else : (shape : Shape) (m now : Field → ℕ) (field : Field) (word : ℕ) → Changed shape m now field word
    → (IsUpkeepField field → ⊥) → SameUpkeep shape m now
written_else shape m now field word changed not other is upkeep =
    changed.others other is (λ same. not (subst IsUpkeepField same upkeep))

pub written_same : (shape : Shape) (m now : Field → ℕ) (field : Field) → IsField shape field
    → Changed shape m now field (m field) → SameUpkeep shape m now
written_same shape m now field of_shape changed other is upkeep =
    ⊎_elim (λ (e : address shape other ≡ address shape field).
    subst (λ f. now f ≡ m f) (sym (are_one shape other field is of_shape e)) changed.here)
    (λ apart. changed.others other is (λ same. apart (ap (address shape) same)))
    (cases_eq (address shape other) (address shape field))

worker_in : Field → ℕ
worker_in (Horizon worker) = worker
worker_in _ = 0

bucket_in : Field → ℕ
bucket_in (Tag bucket cell) = bucket
bucket_in _ = 0

cell_in : Field → ℕ
cell_in (Tag bucket cell) = cell
cell_in _ = 0

horizon_one : {a b : ℕ} → Horizon a ≡ Horizon b → a ≡ b
unfolding worker_in
horizon_one same = ap worker_in same

tag_one : {b c bucket cell : ℕ} → Tag b c ≡ Tag bucket cell → IsSpot b c bucket cell
unfolding bucket_in cell_in
tag_one same = (ap bucket_in same, ap cell_in same)

module _ (shape : Shape) (turn : Turn shape) where
  abbrev m : Field → ℕ
  m = turn.m

  abbrev now : Field → ℕ
  now = turn.now

  abbrev Is : ℕ → ℕ → Cell → Type 0
  Is bucket cell x = CellIs shape turn.later turn.next bucket (cell_image turn.now bucket cell) x

  abbrev Spares : CellMap → ℕ → Type 0
  Spares after nth = CellsNext shape turn.m turn.now turn.later turn.next turn.cells after nth

  abbrev Are : CellMap → Type 0
  Are after = CellsAre shape turn.later turn.next turn.now after

  -- a cell whose words stay is what it was
  stays_so : (bucket cell : ℕ) → IsCell shape bucket cell → SameCell shape turn.m turn.now bucket cell
      → turn.now (Tag bucket cell) ≡ turn.m (Tag bucket cell) → Is bucket cell (turn.cells bucket cell)
  stays_so bucket cell is same tag =
      cell_stays shape turn.chains turn.later turn.rings turn.next turn.rows turn.limits (cell_image m bucket cell)
      (cell_image now bucket cell) same.owner same.begin same.ending same.body bucket (turn.cells bucket cell) tag
      (turn.are bucket cell is)

  behind_same : ((a : ℕ) → a < shape.workers → turn.now (Horizon (a + 1)) ≡ turn.m (Horizon (a + 1)))
      → IsHorizonBehind shape turn.now
  behind_same same a less =
      let e = same a less in
      let was = turn.behind a less in
      let up = turn.vector a less in
      omega arith

  -- 3. No word of cells and horizon is changed: it owes so much whichever client it is of

  module _ (same : SameUpkeep shape turn.m turn.now) where
    pub cell_same : (bucket cell : ℕ) → IsCell shape bucket cell → SameCell shape turn.m turn.now bucket cell
    cell_same bucket cell is = record {
      owner = same (Owner bucket cell) is tt;
      begin = same (Begin bucket cell) is tt;
      ending = same (End bucket cell) is tt;
      body = λ word less. same (CellWord bucket cell word) (is, less) tt;
    }

    pub quiet_spares : (nth : ℕ) → Spares turn.cells nth
    quiet_spares nth = record {
      rises = λ bucket cell is. let e = same (Tag bucket cell) is tt in omega arith;
      same = λ bucket cell is e. refl;
      words = λ bucket cell is apart. cell_same bucket cell is;
      stored = λ bucket cell row number is e. inl (e, same (Tag bucket cell) is tt);
      claimed = λ bucket cell other is apart e. (e, same (Tag bucket cell) is tt);
      horizon = λ a less. let e = same (Horizon (a + 1)) (omega arith, omega arith) tt in omega arith;
    }

    pub quiet : (view : Upkeep) → UpkeepOk shape turn.later turn.next turn.now turn.cells turn.nth view
        → TurnOk shape turn turn.cells view
    quiet view own = record {
      spares = quiet_spares turn.nth;
      are = λ bucket cell is. stays_so bucket cell is (cell_same bucket cell is) (same (Tag bucket cell) is tt);
      behind = behind_same (λ a less. same (Horizon (a + 1)) (omega arith, omega arith) tt);
      own = own;
    }

  -- 4. A horizon entry rises

  module _ (worker word : ℕ) (changed : Changed shape turn.m turn.now (Horizon worker) word)
      (up : turn.m (Horizon worker) ≤ word) where
    horizon_cell : (bucket cell : ℕ) → IsCell shape bucket cell → SameCell shape turn.m turn.now bucket cell
    horizon_cell bucket cell is = record {
      owner = changed.others (Owner bucket cell) is (λ e. cc);
      begin = changed.others (Begin bucket cell) is (λ e. cc);
      ending = changed.others (End bucket cell) is (λ e. cc);
      body = λ word less. changed.others (CellWord bucket cell word) (is, less) (λ e. cc);
    }

    horizon_tag : (bucket cell : ℕ) → IsCell shape bucket cell → turn.now (Tag bucket cell) ≡ turn.m (Tag bucket cell)
    horizon_tag bucket cell is = changed.others (Tag bucket cell) is (λ e. cc)

    pub horizon_spares : Spares turn.cells turn.nth
    horizon_spares = record {
      rises = λ bucket cell is. let e = horizon_tag bucket cell is in omega arith;
      same = λ bucket cell is e. refl;
      words = λ bucket cell is apart. horizon_cell bucket cell is;
      stored = λ bucket cell row number is e. inl (e, horizon_tag bucket cell is);
      claimed = λ bucket cell other is apart e. (e, horizon_tag bucket cell is);
      horizon = λ a less.
          ⊎_elim (λ (e : a + 1 ≡ worker).
          subst (λ w. turn.m (Horizon w) ≤ turn.now (Horizon w)) (sym e) (let here = changed.here in omega arith))
          (λ (apart : a + 1 ≢ worker).
          let e = changed.others (Horizon (a + 1)) (omega arith, omega arith) (λ e. apart (horizon_one e)) in
          omega arith)
          (cases_eq (a + 1) worker);
    }

    pub horizon_rises : (view : Upkeep) → word ≤ turn.now (Entry worker)
        → UpkeepOk shape turn.later turn.next turn.now turn.cells turn.nth view → TurnOk shape turn turn.cells view
    horizon_rises view below own = record {
      spares = horizon_spares;
      are = λ bucket cell is. stays_so bucket cell is (horizon_cell bucket cell is) (horizon_tag bucket cell is);
      behind = λ a less.
          ⊎_elim (λ (e : a + 1 ≡ worker).
          subst (λ w. turn.now (Horizon w) ≤ turn.now (Entry w)) (sym e) (let here = changed.here in omega arith))
          (λ (apart : a + 1 ≢ worker).
          let e = changed.others (Horizon (a + 1)) (omega arith, omega arith) (λ e. apart (horizon_one e)) in
          let was = turn.behind a less in
          let vector = turn.vector a less in
          omega arith)
          (cases_eq (a + 1) worker);
      own = own;
    }

  -- 5. A tag rises, and its cell becomes another

  module _ (bucket cell word : ℕ) (x : Cell) (changed : Changed shape turn.m turn.now (Tag bucket cell) word)
      (up : turn.m (Tag bucket cell) < word) where
    pub tag_cell : (b c : ℕ) → IsCell shape b c → SameCell shape turn.m turn.now b c
    tag_cell b c is = record {
      owner = changed.others (Owner b c) is (λ e. cc);
      begin = changed.others (Begin b c) is (λ e. cc);
      ending = changed.others (End b c) is (λ e. cc);
      body = λ word less. changed.others (CellWord b c word) (is, less) (λ e. cc);
    }

    tag_else : (b c : ℕ) → IsCell shape b c → (IsSpot b c bucket cell → ⊥) → turn.now (Tag b c) ≡ turn.m (Tag b c)
    tag_else b c is apart = changed.others (Tag b c) is (λ e. apart (tag_one e))

    pub tag_spares : ((other : ℕ) → turn.cells bucket cell ≡ ClaimedBy (other + 1) → other ≡ turn.nth)
        → ((row number : ℕ) → turn.cells bucket cell ≡ Stores row number
        → IsEnded shape turn.later turn.next turn.now (put_cell turn.cells bucket cell x) row number)
        → Spares (put_cell turn.cells bucket cell x) turn.nth
    tag_spares mine ended = record {
      rises = λ b c is.
          ⊎_elim (λ (spot : IsSpot b c bucket cell).
          at_spot (λ b c. turn.m (Tag b c) ≤ turn.now (Tag b c)) b c bucket cell spot
          (let here = changed.here in omega arith))
          (λ apart. let e = tag_else b c is apart in omega arith) (spot_cases b c bucket cell);
      same = λ b c is e.
          ⊎_elim (λ (spot : IsSpot b c bucket cell).
          let here = changed.here in
          let same = from_spot (λ b c. turn.now (Tag b c) ≡ turn.m (Tag b c)) b c bucket cell spot e in
          absurd (omega arith))
          (λ apart. put_other turn.cells bucket cell x b c apart) (spot_cases b c bucket cell);
      words = λ b c is apart. tag_cell b c is;
      stored = λ b c row number is e.
          ⊎_elim (λ (spot : IsSpot b c bucket cell).
          inr (ended row number (from_spot (λ b c. turn.cells b c ≡ Stores row number) b c bucket cell spot e)))
          (λ apart. inl (put_other turn.cells bucket cell x b c apart ∙ e, tag_else b c is apart))
          (spot_cases b c bucket cell);
      claimed = λ b c other is differs e.
          ⊎_elim (λ (spot : IsSpot b c bucket cell).
          absurd (differs (mine other
          (from_spot (λ b c. turn.cells b c ≡ ClaimedBy (other + 1)) b c bucket cell spot e))))
          (λ apart. (put_other turn.cells bucket cell x b c apart ∙ e, tag_else b c is apart))
          (spot_cases b c bucket cell);
      horizon = λ a less.
          let e = changed.others (Horizon (a + 1)) (omega arith, omega arith) (λ e. cc) in omega arith;
    }

    pub tag_turns : (view : Upkeep) → Spares (put_cell turn.cells bucket cell x) turn.nth → Is bucket cell x
        → UpkeepOk shape turn.later turn.next turn.now (put_cell turn.cells bucket cell x) turn.nth view
        → TurnOk shape turn (put_cell turn.cells bucket cell x) view
    tag_turns view spares is_so own = record {
      spares = spares;
      are = λ b c is.
          put_cases (Is b c) turn.cells bucket cell x b c
          (λ spot. at_spot (λ b c. Is b c x) b c bucket cell spot is_so)
          (λ apart. stays_so b c is (tag_cell b c is) (tag_else b c is apart));
      behind = behind_same (λ a less. changed.others (Horizon (a + 1)) (omega arith, omega arith) (λ e. cc));
      own = own;
    }

  -- 6. A word inside a cell that the client has claimed

  module _ (bucket cell : ℕ) (field : Field) (word : ℕ) (changed : Changed shape turn.m turn.now field word)
      (inside : inside_of field ≡ Some (bucket, cell)) (mine : turn.cells bucket cell ≡ ClaimedBy (turn.nth + 1)) where
    outside : (other : Field) → IsField shape other → inside_of other ≡ None → turn.now other ≡ turn.m other
    outside other is none =
        changed.others other is (λ e. none-some (bucket, cell) (sym none ∙ ap inside_of e ∙ inside))

    apart_cell : (b c : ℕ) → IsCell shape b c → (IsSpot b c bucket cell → ⊥) → SameCell shape turn.m turn.now b c
    apart_cell b c is apart =
        let far : (other : Field) → IsField shape other → inside_of other ≡ Some (b, c)
        → turn.now other ≡ turn.m other = λ other of_shape at.
        changed.others other of_shape (λ e.
        let same = same_Some (b, c) (bucket, cell) (sym at ∙ ap inside_of e ∙ inside) in
        apart (ap (λ (z : ℕ × ℕ). z.0) same, ap (λ (z : ℕ × ℕ). z.1) same)) in
        record {
          owner = far (Owner b c) is refl;
          begin = far (Begin b c) is refl;
          ending = far (End b c) is refl;
          body = λ word less. far (CellWord b c word) (is, less) refl;
        }

    claimed_at : (b c : ℕ) → IsSpot b c bucket cell → turn.cells b c ≡ ClaimedBy (turn.nth + 1)
    claimed_at b c spot = at_spot (λ b c. turn.cells b c ≡ ClaimedBy (turn.nth + 1)) b c bucket cell spot mine

    pub inside_turns : (view : Upkeep) → UpkeepOk shape turn.later turn.next turn.now turn.cells turn.nth view
        → TurnOk shape turn turn.cells view
    inside_turns view own = record {
      spares = record {
        rises = λ b c is. let e = outside (Tag b c) is refl in omega arith;
        same = λ b c is e. refl;
        words = λ b c is other. apart_cell b c is (λ spot. other (claimed_at b c spot));
        stored = λ b c row number is e. inl (e, outside (Tag b c) is refl);
        claimed = λ b c other is differs e. (e, outside (Tag b c) is refl);
        horizon = λ a less. let e = outside (Horizon (a + 1)) (omega arith, omega arith) refl in omega arith;
      };
      are = λ b c is.
          ⊎_elim (λ (spot : IsSpot b c bucket cell).
          let e = claimed_at b c spot in
          subst (Is b c) (sym e) (ap state_of (outside (Tag b c) is refl)
          ∙ subst (CellIs shape turn.chains turn.rings b (cell_image m b c)) e (turn.are b c is)))
          (λ apart. stays_so b c is (apart_cell b c is apart) (outside (Tag b c) is refl))
          (spot_cases b c bucket cell);
      behind = behind_same (λ a less. outside (Horizon (a + 1)) (omega arith, omega arith) refl);
      own = own;
    }
