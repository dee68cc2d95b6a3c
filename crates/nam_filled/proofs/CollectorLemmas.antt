-- What a collector's words come to: as long as nobody else has collected it knows at least its own snapshot's entries,
-- and leaves no version of its own client behind that this snapshot sees the end of.
use Rattle.std.proofs.Common.{List, Some, [], ap, arith, eqb, false, inl, inr, leb, length, not, refl}
use Rattle.std.proofs.Common.{slice_get, subst, suc, sym, true, zero, ℕ, ⊎_elim, ◌&&◌, ◌+◌, ◌++◌, ◌<◌, ◌∙◌, ◌∷◌, ◌≡◌}
use Rattle.std.proofs.Common.{◌-◌, ◌≢◌, ◌≤◌, ◌⊎◌}
use Rattle.std.specs.Prelude.{Bool, slice_index, slice_set}
use Rattle.std.proofs.lemmas.Bool.{and_cases, and_from, and_parts, cases_lt, eq-eqb, eqb-false, eqb-true, le-leb}
use Rattle.std.proofs.lemmas.Bool.{leb-true}
use Rattle.std.proofs.lemmas.Bool.{not-true, true≢false}
use Rattle.std.proofs.lemmas.List.{get_or_append_left, get_or_push, length_push}
use Rattle.si_model.proofs.ListLemmas.{listed_append_right}
use Rattle.si_model.specs.declared.log.Event.TheVariants.{Collected}
use Rattle.si_model.specs.declared.log.Stamp.{Stamp}
use Rattle.nam_verbs.specs.declared.now.Now.TheVariants.{At, Over}
use Rattle.nam_verbs.specs.declared.now.Now.{Now}
use Rattle.nam_calls.proofs.GoesTests.{collect_ending_goes, collect_next_goes, collect_tag_goes, entry_goes}
use Rattle.nam_calls.proofs.GoesTests.{horizon_look_goes, horizon_raise_goes}
use Rattle.nam_calls.specs.Horizon.{collect_after, collect_next, entry_known}
use Rattle.nam_calls.specs.declared.horizon.CollectPoint.TheVariants.{CollectEnding, CollectFree, CollectTag}
use Rattle.nam_calls.specs.declared.horizon.CollectPoint.TheVariants.{HorizonLook, HorizonRaise}
use Rattle.nam_calls.specs.declared.horizon.CollectPoint.{CollectPoint}
use Rattle.nam_catalog.specs.declared.shape.Shape.{Shape}
use Rattle.nam_filled.proofs.LogLemmas.{collect_log, collected_log}
use Rattle.nam_filled.proofs.SpotLemmas.{at_spot, put_apart, put_here, spot_cases, tag_one}
use Rattle.nam_filled.proofs.StayLemmas.{last_counts}
use Rattle.nam_filled.proofs.TurnLemmas.{TagsStay}
use Rattle.nam_filled.specs.Filled.{AreKnown, ArePassed, CollectorAt, IsFilled, IsPassed}
use Rattle.nam_filled.specs.Filled.{OthersCollected, Scene}
use Rattle.nam_filled.specs.Moves.{HasCollected}
use Rattle.nam_filled.specs.Turn.{CellGoes, Frees, Keeps, SameHolders, Turn, Word}
use Rattle.nam_ghost.proofs.ValueLemmas.{stamp_says}
use Rattle.nam_ghost.specs.Cells.{Cell, CellIs, CellMap, CellsAre, ClaimedBy, FreeCell, Stores, end_at, put_cell}
use Rattle.nam_ghost.specs.Versions.{cell_image}
use Rattle.nam_header.specs.Stamp.{is_within, stamp_in}
use Rattle.nam_header.specs.Tag.{freed, has_next, is_full, state_of}
use Rattle.nam_layout.specs.Address.{IsCell}
use Rattle.nam_layout.specs.Place.{cells_of}
use Rattle.nam_layout.specs.declared.field.Field.TheVariants.{End, Horizon, Tag}
use Rattle.nam_protocol.specs.Client.{on_collect}
use Rattle.nam_protocol.specs.Telling.{go}
use Rattle.nam_protocol.specs.declared.client.CallPoint.TheVariants.{Collecting}
use Rattle.nam_protocol.specs.declared.client.ClientState.{ClientState}
use Rattle.nam_store.proofs.Lists.{get_beside}
use Rattle.nam_store.specs.Changed.{Changed}

-- a stamp that the snapshot sees is within what is known
known_within : (seen known : List ℕ) → length known ≡ length seen
    → ((a : ℕ) → a < length known → slice_index seen a ≤ slice_index known a) → (stamp : Stamp)
    → is_within stamp known ≡ false → is_within stamp seen ≡ false
known_within seen known long knows stamp out = by (is_within stamp seen) refl
  where
    inside : is_within stamp seen ≡ true → is_within stamp known ≡ true
    inside e =
        let some = not (eqb stamp.thread 0) in
        let small = leb stamp.thread (length seen) in
        let parts = and_parts (some && small) (leb stamp.number (slice_index seen (stamp.thread - 1))) e in
        let inner = and_parts some small parts.0 in
        let most = leb-true stamp.thread (length seen) inner.1 in
        let less = leb-true stamp.number (slice_index seen (stamp.thread - 1)) parts.1 in
        let least = eqb-false stamp.thread 0 (not-true (eqb stamp.thread 0) inner.0) in
        let more = knows (stamp.thread - 1) (before stamp.thread (length known) least (omega arith)) in
        and_from (some && leb stamp.thread (length known)) (leb stamp.number (slice_index known (stamp.thread - 1)))
        (and_from some (leb stamp.thread (length known)) inner.0 (le-leb stamp.thread (length known) (omega arith)))
        (le-leb stamp.number (slice_index known (stamp.thread - 1)) (omega arith))
      where
        before : (thread count : ℕ) → (thread ≡ 0 → ⊥) → thread ≤ count → thread - 1 < count
        before zero count least most = absurd (least refl)
        before (suc thread) count least most = omega arith

    by : (b : Bool) → is_within stamp seen ≡ b → is_within stamp seen ≡ false
    by true e = absurd (true≢false (sym (inside e) ∙ out))
    by false e = e

known_push : (seen known : List ℕ) (x : ℕ)
    → ((a : ℕ) → a < length known → slice_index seen a ≤ slice_index known a) → slice_index seen (length known) ≤ x
    → (a : ℕ) → a < length (known ++ x ∷ []) → slice_index seen a ≤ slice_index (known ++ x ∷ []) a
known_push seen known x knows least a less =
    let long = length_push known x in
    ⊎_elim (λ (before : a < length known).
    let was = knows a before in let e = get_or_append_left known (x ∷ []) 0 a before in omega arith)
    (λ (past : length known ≤ a).
    let last : a ≡ length known = omega arith in
    let e = get_or_push known x 0 a (sym last) in
    let f = ap (slice_index seen) last in omega arith)
    (cases_lt a (length known))

module _ (shape : Shape) (word : Word shape) (bucket prefix : ℕ) (seen : List ℕ)
    (within : bucket < shape.buckets) (long : length seen ≡ shape.workers) (filled : IsFilled shape word.before) where
  abbrev s : Scene
  s = word.before

  abbrev pub at_point : CollectPoint → ClientState
  at_point at = go word.client (Collecting bucket prefix seen at)

  abbrev pub next : CollectPoint → Now CollectPoint (List ℕ) → ClientState
  next at now = on_collect shape (at_point at) bucket prefix seen now

  abbrev pub scene : CellMap → ClientState → Scene
  scene cells later = record {
    m = word.m;
    chains = word.chains;
    rings = word.rings;
    cells = cells;
    holders = word.before.holders;
    clients = slice_set word.before.clients word.nth later;
  }

  abbrev pub Turns : CollectPoint → CellMap → ClientState → Type 0
  Turns at cells later = Turn shape word.before (scene cells later) word.nth (at_point at) later

  abbrev pub Here : CollectPoint → Type 0
  Here at = slice_get word.before.clients word.nth ≡ Some (at_point at)

  -- 1. What is owed

  abbrev Others : Type 0
  Others = OthersCollected shape word.before word.nth

  abbrev Owed : CellMap → Now CollectPoint (List ℕ) → Type 0
  Owed cells (At on) = CollectorAt shape (scene cells word.client) word.nth bucket seen on
  Owed cells (Over known) = ArePassed shape (scene cells word.client) word.nth bucket seen shape.cells

  others_on : (cells : CellMap) (later : ClientState) → Others → OthersCollected shape (scene cells later) word.nth
  others_on cells later (other, (c, (here, (apart, has)))) =
      (other, (c, (get_beside word.before.clients word.nth other later apart ∙ here, (apart, has))))

  module _ (at : CollectPoint) (here : Here at) (cells : CellMap) where
    abbrev Cells : ClientState → Type 0
    Cells later = (b c : ℕ) → IsCell shape b c → HasCollected later
        → CellGoes shape word.before (scene cells later) word.nth (at_point at) later b c

    turns : (now : Now CollectPoint (List ℕ)) → Cells (next at now) → Others ⊎ Owed cells now
        → Turns at cells (next at now)
    turns (At on) goes owed =
        let later = next at (At on) in
        record {
          here = here;
          clients = refl;
          frame = word.frame;
          log = collect_log shape word.before (scene cells later) word.nth (at_point at) later refl refl tt;
          holders = SameHolders refl;
          cells = λ b c is. goes b c is (inr tt);
          horizon = inl (inr tt);
          own = ⊎_elim (λ others. inl (others_on cells later others)) (λ ok. inr ok) owed;
        }
    turns (Over known) goes owed =
        let later = next at (Over known) in
        let told = Collected bucket prefix seen false in
        let has : HasCollected later =
        inl (told, listed_append_right word.client.log.events (told ∷ []) told (inl refl), refl) in
        record {
          here = here;
          clients = refl;
          frame = word.frame;
          log = collected_log shape word.before (scene cells later) word.nth (at_point at) later refl bucket prefix seen
              refl (⊎_elim (λ others. inl (others_on cells later others)) (λ ok. inr ok) owed);
          holders = SameHolders refl;
          cells = λ b c is. goes b c is has;
          horizon = inl has;
          own = tt;
        }

  -- a step that leaves all tags
  still : (at : CollectPoint) → Here at → TagsStay shape word.before.m word.m → (now : Now CollectPoint (List ℕ))
      → Others ⊎ Owed word.before.cells now → Turns at word.before.cells (next at now)
  still at here tags now owed =
      turns at here word.before.cells now (λ b c is has. Keeps (tags b c is) refl refl (λ f. absurd f)) owed

  -- 2. The horizon

  knows_more : (known : List ℕ) → AreKnown shape word.before seen known → (x : ℕ) → slice_index seen (length known) ≤ x
      → Owed word.before.cells (entry_known shape.workers (known ++ x ∷ []))
  knows_more known knows x least =
      entry_goes (Owed word.before.cells) (cells_of shape bucket) shape.workers seen (known ++ x ∷ [])
      (λ more. known_push seen known x knows least)
      (λ all. (known_push seen known x knows least, λ cell less. absurd (omega arith)))

  abbrev Ok : CollectPoint → Type 0
  Ok at = Others ⊎ CollectorAt shape word.before word.nth bucket seen at

  abbrev then_at : CollectPoint → ℕ → Now CollectPoint (List ℕ)
  then_at at found = collect_after (cells_of shape bucket) shape.workers seen at found

  pub look_turn : (known : List ℕ) → let at = HorizonLook known in Here at → TagsStay shape word.before.m word.m
      → word.m (Horizon (length known + 1)) ≡ word.before.m (Horizon (length known + 1)) → Ok at
      → Turns at word.before.cells (next at (then_at at (word.before.m (Horizon (length known + 1)))))
  look_turn known here tags same ok =
      let found = word.before.m (Horizon (length known + 1)) in
      still (HorizonLook known) here tags (then_at (HorizonLook known) found)
      (⊎_elim (λ others. inl others)
      (λ knows. inr (horizon_look_goes (Owed word.before.cells) (cells_of shape bucket) shape.workers seen known found
      (λ raise. (knows, same)) (λ least. knows_more known knows found least))) ok)

  pub raise_turn : (known : List ℕ) (expected : ℕ) → let at = HorizonRaise known expected in Here at
      → TagsStay shape word.before.m word.m → Ok at
      → Turns at word.before.cells (next at (then_at at (word.before.m (Horizon (length known + 1)))))
  raise_turn known expected here tags ok =
      let found = word.before.m (Horizon (length known + 1)) in
      still (HorizonRaise known expected) here tags (then_at (HorizonRaise known expected) found)
      (⊎_elim (λ others. inl others)
      (λ o. inr (horizon_raise_goes (Owed word.before.cells) (cells_of shape bucket) shape.workers seen known expected
      found (λ won. knows_more known o.0 (slice_index seen (length known)) (omega arith))
      (λ lost. absurd (lost o.1)))) ok)

  -- 3. The cells

  -- one that stays is passed still
  passed_on : (cell : ℕ) → IsCell shape bucket cell → (x : Cell) → word.before.cells bucket cell ≡ x → (cells : CellMap)
      → IsPassed shape word.before word.nth bucket seen cell x
      → IsPassed shape (scene cells word.client) word.nth bucket seen cell x
  passed_on cell is FreeCell e cells passed = tt
  passed_on cell is (ClaimedBy worker) e cells passed = tt
  passed_on cell is (Stores row number) e cells passed = λ mover last worker.
      ⊎_elim (λ used. inl used)
      (λ hidden. inr (subst (λ (stamp : Stamp). is_within stamp seen ≡ false)
      (sym (word.frame.ends bucket cell row number is e)) hidden)) (passed mover last worker)

  all_on : (count : ℕ) → count ≤ shape.cells → ArePassed shape word.before word.nth bucket seen count
      → ArePassed shape (scene word.before.cells word.client) word.nth bucket seen count
  all_on count most passed cell less =
      passed_on cell (within, omega arith) (word.before.cells bucket cell) refl word.before.cells (passed cell less)

  -- the next cell, or all are passed
  one_more : (cells : CellMap) (known : List ℕ) (cell : ℕ) → AreKnown shape word.before seen known
      → ArePassed shape (scene cells word.client) word.nth bucket seen cell
      → IsPassed shape (scene cells word.client) word.nth bucket seen cell (cells bucket cell)
      → Owed cells (collect_next (cells_of shape bucket) known cell)
  one_more cells known cell knows before here =
      collect_next_goes (Owed cells) (cells_of shape bucket) shape.workers seen known cell
      (λ last. subst (ArePassed shape (scene cells word.client) word.nth bucket seen) last all) (λ more. (knows, all))
    where
      all : ArePassed shape (scene cells word.client) word.nth bucket seen (cell + 1)
      all c less =
          ⊎_elim (λ (less : c < cell). before c less)
          (λ (past : cell ≤ c).
          let same : cell ≡ c = omega arith in
          subst (λ n. IsPassed shape (scene cells word.client) word.nth bucket seen n (cells bucket n)) same here)
          (cases_lt c cell)

  module _ (are : CellsAre shape word.before.chains word.before.rings word.before.m word.before.cells) where
    is_so : (cell : ℕ) → IsCell shape bucket cell → (x : Cell) → word.before.cells bucket cell ≡ x
        → CellIs shape word.before.chains word.before.rings bucket (cell_image word.before.m bucket cell) x
    is_so cell is x e =
        subst (CellIs shape word.before.chains word.before.rings bucket (cell_image word.before.m bucket cell)) e
        (are bucket cell is)

    -- a cell that isn't full stores nothing
    not_full : (cell : ℕ) → IsCell shape bucket cell → is_full (word.before.m (Tag bucket cell)) ≡ false → (x : Cell)
        → word.before.cells bucket cell ≡ x
        → IsPassed shape (scene word.before.cells word.client) word.nth bucket seen cell x
    not_full cell is none FreeCell e = tt
    not_full cell is none (ClaimedBy worker) e = tt
    not_full cell is none (Stores row number) e =
        let two = (is_so cell is (Stores row number) e).0 in
        absurd (true≢false (sym (eq-eqb (state_of (word.before.m (Tag bucket cell))) 2 two) ∙ none))

    pub tag_turn : (known : List ℕ) (cell : ℕ) → cell < shape.cells → let at = CollectTag known cell in Here at
        → TagsStay shape word.before.m word.m → Ok at
        → Turns at word.before.cells (next at (then_at at (word.before.m (Tag bucket cell))))
    tag_turn known cell less here tags ok =
        let found = word.before.m (Tag bucket cell) in
        still (CollectTag known cell) here tags (then_at (CollectTag known cell) found)
        (⊎_elim (λ others. inl others)
        (λ o. inr (collect_tag_goes (Owed word.before.cells) (cells_of shape bucket) shape.workers seen known cell found
        (λ full. (
          o.0,
          all_on cell (omega arith) o.1,
          (tags bucket cell (within, less), eqb-true (state_of found) 2 full),
        ))
        (λ other. one_more word.before.cells known cell o.0 (all_on cell (omega arith) o.1)
        (not_full cell (within, less) other (word.before.cells bucket cell) refl)))) ok)

    -- a cell whose version's end isn't known to be passed, or whose tag is the last
    unfreed : (known : List ℕ) (cell tag : ℕ) → IsCell shape bucket cell → length known ≡ shape.workers
        → AreKnown shape word.before seen known → word.before.m (Tag bucket cell) ≡ tag
        → (is_within (stamp_in shape.form (word.before.m (End bucket cell))) known && has_next tag) ≡ false → (x : Cell)
        → word.before.cells bucket cell ≡ x
        → IsPassed shape (scene word.before.cells word.client) word.nth bucket seen cell x
    unfreed known cell tag is all knows tag_is stays FreeCell e = tt
    unfreed known cell tag is all knows tag_is stays (ClaimedBy worker) e = tt
    unfreed known cell tag is all knows tag_is stays (Stores row number) e = λ mover last worker.
        let whole = (is_so cell is (Stores row number) e).2 in
        let end = end_at shape word.before.chains word.before.rings row number in
        let says : stamp_in shape.form (word.before.m (End bucket cell)) ≡ end =
        ap (stamp_in shape.form) whole.ending_is ∙ stamp_says shape.form end whole.end_fits in
        ⊎_elim
        (λ (out : is_within (stamp_in shape.form (word.before.m (End bucket cell))) known ≡ false).
        inr (subst (λ (stamp : Stamp). is_within stamp seen ≡ false)
        (sym (word.frame.ends bucket cell row number is e))
        (known_within seen known (all ∙ sym long) knows end
        (subst (λ (stamp : Stamp). is_within stamp known ≡ false) says out))))
        (λ (none : has_next tag ≡ false).
        inl (last_counts (word.before.m (Tag bucket cell)) (length (word.before.holders bucket cell))
        (ap has_next tag_is ∙ none) (filled.tags bucket cell is)))
        (and_cases (is_within (stamp_in shape.form (word.before.m (End bucket cell))) known) (has_next tag) stays)

    pub ending_turn : (known : List ℕ) (cell tag : ℕ) → length known ≡ shape.workers → cell < shape.cells
        → let at = CollectEnding known cell tag in Here at → TagsStay shape word.before.m word.m → Ok at
        → Turns at word.before.cells (next at (then_at at (word.before.m (End bucket cell))))
    ending_turn known cell tag all less here tags ok =
        let found = word.before.m (End bucket cell) in
        still (CollectEnding known cell tag) here tags (then_at (CollectEnding known cell tag) found)
        (⊎_elim (λ others. inl others)
        (λ o. inr (collect_ending_goes (Owed word.before.cells) (cells_of shape bucket) shape.workers seen known cell
        tag found
        (λ frees next. (o.0, all_on cell (omega arith) o.1, (tags bucket cell (within, less) ∙ o.2.0, o.2.1)))
        (λ stays. one_more word.before.cells known cell o.0 (all_on cell (omega arith) o.1)
        (unfreed known cell tag (within, less) all o.0 o.2.0 stays (word.before.cells bucket cell) refl)))) ok)

  -- the exchange frees the cell, or another client has changed the tag
  module _ (known : List ℕ) (cell tag : ℕ) (less : cell < shape.cells) (here : Here (CollectFree known cell tag))
      (ok : Ok (CollectFree known cell tag)) where
    abbrev at : CollectPoint
    at = CollectFree known cell tag

    abbrev freed_cells : CellMap
    freed_cells = put_cell word.before.cells bucket cell FreeCell

    abbrev now : Now CollectPoint (List ℕ)
    now = collect_next (cells_of shape bucket) known cell

    freed_before : ArePassed shape word.before word.nth bucket seen cell
        → ArePassed shape (scene freed_cells word.client) word.nth bucket seen cell
    freed_before passed c before =
        let same : freed_cells bucket c ≡ word.before.cells bucket c =
        put_apart bucket cell bucket c word.before.cells FreeCell (λ spot. let e = spot.1 in omega arith) in
        subst (IsPassed shape (scene freed_cells word.client) word.nth bucket seen c) (sym same)
        (passed_on c (within, omega arith) (word.before.cells bucket c) refl freed_cells (passed c before))

    pub won_turn : word.before.m (Tag bucket cell) ≡ tag → state_of tag ≡ 2 → has_next tag ≡ true
        → Changed shape word.before.m word.m (Tag bucket cell) (freed tag) → Turns at freed_cells (next at now)
    won_turn found full more changed =
        turns at here freed_cells now
        (λ b c is has.
        ⊎_elim
        (λ spot. at_spot (CellGoes shape word.before (scene freed_cells (next at now)) word.nth (at_point at)
        (next at now)) bucket cell b c spot
        (Frees (ap state_of found ∙ full) (ap has_next found ∙ more) (changed.here ∙ ap freed (sym found))
        (put_here bucket cell word.before.cells FreeCell) refl has))
        (λ apart. Keeps (changed.others (Tag b c) is (λ e. apart (tag_one e)))
        (put_apart bucket cell b c word.before.cells FreeCell apart) refl (λ f. absurd f))
        (spot_cases bucket cell b c))
        (⊎_elim (λ others. inl others)
        (λ o. inr (one_more freed_cells known cell o.0 (freed_before o.1)
        (subst (IsPassed shape (scene freed_cells word.client) word.nth bucket seen cell)
        (sym (put_here bucket cell word.before.cells FreeCell)) tt))) ok)

    pub lost_turn : word.before.m (Tag bucket cell) ≢ tag → TagsStay shape word.before.m word.m
        → Turns at word.before.cells (next at now)
    lost_turn lost tags =
        still at here tags now (⊎_elim (λ others. inl others) (λ o. absurd (lost o.2.0)) ok)
