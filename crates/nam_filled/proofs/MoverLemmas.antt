-- What a mover's words come to: before the claim of its cell, the claim, and its reading and filling.
use Rattle.std.proofs.Common.{Some, [], ap, inl, inr, length, refl, slice_get}
use Rattle.std.proofs.Common.{sym, ℕ, ⊎_elim, ◌+◌, ◌++◌, ◌<◌, ◌∙◌, ◌∷◌, ◌≡◌}
use Rattle.std.specs.Prelude.{slice_set}
use Rattle.std.proofs.lemmas.Bool.{eqb-true}
use Rattle.std.proofs.lemmas.Option.{none-some}
use Rattle.si_model.specs.declared.log.Event.TheVariants.{Moved}
use Rattle.si_model.specs.declared.log.MoveEnd.TheVariants.{Cut}
use Rattle.nam_verbs.proofs.TestLemmas.{by_test}
use Rattle.nam_verbs.specs.declared.now.Now.TheVariants.{At, Over}
use Rattle.nam_verbs.specs.declared.now.Now.{Now}
use Rattle.nam_calls.proofs.GoesTests.{claim_look_goes, claim_next_goes}
use Rattle.nam_calls.specs.Fits.{IsTableOf}
use Rattle.nam_calls.specs.Mover.{move_after, move_claimed, on_claim}
use Rattle.nam_calls.specs.Overflow.{claim_next}
use Rattle.nam_calls.specs.Words.{capacity_of}
use Rattle.nam_calls.specs.declared.mover.MoveAnswer.{MoveAnswer}
use Rattle.nam_calls.specs.declared.mover.MovePoint.TheVariants.{MoveClaim, MoveCount}
use Rattle.nam_calls.specs.declared.mover.MovePoint.TheVariants.{MoveEnding, MoveHead}
use Rattle.nam_calls.specs.declared.mover.MovePoint.TheVariants.{MoveWords}
use Rattle.nam_calls.specs.declared.mover.MovePoint.{MovePoint}
use Rattle.nam_calls.specs.declared.overflow.ClaimEnd.{ClaimEnd}
use Rattle.nam_calls.specs.declared.overflow.ClaimPoint.TheVariants.{ClaimLook, ClaimTake}
use Rattle.nam_calls.specs.declared.overflow.ClaimPoint.{ClaimPoint}
use Rattle.nam_catalog.specs.declared.shape.Shape.{Shape}
use Rattle.nam_filled.proofs.ListLemmas.{get_end}
use Rattle.nam_filled.proofs.LogLemmas.{IsCalm, calm_log}
use Rattle.nam_filled.proofs.SpotLemmas.{IsSpot, added_apart, added_here, at_spot, put_apart, put_here, spot_cases}
use Rattle.nam_filled.proofs.SpotLemmas.{tag_one}
use Rattle.nam_filled.proofs.StayLemmas.{key_stays}
use Rattle.nam_filled.proofs.TurnLemmas.{HorizonStays, TagsStay, calm_turn, work_turn}
use Rattle.nam_filled.specs.Filled.{HeldOf, MoverAt, Scene}
use Rattle.nam_filled.specs.Holders.{Holders, Mover, add_holder, mover_of}
use Rattle.nam_filled.specs.Moves.{NoEvent, OneEvent, claimed_cell, cut_move}
use Rattle.nam_filled.specs.Turn.{CellGoes, Claims, Frame, Keeps, NewHolder, Turn, Word}
use Rattle.nam_ghost.specs.Cells.{CellMap, ClaimedBy, put_cell}
use Rattle.nam_ghost.specs.Keys.{Bears}
use Rattle.nam_ghost.specs.Versions.{IsNth, Version}
use Rattle.nam_header.specs.Stamp.{is_moved, stamp_in}
use Rattle.nam_header.specs.Tag.{state_of, written}
use Rattle.nam_layout.specs.Address.{IsCell, IsRow}
use Rattle.nam_layout.specs.Place.{bucket_of, cells_of, place_at}
use Rattle.nam_layout.specs.Rows.{row_of}
use Rattle.nam_layout.specs.declared.field.Cells.{Cells}
use Rattle.nam_layout.specs.declared.field.Field.TheVariants.{Tag}
use Rattle.nam_layout.specs.declared.field.Field.{Field}
use Rattle.nam_layout.specs.declared.field.Place.{Place}
use Rattle.nam_protocol.specs.Client.{on_move}
use Rattle.nam_protocol.specs.Telling.{go}
use Rattle.nam_protocol.specs.declared.client.CallPoint.TheVariants.{Moving}
use Rattle.nam_protocol.specs.declared.client.ClientState.{ClientState}
use Rattle.nam_store.proofs.Lists.{get_set}
use Rattle.nam_store.specs.Changed.{Changed}
use Rattle.nam_calls.specs.declared.mover.MoveAnswer.TheVariants as move_end

module _ (shape : Shape) (word : Word shape) (table key position : ℕ) where
  abbrev s : Scene
  s = word.before

  abbrev m : Field → ℕ
  m = word.m

  abbrev frame : Frame shape word.before word.m word.chains word.rings
  frame = word.frame

  abbrev nth : ℕ
  nth = word.nth

  abbrev client : ClientState
  client = word.client

  abbrev pub row : ℕ
  row = row_of shape.tables table position

  abbrev pub bucket : ℕ
  bucket = bucket_of shape (row_of shape.tables table position)

  abbrev pub place : Place
  place = place_at shape (row_of shape.tables table position)

  abbrev pub cells_here : Cells
  cells_here = cells_of shape (bucket_of shape (row_of shape.tables table position))

  -- the client at a point of its move, and after a word
  abbrev pub at_point : MovePoint → ClientState
  at_point at = go word.client (Moving table key position at)

  abbrev pub next : MovePoint → Now MovePoint MoveAnswer → ClientState
  next at now =
      on_move shape (at_point at) table key position (bucket_of shape (row_of shape.tables table position)) now

  -- the store after the step
  abbrev pub scene : CellMap → Holders → ClientState → Scene
  scene cells holders later = record {
    m = word.m;
    chains = word.chains;
    rings = word.rings;
    cells = cells;
    holders = holders;
    clients = slice_set word.before.clients word.nth later;
  }

  abbrev pub Turns : MovePoint → CellMap → Holders → ClientState → Type 0
  Turns at cells holders later = Turn shape word.before (scene cells holders later) word.nth (at_point at) later

  abbrev pub Here : MovePoint → Type 0
  Here at = slice_get word.before.clients word.nth ≡ Some (at_point at)

  -- 1. Before the claim

  -- the move has claimed no cell, or nothing of it is left
  abbrev Fine : Now MovePoint MoveAnswer → Type 0
  Fine (At at) = MoverAt shape (scene s.cells s.holders client) nth bucket at
  Fine (Over (move_end.Moved stamp)) = ⊥
  Fine (Over (move_end.Back stamp)) = ⊥
  Fine (Over (move_end.NoRoom full)) = Unit {0}
  Fine (Over move_end.Nothing) = Unit {0}

  abbrev pub IsEarly : MovePoint → Type 0
  IsEarly at = IsCalm shape (Some (At (Moving table key position at)))

  module _ (tags : TagsStay shape s.m m) (horizon : HorizonStays shape s.m m) where
    early : (at : MovePoint) → IsEarly at → Here at → (now : Now MovePoint MoveAnswer) → Fine now
        → Turns at s.cells s.holders (next at now)
    early at calm here (At on) ok =
        calm_turn shape s (scene s.cells s.holders (next at (At on))) nth (at_point at) (next at (At on)) here refl
        frame refl refl tags horizon calm (NoEvent refl) ok
    early at calm here (Over move_end.Nothing) ok =
        let now = Over move_end.Nothing in
        calm_turn shape s (scene s.cells s.holders (next at now)) nth (at_point at) (next at now) here refl frame refl
        refl tags horizon calm (NoEvent refl) tt
    early at calm here (Over (move_end.NoRoom full)) ok =
        let now = Over (move_end.NoRoom full) in
        calm_turn shape s (scene s.cells s.holders (next at now)) nth (at_point at) (next at now) here refl frame refl
        refl tags horizon calm (OneEvent _ refl refl) tt
    early at calm here (Over (move_end.Moved stamp)) ok = absurd ok
    early at calm here (Over (move_end.Back stamp)) ok = absurd ok

    pub count_turn : Here MoveCount → (found : ℕ)
        → Turns MoveCount s.cells s.holders (next MoveCount (move_after place cells_here MoveCount found))
    count_turn here found =
        early MoveCount record { none = refl; aside = λ b c f. none-some c f.1; idle = λ f. f } here
        (move_after place cells_here MoveCount found) tt

    pub head_turn : (slot found : ℕ) → let at = MoveHead slot in Here at
        → Turns at s.cells s.holders (next at (move_after place cells_here at found))
    head_turn slot found here =
        early (MoveHead slot) record { none = refl; aside = λ b c f. none-some c f.1; idle = λ f. f } here
        (move_after place cells_here (MoveHead slot) found)
        (by_test Fine (is_moved place.form found) (Over move_end.Nothing) (At (MoveEnding slot found)) (λ e. tt)
        (λ e. tt))

    pub ending_turn : (slot header found : ℕ) → let at = MoveEnding slot header in Here at
        → Turns at s.cells s.holders (next at (move_after place cells_here at found))
    ending_turn slot header found here =
        early (MoveEnding slot header) record { none = refl; aside = λ b c f. none-some c f.1; idle = λ f. f } here
        (move_after place cells_here (MoveEnding slot header) found) tt

    -- what a claim goes on to
    abbrev Claimer : ℕ → ℕ → ℕ → Now ClaimPoint ClaimEnd → Type 0
    Claimer slot header ending now = Fine (on_claim cells_here slot header ending now)

    goes_next : (slot header ending cell : ℕ) → Claimer slot header ending (claim_next cells_here cell)
    goes_next slot header ending cell =
        claim_next_goes (Claimer slot header ending) cells_here cell (λ e. tt) (λ e. tt)

    pub look_turn : (slot header ending cell : ℕ) → IsCell shape bucket cell
        → let at = MoveClaim slot header ending (ClaimLook cell) in Here at
        → Turns at s.cells s.holders (next at (move_after place cells_here at (s.m (Tag bucket cell))))
    look_turn slot header ending cell is here =
        let at = MoveClaim slot header ending (ClaimLook cell) in
        early at record { none = refl; aside = λ b c f. none-some c f.1; idle = λ f. f } here
        (move_after place cells_here at (s.m (Tag bucket cell)))
        (claim_look_goes (Claimer slot header ending) cells_here cell (s.m (Tag bucket cell))
        (λ free. inl (tags bucket cell is, eqb-true (state_of (s.m (Tag bucket cell))) 0 free))
        (λ taken. goes_next slot header ending cell))

    -- the exchange fails
    pub lost_turn : (slot header ending cell tag : ℕ) → let at = MoveClaim slot header ending (ClaimTake cell tag) in
        Here at
        → Turns at s.cells s.holders (next at (on_claim cells_here slot header ending (claim_next cells_here cell)))
    lost_turn slot header ending cell tag here =
        let at = MoveClaim slot header ending (ClaimTake cell tag) in
        early at record { none = refl; aside = λ b c f. none-some c f.1; idle = λ f. f } here
        (on_claim cells_here slot header ending (claim_next cells_here cell)) (goes_next slot header ending cell)

    -- 2. From the claim on, as long as the cell's tag stays

    pub work : (at on : MovePoint) → Here at → move_claimed place on ≡ move_claimed place at
        → claimed_cell on ≡ claimed_cell at → MoverAt shape (scene s.cells s.holders client) nth bucket on
        → Turns at s.cells s.holders (next at (At on))
    work at on here stamp cell ok =
        work_turn shape s (scene s.cells s.holders (next at (At on))) nth (at_point at) (next at (At on)) here refl
        frame refl refl tags horizon (λ f. f) refl (ap (cut_move bucket table key) stamp) (λ b c f. (f.0, cell ∙ f.1))
        ok

  -- 3. The event of the move that runs

  module _ (of_table : IsTableOf shape table) (short : position < capacity_of shape table) (inside : IsRow shape row)
      (bears : Bears shape s.m table key position) (header number : ℕ) (version : Version)
      (version_is : IsNth (s.chains row) number version) (stamp_is : version.stamp ≡ stamp_in shape.form header) where
    abbrev pub held_now : (at on : MovePoint) → Here at → move_claimed place on ≡ Some (stamp_in shape.form header)
        → (cells : CellMap) (holders : Holders) (mover : Mover) → mover.worker ≡ nth + 1
        → mover.place ≡ length client.log.events
        → HeldOf shape (scene cells holders (at_point on)) bucket mover row number
    held_now at on here claimed cells holders mover worker_is place_is = record {
      nth = nth;
      worker_is = worker_is;
      client = at_point on;
      here = get_set s.clients nth (at_point at) (at_point on) here;
      move = record { bucket = bucket; table = table; key = key; stamp = stamp_in shape.form header };
      moves = (
        Moved bucket table key (stamp_in shape.form header) Cut,
        ap (λ es. slice_get (client.log.events ++ es) mover.place) (ap (cut_move bucket table key) claimed)
            ∙ ap (slice_get (client.log.events ++ Moved bucket table key (stamp_in shape.form header) Cut ∷ []))
            place_is
            ∙ get_end client.log.events (Moved bucket table key (stamp_in shape.form header) Cut),
        refl,
      );
      bucket_is = refl;
      of_table = of_table;
      position = position;
      short = short;
      row_is = refl;
      inside = inside;
      within = refl;
      bears = key_stays shape s.m m frame.keys table key position row refl inside bears;
      version = version;
      version_is = frame.numbers row number version inside version_is;
      stamp_is = stamp_is;
    }

    -- 4. The claim

    module _ (slot ending cell tag : ℕ) (is : IsCell shape bucket cell) (free : state_of tag ≡ 0)
        (found : s.m (Tag bucket cell) ≡ tag) (changed : Changed shape s.m m (Tag bucket cell) (written tag))
        (horizon : HorizonStays shape s.m m) (here : Here (MoveClaim slot header ending (ClaimTake cell tag))) where
      abbrev at : MovePoint
      at = MoveClaim slot header ending (ClaimTake cell tag)

      abbrev on : MovePoint
      on = MoveWords slot header ending cell (written tag) []

      abbrev after : Scene
      after = scene (put_cell s.cells bucket cell (ClaimedBy (nth + 1)))
          (add_holder s.holders bucket cell (mover_of nth client)) (at_point on)

      claims : CellGoes shape s after nth (at_point at) (at_point on) bucket cell
      claims =
          Claims (ap state_of found ∙ free) (changed.here ∙ ap written (sym found))
          (put_here bucket cell s.cells (ClaimedBy (nth + 1)))
          (added_here bucket cell s.holders (mover_of nth client)) ((refl, refl), refl)

      beside : (b c : ℕ) → (IsSpot bucket cell b c → ⊥) → IsCell shape b c
          → CellGoes shape s after nth (at_point at) (at_point on) b c
      beside b c apart of_shape =
          Keeps (changed.others (Tag b c) of_shape (λ e. apart (tag_one e)))
          (put_apart bucket cell b c s.cells (ClaimedBy (nth + 1)) apart)
          (added_apart bucket cell b c s.holders (mover_of nth client) apart) (λ f. absurd (none-some c f.1))

      pub won_turn : Turns at (put_cell s.cells bucket cell (ClaimedBy (nth + 1)))
          (add_holder s.holders bucket cell (mover_of nth client)) (at_point on)
      won_turn = record {
        here = here;
        clients = refl;
        frame = frame;
        log = calm_log shape s after nth (at_point at) (at_point on)
            record { none = refl; aside = λ b c f. none-some c f.1; idle = λ f. f } (NoEvent refl);
        holders = NewHolder bucket cell refl refl (
          row,
          number,
          held_now at on here refl after.cells after.holders
              (mover_of nth client) refl refl,
        );
        cells = λ b c of_shape.
            ⊎_elim
            (λ spot. at_spot (CellGoes shape s after nth (at_point at) (at_point on)) bucket cell b c spot claims)
            (λ apart. beside b c apart of_shape) (spot_cases bucket cell b c);
        horizon = inr horizon;
        own = tt;
      }
