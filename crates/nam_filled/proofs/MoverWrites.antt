-- What a mover's words come to from the claim of its cell on: it reads and fills, writes the tag, and ends.
use Rattle.std.proofs.Common.{List, Some, [], ap, arith, false, inr, length, refl, slice_get}
use Rattle.std.proofs.Common.{sym, true, ℕ, ⊎_elim, ◌+◌, ◌++◌, ◌<◌, ◌∙◌, ◌∷◌, ◌≡◌}
use Rattle.std.specs.Prelude.{Bool, if◌then◌else◌}
use Rattle.std.proofs.lemmas.Option.{none-some, same_Some, slice_get_past}
use Rattle.si_model.specs.declared.log.Event.TheVariants.{Collected, Moved}
use Rattle.si_model.specs.declared.log.MoveEnd.TheVariants.{Back, Cut, Done}
use Rattle.nam_verbs.proofs.TestLemmas.{by_equal}
use Rattle.nam_verbs.specs.declared.now.Now.TheVariants.{At, Over}
use Rattle.nam_verbs.specs.declared.now.Now.{Now}
use Rattle.nam_calls.specs.Fits.{IsTableOf}
use Rattle.nam_calls.specs.Mover.{move_after, on_fill}
use Rattle.nam_calls.specs.Words.{capacity_of}
use Rattle.nam_calls.specs.declared.mover.MoveAnswer.{MoveAnswer}
use Rattle.nam_calls.specs.declared.mover.MovePoint.TheVariants.{MoveAgain, MoveBack, MoveFill, MoveFlag, MoveFull}
use Rattle.nam_calls.specs.declared.mover.MovePoint.TheVariants.{MoveWords}
use Rattle.nam_calls.specs.declared.mover.MovePoint.{MovePoint}
use Rattle.nam_calls.specs.declared.overflow.FillPoint.TheVariants.{FillBegin, FillEnding, FillOwner, FillWord}
use Rattle.nam_calls.specs.declared.overflow.FillPoint.{FillPoint}
use Rattle.nam_catalog.specs.declared.shape.Shape.{Shape}
use Rattle.nam_filled.proofs.LogLemmas.{end_log, work_log}
use Rattle.nam_filled.proofs.MoverLemmas.{Here, Turns, at_point, bucket, cells_here, held_now, next, place, row, scene}
use Rattle.nam_filled.proofs.MoverLemmas.{work}
use Rattle.nam_filled.proofs.SpotLemmas.{at_spot, put_apart, put_here, spot_cases, tag_one}
use Rattle.nam_filled.proofs.StayLemmas.{freed_last}
use Rattle.nam_filled.proofs.TurnLemmas.{HorizonStays, TagsStay, still_turn}
use Rattle.nam_filled.proofs.VersionLemmas.{number_found}
use Rattle.nam_filled.specs.Filled.{FilledBy, NowOk, Scene, StoredBy}
use Rattle.nam_filled.specs.Moves.{claimed_cell}
use Rattle.si_model.specs.declared.log.Event.{Event}
use Rattle.si_model.specs.declared.log.MoveEnd.{MoveEnd}
use Rattle.nam_filled.specs.Turn.{CellGoes, Fills, GivesBack, Keeps, LogGoes, SameHolders, Sticks, Word}
use Rattle.nam_ghost.specs.Cells.{Cell, CellMap, ClaimedBy, FreeCell, Stores, put_cell}
use Rattle.nam_ghost.specs.Keys.{Bears}
use Rattle.nam_ghost.specs.Steps.{header_number}
use Rattle.nam_ghost.specs.Versions.{IsNth, Version, versions}
use Rattle.nam_header.specs.Stamp.{stamp_in}
use Rattle.nam_header.specs.Tag.{freed, full, has_next, state_of}
use Rattle.nam_layout.specs.Address.{IsCell, IsRow}
use Rattle.nam_layout.specs.declared.field.Field.TheVariants.{Tag}
use Rattle.nam_protocol.specs.declared.client.ClientState.{ClientState}
use Rattle.nam_store.specs.Changed.{Changed}
use Rattle.nam_calls.specs.declared.mover.MoveAnswer.TheVariants as move_end
use Rattle.nam_calls.specs.declared.overflow.Version as filled

module _ (shape : Shape) (word : Word shape) (table key position : ℕ) where
  abbrev s : Scene
  s = word.before

  abbrev row_here : ℕ
  row_here = row shape word table key position

  abbrev b : ℕ
  b = bucket shape word table key position

  abbrev point : MovePoint → ClientState
  point = at_point shape word table key position

  abbrev goes_to : MovePoint → Now MovePoint MoveAnswer → ClientState
  goes_to = next shape word table key position

  abbrev Goes : MovePoint → CellMap → ClientState → Type 0
  Goes at cells later = Turns shape word table key position at cells word.before.holders later

  abbrev Is : MovePoint → Type 0
  Is = Here shape word table key position

  abbrev then_at : MovePoint → ℕ → Now MovePoint MoveAnswer
  then_at at found =
      move_after (place shape word table key position) (cells_here shape word table key position) at found

  -- 1. It reads, and fills

  module _ (tags : TagsStay shape word.before.m word.m) (horizon : HorizonStays shape word.before.m word.m) where
    abbrev Works : MovePoint → Now MovePoint MoveAnswer → Type 0
    Works at now = Goes at word.before.cells (goes_to at now)

    pub words_turn : (slot header ending cell tag : ℕ) (got : List ℕ) (found : ℕ)
        → let at = MoveWords slot header ending cell tag got in Is at → Works at (then_at at found)
    words_turn slot header ending cell tag got found here =
        let at = MoveWords slot header ending cell tag got in
        by_equal (λ (on : MovePoint). Works at (At on)) (length (got ++ found ∷ []))
        (place shape word table key position).width _ _
        (λ all. work shape word table key position tags horizon at _ here refl refl tt)
        (λ more. work shape word table key position tags horizon at _ here refl refl tt)

    pub fill_turn : (slot header cell tag : ℕ) (copy : filled.Version) (fill : FillPoint) (found : ℕ)
        → let at = MoveFill slot header cell tag copy fill in Is at → Works at (then_at at found)
    fill_turn slot header cell tag copy FillOwner found here =
        work shape word table key position tags horizon (MoveFill slot header cell tag copy FillOwner) _ here refl refl
        tt
    fill_turn slot header cell tag copy FillBegin found here =
        work shape word table key position tags horizon (MoveFill slot header cell tag copy FillBegin) _ here refl refl
        tt
    fill_turn slot header cell tag copy FillEnding found here =
        work shape word table key position tags horizon (MoveFill slot header cell tag copy FillEnding) _ here refl
        refl tt
    fill_turn slot header cell tag copy (FillWord nth) found here =
        let at = MoveFill slot header cell tag copy (FillWord nth) in
        by_equal (λ (now : Now FillPoint (Unit {0})). Works at (on_fill slot header cell tag copy now)) (nth + 1)
        (place shape word table key position).width (Over tt) (At (FillWord (nth + 1)))
        (λ last. work shape word table key position tags horizon at _ here refl refl tt)
        (λ more. work shape word table key position tags horizon at _ here refl refl tt)

    pub again_turn : (slot header cell tag found : ℕ) → let at = MoveAgain slot header cell tag in Is at
        → Works at (then_at at found)
    again_turn slot header cell tag found here =
        let at = MoveAgain slot header cell tag in
        by_equal (λ (now : Now MovePoint MoveAnswer). Works at now) found header (At (MoveFull slot header cell tag))
        (At (MoveBack header cell tag))
        (λ same. work shape word table key position tags horizon at _ here refl refl tt)
        (λ other. work shape word table key position tags horizon at _ here refl refl tt)

  -- 2. It writes the cell's tag

  module _ (at : MovePoint) (cell tag : ℕ) (x : Cell) (later : ClientState) (is : IsCell shape b cell)
      (claimed : claimed_cell at ≡ Some cell) (write : ℕ)
      (changed : Changed shape word.before.m word.m (Tag b cell) write) where
    abbrev after : Scene
    after = scene shape word table key position (put_cell word.before.cells b cell x) word.before.holders later

    abbrev CellTurns : ℕ → ℕ → Type 0
    CellTurns = CellGoes shape word.before after word.nth (point at) later

    tag_cells : CellTurns b cell → (bucket c : ℕ) → IsCell shape bucket c → CellTurns bucket c
    tag_cells goes bucket c of_shape =
        ⊎_elim (λ spot. at_spot CellTurns b cell bucket c spot goes)
        (λ apart. Keeps (changed.others (Tag bucket c) of_shape (λ e. apart (tag_one e)))
        (put_apart b cell bucket c word.before.cells x apart) refl
        (λ f. absurd (apart (f.0, same_Some c cell (sym f.1 ∙ claimed))))) (spot_cases b cell bucket c)

    tag_turn : Is at → CellTurns b cell → LogGoes shape word.before after word.nth (point at) later
        → HorizonStays shape word.before.m word.m → NowOk shape after word.nth later.call
        → Goes at (put_cell word.before.cells b cell x) later
    tag_turn here goes log horizon own = record {
      here = here;
      clients = refl;
      frame = word.frame;
      log = log;
      holders = SameHolders refl;
      cells = tag_cells goes;
      horizon = inr horizon;
      own = own;
    }

  -- the cell is full
  module _ (of_table : IsTableOf shape table) (short : position < capacity_of shape table)
      (inside : IsRow shape row_here) (bears : Bears shape word.before.m table key position)
      (slot header cell tag number : ℕ) (version : Version)
      (version_is : IsNth (word.before.chains row_here) number version)
      (stamp_is : version.stamp ≡ stamp_in shape.form header) (is : IsCell shape b cell)
      (tag_is : word.before.m (Tag b cell) ≡ tag) (own : word.before.cells b cell ≡ ClaimedBy (word.nth + 1))
      (writes : state_of tag ≡ 1) (changed : Changed shape word.before.m word.m (Tag b cell) (full tag))
      (horizon : HorizonStays shape word.before.m word.m) (here : Is (MoveFull slot header cell tag)) where
    abbrev full_at : MovePoint
    full_at = MoveFull slot header cell tag

    abbrev flag_at : MovePoint
    flag_at = MoveFlag slot header

    abbrev stored_number : ℕ
    stored_number = header_number shape.form (word.before.chains row_here) header

    abbrev filled_scene : Scene
    filled_scene = scene shape word table key position
        (put_cell word.before.cells b cell (Stores row_here stored_number)) word.before.holders (point flag_at)

    by_move : FilledBy shape word.before b cell (word.nth + 1)
        → StoredBy shape filled_scene b cell row_here stored_number
    by_move by =
        let found = number_found (versions (word.before.chains row_here)) (stamp_in shape.form header) number version
        version_is stamp_is in
        let same : by.nth ≡ word.nth = let e = by.owner in omega arith in
        let client_is : by.client ≡ point full_at =
        same_Some by.client (point full_at) (sym by.here ∙ ap (slice_get word.before.clients) same ∙ here) in
        let place_is : by.mover.place ≡ length word.client.log.events =
        by.place_is ∙ ap (λ (c : ClientState). length c.log.events) client_is in
        record {
          mover = by.mover;
          last = by.last;
          held = held_now shape word table key position of_table short inside bears header stored_number found.0
              found.1 found.2 full_at flag_at here refl
              (put_cell word.before.cells b cell (Stores row_here stored_number)) word.before.holders by.mover
              by.worker_is place_is;
          unfreed = inr (λ later prefix entries less e. absurd (none-some (Collected b prefix entries false)
              (sym (slice_get_past word.client.log.events later (omega arith)) ∙ e)));
        }

    pub full_turn : Goes full_at (put_cell word.before.cells b cell (Stores row_here stored_number)) (point flag_at)
    full_turn =
        tag_turn full_at cell tag (Stores row_here stored_number) (point flag_at) is refl (full tag) changed here
        (Fills row_here stored_number (ap state_of tag_is ∙ writes) own (changed.here ∙ ap full (sym tag_is))
        (put_here b cell word.before.cells (Stores row_here stored_number)) refl by_move)
        (work_log shape word.before filled_scene word.nth (point full_at) (point flag_at) (λ f. f) refl refl) horizon tt

  -- 3. It ends

  abbrev told_move : MoveEnd → ℕ → Event
  told_move how header = Moved b table key (stamp_in shape.form header) how

  -- the flag is set, or another move has set it
  pub flag_turn : (slot header found : ℕ) → TagsStay shape word.before.m word.m
      → HorizonStays shape word.before.m word.m → let at = MoveFlag slot header in Is at
      → Goes at word.before.cells (goes_to at (then_at at found))
  flag_turn slot header found tags horizon here =
      let at = MoveFlag slot header in
      let later = goes_to at (then_at at found) in
      let after = scene shape word table key position word.before.cells word.before.holders later in
      still_turn shape word.before after word.nth (point at) later here refl word.frame refl refl tags
      (λ bucket c f. absurd (none-some c f.1))
      (end_log shape word.before after word.nth (point at) later (λ f. f) (told_move Cut header)
      (told_move Done header) refl refl refl refl) (inr horizon) tt

  -- the cell is given back, unless its tag is the last one
  module _ (header cell tag : ℕ) (is : IsCell shape b cell) (tag_is : word.before.m (Tag b cell) ≡ tag)
      (own : word.before.cells b cell ≡ ClaimedBy (word.nth + 1)) (writes : state_of tag ≡ 1)
      (changed : Changed shape word.before.m word.m (Tag b cell) (freed tag))
      (horizon : HorizonStays shape word.before.m word.m) (here : Is (MoveBack header cell tag)) where
    abbrev back_at : MovePoint
    back_at = MoveBack header cell tag

    abbrev back : ClientState
    back = goes_to back_at (Over (move_end.Back (stamp_in shape.form header)))

    back_log : (cells : CellMap)
        → LogGoes shape word.before (scene shape word table key position cells word.before.holders back) word.nth
        (point back_at) back
    back_log cells =
        end_log shape word.before (scene shape word table key position cells word.before.holders back) word.nth
        (point back_at) back (λ f. f) (told_move Cut header) (told_move Back header) refl refl refl refl

    stuck : has_next tag ≡ false → (bucket c : ℕ) → IsCell shape bucket c
        → CellGoes shape word.before (scene shape word table key position word.before.cells word.before.holders back)
        word.nth (point back_at) back bucket c
    stuck none bucket c of_shape =
        let after = scene shape word table key position word.before.cells word.before.holders back in
        ⊎_elim
        (λ spot. at_spot (CellGoes shape word.before after word.nth (point back_at) back) b cell bucket c spot
        (Sticks (ap state_of tag_is ∙ writes) (ap has_next tag_is ∙ none)
        (changed.here ∙ freed_last tag none ∙ sym tag_is) own refl))
        (λ apart. Keeps (changed.others (Tag bucket c) of_shape (λ e. apart (tag_one e))) refl refl
        (λ f. absurd (apart (f.0, same_Some c cell (sym f.1))))) (spot_cases b cell bucket c)

    pub back_turn : (on : Bool) → has_next tag ≡ on
        → Goes back_at (if on then put_cell word.before.cells b cell FreeCell else word.before.cells) back
    back_turn true e =
        tag_turn back_at cell tag FreeCell back is refl (freed tag) changed here
        (GivesBack (ap state_of tag_is ∙ writes) (ap has_next tag_is ∙ e) (changed.here ∙ ap freed (sym tag_is))
        (put_here b cell word.before.cells FreeCell) refl)
        (back_log (put_cell word.before.cells b cell FreeCell)) horizon tt
    back_turn false e = record {
      here = here;
      clients = refl;
      frame = word.frame;
      log = back_log word.before.cells;
      holders = SameHolders refl;
      cells = stuck e;
      horizon = inr horizon;
      own = tt;
    }
