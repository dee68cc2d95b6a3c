-- What a collector's words owe: horizon entries, then the cells of its bucket.
use Rattle.std.proofs.Common.{List, [], ap, arith, eqb, false, length, refl, subst, sym, true, ℕ, ⊎_elim, ◌&&◌, ◌*◌}
use Rattle.std.proofs.Common.{◌++◌, ◌+◌, ◌<◌, ◌∙◌, ◌∷◌, ◌≡◌, ◌≤◌}
use Rattle.std.proofs.lemmas.Bool.{and_parts, cases_lt, eqb-true, ltb-true}
use Rattle.std.proofs.lemmas.List.{get_or_append_left, get_or_push, length_push}
use Rattle.std.specs.Prelude.{Bool, if◌then◌else◌, nat_lt, slice_index, ◌==◌}
use Rattle.nam_calls.specs.Horizon.{collect_after, collect_next, entry_known}
use Rattle.nam_calls.specs.declared.horizon.CollectPoint.{CollectPoint}
use Rattle.nam_calls.specs.declared.horizon.CollectPoint.TheVariants.{CollectEnding, CollectFree, CollectTag}
use Rattle.nam_calls.specs.declared.horizon.CollectPoint.TheVariants.{HorizonLook, HorizonRaise}
use Rattle.nam_catalog.specs.declared.shape.Shape.{Shape}
use Rattle.nam_cells.proofs.MoverWrites.{not_claimed}
use Rattle.nam_cells.proofs.StayLemmas.{knows_stays, published_stays}
use Rattle.nam_cells.proofs.ValueLemmas.{within_below}
use Rattle.nam_cells.proofs.WriteLemmas.{horizon_rises, horizon_spares, quiet, quiet_spares, tag_spares, tag_turns}
use Rattle.nam_cells.proofs.WriteLemmas.{written_same}
use Rattle.nam_cells.specs.Turn.{TurnOk}
use Rattle.nam_cells.specs.Views.{collector_now}
use Rattle.nam_cells.specs.Words.{SameUpkeep}
use Rattle.nam_ghost.proofs.CellLemmas.{tagged_stays}
use Rattle.nam_ghost.proofs.ValueLemmas.{stamp_says}
use Rattle.nam_ghost.specs.Cells.{Cell, CellIs, CellMap, ClaimedBy, FreeCell, Stores, end_at, put_cell}
use Rattle.nam_ghost.specs.Turn.{Turn}
use Rattle.nam_ghost.specs.Upkeep.{CellsNext, IsPublished, Knows, UpkeepOk, WhileTagged}
use Rattle.nam_ghost.specs.Versions.{cell_image}
use Rattle.nam_header.specs.Stamp.{is_within, stamp_in}
use Rattle.nam_header.specs.Tag.{freed, generation_of, has_next, is_full, state_of}
use Rattle.nam_layout.specs.Place.{cells_of}
use Rattle.nam_layout.specs.declared.field.Cells.{Cells}
use Rattle.nam_layout.specs.declared.field.Field.TheVariants.{End, Entry, Horizon, Tag}
use Rattle.nam_store.specs.Changed.{Changed}
use Rattle.nam_verbs.proofs.TestLemmas.{by_equal, by_test}
use Rattle.nam_verbs.specs.declared.now.Now.{Now}
use Rattle.nam_verbs.specs.declared.now.Now.TheVariants.{At, Over}
use Rattle.si_model.specs.declared.log.Stamp.{Stamp}

row_in : Cell → ℕ
row_in (Stores row number) = row
row_in _ = 0

number_in : Cell → ℕ
number_in (Stores row number) = number
number_in _ = 0

stores_one : {row number r n : ℕ} → Stores row number ≡ Stores r n → (row ≡ r) × (number ≡ n)
unfolding row_in number_in
stores_one same = (ap row_in same, ap number_in same)

module _ (shape : Shape) (turn : Turn shape) (bucket : ℕ) (within : bucket < shape.buckets) (seen : List ℕ) where
  abbrev cells : Cells
  cells = cells_of shape bucket

  abbrev Own : CellMap → Now CollectPoint (List ℕ) → Type 0
  Own after now = UpkeepOk shape turn.later turn.next turn.now after turn.nth (collector_now bucket seen now)

  abbrev Turns : CellMap → Now CollectPoint (List ℕ) → Type 0
  Turns after now = TurnOk shape turn after (collector_now bucket seen now)

  abbrev Published : Type 0
  Published = IsPublished shape turn.chains turn.rings turn.m turn.cells turn.nth seen

  abbrev PublishedNow : CellMap → Type 0
  PublishedNow after = IsPublished shape turn.later turn.next turn.now after turn.nth seen

  abbrev Known : List ℕ → Type 0
  Known = Knows shape turn.chains turn.rings turn.m turn.cells turn.nth

  abbrev KnownNow : CellMap → List ℕ → Type 0
  KnownNow after = Knows shape turn.later turn.next turn.now after turn.nth

  abbrev word_at : CollectPoint → ℕ → Now CollectPoint (List ℕ)
  word_at at found = collect_after (cells_of shape bucket) shape.workers seen at found

  module _ (known : List ℕ) (short : length known ≤ shape.workers) (published : Published) (knows : Known known) where
    keeps : (after : CellMap)
        → CellsNext shape turn.m turn.now turn.later turn.next turn.cells after turn.nth
        → PublishedNow after × KnownNow after known
    keeps after spares = (
      published_stays shape turn after turn.nth spares turn.nth seen published,
      knows_stays shape turn after turn.nth spares turn.nth known short knows,
    )

    still : SameUpkeep shape turn.m turn.now → PublishedNow turn.cells × KnownNow turn.cells known
    still same = keeps turn.cells (quiet_spares shape turn same turn.nth)

    -- 1. The horizon

    -- one entry more is known, and the next one follows, or the cells
    entry_on : (entry : ℕ) → entry ≤ turn.now (Horizon (length known + 1)) → PublishedNow turn.cells
        → KnownNow turn.cells known → Own turn.cells (entry_known shape.workers (known ++ entry ∷ []))
    entry_on entry below published_now knows_now =
        let more = known ++ entry ∷ [] in
        let long = length_push known entry in
        let knows_more : KnownNow turn.cells more = λ a less.
        ⊎_elim (λ (before : a < length known).
        subst (λ x. x ≤ turn.now (Horizon (a + 1))) (sym (get_or_append_left known (entry ∷ []) 0 a before))
        (knows_now a before))
        (λ (least : length known ≤ a).
        let last : a ≡ length known = omega arith in
        subst (λ n. slice_index more n ≤ turn.now (Horizon (n + 1))) (sym last)
        (subst (λ x. x ≤ turn.now (Horizon (length known + 1)))
        (sym (get_or_push known entry 0 (length known) refl)) below))
        (cases_lt a (length known)) in
        by_equal (λ (at : CollectPoint). Own turn.cells (At at)) (length more) shape.workers (CollectTag more 0)
        (HorizonLook more) (λ whole. (published_now, knows_more)) (λ part. (published_now, knows_more))

    pub look_turn : length known < shape.workers → SameUpkeep shape turn.m turn.now
        → let found = turn.m (Horizon (length known + 1)) in Turns turn.cells (word_at (HorizonLook known) found)
    look_turn less same =
        let found = turn.m (Horizon (length known + 1)) in
        let now = still same in
        quiet shape turn same (collector_now bucket seen (word_at (HorizonLook known) found))
        (by_test (Own turn.cells) (nat_lt found (slice_index seen (length known))) (At (HorizonRaise known found))
        (entry_known shape.workers (known ++ found ∷ []))
        (λ below. (now.0, now.1, ltb-true found (slice_index seen (length known)) below))
        (λ reached. entry_on found
        (let e = same (Horizon (length known + 1)) (omega arith, omega arith) tt in omega arith) now.0 now.1))

    -- whether the exchange was won or lost, the entry that is known is the one that stands
    pub raise_turn : length known < shape.workers → (expected : ℕ) → expected < slice_index seen (length known)
        → let found = turn.m (Horizon (length known + 1)) in
        Changed shape turn.m turn.now (Horizon (length known + 1))
        (if found == expected then slice_index seen (length known) else found)
        → Turns turn.cells (word_at (HorizonRaise known expected) found)
    raise_turn less expected below changed =
        let found = turn.m (Horizon (length known + 1)) in
        let entry = slice_index seen (length known) in
        let word = if found == expected then entry else found in
        let up : found ≤ word =
        by_equal (λ x. found ≤ x) found expected entry found (λ same. omega arith) (λ other. omega arith) in
        let vector : turn.m (Entry (length known + 1)) ≤ turn.now (Entry (length known + 1)) =
        turn.vector (length known) less in
        let behind : word ≤ turn.now (Entry (length known + 1)) =
        by_equal (λ x. x ≤ turn.now (Entry (length known + 1))) found expected entry found
        (λ same. let most = published (length known) less in omega arith)
        (λ other. let most = turn.behind (length known) less in omega arith) in
        let worker = length known + 1 in
        let now = keeps turn.cells (horizon_spares shape turn worker word changed up) in
        horizon_rises shape turn worker word changed up
        (collector_now bucket seen (word_at (HorizonRaise known expected) found)) behind
        (entry_on word (let here = changed.here in omega arith) now.0 now.1)

  -- 2. The cells

  module _ (known : List ℕ) (cell : ℕ) (long : length known ≡ shape.workers) (short : cell < shape.cells)
      (published : Published) (knows : Known known) where
    next_on : (after : CellMap) → PublishedNow after × KnownNow after known
        → Own after (collect_next (cells_of shape bucket) known cell)
    next_on after now =
        by_equal (λ (at : Now CollectPoint (List ℕ)). Own after at) (cell + 1) shape.cells (Over known)
        (At (CollectTag known (cell + 1))) (λ last. tt) (λ on. now)

    all_still : SameUpkeep shape turn.m turn.now → PublishedNow turn.cells × KnownNow turn.cells known
    all_still same = still known (omega arith) published knows same

    was : (x : Cell) → turn.cells bucket cell ≡ x
        → CellIs shape turn.chains turn.rings bucket (cell_image turn.m bucket cell) x
    was x e =
        subst (CellIs shape turn.chains turn.rings bucket (cell_image turn.m bucket cell)) e
        (turn.are bucket cell (within, short))

    -- a full tag is that of a cell with a version
    full_stores : state_of (turn.m (Tag bucket cell)) ≡ 2
        → (row : ℕ) × (number : ℕ) × (turn.cells bucket cell ≡ Stores row number)
    full_stores two = by_cell (turn.cells bucket cell) refl
      where
        by_cell : (x : Cell) → turn.cells bucket cell ≡ x
            → (row : ℕ) × (number : ℕ) × (turn.cells bucket cell ≡ Stores row number)
        by_cell FreeCell e = let none : state_of (turn.m (Tag bucket cell)) ≡ 0 = was FreeCell e in absurd (omega arith)
        by_cell (ClaimedBy worker) e =
            let one : state_of (turn.m (Tag bucket cell)) ≡ 1 = was (ClaimedBy worker) e in absurd (omega arith)
        by_cell (Stores row number) e = (row, number, e)

    pub tag_turn : SameUpkeep shape turn.m turn.now
        → Turns turn.cells (word_at (CollectTag known cell) (turn.m (Tag bucket cell)))
    tag_turn same =
        let found = turn.m (Tag bucket cell) in
        let now = all_still same in
        let e = same (Tag bucket cell) (within, short) tt in
        quiet shape turn same (collector_now bucket seen (word_at (CollectTag known cell) found))
        (by_test (Own turn.cells) (is_full found) (At (CollectEnding known cell found))
        (collect_next (cells_of shape bucket) known cell)
        (λ full. (now.0, now.1, (omega arith, λ tag. full_stores (eqb-true (state_of found) 2 full))))
        (λ other. next_on turn.cells now))

    pub ending_turn : (tag : ℕ)
        → WhileTagged shape turn.chains turn.rings turn.m turn.cells turn.nth bucket cell tag
        ((row : ℕ) × (number : ℕ) × (turn.cells bucket cell ≡ Stores row number))
        → SameUpkeep shape turn.m turn.now
        → Turns turn.cells (word_at (CollectEnding known cell tag) (turn.m (End bucket cell)))
    ending_turn tag stores same =
        let found = turn.m (End bucket cell) in
        let now = all_still same in
        let inside = is_within (stamp_in shape.form found) known in
        quiet shape turn same (collector_now bucket seen (word_at (CollectEnding known cell tag) found))
        (by_test (Own turn.cells) (inside && has_next tag) (At (CollectFree known cell tag))
        (collect_next (cells_of shape bucket) known cell)
        (λ e. let parts = and_parts inside (has_next tag) e in (
          now.0,
          now.1,
          parts.1,
          tagged_stays shape turn turn.cells turn.nth (quiet_spares shape turn same turn.nth) turn.nth bucket cell tag
              ((row : ℕ) × (number : ℕ) × (turn.cells bucket cell ≡ Stores row number))
              ((row : ℕ) × (number : ℕ) × (turn.cells bucket cell ≡ Stores row number)
              × (is_within (end_at shape turn.later turn.next row number) known ≡ true)) (within, short)
              (λ tags is. (is.0, is.1, is.2, end_within is.0 is.1 is.2 parts.0)) stores,
        ))
        (λ other. next_on turn.cells now))
      where
        end_within : (row number : ℕ) → turn.cells bucket cell ≡ Stores row number
            → is_within (stamp_in shape.form (turn.m (End bucket cell))) known ≡ true
            → is_within (end_at shape turn.later turn.next row number) known ≡ true
        end_within row number e inside =
            let whole = (was (Stores row number) e).2 in
            let says : stamp_in shape.form (turn.m (End bucket cell)) ≡ end_at shape turn.chains turn.rings row number =
            ap (stamp_in shape.form) whole.ending_is
            ∙ stamp_says shape.form (end_at shape turn.chains turn.rings row number) whole.end_fits in
            subst (λ (s : Stamp). is_within s known ≡ true)
            (says ∙ sym (turn.rows.ends row number whole.inside whole.was_copied)) inside

    -- a cell is freed only where its version's end is within what is known
    module _ (tag : ℕ) (goes_on : has_next tag ≡ true)
        (stores : WhileTagged shape turn.chains turn.rings turn.m turn.cells turn.nth bucket cell tag
        ((row : ℕ) × (number : ℕ) × (turn.cells bucket cell ≡ Stores row number)
        × (is_within (end_at shape turn.chains turn.rings row number) known ≡ true))) where
      frees : turn.m (Tag bucket cell) ≡ tag
          → Changed shape turn.m turn.now (Tag bucket cell) ((generation_of tag + 1) * 4)
          → Turns (put_cell turn.cells bucket cell FreeCell) (collect_next (cells_of shape bucket) known cell)
      frees is_tag changed =
          let word = (generation_of tag + 1) * 4 in
          let after = put_cell turn.cells bucket cell FreeCell in
          let here = changed.here in
          let up : turn.m (Tag bucket cell) < word = omega arith in
          let is = stores.1 is_tag in
          let knows_now : (a : ℕ) → a < length known → slice_index known a ≤ turn.now (Horizon (a + 1)) = λ a less.
          let e = changed.others (Horizon (a + 1)) (omega arith, omega arith) (λ e. cc) in
          let most = knows a less in
          omega arith in
          let spares = tag_spares shape turn bucket cell word FreeCell changed up
          (λ other e. absurd (not_claimed (sym is.2 ∙ e)))
          (λ row number e.
          let whole = (was (Stores row number) e).2 in
          let same = stores_one (sym is.2 ∙ e) in
          within_below turn.now shape.workers (end_at shape turn.later turn.next row number) known long knows_now
          (subst (λ (s : Stamp). is_within s known ≡ true)
          (sym (turn.rows.ends row number whole.inside whole.was_copied))
          (subst (λ (z : ℕ × ℕ). is_within (end_at shape turn.chains turn.rings z.0 z.1) known ≡ true)
          (λ k. (same.0 k, same.1 k)) is.3))) in
          tag_turns shape turn bucket cell word FreeCell changed up
          (collector_now bucket seen (collect_next (cells_of shape bucket) known cell)) spares (omega arith)
          (next_on after (keeps known (omega arith) published knows after spares))

      by_found : (won next : Bool) → eqb (turn.m (Tag bucket cell)) tag ≡ won → next ≡ true
          → Changed shape turn.m turn.now (Tag bucket cell)
          (if won then (if next then (generation_of tag + 1) * 4 else tag) else turn.m (Tag bucket cell))
          → Turns (if won then put_cell turn.cells bucket cell FreeCell else turn.cells)
          (collect_next (cells_of shape bucket) known cell)
      by_found true true e on changed = frees (eqb-true (turn.m (Tag bucket cell)) tag e) changed
      by_found true false e on changed = absurd (cc)
      by_found false next e on changed =
          let same = written_same shape turn.m turn.now (Tag bucket cell) (within, short) changed in
          quiet shape turn same (collector_now bucket seen (collect_next (cells_of shape bucket) known cell))
          (next_on turn.cells (all_still same))

      pub free_turn : let found = turn.m (Tag bucket cell) in
          Changed shape turn.m turn.now (Tag bucket cell) (if found == tag then freed tag else found)
          → Turns (if found == tag then put_cell turn.cells bucket cell FreeCell else turn.cells)
          (word_at (CollectFree known cell tag) found)
      free_turn changed = by_found (eqb (turn.m (Tag bucket cell)) tag) (has_next tag) refl goes_on changed
