-- Under a step of one client each cell is held as it is said, and stays passed by a collector.
use Rattle.std.proofs.Common.{List, Some, [], ap, arith, false, inl, inr, length, refl, slice_get, subst}
use Rattle.std.proofs.Common.{sym, ℕ, ⊎_elim, ◌+◌, ◌++◌, ◌<◌, ◌∙◌, ◌∷◌, ◌≡◌, ◌≢◌, ◌⊎◌}
use Rattle.std.proofs.lemmas.Option.{same_Some}
use Rattle.si_model.specs.Lists.{last_of}
use Rattle.si_model.specs.declared.log.Event.{Event}
use Rattle.si_model.specs.declared.log.Event.TheVariants.{Collected}
use Rattle.si_model.specs.declared.log.Stamp.{Stamp}
use Rattle.nam_catalog.specs.declared.shape.Shape.{Shape}
use Rattle.nam_filled.proofs.ListLemmas.{get_cases, last_push}
use Rattle.nam_filled.proofs.StayLemmas.{at_own, by_order, follow, held_stays, last_counts, others_stay}
use Rattle.nam_filled.proofs.StayLemmas.{used_stays}
use Rattle.nam_filled.specs.Filled.{ArePassed, CellHeld, CellOk, FilledBy, IsLast, IsPassed, IsUsedUp}
use Rattle.nam_filled.specs.Filled.{OthersCollected, Scene, StoredBy, Unfreed, claims_of, end_of_version}
use Rattle.nam_filled.specs.Holders.{Mover, mover_of}
use Rattle.nam_filled.specs.Turn.{CellGoes, Claims, Fills, Frees, GivesBack, Keeps, NoneMore, OneMore, Sticks, Turn}
use Rattle.nam_filled.specs.Moves.{FillsIn}
use Rattle.nam_filled.specs.Turn.{CollectionsGo}
use Rattle.nam_ghost.specs.Cells.{Cell, ClaimedBy, FreeCell, Stores}
use Rattle.nam_header.specs.Stamp.{is_within}
use Rattle.nam_layout.specs.Address.{IsCell}
use Rattle.nam_layout.specs.declared.field.Field.TheVariants.{Tag}
use Rattle.nam_protocol.specs.declared.client.ClientState.{ClientState}

bucket_in : Event → ℕ
bucket_in (Collected bucket prefix entries cut) = bucket
bucket_in event = 0

entries_in : Event → List ℕ
entries_in (Collected bucket prefix entries cut) = entries
entries_in event = []

one_bucket : {a b p q : ℕ} {u v : List ℕ} → Collected a p u false ≡ Collected b q v false → a ≡ b
unfolding bucket_in
one_bucket e = ap bucket_in e

one_snapshot : {a b p q : ℕ} {u v : List ℕ} → Collected a p u false ≡ Collected b q v false → u ≡ v
unfolding entries_in
one_snapshot e = ap entries_in e

module _ (shape : Shape) (s t : Scene) (nth : ℕ) (client later : ClientState)
    (turn : Turn shape s t nth client later) where
  -- 1. What a cell stores

  -- the client that the move is of, before and after
  module _ (bucket cell row number : ℕ) (is : IsCell shape bucket cell)
      (stored : s.cells bucket cell ≡ Stores row number)
      (kept : t.cells bucket cell ≡ Stores row number) where
    abbrev ended : Stamp → List ℕ → Type 0
    ended stamp entries = is_within stamp entries ≡ false

    same_end : end_of_version shape t row number ≡ end_of_version shape s row number
    same_end = turn.frame.ends bucket cell row number is stored

    abbrev Told : ClientState → ℕ → Stamp → Type 0
    Told c place stamp = (n prefix : ℕ) (entries : List ℕ) → place < n
        → slice_get c.log.events n ≡ Some (Collected bucket prefix entries false) → ended stamp entries

    -- where the client tells one collection more
    told_more : (mover : Mover) → IsLast shape t bucket cell mover → mover.worker ≡ nth + 1
        → Told client mover.place (end_of_version shape t row number) → CollectionsGo shape s t nth client later
        → IsUsedUp shape t bucket cell ⊎ (OthersCollected shape t nth
        ⊎ Told later mover.place (end_of_version shape t row number))
    told_more mover last worker told (NoneMore same) =
        inr (inr (λ n prefix entries less e. told n prefix entries less (same n bucket prefix entries e)))
    told_more mover last worker told (OneMore other before seen listed (inl collected)) = inr (inl collected)
    told_more mover last worker told (OneMore other before seen listed (inr passed)) =
        by_order other bucket
        (λ same.
        ⊎_elim (λ used. inl used) (λ hidden. inr (inr (λ n prefix entries less e.
        ⊎_elim (λ was. told n prefix entries less was)
        (λ (one : (n ≡ length client.log.events)
        × (Collected other before seen false ≡ Collected bucket prefix entries false)).
        subst (ended (end_of_version shape t row number)) (one_snapshot one.1) hidden)
        (get_cases client.log.events (Collected other before seen false) n (Collected bucket prefix entries false)
        (ap (λ es. slice_get es n) (sym listed) ∙ e)))))
        (subst (IsPassed shape t nth bucket seen cell) kept
        (subst (λ b. ArePassed shape t nth b seen shape.cells) same passed cell is.1) mover last worker))
        (λ apart. inr (inr (λ n prefix entries less e.
        ⊎_elim (λ was. told n prefix entries less was)
        (λ (one : (n ≡ length client.log.events)
        × (Collected other before seen false ≡ Collected bucket prefix entries false)).
        absurd (apart (one_bucket one.1)))
        (get_cases client.log.events (Collected other before seen false) n (Collected bucket prefix entries false)
        (ap (λ es. slice_get es n) (sym listed) ∙ e)))))

    pub stored_stays : t.holders bucket cell ≡ s.holders bucket cell → StoredBy shape s bucket cell row number
        → IsUsedUp shape t bucket cell ⊎ StoredBy shape t bucket cell row number
    stored_stays holders by_move =
        let h = by_move.held in
        let mover = by_move.mover in
        let f = follow shape s t nth client later turn h.nth h.client h.here in
        let last : IsLast shape t bucket cell mover = ap last_of holders ∙ by_move.last in
        let goes : Unfreed shape t h.nth f.next bucket mover.place row number
        → StoredBy shape t bucket cell row number =
        λ unfreed. record {
          mover = mover;
          last = last;
          held = held_stays shape s t nth client later turn bucket mover row number h;
          unfreed = unfreed;
        } in
        ⊎_elim (λ others. inr (goes (inl (others_stay shape s t nth client later turn h.nth others))))
        (λ (told : Told h.client mover.place (end_of_version shape s row number)).
        let now : Told h.client mover.place (end_of_version shape t row number) =
        λ n prefix entries less e.
        subst (λ stamp. ended stamp entries) (sym same_end) (told n prefix entries less e) in
        ⊎_elim
        (λ (own : (h.nth ≡ nth) × (h.client ≡ client) × (f.next ≡ later)).
        ⊎_elim (λ used. inl used)
        (λ unfreed. inr (goes
        (⊎_elim (λ others. inl (subst (OthersCollected shape t) (sym own.0) others))
        (λ more. inr (subst (λ (c : ClientState). Told c mover.place (end_of_version shape t row number)) (sym own.2)
        more)) unfreed)))
        (told_more mover last (h.worker_is ∙ ap (λ n. n + 1) own.0)
        (subst (λ (c : ClientState). Told c mover.place (end_of_version shape t row number)) own.1 now)
        turn.log.collections))
        (λ (other : (h.nth ≢ nth) × (f.next ≡ h.client)).
        inr (goes (inr (subst (λ (c : ClientState). Told c mover.place (end_of_version shape t row number))
        (sym other.1) now)))) f.which) by_move.unfreed

  -- 2. Each cell

  module _ (bucket cell : ℕ) (is : IsCell shape bucket cell) where
    abbrev Held : Cell → Type 0
    Held x = IsUsedUp shape t bucket cell ⊎ CellHeld shape t bucket cell x

    abbrev Goes : Type 0
    Goes = CellGoes shape s t nth client later bucket cell

    keeps : (x : Cell) → s.cells bucket cell ≡ x → t.cells bucket cell ≡ x
        → t.holders bucket cell ≡ s.holders bucket cell
        → (FillsIn shape client.call bucket cell → FillsIn shape later.call bucket cell
        × (length later.log.events ≡ length client.log.events))
        → CellHeld shape s bucket cell x → Held x
    keeps FreeCell was now holders fills held = inr tt
    keeps (ClaimedBy worker) was now holders fills held =
        let f = follow shape s t nth client later turn held.nth held.client held.here in
        let goes : (FillsIn shape held.client.call bucket cell → FillsIn shape f.next.call bucket cell
        × (length f.next.log.events ≡ length held.client.log.events)) =
        ⊎_elim
        (λ (own : (held.nth ≡ nth) × (held.client ≡ client) × (f.next ≡ later)).
        subst (λ (c : ClientState). FillsIn shape c.call bucket cell → FillsIn shape f.next.call bucket cell
        × (length f.next.log.events ≡ length c.log.events)) (sym own.1)
        (subst (λ (c : ClientState). FillsIn shape client.call bucket cell → FillsIn shape c.call bucket cell
        × (length c.log.events ≡ length client.log.events)) (sym own.2) fills))
        (λ (other : (held.nth ≢ nth) × (f.next ≡ held.client)).
        subst (λ (c : ClientState). FillsIn shape held.client.call bucket cell → FillsIn shape c.call bucket cell
        × (length c.log.events ≡ length held.client.log.events)) (sym other.1) (λ fills_in. (fills_in, refl)))
        f.which in
        let next = goes held.fills in
        inr record {
          mover = held.mover;
          last = ap last_of holders ∙ held.last;
          worker_is = held.worker_is;
          nth = held.nth;
          owner = held.owner;
          client = f.next;
          here = f.there;
          place_is = held.place_is ∙ sym next.1;
          fills = next.0;
        }
    keeps (Stores row number) was now holders fills held =
        stored_stays bucket cell row number is was now holders held

    claims : t.holders bucket cell ≡ s.holders bucket cell ++ mover_of nth client ∷ []
        → FillsIn shape later.call bucket cell × (length later.log.events ≡ length client.log.events)
        → FilledBy shape t bucket cell (nth + 1)
    claims holders fills = record {
      mover = mover_of nth client;
      last = ap last_of holders ∙ last_push (s.holders bucket cell) (mover_of nth client);
      worker_is = refl;
      nth = nth;
      owner = refl;
      client = later;
      here = at_own shape s t nth client later turn;
      place_is = sym fills.1;
      fills = fills.0;
    }

    becomes : (x : Cell) → t.cells bucket cell ≡ x → CellHeld shape t bucket cell x → CellOk shape t bucket cell
    becomes x same held = inr (subst (CellHeld shape t bucket cell) (sym same) held)

    was_held : (x : Cell) → s.cells bucket cell ≡ x → CellHeld shape s bucket cell (s.cells bucket cell)
        → CellHeld shape s bucket cell x
    was_held x same held = subst (CellHeld shape s bucket cell) same held

    pub cell_stays : Goes → length (s.holders bucket cell) ≡ claims_of (s.m (Tag bucket cell))
        → CellOk shape s bucket cell → CellOk shape t bucket cell
    cell_stays goes counts (inl used) = inl (used_stays shape s t nth client later turn bucket cell goes used)
    cell_stays (Keeps tag same holders fills) counts (inr held) =
        subst Held (sym same) (keeps (s.cells bucket cell) refl same holders fills held)
    cell_stays (Claims free tag claimed holders fills) counts (inr held) =
        becomes (ClaimedBy (nth + 1)) claimed (claims holders fills)
    cell_stays (Fills row number writes own tag stored holders by_move) counts (inr held) =
        becomes (Stores row number) stored (by_move (was_held (ClaimedBy (nth + 1)) own held))
    cell_stays (GivesBack writes next tag free holders) counts (inr held) = becomes FreeCell free tt
    cell_stays (Sticks writes none tag own holders) counts (inr held) =
        inl (last_counts (s.m (Tag bucket cell)) (length (t.holders bucket cell)) none (ap length holders ∙ counts))
    cell_stays (Frees was_full next tag free holders collects) counts (inr held) = becomes FreeCell free tt

    -- 3. A cell that another client's collection has passed

    module _ (j : ℕ) (seen : List ℕ) (apart : j ≢ nth) where
      abbrev Passed : Cell → Type 0
      Passed = IsPassed shape t j bucket seen cell

      passes : (x : Cell) → t.cells bucket cell ≡ x → Passed x → Passed (t.cells bucket cell)
      passes x same is = subst Passed (sym same) is

      kept_passed : (x : Cell) → s.cells bucket cell ≡ x → t.holders bucket cell ≡ s.holders bucket cell
          → IsPassed shape s j bucket seen cell x → Passed x
      kept_passed FreeCell was holders passed = tt
      kept_passed (ClaimedBy worker) was holders passed = tt
      kept_passed (Stores row number) was holders passed = λ mover last worker.
          ⊎_elim (λ (used : IsUsedUp shape s bucket cell). let e = ap length holders in inl (omega arith))
          (λ (hidden : is_within (end_of_version shape s row number) seen ≡ false).
          inr (subst (λ (stamp : Stamp). is_within stamp seen ≡ false)
          (sym (turn.frame.ends bucket cell row number is was)) hidden))
          (passed mover (ap last_of (sym holders) ∙ last) worker)

      -- what another move has stored
      other_passed : (row number : ℕ) → s.cells bucket cell ≡ ClaimedBy (nth + 1)
          → t.holders bucket cell ≡ s.holders bucket cell → CellOk shape s bucket cell → Passed (Stores row number)
      other_passed row number own holders ok mover last worker =
          ⊎_elim (λ (used : IsUsedUp shape s bucket cell). let e = ap length holders in inl (omega arith))
          (λ held.
          let filled = was_held (ClaimedBy (nth + 1)) own held in
          let same : filled.mover ≡ mover =
          same_Some filled.mover mover (sym filled.last ∙ ap last_of (sym holders) ∙ last) in
          let workers : filled.mover.worker ≡ mover.worker = ap (λ (m : Mover). m.worker) same in
          let own_is = filled.worker_is in
          absurd (apart (omega arith))) ok

      pub passed_stays : Goes → CellOk shape s bucket cell
          → IsPassed shape s j bucket seen cell (s.cells bucket cell) → Passed (t.cells bucket cell)
      passed_stays (Keeps tag same holders fills) ok passed =
          passes (s.cells bucket cell) same (kept_passed (s.cells bucket cell) refl holders passed)
      passed_stays (Claims free tag claimed holders fills) ok passed = passes (ClaimedBy (nth + 1)) claimed tt
      passed_stays (Fills row number writes own tag stored holders by_move) ok passed =
          passes (Stores row number) stored (other_passed row number own holders ok)
      passed_stays (GivesBack writes next tag free holders) ok passed = passes FreeCell free tt
      passed_stays (Sticks writes none tag own holders) ok passed = passes (ClaimedBy (nth + 1)) own tt
      passed_stays (Frees was_full next tag free holders collects) ok passed = passes FreeCell free tt
