-- Who has claimed a cell that a mover finds taken.
use Rattle.std.proofs.Common.{Bool, List, Some, [], ap, append-nil, arith, false, inl, inr, leb}
use Rattle.std.proofs.Common.{length, not, refl, slice_get, subst, suc, sym, true, ℕ, ⊎_elim, ◌&&◌, ◌+◌, ◌++◌, ◌∙◌, ◌∷◌}
use Rattle.std.proofs.Common.{◌-◌, ◌≡◌, ◌≢◌, ◌⊎◌}
use Rattle.std.specs.Prelude.{drop, if◌then◌else◌, option_map, slice_index, ◌==◌}
use Rattle.std.proofs.lemmas.Bool.{cases_eq, eq-eqb, ne_eqb, true≢false}
use Rattle.std.proofs.lemmas.Option.{none-some, same_Some, slice_get-map}
use Rattle.si_model.specs.Lists.{Listed}
use Rattle.si_model.specs.Tells.{Tell}
use Rattle.si_model.specs.declared.log.Event.TheVariants.{Collected, Moved}
use Rattle.si_model.specs.declared.log.Stamp.{Stamp}
use Rattle.nam_verbs.specs.declared.now.Now.TheVariants.{At}
use Rattle.nam_calls.specs.Memory.{memory}
use Rattle.nam_calls.specs.declared.mover.MovePoint.TheVariants.{MoveClaim}
use Rattle.nam_calls.specs.declared.overflow.ClaimPoint.TheVariants.{ClaimLook, ClaimTake}
use Rattle.nam_calls.specs.declared.overflow.ClaimPoint.{ClaimPoint}
use Rattle.nam_catalog.specs.declared.shape.Shape.{Shape}
use Rattle.nam_filled.proofs.CallLemmas.{bucket_within}
use Rattle.nam_filled.proofs.ListLemmas.{get_front, last_listed, listed_get}
use Rattle.nam_filled.proofs.ToldLemmas.{collected_told, front_told, get_drop, get_stands, move_told}
use Rattle.nam_filled.specs.Filled.{CellHeld, HeldOf, IsLast, IsTaken, OthersCollected}
use Rattle.nam_filled.specs.Filled.{NowOk, Scene, StoredBy, Unfreed, end_of_version, scene_of}
use Rattle.nam_filled.specs.Holders.{Holders, Mover}
use Rattle.nam_filled.specs.Moves.{FillsIn, events_now, running_move}
use Rattle.nam_filled.specs.Taken.{ByOther, ByOwn, IsCellTaken, IsNextHidden, IsToldMove, OthersCollect, UsedUp}
use Rattle.nam_filled.specs.Taken.{IsMissed, cell_of}
use Rattle.nam_filled.specs.TakenLaw.{MoversLaw, TakenLaw, Tells}
use Rattle.nam_ghost.specs.Cells.{Cell, CellIs, ClaimedBy, FreeCell, Stores, end_by}
use Rattle.nam_ghost.specs.Chains.{ChainsOk}
use Rattle.nam_ghost.specs.Ghost.{Ghost}
use Rattle.nam_ghost.specs.Slots.{home}
use Rattle.nam_ghost.specs.Upkeep.{CellsOk}
use Rattle.nam_ghost.specs.Versions.{cell_image}
use Rattle.nam_header.specs.Stamp.{is_within}
use Rattle.nam_header.specs.Tag.{is_free, state_of}
use Rattle.nam_header.specs.Visible.{is_visible}
use Rattle.nam_layout.specs.Address.{IsCell, IsRow}
use Rattle.nam_layout.specs.Place.{bucket_of, place_at}
use Rattle.nam_layout.specs.Rows.{row_of}
use Rattle.nam_layout.specs.declared.field.Field.TheVariants.{Tag}
use Rattle.nam_protocol.specs.CutClient.{client_cut}
use Rattle.nam_protocol.specs.declared.client.CallPoint.TheVariants.{Moving}
use Rattle.nam_protocol.specs.declared.client.ClientState.{ClientState}
use Rattle.nam_store.specs.Base.{BaseOk}
use Rattle.nam_store.specs.Store.{Store, client_at, found_word, verb_at}
use Rattle.nam_tells.specs.Teller.{Teller, end_of}
use Rattle.nam_verbs.specs.VerbAt.{found_at}
use Rattle.nam_protocol.specs.ClientFits.{NowFits}
use Rattle.nam_tells.specs.TellsLaw.{tells_now}

-- what isn't within a snapshot it doesn't see, if it is a worker's stamp
unseen_by : (zero : Bool) (loader few known : Bool) → zero ≡ false → (not zero && few && known) ≡ false
    → (if zero then loader else few && known) ≡ false
unseen_by true loader few known e out = absurd (true≢false e)
unseen_by false loader few known e out = out

unseen : (stamp : Stamp) (seen : List ℕ) → stamp.thread ≢ 0 → is_within stamp seen ≡ false
    → is_visible stamp seen ≡ false
unseen stamp seen some out =
    unseen_by (stamp.thread == 0) (stamp.number == 0) (leb stamp.thread (length seen))
    (leb stamp.number (slice_index seen (stamp.thread - 1))) (ne_eqb stamp.thread 0 some) out

module _ (shape : Shape) (store : Store) (ghost : Ghost) (holders : Holders) (tellers : ℕ → Teller)
    (tells : Tells shape store ghost holders tellers) where
  abbrev scene : Scene
  scene = scene_of shape store ghost holders

  abbrev Told : ℕ → Mover → ℕ → ℕ → Type 0
  Told = IsToldMove shape store ghost holders tellers

  -- 1. A holder's move is told

  abbrev pub move_of : (bucket : ℕ) (mover : Mover) (row number : ℕ)
      → HeldOf shape (scene_of shape store ghost holders) bucket mover row number
      → IsToldMove shape store ghost holders tellers bucket mover row number
  move_of bucket mover row number h =
      let t = move_told shape (tellers h.nth) h.client (tells.told h.nth h.client h.here) mover.place h.move h.moves in
      record {
        nth = h.nth;
        worker_is = h.worker_is;
        client = h.client;
        here = h.here;
        tell = t.0;
        stands = get_stands (tells_now shape (tellers h.nth) (client_cut h.client)) mover.place t.0 t.2;
        table = h.move.table;
        key = h.move.key;
        stamp = h.move.stamp;
        how = t.1;
        event_is = subst (λ b. t.0.event ≡ Moved b h.move.table h.move.key h.move.stamp t.1) h.bucket_is t.3;
        of_table = h.of_table;
        position = h.position;
        short = h.short;
        row_is = h.row_is;
        inside = h.inside;
        within = h.within;
        bears = h.bears;
        version = h.version;
        version_is = h.version_is;
        stamp_is = h.stamp_is;
      }

  held_of : (bucket cell : ℕ) (mover : Mover) → Listed mover (holders bucket cell)
      → (row : ℕ) × (number : ℕ) × Told bucket mover row number
  held_of bucket cell mover listed =
      let h = tells.filled.movers bucket cell mover listed in
      (h.0, h.1, move_of bucket mover h.0 h.1 h.2)

  others_tell : (nth : ℕ) → OthersCollected shape scene nth → OthersCollect shape store ghost holders tellers nth
  others_tell nth (other, (client, (here, (apart, has)))) = (
    other,
    (
      client,
      (here, (apart, collected_told shape (tellers other) client (tells.told other client here) has)),
    ),
  )

  -- 2. A cell that stores a version of the client's own

  module _ (chains : ChainsOk shape store ghost.chains) where
    -- what follows a version whose end isn't within a snapshot the snapshot doesn't see
    next_hidden : (row number : ℕ) (entries : List ℕ) → IsRow shape row
        → is_within (end_of_version shape scene row number) entries ≡ false
        → IsNextHidden shape store ghost holders tellers row number entries
    next_hidden row number entries inside out next is =
        let written = (chains row inside).later number next is in
        let by = written.1.1.1 in
        unseen next.stamp entries (λ zero. let thread = by.thread in absurd (omega arith))
        (subst (λ (stamp : Stamp). is_within stamp entries ≡ false)
        (ap (λ o. end_by o ((ghost.rings row).kept (home (place_at shape row) number))) is) out)

    module _ (nth : ℕ) (client : ClientState) (here : client_at store nth ≡ Some client)
        (idle : running_move shape client.call ≡ []) (bucket cell row number : ℕ)
        (stored : StoredBy shape (scene_of shape store ghost holders) bucket cell row number)
        (same : stored.held.nth ≡ nth) where
      abbrev h : HeldOf shape (scene_of shape store ghost holders) bucket stored.mover row number
      h = stored.held

      abbrev place : ℕ
      place = stored.mover.place

      abbrev front : List Tell
      front = (tellers stored.held.nth).front

      client_is : h.client ≡ client
      client_is =
          same_Some h.client client (sym h.here ∙ ap (slice_get store.clients) same ∙ here)

      abbrev told : IsToldMove shape store ghost holders tellers bucket stored.mover row number
      told = move_of bucket stored.mover row number stored.held

      -- no call of it runs, so the move is told already
      in_front : slice_get front place ≡ Some told.tell
      in_front =
          let none : events_now shape h.client ≡ h.client.log.events =
          ap (λ es. h.client.log.events ++ es) (ap (λ (c : ClientState). running_move shape c.call) client_is ∙ idle)
          ∙ append-nil h.client.log.events in
          let is_told = tells.told h.nth h.client h.here in
          let t = front_told shape (tellers h.nth) h.client is_told place h.moves.0
          (ap (λ es. slice_get es place) (sym none) ∙ h.moves.1) in
          let all = get_front front (end_of shape (tellers h.nth) (client_cut h.client)) place t.0 t.1 in
          let moved = move_told shape (tellers h.nth) h.client is_told place h.move h.moves in
          t.1 ∙ ap Some (same_Some t.0 moved.0 (sym all ∙ moved.2))

      unfreed_told : (rest : List Tell) → drop place front ≡ told.tell ∷ rest
          → Unfreed shape scene h.nth h.client bucket place row number
          → OthersCollect shape store ghost holders tellers nth
          ⊎ ((t : Tell) (prefix : ℕ) (entries : List ℕ) → Listed t rest
          → t.event ≡ Collected bucket prefix entries false
          → IsNextHidden shape store ghost holders tellers row number entries)
      unfreed_told rest ended (inl others) =
          inl (subst (OthersCollect shape store ghost holders tellers) same (others_tell h.nth others))
      unfreed_told rest ended (inr own) = inr (λ t prefix entries listed e.
          let j = listed_get rest t listed in
          let at : slice_get front (place + suc j.0) ≡ Some t =
          sym (get_drop front place (suc j.0)) ∙ ap (λ ts. slice_get ts (suc j.0)) ended ∙ j.1 in
          let logged : slice_get h.client.log.events (place + suc j.0)
          ≡ Some (Collected bucket prefix entries false) =
          ap (λ es. slice_get es (place + suc j.0)) (tells.told h.nth h.client h.here).lists.events
          ∙ slice_get-map (λ (u : Tell). u.event) front (place + suc j.0) ∙ ap (option_map (λ (u : Tell). u.event)) at
          ∙ ap Some e in
          next_hidden row number entries h.inside (own (place + suc j.0) prefix entries (omega arith) logged))

      own_taken : IsCellTaken shape store ghost holders tellers nth bucket cell
      own_taken =
          let stands = get_stands front place told.tell in_front in
          ByOwn stored.mover row number (last_listed (holders bucket cell) stored.mover stored.last)
          (h.worker_is ∙ ap (λ n. n + 1) same) told stands.0
          (ap (λ n. drop place (tellers n).front) (sym same) ∙ stands.1)
          (unfreed_told stands.0 stands.1 stored.unfreed)

    -- 3. The word that finds it

    module _ (base : BaseOk shape store) (cells_ok : CellsOk shape store ghost.chains ghost.rings ghost.cells) (nth : ℕ)
        (client : ClientState) (here : client_at store nth ≡ Some client) (idle : running_move shape client.call ≡ [])
        (aside : (b c : ℕ) → FillsIn shape client.call b c → ⊥) (bucket cell : ℕ) (is : IsCell shape bucket cell) where
      abbrev Taken : Type 0
      Taken = IsCellTaken shape store ghost holders tellers nth bucket cell

      by_other : (mover : Mover) → IsLast shape (scene_of shape store ghost holders) bucket cell mover
          → mover.worker ≢ nth + 1 → Taken
      by_other mover last apart =
          let listed = last_listed (holders bucket cell) mover last in
          let h = held_of bucket cell mover listed in
          ByOther mover h.0 h.1 listed apart h.2

      look_taken : is_free (memory shape store.words (Tag bucket cell)) ≡ false → (x : Cell)
          → ghost.cells bucket cell ≡ x → CellHeld shape (scene_of shape store ghost holders) bucket cell x → Taken
      look_taken used FreeCell e held =
          let zero : state_of (memory shape store.words (Tag bucket cell)) ≡ 0 =
          subst (CellIs shape ghost.chains ghost.rings bucket (cell_image (memory shape store.words) bucket cell)) e
          (cells_ok.are bucket cell is) in
          absurd (true≢false (sym (eq-eqb (state_of (memory shape store.words (Tag bucket cell))) 0 zero) ∙ used))
      look_taken used (ClaimedBy worker) e held =
          ⊎_elim
          (λ (same : held.nth ≡ nth).
          let client_is : held.client ≡ client =
          same_Some held.client client (sym held.here ∙ ap (slice_get store.clients) same ∙ here) in
          absurd (aside bucket cell
          (subst (λ (c : ClientState). FillsIn shape c.call bucket cell) client_is held.fills)))
          (λ apart.
          let worker_is = held.worker_is in
          let owner = held.owner in
          by_other held.mover held.last (λ own. apart (omega arith))) (cases_eq held.nth nth)
      look_taken used (Stores row number) e held =
          ⊎_elim (λ (same : held.held.nth ≡ nth). own_taken nth client here idle bucket cell row number held same)
          (λ apart.
          let worker_is = held.held.worker_is in by_other held.mover held.last (λ own. apart (omega arith)))
          (cases_eq held.held.nth nth)

      cell_taken : is_free (memory shape store.words (Tag bucket cell)) ≡ false → Taken
      cell_taken used =
          ⊎_elim (λ all. UsedUp all) (look_taken used (ghost.cells bucket cell) refl)
          (tells.filled.cells bucket cell is)

pub movers_law : MoversLaw
movers_law shape store ghost holders tellers tells bucket cell mover listed =
    held_of shape store ghost holders tellers tells bucket cell mover listed

module _ (shape : Shape) (store : Store) (ghost : Ghost) (holders : Holders) (tellers : ℕ → Teller)
    (base : BaseOk shape store) (chains : ChainsOk shape store ghost.chains)
    (cells_ok : CellsOk shape store ghost.chains ghost.rings ghost.cells)
    (tells : Tells shape store ghost holders tellers) (nth : ℕ) (client : ClientState) (table key position : ℕ) where
  abbrev b : ℕ
  b = bucket_of shape (row_of shape.tables table position)

  abbrev Takes : ClaimPoint → Type 0
  Takes at = IsCellTaken shape store ghost holders tellers nth b (cell_of at)

  abbrev calls : ClaimPoint → (slot header ending : ℕ) → Type 0
  calls at slot header ending = client.call ≡ Some (At (Moving table key position (MoveClaim slot header ending at)))

  taken_by : (at : ClaimPoint) (here : client_at store nth ≡ Some client) (slot header ending : ℕ)
      → calls at slot header ending → IsMissed at (found_word shape store client) → Takes at
  taken_by (ClaimLook cell) here slot header ending runs missed =
      let fits = subst (NowFits shape client.txn) runs (base.clients nth client here).fits.2 in
      let found : found_word shape store client ≡ memory shape store.words (Tag b cell) =
      ap (λ call. found_at (memory shape store.words) (verb_at shape client call)) runs in
      cell_taken shape store ghost holders tellers tells chains base cells_ok nth client here
      (ap (running_move shape) runs)
      (λ x y fills. none-some y (subst (λ call. FillsIn shape call x y) runs fills).1) b cell
      (bucket_within shape base.limits (row_of shape.tables table position), fits.2.1)
      (ap is_free (sym found) ∙ missed)
  taken_by (ClaimTake cell tag) here slot header ending runs missed =
      let found : found_word shape store client ≡ memory shape store.words (Tag b cell) =
      ap (λ call. found_at (memory shape store.words) (verb_at shape client call)) runs in
      ⊎_elim
      (λ (same : (memory shape store.words (Tag b cell) ≡ tag) × (state_of tag ≡ 0)). absurd (missed (found ∙ same.0)))
      (λ ((mover, last, apart) : IsTaken shape (scene_of shape store ghost holders) nth b cell).
      let listed = last_listed (holders b cell) mover last in
      let h = tells.filled.movers b cell mover listed in
      ByOther mover h.0 h.1 listed apart (move_of shape store ghost holders tellers tells b mover h.0 h.1 h.2))
      (subst (NowOk shape (scene_of shape store ghost holders) nth) runs (tells.filled.calls nth client here))

pub taken_law : TakenLaw
taken_law shape store ghost holders tellers base chains cells_ok tells nth client table key position at misses =
    taken_by shape store ghost holders tellers base chains cells_ok tells nth client table key position at misses.here
    misses.slot misses.header misses.ending misses.runs misses.missed
