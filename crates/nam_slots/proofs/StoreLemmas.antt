-- Each step of a store keeps what is said of slots, and makes of each row what all others rely on.
use Rattle.std.proofs.Common.{List, Option, Some, ap, arith, false, length, map, refl, subst, sym, ℕ, ◌+◌, ◌∙◌, ◌≡◌}
use Rattle.std.proofs.lemmas.List.{length_push}
use Rattle.nam_calls.specs.Memory.{memory}
use Rattle.nam_calls.specs.declared.lock.LockPoint.TheVariants.{Peek}
use Rattle.nam_calls.specs.declared.mover.MovePoint.{MovePoint}
use Rattle.nam_calls.specs.declared.mover.MovePoint.TheVariants.{MoveFlag}
use Rattle.nam_catalog.specs.declared.shape.Shape.{Shape}
use Rattle.nam_ghost.proofs.IdleLemmas.{aside_idle, rests_aside}
use Rattle.nam_ghost.specs.Cells.{IsElsewhere}
use Rattle.nam_ghost.specs.Chains.{ChainNext, Grows, IsNew, Stands}
use Rattle.nam_ghost.specs.Copiers.{Aside, Copier, CopierOk, SlotsOk, copier_at, copier_now, copier_of}
use Rattle.nam_ghost.specs.Ghost.{Ghost, ghost_after, ghost_step}
use Rattle.nam_ghost.specs.Idle.{IsIdle}
use Rattle.nam_ghost.specs.Moments.{Observer, observer_of}
use Rattle.nam_ghost.specs.Slots.{Kept, Ring, RowNext}
use Rattle.nam_ghost.specs.Versions.{Chain, Version, slot_image, versions}
use Rattle.nam_layout.proofs.LimitLemmas.{place_within_limits}
use Rattle.nam_layout.specs.Address.{IsRow}
use Rattle.nam_layout.specs.Place.{place_at}
use Rattle.nam_layout.specs.Rows.{row_of, width_at}
use Rattle.nam_layout.specs.declared.field.Field.{Field}
use Rattle.nam_layout.specs.declared.field.Field.TheVariants.{SlotHeader}
use Rattle.nam_protocol.proofs.GoesCommit.{ask_commit_goes}
use Rattle.nam_protocol.proofs.PlainLemmas.{abandon_plain}
use Rattle.nam_protocol.specs.Client.{client_abandon, client_after, client_ask}
use Rattle.nam_protocol.specs.Commit.{ask_commit, committing, list_begin}
use Rattle.nam_protocol.specs.CutClient.{client_cut}
use Rattle.nam_protocol.specs.Sorts.{AskOf, AsksBegin, AsksCollect, AsksCommit, AsksPlain}
use Rattle.nam_protocol.specs.declared.client.Answer.{Answer}
use Rattle.nam_protocol.specs.declared.client.CallPoint.{CallPoint}
use Rattle.nam_protocol.specs.declared.client.CallPoint.TheVariants.{Moving}
use Rattle.nam_protocol.specs.declared.client.ClientState.{ClientState}
use Rattle.nam_protocol.specs.declared.txn.CommitPoint.TheVariants.{Listing, Locking}
use Rattle.nam_slots.proofs.CopierLemmas.{owned, slots_act}
use Rattle.nam_slots.proofs.MoveLemmas.{FlagsAt}
use Rattle.nam_slots.proofs.OwnLemmas.{none_ok}
use Rattle.nam_slots.proofs.RingLemmas.{row_goes}
use Rattle.nam_slots.proofs.SpotLemmas.{none_changes}
use Rattle.nam_slots.proofs.WordLemmas.{Client, idle_copier, stepped_copier, takes_slots}
use Rattle.nam_slots.specs.Change.{RowsChange}
use Rattle.nam_slots.specs.SlotsLaw.{KeepsLaw, LocksAfter, NextLaw, RestsOn}
use Rattle.nam_slots.specs.Spots.{AllSame}
use Rattle.nam_store.proofs.BaseLemmas.{asked_sort, does_law, step_sort}
use Rattle.nam_store.proofs.Lists.{get_set}
use Rattle.nam_store.specs.Kinds.{MayWriteAt}
use Rattle.nam_store.specs.Store.{Abandons, Asks, Cuts, StepsTo, Store, Takes, client_at, found_word, step, with_client}
use Rattle.nam_verbs.specs.declared.now.Now.{Now}
use Rattle.nam_verbs.specs.declared.now.Now.TheVariants.{At}

-- 1. What is asked

-- one that holds nothing has copied nothing
unheld_ok : (shape : Shape) (m : Field → ℕ) (chains : ℕ → Chain) (rings : ℕ → Ring) (copier : Copier)
    → length copier.holder.held ≡ 0 → copier.copying ≡ Aside → CopierOk shape m chains rings copier
unheld_ok shape m chains rings copier none aside = record {
  flag_is = λ p holds. let ends = holds.ends in absurd (omega arith);
  free = λ p holds. let ends = holds.ends in absurd (omega arith);
  copies = λ holds. let ends = holds.ends in absurd (omega arith);
}

asks_own : (shape : Shape) (m : Field → ℕ) (chains : ℕ → Chain) (rings : ℕ → Ring) (before after : ClientState)
    → AskOf shape before after → CopierOk shape m chains rings (copier_of after)
asks_own shape m chains rings _ _ (AsksPlain client asked plain unread) =
    let after = client_ask shape client asked in
    subst (CopierOk shape m chains rings)
    (sym (idle_copier after.worker after.call after.txn (aside_idle after.call plain.aside)))
    (none_ok shape m chains rings after.worker)
asks_own shape m chains rings _ _ (AsksBegin client txn number) = none_ok shape m chains rings client.worker
asks_own shape m chains rings _ _ (AsksCollect client bucket) = none_ok shape m chains rings client.worker
asks_own shape m chains rings _ _ (AsksCommit client attempt) =
    let before = record client { txn = Some attempt } in
    let state = attempt.state in
    let none = none_ok shape m chains rings client.worker in
    subst (CopierOk shape m chains rings) (sym (stepped_copier before attempt 0 (ask_commit shape state)))
    (ask_commit_goes (λ next. CopierOk shape m chains rings (copier_now client.worker next.state next.call)) state shape
    (λ e. none) (λ e f. none)
    (λ e f tells. unheld_ok shape m chains rings (copier_at (committing state) (Listing list_begin)) refl refl)
    (λ e f untold. unheld_ok shape m chains rings (copier_at (committing state) (Locking Peek)) refl refl))

-- 2. A step

module _ (shape : Shape) (store : Store) (ghost : Ghost) (rests : RestsOn shape store ghost)
    (Flagged : ℕ → ℕ → Type 0) where
  abbrev m : Field → ℕ
  m = memory shape store.words

  -- where a mover's next verb sets the moved flag, the version there is one of these
  abbrev pub AreFlagged : Type 0
  AreFlagged = (nth : ℕ) (client : ClientState) → client_at store nth ≡ Some client
      → (table key position slot header : ℕ)
      → client.call ≡ Some (At (Moving table key position (MoveFlag slot header)))
      → let row = row_of shape.tables table position in memory shape store.words (SlotHeader row slot) ≡ header
      → (kept : Kept) → (ghost.rings row).kept slot ≡ Some kept → Flagged row kept.number

  -- what it makes of the rows, and what holds of the store then
  abbrev pub StepIs : (after : Store) → (ℕ → Chain) → (ℕ → Ring) → Type 0
  StepIs after later next =
      (nth : ℕ) × RowsChange shape (memory shape store.words) (memory shape after.words) nth ghost.chains ghost.rings
      Flagged later next
      × SlotsOk shape after later next

  module _ (nth : ℕ) (client : ClientState) (here : client_at store nth ≡ Some client) where
    -- no word is written
    unmoved : (after : ClientState) → CopierOk shape m ghost.chains ghost.rings (copier_of after)
        → StepIs (with_client store nth after) ghost.chains ghost.rings
    unmoved after own =
        let same : AllSame shape m m = λ row is slot less.
        record { header = refl; ending = refl; body = λ word short. refl } in
        let rows = none_changes shape m m nth ghost.chains ghost.rings Flagged same in (
          nth,
          rows,
          slots_act shape rests.base.limits store ghost.chains ghost.rings rests.locks rests.slots nth store.words after
              Flagged ghost.chains ghost.rings rows own,
        )

    idle_after : (after : ClientState) → IsIdle after.call
        → StepIs (with_client store nth after) ghost.chains ghost.rings
    idle_after after idle =
        unmoved after (subst (CopierOk shape m ghost.chains ghost.rings)
        (sym (idle_copier after.worker after.call after.txn idle))
        (none_ok shape m ghost.chains ghost.rings after.worker))

    -- a word is taken
    module _ (place : CallPoint) (runs : client.cut ≡ false) (at : client.call ≡ Some (At place))
        (locks : LocksAfter shape store (step shape store nth client) (Takes nth client place here runs at) ghost)
        (flags : AreFlagged) where
      abbrev after : ClientState
      after = client_after shape client (found_word shape store client)

      abbrev known_later : Ghost
      known_later = ghost_after shape nth client place (found_word shape store client) ghost

      flags_at : (table key position : ℕ) (move : MovePoint) → place ≡ Moving table key position move
          → FlagsAt m ghost.rings Flagged (row_of shape.tables table position) move
      flags_at table key position (MoveFlag slot header) e =
          flags nth client here table key position slot header
          (at ∙ ap (λ (p : CallPoint). let call : Option (Now CallPoint Answer) = Some (At p) in call) e)
      flags_at table key position _ e = tt

      takes : StepIs (step shape store nth client) known_later.chains known_later.rings
      takes =
          let words = (step shape store nth client).words in
          let does = does_law shape store rests.base nth client place here at in
          let known : Client shape rests.base.limits m (memory shape words) ghost.chains ghost.rings rests.locks.rows
          rests.slots.rows nth Flagged
          (found_word shape store client) client after place = record {
            at = at;
            ok = rests.base.clients nth client here;
            found_is = refl;
            verb = record {
              changed = does.changes;
              leaves = does.leaves;
              kinds = λ field of_shape unwritten.
                  does.kinds field of_shape (λ may. unwritten
                  (subst (λ (call : Option (Now CallPoint Answer)). MayWriteAt (nth + 1) call field) at may));
            };
            own = owned shape store ghost.chains rests.locks nth client here;
            claim = rests.slots.copiers nth client here;
            own_after =
                owned shape (step shape store nth client) known_later.chains locks nth after
                (get_set store.clients nth client after here);
            flags = flags_at;
          } in
          let taken = takes_slots shape rests.base.limits m (memory shape words) ghost.chains ghost.rings
          rests.locks.rows rests.slots.rows nth Flagged
          (found_word shape store client) client after place
          (step_sort shape store rests.base nth client here place at) known in (
            nth,
            taken.0,
            slots_act shape rests.base.limits store ghost.chains ghost.rings rests.locks rests.slots nth words after
                Flagged known_later.chains known_later.rings taken.0 taken.1,
          )

pub step_is : (shape : Shape) (before after : Store) (goes : StepsTo shape before after) (ghost : Ghost)
    (rests : RestsOn shape before ghost) → LocksAfter shape before after goes ghost → (Flagged : ℕ → ℕ → Type 0)
    → AreFlagged shape before ghost rests Flagged → let later = ghost_step shape before after goes ghost in
    StepIs shape before ghost rests Flagged after later.chains later.rings
step_is shape before _ (Takes nth client place here runs at) ghost rests locks Flagged flags =
    takes shape before ghost rests Flagged nth client here place runs at locks flags
step_is shape before _ (Asks nth client asked here may words) ghost rests locks Flagged flags =
    unmoved shape before ghost rests Flagged nth client here (client_ask shape client asked)
    (asks_own shape (memory shape before.words) ghost.chains ghost.rings client (client_ask shape client asked)
    (asked_sort shape before rests.base nth client here asked may))
step_is shape before _ (Abandons nth client here gone) ghost rests locks Flagged flags =
    let plain = abandon_plain shape client (rests_aside client.call gone) in
    idle_after shape before ghost rests Flagged nth client here (client_abandon client) (aside_idle _ plain.aside)
step_is shape before _ (Cuts nth client here) ghost rests locks Flagged flags =
    unmoved shape before ghost rests Flagged nth client here (client_cut client) (rests.slots.copiers nth client here)

-- 3. The group

pub slots_keep : KeepsLaw
slots_keep shape before after goes ghost rests locks =
    (step_is shape before after goes ghost rests locks (λ row number. Unit {0})
    (λ nth client here table key position slot header at stands kept is. tt)).2

-- what a step makes of each row, with any claim of what is flagged and of what is new
pub rows_next : (shape : Shape) (before after : Store) (goes : StepsTo shape before after) (ghost : Ghost)
    (rests : RestsOn shape before ghost) → LocksAfter shape before after goes ghost → (Flagged : ℕ → ℕ → Type 0)
    → AreFlagged shape before ghost rests Flagged → (row : ℕ) → IsRow shape row → (New : Version → Type 0)
    → let later = ghost_step shape before after goes ghost in
    ((later.chains row).old ≡ versions (ghost.chains row) → New (later.chains row).now)
    → RowNext (place_at shape row) (Flagged row) New (ghost.chains row) (ghost.rings row) (later.chains row)
    (later.rings row)
rows_next shape before after goes ghost rests locks Flagged flags row is New new =
    let later = ghost_step shape before after goes ghost in
    let all = step_is shape before after goes ghost rests locks Flagged flags in
    row_goes (place_at shape row) (place_within_limits shape row rests.base.limits is).least_ring
    (slot_image (memory shape before.words) row) (slot_image (memory shape after.words) row) (ghost.chains row)
    (ghost.rings row) (rests.slots.rows row is) (Flagged row) New all.0 (later.chains row) (later.rings row) new
    (all.1 row is)

-- a chain that grows has a new version
grown_new : (width : ℕ) (observers : List Observer) (chain later : Chain) → ChainNext width observers chain later
    → later.old ≡ versions chain → IsNew width observers later.now
grown_new width observers chain later (Stands old now) grown =
    let long = length_push chain.old chain.now in
    let same = ap (λ (vs : List Version). length vs) (sym old ∙ grown) in absurd (omega arith)
grown_new width observers chain later (Grows old new) grown = new

pub slots_next : NextLaw
slots_next shape before after goes ghost ready row is =
    let m = memory shape before.words in
    let observers = map observer_of before.clients in
    rows_next shape before after goes ghost ready.rests ready.locks
    (IsElsewhere shape ghost.chains ghost.rings m ghost.cells) ready.flags row is
    (IsNew (width_at shape.tables row) observers)
    (grown_new (width_at shape.tables row) observers (ghost.chains row)
    ((ghost_step shape before after goes ghost).chains row) (ready.grows row is))
