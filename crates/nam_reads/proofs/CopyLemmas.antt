-- A copy of the current version ends with the stamp of its holder's next commit, which no snapshot sees yet.
use Rattle.std.proofs.Common.{List, None, Option, Some, ap, arith, eqb, false, inl, inr, option_map, refl, subst, sym}
use Rattle.std.proofs.Common.{true, ℕ, ◌+◌, ◌-◌, ◌<◌, ◌∙◌, ◌≡◌, ◌≤◌}
use Rattle.std.proofs.lemmas.Bool.{and_parts, cases_lt, eqb-true, true_from_ne_false, true≢false}
use Rattle.std.proofs.lemmas.Option.{same_Some, slice_get-map}
use Rattle.nam_calls.specs.Memory.{memory}
use Rattle.nam_calls.specs.declared.ring.CopyPoint.{CopyPoint}
use Rattle.nam_calls.specs.declared.ring.CopyPoint.TheVariants.{CopyEnding, CopyHead, CopyMark, CopyWord}
use Rattle.nam_catalog.specs.declared.shape.Shape.{Shape}
use Rattle.nam_ghost.proofs.IdleLemmas.{copier_holds}
use Rattle.nam_ghost.proofs.SnapshotLemmas.{entry_is, taken_found}
use Rattle.nam_ghost.proofs.VisibleLemmas.{unreached_hidden}
use Rattle.nam_ghost.specs.Copiers.{Aside, Copied, CopyOk, CopyState, EndNext, Fills, IsCopy, MarkNext, Saves}
use Rattle.nam_ghost.specs.Copiers.{copier_in, copier_of, copying_in, current_slot, has_copied}
use Rattle.nam_ghost.specs.Ghost.{Ghost}
use Rattle.nam_ghost.specs.Holders.{Holder, Holds, HoldsRow, holder_of}
use Rattle.nam_ghost.specs.Locks.{HolderOk}
use Rattle.nam_ghost.specs.Moments.{IsTaken, number_now}
use Rattle.nam_ghost.specs.Slots.{Kept, KeptOk, SlotIs, home}
use Rattle.nam_ghost.specs.Versions.{current_number, slot_image}
use Rattle.nam_header.specs.Header.{flag}
use Rattle.nam_header.specs.Visible.{is_visible}
use Rattle.nam_layout.specs.Address.{IsRow}
use Rattle.nam_layout.specs.Place.{place_at}
use Rattle.nam_layout.specs.Rows.{ring_at}
use Rattle.nam_layout.specs.declared.field.Field.{Field}
use Rattle.nam_protocol.specs.Commit.{record_place}
use Rattle.nam_protocol.specs.Own.{OwnOpen}
use Rattle.nam_protocol.specs.declared.client.Answer.{Answer}
use Rattle.nam_protocol.specs.declared.client.CallPoint.{CallPoint}
use Rattle.nam_protocol.specs.declared.client.CallPoint.TheVariants.{InTxn}
use Rattle.nam_protocol.specs.declared.client.ClientState.{ClientState}
use Rattle.nam_protocol.specs.declared.client.Open.{Open}
use Rattle.nam_protocol.specs.declared.txn.CommitPoint.TheVariants.{Copying, Installing}
use Rattle.nam_protocol.specs.declared.txn.TxnPoint.TheVariants.{Committing}
use Rattle.nam_reads.specs.ReadsLaw.{Stands}
use Rattle.nam_store.proofs.Lists.{some_within}
use Rattle.nam_store.specs.Store.{Store, client_at}
use Rattle.nam_verbs.specs.declared.now.Now.{Now}
use Rattle.nam_verbs.specs.declared.now.Now.TheVariants.{At, Over}
use Rattle.si_model.specs.declared.log.Stamp.{Stamp}

-- 1. A client as one that copies

-- while it copies it has not copied
copies_yet : (width : ℕ) (old : List ℕ) (at : CopyPoint) → has_copied (copying_in width old at) ≡ false
copies_yet width old CopyMark = refl
copies_yet width old CopyEnding = refl
copies_yet width old (CopyWord nth) = refl
copies_yet width old CopyHead = refl

-- one that has copied has not published its number
copied_number : (worker last : ℕ) (snaps : List (List ℕ)) (call : Option (Now CallPoint Answer))
    (opened : Option Open) → OwnOpen worker last snaps opened
    → has_copied (copier_in worker call opened).copying ≡ true
    → number_now call last < (copier_in worker call opened).holder.stamp.number
copied_number worker last snaps (Some (At (InTxn (Committing (Installing nth at))))) (Some attempt) own e =
    let is = own.last_is in omega arith
copied_number worker last snaps (Some (At (InTxn (Committing (Copying nth old at))))) (Some attempt) own e =
    absurd (true≢false (sym e ∙ copies_yet (record_place attempt.state nth).width old at))
copied_number worker last snaps (Some (At (InTxn (Committing at)))) (Some attempt) own e = absurd (true≢false (sym e))
copied_number worker last snaps (Some (At (InTxn (Committing at)))) None own e = absurd (true≢false (sym e))
copied_number worker last snaps (Some (At (InTxn _))) opened own e = absurd (true≢false (sym e))
copied_number worker last snaps (Some (At _)) opened own e = absurd (true≢false (sym e))
copied_number worker last snaps (Some (Over answer)) opened own e = absurd (true≢false (sym e))
copied_number worker last snaps None opened own e = absurd (true≢false (sym e))

module _ (shape : Shape) (store : Store) (ghost : Ghost) (stands : Stands shape store ghost) where
  abbrev m : Field → ℕ
  m = memory shape store.words

  -- 2. The copy of a row's current version

  abbrev CopyIn : Stamp → ℕ → Type 0
  CopyIn stamp row = IsCopy (current_number (ghost.chains row)) (ghost.chains row).now stamp
      ((ghost.rings row).kept (current_slot shape ghost.chains row))

  copy_of : (stamp : Stamp) (row : ℕ) (copying : CopyState) → has_copied copying ≡ true
      → CopyOk (place_at shape row) (ghost.chains row) stamp
      (slot_image m row (current_slot shape ghost.chains row))
      ((ghost.rings row).kept (current_slot shape ghost.chains row)) copying → CopyIn stamp row
  copy_of stamp row Copied e copy = copy
  copy_of stamp row Aside e copy = absurd (true≢false (sym e))
  copy_of stamp row (Saves got) e copy = absurd (true≢false (sym e))
  copy_of stamp row (MarkNext old) e copy = absurd (true≢false (sym e))
  copy_of stamp row (EndNext old) e copy = absurd (true≢false (sym e))
  copy_of stamp row (Fills old words) e copy = absurd (true≢false (sym e))

  module _ (nth : ℕ) (client : ClientState) (here : client_at store nth ≡ Some client) (row : ℕ)
      (inside : IsRow shape row) (names : (ghost.chains row).holder ≡ nth + 1)
      (copied : (ghost.rings row).copied ≡ true) where
    abbrev holder : Holder
    holder = (copier_of client).holder

    holder_ok : HolderOk shape m ghost.chains nth holder
    holder_ok =
        subst (HolderOk shape m ghost.chains nth) (sym (copier_holds client))
        (stands.locks.each nth (holder_of client)
        (slice_get-map holder_of store.clients nth ∙ ap (option_map holder_of) here))

    -- the lock's holder has made it, with its own stamp as end
    abbrev Made : Type 0
    Made = (has_copied (copier_of client).copying ≡ true) × CopyIn holder.stamp row

    made : Made
    made = by_record (holder_ok.owns row inside names)
      where
        by_record : HoldsRow holder row → Made
        by_record (p, held, is) =
            let ok = stands.slots.copiers nth client here in
            let copying = (copier_of client).copying in
            let both = and_parts (has_copied copying) (eqb p holder.from)
            (sym (ok.flag_is p held) ∙ ap (λ r. (ghost.rings r).copied) is ∙ copied) in
            let from : p ≡ holder.from = eqb-true p holder.from both.1 in (
              both.0,
              subst (CopyIn holder.stamp) (sym (ap holder.row from) ∙ is)
                  (copy_of holder.stamp (holder.row holder.from) copying both.0
                  (ok.copies (subst (Holds holder) from held))),
            )

    unseen_by : (seen : List ℕ) → IsTaken store seen → is_visible holder.stamp seen ≡ false
    unseen_by seen taken =
        let own = (stands.base.clients nth client here).own.opened in
        let number = copied_number client.worker client.last client.log.snaps client.call client.txn own made.0 in
        let entry = entry_is shape store stands.moments nth client here in
        let worker = (stands.locks.rows row inside).worker in
        let most = taken_found shape store stands.moments seen taken nth (omega arith) in
        let least = most.1 in
        unreached_hidden nth holder.stamp seen holder_ok.worker (omega arith)

  -- 3. So it ends unseen

  module _ (row : ℕ) (inside : IsRow shape row) (slot : ℕ) (short : slot < ring_at shape.tables row) (kept : Kept)
      (at : (ghost.rings row).kept slot ≡ Some kept) (number : kept.number ≡ current_number (ghost.chains row)) where
    was_copied : (ghost.rings row).copied ≡ true
    was_copied =
        true_from_ne_false (ghost.rings row).copied
        (λ e.
        let less = (stands.slots.rows row inside).behind slot short kept at in let none = ap flag e in omega arith)

    locked : 1 ≤ (ghost.chains row).holder
    locked = elim (cases_lt 0 (ghost.chains row).holder) [
      | inl some ↦ some
      | inr none ↦ absurd (true≢false (sym was_copied ∙ (stands.slots.rows row inside).free (omega arith)))
    ]

    -- it is the one that the holder has made
    ends_as : (stamp : Stamp) → CopyIn stamp row → kept.next ≡ stamp
    ends_as stamp copy =
        let ok : KeptOk (place_at shape row) slot (slot_image m row slot) (ghost.chains row) kept =
        subst (SlotIs (place_at shape row) slot (slot_image m row slot) (ghost.chains row)) at
        ((stands.slots.rows row inside).slots slot short) in
        let here = sym ok.home_is ∙ ap (home (place_at shape row)) number in
        ap (λ (k : Kept). k.next)
        (same_Some kept copy.kept (sym at ∙ ap (ghost.rings row).kept here ∙ copy.is))
        ∙ copy.next_is

    pub copy_unseen : (seen : List ℕ) → IsTaken store seen → is_visible kept.next seen ≡ false
    copy_unseen seen taken =
        let nth = (ghost.chains row).holder - 1 in
        let some = locked in
        let worker = (stands.locks.rows row inside).worker in
        let all = stands.base.workers in
        let there = some_within store.clients nth (omega arith) in
        let names : (ghost.chains row).holder ≡ nth + 1 = omega arith in
        let copy = made nth there.0 there.1 row inside names was_copied in
        subst (λ (s : Stamp). is_visible s seen ≡ false)
        (sym (ends_as (holder nth there.0 there.1 row inside names was_copied).stamp copy.1))
        (unseen_by nth there.0 there.1 row inside names was_copied seen taken)
