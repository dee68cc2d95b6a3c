-- The opening has what is claimed of the horizon, and each step of a store keeps it.
use Rattle.std.proofs.Common.{None, Option, Some, ap, arith, false, inl, inr, option_map, refl, subst, sym}
use Rattle.std.proofs.Common.{true, ℕ, ◌+◌, ◌-◌, ◌<◌, ◌∙◌}
use Rattle.std.proofs.Common.{◌≡◌, ◌⊎◌, ⊎_elim}
use Rattle.std.specs.Prelude.{slice_index, slice_set}
use Rattle.std.proofs.lemmas.Bool.{eq-eqb}
use Rattle.std.proofs.lemmas.Option.{slice_get-map}
use Rattle.nam_verbs.specs.declared.now.Now.{Now}
use Rattle.nam_verbs.specs.declared.now.Now.TheVariants.{At}
use Rattle.nam_catalog.specs.declared.shape.Shape.{Shape}
use Rattle.nam_layout.specs.declared.field.Field.TheVariants.{Horizon}
use Rattle.nam_calls.specs.Memory.{memory}
use Rattle.nam_protocol.specs.Client.{client_abandon, client_after, client_ask}
use Rattle.nam_protocol.specs.CutClient.{client_cut}
use Rattle.nam_protocol.specs.HoldsWords.{CallHolds}
use Rattle.nam_protocol.specs.Own.{MayAsk, Rests}
use Rattle.nam_protocol.specs.Plain.{IsAside}
use Rattle.nam_protocol.specs.declared.client.Answer.{Answer}
use Rattle.nam_protocol.specs.declared.client.Call.{Call}
use Rattle.nam_protocol.specs.declared.client.CallPoint.{CallPoint}
use Rattle.nam_protocol.specs.declared.client.ClientState.{ClientState}
use Rattle.nam_protocol.proofs.OpeningLemmas.{opening_law}
use Rattle.nam_protocol.proofs.PlainLemmas.{abandon_plain}
use Rattle.nam_store.specs.Everyone.{Everyone, put}
use Rattle.nam_store.specs.Store.{Abandons, Asks, Cuts, StepsTo, Store, Takes, abandon, ask, client_at, cut, found_word}
use Rattle.nam_store.specs.Store.{step}
use Rattle.nam_store.proofs.BaseLemmas.{asked_sort, step_sort}
use Rattle.nam_store.proofs.Lists.{everyone_put, everyone_set, get_set, put_beside, put_here}
use Rattle.nam_store.proofs.OpeningLemmas.{opening_client}
use Rattle.nam_ghost.specs.Moments.{MomentsOk, ObserverOk, observer_of, vector_of}
use Rattle.nam_tells.specs.Steps.{tells_next, told_abandoned, told_after, told_asked}
use Rattle.nam_tells.specs.Teller.{Teller, new_teller}
use Rattle.nam_tells.specs.TellsLaw.{tells_now}
use Rattle.nam_raised.specs.Raised.{AreRaised, IsCollected, RaisedOk, SnapsRise, tells_entry}
use Rattle.nam_raised.specs.RaisedLaw.{KeepsLaw, OpensLaw, RestsOn}
use Rattle.nam_verbs.specs.declared.now.Now.TheVariants.{Over}
use Rattle.nam_raised.proofs.EntryLemmas.{runs_entry}
use Rattle.nam_raised.proofs.HorizonLemmas.{CollectsBy, horizon_goes}
use Rattle.nam_raised.proofs.SnapLemmas.{Rises, ask_rises, plain_rises, word_rises}
use Rattle.nam_raised.proofs.StayLemmas.{collected_stays, word_tells}
use Rattle.nam_raised.proofs.TellerLemmas.{Shows, ask_shows, leave_shows, word_shows}

-- 1. The opening: each entry is the start, and nobody has told anything

pub raised_opens : OpensLaw
raised_opens shape limits rows loaded = record {
  entries = λ a less.
      inl ((opening_law shape rows loaded.of_tables).untouched (Horizon (a + 1)) (omega arith, omega arith) tt);
  each = λ nth client here.
      let new = opening_client shape rows nth client here in
      subst (λ (c : ClientState). SnapsRise shape.workers nth c new_teller) (sym new.1)
      record { rising = tt; shows = tt; last = tt };
}

-- 2. One client, with its teller

pub observer_ok : (shape : Shape) (store : Store) → MomentsOk shape store → (nth : ℕ) (client : ClientState)
    → client_at store nth ≡ Some client
    → ObserverOk shape.start shape.workers (vector_of (memory shape store.words)) nth (observer_of client)
observer_ok shape store moments nth client here =
    moments.each nth (observer_of client)
    (slice_get-map observer_of store.clients nth ∙ ap (option_map observer_of) here)

module _ (workers nth : ℕ) where
  both : (client : ClientState) (teller : Teller) → Rises workers nth client → Shows teller
      → SnapsRise workers nth client teller
  both client teller rises shows = record { rising = rises.rising; shows = shows; last = rises.last }

  its : (client : ClientState) (teller : Teller) → SnapsRise workers nth client teller → Rises workers nth client
  its client teller is = record { rising = is.rising; last = is.last }

rests_aside : (call : Option (Now CallPoint Answer)) → Rests call → IsAside call
rests_aside None rests = tt
rests_aside (Some (Over answer)) rests = tt
rests_aside (Some (At place)) rests = absurd rests

-- 3. A step of a store

module _ (shape : Shape) (before : Store) (tellers : ℕ → Teller) (rests : RestsOn shape before tellers)
    (ok : RaisedOk shape before tellers) where
  -- one client has gone on, and has another teller
  put_each : (nth : ℕ) (after : ClientState) (now : Teller) → SnapsRise shape.workers nth after now
      → Everyone (λ k client. SnapsRise shape.workers k client (put tellers nth now k))
      (slice_set before.clients nth after)
  put_each nth after now is =
      everyone_set (λ k client. SnapsRise shape.workers k client (tellers k))
      (λ k client. SnapsRise shape.workers k client (put tellers nth now k)) before.clients nth after ok.each
      (λ other client apart e was.
      subst (λ (t : Teller). SnapsRise shape.workers other client t) (sym (put_beside tellers nth now other apart)) was)
      (subst (λ (t : Teller). SnapsRise shape.workers nth after t) (sym (put_here tellers nth now)) is)

  -- the words are as they were
  same_entries : (after : Store) (goes : StepsTo shape before after) → after.words ≡ before.words
      → AreRaised shape (tells_next shape before after goes tellers) after
  same_entries after goes same a less =
      ⊎_elim (λ (starts : memory shape before.words (Horizon (a + 1)) ≡ shape.start).
      inl (ap (λ words. memory shape words (Horizon (a + 1))) same ∙ starts))
      (λ (was : IsCollected shape tellers before.clients (a + 1) (memory shape before.words (Horizon (a + 1)))).
      inr (subst (λ words. IsCollected shape (tells_next shape before after goes tellers) after.clients (a + 1)
      (memory shape words (Horizon (a + 1)))) (sym same)
      (collected_stays (a + 1) (memory shape before.words (Horizon (a + 1))) shape before tellers rests.told after goes
      was)))
      (ok.entries a less)

  module _ (nth : ℕ) (client : ClientState) (here : client_at before nth ≡ Some client) where
    was : SnapsRise shape.workers nth client (tellers nth)
    was = ok.each nth client here

    module _ (place : CallPoint) (runs : client.cut ≡ false) (at : client.call ≡ Some (At place)) where
      abbrev goes : StepsTo shape before (step shape before nth client)
      goes = Takes nth client place here runs at

      abbrev later : ℕ → Teller
      later = tells_next shape before (step shape before nth client) goes tellers

      abbrev entry_after : ℕ → ℕ
      entry_after a = memory shape (step shape before nth client).words (Horizon (a + 1))

      abbrev IsRaised : ℕ → ℕ → Type 0
      IsRaised a entry =
          (entry ≡ shape.start) ⊎ IsCollected shape later (step shape before nth client).clients (a + 1) entry

      -- a word is taken: each entry is as it was, or that of the collection that runs
      stays : (a : ℕ) → a < shape.workers → entry_after a ≡ memory shape before.words (Horizon (a + 1))
          → IsRaised a (entry_after a)
      stays a less same =
          let entry = memory shape before.words (Horizon (a + 1)) in
          subst (IsRaised a) (sym same)
          (⊎_elim (λ (starts : entry ≡ shape.start). inl starts)
          (λ (is : IsCollected shape tellers before.clients (a + 1) entry).
          inr (collected_stays (a + 1) entry shape before tellers rests.told (step shape before nth client) goes is))
          (ok.entries a less))

      raised : (a : ℕ) → CollectsBy client a (entry_after a) → IsRaised a (entry_after a)
      raised a by =
          let found = found_word shape before client in
          let entry = entry_after a in
          let one : (a + 1) - 1 ≡ a = omega arith in
          let collects : runs_entry (a + 1) entry client.call ≡ true =
          subst (λ (call : Option (Now CallPoint Answer)). runs_entry (a + 1) entry call ≡ true) (sym by.runs)
          (eq-eqb (slice_index by.seen ((a + 1) - 1)) entry (ap (slice_index by.seen) one ∙ by.entry_is)) in
          inr (
            nth,
            (
              client_after shape client found,
              (
                get_set before.clients nth client (client_after shape client found) here,
                subst (λ (t : Teller).
                    tells_entry (a + 1) entry (tells_now shape t (client_after shape client found)) ≡ true)
                    (sym (put_here tellers nth (told_after shape client found (tellers nth))))
                    (word_tells (a + 1) entry shape client (tellers nth) found place at collects),
              ),
            ),
          )

      taken_entries : AreRaised shape later (step shape before nth client)
      taken_entries a less =
          ⊎_elim (stays a less) (raised a) (horizon_goes shape before rests.base nth client here a less place at)

      taken : RaisedOk shape (step shape before nth client) later
      taken =
          let found = found_word shape before client in
          let V = vector_of (memory shape before.words) in record {
            entries = taken_entries;
            each = put_each nth (client_after shape client found) (told_after shape client found (tellers nth))
                (both shape.workers nth (client_after shape client found) (told_after shape client found (tellers nth))
                (word_rises shape nth shape.start V found client (client_after shape client found)
                (step_sort shape before rests.base nth client here place at)
                (observer_ok shape before rests.moments nth client here)
                (its shape.workers nth client (tellers nth) was))
                (word_shows shape client (tellers nth) (rests.told nth client here) was.shows found));
          }

    asked : (call : Call) (may : MayAsk shape client call) (words : CallHolds call)
        → RaisedOk shape (ask shape before nth client call)
        (tells_next shape before (ask shape before nth client call) (Asks nth client call here may words) tellers)
    asked call may words = record {
      entries = same_entries (ask shape before nth client call) (Asks nth client call here may words) refl;
      each =
          put_each nth (client_ask shape client call) (told_asked shape client call (tellers nth))
          (both shape.workers nth (client_ask shape client call) (told_asked shape client call (tellers nth))
          (ask_rises shape nth client (client_ask shape client call)
          (asked_sort shape before rests.base nth client here call may)
          (its shape.workers nth client (tellers nth) was))
          (ask_shows shape client (tellers nth) (rests.told nth client here) was.shows call may));
    }

    abandoned : (idle : Rests client.call)
        → RaisedOk shape (abandon before nth client)
        (tells_next shape before (abandon before nth client) (Abandons nth client here idle) tellers)
    abandoned idle = record {
      entries = same_entries (abandon before nth client) (Abandons nth client here idle) refl;
      each =
          put_each nth (client_abandon client) (told_abandoned client (tellers nth))
          (both shape.workers nth (client_abandon client) (told_abandoned client (tellers nth))
          (plain_rises shape.workers nth client (client_abandon client)
          (abandon_plain shape client (rests_aside client.call idle)) (its shape.workers nth client (tellers nth) was))
          (leave_shows (tellers nth) client.txn was.shows));
    }

    stopped : RaisedOk shape (cut before nth client)
        (tells_next shape before (cut before nth client) (Cuts nth client here) tellers)
    stopped = record {
      entries = same_entries (cut before nth client) (Cuts nth client here) refl;
      each =
          everyone_put (λ k c. SnapsRise shape.workers k c (tellers k)) before.clients nth (client_cut client) ok.each
          record { rising = was.rising; shows = was.shows; last = was.last };
    }

pub raised_keeps : KeepsLaw
raised_keeps shape before _ (Takes nth client place here runs at) tellers rests ok =
    taken shape before tellers rests ok nth client here place runs at
raised_keeps shape before _ (Asks nth client call here may words) tellers rests ok =
    asked shape before tellers rests ok nth client here call may words
raised_keeps shape before _ (Abandons nth client here idle) tellers rests ok =
    abandoned shape before tellers rests ok nth client here idle
raised_keeps shape before _ (Cuts nth client here) tellers rests ok =
    stopped shape before tellers rests ok nth client here
