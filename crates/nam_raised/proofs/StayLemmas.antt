-- A collection that is told stays told: what was told stays, and one that runs goes on or is told.
use Rattle.std.proofs.Common.{List, None, Option, Some, [], ap, false, inl, inr, refl, subst, sym, true, ℕ}
use Rattle.std.proofs.Common.{◌-◌, ◌==◌, ◌∙◌, ◌∷◌, ◌≡◌, ◌≢◌, ⊎_elim, ◌||◌}
use Rattle.std.specs.Prelude.{slice_get, slice_index, slice_set}
use Rattle.std.proofs.Math.Bool.{or-false, or-true}
use Rattle.std.proofs.lemmas.Bool.{cases_eq}
use Rattle.std.proofs.lemmas.Option.{same_Some}
use Rattle.nam_verbs.specs.declared.now.Now.{Now}
use Rattle.nam_verbs.specs.declared.now.Now.TheVariants.{At, Over}
use Rattle.nam_catalog.specs.declared.shape.Shape.{Shape}
use Rattle.nam_layout.specs.Place.{cells_of}
use Rattle.nam_calls.specs.Horizon.{collect_after}
use Rattle.nam_calls.specs.declared.horizon.CollectPoint.{CollectPoint}
use Rattle.nam_protocol.specs.Client.{client_abandon, client_after, client_ask, on_collect}
use Rattle.nam_protocol.specs.CutClient.{client_cut}
use Rattle.nam_protocol.specs.Own.{Rests}
use Rattle.nam_protocol.specs.Telling.{go}
use Rattle.nam_protocol.specs.declared.client.Answer.{Answer}
use Rattle.nam_protocol.specs.declared.client.CallPoint.{CallPoint}
use Rattle.nam_protocol.specs.declared.client.CallPoint.TheVariants.{Beginning, Collecting, InTxn, Moving, Scanning}
use Rattle.nam_protocol.specs.declared.client.CallPoint.TheVariants.{Seeking, Snapping}
use Rattle.nam_protocol.specs.declared.client.ClientState.{ClientState}
use Rattle.nam_store.specs.Everyone.{put}
use Rattle.nam_store.specs.Store.{Abandons, Asks, Cuts, StepsTo, Store, Takes, client_at, found_word}
use Rattle.nam_store.proofs.Lists.{get_beside, get_set, put_beside, put_here}
use Rattle.nam_tells.specs.EndsLaw.{Grows}
use Rattle.nam_tells.specs.Steps.{tells_next, told_abandoned, told_after, told_asked, told_collect}
use Rattle.nam_tells.specs.Teller.{Teller, bare_tell}
use Rattle.nam_tells.specs.TellsLaw.{tells_now}
use Rattle.nam_tells.proofs.GrowLemmas.{grows_law}
use Rattle.nam_tells.proofs.StoreLemmas.{AllTold}
use Rattle.nam_raised.specs.Raised.{IsCollected, tells_entry}
use Rattle.nam_raised.proofs.EntryLemmas.{call_told, front_told, runs_entry, tells_more, told_cases}
use Rattle.si_model.specs.declared.log.Event.TheVariants as event

module _ (worker entry : ℕ) where
  -- 1. A collection runs

  -- its word is taken: it runs on, or has ended, and is told
  module _ (shape : Shape) (client : ClientState) (teller : Teller) (bucket prefix : ℕ) (seen : List ℕ)
      (is : (slice_index seen (worker - 1) == entry) ≡ true) where
    stepped_told : (now : Now CollectPoint (List ℕ))
        → tells_entry worker entry (tells_now shape (told_collect teller bucket prefix seen now)
        (on_collect shape client bucket prefix seen now)) ≡ true
    stepped_told (At place) = call_told worker entry shape teller (go client (Collecting bucket prefix seen place)) is
    stepped_told (Over known) =
        let t = bare_tell (event.Collected bucket prefix seen false) seen in
        front_told worker entry shape (told_collect teller bucket prefix seen (Over known))
        (on_collect shape client bucket prefix seen (Over known))
        (tells_more worker entry teller.front (t ∷ [])
        ∙ ap (λ more. tells_entry worker entry teller.front || more)
        (or-false (slice_index seen (worker - 1) == entry) ∙ is)
        ∙ or-true (tells_entry worker entry teller.front))

  module _ (shape : Shape) (client : ClientState) (teller : Teller) (found : ℕ) where
    abbrev ToldAfter : ClientState → Type 0
    ToldAfter c =
        tells_entry worker entry (tells_now shape (told_after shape c found teller) (client_after shape c found)) ≡ true

    at_place : (place : CallPoint) → runs_entry worker entry (Some (At place)) ≡ true → ToldAfter (go client place)
    at_place (Collecting bucket prefix seen at) is =
        stepped_told shape (go client (Collecting bucket prefix seen at)) teller bucket prefix seen is
        (collect_after (cells_of shape bucket) shape.workers seen at found)
    at_place (Beginning txn nth at) is = absurd (cc)
    at_place (InTxn at) is = absurd (cc)
    at_place (Scanning table low high at) is = absurd (cc)
    at_place (Seeking table key passed) is = absurd (cc)
    at_place (Moving table key position at) is = absurd (cc)
    at_place (Snapping bucket at) is = absurd (cc)

    pub word_tells : (place : CallPoint) → client.call ≡ Some (At place) → runs_entry worker entry client.call ≡ true
        → ToldAfter client
    word_tells place at is =
        let same : go client place ≡ client =
        ap (λ (call : Option (Now CallPoint Answer)). record client { call = call }) (sym at) in
        subst ToldAfter same
        (at_place place
        (subst (λ (call : Option (Now CallPoint Answer)). runs_entry worker entry call ≡ true) at is))

  -- where no call runs, none collects
  pub rests_not : (call : Option (Now CallPoint Answer)) → Rests call → runs_entry worker entry call ≡ true → ⊥
  rests_not None rests is = absurd (cc)
  rests_not (Some (Over answer)) rests is = absurd (cc)
  rests_not (Some (At place)) rests is = rests

  -- 2. One client

  pub told_stays : (shape : Shape) (before now : Teller) (client after : ClientState) → Grows before now
      → (runs_entry worker entry client.call ≡ true → tells_entry worker entry (tells_now shape now after) ≡ true)
      → tells_entry worker entry (tells_now shape before client) ≡ true
      → tells_entry worker entry (tells_now shape now after) ≡ true
  told_stays shape before now client after grows runs is =
      ⊎_elim (λ (front : tells_entry worker entry before.front ≡ true).
      front_told worker entry shape now after
      (ap (tells_entry worker entry) grows.front ∙ tells_more worker entry before.front grows.more
      ∙ ap (λ first. first || tells_entry worker entry grows.more) front))
      runs (told_cases worker entry shape before client is)

  -- 3. A store

  module _ (shape : Shape) (clients : List ClientState) (nth : ℕ) (client after : ClientState)
      (here : slice_get clients nth ≡ Some client) (tellers later : ℕ → Teller)
      (beside : (other : ℕ) → other ≢ nth → later other ≡ tellers other)
      (stays : tells_entry worker entry (tells_now shape (tellers nth) client) ≡ true
      → tells_entry worker entry (tells_now shape (later nth) after) ≡ true) where
    pub someone_tells : IsCollected shape tellers clients worker entry
        → IsCollected shape later (slice_set clients nth after) worker entry
    someone_tells (other, (one, (there, is))) = elim (cases_eq other nth) [
      | inl same ↦
          let ones : one ≡ client = same_Some one client (sym there ∙ ap (slice_get clients) same ∙ here) in (
            nth,
            (
              after,
              (
                get_set clients nth client after here,
                stays
                    (subst (λ (u : ℕ × ClientState).
                    tells_entry worker entry (tells_now shape (tellers u.0) u.1) ≡ true)
                    (λ k. (same k, ones k)) is),
              ),
            ),
          )
      | inr apart ↦ (
        other,
        (
          one,
          (
            get_beside clients nth other after apart ∙ there,
            subst (λ (t : Teller). tells_entry worker entry (tells_now shape t one) ≡ true) (sym (beside other apart))
                is,
          ),
        ),
      )
    ]

  -- the client has another teller
  module _ (shape : Shape) (store : Store) (tellers : ℕ → Teller) (nth : ℕ) (client : ClientState)
      (here : client_at store nth ≡ Some client) (now : Teller) (after : ClientState) where
    put_tells : Grows (tellers nth) (put tellers nth now nth)
        → (runs_entry worker entry client.call ≡ true → tells_entry worker entry (tells_now shape now after) ≡ true)
        → IsCollected shape tellers store.clients worker entry
        → IsCollected shape (put tellers nth now) (slice_set store.clients nth after) worker entry
    put_tells grows runs =
        someone_tells shape store.clients nth client after here tellers (put tellers nth now)
        (λ other apart. put_beside tellers nth now other apart)
        (told_stays shape (tellers nth) (put tellers nth now nth) client after grows
        (λ collects. subst (λ (t : Teller). tells_entry worker entry (tells_now shape t after) ≡ true)
        (sym (put_here tellers nth now)) (runs collects)))

  -- each step keeps that a collection is told
  module _ (shape : Shape) (before : Store) (tellers : ℕ → Teller) (told : AllTold before tellers) where
    pub collected_stays : (after : Store) (goes : StepsTo shape before after)
        → IsCollected shape tellers before.clients worker entry
        → IsCollected shape (tells_next shape before after goes tellers) after.clients worker entry
    collected_stays _ (Takes nth client place here runs at) =
        let found = found_word shape before client in
        put_tells shape before tellers nth client here (told_after shape client found (tellers nth))
        (client_after shape client found)
        (grows_law shape before _ (Takes nth client place here runs at) tellers told nth)
        (λ collects. word_tells shape client (tellers nth) found place at collects)
    collected_stays _ (Asks nth client asked here may words) =
        put_tells shape before tellers nth client here (told_asked shape client asked (tellers nth))
        (client_ask shape client asked)
        (grows_law shape before _ (Asks nth client asked here may words) tellers told nth)
        (λ collects. absurd (rests_not client.call may.rests collects))
    collected_stays _ (Abandons nth client here rests) =
        put_tells shape before tellers nth client here (told_abandoned client (tellers nth)) (client_abandon client)
        (grows_law shape before _ (Abandons nth client here rests) tellers told nth)
        (λ collects. absurd (rests_not client.call rests collects))
    collected_stays _ (Cuts nth client here) =
        someone_tells shape before.clients nth client (client_cut client) here tellers tellers (λ other apart. refl)
        (told_stays shape (tellers nth) (tellers nth) client (client_cut client)
        (grows_law shape before _ (Cuts nth client here) tellers told nth)
        (λ collects. call_told worker entry shape (tellers nth) (client_cut client) collects))
