-- Each client of each store that comes about has its teller.
use Rattle.std.proofs.Common.{[], refl, subst, sym, ℕ, ◌+◌}
use Rattle.std.proofs.Common.{suc, zero}
use Rattle.std.specs.Prelude.{slice_set}
use Rattle.std.proofs.lemmas.Option.{same_Some}
use Rattle.si_model.specs.declared.log.Finish.{Finish}
use Rattle.nam_verbs.specs.declared.now.Now.{Now}
use Rattle.nam_catalog.specs.declared.shape.Shape.{Shape}
use Rattle.nam_calls.specs.declared.medic.MedicPoint.{MedicPoint}
use Rattle.nam_protocol.specs.CutClient.{client_treated}
use Rattle.nam_protocol.specs.Telling.{new_client}
use Rattle.nam_protocol.specs.declared.client.ClientState.{ClientState}
use Rattle.nam_store.proofs.Lists.{everyone_set, put_beside, put_here}
use Rattle.nam_store.proofs.ReachedLemmas.{reached_keeps}
use Rattle.nam_store.specs.Everyone.{Everyone, put}
use Rattle.nam_store.specs.Opening.{new_clients}
use Rattle.nam_store.specs.Store.{Abandons, Asks, Cuts, Store, StepsTo, Takes, found_word}
use Rattle.nam_tells.proofs.AskLemmas.{told_by_ask, told_by_leaving}
use Rattle.nam_tells.proofs.CutLemmas.{told_cut}
use Rattle.nam_tells.proofs.EventLemmas.{none_blank}
use Rattle.nam_tells.proofs.WordLemmas.{told_by_word}
use Rattle.nam_tells.specs.Steps.{no_tells, tells_next}
use Rattle.nam_tells.specs.Teller.{IsTold, Teller, new_teller}
use Rattle.nam_tells.specs.TellsLaw.{StepsLaw, StoresLaw}

-- 1. One client

pub told_new : (worker start : ℕ) → IsTold (new_client worker start) new_teller
told_new worker start = record {
  opens = tt;
  lists = record { events = refl; reads = refl; locks = refl; writes = refl; snaps = refl; owned = tt };
  number = refl;
  opened = none_blank [];
}

told_treated : (client : ClientState) (teller : Teller) (medic : Now MedicPoint Finish) → IsTold client teller
    → IsTold (client_treated client medic) teller
told_treated client teller medic told =
    record { opens = told.opens; lists = told.lists; number = told.number; opened = told.opened }

pub steps_law : StepsLaw
steps_law shape = record {
  new = told_new;
  word = λ client teller found told. told_by_word shape client teller found told;
  asked = λ client teller asked may told. told_by_ask shape client teller told may.rests asked may.fits;
  abandoned = λ client teller rests told. told_by_leaving client teller told rests;
  cut = told_cut;
  treated = told_treated;
}

-- 2. The clients of a store

abbrev pub AllTold : Store → (ℕ → Teller) → Type 0
AllTold store tellers = Everyone (λ nth client. IsTold client (tellers nth)) store.clients

new_told : (start worker n : ℕ) → Everyone (λ nth client. IsTold client new_teller) (new_clients start worker n)
new_told start worker zero nth client e = absurd (cc)
new_told start worker (suc n) zero client e =
    subst (λ (c : ClientState). IsTold c new_teller) (same_Some (new_client worker start) client e)
    (told_new worker start)
new_told start worker (suc n) (suc nth) client e = new_told start (worker + 1) n nth client e

-- one client is another now, and has another teller
module _ (store : Store) (tellers : ℕ → Teller) (all : AllTold store tellers) (nth : ℕ) where
  put_told : (client : ClientState) (teller : Teller) → IsTold client teller
      → Everyone (λ other c. IsTold c (put tellers nth teller other)) (slice_set store.clients nth client)
  put_told client teller told =
      everyone_set (λ other c. IsTold c (tellers other)) (λ other c. IsTold c (put tellers nth teller other))
      store.clients nth client all
      (λ other c apart e is. subst (λ (t : Teller). IsTold c t) (sym (put_beside tellers nth teller other apart)) is)
      (subst (λ (t : Teller). IsTold client t) (sym (put_here tellers nth teller)) told)

pub stores_step : (shape : Shape) (before after : Store) (tellers : ℕ → Teller) (goes : StepsTo shape before after)
    → AllTold before tellers → AllTold after (tells_next shape before after goes tellers)
stores_step shape before _ tellers (Takes nth client place here runs at) all =
    put_told before tellers all nth _ _
    (told_by_word shape client (tellers nth) (found_word shape before client) (all nth client here))
stores_step shape before _ tellers (Asks nth client asked here may words) all =
    put_told before tellers all nth _ _
    (told_by_ask shape client (tellers nth) (all nth client here) may.rests asked may.fits)
stores_step shape before _ tellers (Abandons nth client here rests) all =
    put_told before tellers all nth _ _ (told_by_leaving client (tellers nth) (all nth client here) rests)
stores_step shape before _ tellers (Cuts nth client here) all =
    everyone_set (λ other c. IsTold c (tellers other)) (λ other c. IsTold c (tellers other)) before.clients nth _ all
    (λ other c apart e is. is) (told_cut client (tellers nth) (all nth client here))

pub stores_law : StoresLaw
stores_law shape rows =
    reached_keeps shape rows no_tells (tells_next shape) AllTold (new_told shape.start 1 shape.workers)
    (λ before after tellers goes all. stores_step shape before after tellers goes all)
