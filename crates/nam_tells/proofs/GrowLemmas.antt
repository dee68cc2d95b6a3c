-- What was told stays, and each step of a store tells at most one event beside.
use Rattle.std.proofs.Common.{None, Option, Some, [], ap, append-nil, arith, refl, subst, sym, ℕ, ◌∙◌, ◌∷◌}
use Rattle.std.proofs.Common.{◌≡◌, ◌⊎◌, ⊎_elim}
use Rattle.si_model.specs.declared.log.Outcome.TheVariants as outcome
use Rattle.nam_verbs.specs.declared.now.Now.{Now}
use Rattle.nam_catalog.specs.declared.shape.Shape.{Shape}
use Rattle.nam_protocol.specs.Client.{client_after, client_ask}
use Rattle.nam_protocol.specs.Own.{MayAsk}
use Rattle.nam_protocol.specs.declared.client.Answer.{Answer}
use Rattle.nam_protocol.specs.declared.client.Call.{Call}
use Rattle.nam_protocol.specs.declared.client.CallPoint.{CallPoint}
use Rattle.nam_protocol.specs.declared.client.ClientState.{ClientState}
use Rattle.nam_protocol.specs.declared.client.Open.{Open}
use Rattle.nam_store.proofs.Lists.{put_cases}
use Rattle.nam_store.specs.Everyone.{put}
use Rattle.nam_store.specs.Store.{Abandons, Asks, Cuts, Takes, found_word}
use Rattle.nam_tells.proofs.EndWords.{ask_law, idle_law, word_law}
use Rattle.nam_tells.specs.EndsLaw.{AttemptGoes, Grows, GrowsLaw, TellsOne}
use Rattle.nam_tells.specs.Steps.{asking, call_ops, told_after, told_asked, told_left}
use Rattle.nam_tells.specs.Teller.{IsTold, Teller, attempt_tell}

-- 1. One teller

no_more : (before now : Teller) → now.front ≡ before.front → Grows before now
no_more before now same =
    record { more = []; few = omega arith; front = same ∙ sym (append-nil before.front) }

goes_grow : (before now : Teller) (attempt : Open) (opened : Option Open) (call : Option (Now CallPoint Answer))
    → AttemptGoes before now attempt opened call → Grows before now
goes_grow before now attempt (Some later) call stays = no_more before now stays.front
goes_grow before now attempt None call over =
    record { more = over.tell ∷ []; few = omega arith; front = over.front }

idle_grow : (before now : Teller) → (now ≡ before) ⊎ TellsOne before now → Grows before now
idle_grow before now idle =
    ⊎_elim (λ (same : now ≡ before). no_more before now (ap (λ (t : Teller). t.front) same))
    (λ (one : TellsOne before now). record { more = one.tell ∷ []; few = omega arith; front = one.front }) idle

-- operations that are asked are no event
unasked : (before now : Teller) (asked : Call) → Grows (asking before (call_ops asked)) now → Grows before now
unasked before now asked grows = record { more = grows.more; few = grows.few; front = grows.front }

-- 2. One client

module _ (shape : Shape) (client : ClientState) (teller : Teller) (told : IsTold client teller) where
  word_grows : (found : ℕ) → Grows teller (told_after shape client found teller)
  word_grows found = by client.txn refl
    where
      by : (opened : Option Open) → client.txn ≡ opened → Grows teller (told_after shape client found teller)
      by (Some attempt) e =
          let after = client_after shape client found in
          goes_grow teller (told_after shape client found teller) attempt after.txn after.call
          (word_law shape client teller attempt found told e)
      by None e =
          idle_grow teller (told_after shape client found teller) ((idle_law shape client teller told e).0 found)

  ask_grows : (asked : Call) → MayAsk shape client asked → Grows teller (told_asked shape client asked teller)
  ask_grows asked may = by client.txn refl
    where
      by : (opened : Option Open) → client.txn ≡ opened → Grows teller (told_asked shape client asked teller)
      by (Some attempt) e =
          let after = client_ask shape client asked in
          let now = told_asked shape client asked teller in
          unasked teller now asked
          (goes_grow (asking teller (call_ops asked)) now attempt after.txn after.call
          (ask_law shape client teller attempt asked may e))
      by None e =
          no_more teller (told_asked shape client asked teller)
          (ap (λ (t : Teller). t.front) ((idle_law shape client teller told e).1 asked may))

leave_grows : (teller : Teller) (opened : Option Open) → Grows teller (told_left opened teller)
leave_grows teller None = no_more teller teller refl
leave_grows teller (Some attempt) = record {
  more = attempt_tell teller attempt outcome.Left [] ∷ [];
  few = omega arith;
  front = refl;
}

-- 3. All of a store

module _ (tellers : ℕ → Teller) (nth : ℕ) (now : Teller) (grows : Grows (tellers nth) now) where
  put_grows : (other : ℕ) → Grows (tellers other) (put tellers nth now other)
  put_grows other =
      put_cases (λ (t : Teller). Grows (tellers other) t) tellers nth now other
      (λ same. subst (λ (n : ℕ). Grows (tellers n) now) (sym same) grows)
      (λ apart. no_more (tellers other) (tellers other) refl)

pub grows_law : GrowsLaw
grows_law shape before _ (Takes nth client place here runs at) tellers all =
    put_grows tellers nth _
    (word_grows shape client (tellers nth) (all nth client here) (found_word shape before client))
grows_law shape before _ (Asks nth client asked here may words) tellers all =
    put_grows tellers nth _ (ask_grows shape client (tellers nth) (all nth client here) asked may)
grows_law shape before _ (Abandons nth client here rests) tellers all =
    put_grows tellers nth _ (leave_grows (tellers nth) client.txn)
grows_law shape before _ (Cuts nth client here) tellers all = λ other. no_more (tellers other) (tellers other) refl
