-- A session between the answers of its calls: what is kept whenever its driver's call waits or is answered holds when
-- the session rests again.
use Rattle.std.proofs.Common.{◌≡◌, ℕ, zero, suc, List, ◌++◌, refl, sym, subst, Option, Some, None}
use Rattle.std.specs.Prelude.{slice_get}
use Rattle.si_model.specs.declared.log.Finish.{Finish}
use Rattle.si_model.specs.Tells.{Tell}
use Rattle.si_model.specs.View.{View}
use Rattle.si_model.specs.Setting.{Setting}
use Rattle.nam_verbs.specs.declared.now.Now.{Now}
use Rattle.nam_verbs.specs.declared.now.Now.TheVariants.{At, Over}
use Rattle.nam_catalog.specs.declared.shape.Shape.{Shape}
use Rattle.nam_calls.specs.declared.medic.MedicPoint.{MedicPoint}
use Rattle.nam_calls.specs.Medic.{medic_after}
use Rattle.nam_protocol.specs.declared.client.Call.{Call}
use Rattle.nam_protocol.specs.declared.client.Answer.{Answer}
use Rattle.nam_protocol.specs.declared.client.ClientState.{ClientState}
use Rattle.nam_protocol.specs.declared.session.Job.{Job}
use Rattle.nam_protocol.specs.declared.session.SessionState.{SessionState}
use Rattle.nam_protocol.specs.Client.{client_ask, client_after}
use Rattle.nam_protocol.specs.Driver.{driver_next}
use Rattle.nam_protocol.specs.Session.{answer_now, calls_at_most, taken, treated, settle, call_taken, after_by}
use Rattle.nam_protocol.specs.Session.{session_after}
use Rattle.nam_follows.specs.Tells.{AnswerTells}
use Rattle.nam_follows.specs.Follows.{IsFollowing, FullsAre}
use Rattle.nam_follows.proofs.AnswerLemmas.{take_follows}

-- 1. Two claims: one before a call is asked, and one where the session rests

module _ (shape : Shape) (Asking Rests : SessionState → Type 0) where
  -- the client has gone on so: its call waits for a word, or was answered
  pub record GoesOn (session : SessionState) (client : ClientState) : Type 0 where
    pub waits : answer_now client.call ≡ None → Rests (record session { client = client })
    pub answered : (end : Answer) → answer_now client.call ≡ Some end → Asking (taken session client end)

  -- each call that the driver asks next
  abbrev pub Asked : Type 0
  Asked = (session : SessionState) (call : Call) → Asking session
      → driver_next session.jobs session.driver ≡ Some call → GoesOn session (client_ask shape session.client call)

  module _ (rests : (session : SessionState) → Asking session → Rests session) (asked : Asked) where
    by_answer : (calls : ℕ) (session : SessionState) (client : ClientState) (end : Option Answer)
        → ((s : SessionState) → Asking s → Rests (settle shape calls s)) → answer_now client.call ≡ end
        → GoesOn session client
        → Rests (elim end as (λ x. SessionState) [
          | None ↦ record session { client = client }
          | Some a ↦ settle shape calls (taken session client a)
        ])
    by_answer calls session client None later is goes = goes.waits is
    by_answer calls session client (Some a) later is goes = later (taken session client a) (goes.answered a is)

    by_call : (calls : ℕ) (session : SessionState) (call : Option Call)
        → ((s : SessionState) → Asking s → Rests (settle shape calls s)) → Asking session
        → driver_next session.jobs session.driver ≡ call
        → Rests (elim call as (λ x. SessionState) [
          | None ↦ session
          | Some c ↦ elim (answer_now (client_ask shape session.client c).call) as (λ x. SessionState) [
            | None ↦ record session { client = client_ask shape session.client c }
            | Some a ↦ settle shape calls (taken session (client_ask shape session.client c) a)
          ]
        ])
    by_call calls session None later h is = rests session h
    by_call calls session (Some c) later h is =
        let client = client_ask shape session.client c in
        by_answer calls session client (answer_now client.call) later refl (asked session c h is)

    -- however many calls are asked
    pub settle_rests : (calls : ℕ) (session : SessionState) → Asking session → Rests (settle shape calls session)
    unfolding settle
    settle_rests zero session h = rests session h
    settle_rests (suc calls) session h =
        by_call calls session (driver_next session.jobs session.driver) (settle_rests calls) h refl

    -- the client takes a word
    pub word_rests : (session : SessionState) (found : ℕ) → GoesOn session (client_after shape session.client found)
        → Rests (call_taken shape session found)
    word_rests session found goes =
        let client = client_after shape session.client found in
        by_answer (calls_at_most session.jobs) session client (answer_now client.call)
        (settle_rests (calls_at_most session.jobs)) refl goes

    -- what the session's word is, by its medic
    abbrev pub ByMedic : SessionState → ℕ → Option (Now MedicPoint Finish) → Type 0
    ByMedic session found None = GoesOn session (client_after shape session.client found)
    ByMedic session found (Some (At place)) =
        Rests (treated session (medic_after shape session.client.worker place found))
    ByMedic session found (Some (Over how)) = Rests session

    by_medic : (session : SessionState) (found : ℕ) (medic : Option (Now MedicPoint Finish))
        → ByMedic session found medic → Rests (after_by shape session found medic)
    by_medic session found None h = word_rests session found h
    by_medic session found (Some (At place)) h = h
    by_medic session found (Some (Over how)) h = h

    pub session_rests : (session : SessionState) (found : ℕ) → ByMedic session found session.client.medic
        → Rests (session_after shape session found)
    session_rests session found h = by_medic session found session.client.medic h

-- 2. A call's answer is taken: the session goes on to follow the policy

pub taken_follows : (s : Setting) (v : View) (j : ℕ) (session : SessionState) (client : ClientState) (job : Job)
    (front more ts : List Tell) (end : Answer) → slice_get session.jobs session.driver.job ≡ Some job
    → (told : IsFollowing s v j session.jobs session.driver front) → more ≡ front ++ ts
    → AnswerTells job session.driver.nth front session.driver.place end ts
    → FullsAre s v j told.walk.parts ts
    → let next = taken session client end in IsFollowing s v j next.jobs next.driver more
taken_follows s v j session client job front more ts end here told all tells fulls =
    let next = taken session client end in
    subst (IsFollowing s v j next.jobs next.driver) (sym all)
    (take_follows s v j session.jobs session.driver job front ts end here told tells fulls)
