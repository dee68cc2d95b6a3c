-- The log of a session's client only grows, however many calls the session asks.
use Rattle.std.proofs.Common.{◌≡◌, ℕ, zero, suc, Option, Some, None, refl}
use Rattle.std.specs.Prelude.{◌||◌}
use Rattle.si_model.specs.declared.log.Finish.{Finish}
use Rattle.si_model.specs.declared.log.Log.{Log}
use Rattle.nam_verbs.specs.declared.now.Now.{Now}
use Rattle.nam_verbs.specs.declared.now.Now.TheVariants.{At, Over}
use Rattle.nam_catalog.specs.declared.shape.Shape.{Shape}
use Rattle.nam_calls.specs.declared.medic.MedicPoint.{MedicPoint}
use Rattle.nam_calls.specs.Medic.{medic_begin}
use Rattle.nam_calls.proofs.FallsTests.{either}
use Rattle.nam_protocol.specs.declared.client.Call.{Call}
use Rattle.nam_protocol.specs.declared.client.Answer.{Answer}
use Rattle.nam_protocol.specs.declared.client.ClientState.{ClientState}
use Rattle.nam_protocol.specs.declared.session.SessionState.{SessionState}
use Rattle.nam_protocol.specs.Client.{client_ask, client_after}
use Rattle.nam_protocol.specs.Driver.{driver_next}
use Rattle.nam_protocol.specs.Session.{answer_now, calls_at_most, taken, settle, call_taken, after_by, treated}
use Rattle.nam_protocol.specs.Commit.{has_intents}
use Rattle.nam_protocol.specs.Session.{jobs_over, stopped, cut_in, session_cut}
use Rattle.nam_protocol.specs.Grows.{Grows, SessionLogsGrow}
use Rattle.nam_protocol.proofs.Grows.{grows_same, grows_trans, ask_grows, word_grows}

module _ (shape : Shape) where
  abbrev Kept : Log → SessionState → Type 0
  Kept log session = Grows log session.client.log

  -- what stands after a call that was asked, and what a call leaves
  asked_grows : (calls : ℕ) (session : SessionState) (client : ClientState) (answer : Option Answer)
      → ((s : SessionState) → Kept s.client.log (settle shape calls s)) → Kept client.log (elim answer [
        | None ↦ record session { client = client }
        | Some answer ↦ settle shape calls (taken session client answer)
      ])
  asked_grows calls session client None later = grows_same client.log
  asked_grows calls session client (Some answer) later = later (taken session client answer)

  next_grows : (calls : ℕ) (session : SessionState) (call : Option Call)
      → ((s : SessionState) → Kept s.client.log (settle shape calls s)) → Kept session.client.log (elim call [
        | None ↦ session
        | Some call ↦ elim (answer_now (client_ask shape session.client call).call) [
          | None ↦ record session { client = client_ask shape session.client call }
          | Some answer ↦ settle shape calls (taken session (client_ask shape session.client call) answer)
        ]
      ])
  next_grows calls session None later = grows_same session.client.log
  next_grows calls session (Some call) later =
      let client = client_ask shape session.client call in
      grows_trans session.client.log client.log _ (ask_grows shape session.client call)
      (asked_grows calls session client (answer_now client.call) later)

  settle_grows : (calls : ℕ) (session : SessionState) → Kept session.client.log (settle shape calls session)
  unfolding settle
  settle_grows zero session = grows_same session.client.log
  settle_grows (suc calls) session =
      next_grows calls session (driver_next session.jobs session.driver) (settle_grows calls)

  call_taken_grows : (session : SessionState) (found : ℕ)
      → Kept session.client.log (call_taken shape session found)
  call_taken_grows session found =
      let client = client_after shape session.client found in
      grows_trans session.client.log client.log _ (word_grows shape session.client found)
      (asked_grows (calls_at_most session.jobs) session client (answer_now client.call)
      (settle_grows (calls_at_most session.jobs)))

  session_word_grows : (session : SessionState) (found : ℕ) (medic : Option (Now MedicPoint Finish))
      → Kept session.client.log (after_by shape session found medic)
  session_word_grows session found None = call_taken_grows session found
  session_word_grows session found (Some (At place)) = grows_same session.client.log
  session_word_grows session found (Some (Over how)) = grows_same session.client.log

  session_cut_is : (session : SessionState)
      → (session_cut shape.form session).client.log ≡ session.client.log
  session_cut_is session =
      either (λ (s : SessionState). s.client.log ≡ session.client.log) (jobs_over session || session.client.cut) session
      (cut_in shape.form session) refl
      (either (λ (s : SessionState). s.client.log ≡ session.client.log) (has_intents shape.form)
      (treated (stopped session) (At medic_begin)) (stopped session) refl refl)

  pub session_logs_grow : SessionLogsGrow shape
  session_logs_grow = record {
    word = λ session found. session_word_grows session found session.client.medic;
    cut = session_cut_is;
  }
