-- The world of a script, in which nothing was done yet.
use Rattle.std.proofs.Common.{◌≡◌, ◌≤◌, ◌+◌, ℕ, List, [], ◌∷◌, ◌++◌, length, map, None}
use Rattle.std.proofs.Common.{refl, sym, ap, subst, ◌∙◌, arith, append_assoc}
use Rattle.std.specs.Prelude.{All}
use Rattle.std.specs.List.{AllByRecursion}
use Rattle.std.proofs.lemmas.List.{length-map, length_push, map-append}
use Rattle.std.proofs.lemmas.List.Elements.{All-from_recursion}
use Rattle.si_model.specs.declared.row.Row.{Row}
use Rattle.nam_catalog.specs.declared.shape.Table.{Table}
use Rattle.nam_catalog.specs.Tables.{widths_of}
use Rattle.nam_catalog.specs.Greatest.{greatest_number}
use Rattle.nam_catalog.proofs.FitsLemmas.{fits_limits}
use Rattle.nam_calls.specs.Fits.{IsOf}
use Rattle.nam_protocol.specs.declared.client.ClientState.{ClientState}
use Rattle.nam_protocol.specs.declared.session.Job.{Job}
use Rattle.nam_protocol.specs.declared.session.SessionState.{SessionState}
use Rattle.nam_protocol.specs.Driver.{new_driver}
use Rattle.nam_protocol.specs.Schedule.{all_jobs}
use Rattle.nam_protocol.specs.Session.{new_session}
use Rattle.nam_protocol.specs.Telling.{new_client}
use Rattle.nam_protocol.specs.World.{new_sessions}
use Rattle.nam_script.specs.declared.script.Script.{Script}
use Rattle.nam_script.specs.Limits.{IsScript, RowFits, RowNumbersFit}
use Rattle.nam_scenario.specs.Scenario.{scenario_of}
use Rattle.nam_client.specs.declared.registers.Registers.{Registers}
use Rattle.nam_client.specs.Client.{CanServe}
use Rattle.nam_client.specs.Fits.{IsClientOf}
use Rattle.nam_client.specs.Registers.{client_of}
use Rattle.nam_worker.specs.Session.{IsNewSession, SessionParts, session_of}
use Rattle.nam_core.specs.Opening.{FitsRow}
use Rattle.nam_core.specs.World.{Opened, ShapedWorld}
use Rattle.nam_simulation.specs.Simulation.{AreJobsOf, IsOpened}

module _ (script : Script) (is : IsScript script) where
  pub can_serve : (worker : ℕ) → IsOf script.shape.workers worker → CanServe script.shape worker script.shape.start
  can_serve worker of = record {
    limits = fits_limits script.shape is.shape;
    worker_is = of;
    start_is = (fits_limits script.shape is.shape).start;
  }

  -- the session of a new client, which has done nothing yet
  pub is_new : (worker : ℕ) → IsOf script.shape.workers worker → (client : Registers) → IsClientOf script.shape client
      → client_of client ≡ new_client worker script.shape.start → (jobs : List Job) → AreJobsOf script jobs
      → IsNewSession script.shape record {
        client = client;
        driver = new_driver script.policy;
        jobs = jobs;
        ready = None;
        medic = None;
      }
  is_new worker of client of_client client_is jobs are =
      let worker_is = ap (λ (c : ClientState). c.worker) client_is in
      let start_is = ap (λ (c : ClientState). c.start) client_is in
      record {
        of = of_client;
        client =
            client_is ∙ ap (λ w. new_client w script.shape.start) (sym worker_is)
            ∙ ap (λ s. new_client client.worker s) (sym start_is);
        driver = refl;
        medic = refl;
        ready = refl;
        serves = record {
          worker_is = subst (IsOf script.shape.workers) (sym worker_is) of;
          start_is =
              subst (λ s. s ≤ greatest_number script.shape.form) (sym start_is)
              (fits_limits script.shape is.shape).start;
          jobs_fit = are.fit;
          tries = is.tries.0;
        };
        jobs = are.are;
        small = are.small;
      }

  -- one session more
  pub session_pushed : (items more : List SessionParts) (session : SessionParts) (jobs : List Job)
      (rest : List (List Job)) (all : List SessionState) → more ≡ items ++ session ∷ []
      → session_of session
      ≡ new_session script.shape (new_client (length items + 1) script.shape.start) jobs script.policy
      → map session_of items ++ new_sessions script.shape script.policy (length items + 1) (jobs ∷ rest) ≡ all
      → map session_of more ++ new_sessions script.shape script.policy (length more + 1) rest ≡ all
  session_pushed items more session jobs rest all more_is session_is so_far =
      let next = new_sessions script.shape script.policy (length items + 1 + 1) rest in
      ap (λ ss. map session_of ss ++ new_sessions script.shape script.policy (length ss + 1) rest) more_is
      ∙ ap (λ n. map session_of (items ++ session ∷ []) ++ new_sessions script.shape script.policy (n + 1) rest)
      (length_push items session)
      ∙ ap (λ ss. ss ++ next) (map-append session_of items (session ∷ []))
      ∙ append_assoc (map session_of items) (session_of session ∷ []) next
      ∙ ap (λ (s : SessionState). map session_of items ++ s ∷ next) session_is ∙ so_far

  rows_fit : (rows : List Row) → AllByRecursion (RowFits (widths_of script.shape.tables)) rows
      → AllByRecursion RowNumbersFit rows → AllByRecursion (FitsRow script.shape) rows
  rows_fit [] fit numbers = tt
  rows_fit (row ∷ rows) fit numbers =
      let key = numbers.0.0 in
      let number = length-map script.shape.tables (λ (t : Table). t.width) in
      let table = fit.0.0.0 in (
        record { of = record { table_is = omega arith; wide = fit.0.1 }; key = omega arith },
        rows_fit rows fit.1 numbers.1,
      )

  pub all_rows_fit : All (FitsRow script.shape) script.rows
  all_rows_fit = All-from_recursion (FitsRow script.shape) script.rows
      (rows_fit script.rows is.rows.fit is.rows.numbers)

  pub is_opened : (sessions : List SessionState) (world : ShapedWorld)
      → sessions ≡ new_sessions script.shape script.policy 1 (all_jobs script.shape.workers (scenario_of script).txns)
      → Opened script.shape script.rows sessions world → IsOpened script world
  is_opened sessions world same made = made.made_is ∙ rw same refl
