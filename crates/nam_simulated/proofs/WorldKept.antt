-- Each session of a world of a scenario is one that occurs, and so what is left of the world fits.
use Rattle.std.proofs.Common.{◌≡◌, ℕ, zero, suc, ◌+◌, ◌-◌, ◌≤◌, List, [], ◌∷◌, map, length, refl, ap, ◌∙◌}
use Rattle.std.proofs.Common.{arith, Option, Some, None}
use Rattle.std.specs.Prelude.{◌==◌, slice_set}
use Rattle.std.specs.List.{AllByRecursion}
use Rattle.std.proofs.lemmas.List.{length-set, length-map}
use Rattle.si_model.specs.declared.log.Log.{Log}
use Rattle.si_model.specs.declared.op.Policy.{Policy}
use Rattle.si_model.specs.Tells.{CountsFit}
use Rattle.nam_verbs.specs.declared.verb.Verb.{Verb}
use Rattle.nam_verbs.specs.Verb.{found_by, after_verb}
use Rattle.nam_verbs.specs.VerbAt.{VerbAt}
use Rattle.nam_line.specs.Plan.{Line, refuses_next}
use Rattle.nam_catalog.specs.declared.shape.Shape.{Shape}
use Rattle.nam_catalog.specs.Fits.{FitsLimits}
use Rattle.nam_layout.specs.declared.field.Field.{Field}
use Rattle.nam_calls.specs.Fits.{IsOf}
use Rattle.nam_calls.specs.Memory.{verb_there}
use Rattle.nam_calls.proofs.FallsTests.{either}
use Rattle.nam_protocol.specs.declared.session.Job.{Job}
use Rattle.nam_protocol.specs.declared.session.SessionState.{SessionState}
use Rattle.nam_protocol.specs.Closed.{closed}
use Rattle.nam_protocol.specs.EndsLaw.{ScenarioFits}
use Rattle.nam_protocol.specs.EventsLaw.{IsReached, by_word, by_cut, is_new}
use Rattle.nam_protocol.specs.Schedule.{Owned, Run, Scenario, after_round, after_rounds, after_workers, all_jobs}
use Rattle.nam_protocol.specs.Schedule.{jobs_of}
use Rattle.nam_protocol.specs.Schedule.{line_of, numbers_from, opened, scheduled, simulated, turn_by, turn_of, turn_on}
use Rattle.nam_protocol.specs.Session.{session_after, session_cut, session_log, session_verb}
use Rattle.nam_protocol.specs.SessionFits.{JobFits, OpsFit}
use Rattle.nam_protocol.specs.World.{Cut, Step, Turn, World, after_turn, after_turns, cut, cut_of, new_sessions}
use Rattle.nam_protocol.specs.World.{session_of}
use Rattle.nam_protocol.specs.World.{step, step_by, step_of, with_session, world_verb}
use Rattle.nam_protocol.proofs.EndsSession.{nth_holds}
use Rattle.nam_simulated.specs.LogLaw.{LogIsOf}
use Rattle.nam_simulated.specs.RunLaw.{ClosedIsOf, RunLaw, WorldLaw}
use Rattle.nam_simulated.proofs.AuditLemmas.{audits_fit}
use Rattle.nam_simulated.proofs.ClosedKept.{logs_fit}

-- a session of one of the workers, with jobs that fit
record Occurs (shape : Shape) (policy : Policy) (session : SessionState) : Type 0 where
  worker : ℕ
  jobs : List Job
  is : IsOf shape.workers worker
  fit : AllByRecursion (JobFits shape) jobs
  reached : IsReached shape worker shape.start jobs policy session

-- the world's sessions are such, so many
record Lives (shape : Shape) (policy : Policy) (many : ℕ) (world : World) : Type 0 where
  sessions : AllByRecursion (Occurs shape policy) world.sessions
  as_many : length world.sessions ≡ many

module _ (shape : Shape) (policy : Policy) (many : ℕ) where
  abbrev LivesSo : World → Type 0
  LivesSo = Lives shape policy many

  -- 1. A turn

  set_occurs : (sessions : List SessionState) (k : ℕ) (session : SessionState)
      → AllByRecursion (Occurs shape policy) sessions → Occurs shape policy session
      → AllByRecursion (Occurs shape policy) (slice_set sessions k session)
  set_occurs [] k session all occurs = tt
  set_occurs (s ∷ sessions) zero session all occurs = (occurs, all.1)
  set_occurs (s ∷ sessions) (suc k) session all occurs = (all.0, set_occurs sessions k session all.1 occurs)

  replaced : (world : World) (words : List ℕ) (worker : ℕ) (session : SessionState) → Lives shape policy many world
      → Occurs shape policy session
      → Lives shape policy many (with_session (record world { words = words }) worker session)
  replaced world words worker session lives occurs = record {
    sessions = set_occurs world.sessions (worker - 1) session lives.sessions occurs;
    as_many = length-set world.sessions (worker - 1) session ∙ lives.as_many;
  }

  step_by_lives : (world : World) (worker : ℕ) (session : SessionState) (verb : Option (VerbAt Field))
      → session_verb shape session ≡ verb → Lives shape policy many world → Occurs shape policy session
      → Lives shape policy many (step_by shape world worker session verb)
  step_by_lives world worker session None e lives occurs = lives
  step_by_lives world worker session (Some verb) e lives occurs =
      let there = verb_there shape verb in
      replaced world (after_verb world.words there) worker
      (session_after shape session (found_by world.words there)) lives record {
        worker = occurs.worker;
        jobs = occurs.jobs;
        is = occurs.is;
        fit = occurs.fit;
        reached = by_word session verb (found_by world.words there) occurs.reached e;
      }

  step_of_lives : (world : World) (worker : ℕ) (o : Option SessionState) → session_of world worker ≡ o
      → Lives shape policy many world → Lives shape policy many (step_of shape world worker o)
  step_of_lives world worker None here lives = lives
  step_of_lives world worker (Some session) here lives =
      step_by_lives world worker session (session_verb shape session) refl lives
      (nth_holds (Occurs shape policy) world.sessions (worker - 1) session lives.sessions here)

  cut_of_lives : (world : World) (worker : ℕ) (o : Option SessionState) → session_of world worker ≡ o
      → Lives shape policy many world → Lives shape policy many (cut_of shape world worker o)
  cut_of_lives world worker None here lives = lives
  cut_of_lives world worker (Some session) here lives =
      let occurs = nth_holds (Occurs shape policy) world.sessions (worker - 1) session lives.sessions here in
      replaced world world.words worker (session_cut shape.form session) lives record {
        worker = occurs.worker;
        jobs = occurs.jobs;
        is = occurs.is;
        fit = occurs.fit;
        reached = by_cut session occurs.reached;
      }

  step_lives : (world : World) (worker : ℕ) → Lives shape policy many world
      → Lives shape policy many (step shape world worker)
  step_lives world worker lives = step_of_lives world worker (session_of world worker) refl lives

  cut_lives : (world : World) (worker : ℕ) → Lives shape policy many world
      → Lives shape policy many (cut shape world worker)
  cut_lives world worker lives = cut_of_lives world worker (session_of world worker) refl lives

  turn_lives : (world : World) (turn : Turn) → Lives shape policy many world
      → Lives shape policy many (after_turn shape world turn)
  turn_lives world (Step worker) lives = step_lives world worker lives
  turn_lives world (Cut worker) lives = cut_lives world worker lives

  turns_live : (world : World) (turns : List Turn) → Lives shape policy many world
      → Lives shape policy many (after_turns shape world turns)
  turns_live world [] lives = lives
  turns_live world (turn ∷ turns) lives = turns_live (after_turn shape world turn) turns (turn_lives world turn lives)

  -- 2. A simulated run

  turn_by_lives : (run : Run) (worker : ℕ) (line : Option Line) → Lives shape policy many run.world
      → Lives shape policy many (turn_by shape run worker line).world
  turn_by_lives run worker None lives = step_lives run.world worker lives
  turn_by_lives run worker (Some line) lives =
      either (Lives shape policy many) (refuses_next line) (cut shape run.world worker) (step shape run.world worker)
      (cut_lives run.world worker lives) (step_lives run.world worker lives)

  turn_on_lives : (run : Run) (worker : ℕ) (verb : Option Verb) → Lives shape policy many run.world
      → Lives shape policy many (turn_on shape run worker verb).world
  turn_on_lives run worker None lives = lives
  turn_on_lives run worker (Some verb) lives = turn_by_lives run worker (line_of run worker) lives

  turn_of_lives : (run : Run) (worker : ℕ) → Lives shape policy many run.world
      → Lives shape policy many (turn_of shape run worker).world
  turn_of_lives run worker lives = turn_on_lives run worker (world_verb shape run.world worker) lives

  workers_live : (run : Run) (workers : List ℕ) → Lives shape policy many run.world
      → Lives shape policy many (after_workers shape run workers).world
  unfolding after_workers
  workers_live run [] lives = lives
  workers_live run (worker ∷ workers) lives =
      workers_live (turn_of shape run worker) workers (turn_of_lives run worker lives)

  rounds_live : (rounds : ℕ) (run : Run) → Lives shape policy many run.world
      → Lives shape policy many (after_rounds shape rounds run).world
  unfolding after_rounds
  rounds_live zero run lives = lives
  rounds_live (suc rounds) run lives =
      rounds_live rounds (after_round shape run) (workers_live run (numbers_from 1 shape.workers) lives)

-- 3. The opened world

module _ (shape : Shape) where
  jobs_fit : (worker txn : ℕ) (txns : List Owned) → AllByRecursion (λ (t : Owned). OpsFit shape t.ops) txns
      → AllByRecursion (JobFits shape) (jobs_of worker txn txns)
  jobs_fit worker txn [] fit = tt
  jobs_fit worker txn (t ∷ txns) fit =
      let more = jobs_fit worker (txn + 1) txns fit.1 in
      either (AllByRecursion (JobFits shape)) (t.worker == worker)
      (record { txn = txn; ops = t.ops } ∷ jobs_of worker (txn + 1) txns)
      (jobs_of worker (txn + 1) txns) (fit.0, more) more

  all_fit : (txns : List Owned) (workers : List ℕ) → AllByRecursion (λ (t : Owned). OpsFit shape t.ops) txns
      → AllByRecursion (λ jobs. AllByRecursion (JobFits shape) jobs) (map (λ worker. jobs_of worker 1 txns) workers)
  all_fit txns [] fit = tt
  all_fit txns (worker ∷ workers) fit = (jobs_fit worker 1 txns fit, all_fit txns workers fit)

  new_occur : (policy : Policy) (worker : ℕ) (lists : List (List Job)) → 1 ≤ worker
      → worker + length lists ≤ shape.workers + 1
      → AllByRecursion (λ jobs. AllByRecursion (JobFits shape) jobs) lists
      → AllByRecursion (Occurs shape policy) (new_sessions shape policy worker lists)
  new_occur policy worker [] first few fit = tt
  new_occur policy worker (jobs ∷ lists) first few fit = (
    record { worker = worker; jobs = jobs; is = (first, omega arith); fit = fit.0; reached = is_new },
    new_occur policy (worker + 1) lists (omega arith) (omega arith) fit.1,
  )

  new_many : (policy : Policy) (worker : ℕ) (lists : List (List Job))
      → length (new_sessions shape policy worker lists) ≡ length lists
  new_many policy worker [] = refl
  new_many policy worker (jobs ∷ lists) = ap suc (new_many policy (worker + 1) lists)

many_numbers : (n count : ℕ) → length (numbers_from n count) ≡ count
many_numbers n zero = refl
many_numbers n (suc count) = ap suc (many_numbers (n + 1) count)

opened_lives : (c : Scenario) → ScenarioFits c → (lines : List Line)
    → Lives c.shape c.policy c.shape.workers (opened c lines).world
opened_lives c fits lines =
    let numbers = numbers_from 1 c.shape.workers in
    let lists = all_jobs c.shape.workers c.txns in
    let many : length lists ≡ c.shape.workers =
    length-map numbers (λ worker. jobs_of worker 1 c.txns) ∙ many_numbers 1 c.shape.workers in
    record {
      sessions =
          new_occur c.shape c.policy 1 lists (omega arith) (omega arith) (all_fit c.shape c.txns numbers fits.txns);
      as_many = new_many c.shape c.policy 1 lists ∙ many;
    }

-- 4. What is left

logs_are : (shape : Shape) → FitsLimits shape → (policy : Policy) → 1 ≤ policy.tries → (sessions : List SessionState)
    → AllByRecursion (Occurs shape policy) sessions
    → AllByRecursion (LogIsOf shape) (map (session_log shape) sessions)
logs_are shape limits policy least [] all = tt
logs_are shape limits policy least (s ∷ sessions) all = (
  logs_fit shape limits all.0.worker shape.start all.0.jobs policy all.0.is limits.start all.0.fit least s
      all.0.reached,
  logs_are shape limits policy least sessions all.1,
)

logs_count : (shape : Shape) (logs : List Log) → AllByRecursion (LogIsOf shape) logs → AllByRecursion CountsFit logs
logs_count shape [] all = tt
logs_count shape (log ∷ logs) all = (all.0.counts, logs_count shape logs all.1)

closed_is : (c : Scenario) → ScenarioFits c → (world : World) → Lives c.shape c.policy c.shape.workers world
    → ClosedIsOf c.shape (closed c.shape world)
closed_is c fits world lives =
    let many = length-map world.sessions (session_log c.shape) in
    let all = lives.as_many in
    let most = fits.limits.most_workers in
    let logs = logs_are c.shape fits.limits c.policy fits.tries world.sessions lives.sessions in
    record {
      many = many ∙ all;
      few = omega arith;
      logs = logs;
      counts = logs_count c.shape (map (session_log c.shape) world.sessions) logs;
      audit = audits_fit c.shape fits.limits world.words;
    }

pub worlds_fit : WorldLaw
worlds_fit c fits turns =
    closed_is c fits (after_turns c.shape (opened c []).world turns)
    (turns_live c.shape c.policy c.shape.workers (opened c []).world turns (opened_lives c fits []))

pub runs_fit : RunLaw
runs_fit c fits lines rounds =
    closed_is c fits (simulated c lines rounds).world
    (rounds_live c.shape c.policy c.shape.workers rounds
    (after_workers c.shape (opened c lines) (scheduled c.shape c.schedule))
    (workers_live c.shape c.policy c.shape.workers (opened c lines) (scheduled c.shape c.schedule)
    (opened_lives c fits lines)))
