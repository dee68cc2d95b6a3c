-- What a worker's line refused in a simulated run is what its session's log tells of a cut; and how many verbs it
-- passed.
use Rattle.std.specs.Prelude.{◌≡◌, ℕ, ◌+◌, ◌-◌, ◌*◌, ◌≤◌, true, false, List, length, take, Some, None, slice_get}
use Rattle.nam_line.specs.Plan.{Line}
use Rattle.nam_line.specs.PassedLaw.{CanCount}
use Rattle.nam_calls.specs.Fits.{IsOf}
use Rattle.nam_protocol.specs.declared.session.Job.{Job}
use Rattle.nam_protocol.specs.declared.session.SessionState.{SessionState}
use Rattle.nam_protocol.specs.Session.{session_log}
use Rattle.nam_protocol.specs.World.{session_of, HasNoVerb}
use Rattle.nam_protocol.specs.Schedule.{Run, Scenario, after_workers, jobs_of, simulated}
use Rattle.nam_protocol.specs.Left.{jobs_bound}
use Rattle.nam_protocol.specs.EndsLaw.{ScenarioFits}
use Rattle.nam_cuts.specs.Cuts.{TellsCut, TellsNoCut, PassedAll, RefusedLast, passed_since}

-- 1. Cuts

-- a session that isn't cut, and whose log tells of no cut once it has no verb to come
pub record IsWhole (c : Scenario) (session : SessionState) : Type 0 where
  pub uncut : session.client.cut ≡ false
  pub log : HasNoVerb c.shape session → TellsNoCut (session_log c.shape session)

-- the worker's session and its line in a run that goes on by turns of any workers
pub record LineCuts (c : Scenario) (run : Run) (worker : ℕ) (session : SessionState) (start now : Line) : Type 0 where
  -- the plan is as it was
  pub plan : now.plan ≡ start.plan
  -- where no verb was refused the session isn't cut, and its log tells of no cut
  pub whole : PassedAll start now → IsWhole c session
  -- where it isn't cut no verb was refused
  pub uncut : session.client.cut ≡ false → PassedAll start now
  -- where it is cut the last verb was refused, and no other
  pub cut : session.client.cut ≡ true → RefusedLast start now
  -- its log tells of the cut
  pub told : session.client.cut ≡ true → TellsCut (session_log c.shape session)
  -- from then on the line is asked no more
  pub asked_no_more : session.client.cut ≡ true → (turns : List ℕ)
      → slice_get (after_workers c.shape run turns).lines (worker - 1) ≡ Some now

-- a worker without a line is never cut
abbrev pub LineCutsLaw : Type 0
LineCutsLaw =
    (c : Scenario) → ScenarioFits c → (lines : List Line) (rounds worker : ℕ) → IsOf c.shape.workers worker
    → (session : SessionState) → session_of (simulated c lines rounds).world worker ≡ Some session
    → (slice_get lines (worker - 1) ≡ None → IsWhole c session)
    × ((start : Line) → slice_get lines (worker - 1) ≡ Some start → CanCount start
    → (now : Line) × (slice_get (simulated c lines rounds).lines (worker - 1) ≡ Some now)
    × LineCuts c (simulated c lines rounds) worker session start now)

-- 2. Bounds

-- the worker's jobs up to the one that its session is at
abbrev pub begun_jobs : Scenario → ℕ → SessionState → List Job
begun_jobs c worker session = take (session.driver.job + 1) (jobs_of worker 1 c.txns)

-- how many verbs the jobs that were begun take at the most
abbrev pub begun_bound : Scenario → ℕ → SessionState → ℕ
begun_bound c worker session = jobs_bound c.shape c.policy (begun_jobs c worker session)

pub record PassedBounds (c : Scenario) (worker : ℕ) (session : SessionState) (start now : Line) : Type 0 where
  -- each snapshot that is listed read each worker's entry twice
  pub snaps : CanCount now
      → 2 * c.shape.workers * length (session_log c.shape session).snaps ≤ passed_since start now
  pub passed : passed_since start now ≤ begun_bound c worker session
  -- so it is of all verbs that the line was asked for
  pub asked : now.asked ≤ start.asked + begun_bound c worker session

abbrev pub PassedBoundsLaw : Type 0
PassedBoundsLaw =
    (c : Scenario) → ScenarioFits c → (lines : List Line) (rounds worker : ℕ) → IsOf c.shape.workers worker
    → (session : SessionState) → session_of (simulated c lines rounds).world worker ≡ Some session
    → (start : Line) → slice_get lines (worker - 1) ≡ Some start → CanCount start
    → (now : Line) × (slice_get (simulated c lines rounds).lines (worker - 1) ≡ Some now)
    × PassedBounds c worker session start now
