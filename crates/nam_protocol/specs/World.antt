-- A world: words, and the sessions that change them verb by verb.
use Rattle.std.specs.Prelude.{ℕ, ◌≡◌, ◌+◌, ◌-◌, Bool, false, List, [], ◌∷◌, Option, Some, None, option_map, slice_get}
use Rattle.std.specs.Prelude.{slice_set}
use Rattle.std.specs.List.{AllByRecursion}
use Rattle.si_model.specs.declared.row.Row.{Row}
use Rattle.si_model.specs.declared.op.Policy.{Policy}
use Rattle.nam_verbs.specs.declared.verb.Verb.{Verb}
use Rattle.nam_verbs.specs.Verb.{found_by, after_verb}
use Rattle.nam_verbs.specs.VerbAt.{VerbAt}
use Rattle.nam_catalog.specs.declared.shape.Shape.{Shape}
use Rattle.nam_layout.specs.declared.field.Field.{Field}
use Rattle.nam_calls.specs.Memory.{verb_there}
use Rattle.nam_protocol.specs.declared.session.Job.{Job}
use Rattle.nam_protocol.specs.declared.session.SessionState.{SessionState}
use Rattle.nam_protocol.specs.Telling.{new_client}
use Rattle.nam_protocol.specs.Session.{new_session, session_verb, session_after, session_cut}
use Rattle.nam_protocol.specs.Opening.{opening_words}

-- worker j has the session at place j - 1
pub record World : Type 0 where
  pub words : List ℕ
  pub sessions : List SessionState

-- one worker's turn: its next verb is done, which is its medic's once it is cut, or it is stopped before it
pub data Turn : Type 0 where
  Step : (worker : ℕ) → Turn
  Cut : (worker : ℕ) → Turn

abbrev pub session_of : World → ℕ → Option SessionState
session_of world worker = slice_get world.sessions (worker - 1)

abbrev pub with_session : World → ℕ → SessionState → World
with_session world worker session = record world { sessions = slice_set world.sessions (worker - 1) session }

module _ (shape : Shape) where
  abbrev pub verb_in : Option SessionState → Option (VerbAt Field)
  verb_in None = None
  verb_in (Some session) = session_verb shape session

  -- the worker's next verb, at the address of its field
  abbrev pub world_verb : World → ℕ → Option Verb
  world_verb world worker = option_map (verb_there shape) (verb_in (session_of world worker))

  -- a verb is done, and the session takes the word that it found
  abbrev pub taken_by : World → ℕ → SessionState → Verb → World
  taken_by world worker session verb =
      with_session (record world { words = after_verb world.words verb }) worker
      (session_after shape session (found_by world.words verb))

  -- the verb of the session is done
  abbrev pub step_by : World → ℕ → SessionState → Option (VerbAt Field) → World
  step_by world worker session None = world
  step_by world worker session (Some verb) = taken_by world worker session (verb_there shape verb)

  abbrev pub step_of : World → ℕ → Option SessionState → World
  step_of world worker None = world
  step_of world worker (Some session) = step_by world worker session (session_verb shape session)

  abbrev pub step : World → ℕ → World
  step world worker = step_of world worker (session_of world worker)

  -- the worker is stopped before its next verb
  abbrev pub cut_of : World → ℕ → Option SessionState → World
  cut_of world worker None = world
  cut_of world worker (Some session) = with_session world worker (session_cut shape.form session)

  abbrev pub cut : World → ℕ → World
  cut world worker = cut_of world worker (session_of world worker)

-- is this session cut
abbrev pub is_cut : Option SessionState → Bool
is_cut None = false
is_cut (Some session) = session.client.cut

abbrev pub after_turn : Shape → World → Turn → World
after_turn shape world (Step worker) = step shape world worker
after_turn shape world (Cut worker) = cut shape world worker

abbrev pub after_turns : Shape → World → List Turn → World
after_turns shape world [] = world
after_turns shape world (turn ∷ turns) = after_turns shape (after_turn shape world turn) turns

-- new sessions, the first of which is this worker's
abbrev pub new_sessions : Shape → Policy → ℕ → List (List Job) → List SessionState
new_sessions shape policy worker [] = []
new_sessions shape policy worker (jobs ∷ rest) =
    new_session shape (new_client worker shape.start) jobs policy ∷ new_sessions shape policy (worker + 1) rest

-- the world in which nothing was done yet; the lists of jobs are those of worker 1 and so on
abbrev pub new_world : Shape → List Row → Policy → List (List Job) → World
new_world shape rows policy jobs =
    record { words = opening_words shape rows; sessions = new_sessions shape policy 1 jobs }

-- no session has a verb to come: each has ended, or is cut and has no medic
abbrev pub HasNoVerb : Shape → SessionState → Type 0
HasNoVerb shape session = session_verb shape session ≡ None

abbrev pub HasEnded : Shape → World → Type 0
HasEnded shape world = AllByRecursion (HasNoVerb shape) world.sessions
