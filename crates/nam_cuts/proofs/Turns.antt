-- What a worker's turn does to its session and its line, and that the other workers' turns leave them. For any property
-- of a line and a session: if each verb keeps it, and each refusal, then it holds after any turns.
use Rattle.std.proofs.Common.{◌≡◌, ◌≢◌, ℕ, zero, suc, ◌-◌, Bool, true, false, List, [], ◌∷◌, refl, sym, ap, ◌∙◌}
use Rattle.std.proofs.Common.{subst, Option, Some, None}
use Rattle.std.specs.Prelude.{if◌then◌else◌, slice_get, slice_set, option_map}
use Rattle.nam_verbs.specs.Verb.{found_by, after_verb}
use Rattle.nam_verbs.specs.VerbAt.{VerbAt}
use Rattle.nam_verbs.specs.declared.verb.Verb.{Verb}
use Rattle.nam_verbs.proofs.TestLemmas.{by_equal, by_test}
use Rattle.nam_line.specs.Plan.{Line, asked_once, refuses_next}
use Rattle.nam_catalog.specs.declared.shape.Shape.{Shape}
use Rattle.nam_layout.specs.declared.field.Field.{Field}
use Rattle.nam_calls.specs.Memory.{verb_there}
use Rattle.nam_calls.proofs.FallsTests.{either}
use Rattle.nam_protocol.specs.declared.session.SessionState.{SessionState}
use Rattle.nam_protocol.specs.Session.{session_after, session_cut, session_verb}
use Rattle.nam_protocol.specs.World.{World, cut, cut_of, is_cut, session_of, step, step_by, step_of, taken_by, verb_in}
use Rattle.nam_protocol.specs.World.{with_session}
use Rattle.nam_protocol.specs.Schedule.{Run, after_round, after_rounds, after_workers, line_of, numbers_from, turn_by}
use Rattle.nam_protocol.specs.Schedule.{turn_of, turn_on}

-- 1. A list that was set at a place

pub get_set : {A : Type 0} (xs : List A) (k : ℕ) (x y : A) → slice_get xs k ≡ Some x
    → slice_get (slice_set xs k y) k ≡ Some y
get_set [] k x y e = absurd (cc)
get_set (a ∷ xs) zero x y e = refl
get_set (a ∷ xs) (suc k) x y e = get_set xs k x y e

get_beside : {A : Type 0} (xs : List A) (i k : ℕ) (y : A) → i ≢ k
    → slice_get (slice_set xs i y) k ≡ slice_get xs k
get_beside [] i k y other = refl
get_beside (a ∷ xs) zero zero y other = absurd (other refl)
get_beside (a ∷ xs) zero (suc k) y other = refl
get_beside (a ∷ xs) (suc i) zero y other = refl
get_beside (a ∷ xs) (suc i) (suc k) y other = get_beside xs i k y (λ e. other (ap suc e))

-- 2. A property that is kept

module _ (shape : Shape) (P : Option Line → SessionState → Type 0) where
  pub record TurnKeeps : Type 0 where
    -- the medic's verb, which asks no line
    pub medic : (now : Option Line) (session : SessionState) (verb : VerbAt Field) (found : ℕ)
        → session.client.cut ≡ true → session_verb shape session ≡ Some verb → P now session
        → P now (session_after shape session found)
    -- the verb of a worker without a line
    pub unlined : (session : SessionState) (verb : VerbAt Field) (found : ℕ)
        → session.client.cut ≡ false → session_verb shape session ≡ Some verb → P None session
        → P None (session_after shape session found)
    pub passes : (line : Line) (session : SessionState) (verb : VerbAt Field) (found : ℕ)
        → session.client.cut ≡ false → session_verb shape session ≡ Some verb → refuses_next line ≡ false
        → P (Some line) session → P (Some (asked_once line)) (session_after shape session found)
    pub refused : (line : Line) (session : SessionState) (verb : VerbAt Field)
        → session.client.cut ≡ false → session_verb shape session ≡ Some verb → refuses_next line ≡ true
        → P (Some line) session → P (Some (asked_once line)) (session_cut shape.form session)

  -- the run has a session at the place, which is so with the line there
  pub record HoldsAt (k : ℕ) (run : Run) : Type 0 where
    pub session : SessionState
    pub here : slice_get run.world.sessions k ≡ Some session
    pub holds : P (slice_get run.lines k) session

  module _ (keeps : TurnKeeps) (run : Run) (worker : ℕ) where
    abbrev Here : Run → Type 0
    Here after = HoldsAt (worker - 1) after

    -- another session took the place
    replaced : (old new : SessionState) (words : List ℕ) (lines : List Line)
        → session_of run.world worker ≡ Some old → P (slice_get lines (worker - 1)) new
        → Here record { world = with_session (record run.world { words = words }) worker new; lines = lines }
    replaced old new words lines here p = record {
      session = new;
      here = get_set run.world.sessions (worker - 1) old new here;
      holds = p;
    }

    module _ (session : SessionState) (here : session_of run.world worker ≡ Some session) (verb : VerbAt Field)
        (stands : session_verb shape session ≡ Some verb) (p : P (slice_get run.lines (worker - 1)) session) where
      abbrev there : Verb
      there = verb_there shape verb

      abbrev next : SessionState
      next = session_after shape session (found_by run.world.words there)

      step_is : step shape run.world worker ≡ taken_by shape run.world worker session there
      step_is = ap (step_of shape run.world worker) here ∙ ap (step_by shape run.world worker session) stands

      stepped_here : (lines : List Line) → P (slice_get lines (worker - 1)) next
          → Here record { world = step shape run.world worker; lines = lines }
      stepped_here lines q = subst (λ (w : World). Here record { world = w; lines = lines }) (sym step_is)
          (replaced session next (after_verb run.world.words there) lines here q)

      cut_here : (lines : List Line) → P (slice_get lines (worker - 1)) (session_cut shape.form session)
          → Here record { world = cut shape run.world worker; lines = lines }
      cut_here lines q = subst (λ (w : World). Here record { world = w; lines = lines })
          (sym (ap (cut_of shape run.world worker) here))
          (replaced session (session_cut shape.form session) run.world.words lines here q)

      -- its line is asked
      asked_here : session.client.cut ≡ false → (line : Option Line)
          → slice_get run.lines (worker - 1) ≡ line → Here (turn_by shape run worker line)
      asked_here uncut None is =
          stepped_here run.lines (subst (λ o. P o next) (sym is)
          (keeps.unlined session verb _ uncut stands (subst (λ o. P o session) is p)))
      asked_here uncut (Some line) is =
          let q = subst (λ o. P o session) is p in
          let lines = slice_set run.lines (worker - 1) (asked_once line) in
          let set = get_set run.lines (worker - 1) line (asked_once line) is in
          by_test (λ (w : World). Here record { world = w; lines = lines }) (refuses_next line)
          (cut shape run.world worker) (step shape run.world worker)
          (λ e. cut_here lines (subst (λ o. P o (session_cut shape.form session)) (sym set)
          (keeps.refused line session verb uncut stands e q)))
          (λ e. stepped_here lines (subst (λ o. P o next) (sym set)
          (keeps.passes line session verb _ uncut stands e q)))

      line_here : (cut : Bool) → session.client.cut ≡ cut
          → line_of run worker ≡ (if cut then None else slice_get run.lines (worker - 1))
      line_here cut e =
          ap (λ o. if is_cut o then None else slice_get run.lines (worker - 1)) here
          ∙ ap (λ (b : Bool). if b then None else slice_get run.lines (worker - 1)) e

      turn_some : (cut : Bool) → session.client.cut ≡ cut → Here (turn_by shape run worker (line_of run worker))
      turn_some true e = subst (λ line. Here (turn_by shape run worker line)) (sym (line_here true e))
          (stepped_here run.lines (keeps.medic (slice_get run.lines (worker - 1)) session verb _ e stands p))
      turn_some false e = subst (λ line. Here (turn_by shape run worker line)) (sym (line_here false e))
          (asked_here e (slice_get run.lines (worker - 1)) refl)

    turn_verb : (h : Here run) (verb : Option (VerbAt Field)) → session_verb shape h.session ≡ verb
        → Here (turn_on shape run worker (option_map (verb_there shape) verb))
    turn_verb h None e = h
    turn_verb h (Some verb) e = turn_some h.session h.here verb e h.holds h.session.client.cut refl

    turn_here : Here run → Here (turn_of shape run worker)
    turn_here h =
        subst (λ o. Here (turn_on shape run worker (option_map (verb_there shape) (verb_in shape o)))) (sym h.here)
        (turn_verb h (session_verb shape h.session) refl)

-- 3. The turn of another worker

module _ (shape : Shape) (k : ℕ) where
  record Same (before after : Run) : Type 0 where
    session : slice_get after.world.sessions k ≡ slice_get before.world.sessions k
    line : slice_get after.lines k ≡ slice_get before.lines k

  module _ (run : Run) (worker : ℕ) (other : worker - 1 ≢ k) where
    abbrev SameWorld : World → Type 0
    SameWorld world = slice_get world.sessions k ≡ slice_get run.world.sessions k

    step_by_same : (session : SessionState) (verb : Option (VerbAt Field))
        → SameWorld (step_by shape run.world worker session verb)
    step_by_same session None = refl
    step_by_same session (Some verb) = get_beside run.world.sessions (worker - 1) k _ other

    step_same : (o : Option SessionState) → SameWorld (step_of shape run.world worker o)
    step_same None = refl
    step_same (Some session) = step_by_same session (session_verb shape session)

    cut_same : (o : Option SessionState) → SameWorld (cut_of shape run.world worker o)
    cut_same None = refl
    cut_same (Some session) = get_beside run.world.sessions (worker - 1) k _ other

    turn_by_same : (line : Option Line) → Same run (turn_by shape run worker line)
    turn_by_same None = record { session = step_same (session_of run.world worker); line = refl }
    turn_by_same (Some line) = record {
      session =
          either SameWorld (refuses_next line) (cut shape run.world worker) (step shape run.world worker)
          (cut_same (session_of run.world worker)) (step_same (session_of run.world worker));
      line = get_beside run.lines (worker - 1) k _ other;
    }

    turn_on_same : (verb : Option Verb) → Same run (turn_on shape run worker verb)
    turn_on_same None = record { session = refl; line = refl }
    turn_on_same (Some verb) = turn_by_same (line_of run worker)

    turn_same : Same run (turn_of shape run worker)
    turn_same = turn_on_same _

-- 4. Turns, and rounds

module _ (shape : Shape) (P : Option Line → SessionState → Type 0) (keeps : TurnKeeps shape P) (k : ℕ) where
  abbrev Holds : Run → Type 0
  Holds run = HoldsAt shape P k run

  turn_keeps : (run : Run) (worker : ℕ) → Holds run → Holds (turn_of shape run worker)
  turn_keeps run worker h =
      by_equal (λ (b : Bool). Holds (turn_of shape run worker)) (worker - 1) k true false
      (λ e. subst (λ n. HoldsAt shape P n (turn_of shape run worker)) e
      (turn_here shape P keeps run worker (subst (λ n. HoldsAt shape P n run) (sym e) h)))
      (λ other. let s = turn_same shape k run worker other in record {
        session = h.session;
        here = s.session ∙ h.here;
        holds = subst (λ o. P o h.session) (sym s.line) h.holds;
      })

  pub workers_keep : (run : Run) (workers : List ℕ) → Holds run → Holds (after_workers shape run workers)
  unfolding after_workers
  workers_keep run [] h = h
  workers_keep run (worker ∷ workers) h =
      workers_keep (turn_of shape run worker) workers (turn_keeps run worker h)

  pub rounds_keep : (rounds : ℕ) (run : Run) → Holds run → Holds (after_rounds shape rounds run)
  unfolding after_rounds
  rounds_keep zero run h = h
  rounds_keep (suc rounds) run h =
      rounds_keep rounds (after_round shape run) (workers_keep run (numbers_from 1 shape.workers) h)
