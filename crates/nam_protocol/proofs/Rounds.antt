-- A simulated run is the only one: once all sessions have ended, a further round changes nothing.
use Rattle.std.proofs.Common.{◌≡◌, ℕ, zero, suc, ◌+◌, ◌-◌, List, [], ◌∷◌, None, refl, sym, ap, ◌∙◌, arith}
use Rattle.std.proofs.Math.Nat.{add_comm}
use Rattle.std.specs.Prelude.{slice_get, option_map}
use Rattle.std.specs.List.{AllByRecursion}
use Rattle.nam_line.specs.Plan.{Line}
use Rattle.nam_catalog.specs.declared.shape.Shape.{Shape}
use Rattle.nam_calls.specs.Memory.{verb_there}
use Rattle.nam_protocol.specs.declared.session.SessionState.{SessionState}
use Rattle.nam_protocol.specs.World.{HasNoVerb, HasEnded, verb_in}
use Rattle.nam_protocol.specs.Schedule.{Run, Scenario, Simulated, turn_on, turn_of, after_workers, after_round}
use Rattle.nam_protocol.specs.Schedule.{after_rounds, numbers_from, simulated}

module _ (shape : Shape) where
  no_verb : (sessions : List SessionState) → AllByRecursion (HasNoVerb shape) sessions → (k : ℕ)
      → verb_in shape (slice_get sessions k) ≡ None
  no_verb [] all k = refl
  no_verb (x ∷ xs) all zero = all.0
  no_verb (x ∷ xs) all (suc k) = no_verb xs all.1 k

  turn_rests : (run : Run) → HasEnded shape run.world → (worker : ℕ) → turn_of shape run worker ≡ run
  turn_rests run ended worker =
      ap (λ verb. turn_on shape run worker (option_map (verb_there shape) verb))
      (no_verb run.world.sessions ended (worker - 1))

  workers_rest : (run : Run) → HasEnded shape run.world → (workers : List ℕ) → after_workers shape run workers ≡ run
  unfolding after_workers
  workers_rest run ended [] = refl
  workers_rest run ended (worker ∷ workers) =
      ap (λ r. after_workers shape r workers) (turn_rests run ended worker) ∙ workers_rest run ended workers

  pub rounds_rest : (run : Run) → HasEnded shape run.world → (rounds : ℕ) → after_rounds shape rounds run ≡ run
  unfolding after_rounds
  rounds_rest run ended zero = refl
  rounds_rest run ended (suc rounds) =
      ap (λ r. after_rounds shape rounds r) (workers_rest run ended (numbers_from 1 shape.workers))
      ∙ rounds_rest run ended rounds

  pub rounds_add : (a b : ℕ) (run : Run)
      → after_rounds shape (a + b) run ≡ after_rounds shape b (after_rounds shape a run)
  unfolding after_rounds
  rounds_add zero b run = let e : 0 + b ≡ b = omega arith in ap (λ n. after_rounds shape n run) e
  rounds_add (suc a) b run =
      let e : suc a + b ≡ suc (a + b) = omega arith in
      ap (λ n. after_rounds shape n run) e ∙ rounds_add a b (after_round shape run)

-- the rounds of one run and of another, in either order
pub simulated_once : (c : Scenario) (lines : List Line) (run other : Run) → Simulated c lines run
    → Simulated c lines other → run ≡ other
unfolding after_rounds
simulated_once c lines run other a b =
    let start = simulated c lines 0 in
    sym (rounds_rest c.shape run a.ended b.rounds)
    ∙ ap (λ r. after_rounds c.shape b.rounds r) (sym a.run_is)
    ∙ sym (rounds_add c.shape a.rounds b.rounds start)
    ∙ ap (λ n. after_rounds c.shape n start) (add_comm a.rounds b.rounds)
    ∙ rounds_add c.shape b.rounds a.rounds start
    ∙ ap (λ r. after_rounds c.shape a.rounds r) b.run_is
    ∙ rounds_rest c.shape other b.ended a.rounds
