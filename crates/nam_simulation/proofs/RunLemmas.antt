-- Turns one after another, and rounds until all have ended.
use Rattle.std.proofs.Common.{◌≡◌, ℕ, zero, suc, ◌+◌, ◌<◌, ◌≤◌, List, [], ◌∷◌, ◌++◌, length, get_or, drop, Bool}
use Rattle.std.proofs.Common.{true, false, refl, sym, ap, ◌∙◌, subst, arith, drop-cons}
use Rattle.std.proofs.lemmas.List.{drop_all}
use Rattle.std.specs.Prelude.{if◌then◌else◌, replicate, is_some}
use Rattle.std.specs.List.{AllByRecursion, list_any}
use Rattle.std.proofs.lemmas.Bool.{false≢true}
use Rattle.nam_catalog.specs.declared.shape.Shape.{Shape}
use Rattle.nam_protocol.specs.declared.session.SessionState.{SessionState}
use Rattle.nam_protocol.specs.Session.{session_verb}
use Rattle.nam_protocol.specs.World.{World, HasNoVerb, HasEnded}
use Rattle.nam_protocol.specs.EndsLaw.{scenario_bound}
use Rattle.nam_protocol.specs.Schedule.{Run, turn_of, after_workers, after_round, is_live, until_ended, picked}
use Rattle.nam_protocol.specs.Schedule.{stint_workers}
use Rattle.nam_script.specs.declared.script.Script.{Script}
use Rattle.nam_scenario.specs.Scenario.{scenario_of}
use Rattle.si_model.specs.Generator.{next_state, pick}
use Rattle.nam_script.specs.declared.script.Stint.{Stint as ScriptStint}
use Rattle.nam_simulation.specs.Simulation.{to_end, stints_of}

module _ (shape : Shape) where
  -- 1. Turns

  pub workers_then : (a b : List ℕ) (run : Run)
      → after_workers shape run (a ++ b) ≡ after_workers shape (after_workers shape run a) b
  unfolding after_workers
  workers_then [] b run = refl
  workers_then (worker ∷ a) b run = workers_then a b (turn_of shape run worker)

  -- turns of the first of some workers, and of the others
  pub some_turns : (before : Shape) (run next end : Run) (first workers : List ℕ) → before ≡ shape
      → next ≡ after_workers before run first
      → after_workers shape run (first ++ workers) ≡ end
      → after_workers shape next workers ≡ end
  some_turns before run next end first workers same turned rest =
      ap (λ r. after_workers shape r workers) (turned ∙ ap (λ s. after_workers s run first) same)
      ∙ sym (workers_then first workers run)
      ∙ rest

  -- the turn of the first of some workers
  pub one_turn : (before : Shape) (run next end : Run) (worker : ℕ) (workers : List ℕ) → before ≡ shape
      → next ≡ turn_of before run worker
      → after_workers shape run (worker ∷ workers) ≡ end
      → after_workers shape next workers ≡ end
  unfolding after_workers
  one_turn before run next end worker workers same turned rest =
      ap (λ r. after_workers shape r workers) (turned ∙ ap (λ s. turn_of s run worker) same) ∙ rest

  -- no turns are left
  pub no_turns : (run end : Run) (workers : List ℕ) → workers ≡ [] → after_workers shape run workers ≡ end → run ≡ end
  unfolding after_workers
  no_turns run end workers none rest = sym (ap (after_workers shape run) none) ∙ rest

  -- 2. Rounds

  none_live : (sessions : List SessionState) → AllByRecursion (HasNoVerb shape) sessions
      → list_any (λ session. is_some (session_verb shape session)) sessions ≡ false
  none_live [] all = refl
  none_live (s ∷ sessions) all = rw all.0 (none_live sessions all.1)

  pub ended_rests : (world : World) → HasEnded shape world → is_live shape world ≡ false
  ended_rests world ended = none_live world.sessions ended

  -- how many rounds are left, of so many at the most
  unfoldable pub rounds_left : ℕ → Run → ℕ
  rounds_left zero run = 0
  rounds_left (suc most) run =
      if is_live shape run.world then suc (rounds_left most (after_round shape run)) else 0

  abbrev if_live : Run → Run → Bool → Run
  if_live run next live = elim live [
    | false ↦ run
    | true ↦ next
  ]

  pub stays : (most : ℕ) (run : Run) → is_live shape run.world ≡ false → until_ended shape most run ≡ run
  unfolding until_ended
  stays zero run e = refl
  stays (suc most) run e = ap (if_live run (until_ended shape most (after_round shape run))) e

  goes : (most : ℕ) (run : Run) → is_live shape run.world ≡ true
      → until_ended shape (suc most) run ≡ until_ended shape most (after_round shape run)
  unfolding until_ended
  goes most run e = ap (if_live run (until_ended shape most (after_round shape run))) e

  left_none : (most : ℕ) (run : Run) → is_live shape run.world ≡ false → rounds_left most run ≡ 0
  unfolding rounds_left
  left_none zero run e = refl
  left_none (suc most) run e = ap (λ b. if b then suc (rounds_left most (after_round shape run)) else 0) e

  left_goes : (most : ℕ) (run : Run) → is_live shape run.world ≡ true
      → rounds_left (suc most) run ≡ suc (rounds_left most (after_round shape run))
  unfolding rounds_left
  left_goes most run e = ap (λ b. if b then suc (rounds_left most (after_round shape run)) else 0) e

  -- a bound that suffices gives the same as one more
  record Same (most : ℕ) (run : Run) : Type 0 where
    end : until_ended shape (suc most) run ≡ until_ended shape most run
    left : rounds_left (suc most) run ≡ rounds_left most run

  abbrev Ends : ℕ → Run → Type 0
  Ends most run = HasEnded shape (until_ended shape most run).world

  same_by : (most : ℕ) (run : Run) → Ends most run → (live : Bool) → is_live shape run.world ≡ live → Same most run
  unfolding until_ended
  same_by most run ends false e = record {
    end = stays (suc most) run e ∙ sym (stays most run e);
    left = left_none (suc most) run e ∙ sym (left_none most run e);
  }
  same_by zero run ends true e = absurd (false≢true (sym (ended_rests run.world ends) ∙ e))
  same_by (suc most) run ends true e =
      let more = same_by most (after_round shape run)
      (subst (λ (r : Run). HasEnded shape r.world) (goes most run e) ends)
      (is_live shape (after_round shape run).world) refl in
      record {
        end = goes (suc most) run e ∙ more.end ∙ sym (goes most run e);
        left = left_goes (suc most) run e ∙ ap suc more.left ∙ sym (left_goes most run e);
      }

  -- a round of a run that has not ended
  pub record RoundGoes (most : ℕ) (run : Run) : Type 0 where
    pub end : until_ended shape most (after_round shape run) ≡ until_ended shape most run
    pub falls : rounds_left most (after_round shape run) < rounds_left most run

  pub round_goes : (most : ℕ) (run : Run) → Ends most run → is_live shape run.world ≡ true → RoundGoes most run
  unfolding until_ended
  round_goes zero run ends e = absurd (false≢true (sym (ended_rests run.world ends) ∙ e))
  round_goes (suc most) run ends e =
      let same = same_by most (after_round shape run)
      (subst (λ (r : Run). HasEnded shape r.world) (goes most run e) ends)
      (is_live shape (after_round shape run).world) refl in
      let left = left_goes most run e in
      let next = same.left in
      record { end = same.end ∙ sym (goes most run e); falls = omega arith }

-- 3. The rounds of a script

module _ (script : Script) (before : Shape) (same : before ≡ script.shape) (run start : Run)
    (end : to_end script run ≡ to_end script start) where
  abbrev most : ℕ
  most = scenario_bound (scenario_of script)

  pub round_ends : (next : Run) → HasEnded script.shape (to_end script start).world
      → is_live before run.world ≡ true
      → next ≡ after_round before run
      → (to_end script next ≡ to_end script start)
      × (rounds_left script.shape most next < rounds_left script.shape most run)
  round_ends next ends live turned =
      let round : next ≡ after_round script.shape run = turned ∙ ap (λ s. after_round s run) same in
      let goes_on = round_goes script.shape most run
      (subst (λ (r : Run). HasEnded script.shape r.world) (sym end) ends)
      (sym (ap (λ s. is_live s run.world) same) ∙ live) in (
        ap (to_end script) round ∙ goes_on.end ∙ end,
        subst (λ r. rounds_left script.shape most r < rounds_left script.shape most run) (sym round) goes_on.falls,
      )

  pub is_end : is_live before run.world ≡ false → run ≡ to_end script start
  is_end ended =
      sym (stays script.shape most run (sym (ap (λ s. is_live s run.world) same) ∙ ended)) ∙ end

-- 4. Picks and stints

pub picks_rest : (shape : Shape) (run end : Run) (workers state n rest place generator : ℕ)
    → generator ≡ next_state state
    → place ≡ pick generator workers
    → n ≡ suc rest
    → after_workers shape run (picked workers state n) ≡ end
    → after_workers shape run ((1 + place) ∷ picked workers generator rest) ≡ end
unfolding picked
picks_rest shape run end workers state n rest place generator is place_is left all =
    ap (λ p. after_workers shape run ((1 + p) ∷ picked workers generator rest)) place_is
    ∙ ap (λ g. after_workers shape run ((1 + pick g workers) ∷ picked workers g rest)) is
    ∙ sym (ap (λ k. after_workers shape run (picked workers state k)) left)
    ∙ all

pub no_pick : (workers state n : ℕ) → n ≡ 0 → picked workers state n ≡ []
unfolding picked
no_pick workers state n none = ap (picked workers state) none

pub stints_from : (stints : List ScriptStint) (place : ℕ) (d : ScriptStint) → place < length stints
    → stint_workers (stints_of (drop place stints))
    ≡ replicate (get_or stints place d).steps (get_or stints place d).worker
    ++ stint_workers (stints_of (drop (place + 1) stints))
unfolding stint_workers
stints_from stints place d less =
    let next : suc place ≡ place + 1 = omega arith in
    ap (λ rest. stint_workers (stints_of rest)) (drop-cons stints place d less)
    ∙ ap (λ k. replicate (get_or stints place d).steps (get_or stints place d).worker
    ++ stint_workers (stints_of (drop k stints))) next

pub no_stint : (stints : List ScriptStint) (place : ℕ) → length stints ≤ place
    → stint_workers (stints_of (drop place stints)) ≡ []
unfolding stint_workers
no_stint stints place past = ap (λ rest. stint_workers (stints_of rest)) (drop_all place stints past)
