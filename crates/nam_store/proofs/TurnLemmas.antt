-- A turn of a world is steps of its store: its session's verb, and the calls that its driver asks then; or a stop.
use Rattle.std.proofs.Common.{Bool, List, None, Option, Some, ap, false, map, refl, subst, suc, sym}
use Rattle.std.proofs.Common.{zero, ℕ, ◌-◌, ◌∙◌, ◌∷◌, ◌≡◌, []}
use Rattle.std.specs.List.{AllByRecursion}
use Rattle.std.specs.Prelude.{if◌then◌else◌, slice_get, ◌||◌}
use Rattle.std.proofs.lemmas.List.{map-set}
use Rattle.std.proofs.lemmas.Option.{none-some, same_Some}
use Rattle.nam_verbs.specs.declared.now.Now.TheVariants.{At}
use Rattle.nam_verbs.specs.Verb.{after_verb, found_by}
use Rattle.nam_verbs.specs.VerbAt.{VerbAt}
use Rattle.nam_catalog.specs.declared.shape.Shape.{Shape}
use Rattle.nam_catalog.specs.Fits.{FitsLimits}
use Rattle.nam_layout.specs.declared.field.Field.{Field}
use Rattle.nam_calls.specs.Memory.{verb_there}
use Rattle.nam_calls.specs.Medic.{medic_begin}
use Rattle.nam_calls.proofs.FallsTests.{either}
use Rattle.nam_protocol.specs.declared.session.SessionState.{SessionState}
use Rattle.nam_protocol.specs.Client.{client_verb}
use Rattle.nam_protocol.specs.Commit.{has_intents}
use Rattle.nam_protocol.specs.HoldsWords.{JobHolds}
use Rattle.nam_protocol.specs.Session.{after_by, call_taken, cut_in, jobs_over}
use Rattle.nam_protocol.specs.Session.{session_after, session_cut, session_verb, stopped, treated}
use Rattle.nam_protocol.specs.Session.{verb_by}
use Rattle.nam_protocol.specs.SessionKeeps.{OpensAsked}
use Rattle.nam_protocol.specs.World.{Cut, Step, World, cut_of, session_of, step_by, step_of}
use Rattle.nam_protocol.specs.World.{taken_by, with_session}
use Rattle.nam_protocol.proofs.EndsSession.{session_word}
use Rattle.nam_protocol.proofs.EndsSettled.{session_cut_ends}
use Rattle.nam_store.specs.Store.{Cuts, Store, with_client}
use Rattle.nam_store.specs.Turns.{client_in}
use Rattle.nam_store.specs.Turns.{Goes, RunsJobs, Stays, StepsOn, WorldRuns, WorldTurnsLaw}
use Rattle.nam_store.specs.Turns.{store_of}
use Rattle.nam_store.proofs.Lists.{everyone_put, set_same}
use Rattle.nam_store.proofs.StepLemmas.{step_by as step_goes}
use Rattle.nam_store.proofs.SettleLemmas.{word_along}

-- 1. Lists of sessions

get_map : (sessions : List SessionState) (nth : ℕ) (session : SessionState) → slice_get sessions nth ≡ Some session
    → slice_get (map client_in sessions) nth ≡ Some session.client
get_map [] nth session e = absurd (none-some session e)
get_map (s ∷ sessions) zero session e = ap (λ (x : SessionState). Some x.client) (same_Some s session e)
get_map (s ∷ sessions) (suc nth) session e = get_map sessions nth session e

-- 2. A turn

module _ (shape : Shape) (limits : FitsLimits shape) (world : World) (worker : ℕ) (runs : WorldRuns shape world) where
  -- the store with these words
  abbrev on : List ℕ → Store
  on words = record { words = words; clients = map client_in world.sessions }

  abbrev Turns : World → Type 0
  Turns after = StepsOn shape (store_of world) (store_of after) × WorldRuns shape after

  turned : (session later : SessionState) (words : List ℕ) → session_of world worker ≡ Some session
      → StepsOn shape (store_of world) (with_client (on words) (worker - 1) later.client)
      → RunsJobs shape later → Turns (with_session (record world { words = words }) worker later)
  turned session later words here path is = (
    subst (λ clients. StepsOn shape (store_of world) (record { words = words; clients = clients }))
        (sym (map-set client_in world.sessions (worker - 1) later)) path,
    everyone_put (λ nth session. RunsJobs shape session) world.sessions (worker - 1) later runs is,
  )

  taken_turns : (session : SessionState) (verb : VerbAt Field) → session_of world worker ≡ Some session
      → session_verb shape session ≡ Some verb → Turns (taken_by shape world worker session (verb_there shape verb))
  taken_turns session verb here stands =
      let is = runs (worker - 1) session here in
      let there = verb_there shape verb in
      let found = found_by world.words there in
      let words = after_verb world.words there in
      let has = get_map world.sessions (worker - 1) session here in
      let e : client_verb shape session.client ≡ Some verb =
      ap (λ medic. verb_by shape session medic) (sym is.untreated) ∙ stands in
      let along = word_along shape limits (store_of world) (on words) (worker - 1) session.client has session verb found
      is e (Goes (store_of world) _ Stays (step_goes shape (store_of world) (worker - 1) session.client verb has e)) in
      let same : call_taken shape session found ≡ session_after shape session found =
      ap (λ medic. after_by shape session found medic) (sym is.untreated) in
      turned session (session_after shape session found) words here
      (subst (λ (s : SessionState). StepsOn shape (store_of world) (with_client (on words) (worker - 1) s.client)) same
      along.path)
      record {
        fits = (session_word shape limits session verb found is.fits stands).0;
        opens = subst OpensAsked same along.opens;
        words = subst (λ (s : SessionState). AllByRecursion JobHolds s.jobs) same along.words;
        untreated = subst (λ (s : SessionState). s.client.medic ≡ None) same along.untreated;
      }

  verb_turns : (session : SessionState) (verb : Option (VerbAt Field)) → session_of world worker ≡ Some session
      → session_verb shape session ≡ verb → Turns (step_by shape world worker session verb)
  verb_turns session None here stands = (Stays, runs)
  verb_turns session (Some verb) here stands = taken_turns session verb here stands

  step_turns : (session : Option SessionState) → session_of world worker ≡ session
      → Turns (step_of shape world worker session)
  step_turns None here = (Stays, runs)
  step_turns (Some session) here = verb_turns session (session_verb shape session) here refl

  -- stopped, or as it was
  record Left (session : SessionState) : Type 0 where
    path : StepsOn shape (store_of world) (with_client (on world.words) (worker - 1) session.client)
    opens : OpensAsked session
    words : AllByRecursion JobHolds session.jobs
    untreated : session.client.medic ≡ None

  left_cut : (session : SessionState) → has_intents shape.form ≡ false → Left session → Left (stopped session)
      → Left (session_cut shape.form session)
  left_cut session none left stop =
      either Left (jobs_over session || session.client.cut) session (cut_in shape.form session) left
      (subst (λ (held : Bool). Left
      (if held then treated (stopped session) (At medic_begin) else stopped session)) (sym none) stop)

  session_turns : has_intents shape.form ≡ false → (session : SessionState) → session_of world worker ≡ Some session
      → Turns (with_session world worker (session_cut shape.form session))
  session_turns none session here =
      let is = runs (worker - 1) session here in
      let has = get_map world.sessions (worker - 1) session here in
      let same = set_same (map client_in world.sessions) (worker - 1) session.client has in
      let left = left_cut session none
      record {
        path =
            subst (λ clients. StepsOn shape (store_of world) (record { words = world.words; clients = clients }))
            (sym same) Stays;
        opens = is.opens;
        words = is.words;
        untreated = is.untreated;
      }
      record {
        path = Goes (store_of world) _ Stays (Cuts (worker - 1) session.client has);
        opens = is.opens;
        words = is.words;
        untreated = is.untreated;
      } in
      turned session (session_cut shape.form session) world.words here left.path record {
        fits = (session_cut_ends shape limits session is.fits).fits;
        opens = left.opens;
        words = left.words;
        untreated = left.untreated;
      }

  cut_turns : has_intents shape.form ≡ false → (session : Option SessionState) → session_of world worker ≡ session
      → Turns (cut_of shape world worker session)
  cut_turns none None here = (Stays, runs)
  cut_turns none (Some session) here = session_turns none session here

pub world_turns : WorldTurnsLaw
world_turns shape limits world (Step worker) may runs =
    step_turns shape limits world worker runs (session_of world worker) refl
world_turns shape limits world (Cut worker) may runs =
    cut_turns shape limits world worker runs may (session_of world worker) refl
