-- The world in which nothing was done yet comes about from the opening by the calls that its drivers ask first.
use Rattle.std.proofs.Common.{List, Some, ap, arith, length, map, refl, subst, suc, sym}
use Rattle.std.proofs.Common.{append_assoc, zero, ℕ, ◌+◌, ◌++◌, ◌∷◌, ◌≡◌, ◌≤◌, []}
use Rattle.std.specs.List.{AllByRecursion}
use Rattle.std.specs.Prelude.{slice_get, slice_set}
use Rattle.std.proofs.lemmas.Option.{none-some, same_Some}
use Rattle.si_model.specs.declared.op.Policy.{Policy}
use Rattle.nam_catalog.specs.declared.shape.Shape.{Shape}
use Rattle.nam_catalog.specs.Fits.{FitsLimits}
use Rattle.nam_calls.specs.Fits.{IsOf}
use Rattle.nam_protocol.specs.declared.client.ClientState.{ClientState}
use Rattle.nam_protocol.specs.declared.session.Job.{Job}
use Rattle.nam_protocol.specs.declared.session.SessionState.{SessionState}
use Rattle.nam_protocol.specs.HoldsWords.{JobHolds}
use Rattle.nam_protocol.specs.Session.{new_session}
use Rattle.nam_protocol.specs.SessionFits.{JobFits}
use Rattle.nam_protocol.specs.World.{new_sessions}
use Rattle.nam_protocol.specs.Opening.{opening_words}
use Rattle.nam_protocol.specs.Telling.{new_client}
use Rattle.nam_protocol.proofs.EndsSession.{new_session_ends}
use Rattle.nam_store.specs.Store.{Store}
use Rattle.nam_store.specs.Turns.{client_in}
use Rattle.nam_store.specs.Turns.{RunsJobs, Stays, StepsOn, WorldOpensLaw}
use Rattle.nam_store.specs.Everyone.{Everyone}
use Rattle.nam_store.specs.Opening.{new_clients, opening_store}
use Rattle.nam_store.proofs.SettleLemmas.{new_along}
use Rattle.nam_store.proofs.Lists.{set_same}

-- 1. Lists of clients

get_append : {A : Type 0} (front : List A) (x : A) (more : List A)
    → slice_get (front ++ x ∷ more) (length front) ≡ Some x
get_append [] x more = refl
get_append (a ∷ front) x more = get_append front x more

set_append : {A : Type 0} (front : List A) (x y : A) (more : List A)
    → slice_set (front ++ x ∷ more) (length front) y ≡ (front ++ y ∷ []) ++ more
set_append [] x y more = refl
set_append (a ∷ front) x y more = ap (λ l. a ∷ l) (set_append front x y more)

-- 2. New sessions

module _ (shape : Shape) (limits : FitsLimits shape) (policy : Policy) (least : 1 ≤ policy.tries) where
  abbrev session_from : ℕ → List Job → SessionState
  session_from worker jobs = new_session shape (new_client worker shape.start) jobs policy

  new_runs : (worker : ℕ) (jobs : List Job) → IsOf shape.workers worker → AllByRecursion (JobFits shape) jobs
      → AllByRecursion JobHolds jobs → RunsJobs shape (session_from worker jobs)
  new_runs worker jobs is fit words =
      let alone : Store = record { words = []; clients = new_client worker shape.start ∷ [] } in
      let along = new_along shape limits alone alone 0 (new_client worker shape.start) refl worker jobs policy is fit
      words least Stays in
      record {
        fits = (new_session_ends shape limits worker shape.start jobs policy is limits.start fit least).0;
        opens = along.opens;
        words = along.words;
        untreated = along.untreated;
      }

  all_run : (worker : ℕ) (jobs : List (List Job)) → 1 ≤ worker → worker + length jobs ≤ shape.workers + 1
      → AllByRecursion (AllByRecursion (JobFits shape)) jobs → AllByRecursion (AllByRecursion JobHolds) jobs
      → Everyone (λ nth session. RunsJobs shape session) (new_sessions shape policy worker jobs)
  all_run worker [] first within fit words nth session e = absurd (none-some session e)
  all_run worker (job ∷ jobs) first within fit words zero session e =
      subst (RunsJobs shape) (same_Some (session_from worker job) session e)
      (new_runs worker job (first, (omega arith)) fit.0 words.0)
  all_run worker (job ∷ jobs) first within fit words (suc nth) session e =
      all_run (worker + 1) jobs (omega arith) (omega arith) fit.1 words.1 nth session e

  -- the clients from this worker on are asked their calls
  module _ (opening : Store) (words : List ℕ) where
    abbrev To : List ClientState → Type 0
    To clients = StepsOn shape opening (record { words = words; clients = clients })

    new_to : (front : List ClientState) (worker : ℕ) (jobs : List (List Job)) → 1 ≤ worker
        → worker + length jobs ≤ shape.workers + 1 → AllByRecursion (AllByRecursion (JobFits shape)) jobs
        → AllByRecursion (AllByRecursion JobHolds) jobs → To (front ++ new_clients shape.start worker (length jobs))
        → To (front ++ map client_in (new_sessions shape policy worker jobs))
    new_to front worker [] first within fit holds to = to
    new_to front worker (job ∷ jobs) first within fit holds to =
        let new = new_client worker shape.start in
        let more = new_clients shape.start (worker + 1) (length jobs) in
        let store : Store = record { words = words; clients = front ++ new ∷ more } in
        let has = get_append front new more in
        let same = set_same (front ++ new ∷ more) (length front) new has in
        let along = new_along shape limits opening store (length front) new has worker job policy
        (first, (omega arith)) fit.0 holds.0 least (subst To (sym same) to) in
        let client = (session_from worker job).client in
        subst To (append_assoc front (client ∷ []) (map client_in (new_sessions shape policy (worker + 1) jobs)))
        (new_to (front ++ client ∷ []) (worker + 1) jobs (omega arith) (omega arith) fit.1 holds.1
        (subst To (set_append front new client more) along.path))

pub world_opens : WorldOpensLaw
world_opens shape limits rows policy jobs least workers fit holds = (
  new_to shape limits policy least (opening_store shape rows) (opening_words shape rows) [] 1 jobs (omega arith)
      (omega arith) fit holds
      (subst (λ n. StepsOn shape (opening_store shape rows)
      (record { words = opening_words shape rows; clients = new_clients shape.start 1 n })) (sym workers) Stays),
  all_run shape limits policy least 1 jobs (omega arith) (omega arith) fit holds,
)
