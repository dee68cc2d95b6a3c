-- What is claimed of origins, for versions and for commits.
use Rattle.std.proofs.Common.{List, Some, ap, inr, subst, sym, ℕ, ⊎_elim, ◌∙◌, ◌≡◌, ◌≢◌}
use Rattle.std.proofs.lemmas.Bool.{cases_eq}
use Rattle.std.proofs.lemmas.Option.{same_Some}
use Rattle.std.specs.Prelude.{slice_get}
use Rattle.nam_catalog.specs.declared.shape.Shape.{Shape}
use Rattle.nam_ghost.specs.Ghost.{Ghost, ghost_after, ghost_step, opening_ghost}
use Rattle.nam_ghost.specs.Holders.{holder_of}
use Rattle.nam_ghost.specs.Origins.{HasOrigin, IsDoneAs, OriginsOk}
use Rattle.nam_ghost.specs.Publications.{Publication}
use Rattle.nam_ghost.specs.Versions.{Chain, Version}
use Rattle.nam_origins.proofs.StoreLemmas.{abandons_goes, asks_goes, cuts_goes, origins_reached, takes_goes}
use Rattle.nam_origins.specs.Goes.{Goes}
use Rattle.nam_origins.specs.OriginsLaw.{StaysLaw, WrittenLaw}
use Rattle.nam_protocol.specs.Client.{client_abandon, client_after, client_ask}
use Rattle.nam_protocol.specs.CutClient.{client_cut}
use Rattle.nam_protocol.specs.declared.client.ClientState.{ClientState}
use Rattle.nam_store.proofs.Lists.{get_beside, get_set}
use Rattle.nam_store.proofs.ReachedLemmas.{reached_base}
use Rattle.nam_store.specs.Base.{BaseOk}
use Rattle.nam_store.specs.Store.{Abandons, Asks, Cuts, StepsTo, Store, Takes, client_at, found_word, step, with_client}

-- a client, and its commit's record as it is now
abbrev StaysAt : Store → (ℕ → List Publication) → ℕ → ℕ → Version → Type 0
StaysAt after now nth row version =
    (later : ClientState) × (client_at after nth ≡ Some later) × HasOrigin now row version nth later

-- by what the step of one client owes
stays_one : (chains later : ℕ → Chain) (published now : ℕ → List Publication) (at : ℕ) (store : Store)
    (words : List ℕ) (before after : ClientState) → client_at store at ≡ Some before
    → Goes chains later published now at before after → (nth : ℕ) (client : ClientState)
    → client_at store nth ≡ Some client → (row : ℕ) (version : Version) → IsDoneAs (holder_of client) row version
    → StaysAt (with_client (record store { words = words }) at after) now nth row version
stays_one chains later published now at store words before after here goes nth client is row version done =
    ⊎_elim (λ (same : nth ≡ at).
    let client_is : client ≡ before = same_Some client before (sym is ∙ ap (slice_get store.clients) same ∙ here) in
    subst (λ k. StaysAt (with_client (record store { words = words }) at after) now k row version) (sym same) (
      after,
      get_set store.clients at before after here,
      goes.kept row version
          (inr (subst (λ (c : ClientState). IsDoneAs (holder_of c) row version) client_is done)),
    ))
    (λ (apart : nth ≢ at). (client, get_beside store.clients at nth after apart ∙ is, inr done)) (cases_eq nth at)

stays_step : (shape : Shape) (before after : Store) (goes : StepsTo shape before after) (ghost : Ghost)
    → BaseOk shape before → OriginsOk shape before ghost.chains ghost.published → (nth : ℕ) (client : ClientState)
    → client_at before nth ≡ Some client → (row : ℕ) (version : Version) → IsDoneAs (holder_of client) row version
    → StaysAt after (ghost_step shape before after goes ghost).published nth row version
stays_step shape before _ (Takes at client place here runs point) ghost base ok =
    let found = found_word shape before client in
    let later = ghost_after shape at client place found ghost in
    stays_one ghost.chains later.chains ghost.published later.published at before (step shape before at client).words
    client (client_after shape client found) here (takes_goes shape before base ghost ok at client here place point)
stays_step shape before _ (Asks at client asked here may words) ghost base ok =
    stays_one ghost.chains ghost.chains ghost.published ghost.published at before before.words client
    (client_ask shape client asked) here (asks_goes shape before base ghost ok at client here asked may)
stays_step shape before _ (Abandons at client here rests) ghost base ok =
    stays_one ghost.chains ghost.chains ghost.published ghost.published at before before.words client
    (client_abandon client) here (abandons_goes shape before base ghost ok at client here rests)
stays_step shape before _ (Cuts at client here) ghost base ok =
    stays_one ghost.chains ghost.chains ghost.published ghost.published at before before.words client
    (client_cut client) here (cuts_goes shape before base ghost ok at client here)

pub each_written : WrittenLaw
each_written shape limits rows loaded store ghost reached =
    (origins_reached shape limits rows loaded store ghost reached).versions_are

pub done_stays : StaysLaw
done_stays shape limits rows loaded before after ghost reached goes =
    stays_step shape before after goes ghost
    (reached_base shape rows (opening_ghost shape rows) (ghost_step shape) limits loaded before ghost reached)
    (origins_reached shape limits rows loaded before ghost reached)
