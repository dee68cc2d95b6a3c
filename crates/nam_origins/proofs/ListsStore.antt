-- Each step of a store keeps what logs list; and what that comes to for a client without a published commit in flight.
use Rattle.std.proofs.Common.{List, None, Option, Some, [], ap, arith, length, refl, subst, sym, ℕ, ◌++◌, ◌+◌, ◌∙◌, ◌∷◌}
use Rattle.std.proofs.Common.{◌≡◌}
use Rattle.std.proofs.lemmas.Option.{none-some, slice_get_within}
use Rattle.nam_calls.specs.Memory.{memory}
use Rattle.nam_catalog.specs.Fits.{FitsLimits}
use Rattle.nam_catalog.specs.declared.shape.Shape.{Shape}
use Rattle.nam_ghost.proofs.IdleLemmas.{aside_idle, rests_aside, same_place}
use Rattle.nam_ghost.specs.Ghost.{Ghost, IsReachedWith, ghost_step, opening_ghost}
use Rattle.nam_ghost.specs.Idle.{IsIdle}
use Rattle.nam_ghost.specs.Keys.{ClaimsOk, KeysNext, KeysOk}
use Rattle.nam_ghost.specs.Moments.{has_published}
use Rattle.nam_ghost.specs.Origins.{AreListed, IsStanding, ListedOk, listed_commits}
use Rattle.nam_ghost.specs.Publications.{Publication, publication_of}
use Rattle.nam_ghost.specs.Steps.{published_after}
use Rattle.nam_header.specs.Header.{flag}
use Rattle.nam_layout.specs.declared.field.Field.{Field}
use Rattle.nam_origins.proofs.ClientLists.{AreRows, Pending, quiet_lists, quiet_log}
use Rattle.nam_origins.proofs.ListsWords.{commit_lists, commit_log}
use Rattle.nam_origins.proofs.LogKinds.{log_stands}
use Rattle.nam_origins.proofs.LogWords.{abandoned_log, asked_log, word_log}
use Rattle.nam_origins.proofs.MatchLemmas.{matches_still}
use Rattle.nam_origins.proofs.StoreLemmas.{origins_reached}
use Rattle.nam_origins.proofs.WordLemmas.{asked_unpublished, idle_published, idle_unpublished, rests_idle, word_cases}
use Rattle.nam_origins.specs.Goes.{OthersSame}
use Rattle.nam_origins.specs.ListedLaw.{AllListedLaw, ListsKeepLaw, ListsOpenLaw, LogsKeepLaw, LogsOpenLaw}
use Rattle.nam_origins.specs.ListedLaw.{LogsReachedLaw}
use Rattle.nam_origins.specs.Lists.{LogGoes, Matches}
use Rattle.nam_origins.specs.Logs.{LogOk, LogsOk, pending}
use Rattle.nam_protocol.proofs.PlainLemmas.{abandon_plain}
use Rattle.nam_protocol.specs.Client.{after_call, client_abandon, client_after, client_ask}
use Rattle.nam_protocol.specs.Commit.{commit_after}
use Rattle.nam_protocol.specs.CutClient.{client_cut}
use Rattle.nam_protocol.specs.Own.{IsOpenNow}
use Rattle.nam_protocol.specs.Sorts.{StepOf, committing_at}
use Rattle.nam_protocol.specs.Telling.{stepped}
use Rattle.nam_protocol.specs.declared.client.CallPoint.{CallPoint}
use Rattle.nam_protocol.specs.declared.client.CallPoint.TheVariants.{InTxn}
use Rattle.nam_protocol.specs.declared.client.ClientState.{ClientState}
use Rattle.nam_protocol.specs.declared.client.Open.{Open}
use Rattle.nam_protocol.specs.declared.txn.CommitPoint.TheVariants.{Publishing}
use Rattle.nam_protocol.specs.declared.txn.TxnPoint.TheVariants.{Committing}
use Rattle.nam_store.proofs.BaseLemmas.{asked_sort, step_sort}
use Rattle.nam_store.proofs.Lists.{everyone_set, put_beside, some_within}
use Rattle.nam_store.proofs.OpeningLemmas.{opening_client}
use Rattle.nam_store.proofs.ReachedLemmas.{reached_holds}
use Rattle.nam_store.specs.Base.{BaseOk, ClientOk}
use Rattle.nam_store.specs.Everyone.{Everyone}
use Rattle.nam_store.specs.Opening.{AreLoaded, opening_store}
use Rattle.nam_store.specs.Reached.{Opened, Stepped}
use Rattle.nam_store.specs.Store.{Abandons, Asks, Cuts, StepsTo, Store, Takes, client_at, found_word, step, with_client}
use Rattle.nam_verbs.specs.declared.now.Now.TheVariants.{At}
use Rattle.si_model.specs.declared.row.Row.{Row}

-- 1. All other clients

module _ (shape : Shape) (published now : ℕ → List Publication) (nth : ℕ) (others : OthersSame nth published now)
    (store : Store) (words : List ℕ) (after : ClientState) where
  abbrev Later : Store
  Later = with_client (record store { words = words }) nth after

  logs_go : LogsOk shape store published → LogOk shape now nth after → LogsOk shape Later now
  logs_go all here =
      everyone_set (LogOk shape published) (LogOk shape now) store.clients nth after all
      (λ other client apart at ok. record {
        writes = ok.writes;
        owned = ok.owned;
        snaps = ok.snaps;
        all_owned = ok.all_owned;
        rows = subst (λ ps. AreRows shape ps) (sym (others other apart)) ok.rows;
      }) here

  -- what the others have listed they list, since key words stand
  lists_go : (m later : Field → ℕ) → KeysNext shape m later → LogsOk shape store published
      → Everyone (AreListed shape m published) store.clients → AreListed shape later now nth after
      → Everyone (AreListed shape later now) Later.clients
  lists_go m later next logs all here =
      everyone_set (AreListed shape m published) (AreListed shape later now) store.clients nth after all
      (λ other client apart at are. other_lists other client (others other apart) (logs other client at) are) here
    where
      other_lists : (other : ℕ) (client : ClientState) → now other ≡ published other
          → LogOk shape published other client → AreListed shape m published other client
          → AreListed shape later now other client
      other_lists other client same ok are =
          let late = flag (has_published client.call) in
          let listed = listed_commits client in
          let all : Matches shape m (published other) listed late = record { count = are.count; each = are.each } in
          let stands = subst (λ ps. Matches shape later ps listed late) (sym same)
          (matches_still shape m later next (published other) listed late ok.rows all) in
          record { count = stands.count; each = stands.each }

-- 2. A word is taken

module _ (shape : Shape) (limits : FitsLimits shape) (published : ℕ → List Publication) (nth found : ℕ) where
  -- what it comes to, by the log and by what it lists
  abbrev Logged : CallPoint → ClientState → ClientState → Type 0
  Logged place before after = LogOk shape (published_after nth before.txn place published) nth after

  abbrev Listed : (Field → ℕ) → CallPoint → ClientState → ClientState → Type 0
  Listed later place before after = AreListed shape later (published_after nth before.txn place published) nth after

  idle_same : (place : CallPoint) (client : ClientState) → IsIdle client.call → client.call ≡ Some (At place)
      → published_after nth client.txn place published nth ≡ published nth
  idle_same place client idle at =
      ap (λ ps. ps nth) (idle_published nth client.txn place published (subst IsIdle at idle))

  -- of a client without a commit
  idle_goes : (place : CallPoint) (client : ClientState) → IsIdle client.call → client.call ≡ Some (At place)
      → ClientOk shape nth client → LogGoes (Pending client) client (client_after shape client found) []
  idle_goes place client idle at ok =
      subst (λ now. LogGoes (pending client.txn now) client (after_call shape client now found) []) (sym at)
      (word_log shape client found place (subst IsIdle at idle)
      (subst (IsOpenNow client.txn) at ok.opened))

  pub word_logged : (place : CallPoint) (before after : ClientState) → StepOf shape found before after
      → after ≡ client_after shape before found → before.call ≡ Some (At place) → ClientOk shape nth before
      → LogOk shape published nth before → Logged place before after
  word_logged place before after sort =
      word_cases shape found (λ before after. after ≡ client_after shape before found
      → before.call ≡ Some (At place) → ClientOk shape nth before → LogOk shape published nth before
      → Logged place before after) before after sort
      (λ before after idle later is at ok log. subst (Logged place before) (sym is)
      (quiet_log shape published (published_after nth before.txn place published) nth before
      (client_after shape before found) (idle_same place before idle at) log (idle_goes place before idle at ok)))
      (λ client attempt point is at ok log.
      let before = committing_at client attempt point in
      subst (λ p. Logged p before
      (stepped before attempt (length attempt.state.held) (commit_after attempt.state point found)))
      (sym (same_place place (InTxn (Committing point)) at))
      (commit_log shape limits published nth found client attempt point ok log))

  module _ (m later : Field → ℕ) (next : KeysNext shape m later) where
    pub word_listed : (place : CallPoint) (before after : ClientState) → StepOf shape found before after
        → after ≡ client_after shape before found → before.call ≡ Some (At place) → ClientOk shape nth before
        → ClaimsOk shape m before.txn → IsStanding published nth before → LogOk shape published nth before
        → AreListed shape m published nth before → Listed later place before after
    word_listed place before after sort =
        word_cases shape found (λ before after. after ≡ client_after shape before found
        → before.call ≡ Some (At place) → ClientOk shape nth before → ClaimsOk shape m before.txn
        → IsStanding published nth before → LogOk shape published nth before → AreListed shape m published nth before
        → Listed later place before after) before after sort
        (λ before after idle after_idle is at ok claims stands log are.
        quiet_lists shape published (published_after nth before.txn place published) nth before after
        (idle_same place before idle at) log
        (subst (λ c. LogGoes (Pending before) before c []) (sym is) (idle_goes place before idle at ok)) m later next
        (idle_unpublished after.call after_idle ∙ sym (idle_unpublished before.call idle)) are)
        (λ client attempt point is at ok claims stands log are.
        let before = committing_at client attempt point in
        subst (λ p. Listed later p before
        (stepped before attempt (length attempt.state.held) (commit_after attempt.state point found)))
        (sym (same_place place (InTxn (Committing point)) at))
        (commit_lists shape limits published nth found client attempt m later next claims point ok stands log are))

-- 3. One step

module _ (shape : Shape) (store : Store) (base : BaseOk shape store) (ghost : Ghost)
    (logs : LogsOk shape store ghost.published) (nth : ℕ) (client : ClientState)
    (here : client_at store nth ≡ Some client) where
  abbrev same : OthersSame nth ghost.published ghost.published
  same other apart = refl

  -- with the words as they are, and nothing published
  rested_logs : (after : ClientState) → LogGoes (Pending client) client after []
      → LogsOk shape (with_client store nth after) ghost.published
  rested_logs after goes =
      logs_go shape ghost.published ghost.published nth same store store.words after logs
      (quiet_log shape ghost.published ghost.published nth client after refl (logs nth client here) goes)

  module _ (next : KeysNext shape (memory shape store.words) (memory shape store.words)) where
    rested_lists : (after : ClientState) → LogGoes (Pending client) client after []
        → has_published after.call ≡ has_published client.call → ListedOk shape store ghost.published
        → ListedOk shape (with_client store nth after) ghost.published
    rested_lists after goes flags all =
        let m = memory shape store.words in
        lists_go shape ghost.published ghost.published nth same store store.words after m m next logs all
        (quiet_lists shape ghost.published ghost.published nth client after refl (logs nth client here) goes m m next
        flags (all nth client here))

published_others : (nth : ℕ) (opened : Option Open) (place : CallPoint) (published : ℕ → List Publication)
    → OthersSame nth published (published_after nth opened place published)
published_others nth (Some attempt) (InTxn (Committing Publishing)) published other apart =
    put_beside published nth (published nth ++ publication_of attempt.state ∷ []) other apart
published_others nth (Some attempt) (InTxn (Committing _)) published other apart = refl
published_others nth (Some attempt) (InTxn _) published other apart = refl
published_others nth (Some attempt) _ published other apart = refl
published_others nth None place published other apart = refl

pub logs_keep : LogsKeepLaw
logs_keep shape before _ (Takes nth client place here runs at) ghost base logs =
    let found = found_word shape before client in
    let now = published_after nth client.txn place ghost.published in
    logs_go shape ghost.published now nth (published_others nth client.txn place ghost.published) before
    (step shape before nth client).words (client_after shape client found) logs
    (word_logged shape base.limits ghost.published nth found place client (client_after shape client found)
    (step_sort shape before base nth client here place at) refl at (base.clients nth client here)
    (logs nth client here))
logs_keep shape before _ (Asks nth client asked here may words) ghost base logs =
    rested_logs shape before base ghost logs nth client here (client_ask shape client asked)
    (asked_log shape client asked may.rests)
logs_keep shape before _ (Abandons nth client here rests) ghost base logs =
    rested_logs shape before base ghost logs nth client here (client_abandon client) (abandoned_log shape client rests)
logs_keep shape before _ (Cuts nth client here) ghost base logs =
    rested_logs shape before base ghost logs nth client here (client_cut client)
    (log_stands (Pending client) client (client_cut client) (record { worker = refl; writes = refl; snaps = refl }) refl
    refl)

pub lists_keep : ListsKeepLaw
lists_keep shape before _ (Takes nth client place here runs at) ghost base origins keys next logs all =
    let found = found_word shape before client in
    let now = published_after nth client.txn place ghost.published in
    let words = (step shape before nth client).words in
    let m = memory shape before.words in
    lists_go shape ghost.published now nth (published_others nth client.txn place ghost.published) before words
    (client_after shape client found) m (memory shape words) next logs all
    (word_listed shape base.limits ghost.published nth found m (memory shape words) next place client
    (client_after shape client found) (step_sort shape before base nth client here place at) refl at
    (base.clients nth client here) (keys.clients nth client here).claims (origins.standing nth client here)
    (logs nth client here) (all nth client here))
lists_keep shape before _ (Asks nth client asked here may words) ghost base origins keys next logs all =
    let after = client_ask shape client asked in
    rested_lists shape before base ghost logs nth client here next after (asked_log shape client asked may.rests)
    (asked_unpublished shape client after (asked_sort shape before base nth client here asked may)
    ∙ sym (idle_unpublished client.call (rests_idle client may.rests))) all
lists_keep shape before _ (Abandons nth client here rests) ghost base origins keys next logs all =
    let plain = abandon_plain shape client (rests_aside client.call rests) in
    rested_lists shape before base ghost logs nth client here next (client_abandon client)
    (abandoned_log shape client rests)
    (idle_unpublished _ (aside_idle _ plain.aside) ∙ sym (idle_unpublished client.call (rests_idle client rests))) all
lists_keep shape before _ (Cuts nth client here) ghost base origins keys next logs all =
    rested_lists shape before base ghost logs nth client here next (client_cut client)
    (log_stands (Pending client) client (client_cut client) (record { worker = refl; writes = refl; snaps = refl }) refl
    refl) refl all

-- 4. The opening, and every store

pub logs_open : LogsOpenLaw
logs_open shape limits rows loaded nth client here =
    let new = (opening_client shape rows nth client here).1 in
    subst (LogOk shape (opening_ghost shape rows).published nth) (sym new)
    (record { writes = refl; owned = []; snaps = refl; all_owned = refl; rows = λ commit none. absurd none })

pub lists_open : ListsOpenLaw
lists_open shape limits rows loaded nth client here =
    let new = (opening_client shape rows nth client here).1 in
    subst (AreListed shape (memory shape (opening_store shape rows).words) (opening_ghost shape rows).published nth)
    (sym new) (record { count = refl; each = λ k commit listed none. absurd (none-some commit none) })

pub logs_reached : LogsReachedLaw
logs_reached shape limits rows loaded =
    reached_holds shape rows (opening_ghost shape rows) (ghost_step shape) limits loaded
    (λ store ghost. LogsOk shape store ghost.published) (logs_open shape limits rows loaded)
    (λ before after ghost goes base logs. logs_keep shape before after goes ghost base logs)

-- where keys are as they are claimed to be
pub lists_reached : (shape : Shape) → FitsLimits shape → (rows : List Row) → AreLoaded shape rows
    → ((store : Store) (ghost : Ghost) → IsReachedWith shape rows store ghost → KeysOk shape store ghost.chains)
    → ((before after : Store) → StepsTo shape before after → BaseOk shape before
    → KeysNext shape (memory shape before.words) (memory shape after.words))
    → (store : Store) (ghost : Ghost) → IsReachedWith shape rows store ghost → ListedOk shape store ghost.published
lists_reached shape limits rows loaded keys next store ghost reached =
    (reached_holds shape rows (opening_ghost shape rows) (ghost_step shape) limits loaded
    (λ s g. IsReachedWith shape rows s g × ListedOk shape s g.published)
    (Opened, lists_open shape limits rows loaded)
    (λ before after g goes base both. (
      Stepped before after g both.0 goes,
      lists_keep shape before after goes g base
          (origins_reached shape limits rows loaded before g both.0) (keys before g both.0)
          (next before after goes base) (logs_reached shape limits rows loaded before g both.0) both.1,
    )) store ghost reached).1

-- 5. What it comes to

pub all_listed : AllListedLaw
all_listed shape store published all nth client here none =
    let are = all nth client here in
    let count : length (listed_commits client) + 0 ≡ length (published nth) =
    ap (λ b. length (listed_commits client) + flag b) (sym none) ∙ are.count in
    record {
      count = (let z : length (listed_commits client) ≡ length (published nth) = omega arith in z);
      each = λ k commit at.
          let less = slice_get_within (published nth) k commit at in
          let listed = some_within (listed_commits client) k (omega arith) in
          (listed.0, listed.1, are.each k commit listed.0 at listed.1);
    }
