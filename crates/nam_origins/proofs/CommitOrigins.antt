-- Each word that a commit takes keeps origins: a version comes only with the header of an installation, and what is
-- done stays so, or is published.
use Rattle.std.proofs.Common.{Bool, List, Some, [], ap, arith, false, inl, inr, refl, subst, sym, true, ℕ, ⊎_elim, ◌++◌}
use Rattle.std.proofs.Common.{◌+◌, ◌<◌, ◌==◌, ◌∙◌, ◌∷◌, ◌≡◌, ◌≢◌, ◌≤◌, ◌⊎◌}
use Rattle.std.proofs.lemmas.Bool.{false≢true}
use Rattle.std.specs.Prelude.{length, slice_get}
use Rattle.nam_calls.proofs.FallsTests.{either}
use Rattle.nam_calls.specs.declared.lock.LockPoint.TheVariants.{GiveBack, Peek, Seize}
use Rattle.nam_calls.specs.declared.record.InstallPoint.TheVariants.{InstallCount, InstallHead, InstallWord}
use Rattle.nam_calls.specs.declared.ring.SlotPoint.{SlotPoint}
use Rattle.nam_catalog.specs.declared.shape.Shape.{Shape}
use Rattle.nam_ghost.proofs.ListLemmas.{got_push}
use Rattle.nam_ghost.specs.Holders.{Holder, done_at, holder_at, holder_now, record_row}
use Rattle.nam_ghost.specs.Moments.{has_published}
use Rattle.nam_ghost.specs.Origins.{IsDoneAs}
use Rattle.nam_ghost.specs.Publications.{Publication, publication_of}
use Rattle.nam_ghost.specs.Steps.{at_record, commit_chains, given_back, locked_for, new_version, published_after}
use Rattle.nam_ghost.specs.Steps.{renewed}
use Rattle.nam_ghost.specs.Versions.{Chain, IsNth, Version, versions}
use Rattle.nam_origins.proofs.ListLemmas.{last_listed, last_push}
use Rattle.nam_origins.specs.Goes.{CommitGoes, GrowsBy, OthersSame, SameVersions, StandsNow}
use Rattle.nam_protocol.proofs.GoesCommit.{EndsAs, GoesTo, commit_goes, holding_locks, on_install_goes, with_count}
use Rattle.nam_protocol.specs.Commit.{commit_after, go, on_install}
use Rattle.nam_protocol.specs.Txn.{Stepped, over}
use Rattle.nam_protocol.specs.TxnFits.{CommitFits}
use Rattle.nam_protocol.specs.declared.client.CallPoint.TheVariants.{InTxn}
use Rattle.nam_protocol.specs.declared.client.Open.{Open}
use Rattle.nam_protocol.specs.declared.txn.CommitPoint.{CommitPoint}
use Rattle.nam_protocol.specs.declared.txn.CommitPoint.TheVariants.{Checking, Clearing, Copying, Counting, Deciding}
use Rattle.nam_protocol.specs.declared.txn.CommitPoint.TheVariants.{Ending, Freeing, Installing, Listing, Locking}
use Rattle.nam_protocol.specs.declared.txn.CommitPoint.TheVariants.{Publishing, Returning, Saving}
use Rattle.nam_protocol.specs.declared.txn.TxnAnswer.{TxnAnswer}
use Rattle.nam_protocol.specs.declared.txn.TxnPoint.TheVariants.{Committing}
use Rattle.nam_protocol.specs.declared.txn.TxnState.{TxnState}
use Rattle.nam_store.proofs.Lists.{put_beside, put_cases, put_here}
use Rattle.nam_store.specs.Everyone.{put}
use Rattle.nam_verbs.specs.declared.now.Now.TheVariants.{At, Over}
use Rattle.si_model.proofs.ListLemmas.{listed_append_left}
use Rattle.si_model.specs.Lists.{Listed, last_of}

-- 1. Chains

module _ (state : TxnState) (chains : ℕ → Chain) where
  same_at : (p : ℕ) (change : Chain → Chain)
      → ((chain : Chain) → versions (change chain) ≡ versions chain)
      → SameVersions chains (at_record state p chains change)
  same_at p change same row =
      let at = record_row state p in
      put_cases (λ (c : Chain). versions c ≡ versions (chains row)) chains at (change (chains at)) row
      (λ e. same (chains at) ∙ ap (λ r. versions (chains r)) (sym e)) (λ apart. refl)

  -- what is neither an installation's header nor anything of a chain's versions
  abbrev pub NoHeader : CommitPoint → Type 0
  NoHeader (Installing p InstallHead) = ⊥
  NoHeader _ = Unit {0}

  pub versions_stay : (at : CommitPoint) (found : ℕ) → NoHeader at
      → SameVersions chains (commit_chains state at found chains)
  versions_stay (Locking Peek) found no_header = λ row. refl
  versions_stay (Locking (Seize header)) found no_header =
      either (SameVersions chains) (found == header)
      (at_record state (length state.held) chains (locked_for state.worker)) chains
      (same_at (length state.held) (locked_for state.worker) (λ chain. refl)) (λ row. refl)
  versions_stay (Locking (GiveBack given word)) found no_header = same_at given given_back (λ chain. refl)
  versions_stay (Returning given full) found no_header = same_at given given_back (λ chain. refl)
  versions_stay (Installing p (InstallWord word)) found no_header =
      same_at p (λ chain. record chain { dirty = true }) (λ chain. refl)
  versions_stay (Installing p InstallCount) found no_header =
      same_at p (λ chain. record chain { counted = true }) (λ chain. refl)
  versions_stay (Installing p InstallHead) found no_header = absurd no_header
  versions_stay (Freeing p) found no_header = same_at p given_back (λ chain. refl)
  versions_stay (Listing at) found no_header = λ row. refl
  versions_stay (Checking at) found no_header = λ row. refl
  versions_stay (Counting p) found no_header = λ row. refl
  versions_stay Deciding found no_header = λ row. refl
  versions_stay (Saving p got) found no_header = λ row. refl
  versions_stay (Copying p old at) found no_header = λ row. refl
  versions_stay Publishing found no_header = λ row. refl
  versions_stay (Clearing refusal) found no_header = λ row. refl
  versions_stay Ending found no_header = λ row. refl

-- 2. A commit's step, with what it was

module _ (state : TxnState) (chains later : ℕ → Chain) (published : ℕ → List Publication) (nth : ℕ) (at : CommitPoint)
  where
    abbrev Steps : (ℕ → List Publication) → Stepped → Type 0
    Steps now = CommitGoes chains later published now nth (holder_at state at) state.worker

    abbrev After : Stepped → Holder
    After step = holder_now state.worker step.state step.call

    grows_none : SameVersions chains later → (holder : Holder) → GrowsBy chains later holder
    grows_none same holder row number version is =
        inl (subst (λ vs. slice_get vs (number + 1) ≡ Some version) (same row) is)

    -- what is done stays so
    abbrev KeepsDone : Stepped → Type 0
    KeepsDone step =
        (row : ℕ) (version : Version) → IsDoneAs (holder_at state at) row version → IsDoneAs (After step) row version

    -- nothing is published, and what is done stays
    stays : (step : Stepped) → GrowsBy chains later (After step)
        → KeepsDone step → StandsNow chains later published published nth step.state step.call → Steps published step
    stays step grows done stands = record {
      grows = grows;
      kept = λ row version is. inr (done row version is);
      listed = λ commit is. is;
      others = λ other apart. refl;
      standing = stands;
    }

    -- no version comes
    goes_still : SameVersions chains later → (step : Stepped)
        → KeepsDone step → StandsNow chains later published published nth step.state step.call → Steps published step
    goes_still same step = stays step (grows_none same (After step))

    -- it has published: so it stands last
    passes : (now : ℕ → List Publication) → SameVersions chains later → done_at state at ≡ length state.writes
        → ((commit : Publication) → Listed commit (published nth) → Listed commit (now nth))
        → ((other : ℕ) → other ≢ nth → now other ≡ published other)
        → last_of (now nth) ≡ Some (publication_of state) → (step : Stepped)
        → StandsNow chains later published now nth step.state step.call → Steps now step
    passes now same all listed others last step stands = record {
      grows = grows_none same (After step);
      kept = λ row version done.
          let less = done.1 in
          inl (
            publication_of state,
            last_listed (now nth) (publication_of state) last,
            (
              done.0,
              omega arith,
              done.2,
              done.3,
            ),
          );
      listed = listed;
      others = others;
      standing = stands;
    }

-- 3. Before the entry is written

-- is the entry written where the commit stands there
abbrev pub publishes : CommitPoint → Bool
publishes next = has_published (Some (At (InTxn (Committing next))))

abbrev pub IsEarly : CommitPoint → Type 0
IsEarly Publishing = ⊥
IsEarly (Freeing nth) = ⊥
IsEarly Ending = ⊥
IsEarly _ = Unit {0}

module _ (P : Stepped → Type 0) (state : TxnState) where
  -- it isn't written with the next point either
  pub early_unpublished : (at next : CommitPoint) → IsEarly at → GoesTo P state at next → publishes next ≡ false
  early_unpublished (Listing at) next early goes = ⊎_elim (λ t. ap publishes t.1) (λ e. ap publishes e) goes
  early_unpublished (Locking at) next early goes = ⊎_elim (λ t. ap publishes t.1) (λ t. ap publishes t.1) goes
  early_unpublished (Checking at) next early goes = ⊎_elim (λ t. ap publishes t.1) (λ t. ap publishes t.1) goes
  early_unpublished (Returning given full) next early goes = ⊎_elim (λ t. ap publishes t.1) (λ e. ap publishes e) goes
  early_unpublished (Counting nth) next early goes = ⊎_elim (λ e. ap publishes e) (λ e. ap publishes e) goes
  early_unpublished Deciding next early goes = ap publishes goes
  early_unpublished (Saving nth got) next early goes = ⊎_elim (λ t. ap publishes t.1) (λ t. ap publishes t.1) goes
  early_unpublished (Copying nth old at) next early goes = ⊎_elim (λ t. ap publishes t.1) (λ e. ap publishes e) goes
  early_unpublished (Installing nth at) next early goes =
      ⊎_elim (λ t. ap publishes t.1) (⊎_elim (λ e. ap publishes e) (λ e. ap publishes e)) goes
  early_unpublished Publishing next early goes = absurd early
  early_unpublished (Freeing nth) next early goes = absurd early
  early_unpublished (Clearing refusal) next early goes = absurd goes
  early_unpublished Ending next early goes = absurd early

  -- nor is less done there
  no_less : (at next : CommitPoint) → IsEarly at → done_at state at ≤ length state.writes → GoesTo P state at next
      → done_at state at ≤ done_at state next
  no_less (Saving nth got) next early most goes =
      ⊎_elim (λ t. subst (λ n. nth ≤ done_at state n) (sym t.1) (omega arith))
      (λ t. subst (λ n. nth ≤ done_at state n) (sym t.1) (omega arith)) goes
  no_less (Copying nth old at) next early most goes =
      ⊎_elim (λ t. subst (λ n. nth ≤ done_at state n) (sym t.1) (omega arith))
      (λ e. subst (λ n. nth ≤ done_at state n) (sym e) (omega arith)) goes
  no_less (Installing nth at) next early most goes =
      ⊎_elim (λ t. subst (λ n. nth ≤ done_at state n) (sym t.1) (omega arith))
      (⊎_elim (λ e. subst (λ n. nth ≤ done_at state n) (sym e) most)
      (λ e. subst (λ n. nth ≤ done_at state n) (sym e) (omega arith))) goes
  no_less Publishing next early most goes = absurd early
  no_less (Freeing nth) next early most goes = absurd early
  no_less Ending next early most goes = absurd early
  no_less _ next early most goes = omega arith

  -- a refusal: nothing was done, so nothing is lost
  ends_early : (at : CommitPoint) (answer : TxnAnswer) → IsEarly at → EndsAs P state at answer → done_at state at ≡ 0
  ends_early (Listing at) answer early ends = refl
  ends_early (Locking at) answer early ends = refl
  ends_early (Checking at) answer early ends = refl
  ends_early (Returning given full) answer early ends = refl
  ends_early (Counting nth) answer early ends = refl
  ends_early Deciding answer early ends = refl
  ends_early (Saving nth got) answer early ends = absurd ends
  ends_early (Copying nth old at) answer early ends = absurd ends
  ends_early (Installing nth at) answer early ends = absurd ends
  ends_early Publishing answer early ends = absurd early
  ends_early (Freeing nth) answer early ends = absurd early
  ends_early (Clearing refusal) answer early ends = refl
  ends_early Ending answer early ends = absurd early

-- 4. Each point

module _ (state : TxnState) (chains later : ℕ → Chain) (published : ℕ → List Publication) (nth : ℕ) where
  abbrev Early : CommitPoint → Stepped → Type 0
  Early at = CommitGoes chains later published published nth (holder_at state at) state.worker

  -- nothing was done
  starts : (at : CommitPoint) → SameVersions chains later → done_at state at ≡ 0 → (step : Stepped)
      → StandsNow chains later published published nth step.state step.call → Early at step
  starts at same none step stands =
      goes_still state chains later published nth at same step
      (λ row version done. let less = done.1 in absurd (omega arith)) stands

  unpublished : (next : CommitPoint) → publishes next ≡ false → (after : TxnState)
      → StandsNow chains later published published nth after (At (Committing next))
  unpublished next none after is = absurd (false≢true (sym none ∙ is))

  -- no version comes, and nothing is published
  early_step : (at : CommitPoint) (found : ℕ) → IsEarly at → SameVersions chains later
      → done_at state at ≤ length state.writes → Early at (commit_after state at found)
  early_step at found early same most =
      let P = Early at in
      commit_goes P state at found
      (λ next goes. goes_still state chains later published nth at same (go state next)
      (λ row version done. let less = done.1 in let more = no_less P state at next early most goes in
      (done.0, omega arith, done.2, done.3))
      (unpublished next (early_unpublished P state at next early goes) state))
      (λ header next here goes. let after = holding_locks state (state.held ++ header ∷ []) in
      starts at same (ap (done_at state) here) (go after next)
      (unpublished next (⊎_elim (λ e. ap publishes e) (λ e. ap publishes e) goes) after))
      (λ slot count next here goes. let after = with_count state count in
      starts at same (ap (done_at state) here) (go after next)
      (unpublished next (⊎_elim (λ e. ap publishes e) (⊎_elim (λ e. ap publishes e) (λ e. ap publishes e)) goes) after))
      (λ answer ends. starts at same (ends_early P state at answer early ends) (over state answer) tt)

  -- the entry is written, or was: a commit that goes on has published
  late_step : (now : ℕ → List Publication) (at : CommitPoint) (found : ℕ) → SameVersions chains later
      → done_at state at ≡ length state.writes
      → ((header : ℕ) → at ≡ Locking (Seize header) → ⊥) → ((slot : SlotPoint) → at ≡ Checking slot → ⊥)
      → ((commit : Publication) → Listed commit (published nth) → Listed commit (now nth))
      → OthersSame nth published now → last_of (now nth) ≡ Some (publication_of state)
      → CommitGoes chains later published now nth (holder_at state at) state.worker (commit_after state at found)
  late_step now at found same all not_lock not_slot listed others last =
      let P = CommitGoes chains later published now nth (holder_at state at) state.worker in
      let passed = passes state chains later published nth at now same all listed others last in
      commit_goes P state at found (λ next goes. passed (go state next) (λ is. last))
      (λ header next here goes. absurd (not_lock header here))
      (λ slot count next here goes. absurd (not_slot slot here)) (λ answer ends. passed (over state answer) tt)

  -- The new version comes with its header. The next point has one record more done.
  module _ (p : ℕ) (less : p < length state.writes) where
    abbrev install : CommitPoint
    install = Installing p InstallHead

    install_next : (next : CommitPoint) → publishes next ≡ false → p < done_at state next
        → GrowsBy chains later (holder_at state next) → Early install (go state next)
    install_next next none done grows =
        stays state chains later published nth install (go state next) grows
        (λ row version was. let less = was.1 in (was.0, omega arith, was.2, was.3)) (unpublished next none state)

    install_step : ((next : CommitPoint) → p < done_at state next → GrowsBy chains later (holder_at state next))
        → Early install (on_install state p (Over tt))
    install_step grows =
        on_install_goes (Early install) state p (Over tt) (λ place e. absurd cc)
        (λ e last. install_next Publishing refl less (grows Publishing less))
        (λ e more. let done : p < p + 1 = omega arith in
        install_next (Saving (p + 1) []) refl done (grows (Saving (p + 1) []) done))

module _ (state : TxnState) (chains : ℕ → Chain) (p : ℕ) where
  -- it is the one version more of its row
  installed : (next : CommitPoint) → p < done_at state next
      → GrowsBy chains (at_record state p chains (renewed (new_version state p))) (holder_at state next)
  installed next done row number version =
      let at = record_row state p in
      put_cases (λ (c : Chain). IsNth c (number + 1) version
      → IsNth (chains row) (number + 1) version ⊎ IsDoneAs (holder_at state next) row version)
      chains at (renewed (new_version state p) (chains at)) row
      (λ here got. ⊎_elim (λ old. inl (subst (λ r. IsNth (chains r) (number + 1) version) (sym here) old))
      (λ (new : (number + 1 ≡ length (versions (chains at))) × (new_version state p ≡ version)).
      inr (p, done, sym here, sym new.1))
      (got_push (versions (chains at)) (new_version state p) version (number + 1) got))
      (λ apart got. inl got)

-- 5. Each point

module _ (shape : Shape) (attempt : Open) (chains : ℕ → Chain) (published : ℕ → List Publication) (nth : ℕ) where
  abbrev state : TxnState
  state = attempt.state

  -- what the word of a point comes to
  abbrev pub Taken : CommitPoint → ℕ → Type 0
  Taken at found =
      CommitGoes chains (commit_chains state at found chains) published
      (published_after nth (Some attempt) (InTxn (Committing at)) published) nth (holder_at state at) state.worker
      (commit_after state at found)

  -- what such a word comes to where it publishes nothing
  abbrev Unpublished : CommitPoint → ℕ → Type 0
  Unpublished at found =
      CommitGoes chains (commit_chains state at found chains) published published nth (holder_at state at)
      state.worker (commit_after state at found)

  -- a word that is none of an installation's header, before the entry is written
  early : (at : CommitPoint) (found : ℕ) → IsEarly at → NoHeader state chains at
      → done_at state at ≤ length state.writes → Unpublished at found
  early at found is no_header most =
      early_step state chains (commit_chains state at found chains) published nth at found is
      (versions_stay state chains at found no_header) most

  -- one that frees its guards or clears its intent stands last
  late : (at : CommitPoint) (found : ℕ) → NoHeader state chains at → done_at state at ≡ length state.writes
      → ((header : ℕ) → at ≡ Locking (Seize header) → ⊥) → ((slot : SlotPoint) → at ≡ Checking slot → ⊥)
      → last_of (published nth) ≡ Some (publication_of state) → Unpublished at found
  late at found no_header all not_lock not_slot last =
      late_step state chains (commit_chains state at found chains) published nth published at found
      (versions_stay state chains at found no_header) all not_lock not_slot (λ commit is. is) (λ other apart. refl) last

  pub commit_origins : (at : CommitPoint) (found : ℕ) → CommitFits shape state at
      → (publishes at ≡ true → last_of (published nth) ≡ Some (publication_of state)) → Taken at found
  commit_origins (Listing at) found c stands = early (Listing at) found tt tt (omega arith)
  commit_origins (Locking at) found c stands = early (Locking at) found tt tt (omega arith)
  commit_origins (Checking at) found c stands = early (Checking at) found tt tt (omega arith)
  commit_origins (Returning given full) found c stands = early (Returning given full) found tt tt (omega arith)
  commit_origins (Counting p) found c stands = early (Counting p) found tt tt (omega arith)
  commit_origins Deciding found c stands = early Deciding found tt tt (omega arith)
  commit_origins (Saving p got) found c stands = let less = c.2.2 in early (Saving p got) found tt tt (omega arith)
  commit_origins (Copying p old at) found c stands =
      let less = c.2.2 in early (Copying p old at) found tt tt (omega arith)
  commit_origins (Installing p (InstallWord word)) found c stands =
      let less = c.2.2 in early (Installing p (InstallWord word)) found tt tt (omega arith)
  commit_origins (Installing p InstallCount) found c stands =
      let less = c.2.2 in early (Installing p InstallCount) found tt tt (omega arith)
  commit_origins (Installing p InstallHead) found c stands =
      install_step state chains (at_record state p chains (renewed (new_version state p))) published nth p c.2.2
      (installed state chains p)
  commit_origins Publishing found c stands =
      let commit = publication_of state in
      let now = put published nth (published nth ++ commit ∷ []) in
      let here = put_here published nth (published nth ++ commit ∷ []) in
      late_step state chains chains published nth now Publishing found (λ row. refl) refl (λ header e. cc)
      (λ slot e. cc)
      (λ other is. subst (Listed other) (sym here) (listed_append_left (published nth) (commit ∷ []) other is))
      (λ other apart. put_beside published nth (published nth ++ commit ∷ []) other apart)
      (ap last_of here ∙ last_push (published nth) commit)
  commit_origins (Freeing p) found c stands =
      late (Freeing p) found tt refl (λ header e. cc) (λ slot e. cc) (stands refl)
  commit_origins (Clearing refusal) found c stands = early (Clearing refusal) found tt tt (omega arith)
  commit_origins Ending found c stands =
      late Ending found tt refl (λ header e. cc) (λ slot e. cc) (stands refl)
