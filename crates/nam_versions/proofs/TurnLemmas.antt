-- What a word makes of chains and of publications, by the point at which its client is.
use Rattle.std.proofs.Common.{List, None, Option, Some, ap, arith, length, option_map, refl, subst, sym, true, ℕ, ◌+◌}
use Rattle.std.proofs.Common.{◌==◌, ◌∙◌, ◌≡◌}
use Rattle.std.proofs.lemmas.Option.{slice_get-map}
use Rattle.nam_calls.specs.Fits.{HasWidth}
use Rattle.nam_calls.specs.Memory.{memory}
use Rattle.nam_calls.specs.declared.lock.LockPoint.TheVariants.{GiveBack, Peek, Seize}
use Rattle.nam_calls.specs.declared.record.InstallPoint.TheVariants.{InstallCount, InstallHead, InstallWord}
use Rattle.nam_catalog.specs.declared.shape.Shape.{Shape}
use Rattle.nam_ghost.proofs.EntryLemmas.{IsNoEntry, commit_no_entry}
use Rattle.nam_ghost.proofs.SnapshotLemmas.{observer_ok}
use Rattle.nam_ghost.specs.Holders.{holder_of, record_row}
use Rattle.nam_ghost.specs.Idle.{at_place}
use Rattle.nam_ghost.specs.Locks.{HolderOk, LocksOk}
use Rattle.nam_ghost.specs.Moments.{MomentsOk, Observer, ObserverOk, observer_of, vector_of}
use Rattle.nam_ghost.specs.Publications.{Publication, publication_of}
use Rattle.nam_ghost.specs.Steps.{at_record, chains_after, commit_chains, given_back, locked_for, new_version}
use Rattle.nam_ghost.specs.Steps.{published_after, renewed}
use Rattle.nam_ghost.specs.Versions.{Chain}
use Rattle.nam_layout.specs.Address.{IsField}
use Rattle.nam_layout.specs.Rows.{width_at}
use Rattle.nam_layout.specs.declared.field.Field.{Field}
use Rattle.nam_layout.specs.declared.field.Field.TheVariants.{Entry}
use Rattle.nam_layout.specs.declared.field.Place.{Place}
use Rattle.nam_protocol.proofs.FieldLemmas.{placed, written_less}
use Rattle.nam_protocol.proofs.GivesCommit.{commit_gives}
use Rattle.nam_protocol.specs.Commit.{record_place, value_at}
use Rattle.nam_protocol.specs.Sorts.{committing_at}
use Rattle.nam_protocol.specs.declared.client.CallPoint.{CallPoint}
use Rattle.nam_protocol.specs.declared.client.CallPoint.TheVariants.{InTxn}
use Rattle.nam_protocol.specs.declared.client.ClientState.{ClientState}
use Rattle.nam_protocol.specs.declared.client.Open.{Open}
use Rattle.nam_protocol.specs.declared.txn.CommitPoint.{CommitPoint}
use Rattle.nam_protocol.specs.declared.txn.CommitPoint.TheVariants.{Freeing, Installing, Locking, Publishing, Returning}
use Rattle.nam_protocol.specs.declared.txn.TxnPoint.TheVariants.{Committing}
use Rattle.nam_protocol.specs.declared.txn.TxnState.{TxnState}
use Rattle.nam_store.proofs.BaseLemmas.{client_within}
use Rattle.nam_store.proofs.KindsLemmas.{AllWritten}
use Rattle.nam_store.proofs.Lists.{put_cases}
use Rattle.nam_store.specs.Base.{BaseOk, ClientOk}
use Rattle.nam_store.specs.Changed.{Does}
use Rattle.nam_store.specs.Store.{Store, client_at, step}
use Rattle.nam_verbs.proofs.TestLemmas.{by_test}
use Rattle.nam_versions.specs.Turn.{Adds, ChainGoes, Installs, Keeps, PublishedGoes, Stays}

-- 1. Words that install nothing

abbrev pub InstallsNot : CommitPoint → Type 0
InstallsNot (Installing p InstallHead) = ⊥
InstallsNot _ = Unit {0}

record SameVersions (chain later : Chain) : Type 0 where
  old : later.old ≡ chain.old
  now : later.now ≡ chain.now

same_versions : (chain : Chain) → SameVersions chain chain
same_versions chain = record { old = refl; now = refl }

module _ (state : TxnState) (chains : ℕ → Chain) where
  record_stays : (p : ℕ) (change : Chain → Chain) → ((chain : Chain) → SameVersions chain (change chain)) → (row : ℕ)
      → SameVersions (chains row) (at_record state p chains change row)
  record_stays p change same row =
      let at = record_row state p in
      put_cases (SameVersions (chains row)) chains at (change (chains at)) row
      (λ here. subst (λ r. SameVersions (chains r) (change (chains at))) (sym here) (same (chains at)))
      (λ apart. same_versions (chains row))

  commit_stays : (at : CommitPoint) (found : ℕ) → InstallsNot at → (row : ℕ)
      → SameVersions (chains row) (commit_chains state at found chains row)
  commit_stays (Locking Peek) found is row = same_versions (chains row)
  commit_stays (Locking (Seize header)) found is row =
      by_test (λ later. SameVersions (chains row) (later row)) (found == header)
      (at_record state (length state.held) chains (locked_for state.worker)) chains
      (λ won. record_stays (length state.held) (locked_for state.worker)
      (λ chain. record { old = refl; now = refl }) row)
      (λ lost. same_versions (chains row))
  commit_stays (Locking (GiveBack given word)) found is row =
      record_stays given given_back (λ chain. record { old = refl; now = refl }) row
  commit_stays (Returning given full) found is row =
      record_stays given given_back (λ chain. record { old = refl; now = refl }) row
  commit_stays (Installing p (InstallWord word)) found is row =
      record_stays p (λ chain. record chain { dirty = true }) (λ chain. record { old = refl; now = refl }) row
  commit_stays (Installing p InstallCount) found is row =
      record_stays p (λ chain. record chain { counted = true }) (λ chain. record { old = refl; now = refl }) row
  commit_stays (Installing p InstallHead) found is row = absurd is
  commit_stays (Freeing p) found is row =
      record_stays p given_back (λ chain. record { old = refl; now = refl }) row
  commit_stays _ found is row = same_versions (chains row)

-- 2. A client at a point

-- how the number that a client has published goes on
abbrev pub RisesAs : Option Open → CallPoint → ℕ → ℕ → Type 0
RisesAs (Some attempt) (InTxn (Committing Publishing)) was is = is ≡ was + 1
RisesAs _ _ was is = is ≡ was

module _ (shape : Shape) (store : Store) (base : BaseOk shape store) (moments : MomentsOk shape store)
    (chains : ℕ → Chain) (ok : LocksOk shape store chains) (nth : ℕ) (client : ClientState) where
  abbrev m : Field → ℕ
  m = memory shape store.words

  abbrev Here : ClientState → Type 0
  Here before = client_at store nth ≡ Some before

  own : (before : ClientState) → Here before → ClientOk shape nth before
  own before here = base.clients nth before here

  holds : (before : ClientState) → Here before → HolderOk shape m chains nth (holder_of before)
  holds before here =
      ok.each nth (holder_of before) (slice_get-map holder_of store.clients nth ∙ ap (option_map holder_of) here)

  observed : (before : ClientState) → Here before
      → ObserverOk shape.start shape.workers (vector_of m) nth (observer_of before)
  observed before here = observer_ok shape store moments nth before here

  entry_field : (before : ClientState) → Here before → IsField shape (Entry (nth + 1))
  entry_field before here = let within = client_within shape store base nth before here in (omega arith, omega arith)

  -- its entry of the vector
  pub entry_goes : (opened : Option Open) (place : CallPoint) → let before = at_place client opened place in
      Here before → Does shape store nth before
      → RisesAs opened place (vector_of m nth) (vector_of (memory shape (step shape store nth before).words) nth)
  entry_goes (Some attempt) (InTxn (Committing Publishing)) here does =
      let before = committing_at client attempt Publishing in
      let mine = (own before here).own in
      let entry : Entry attempt.state.worker ≡ Entry (nth + 1) =
      ap (λ (worker : ℕ). Entry worker) (mine.opened.worker_is ∙ mine.worker_is) in
      ap (memory shape (step shape store nth before).words) (sym entry) ∙ does.changes.here
      ∙ ap (λ (last : ℕ). last + 1) (mine.opened.last_is ∙ sym (observed before here).entry)
  entry_goes (Some attempt) (InTxn (Committing at)) here does =
      does.leaves (Entry (nth + 1)) (entry_field (committing_at client attempt at) here)
      (λ same. subst (AllWritten IsNoEntry) same (commit_no_entry attempt.state at (λ e. e)))
  entry_goes None (InTxn (Committing at)) here does =
      absurd (own (at_place client None (InTxn (Committing at))) here).fits.2
  entry_goes opened place here does =
      does.kinds (Entry (nth + 1)) (entry_field (at_place client opened place) here) (λ may. may)

  -- 3. Chains

  installs : (attempt : Open) (p : ℕ) → let before = committing_at client attempt (Installing p InstallHead) in
      Here before → (row : ℕ)
      → ChainGoes (width_at shape.tables row) nth (observer_of before) (chains row)
      (at_record attempt.state p chains (renewed (new_version attempt.state p)) row)
  installs attempt p here row =
      let before = committing_at client attempt (Installing p InstallHead) in
      let state = attempt.state in
      let mine = own before here in
      let fits = mine.fits.1 in
      let c = mine.fits.2 in
      let all = c.2.0 in
      let less = written_less shape base.limits state fits c.0 p c.2.2 in
      let place = placed shape base.limits state fits c.0 p less in
      let wide : (record_place state p).width ≡ width_at shape.tables (record_row state p) =
      ap (λ (place : Place). place.width) place.place_is in
      let held = (holds before here).held p record { begins = omega arith; ends = omega arith } in
      let here = record_row state p in
      let later = renewed (new_version state p) (chains here) in
      let Goes : ℕ → Chain → Type 0 =
      λ row. ChainGoes (width_at shape.tables row) nth (observer_of before) (chains row) in
      put_cases (Goes row) chains here later row
      (λ at. subst (λ r. Goes r later) (sym at)
      (Installs refl record {
        wide = subst (λ w. HasWidth w (value_at state p)) wide
            ((commit_gives shape base.limits state (Installing p InstallHead) fits c).value p c.2.2);
        thread = mine.own.opened.worker_is ∙ mine.own.worker_is;
        number = ap (λ (last : ℕ). last + 1) mine.own.opened.last_is;
        seen = mine.own.opened.listed;
        sees = held.sees;
      }))
      (λ apart. Stays refl refl)

  pub word_chains : (opened : Option Open) (place : CallPoint) (found : ℕ)
      → let before = at_place client opened place in Here before → (row : ℕ)
      → ChainGoes (width_at shape.tables row) nth (observer_of before) (chains row)
      (chains_after opened place found chains row)
  word_chains (Some attempt) (InTxn (Committing (Installing p InstallHead))) found here row =
      installs attempt p here row
  word_chains (Some attempt) (InTxn (Committing at)) found here row =
      let same = commit_stays attempt.state chains at found tt row in Stays same.old same.now
  word_chains (Some attempt) place found here row = Stays refl refl
  word_chains None place found here row = Stays refl refl

  -- 4. Publications

  pub word_published : (opened : Option Open) (place : CallPoint) (is : Observer) (published : ℕ → List Publication)
      → let before = at_place client opened place in Here before
      → RisesAs opened place (observer_of before).number is.number
      → PublishedGoes chains nth (observer_of before) is published (published_after nth opened place published)
  word_published (Some attempt) (InTxn (Committing Publishing)) is published here rises =
      let before = committing_at client attempt Publishing in
      let mine = (own before here).own in
      Adds (publication_of attempt.state) record {
        number = rises;
        stamp = λ t. record {
          thread = (mine.opened.worker_is ∙ mine.worker_is) t;
          number = mine.opened.last_is t + 1;
        };
        installed = (holds before here).installed;
      }
  word_published (Some attempt) (InTxn (Committing at)) is published here rises = Keeps rises
  word_published (Some attempt) place is published here rises = Keeps rises
  word_published None place is published here rises = Keeps rises
