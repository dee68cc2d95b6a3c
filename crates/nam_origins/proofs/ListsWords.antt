-- What a client's log lists after each word: of a commit, and of any other call.
use Rattle.std.proofs.Common.{List, Some, [], ap, false, inl, inr, length, refl, subst, sym, true, ℕ, ⊎_elim, ◌++◌, ◌+◌}
use Rattle.std.proofs.Common.{◌<◌, ◌∙◌, ◌∷◌, ◌≡◌}
use Rattle.nam_catalog.specs.Fits.{FitsLimits}
use Rattle.nam_catalog.specs.declared.shape.Shape.{Shape}
use Rattle.nam_ghost.specs.Keys.{ClaimsOk, KeysNext}
use Rattle.nam_ghost.specs.Origins.{AreListed, IsListedAs, IsStanding, listed_commits}
use Rattle.nam_ghost.specs.Publications.{Publication, publication_of}
use Rattle.nam_ghost.specs.Steps.{published_after}
use Rattle.nam_header.specs.Header.{flag}
use Rattle.nam_layout.specs.Address.{IsRow}
use Rattle.nam_layout.specs.declared.field.Field.{Field}
use Rattle.nam_origins.proofs.ClientLists.{AreRows, late_lists, late_log, quiet_lists, quiet_log}
use Rattle.nam_origins.proofs.CommitLists.{LateGoes, early_silent, late_goes, late_step, stepped_published}
use Rattle.nam_origins.proofs.CommitOrigins.{IsEarly, publishes}
use Rattle.nam_origins.proofs.KeyLemmas.{listed_as}
use Rattle.nam_origins.proofs.ListLemmas.{last_push}
use Rattle.nam_origins.proofs.LogKinds.{listed_commit}
use Rattle.nam_origins.proofs.LogTxns.{stepped_log}
use Rattle.nam_origins.proofs.MatchLemmas.{listed_still, matches_published, matches_still}
use Rattle.nam_origins.specs.Lists.{LogGoes, Matches}
use Rattle.nam_origins.specs.Logs.{LogOk}
use Rattle.nam_protocol.proofs.FieldLemmas.{placed, written_less}
use Rattle.nam_protocol.specs.Commit.{commit_after}
use Rattle.nam_protocol.specs.Sorts.{committing_at}
use Rattle.nam_protocol.specs.Telling.{stepped}
use Rattle.nam_protocol.specs.Txn.{Stepped}
use Rattle.nam_protocol.specs.declared.client.CallPoint.TheVariants.{InTxn}
use Rattle.nam_protocol.specs.declared.client.ClientState.{ClientState}
use Rattle.nam_protocol.specs.declared.client.Open.{Open}
use Rattle.nam_protocol.specs.declared.txn.CommitPoint.{CommitPoint}
use Rattle.nam_protocol.specs.declared.txn.CommitPoint.TheVariants.{Checking, Clearing, Copying, Counting, Deciding}
use Rattle.nam_protocol.specs.declared.txn.CommitPoint.TheVariants.{Ending, Freeing, Installing, Listing, Locking}
use Rattle.nam_protocol.specs.declared.txn.CommitPoint.TheVariants.{Publishing, Returning, Saving}
use Rattle.nam_protocol.specs.declared.txn.TxnPoint.TheVariants.{Committing}
use Rattle.nam_protocol.specs.declared.txn.TxnState.{TxnState}
use Rattle.nam_store.proofs.Lists.{put_here}
use Rattle.nam_store.specs.Base.{ClientOk}
use Rattle.si_model.proofs.ListLemmas.{listed_append_cases}
use Rattle.si_model.specs.Lists.{Listed, last_of}

-- before the entry is written nothing is published
early_now : (at : CommitPoint) → IsEarly at → publishes at ≡ false
early_now Publishing early = absurd early
early_now (Freeing nth) early = absurd early
early_now Ending early = absurd early
early_now _ early = refl

early_published : (nth : ℕ) (attempt : Open) (at : CommitPoint) (published : ℕ → List Publication) → IsEarly at
    → published_after nth (Some attempt) (InTxn (Committing at)) published ≡ published
early_published nth attempt Publishing published early = absurd early
early_published nth attempt (Freeing p) published early = absurd early
early_published nth attempt Ending published early = absurd early
early_published nth attempt _ published early = refl

module _ (shape : Shape) (limits : FitsLimits shape) (published : ℕ → List Publication) (nth found : ℕ)
    (client : ClientState) (attempt : Open) where
  abbrev state : TxnState
  state = attempt.state

  abbrev Before : CommitPoint → ClientState
  Before at = committing_at client attempt at

  abbrev Next : CommitPoint → Stepped
  Next at = commit_after state at found

  abbrev After : CommitPoint → ClientState
  After at = stepped (Before at) attempt (length state.held) (Next at)

  abbrev Now : CommitPoint → ℕ → List Publication
  Now at = published_after nth (Some attempt) (InTxn (Committing at)) published

  -- the rows of a commit's written records
  rows_of : (at : CommitPoint) → ClientOk shape nth (Before at) → (p : ℕ) → p < length state.writes
      → IsRow shape ((publication_of state).row p)
  rows_of at ok p less =
      let fits = ok.fits.1 in let are = ok.fits.2.0 in
      (placed shape limits state fits are p (written_less shape limits state fits are p less)).row_is

  -- 1. By itself

  early_goes : (at : CommitPoint) → IsEarly at → LogGoes (state.seen ∷ []) (Before at) (After at) []
  early_goes at early =
      stepped_log (Before at) state.seen attempt (length state.held) (Next at) (early_silent state at found early).0

  same_here : (at : CommitPoint) → IsEarly at → Now at nth ≡ published nth
  same_here at early = ap (λ ps. ps nth) (early_published nth attempt at published early)

  early_log : (at : CommitPoint) → IsEarly at → LogOk shape published nth (Before at)
      → LogOk shape (Now at) nth (After at)
  early_log at early ok =
      quiet_log shape published (Now at) nth (Before at) (After at) (same_here at early) ok (early_goes at early)

  freed : (p : ℕ) → LateGoes state (Before (Freeing p)) (After (Freeing p))
  freed p =
      late_goes (Before (Freeing p)) attempt (length state.held) state (Next (Freeing p))
      (late_step state (Freeing p) found tt)

  cleared : LateGoes state (Before Ending) (After Ending)
  cleared = late_goes (Before Ending) attempt (length state.held) state (Next Ending) (late_step state Ending found tt)

  passed : LateGoes state (Before Publishing) (After Publishing)
  passed =
      late_goes (Before Publishing) attempt (length state.held) state (Next Publishing)
      (late_step state Publishing found tt)

  -- one more is published
  abbrev more : List Publication
  more = published nth ++ publication_of state ∷ []

  is_more : Now Publishing nth ≡ more
  is_more = put_here published nth more

  rows_more : ClientOk shape nth (Before Publishing) → AreRows shape (published nth)
      → AreRows shape (Now Publishing nth)
  rows_more ok rows commit listed =
      ⊎_elim (rows commit) (λ new. elim new [
        | inl same ↦ subst (λ (c : Publication). (p : ℕ) → p < c.records → IsRow shape (c.row p)) same
            (rows_of Publishing ok)
        | inr none ↦ absurd none
      ]) (listed_append_cases (published nth) (publication_of state ∷ []) commit (subst (Listed commit) is_more listed))

  pub commit_log : (at : CommitPoint) → ClientOk shape nth (Before at) → LogOk shape published nth (Before at)
      → LogOk shape (Now at) nth (After at)
  commit_log Publishing ok log =
      late_log shape published (Now Publishing) nth client attempt Publishing (After Publishing) log passed
      (rows_more ok log.rows)
  commit_log (Freeing p) ok log =
      late_log shape published published nth client attempt (Freeing p) (After (Freeing p)) log (freed p) log.rows
  commit_log Ending ok log =
      late_log shape published published nth client attempt Ending (After Ending) log cleared log.rows
  commit_log (Listing at) ok log = early_log (Listing at) tt log
  commit_log (Locking at) ok log = early_log (Locking at) tt log
  commit_log (Checking at) ok log = early_log (Checking at) tt log
  commit_log (Returning given full) ok log = early_log (Returning given full) tt log
  commit_log (Counting p) ok log = early_log (Counting p) tt log
  commit_log Deciding ok log = early_log Deciding tt log
  commit_log (Saving p got) ok log = early_log (Saving p got) tt log
  commit_log (Copying p old at) ok log = early_log (Copying p old at) tt log
  commit_log (Installing p at) ok log = early_log (Installing p at) tt log
  commit_log (Clearing refusal) ok log = early_log (Clearing refusal) tt log

  -- 2. And its listed commits

  module _ (m later : Field → ℕ) (next : KeysNext shape m later) (claims : ClaimsOk shape m (Some attempt)) where
    lists_as : (at : CommitPoint) → ClientOk shape nth (Before at) → (opened : Open) → opened.state ≡ state
        → IsListedAs shape later (publication_of state)
        (listed_commit client.worker opened (state.last + 1) state.seen)
    lists_as at ok opened same =
        let fits = ok.fits.1 in let are = ok.fits.2.0 in
        listed_still shape m later next (publication_of state)
        (listed_commit client.worker opened (state.last + 1) state.seen) (rows_of at ok)
        (subst (λ worker. IsListedAs shape m (publication_of state)
        (listed_commit worker opened (state.last + 1) state.seen)) ok.own.opened.worker_is
        (listed_as shape limits m state fits are claims opened same))

    early_lists : (at : CommitPoint) → IsEarly at → LogOk shape published nth (Before at)
        → AreListed shape m published nth (Before at) → AreListed shape later (Now at) nth (After at)
    early_lists at early log are =
        quiet_lists shape published (Now at) nth (Before at) (After at) (same_here at early) log (early_goes at early) m
        later next
        (stepped_published (Before at) attempt (length state.held) (Next at) ∙ (early_silent state at found early).1
        ∙ sym (early_now at early)) are

    -- a commit that frees its guards or clears its intent is the last that was published
    stands_lists : (at : CommitPoint) → publishes at ≡ true → LateGoes state (Before at) (After at)
        → Now at nth ≡ published nth → ClientOk shape nth (Before at) → IsStanding published nth (Before at)
        → LogOk shape published nth (Before at) → AreListed shape m published nth (Before at)
        → AreListed shape later (Now at) nth (After at)
    stands_lists at is goes same ok stands log are =
        let all : Matches shape m (published nth) (listed_commits (Before at)) 1 =
        record {
          count = ap (λ b. length (listed_commits (Before at)) + flag b) (sym is) ∙ are.count;
          each = are.each;
        } in
        late_lists shape published (Now at) nth client attempt at (After at) log goes later
        (ap last_of same ∙ stands attempt is refl) (lists_as at ok)
        (subst (λ ps. Matches shape later ps (listed_commits (Before at)) 1) (sym same)
        (matches_still shape m later next (published nth) (listed_commits (Before at)) 1 log.rows all))

    publishing_lists : ClientOk shape nth (Before Publishing) → LogOk shape published nth (Before Publishing)
        → AreListed shape m published nth (Before Publishing)
        → AreListed shape later (Now Publishing) nth (After Publishing)
    publishing_lists ok log are =
        let listed = listed_commits (Before Publishing) in
        let all : Matches shape m (published nth) listed 0 = record { count = are.count; each = are.each } in
        late_lists shape published (Now Publishing) nth client attempt Publishing (After Publishing) log passed later
        (ap last_of is_more ∙ last_push (published nth) (publication_of state)) (lists_as Publishing ok)
        (subst (λ ps. Matches shape later ps listed 1) (sym is_more)
        (matches_published shape later (published nth) listed (publication_of state)
        (matches_still shape m later next (published nth) listed 0 log.rows all)))

    pub commit_lists : (at : CommitPoint) → ClientOk shape nth (Before at) → IsStanding published nth (Before at)
        → LogOk shape published nth (Before at) → AreListed shape m published nth (Before at)
        → AreListed shape later (Now at) nth (After at)
    commit_lists Publishing ok stands = publishing_lists ok
    commit_lists (Freeing p) ok stands = stands_lists (Freeing p) refl (freed p) refl ok stands
    commit_lists Ending ok stands = stands_lists Ending refl cleared refl ok stands
    commit_lists (Listing at) ok stands = early_lists (Listing at) tt
    commit_lists (Locking at) ok stands = early_lists (Locking at) tt
    commit_lists (Checking at) ok stands = early_lists (Checking at) tt
    commit_lists (Returning given full) ok stands = early_lists (Returning given full) tt
    commit_lists (Counting p) ok stands = early_lists (Counting p) tt
    commit_lists Deciding ok stands = early_lists Deciding tt
    commit_lists (Saving p got) ok stands = early_lists (Saving p got) tt
    commit_lists (Copying p old at) ok stands = early_lists (Copying p old at) tt
    commit_lists (Installing p at) ok stands = early_lists (Installing p at) tt
    commit_lists (Clearing refusal) ok stands = early_lists (Clearing refusal) tt
