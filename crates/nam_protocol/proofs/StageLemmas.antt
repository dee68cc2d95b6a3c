-- Each step of a client, and each call that it is asked, keeps what the point of its commit says.
use Rattle.std.specs.Prelude.{is_some}
use Rattle.std.proofs.Common.{List, None, Option, Some, ap, length, refl, ℕ, ◌+◌, ◌≡◌, []}
use Rattle.nam_verbs.specs.declared.now.Now.{Now}
use Rattle.nam_verbs.specs.declared.now.Now.TheVariants.{At, Over}
use Rattle.nam_verbs.proofs.TestLemmas.{by_equal}
use Rattle.nam_catalog.specs.declared.shape.Shape.{Shape}
use Rattle.nam_calls.specs.declared.lock.LockPoint.{LockPoint}
use Rattle.nam_calls.specs.declared.lock.LockPoint.TheVariants.{Peek, Seize, GiveBack}
use Rattle.nam_calls.specs.declared.record.InstallPoint.{InstallPoint}
use Rattle.nam_calls.specs.declared.record.InstallPoint.TheVariants.{InstallCount, InstallHead, InstallWord}
use Rattle.nam_calls.specs.Lock.{give_back, lock_after}
use Rattle.nam_calls.specs.Record.{install_after, install_begin}
use Rattle.nam_calls.proofs.GoesTests.{give_back_goes, peek_goes, seize_goes}
use Rattle.nam_protocol.specs.declared.client.Answer.{Answer}
use Rattle.nam_protocol.specs.declared.client.Call.{Call}
use Rattle.nam_protocol.specs.declared.client.CallPoint.{CallPoint}
use Rattle.nam_protocol.specs.declared.client.CallPoint.TheVariants.{Beginning, InTxn, Scanning, Seeking, Moving}
use Rattle.nam_protocol.specs.declared.client.CallPoint.TheVariants.{Snapping, Collecting}
use Rattle.nam_protocol.specs.declared.client.ClientState.{ClientState}
use Rattle.nam_protocol.specs.declared.client.Open.{Open}
use Rattle.nam_protocol.specs.declared.txn.CommitPoint.{CommitPoint}
use Rattle.nam_protocol.specs.declared.txn.CommitPoint.TheVariants.{Checking, Copying, Freeing, Installing, Locking}
use Rattle.nam_protocol.specs.declared.txn.CommitPoint.TheVariants.{Publishing, Returning, Saving}
use Rattle.nam_protocol.specs.declared.txn.CommitPoint.TheVariants.{Listing, Counting, Deciding, Clearing, Ending}
use Rattle.nam_protocol.specs.declared.txn.Refusal.{Refusal}
use Rattle.nam_protocol.specs.declared.txn.TxnAnswer.{TxnAnswer}
use Rattle.nam_protocol.specs.declared.txn.TxnPoint.{TxnPoint}
use Rattle.nam_protocol.specs.declared.txn.TxnPoint.TheVariants.{Finding, Reading, Claiming, Committing}
use Rattle.nam_protocol.specs.declared.txn.TxnState.{TxnState}
use Rattle.nam_protocol.specs.Client.{client_abandon, client_after, client_ask}
use Rattle.nam_protocol.specs.ClientFits.{ClientFits}
use Rattle.nam_protocol.specs.Commit.{ask_commit, commit_after, on_install, on_lock, places, record_place, refused}
use Rattle.nam_protocol.specs.Commit.{value_at}
use Rattle.nam_protocol.specs.CutClient.{client_cut}
use Rattle.nam_protocol.specs.Own.{MayAsk, Rests, StageAt, StageClient, StageIn, StageNow}
use Rattle.nam_protocol.specs.Plain.{IsAside, Plain}
use Rattle.nam_protocol.specs.Sorts.{AskOf, StepOf, committing_at, AsksPlain, AsksBegin, AsksCollect, AsksCommit, Finds}
use Rattle.nam_protocol.specs.Sorts.{Reads, Moves, Collects, Begins, Snaps, Commits}
use Rattle.nam_protocol.specs.Telling.{go, stepped, new_client}
use Rattle.nam_protocol.specs.Txn.{Stepped}
use Rattle.nam_protocol.proofs.GoesClient.{begin_goes, snap_goes}
use Rattle.nam_protocol.proofs.GoesCommit.{ask_commit_goes, next_free_goes, on_copy_goes, on_return_goes, on_slot_goes}
use Rattle.nam_protocol.proofs.GoesCommit.{on_words_goes, on_list_goes, next_count_goes, refused_goes}
use Rattle.nam_protocol.proofs.SortsLemmas.{ask_sort, word_sort}
use Rattle.nam_protocol.proofs.SteppedLemmas.{abandoned_view}
use Rattle.nam_protocol.specs.Commit.{go as go_to}

stage_aside : (call : Option (Now CallPoint Answer)) (opened : Option Open) → IsAside call → StageIn call opened
stage_aside None opened aside = tt
stage_aside (Some (Over answer)) opened aside = tt
stage_aside (Some (At (Beginning txn nth at))) opened aside = tt
stage_aside (Some (At (InTxn (Finding op passed)))) opened aside = tt
stage_aside (Some (At (InTxn (Reading op position at)))) opened aside = tt
stage_aside (Some (At (InTxn (Claiming op at)))) opened aside = tt
stage_aside (Some (At (InTxn (Committing at)))) opened aside = absurd aside
stage_aside (Some (At (Scanning table low high at))) opened aside = tt
stage_aside (Some (At (Seeking table key passed))) opened aside = tt
stage_aside (Some (At (Moving table key position at))) opened aside = tt
stage_aside (Some (At (Snapping bucket at))) opened aside = tt
stage_aside (Some (At (Collecting bucket prefix seen at))) opened aside = tt

-- 1. A commit goes on

module _ (state : TxnState) where
  abbrev Stage : Stepped → Type 0
  Stage step = StageNow step.state step.call

  refused_stage : (refusal : Refusal) → Stage (refused state refusal)
  refused_stage refusal = refused_goes Stage state refusal (λ e. tt) (λ e. tt)

  given_back : (held : List ℕ) (given found : ℕ) → Stage (on_lock state (give_back (places state) held given found))
  given_back held given found =
      give_back_goes (λ now. Stage (on_lock state now)) (places state) held given found
      (λ e f. refused_stage _) (λ e f. refused_stage _) (λ e. tt)

  lock_stage : (held : List ℕ) (at : LockPoint) (found : ℕ)
      → Stage (on_lock state (lock_after (places state) state.seen held at found))
  lock_stage held Peek found =
      peek_goes (λ now. Stage (on_lock state now)) (places state) state.seen held found (λ e. given_back held 0 found)
      (λ free sees. (free, sees)) (λ e f. given_back held 0 found)
  lock_stage held (Seize header) found =
      seize_goes (λ now. Stage (on_lock state now)) (places state) state.seen held header found (λ e f. tt) (λ e f. tt)
      (λ e. given_back held 0 found)
  lock_stage held (GiveBack given word) found = given_back held (given + 1) word

  -- only a value's first word follows the copy
  install_starts : (nth : ℕ) (value : Option (List ℕ)) → value_at state nth ≡ value
      → StageAt state (Installing nth (install_begin value))
  install_starts nth None e = tt
  install_starts nth (Some value) e = ap is_some e

  install_stage : (nth : ℕ) (at : InstallPoint) → StageAt state (Installing nth at)
      → Stage (on_install state nth (install_after (record_place state nth) at))
  install_stage nth (InstallWord word) some =
      by_equal (λ now. Stage (on_install state nth now)) (word + 1) (record_place state nth).width (At InstallCount)
      (At (InstallWord (word + 1))) (λ e. tt) (λ e. some)
  install_stage nth InstallCount some = tt
  install_stage nth InstallHead some =
      by_equal Stage (nth + 1) (length state.writes) (go_to state Publishing) (go_to state (Saving (nth + 1) []))
      (λ e. tt) (λ e. tt)

  commit_stage : (at : CommitPoint) (found : ℕ) → StageAt state at → Stage (commit_after state at found)
  commit_stage (Listing at) found stage = on_list_goes Stage state _ (λ next e. tt) (λ e. tt)
  commit_stage (Locking at) found stage = lock_stage state.held at found
  commit_stage (Checking at) found stage =
      on_slot_goes Stage state _ (λ next e. tt) (λ count e f t. tt) (λ count e f t. tt) (λ count e f. tt)
      (λ slot word e. tt)
  commit_stage (Returning given full) found stage =
      on_return_goes Stage state full _ (λ next e. tt) (λ e f. tt) (λ e f. tt)
  commit_stage (Counting nth) found stage = next_count_goes Stage state (nth + 1) (λ e. tt) (λ e. tt)
  commit_stage Deciding found stage = tt
  commit_stage (Saving nth got) found stage = on_words_goes Stage state nth _ (λ more e. tt) (λ old e. tt)
  commit_stage (Copying nth old at) found stage =
      on_copy_goes Stage state nth old _ (λ next e. tt) (λ e. install_starts nth (value_at state nth) refl)
  commit_stage (Installing nth at) found stage = install_stage nth at stage
  commit_stage Publishing found stage =
      next_free_goes Stage state (length state.writes) (λ e f. tt) (λ e f. tt) (λ e. tt)
  commit_stage (Freeing nth) found stage =
      next_free_goes Stage state (nth + 1) (λ e f. tt) (λ e f. tt) (λ e. tt)
  commit_stage (Clearing refusal) found stage = tt
  commit_stage Ending found stage = tt

-- 2. By the sorts

stepped_stage : (client : ClientState) (attempt : Open) (before : ℕ) (step : Stepped) → StageNow step.state step.call
    → StageClient (stepped client attempt before step)
stepped_stage client attempt before step stage = by_call step.state step.call stage
  where
    by_call : (state : TxnState) (call : Now TxnPoint TxnAnswer) → StageNow state call
        → StageClient (stepped client attempt before record { state = state; call = call })
    by_call state (At (Finding op passed)) stage = tt
    by_call state (At (Reading op position at)) stage = tt
    by_call state (At (Claiming op at)) stage = tt
    by_call state (At (Committing at)) stage = stage
    by_call state (Over answer) stage = tt

plain_stage : (before after : ClientState) → Plain before after → StageClient after
plain_stage before after plain = stage_aside after.call after.txn plain.aside

module _ (shape : Shape) where
  pub stage_step : (found : ℕ) (before after : ClientState) → StepOf shape found before after → StageClient before
      → StageClient after
  stage_step found _ _ (Finds client place is plain anew) stage = plain_stage _ _ plain
  stage_step found _ _ (Reads client place reader is plain on) stage = plain_stage _ _ plain
  stage_step found _ _ (Moves client table key position at plain) stage = plain_stage _ _ plain
  stage_step found _ _ (Collects client bucket prefix seen at plain) stage = plain_stage _ _ plain
  stage_step found _ _ (Begins client txn nth at) stage =
      begin_goes StageClient shape (go client (Beginning txn nth at)) txn nth _ (λ next e. tt) (λ seen e. tt)
      (λ worker first second e. tt)
  stage_step found _ _ (Snaps client bucket at) stage =
      snap_goes StageClient shape (go client (Snapping bucket at)) bucket _ (λ next e. tt) (λ seen e. tt)
      (λ worker first second e. tt)
  stage_step found _ _ (Commits client attempt at) stage =
      stepped_stage (committing_at client attempt at) attempt _ (commit_after attempt.state at found)
      (commit_stage attempt.state at found stage)

  asked_stage : (state : TxnState) → let step = ask_commit shape state in StageNow step.state step.call
  asked_stage state =
      ask_commit_goes (λ step. StageNow step.state step.call) state shape (λ e. tt) (λ e f. tt) (λ e f t. tt)
      (λ e f t. tt)

  pub stage_ask : (before after : ClientState) → AskOf shape before after → StageClient after
  stage_ask _ _ (AsksPlain client asked plain none) = plain_stage _ _ plain
  stage_ask _ _ (AsksBegin client txn nth) = tt
  stage_ask _ _ (AsksCollect client bucket) = tt
  stage_ask _ _ (AsksCommit client attempt) =
      stepped_stage (record client { txn = Some attempt }) attempt 0 (ask_commit shape attempt.state)
      (asked_stage attempt.state)

  -- 3. Of any client

  pub stage_word : (client : ClientState) (place : CallPoint) (found : ℕ) → ClientFits shape client
      → client.call ≡ Some (At place) → StageClient client → StageClient (client_after shape client found)
  stage_word client place found fits e stage =
      stage_step found client _ (word_sort shape found client place fits e) stage

  pub stage_asked : (client : ClientState) (asked : Call) → MayAsk shape client asked
      → StageClient (client_ask shape client asked)
  stage_asked client asked may = stage_ask client _ (ask_sort shape client asked may.fits)

pub stage_abandoned : (client : ClientState) → Rests client.call → StageClient (client_abandon client)
stage_abandoned client rests = abandoned_view StageIn (λ opened. tt) (λ answer opened. tt) client rests

pub stage_cut : (client : ClientState) → StageClient client → StageClient (client_cut client)
stage_cut client stage = stage

pub stage_new : (worker start : ℕ) → StageClient (new_client worker start)
stage_new worker start = tt
