-- What a commit's log lists with each word: nothing before it has published, and itself with its answer after that.
use Rattle.std.proofs.Common.{Bool, Some, [], ap, false, refl, subst, sym, true, ℕ, ⊎_elim, ◌+◌, ◌∷◌, ◌≡◌}
use Rattle.nam_ghost.specs.Moments.{has_published}
use Rattle.nam_origins.proofs.CommitOrigins.{IsEarly, early_unpublished, publishes}
use Rattle.nam_origins.proofs.LogKinds.{listed_commit, log_commits}
use Rattle.nam_origins.proofs.LogTxns.{StepsSilent, stepped_log}
use Rattle.nam_origins.specs.Lists.{LogGoes}
use Rattle.nam_protocol.proofs.GoesClient.{step_opens}
use Rattle.nam_protocol.proofs.GoesCommit.{EndsAs, commit_goes}
use Rattle.nam_protocol.proofs.GoesTxn.{IsSilent}
use Rattle.nam_protocol.specs.Commit.{commit_after, refusal_answer}
use Rattle.nam_protocol.specs.Telling.{stepped}
use Rattle.nam_protocol.specs.Txn.{Stepped}
use Rattle.nam_protocol.specs.declared.client.CallPoint.TheVariants.{InTxn}
use Rattle.nam_protocol.specs.declared.client.ClientState.{ClientState}
use Rattle.nam_protocol.specs.declared.client.Open.{Open}
use Rattle.nam_protocol.specs.declared.txn.CommitPoint.{CommitPoint}
use Rattle.nam_protocol.specs.declared.txn.CommitPoint.TheVariants.{Checking, Clearing, Copying, Counting, Deciding}
use Rattle.nam_protocol.specs.declared.txn.CommitPoint.TheVariants.{Ending, Freeing, Installing, Listing, Locking}
use Rattle.nam_protocol.specs.declared.txn.CommitPoint.TheVariants.{Publishing, Returning, Saving}
use Rattle.nam_protocol.specs.declared.txn.Refusal.{Refusal}
use Rattle.nam_protocol.specs.declared.txn.TxnAnswer.{TxnAnswer}
use Rattle.nam_protocol.specs.declared.txn.TxnAnswer.TheVariants.{Committed}
use Rattle.nam_protocol.specs.declared.txn.TxnPoint.{TxnPoint}
use Rattle.nam_protocol.specs.declared.txn.TxnState.{TxnState}
use Rattle.nam_verbs.specs.declared.now.Now.{Now}
use Rattle.nam_verbs.specs.declared.now.Now.TheVariants.{At, Over}
use Rattle.nam_protocol.specs.declared.txn.Refusal.TheVariants as refusal

-- has the commit published, where it stands now
abbrev pub now_published : Now TxnPoint TxnAnswer → Bool
now_published (At place) = has_published (Some (At (InTxn place)))
now_published (Over answer) = false

pub stepped_published : (client : ClientState) (attempt : Open) (before : ℕ) (step : Stepped)
    → has_published (stepped client attempt before step).call ≡ now_published step.call
stepped_published client attempt before step = by step.state step.call
  where
    by : (state : TxnState) (call : Now TxnPoint TxnAnswer)
        → has_published (stepped client attempt before record { state = state; call = call }).call
        ≡ now_published call
    by state (At place) = refl
    by state (Over answer) = refl

-- 1. Before the entry is written

module _ (state : TxnState) where
  abbrev pub Early : Stepped → Type 0
  Early step = StepsSilent state.seen step × (now_published step.call ≡ false)

  ends_silent : (at : CommitPoint) (answer : TxnAnswer) → IsEarly at → EndsAs Early state at answer → IsSilent answer
  ends_silent (Listing at) answer early ends = absurd ends
  ends_silent (Locking at) answer early ends =
      ⊎_elim (λ e. subst IsSilent (sym e) tt) (λ e. subst IsSilent (sym e) tt) ends.1
  ends_silent (Checking at) answer early ends = absurd ends
  ends_silent (Returning given full) answer early ends = subst IsSilent (sym ends) tt
  ends_silent (Counting nth) answer early ends = absurd ends
  ends_silent Deciding answer early ends = absurd ends
  ends_silent (Saving nth got) answer early ends = absurd ends
  ends_silent (Copying nth old at) answer early ends = absurd ends
  ends_silent (Installing nth at) answer early ends = absurd ends
  ends_silent Publishing answer early ends = absurd early
  ends_silent (Freeing nth) answer early ends = absurd early
  ends_silent (Clearing why) answer early ends = subst IsSilent (sym ends) (refused why)
    where
      refused : (why : Refusal) → IsSilent (refusal_answer why)
      refused (refusal.Locked lock) = tt
      refused (refusal.Newer lock) = tt
      refused (refusal.Full lock) = tt
  ends_silent Ending answer early ends = absurd early

  pub early_silent : (at : CommitPoint) (found : ℕ) → IsEarly at → Early (commit_after state at found)
  early_silent at found early =
      commit_goes Early state at found
      (λ next goes. ((refl, tt), early_unpublished Early state at next early goes))
      (λ header next here goes. ((refl, tt), ⊎_elim (λ e. ap publishes e) (λ e. ap publishes e) goes))
      (λ slot count next here goes. (
        (refl, tt),
        ⊎_elim (λ e. ap publishes e) (⊎_elim (λ e. ap publishes e) (λ e. ap publishes e)) goes,
      ))
      (λ answer ends. ((refl, ends_silent at answer early ends), refl))

-- 2. After that

module _ (state : TxnState) where
  -- it frees its guards or clears its intent, or is over as a commit
  abbrev pub NowLate : Now TxnPoint TxnAnswer → Type 0
  NowLate (At place) = has_published (Some (At (InTxn place))) ≡ true
  NowLate (Over answer) = answer ≡ Committed (state.last + 1)

  abbrev pub Late : Stepped → Type 0
  Late step = (step.state ≡ state) × NowLate step.call

  abbrev pub IsLate : CommitPoint → Type 0
  IsLate Publishing = Unit {0}
  IsLate (Freeing nth) = Unit {0}
  IsLate Ending = Unit {0}
  IsLate _ = ⊥

  pub late_step : (at : CommitPoint) (found : ℕ) → IsLate at → Late (commit_after state at found)
  late_step Publishing found late =
      commit_goes Late state Publishing found
      (λ next goes. (refl, ⊎_elim (λ e. ap publishes e) (λ e. ap publishes e) goes))
      (λ header next here goes. absurd (cc)) (λ slot count next here goes. absurd (cc)) (λ answer ends. (refl, ends))
  late_step (Freeing nth) found late =
      commit_goes Late state (Freeing nth) found
      (λ next goes. (refl, ⊎_elim (λ e. ap publishes e) (λ e. ap publishes e) goes))
      (λ header next here goes. absurd (cc)) (λ slot count next here goes. absurd (cc)) (λ answer ends. (refl, ends))
  late_step Ending found late =
      commit_goes Late state Ending found (λ next goes. absurd goes)
      (λ header next here goes. absurd (cc)) (λ slot count next here goes. absurd (cc)) (λ answer ends. (refl, ends))
  late_step _ found late = absurd late

-- 3. What the log lists with such a step

-- nothing while guards are freed, and the commit at its end
pub data LateGoes (state : TxnState) (client after : ClientState) : Type 0 where
  Frees : has_published after.call ≡ true → LogGoes (state.seen ∷ []) client after [] → LateGoes state client after
  Lists : (attempt : Open) → attempt.state ≡ state → has_published after.call ≡ false
      → LogGoes (state.seen ∷ []) client after
      (listed_commit client.worker attempt (state.last + 1) state.seen ∷ []) → LateGoes state client after

pub late_goes : (client : ClientState) (attempt : Open) (before : ℕ) (state : TxnState) (step : Stepped)
    → Late state step → LateGoes state client (stepped client attempt before step)
late_goes client attempt before state step late = by step.state step.call late.0 late.1
  where
    by : (after : TxnState) (call : Now TxnPoint TxnAnswer) → after ≡ state → NowLate state call
        → LateGoes state client (stepped client attempt before record { state = after; call = call })
    by after (At place) same late =
        let step : Stepped = record { state = after; call = At place } in
        Frees late (stepped_log client state.seen attempt before step (ap (λ (s : TxnState). s.seen) same, tt))
    by after (Over answer) same late =
        subst (λ end. LateGoes state client (stepped client attempt before record { state = after; call = Over end }))
        (sym late)
        (let step : Stepped = record { state = after; call = Over (Committed (state.last + 1)) } in
        Lists (step_opens attempt before step) same refl
        (log_commits client (stepped client attempt before step) state.seen (step_opens attempt before step)
        (state.last + 1) refl refl refl refl refl))
