-- Each step of a client keeps that its snapshots rise, and that its open transaction's has its own last number: what is
-- listed as a snapshot has found no entry below those that were listed before, and its own one is the last number.
use Rattle.std.proofs.Common.{List, None, Option, Some, [], ap, inl, inr, length, refl, subst, sym}
use Rattle.std.proofs.Common.{ℕ, ◌++◌, ◌+◌, ◌==◌, ◌∙◌, ◌∷◌, ◌≡◌}
use Rattle.std.specs.Prelude.{if◌then◌else◌, slice_index}
use Rattle.si_model.proofs.ListLemmas.{All-append}
use Rattle.si_model.specs.Lists.{Listed, Pairwise}
use Rattle.nam_verbs.proofs.TestLemmas.{by_equal}
use Rattle.nam_verbs.specs.Until.{until}
use Rattle.nam_verbs.specs.declared.now.Now.{Now}
use Rattle.nam_verbs.specs.declared.now.Now.TheVariants.{At, Over}
use Rattle.nam_catalog.specs.declared.shape.Shape.{Shape}
use Rattle.nam_vector.specs.Snap.{snap_after}
use Rattle.nam_vector.specs.declared.snap.SnapEnd.{SnapEnd}
use Rattle.nam_vector.specs.declared.snap.SnapEnd.TheVariants.{Again, Done}
use Rattle.nam_vector.specs.declared.snap.SnapPoint.{SnapPoint}
use Rattle.nam_vector.specs.declared.snap.SnapPoint.TheVariants.{First, Second}
use Rattle.nam_protocol.specs.Client.{on_begin, on_snap}
use Rattle.nam_protocol.specs.Commit.{ask_commit, commit_after}
use Rattle.nam_protocol.specs.Plain.{KeepsOpen, Plain}
use Rattle.nam_protocol.specs.Sorts.{AskOf, AsksBegin, AsksCollect, AsksCommit, AsksPlain, Begins, Collects, Commits}
use Rattle.nam_protocol.specs.Sorts.{Finds, Moves, Reads, Snaps, StepOf, committing_at}
use Rattle.nam_protocol.specs.Telling.{go, stepped}
use Rattle.nam_protocol.specs.Txn.{Stepped}
use Rattle.nam_protocol.specs.declared.client.CallPoint.TheVariants.{Beginning, Snapping}
use Rattle.nam_protocol.specs.declared.client.ClientState.{ClientState}
use Rattle.nam_protocol.specs.declared.client.Open.{Open}
use Rattle.nam_protocol.specs.declared.txn.TxnAnswer.{TxnAnswer}
use Rattle.nam_protocol.specs.declared.txn.TxnPoint.{TxnPoint}
use Rattle.nam_protocol.specs.declared.txn.TxnState.{TxnState}
use Rattle.nam_protocol.proofs.GoesClient.{on_answer_goes, step_lists, step_opens}
use Rattle.nam_protocol.proofs.GoesCommit.{ask_commit_goes, commit_goes}
use Rattle.nam_ghost.specs.Moments.{AtMost, FindsOwn, IsFollowing, ObserverOk, PassOk, observer_of}
use Rattle.nam_raised.specs.Raised.{SeesLast}
use Rattle.nam_protocol.specs.declared.client.Answer.TheVariants as client_answer

-- of a client: its snapshots rise, and its open transaction's has its own last number
pub record Rises (workers nth : ℕ) (client : ClientState) : Type 0 where
  pub rising : Pairwise (AtMost workers) client.log.snaps
  pub last : SeesLast nth client.last client.txn

-- 1. One more element, to which each stands so

pub pairs_pushed : {A : Type 0} (R : A → A → Type 0) (xs : List A) (y : A) → Pairwise R xs
    → ((x : A) → Listed x xs → R x y) → Pairwise R (xs ++ y ∷ [])
pairs_pushed R [] y pairs last = (tt, tt)
pairs_pushed R (x ∷ xs) y pairs last = (
  All-append (R x) xs (y ∷ []) pairs.0 (last x (inl refl), tt),
  pairs_pushed R xs y pairs.1 (λ z listed. last z (inr listed)),
)

-- 2. What is kept

module _ (workers nth : ℕ) where
  kept_last : (last : ℕ) (opened later : Option Open) → KeepsOpen opened later → SeesLast nth last opened
      → SeesLast nth last later
  kept_last last opened None kept is = tt
  kept_last last None (Some later) kept is = absurd kept
  kept_last last (Some attempt) (Some later) kept is = ap (λ seen. slice_index seen nth) kept.seen ∙ is

  -- a plain step takes no snapshot, and publishes nothing
  pub plain_rises : (before after : ClientState) → Plain before after → Rises workers nth before
      → Rises workers nth after
  plain_rises before after plain rises = record {
    rising = subst (Pairwise (AtMost workers)) (sym plain.snaps) rises.rising;
    last = subst (λ last. SeesLast nth last after.txn) (sym plain.last)
        (kept_last before.last before.txn after.txn plain.opened rises.last);
  }

  -- a commit goes on, or has ended
  module _ (client : ClientState) (attempt : Open) (is : slice_index attempt.state.seen nth ≡ client.last)
      (rising : Pairwise (AtMost workers) client.log.snaps) where
    pub stepped_rises : (before : ℕ) (step : Stepped) → step.state.seen ≡ attempt.state.seen
        → Rises workers nth (stepped client attempt before step)
    stepped_rises before step same = by_call step.state step.call same
      where
        seen : (state : TxnState) → state.seen ≡ attempt.state.seen → slice_index state.seen nth ≡ client.last
        seen state same = ap (λ seen. slice_index seen nth) same ∙ is

        by_call : (state : TxnState) (call : Now TxnPoint TxnAnswer) → state.seen ≡ attempt.state.seen
            → Rises workers nth (stepped client attempt before record { state = state; call = call })
        by_call state (At place) same = record { rising = rising; last = seen state same }
        by_call state (Over answer) same =
            let step : Stepped = record { state = state; call = Over answer } in
            let P : ClientState → Type 0 = λ c.
            Rises workers nth (record c { call = Some (Over (client_answer.Txn answer)) }) in
            on_answer_goes P (step_lists client before step) (step_opens attempt before step) answer
            (λ e. record { rising = rising; last = seen state same })
            (λ outcome e. record { rising = rising; last = tt })
            (λ outcome e. record { rising = rising; last = tt })
            (λ number e. record { rising = rising; last = tt })

  -- 3. A snapshot is taken

  -- where it goes on, by the word that was found
  module _ (start : ℕ) (V : ℕ → ℕ) (snaps : List (List ℕ)) (last : ℕ) (P : Now SnapPoint SnapEnd → Type 0) where
    snap_goes : (at : SnapPoint) (found : ℕ) → PassOk start workers V snaps (Some at) → FindsOwn nth last (Some at)
        → ((next : SnapPoint) → P (At next)) → ((worker first second : ℕ) → P (Over (Again worker first second)))
        → ((seen : List ℕ) → IsFollowing workers snaps seen → slice_index seen nth ≡ last → P (Over (Done seen)))
        → P (snap_after workers at found)
    snap_goes (First got) found pass own stays again done =
        stays (until workers (got ++ found ∷ []) First (λ seen. Second seen 0))
    snap_goes (Second seen k) found pass own stays again done =
        by_equal P found (slice_index seen k) (if k + 1 == workers then Over (Done seen) else At (Second seen (k + 1)))
        (Over (Again (k + 1) (slice_index seen k) found))
        (λ same.
        by_equal P (k + 1) workers (Over (Done seen)) (At (Second seen (k + 1))) (λ all. done seen pass.2 own)
        (λ more. stays (Second seen (k + 1))))
        (λ other. again (k + 1) (slice_index seen k) found)

  module _ (shape : Shape) (client : ClientState) (all : shape.workers ≡ workers) (rises : Rises workers nth client)
      (start : ℕ) (V : ℕ → ℕ) where
    -- one more is listed
    pushed : (seen : List ℕ) → IsFollowing workers client.log.snaps seen
        → Pairwise (AtMost workers) (client.log.snaps ++ seen ∷ [])
    pushed seen follows = pairs_pushed (AtMost workers) client.log.snaps seen rises.rising follows

    begin_rises : (txn number : ℕ) (at : SnapPoint) (found : ℕ)
        → ObserverOk start workers V nth (observer_of (go client (Beginning txn number at)))
        → Rises workers nth
        (on_begin shape (go client (Beginning txn number at)) txn number (snap_after workers at found))
    begin_rises txn number at found ok =
        snap_goes start V client.log.snaps client.last
        (λ now. Rises workers nth (on_begin shape (go client (Beginning txn number at)) txn number now)) at found
        ok.pass ok.finds_own (λ next. record { rising = rises.rising; last = rises.last })
        (λ worker first second. record { rising = rises.rising; last = rises.last })
        (λ seen follows own. record { rising = pushed seen follows; last = own })

    snap_rises : (bucket : ℕ) (at : SnapPoint) (found : ℕ)
        → ObserverOk start workers V nth (observer_of (go client (Snapping bucket at)))
        → Rises workers nth (on_snap shape (go client (Snapping bucket at)) bucket (snap_after workers at found))
    snap_rises bucket at found ok =
        snap_goes start V client.log.snaps client.last
        (λ now. Rises workers nth (on_snap shape (go client (Snapping bucket at)) bucket now)) at found ok.pass
        ok.finds_own (λ next. record { rising = rises.rising; last = rises.last })
        (λ worker first second. record { rising = rises.rising; last = rises.last })
        (λ seen follows own. record { rising = pushed seen follows; last = rises.last })

-- 4. Each step of a client

module _ (shape : Shape) (nth : ℕ) where
  abbrev Rise : ClientState → Type 0
  Rise = Rises shape.workers nth

  pub word_rises : (start : ℕ) (V : ℕ → ℕ) (found : ℕ) (before after : ClientState) → StepOf shape found before after
      → ObserverOk start shape.workers V nth (observer_of before) → Rise before → Rise after
  word_rises start V found _ after (Finds client place is plain anew) ok rises =
      plain_rises shape.workers nth _ after plain rises
  word_rises start V found _ after (Reads client place reader is plain on) ok rises =
      plain_rises shape.workers nth _ after plain rises
  word_rises start V found _ after (Moves client table key position at plain) ok rises =
      plain_rises shape.workers nth _ after plain rises
  word_rises start V found _ after (Collects client bucket prefix seen at plain) ok rises =
      plain_rises shape.workers nth _ after plain rises
  word_rises start V found _ after (Begins client txn number at) ok rises =
      begin_rises shape.workers nth shape client refl record { rising = rises.rising; last = rises.last } start V txn
      number at found ok
  word_rises start V found _ after (Snaps client bucket at) ok rises =
      snap_rises shape.workers nth shape client refl record { rising = rises.rising; last = rises.last } start V bucket
      at found ok
  word_rises start V found _ _ (Commits client attempt at) ok rises =
      let state = attempt.state in
      stepped_rises shape.workers nth (committing_at client attempt at) attempt rises.last rises.rising
      (length state.held) (commit_after state at found)
      (commit_goes (λ step. step.state.seen ≡ state.seen) state at found (λ next e. refl) (λ header next e f. refl)
      (λ point count next e f. refl) (λ answer e. refl))

  pub ask_rises : (before after : ClientState) → AskOf shape before after → Rise before → Rise after
  ask_rises _ after (AsksPlain client asked plain unread) rises = plain_rises shape.workers nth client after plain rises
  ask_rises _ _ (AsksBegin client txn number) rises = record { rising = rises.rising; last = rises.last }
  ask_rises _ _ (AsksCollect client bucket) rises = record { rising = rises.rising; last = rises.last }
  ask_rises _ _ (AsksCommit client attempt) rises =
      let state = attempt.state in
      stepped_rises shape.workers nth (record client { txn = Some attempt }) attempt rises.last rises.rising 0
      (ask_commit shape state)
      (ask_commit_goes (λ step. step.state.seen ≡ state.seen) state shape (λ e. refl) (λ e f. refl) (λ e f tells. refl)
      (λ e f untold. refl))
