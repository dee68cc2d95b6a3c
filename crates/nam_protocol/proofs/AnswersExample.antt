-- A client to whose answer the law of answers applies: a commit that gives a lock back, the second record being locked.
use Rattle.std.proofs.Common.{◌≡◌, [], ◌∷◌, Some, inl, refl, arith}
use Rattle.std.specs.List.{IsDistinct}
use Rattle.si_model.specs.Rows.{key_at, same_key}
use Rattle.si_model.specs.Evaluation.{key_claimed}
use Rattle.si_model.specs.declared.op.Op.TheVariants as op
use Rattle.si_model.proofs.EvaluationLemmas.{distinct-keys_from}
use Rattle.nam_verbs.specs.declared.now.Now.TheVariants.{At}
use Rattle.nam_catalog.specs.declared.form.Form.TheVariants.{Narrow}
use Rattle.nam_header.specs.Stamp.{with_lock}
use Rattle.nam_calls.specs.declared.lock.LockPoint.TheVariants.{GiveBack}
use Rattle.nam_protocol.specs.declared.client.Call.TheVariants.{Txn}
use Rattle.nam_protocol.specs.declared.client.CallPoint.{CallPoint}
use Rattle.nam_protocol.specs.declared.client.CallPoint.TheVariants.{InTxn}
use Rattle.nam_protocol.specs.declared.client.ClientState.{ClientState}
use Rattle.nam_protocol.specs.declared.txn.CommitPoint.TheVariants.{Locking}
use Rattle.nam_protocol.specs.declared.txn.TxnCall.TheVariants.{Commit, Put}
use Rattle.nam_protocol.specs.declared.txn.TxnPoint.TheVariants.{Committing}
use Rattle.nam_protocol.specs.AnswersLaw.{AnswerTells}
use Rattle.nam_protocol.specs.Carries.{Carries}
use Rattle.nam_protocol.specs.Client.{client_after, client_ask}
use Rattle.nam_protocol.specs.ClientFits.{ClientFits}
use Rattle.nam_protocol.proofs.AnswersClient.{answers_tell}
use Rattle.nam_protocol.proofs.ClientExample.{after_asked, after_found, asked, begun, pair, worker_1}
use Rattle.nam_protocol.proofs.KeyLemmas.{none_once}
use Rattle.nam_protocol.proofs.Shown.{lock}
use Rattle.nam_protocol.specs.declared.client.Answer.TheVariants as answer
use Rattle.nam_protocol.specs.declared.txn.TxnAnswer.TheVariants as txn

-- two puts, the first record's lock, and the other worker's lock on the second
abbrev writing : ClientState
writing =
    after_asked pair
    (after_asked pair (after_asked pair worker_1 begun) (asked (Txn (Put 0 0 (7 ∷ []))) (1 ∷ [])))
    (asked (Txn (Put 0 1 (7 ∷ []))) (2 ∷ []))

abbrev giving_back : ClientState
giving_back = after_found pair (client_ask pair writing (Txn Commit)) (0 ∷ 0 ∷ with_lock Narrow 2 0 ∷ [])

abbrev place : CallPoint
place = InTxn (Committing (Locking (GiveBack 0 (with_lock Narrow 2 0))))

at_place : giving_back.call ≡ Some (At place)
at_place = refl

two_once : IsDistinct same_key (key_at 0 0 ∷ key_at 0 1 ∷ [])
two_once = distinct-keys_from key_claimed [] (op.Put 0 0 (7 ∷ []) ∷ op.Put 0 1 (7 ∷ []) ∷ []) none_once

fits : ClientFits pair giving_back
fits = (
  (omega arith, omega arith),
  record {
    worker_is = (omega arith, omega arith);
    last_is = omega arith;
    seen_is = refl;
    few = omega arith;
    placed = (
      (0, (omega arith, omega arith), refl, omega arith),
      ((1, (omega arith, omega arith), refl, omega arith), tt),
    );
    claimed_once = two_once;
    written_once = two_once;
    guarded_once = none_once;
    written = (refl, (refl, tt));
    guarded = tt;
    used = (refl, (refl, tt));
    wide = (refl, (refl, tt));
  },
  (refl, omega arith, (((omega arith, omega arith), refl)), omega arith),
  omega arith,
)

carries : Carries giving_back
carries = record {
  opened = record {
    last_is = refl;
    took = record { earlier = []; listed = refl; number = refl };
    held = tt;
    point = inl refl;
  };
  scanned = tt;
  collected = tt;
}

-- the answer names the second record, and the log's last lock is that of the first
told : AnswerTells pair 0 giving_back (client_after pair giving_back 0) place
    (answer.Txn (txn.Locked (lock 0 1 0 0)))
told = (answers_tell pair).word giving_back place 0 (answer.Txn (txn.Locked (lock 0 1 0 0))) fits carries refl refl
