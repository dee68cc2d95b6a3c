-- What a transaction knows of keys after each word that it takes, and each call that it is asked.
use Rattle.std.proofs.Common.{List, [], inl, inr, subst, ℕ, ◌∷◌}
use Rattle.nam_calls.proofs.FallsTests.{either}
use Rattle.nam_calls.specs.Index.{claim_key_after, find_after}
use Rattle.nam_calls.specs.declared.index.ClaimKeyPoint.{ClaimKeyPoint}
use Rattle.nam_calls.specs.declared.reading.ReadPoint.{ReadPoint}
use Rattle.nam_catalog.specs.declared.shape.Shape.{Shape}
use Rattle.nam_ghost.specs.Keys.{AreAtKeys, Bears, ClaimsOk, IsAtKey, KeyClientOk, ViewOk}
use Rattle.nam_keys.proofs.TellLemmas.{none_past}
use Rattle.nam_keys.specs.Tells.{ClaimTells, FindTells, StepTells, now_view}
use Rattle.nam_layout.specs.declared.field.Field.{Field}
use Rattle.nam_protocol.proofs.GoesClient.{on_answer_goes, step_lists, step_opens, stepped_goes}
use Rattle.nam_protocol.proofs.GoesCommit.{ask_commit_goes, commit_goes}
use Rattle.nam_protocol.proofs.GoesTxn.{ask_goes, claiming_goes, finding_goes, reading_goes}
use Rattle.nam_protocol.specs.Commit.{commit_after}
use Rattle.nam_protocol.specs.Operations.{op_path}
use Rattle.nam_protocol.specs.Telling.{stepped}
use Rattle.nam_protocol.specs.Txn.{Stepped, ask_op, record_of, with_claim}
use Rattle.nam_protocol.specs.TxnCalls.{txn_after, txn_ask}
use Rattle.nam_protocol.specs.declared.client.ClientState.{ClientState}
use Rattle.nam_protocol.specs.declared.client.Open.{Open}
use Rattle.nam_protocol.specs.declared.txn.CommitPoint.{CommitPoint}
use Rattle.nam_protocol.specs.declared.txn.Record.{Record}
use Rattle.nam_protocol.specs.declared.txn.TxnAnswer.{TxnAnswer}
use Rattle.nam_protocol.specs.declared.txn.TxnCall.{TxnCall}
use Rattle.nam_protocol.specs.declared.txn.TxnCall.TheVariants.{Add, Commit, Del, Get, Guard, Need, Put}
use Rattle.nam_protocol.specs.declared.txn.TxnPoint.{TxnPoint}
use Rattle.nam_protocol.specs.declared.txn.TxnPoint.TheVariants.{Claiming, Finding, Reading}
use Rattle.nam_protocol.specs.declared.txn.TxnState.{TxnState}
use Rattle.nam_verbs.specs.declared.now.Now.{Now}
use Rattle.si_model.specs.Evaluation.{op_key}
use Rattle.si_model.specs.Rows.{same_key}
use Rattle.si_model.specs.declared.op.Op.{Op}
use Rattle.si_model.specs.declared.op.Op.TheVariants as op

module _ (shape : Shape) (m : Field → ℕ) where
  -- 1. One claim more

  claim_more : (claims : List Record) (r : Record) → AreAtKeys shape m claims → IsAtKey shape m r
      → AreAtKeys shape m (with_claim claims r)
  claim_more [] r all new claim listed = elim listed [
    | inl same ↦ subst (IsAtKey shape m) same new
    | inr none ↦ absurd none
  ]
  claim_more (c ∷ cs) r all new claim listed =
      either (AreAtKeys shape m) (same_key c.key r.key) (c ∷ cs) (c ∷ with_claim cs r) all
      (λ other l. elim l [
        | inl same ↦ all other (inl same)
        | inr later ↦ claim_more cs r (λ o k. all o (inr k)) new other later
      ]) claim listed

  -- 2. A client whose transaction has stepped

  pub stepped_tells : (client : ClientState) (attempt : Open) (before : ℕ) (step : Stepped) → StepTells shape m step
      → KeyClientOk shape m (stepped client attempt before step)
  stepped_tells client attempt before step tells =
      stepped_goes (KeyClientOk shape m) client attempt before step
      (λ place e. record {
        at = subst (λ (call : Now TxnPoint TxnAnswer). ViewOk shape m (now_view call)) e tells.1;
        claims = tells.0;
        scanned = tt;
      })
      (λ answer e. record {
        at = tt;
        claims = on_answer_goes (λ c. ClaimsOk shape m c.txn) (step_lists client before step)
            (step_opens attempt before step) answer (λ f. tells.0) (λ outcome f. tt) (λ outcome f. tt)
            (λ number f. tt);
        scanned = tt;
      })

  -- 3. A word is taken

  abbrev Tells : Stepped → Type 0
  Tells = StepTells shape m

  module _ (state : TxnState) (claims : AreAtKeys shape m state.claims) where
    module _ (op : Op) where
      pub finding_tells : (passed found : ℕ)
          → FindTells shape m (op_key op) (find_after (op_path shape op) passed found)
          → Tells (txn_after shape state (Finding op passed) found)
      finding_tells passed found tells =
          finding_goes shape Tells op state passed found
          (λ next e. (claims, subst (FindTells shape m (op_key op)) e tells))
          (λ position e. (claims, subst (FindTells shape m (op_key op)) e tells))
          (λ e f. (claims, none_past shape m (op_key op).table (op_key op).key)) (λ e answer silent. (claims, tt))

      pub reading_tells : (position : ℕ) (place : ReadPoint) (found : ℕ)
          → Bears shape m (op_key op).table (op_key op).key position
          → Tells (txn_after shape state (Reading op position place) found)
      reading_tells position place found bears =
          reading_goes shape Tells op state position place found (λ next e. (claims, bears))
          (λ value e f. (claims, none_past shape m (op_key op).table (op_key op).key))
          (λ value e answer silent. (claims, tt)) (λ worker entry horizon e. (claims, tt)) (λ e. (claims, tt))

      pub claiming_tells : (place : ClaimKeyPoint) (found : ℕ)
          → ClaimTells shape m (op_key op) (claim_key_after (op_path shape op) place found)
          → Tells (txn_after shape state (Claiming op place) found)
      claiming_tells place found tells =
          claiming_goes shape Tells op state place found
          (λ next e. (claims, subst (ClaimTells shape m (op_key op)) e tells)) (λ e. (claims, tt))
          (λ position e answer silent f. (
            claim_more state.claims (record_of shape op position) claims
                (subst (ClaimTells shape m (op_key op)) e tells),
            tt,
          ))

      ask_tells : Tells (ask_op shape state op)
      ask_tells =
          ask_goes shape Tells op state (λ e f. (claims, tt)) (λ e f. (claims, tt))
          (λ e f. (claims, none_past shape m (op_key op).table (op_key op).key))
          (λ e f. (claims, none_past shape m (op_key op).table (op_key op).key))

    pub committing_tells : (at : CommitPoint) (found : ℕ) → Tells (commit_after state at found)
    committing_tells at found =
        commit_goes Tells state at found (λ next e. (claims, tt)) (λ header next e f. (claims, tt))
        (λ slot count next e f. (claims, tt)) (λ answer e. (claims, tt))

    -- 4. A call is asked

    pub asked_tells : (call : TxnCall) → Tells (txn_ask shape state call)
    asked_tells (Get t k) = ask_tells (op.Get t k)
    asked_tells (Put t k v) = ask_tells (op.Put t k v)
    asked_tells (Add t k f up by) = ask_tells (op.Add t k f up by)
    asked_tells (Del t k) = ask_tells (op.Del t k)
    asked_tells (Need t k f least) = ask_tells (op.Need t k f least)
    asked_tells (Guard t k) = ask_tells (op.Guard t k)
    asked_tells Commit =
        ask_commit_goes Tells state shape (λ e. (claims, tt)) (λ e f. (claims, tt)) (λ e f g. (claims, tt))
        (λ e f g. (claims, tt))
