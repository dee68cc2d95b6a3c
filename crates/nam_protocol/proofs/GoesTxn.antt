-- Where a transaction's call goes on. For any property of what comes out: if it holds at each point that may follow,
-- and at each answer, then it holds after the word. First by what the call's part has come to, then of each point
-- whole.
use Rattle.std.proofs.Common.{◌≡◌, ℕ, Bool, true, false, not, List, Option, None, refl}
use Rattle.std.specs.Prelude.{if◌then◌else◌}
use Rattle.std.proofs.lemmas.Bool.{cond_both}
use Rattle.si_model.specs.declared.op.Op.{Op}
use Rattle.si_model.specs.declared.op.Op.TheVariants.{Get, Put, Add, Del, Need, Guard, Scan}
use Rattle.si_model.specs.Evaluation.{passes, op_key}
use Rattle.si_model.specs.Rows.{writes_key}
use Rattle.si_model.specs.Operations.{op_reads, op_claims}
use Rattle.nam_verbs.specs.declared.now.Now.{Now}
use Rattle.nam_verbs.specs.declared.now.Now.TheVariants.{At, Over}
use Rattle.nam_catalog.specs.declared.shape.Shape.{Shape}
use Rattle.nam_calls.specs.declared.index.FindEnd.{FindEnd}
use Rattle.nam_calls.specs.declared.index.ClaimKeyPoint.{ClaimKeyPoint}
use Rattle.nam_calls.specs.declared.index.ClaimKeyPoint.TheVariants.{KeyLook}
use Rattle.nam_calls.specs.declared.index.ClaimKeyEnd.{ClaimKeyEnd}
use Rattle.nam_calls.specs.declared.reading.ReadPoint.{ReadPoint}
use Rattle.nam_calls.specs.declared.reading.ReadingEnd.{ReadingEnd}
use Rattle.nam_calls.specs.Index.{find_after, claim_key_after}
use Rattle.nam_calls.specs.Reading.{sight_of, read_begin, read_after}
use Rattle.nam_calls.specs.declared.index.FindEnd.TheVariants as found_key
use Rattle.nam_calls.specs.declared.index.ClaimKeyEnd.TheVariants as claimed_key
use Rattle.nam_calls.specs.declared.reading.ReadingEnd.TheVariants as read_end
use Rattle.nam_protocol.specs.declared.txn.TxnState.{TxnState}
use Rattle.nam_protocol.specs.declared.txn.TxnPoint.TheVariants.{Finding, Reading, Claiming}
use Rattle.nam_protocol.specs.declared.txn.TxnAnswer.{TxnAnswer}
use Rattle.nam_protocol.specs.declared.txn.TxnAnswer.TheVariants.{Committed, TooOld, NoSpace, Declined, Astray}
use Rattle.nam_protocol.specs.Operations.{op_path, holding, own_value, read_of, value_in, answer_of}
use Rattle.nam_protocol.specs.Txn.{Stepped, at, over, with_op, ask_op, on_decision, on_value, on_find, on_read}
use Rattle.nam_protocol.specs.Txn.{on_claim, after_claim}
use Rattle.nam_protocol.specs.TxnCalls.{txn_after}

-- the state once the value is known
abbrev pub knowing : TxnState → Op → Option (List ℕ) → TxnState
knowing state op value = record state { read = read_of op value }

-- an answer that publishes nothing, as those of operations
abbrev pub IsSilent : TxnAnswer → Type 0
IsSilent (Committed number) = ⊥
IsSilent _ = Unit {0}

pub silent_answer : (op : Op) (value : Option (List ℕ)) → IsSilent (answer_of op value)
silent_answer (Get t k) value = tt
silent_answer (Put t k v) value = tt
silent_answer (Add t k f up by) value = tt
silent_answer (Del t k) value = tt
silent_answer (Need t k f least) value = tt
silent_answer (Guard t k) value = tt
silent_answer (Scan t low high) value = tt

by_not : {A : Type 0} (P : A → Type 0) (b : Bool) (x y : A) → (b ≡ false → P x) → (b ≡ true → P y)
    → P (if not b then x else y)
by_not P true x y f g = g refl
by_not P false x y f g = f refl

module _ (shape : Shape) (P : Stepped → Type 0) (op : Op) where
  -- 1. The decision

  pub decided_goes : (state : TxnState) (value : Option (List ℕ))
      → (passes op (holding value) ≡ false → P (over state Declined))
      → (passes op (holding value) ≡ true → op_claims op ≡ true → P (at state (Claiming op (KeyLook 0))))
      → (passes op (holding value) ≡ true → op_claims op ≡ false → P (over state (answer_of op value)))
      → P (on_decision shape state op value)
  decided_goes state value declined claiming answer =
      by_not P (passes op (holding value)) _ _ declined (λ e. cond_both (op_claims op) _ _ P (claiming e) (answer e))

  -- the same, whatever the answer
  pub valued_goes : (state : TxnState) (value : Option (List ℕ))
      → (op_claims op ≡ true → P (at (knowing state op value) (Claiming op (KeyLook 0))))
      → ((answer : TxnAnswer) → IsSilent answer → P (over (knowing state op value) answer))
      → P (on_value shape state op value)
  valued_goes state value claiming answer =
      decided_goes (knowing state op value) value (λ e. answer Declined tt) (λ e. claiming)
      (λ e f. answer (answer_of op value) (silent_answer op value))

  -- 2. An operation is asked

  pub ask_goes : (state : TxnState)
      → (writes_key state.writes (op_key op) ≡ true → let own = own_value state.writes (op_key op) in
      passes op (holding own) ≡ false → P (over (knowing state op own) Declined))
      → (writes_key state.writes (op_key op) ≡ true → let own = own_value state.writes (op_key op) in
      passes op (holding own) ≡ true → P (over (with_op shape (knowing state op own) op own) (answer_of op own)))
      → (writes_key state.writes (op_key op) ≡ false → op_reads op ≡ true
      → P (at (record state { read = None }) (Finding op 0)))
      → (writes_key state.writes (op_key op) ≡ false → op_reads op ≡ false
      → P (at (record state { read = None }) (Claiming op (KeyLook 0))))
      → P (ask_op shape state op)
  ask_goes state declined own finding claiming =
      cond_both (writes_key state.writes (op_key op)) _ _ P
      (λ e. by_not P (passes op (holding (own_value state.writes (op_key op)))) _ _ (declined e) (own e))
      (λ e. cond_both (op_reads op) _ _ P (finding e) (claiming e))

  -- 3. By what the part has come to

  pub on_find_goes : (state : TxnState) (now : Now ℕ FindEnd)
      → ((passed : ℕ) → now ≡ At passed → P (at state (Finding op passed)))
      → ((position : ℕ) → now ≡ Over (found_key.At position) → P (at state (Reading op position read_begin)))
      → (now ≡ Over found_key.Absent → P (on_value shape state op None))
      → P (on_find shape state op now)
  on_find_goes state (At passed) stays reading absent = stays passed refl
  on_find_goes state (Over (found_key.At position)) stays reading absent = reading position refl
  on_find_goes state (Over found_key.Absent) stays reading absent = absent refl

  pub on_read_goes : (state : TxnState) (position : ℕ) (now : Now ReadPoint ReadingEnd)
      → ((place : ReadPoint) → now ≡ At place → P (at state (Reading op position place)))
      → ((value : Option (List ℕ)) → now ≡ Over (read_end.Got value) → P (on_value shape state op value))
      → ((worker entry horizon : ℕ) → now ≡ Over (read_end.Passed worker entry horizon)
      → P (over state (TooOld worker entry horizon)))
      → (now ≡ Over read_end.Astray → P (over state Astray))
      → P (on_read shape state op position now)
  on_read_goes state position (At place) stays found passed astray = stays place refl
  on_read_goes state position (Over (read_end.Got value)) stays found passed astray = found value refl
  on_read_goes state position (Over (read_end.Passed worker entry horizon)) stays found passed astray =
      passed worker entry horizon refl
  on_read_goes state position (Over read_end.Astray) stays found passed astray = astray refl

  pub on_claim_goes : (state : TxnState) (now : Now ClaimKeyPoint ClaimKeyEnd)
      → ((place : ClaimKeyPoint) → now ≡ At place → P (at state (Claiming op place)))
      → (now ≡ Over claimed_key.NoSpace → P (over state (NoSpace (op_key op).table)))
      → ((position : ℕ) → now ≡ Over (claimed_key.At position)
      → P (over (after_claim shape state op position) (answer_of op (value_in state.read))))
      → P (on_claim shape state op now)
  on_claim_goes state (At place) stays none found = stays place refl
  on_claim_goes state (Over claimed_key.NoSpace) stays none found = none refl
  on_claim_goes state (Over (claimed_key.At position)) stays none found = found position refl

  -- 4. Each point whole, with what its part has come to

  pub finding_goes : (state : TxnState) (passed found : ℕ) → let now = find_after (op_path shape op) passed found in
      ((next : ℕ) → now ≡ At next → P (at state (Finding op next)))
      → ((position : ℕ) → now ≡ Over (found_key.At position) → P (at state (Reading op position read_begin)))
      → (now ≡ Over found_key.Absent → op_claims op ≡ true → P (at (knowing state op None) (Claiming op (KeyLook 0))))
      → (now ≡ Over found_key.Absent → (answer : TxnAnswer) → IsSilent answer
      → P (over (knowing state op None) answer))
      → P (txn_after shape state (Finding op passed) found)
  finding_goes state passed found stays reading claiming answer =
      on_find_goes state _ stays reading (λ e. valued_goes state None (claiming e) (answer e))

  pub reading_goes : (state : TxnState) (position : ℕ) (place : ReadPoint) (found : ℕ)
      → let now = read_after (sight_of shape (op_key op).table position) state.seen place found in
      ((next : ReadPoint) → now ≡ At next → P (at state (Reading op position next)))
      → ((value : Option (List ℕ)) → now ≡ Over (read_end.Got value) → op_claims op ≡ true
      → P (at (knowing state op value) (Claiming op (KeyLook 0))))
      → ((value : Option (List ℕ)) → now ≡ Over (read_end.Got value) → (answer : TxnAnswer) → IsSilent answer
      → P (over (knowing state op value) answer))
      → ((worker entry horizon : ℕ) → now ≡ Over (read_end.Passed worker entry horizon)
      → P (over state (TooOld worker entry horizon)))
      → (now ≡ Over read_end.Astray → P (over state Astray))
      → P (txn_after shape state (Reading op position place) found)
  reading_goes state position place found stays claiming answer passed astray =
      on_read_goes state position _ stays
      (λ value e. valued_goes state value (claiming value e) (answer value e)) passed astray

  pub claiming_goes : (state : TxnState) (place : ClaimKeyPoint) (found : ℕ)
      → let now = claim_key_after (op_path shape op) place found in
      ((next : ClaimKeyPoint) → now ≡ At next → P (at state (Claiming op next)))
      → (now ≡ Over claimed_key.NoSpace → P (over state (NoSpace (op_key op).table)))
      → ((position : ℕ) → now ≡ Over (claimed_key.At position) → (answer : TxnAnswer) → IsSilent answer
      → answer ≡ answer_of op (value_in state.read) → P (over (after_claim shape state op position) answer))
      → P (txn_after shape state (Claiming op place) found)
  claiming_goes state place found stays none done =
      on_claim_goes state _ stays none
      (λ position e. done position e (answer_of op (value_in state.read)) (silent_answer op (value_in state.read)) refl)
