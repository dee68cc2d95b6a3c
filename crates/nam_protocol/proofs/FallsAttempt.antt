-- The bound on verbs of an attempt is the sum of those of its calls.
use Rattle.std.proofs.Common.{◌≡◌, ℕ, ◌+◌, ◌*◌, List, [], ◌∷◌, ◌++◌, length, refl, sym, ◌∙◌, ap, subst, arith, inl}
use Rattle.std.proofs.Common.{inr, Bool, true, false, not, Option, Some, None}
use Rattle.std.specs.Prelude.{if◌then◌else◌, map, filter, slice_index}
use Rattle.std.proofs.lemmas.Bool.{cases_Bool, false≢true}
use Rattle.si_model.specs.declared.row.Key.{Key}
use Rattle.si_model.specs.declared.row.Item.{Item}
use Rattle.si_model.specs.declared.op.Op.{Op}
use Rattle.si_model.specs.declared.op.Op.TheVariants.{Get, Put, Add, Del, Need, Guard, Scan}
use Rattle.si_model.specs.Rows.{Rows, key_at, same_key, item_key, item_at, writes_key}
use Rattle.si_model.specs.Evaluation.{field_of, with_field, new_number, with_write, with_guard, passes, writes_after}
use Rattle.si_model.specs.Evaluation.{op_key}
use Rattle.si_model.specs.Evaluation.{guards_after, unwritten, key_written, key_guarded, ops_write, keys_from}
use Rattle.si_model.specs.Evaluation.{written_keys, guard_keys}
use Rattle.si_model.specs.EvaluationLaws.{writes_from}
use Rattle.si_model.proofs.EvaluationLemmas.{same_key_says, map-writes_from, writes_key-writes_from}
use Rattle.si_model.specs.Operations.{op_reads, op_claims}
use Rattle.nam_verbs.specs.declared.now.Now.{Now}
use Rattle.nam_verbs.specs.declared.now.Now.TheVariants.{At, Over}
use Rattle.nam_verbs.proofs.TestLemmas.{by_test}
use Rattle.nam_catalog.specs.declared.shape.Shape.{Shape}
use Rattle.nam_catalog.specs.Tables.{widths_of}
use Rattle.nam_calls.specs.declared.index.FindEnd.{FindEnd}
use Rattle.nam_calls.specs.declared.index.ClaimKeyPoint.{ClaimKeyPoint}
use Rattle.nam_calls.specs.declared.index.ClaimKeyEnd.{ClaimKeyEnd}
use Rattle.nam_calls.specs.declared.reading.ReadPoint.{ReadPoint}
use Rattle.nam_calls.specs.declared.reading.ReadingEnd.{ReadingEnd}
use Rattle.nam_calls.specs.Index.{find_begin, claim_key_begin, find_after, claim_key_after}
use Rattle.nam_calls.specs.Reading.{sight_of, read_after}
use Rattle.nam_calls.proofs.FallsTests.{either}
use Rattle.nam_calls.specs.declared.index.FindEnd.TheVariants as found_key
use Rattle.nam_calls.specs.declared.index.ClaimKeyEnd.TheVariants as claimed_key
use Rattle.nam_calls.specs.declared.reading.ReadingEnd.TheVariants as read_end
use Rattle.nam_protocol.specs.declared.txn.TxnState.{TxnState}
use Rattle.nam_protocol.specs.declared.txn.TxnPoint.{TxnPoint}
use Rattle.nam_protocol.specs.declared.txn.TxnPoint.TheVariants.{Finding, Reading, Claiming, Committing}
use Rattle.nam_protocol.specs.declared.txn.TxnAnswer.TheVariants.{Declined}
use Rattle.nam_protocol.specs.Operations.{holding, own_value, read_of, value_in, answer_of}
use Rattle.nam_protocol.specs.Operations.{op_path}
use Rattle.nam_protocol.specs.Txn.{at, over, with_op, with_own, ask_op, on_value, on_find, on_read, record_of}
use Rattle.nam_protocol.specs.Txn.{with_claim, on_claim}
use Rattle.nam_protocol.specs.TxnCalls.{txn_after}
use Rattle.nam_protocol.specs.Bound.{ops_bound, writes_bound, intent_bound, verb_bound}
use Rattle.nam_protocol.specs.TxnFits.{commit_bound}
use Rattle.nam_protocol.specs.AttemptLaw.{KeysAsked, HasAsked, has_passed, AnswerAsks, Asks, IsOfOp}

-- 1. Keys

map_wrote : (ws : List Item) (i : Item) → map item_key (with_write ws i) ≡ with_guard (map item_key ws) (item_key i)
map_wrote [] i = refl
map_wrote (w ∷ ws) i = elim (cases_Bool (same_key (item_key w) (item_key i))) [
  | inl same ↦ rw (same, same_key_says (item_key w) (item_key i) same) refl
  | inr other ↦ rw other (ap (λ ks. item_key w ∷ ks) (map_wrote ws i))
]

-- one more operation
keys_more : (named : Op → Option Key) (ks : List Key) (ops : List Op) (op : Op)
    → keys_from named ks (ops ++ op ∷ []) ≡ elim
    (named op) [ None ↦ keys_from named ks ops | Some key ↦ with_guard (keys_from named ks ops) key ]
keys_more named ks [] op = refl
keys_more named ks (o ∷ ops) op = keys_more named (elim (named o) [ None ↦ ks | Some key ↦ with_guard ks key ]) ops op

has_key : List Key → Key → Bool
has_key [] key = false
has_key (k ∷ ks) key = if same_key k key then true else has_key ks key

writes_by_keys : (ws : List Item) (key : Key) → writes_key ws key ≡ has_key (map item_key ws) key
unfolding has_key
writes_by_keys [] key = refl
writes_by_keys (w ∷ ws) key = ap (λ (b : Bool). if same_key (item_key w) key then true else b) (writes_by_keys ws key)

-- a write set writes what the operations of its keys write
writes_as_asked : (ws : List Item) (ops : List Op) (key : Key) → map item_key ws ≡ written_keys ops
    → writes_key ws key ≡ ops_write key ops
writes_as_asked ws ops key e =
    let none : Rows = λ k. None in
    let other = writes_from [] none [] ops in
    writes_by_keys ws key ∙ ap (λ ks. has_key ks key) (e ∙ sym (map-writes_from [] none [] ops))
    ∙ sym (writes_by_keys other key)
    ∙ writes_key-writes_from [] none [] ops key

filter_same : {A : Type 0} (f g : A → Bool) → ((x : A) → f x ≡ g x) → (xs : List A) → filter f xs ≡ filter g xs
filter_same f g same [] = refl
filter_same f g same (x ∷ xs) = rw (same x) (ap (λ ys. if g x then x ∷ ys else ys) (filter_same f g same xs))

-- 2. The bound

-- the guards that aren't written are those of the operations
pub guards_as_asked : (state : TxnState) (ops : List Op) → HasAsked state ops
    → unwritten state.writes state.guards ≡ guard_keys ops
guards_as_asked state ops asked =
    filter_same (λ key. not (writes_key state.writes key)) (λ key. not (ops_write key ops))
    (λ key. ap not (writes_as_asked state.writes ops key asked.written)) state.guards
    ∙ ap (filter (λ key. not (ops_write key ops))) asked.guarded

pub attempt_bound : (shape : Shape) (state : TxnState) (ops : List Op) → HasAsked state ops
    → 2 * shape.workers + ops_bound shape ops + commit_bound shape state ≡ verb_bound shape ops
attempt_bound shape state ops asked =
    let keys = ap (writes_bound shape) asked.written in
    let most = ap (λ (ks : List Key). length ks) (guards_as_asked state ops asked) in
    let intent = ap (λ (ks : List Key). intent_bound shape ks (length (unwritten state.writes state.guards))) asked.written
    ∙ ap (λ n. intent_bound shape (written_keys ops) n) most in
    omega arith

-- 3. Operations

module _ (ws : List Item) (gs : List Key) (ops : List Op) (asked : KeysAsked ws gs ops) where
  unchanged : (op : Op) → key_written op ≡ None → key_guarded op ≡ None → KeysAsked ws gs (ops ++ op ∷ [])
  unchanged op w g = record {
    written = asked.written ∙ sym (rw w at (keys_more key_written [] ops op));
    guarded = asked.guarded ∙ sym (rw g at (keys_more key_guarded [] ops op));
  }

  wrote_one : (op : Op) (i : Item) → key_written op ≡ Some (item_key i) → key_guarded op ≡ None
      → KeysAsked (with_write ws i) gs (ops ++ op ∷ [])
  wrote_one op i w g = record {
    written = map_wrote ws i ∙ ap (λ ks. with_guard ks (item_key i)) asked.written
        ∙ sym (rw w at (keys_more key_written [] ops op));
    guarded = asked.guarded ∙ sym (rw g at (keys_more key_guarded [] ops op));
  }

  guarded_one : (op : Op) (key : Key) → key_written op ≡ None → key_guarded op ≡ Some key
      → KeysAsked ws (with_guard gs key) (ops ++ op ∷ [])
  guarded_one op key w g = record {
    written = asked.written ∙ sym (rw w at (keys_more key_written [] ops op));
    guarded = ap (λ ks. with_guard ks key) asked.guarded ∙ sym (rw g at (keys_more key_guarded [] ops op));
  }

  one_more : (widths : List ℕ) (op : Op) (value : Option (List ℕ))
      → KeysAsked (writes_after widths op (holding value) ws) (guards_after op gs) (ops ++ op ∷ [])
  one_more widths (Get t k) value = unchanged (Get t k) refl refl
  one_more widths (Put t k v) value = wrote_one (Put t k v) (item_at (key_at t k) (Some v)) refl refl
  one_more widths (Add t k f up by) value =
      wrote_one (Add t k f up by)
      (item_at (key_at t k) (Some (with_field (slice_index widths t) value f (new_number up (field_of value f) by))))
      refl refl
  one_more widths (Del t k) value = wrote_one (Del t k) (item_at (key_at t k) None) refl refl
  one_more widths (Need t k f least) value = unchanged (Need t k f least) refl refl
  one_more widths (Guard t k) value = guarded_one (Guard t k) (key_at t k) refl refl
  one_more widths (Scan t low high) value = unchanged (Scan t low high) refl refl

  -- an operation that claims nothing changes nothing
  pub unclaimed : (op : Op) → op_claims op ≡ false → KeysAsked ws gs (ops ++ op ∷ [])
  unclaimed (Get t k) e = unchanged (Get t k) refl refl
  unclaimed (Put t k v) e = absurd (false≢true (sym e))
  unclaimed (Add t k f up by) e = absurd (false≢true (sym e))
  unclaimed (Del t k) e = absurd (false≢true (sym e))
  unclaimed (Need t k f least) e = unchanged (Need t k f least) refl refl
  unclaimed (Guard t k) e = absurd (false≢true (sym e))
  unclaimed (Scan t low high) e = unchanged (Scan t low high) refl refl

passed_answer : (op : Op) (value : Option (List ℕ)) → has_passed (answer_of op value) ≡ true
passed_answer (Get t k) value = refl
passed_answer (Put t k v) value = refl
passed_answer (Add t k f up by) value = refl
passed_answer (Del t k) value = refl
passed_answer (Need t k f least) value = refl
passed_answer (Guard t k) value = refl
passed_answer (Scan t low high) value = refl

-- 4. Calls

module _ (shape : Shape) where
  passed : (state : TxnState) (ops : List Op) (op : Op) (value : Option (List ℕ)) → HasAsked state (ops ++ op ∷ [])
      → Asks ops op (over state (answer_of op value))
  passed state ops op value asked = subst (AnswerAsks state ops op) (sym (passed_answer op value)) asked

  module _ (state : TxnState) (ops : List Op) (op : Op) (asked : HasAsked state ops) where
    valued_asks : (value : Option (List ℕ)) → Asks ops op (on_value shape state op value)
    valued_asks value =
        let state' = record state { read = read_of op value } in
        let claiming = at state' (Claiming op claim_key_begin) in
        either (Asks ops op) (not (passes op (holding value))) (over state' Declined)
        (if op_claims op then claiming else over state' (answer_of op value))
        asked
        (by_test (Asks ops op) (op_claims op) claiming (over state' (answer_of op value)) (λ e. asked)
        (λ e. passed state' ops op value (unclaimed state.writes state.guards ops asked op e)))

    on_find_asks : (now : Now ℕ FindEnd) → Asks ops op (on_find shape state op now)
    on_find_asks (At place) = asked
    on_find_asks (Over (found_key.At position)) = asked
    on_find_asks (Over found_key.Absent) = valued_asks None

    on_read_asks : (position : ℕ) (now : Now ReadPoint ReadingEnd) → Asks ops op (on_read shape state op position now)
    on_read_asks position (At place) = asked
    on_read_asks position (Over (read_end.Got value)) = valued_asks value
    on_read_asks position (Over (read_end.Passed worker entry horizon)) = asked
    on_read_asks position (Over read_end.Astray) = asked

    on_claim_asks : (now : Now ClaimKeyPoint ClaimKeyEnd) → Asks ops op (on_claim shape state op now)
    on_claim_asks (At place) = asked
    on_claim_asks (Over claimed_key.NoSpace) = asked
    on_claim_asks (Over (claimed_key.At position)) =
        let state' = record state { claims = with_claim state.claims (record_of shape op position) } in
        passed (with_op shape state' op (value_in state.read)) ops op (value_in state.read)
        (one_more state.writes state.guards ops asked (widths_of shape.tables) op (value_in state.read))

    pub ask_asks : Asks ops op (ask_op shape state op)
    ask_asks =
        let own = own_value state.writes (op_key op) in
        let state' = record state { read = read_of op own } in
        let none = record state { read = None } in
        let finding = at none (Finding op find_begin) in
        let claiming = at none (Claiming op claim_key_begin) in
        either (Asks ops op) (writes_key state.writes (op_key op)) (with_own shape state' op own)
        (if op_reads op then finding else claiming)
        (either (Asks ops op) (not (passes op (holding own))) (over state' Declined)
        (over (with_op shape state' op own) (answer_of op own))
        asked (passed (with_op shape state' op own) ops op own
        (one_more state.writes state.guards ops asked (widths_of shape.tables) op own)))
        (either (Asks ops op) (op_reads op) finding claiming asked asked)

  pub take_asks : (state : TxnState) (ops : List Op) (op : Op) (place : TxnPoint) (found : ℕ) → HasAsked state ops
      → IsOfOp op place
      → Asks ops op (txn_after shape state place found)
  take_asks state ops op (Finding o passed) found asked e =
      subst (λ p. Asks ops p (txn_after shape state (Finding o passed) found)) e
      (on_find_asks state ops o asked (find_after (op_path shape o) passed found))
  take_asks state ops op (Reading o position at) found asked e =
      subst (λ p. Asks ops p (txn_after shape state (Reading o position at) found)) e
      (on_read_asks state ops o asked position
      (read_after (sight_of shape (op_key o).table position) state.seen at found))
  take_asks state ops op (Claiming o at) found asked e =
      subst (λ p. Asks ops p (txn_after shape state (Claiming o at) found)) e
      (on_claim_asks state ops o asked (claim_key_after (op_path shape o) at found))
  take_asks state ops op (Committing at) found asked e = absurd e
