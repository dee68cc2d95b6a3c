-- Words that make a call of a transaction last as long as it can.
use Rattle.std.proofs.Common.{◌≡◌, ℕ, ◌+◌, ◌-◌, ◌*◌, ◌<◌, ◌≤◌, List, [], ◌∷◌, length, refl, arith}
use Rattle.std.proofs.Common.{◌∙◌, false, Some}
use Rattle.std.specs.Prelude.{IsSome}
use Rattle.si_model.specs.Evaluation.{op_key}
use Rattle.si_model.specs.declared.op.Op.{Op}
use Rattle.nam_catalog.specs.declared.shape.Shape.{Shape}
use Rattle.nam_catalog.specs.Fits.{FitsLimits}
use Rattle.nam_calls.specs.Holds.{IsWord}
use Rattle.nam_calls.specs.Words.{width_of, capacity_of, key_word}
use Rattle.nam_layout.specs.Place.{place_of}
use Rattle.nam_layout.proofs.ExtentLemmas.{rows_le}
use Rattle.nam_layout.proofs.PositionLemmas.{position_is_row}
use Rattle.nam_calls.specs.Index.{find_begin, claim_key_begin, nth_position}
use Rattle.nam_calls.specs.Reading.{sight_of, read_begin, read_most}
use Rattle.nam_calls.specs.Fits.{IsTableOf}
use Rattle.nam_calls.proofs.FallsTables.{has_capacity, width_is, sight_fits, read_figure}
use Rattle.nam_protocol.specs.declared.txn.TxnState.{TxnState}
use Rattle.nam_protocol.specs.declared.txn.TxnPoint.{TxnPoint}
use Rattle.nam_protocol.specs.declared.txn.TxnPoint.TheVariants.{Finding, Reading, Claiming}
use Rattle.nam_protocol.specs.declared.txn.TxnAnswer.{TxnAnswer}
use Rattle.nam_protocol.specs.declared.txn.TxnAnswer.TheVariants.{NoSpace, Astray}
use Rattle.nam_protocol.specs.declared.client.CallPoint.TheVariants.{InTxn}
use Rattle.nam_protocol.specs.declared.client.Open.{Open}
use Rattle.nam_protocol.specs.declared.client.ClientState.{ClientState}
use Rattle.nam_protocol.specs.Operations.{op_path}
use Rattle.nam_protocol.specs.Txn.{Stepped, at, over, on_find, on_read, on_claim, on_value}
use Rattle.nam_protocol.specs.TxnCalls.{txn_after, taken_at}
use Rattle.nam_protocol.specs.Log.{with_locks}
use Rattle.nam_protocol.specs.Telling.{go, new_locks, stepped}
use Rattle.nam_protocol.specs.Client.{client_verb, client_after}
use Rattle.nam_longest.specs.Longest.{value_longest}
use Rattle.nam_longest.specs.LongestLaw.{LastsWords}
use Rattle.nam_longest.proofs.LastsMachines.{AreAll, find_lasts, claim_lasts}
use Rattle.nam_longest.proofs.LastsRead.{goes_astray, finds_last}

-- the row of a position is a word
pub row_word : (shape : Shape) → FitsLimits shape → (table position : ℕ) → IsTableOf shape table
    → position < capacity_of shape table
    → IsWord (place_of shape table position).row
row_word shape limits table position is l =
    let r = (position_is_row shape.tables table position (is, l)).within in
    let n = rows_le shape.tables in
    let w = limits.words in
    omega arith

module _ (shape : Shape) where
  -- a word before the others
  pub word_first : (client : ClientState) (found n m : ℕ) → IsWord found → m ≡ n + 1 → IsSome (client_verb shape client)
      → LastsWords shape (client_after shape client found) n → LastsWords shape client m
  word_first client found n m is e some h = let l = h.3 in (found ∷ h.0, (is, h.1), (some, h.2), omega arith)

  -- each client whose transaction has stepped so lasts as long
  abbrev pub TxnLasts : Stepped → ℕ → Type 0
  TxnLasts step n = (client : ClientState) (attempt : Open) (before : ℕ) → client.cut ≡ false
      → LastsWords shape (stepped client attempt before step) n

  pub over_lasts : (state : TxnState) (answer : TxnAnswer) → TxnLasts (over state answer) 0
  over_lasts state answer client attempt before runs = ([], tt, tt, refl)

  pub at_lasts : (state : TxnState) (place : TxnPoint) (found n m : ℕ) → IsWord found → m ≡ n + 1
      → TxnLasts (txn_after shape state place found) n → TxnLasts (at state place) m
  at_lasts state place found n m is e h client attempt before runs =
      let locks = new_locks state before (taken_at state place) in
      let later = record client { log = with_locks client.log locks } in
      let now = record attempt { locks = attempt.locks + length locks; state = state } in
      let there = go (record later { txn = Some now }) (InTxn place) in
      word_first there found n m is e (rw runs refl) (h there now (length (taken_at state place)) runs)

  module _ (limits : FitsLimits shape) (op : Op) (is : IsTableOf shape (op_key op).table)
      (word : IsWord (key_word (op_key op).key)) where
    abbrev table : ℕ
    table = (op_key op).table

    least : 1 ≤ capacity_of shape table
    least = has_capacity shape limits table is

    -- the key is at the last position of its path
    found_at : (state : TxnState) (n m : ℕ) → m ≡ n + capacity_of shape table
        → ((position : ℕ) → position < capacity_of shape table → TxnLasts (at state (Reading op position read_begin)) n)
        → TxnLasts (at state (Finding op find_begin)) m
    found_at state n m e all =
        let c = least in
        find_lasts (op_path shape op) word (λ now n. TxnLasts (on_find shape state op now) n)
        (λ passed. at_lasts state (Finding op passed)) (capacity_of shape table - 1) 0 n m (omega arith) (omega arith)
        (λ last l. all (nth_position (op_path shape op) last) (omega arith))

    pub claimed_last : (state : TxnState)
        → TxnLasts (at state (Claiming op claim_key_begin)) (2 * capacity_of shape table)
    claimed_last state =
        let c = least in
        claim_lasts (op_path shape op) word (λ now n. TxnLasts (on_claim shape state op now) n)
        (λ at. at_lasts state (Claiming op at)) (capacity_of shape table - 1) 0 0 _ (omega arith) (omega arith)
        (over_lasts state (NoSpace table))

    -- the read looks at everything, and ends without a value
    pub astray_last : (state : TxnState)
        → TxnLasts (at state (Finding op find_begin)) (capacity_of shape table + read_most shape table - 1)
    astray_last state =
        found_at state (read_most shape table - 1) _ (omega arith)
        (λ position l.
        let f = read_figure shape limits table position is l in
        goes_astray (sight_of shape table position) (sight_fits shape limits table position is l) state.seen
        (row_word shape limits table position is l) 0 (omega arith)
        (λ now n. TxnLasts (on_read shape state op position now) n)
        (λ at. at_lasts state (Reading op position at)) 0 _ (omega arith) (over_lasts state Astray))

    -- the read finds a value at the very last, whose words are all this one
    pub valued_last : (state : TxnState) (each n m : ℕ) → IsWord each
        → m ≡ n + capacity_of shape table + value_longest shape table
        → ((value : List ℕ) → length value ≡ width_of shape table → AreAll each value
        → TxnLasts (on_value shape state op (Some value)) n)
        → TxnLasts (at state (Finding op find_begin)) m
    valued_last state each n m each_is e found =
        found_at state (n + value_longest shape table) m (omega arith)
        (λ position l.
        let f = read_figure shape limits table position is l in
        let w = width_is shape limits table position is l in
        finds_last (sight_of shape table position) (sight_fits shape limits table position is l) state.seen
        (row_word shape limits table position is l) each each_is
        (λ now n. TxnLasts (on_read shape state op position now) n)
        (λ at. at_lasts state (Reading op position at)) n _ (omega arith)
        (λ value wide all. found value (wide ∙ w) all))
