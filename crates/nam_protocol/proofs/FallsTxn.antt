-- The verbs to come fall in each call of a transaction, and how many a call begins with.
use Rattle.std.proofs.Common.{◌≡◌, ℕ, ◌+◌, ◌*◌, ◌<◌, ◌≤◌, List, refl, sym, subst, arith, Bool, true, false, not}
use Rattle.std.proofs.Common.{Option, None}
use Rattle.std.specs.Prelude.{if◌then◌else◌}
use Rattle.std.proofs.lemmas.Bool.{false≢true}
use Rattle.si_model.specs.declared.op.Op.{Op}
use Rattle.si_model.specs.Rows.{writes_key}
use Rattle.si_model.specs.Evaluation.{passes, op_key}
use Rattle.si_model.specs.declared.op.Op.TheVariants as op
use Rattle.si_model.specs.Operations.{op_reads, op_claims}
use Rattle.nam_verbs.specs.declared.now.Now.{Now}
use Rattle.nam_verbs.specs.declared.now.Now.TheVariants.{At, Over}
use Rattle.nam_verbs.proofs.TestLemmas.{by_test}
use Rattle.nam_catalog.specs.declared.form.Form.{Form}
use Rattle.nam_catalog.specs.declared.shape.Shape.{Shape}
use Rattle.nam_catalog.specs.Fits.{FitsLimits}
use Rattle.nam_calls.specs.declared.index.FindEnd.{FindEnd}
use Rattle.nam_calls.specs.declared.index.ClaimKeyPoint.{ClaimKeyPoint}
use Rattle.nam_calls.specs.declared.index.ClaimKeyEnd.{ClaimKeyEnd}
use Rattle.nam_calls.specs.declared.reading.ReadPoint.{ReadPoint}
use Rattle.nam_calls.specs.declared.reading.ReadingEnd.{ReadingEnd}
use Rattle.nam_calls.specs.Words.{width_of, capacity_of}
use Rattle.nam_calls.specs.Index.{find_begin, claim_key_begin}
use Rattle.nam_calls.specs.Reading.{sight_of, read_most}
use Rattle.nam_calls.specs.Fits.{HasWidth, IsTableOf}
use Rattle.nam_calls.proofs.FallsTests.{either}
use Rattle.nam_calls.proofs.FallsMachines.{FindFalls, find_falls, ClaimKeyFalls, claim_key_falls}
use Rattle.nam_calls.proofs.FallsRead.{ReadFalls, read_falls}
use Rattle.nam_calls.proofs.FallsTables.{has_capacity, width_is, sight_fits, read_figure}
use Rattle.nam_calls.specs.declared.index.FindEnd.TheVariants as found_key
use Rattle.nam_calls.specs.declared.index.ClaimKeyEnd.TheVariants as claimed_key
use Rattle.nam_calls.specs.declared.reading.ReadingEnd.TheVariants as read_end
use Rattle.nam_protocol.specs.declared.txn.Record.{Record}
use Rattle.nam_protocol.specs.declared.txn.TxnState.{TxnState}
use Rattle.nam_protocol.specs.declared.txn.TxnPoint.{TxnPoint}
use Rattle.nam_protocol.specs.declared.txn.TxnPoint.TheVariants.{Finding, Reading, Claiming, Committing}
use Rattle.nam_protocol.specs.declared.txn.TxnAnswer.TheVariants.{Declined}
use Rattle.nam_protocol.specs.Operations.{holding, own_value, read_of, value_in, answer_of}
use Rattle.nam_protocol.specs.Operations.{op_path}
use Rattle.nam_protocol.specs.Txn.{at, over, with_op, with_own, ask_op, on_value, on_find, on_read}
use Rattle.nam_protocol.specs.Txn.{record_of, on_claim}
use Rattle.nam_protocol.specs.TxnCalls.{txn_after}
use Rattle.nam_protocol.specs.Bound.{claim_most, txn_left, op_bound}
use Rattle.nam_protocol.specs.TxnFits.{AnswerFits, StateFits, OpStands, TxnPointFits, TxnFalls, TxnBegins}
use Rattle.nam_protocol.proofs.FallsKeys.{op_table, own_fits, new_fits, own_claimed, own_wide}
use Rattle.nam_protocol.proofs.FallsCommit.{commit_falls}

-- an operation's answer is no commit
pub answer_fits : (form : Form) (op : Op) (value : Option (List ℕ)) → AnswerFits form (answer_of op value)
answer_fits form (op.Get t k) value = tt
answer_fits form (op.Put t k v) value = tt
answer_fits form (op.Add t k f up by) value = tt
answer_fits form (op.Del t k) value = tt
answer_fits form (op.Need t k f least) value = tt
answer_fits form (op.Guard t k) value = tt
answer_fits form (op.Scan t low high) value = tt

-- what an operation reads has its table's width
read_wide : (shape : Shape) (claims : List Record) (op : Op) (value : Option (List ℕ)) → OpStands shape claims op
    → HasWidth (width_of shape (op_key op).table) value
    → HasWidth (width_of shape (op_key op).table) (value_in (read_of op value))
read_wide shape claims (op.Get t k) value stands wide = wide
read_wide shape claims (op.Put t k v) value stands wide = tt
read_wide shape claims (op.Add t k f up by) value stands wide = wide
read_wide shape claims (op.Del t k) value stands wide = tt
read_wide shape claims (op.Need t k f least) value stands wide = wide
read_wide shape claims (op.Guard t k) value stands wide = wide
read_wide shape claims (op.Scan t low high) value stands wide = absurd (false≢true (sym stands.1))

claims_take : (shape : Shape) (op : Op) (b : Bool) → b ≡ true
    → (if b then 2 * capacity_of shape (op_key op).table else 0) ≡ 2 * capacity_of shape (op_key op).table
claims_take shape op true e = refl
claims_take shape op false e = absurd (false≢true e)

module _ (shape : Shape) (limits : FitsLimits shape) where
  module _ (state : TxnState) (fits : StateFits shape state) (op : Op)
      (stands : OpStands shape state.claims op) where
    abbrev table : ℕ
    table = (op_key op).table

    is_table : IsTableOf shape table
    is_table = op_table shape limits state.claims op stands

    least : 1 ≤ capacity_of shape table
    least = has_capacity shape limits table is_table

    valued_falls : (n : ℕ) (value : Option (List ℕ)) → HasWidth (width_of shape table) value → claim_most shape op < n
        → TxnFalls shape n (on_value shape state op value)
    valued_falls n value wide l =
        let state' = record state { read = read_of op value } in
        either (TxnFalls shape n) (not (passes op (holding value))) (over state' Declined)
        (if op_claims op then at state' (Claiming op claim_key_begin) else over state' (answer_of op value))
        (fits, (tt, omega arith))
        (by_test (TxnFalls shape n) (op_claims op) (at state' (Claiming op claim_key_begin))
        (over state' (answer_of op value))
        (λ e. let m = claims_take shape op (op_claims op) e in let c = least in
        (fits, ((stands, c, read_wide shape state.claims op value stands wide, e), omega arith)))
        (λ e. (fits, (answer_fits shape.form op value, omega arith))))

    on_find_falls : (n : ℕ) (now : Now ℕ FindEnd) → FindFalls (op_path shape op) n now
        → TxnFalls shape (n + (read_most shape table + claim_most shape op)) (on_find shape state op now)
    on_find_falls n (At passed) h = (fits, ((stands, h.0), let m = h.1 in omega arith))
    on_find_falls n (Over (found_key.At position)) h =
        let f = read_figure shape limits table position is_table h.0 in
        (fits, ((stands, h.0, tt), let m = h.1 in omega arith))
    on_find_falls n (Over found_key.Absent) h = valued_falls _ None tt (let m = h.1 in omega arith)

    on_read_falls : (position n : ℕ) (now : Now ReadPoint ReadingEnd) (l : position < capacity_of shape table)
        → ReadFalls (sight_of shape table position) (sight_fits shape limits table position is_table l) n now
        → TxnFalls shape (n + claim_most shape op) (on_read shape state op position now)
    on_read_falls position n (At place) l h = (fits, ((stands, l, h.0), let m = h.1 in omega arith))
    on_read_falls position n (Over (read_end.Got value)) l h =
        valued_falls _ value (subst (λ w. HasWidth w value) (width_is shape limits table position is_table l) h.0)
        (let m = h.1 in omega arith)
    on_read_falls position n (Over (read_end.Passed worker entry horizon)) l h =
        (fits, (tt, let m = h.1 in omega arith))
    on_read_falls position n (Over read_end.Astray) l h = (fits, (tt, let m = h.1 in omega arith))

    on_claim_falls : (n : ℕ) (now : Now ClaimKeyPoint ClaimKeyEnd)
        → HasWidth (width_of shape table) (value_in state.read) → op_claims op ≡ true
        → ClaimKeyFalls (op_path shape op) n now → TxnFalls shape n (on_claim shape state op now)
    on_claim_falls n (At place) wide claims h = (fits, ((stands, h.0, wide, claims), h.1))
    on_claim_falls n (Over claimed_key.NoSpace) wide claims h = (fits, (tt, h.1))
    on_claim_falls n (Over (claimed_key.At position)) wide claims h = (
      new_fits shape state.worker state.last state.seen state.claims state.writes state.guards fits op
          (record_of shape op position) (value_in state.read) stands.0 claims refl
          (position, (is_table, h.0), refl, stands.2) (stands.3 claims) wide,
      (answer_fits shape.form op (value_in state.read), h.1),
    )

  -- a word is taken
  pub txn_falls : (state : TxnState) (place : TxnPoint) (found : ℕ) → StateFits shape state
      → TxnPointFits shape state place
      → TxnFalls shape (txn_left shape state place) (txn_after shape state place found)
  txn_falls state (Finding op passed) found fits p =
      on_find_falls state fits op p.0 _ _ (find_falls (op_path shape op) passed found p.1)
  txn_falls state (Reading op position at) found fits p =
      on_read_falls state fits op p.0 position _ _ p.1
      (read_falls (sight_of shape (op_key op).table position)
      (sight_fits shape limits (op_key op).table position (is_table state fits op p.0) p.1) state.seen at found p.2)
  txn_falls state (Claiming op at) found fits p =
      on_claim_falls state fits op p.0 _ _ p.2 p.3 (claim_key_falls (op_path shape op) at found p.1)
  txn_falls state (Committing at) found fits p = commit_falls shape limits state fits at found p

  -- an operation is asked
  op_begins_at : (state : TxnState) (op : Op) → StateFits shape state → OpStands shape state.claims op
      → (e : op_reads op ≡ true)
      → TxnBegins shape (op_bound shape op) (at state (Finding op find_begin))
  op_begins_at state (op.Get t k) fits stands e =
      let c = least state fits (op.Get t k) stands in (fits, ((stands, c), omega arith))
  op_begins_at state (op.Put t k v) fits stands e = absurd (false≢true e)
  op_begins_at state (op.Add t k f up by) fits stands e =
      let c = least state fits (op.Add t k f up by) stands in (fits, ((stands, c), omega arith))
  op_begins_at state (op.Del t k) fits stands e = absurd (false≢true e)
  op_begins_at state (op.Need t k f m) fits stands e =
      let c = least state fits (op.Need t k f m) stands in (fits, ((stands, c), omega arith))
  op_begins_at state (op.Guard t k) fits stands e =
      let c = least state fits (op.Guard t k) stands in (fits, ((stands, c), omega arith))
  op_begins_at state (op.Scan t low high) fits stands e = absurd (false≢true e)

  op_claims_at : (state : TxnState) (op : Op) → StateFits shape state → OpStands shape state.claims op
      → op_reads op ≡ false
      → TxnBegins shape (op_bound shape op) (at (record state { read = None }) (Claiming op claim_key_begin))
  op_claims_at state (op.Get t k) fits stands e = absurd (false≢true (sym e))
  op_claims_at state (op.Put t k v) fits stands e =
      let c = least state fits (op.Put t k v) stands in (fits, ((stands, c, tt, refl), omega arith))
  op_claims_at state (op.Add t k f up by) fits stands e = absurd (false≢true (sym e))
  op_claims_at state (op.Del t k) fits stands e =
      let c = least state fits (op.Del t k) stands in (fits, ((stands, c, tt, refl), omega arith))
  op_claims_at state (op.Need t k f m) fits stands e = absurd (false≢true (sym e))
  op_claims_at state (op.Guard t k) fits stands e = absurd (false≢true (sym e))
  op_claims_at state (op.Scan t low high) fits stands e = absurd (false≢true (sym stands.1))

  own_begins : (n : ℕ) (state : TxnState) (op : Op) (value : Option (List ℕ)) → StateFits shape state
      → OpStands shape state.claims op
      → writes_key state.writes (op_key op) ≡ true
      → HasWidth (width_of shape (op_key op).table) value → TxnBegins shape n (with_own shape state op value)
  own_begins n state op value fits stands e wide =
      either (TxnBegins shape n) (not (passes op (holding value))) (over state Declined)
      (over (with_op shape state op value) (answer_of op value))
      (fits, tt) (
        own_fits shape state.worker state.last state.seen state.claims state.writes state.guards fits op value stands.0
            (own_claimed shape state.worker state.last state.seen state.claims state.writes state.guards fits
            (op_key op) e)
            wide,
        answer_fits shape.form op value,
      )

  pub op_begins : (state : TxnState) (op : Op) → StateFits shape state → OpStands shape state.claims op
      → TxnBegins shape (op_bound shape op) (ask_op shape state op)
  op_begins state op fits stands =
      let own = own_value state.writes (op_key op) in
      let n = op_bound shape op in
      let state' = record state { read = None } in
      let finding = at state' (Finding op find_begin) in
      let claiming = at state' (Claiming op claim_key_begin) in
      by_test (TxnBegins shape n) (writes_key state.writes (op_key op))
      (with_own shape (record state { read = read_of op own }) op own)
      (if op_reads op then finding else claiming)
      (λ e. own_begins n (record state { read = read_of op own }) op own fits stands e
      (own_wide shape state.writes (op_key op) fits.wide))
      (λ e. by_test (TxnBegins shape n) (op_reads op) finding claiming (λ f. op_begins_at state' op fits stands f)
      (λ f. op_claims_at state op fits stands f))
