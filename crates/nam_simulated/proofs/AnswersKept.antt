-- An answer leaves a log that fits with what the attempt that is open then has listed.
use Rattle.nam_calls.proofs.FallsRead.{ReadFalls, read_falls}
use Rattle.nam_calls.proofs.FallsTables.{sight_fits, width_is}
use Rattle.nam_calls.specs.Fits.{HasWidth, IsTableOf, ReadFits}
use Rattle.nam_calls.specs.Reading.{read_after, read_left, sight_of}
use Rattle.nam_calls.specs.Words.{capacity_of, width_of}
use Rattle.nam_calls.specs.declared.mover.MovePoint.{MovePoint}
use Rattle.nam_calls.specs.declared.reading.ReadPoint.{ReadPoint}
use Rattle.nam_catalog.specs.Fits.{FitsLimits}
use Rattle.nam_catalog.specs.Tables.{widths_of}
use Rattle.nam_catalog.specs.declared.shape.Shape.{Shape}
use Rattle.nam_protocol.proofs.FallsClient.{some_open}
use Rattle.nam_protocol.proofs.FallsKeys.{op_table, own_wide}
use Rattle.nam_protocol.specs.AnswersLaw.{AnswerTells, AskTells, BeginTells, CollectTells, CommitAskTells, CommitTells}
use Rattle.nam_protocol.specs.AnswersLaw.{IsOn, MoveTells, OpTells, OpenAskTells, OwnTells, SeekTells, SnapTells}
use Rattle.nam_protocol.specs.AnswersLaw.{TxnTells}
use Rattle.nam_protocol.specs.AttemptLaw.{has_passed}
use Rattle.nam_protocol.specs.Client.{with_call}
use Rattle.nam_protocol.specs.ClientEvents.{is_open_after}
use Rattle.nam_protocol.specs.ClientFits.{CallFits, CallPointFits, OpenCallFits, OpenFits, OpenPointFits}
use Rattle.nam_protocol.specs.Log.{with_reads}
use Rattle.nam_protocol.specs.Operations.{holding, own_value}
use Rattle.nam_protocol.specs.Own.{IsOpenAt}
use Rattle.nam_protocol.specs.Telling.{with_read}
use Rattle.nam_protocol.specs.Told.{Ends, EndsReading, OpDeclined, OpPassed}
use Rattle.nam_protocol.specs.TxnFits.{CommitFits, StateFits}
use Rattle.nam_protocol.specs.declared.client.Answer.{Answer}
use Rattle.nam_protocol.specs.declared.client.Call.{Call}
use Rattle.nam_protocol.specs.declared.client.Call.TheVariants.{Txn}
use Rattle.nam_protocol.specs.declared.client.CallPoint.{CallPoint}
use Rattle.nam_protocol.specs.declared.client.CallPoint.TheVariants.{Beginning, Collecting, InTxn, Moving, Scanning}
use Rattle.nam_protocol.specs.declared.client.CallPoint.TheVariants.{Seeking, Snapping}
use Rattle.nam_protocol.specs.declared.client.ClientState.{ClientState}
use Rattle.nam_protocol.specs.declared.client.Open.{Open}
use Rattle.nam_protocol.specs.declared.txn.CommitPoint.{CommitPoint}
use Rattle.nam_protocol.specs.declared.txn.TxnAnswer.{TxnAnswer}
use Rattle.nam_protocol.specs.declared.txn.TxnAnswer.TheVariants.{Added, Astray, Committed, Met, NoSpace}
use Rattle.nam_protocol.specs.declared.txn.TxnAnswer.TheVariants.{Spent, Written}
use Rattle.nam_protocol.specs.declared.txn.TxnCall.{TxnCall}
use Rattle.nam_protocol.specs.declared.txn.TxnCall.TheVariants.{Commit}
use Rattle.nam_protocol.specs.declared.txn.TxnPoint.{TxnPoint}
use Rattle.nam_protocol.specs.declared.txn.TxnPoint.TheVariants.{Claiming, Committing, Finding, Reading}
use Rattle.nam_protocol.specs.declared.txn.TxnState.{TxnState}
use Rattle.nam_report.specs.Fits.{ItemFits, NamesTable, OutcomeFits}
use Rattle.nam_simulated.proofs.ClientSo.{IsNoScan, NowSo, OpenSo, none_is, open_before}
use Rattle.nam_simulated.proofs.ItemsFit.{found_fits, full_fits, missed_fits, op_named, table_named}
use Rattle.nam_simulated.proofs.LogGrows.{LogSo, commit_so, end_so, event_so, reads_so, snap_so}
use Rattle.nam_vector.specs.declared.snap.SnapPoint.{SnapPoint}
use Rattle.nam_verbs.specs.declared.now.Now.TheVariants.{At, Over}
use Rattle.si_model.specs.Evaluation.{OpFits, found, op_key}
use Rattle.si_model.specs.EvaluationLaws.{is_scan}
use Rattle.si_model.specs.declared.log.Event.TheVariants.{CollectAgain, Collected, Moved, NoRoom}
use Rattle.si_model.specs.declared.log.Outcome.{Outcome}
use Rattle.si_model.specs.declared.log.Outcome.TheVariants.{Again, Full, Left, Locked, Newer, ReadOnly, TooOld}
use Rattle.si_model.specs.declared.op.Op.{Op}
use Rattle.si_model.specs.declared.row.Item.{Item}
use Rattle.std.proofs.Common.{Bool, List, None, Option, Some, false, length, refl, subst, sym, true, ℕ, ◌+◌, ◌<◌, ◌≡◌}
use Rattle.nam_protocol.specs.declared.txn.TxnCall.TheVariants.{Get, Put, Add, Del, Need, Guard}
use Rattle.nam_simulated.proofs.ItemsFit.{writes_fit}
use Rattle.nam_protocol.specs.Log.{unbegun}
use Rattle.std.specs.List.{AllByRecursion}
use Rattle.std.specs.Prelude.{is_some}
use Rattle.nam_calls.specs.declared.reading.ReadingEnd.TheVariants as read_end
use Rattle.nam_protocol.specs.declared.client.Answer.TheVariants as answer
use Rattle.nam_protocol.specs.declared.client.Call.TheVariants as call
use Rattle.nam_protocol.specs.declared.txn.TxnAnswer.TheVariants as txn_answer
use Rattle.si_model.specs.declared.log.Event.TheVariants as event
use Rattle.si_model.specs.declared.log.Outcome.TheVariants as outcome
use Rattle.si_model.specs.declared.op.Op.TheVariants as op

module _ (shape : Shape) (word : ℕ) (before after : ClientState) where
  -- the attempt has ended
  closes : LogSo shape after.log 0 0 0 → is_some after.txn ≡ false → OpenSo shape after.log after.txn
  closes so e = subst (OpenSo shape after.log) (sym (none_is after.txn e)) so

  ends : (attempt : Open) (how : Outcome) → LogSo shape before.log attempt.reads attempt.locks 1
      → OutcomeFits (widths_of shape.tables) how → Ends before after attempt how → is_some after.txn ≡ false
      → OpenSo shape after.log after.txn
  ends attempt how so fits told e =
      closes (subst (λ log. LogSo shape log 0 0 0) (sym told) (end_so shape before.log attempt how so fits)) e

  ends_reading : (attempt : Open) (items : List Item) (how : Outcome)
      → LogSo shape before.log attempt.reads attempt.locks 1
      → AllByRecursion (ItemFits (widths_of shape.tables)) items
      → OutcomeFits (widths_of shape.tables) how → EndsReading before after attempt items how
      → is_some after.txn ≡ false → OpenSo shape after.log after.txn
  ends_reading attempt items how so fit fits told e =
      closes (subst (λ log. LogSo shape log 0 0 0) (sym told)
      (end_so shape (with_reads before.log items) (with_read attempt items) how
      (reads_so shape before.log items attempt.reads attempt.locks 1 so fit) fits)) e

  -- it has read these
  reads : (attempt : Open) (items : List Item) → LogSo shape before.log attempt.reads attempt.locks 1
      → AllByRecursion (ItemFits (widths_of shape.tables)) items → after.log ≡ with_reads before.log items
      → (state : TxnState) → after.txn ≡ Some (with_read (record attempt { state = state }) items)
      → OpenSo shape after.log after.txn
  reads attempt items so fit told state opened =
      subst (OpenSo shape after.log) (sym opened)
      (subst (λ log. LogSo shape log (attempt.reads + length items) attempt.locks 1) (sym told)
      (reads_so shape before.log items attempt.reads attempt.locks 1 so fit))

  -- 1. An operation

  module _ (attempt : Open) (so : LogSo shape before.log attempt.reads attempt.locks 1) (op : Op)
      (fits : OpFits (widths_of shape.tables) op) (one : is_scan op ≡ false) where
    passed : (value : Option (List ℕ)) (end : TxnAnswer) → HasWidth (width_of shape (op_key op).table) value
        → OpPassed shape before after attempt op value end → OpenSo shape after.log after.txn
    passed value end wide told =
        reads attempt (found op (holding value)) so (found_fits shape op value fits one wide) told.log told.state
        told.opened

    declined : (value : Option (List ℕ)) → HasWidth (width_of shape (op_key op).table) value
        → OpDeclined before after attempt op value → is_some after.txn ≡ false → OpenSo shape after.log after.txn
    declined value wide told e =
        ends_reading attempt (found op (holding value)) (outcome.Declined attempt.ops) so
        (found_fits shape op value fits one wide) tt told.log e

    op_kept : (at : TxnPoint)
        → ((value : Option (List ℕ)) → IsOn shape word attempt.state at value
        → HasWidth (width_of shape (op_key op).table) value)
        → (end : TxnAnswer) → OpTells shape word before after attempt at op end
        → is_some after.txn ≡ has_passed end → OpenSo shape after.log after.txn
    op_kept at wide (txn_answer.Value value) told e = passed told.0 (txn_answer.Value value) (wide told.0 told.1) told.2
    op_kept at wide txn_answer.Written told e = passed told.0 txn_answer.Written (wide told.0 told.1) told.2
    op_kept at wide (txn_answer.Added n) told e = passed told.0 (txn_answer.Added n) (wide told.0 told.1) told.2
    op_kept at wide txn_answer.Met told e = passed told.0 txn_answer.Met (wide told.0 told.1) told.2
    op_kept at wide (txn_answer.TooOld worker entry horizon) told e =
        ends attempt (outcome.TooOld worker entry horizon) so tt told.log e
    op_kept at wide (txn_answer.NoSpace table) told e =
        ends_reading attempt (found op (holding told.0)) (outcome.NoSpace table) so
        (found_fits shape op told.0 fits one (wide told.0 told.1))
        (subst (NamesTable (widths_of shape.tables)) (sym told.2.table_is) (op_named shape op fits)) told.2.log e
    op_kept at wide txn_answer.Declined told e = declined told.0 (wide told.0 told.1) told.2 e
    op_kept at wide txn_answer.Astray told e = ends attempt outcome.Left so tt told e
    op_kept at wide _ told e = absurd told

    -- on a value of the write set
    pub own_kept : HasWidth (width_of shape (op_key op).table) (own_value attempt.state.writes (op_key op))
        → (end : TxnAnswer) → OwnTells shape before after attempt op end
        → is_some after.txn ≡ has_passed end → OpenSo shape after.log after.txn
    own_kept wide txn_answer.Declined told e = declined (own_value attempt.state.writes (op_key op)) wide told e
    own_kept wide (txn_answer.Value value) told e =
        passed (own_value attempt.state.writes (op_key op)) (txn_answer.Value value) wide told
    own_kept wide end told e = passed (own_value attempt.state.writes (op_key op)) end wide told

  -- 2. A commit

  commit_kept : FitsLimits shape → (attempt : Open) → LogSo shape before.log attempt.reads attempt.locks 1
      → StateFits shape attempt.state → (at : CommitPoint) → CommitFits shape attempt.state at → (end : TxnAnswer)
      → CommitTells shape word before after attempt at end → is_some after.txn ≡ has_passed end
      → OpenSo shape after.log after.txn
  commit_kept limits attempt so fits at stands (txn_answer.Committed number) told e =
      closes (subst (λ log. LogSo shape log 0 0 0) (sym told.log)
      (commit_so shape before.log attempt (outcome.Commit number) attempt.state.writes so tt
      (writes_fit shape attempt.state fits))) e
  commit_kept limits attempt so fits at stands (txn_answer.Locked lock) told e =
      ends attempt (outcome.Locked lock) so
      (missed_fits shape limits attempt.state fits stands.0 told.0 lock true told.2.missed) told.2.log e
  commit_kept limits attempt so fits at stands (txn_answer.Newer lock) told e =
      ends attempt (outcome.Newer lock) so
      (missed_fits shape limits attempt.state fits stands.0 told.0 lock false told.2.missed) told.2.log e
  commit_kept limits attempt so fits at stands (txn_answer.Full lock) told e =
      ends attempt (outcome.Full lock) so (full_fits shape limits attempt.state fits stands.0 lock told.0) told.1 e
  commit_kept limits attempt so fits at stands _ told e = absurd told

  -- 3. A call of a transaction

  module _ (limits : FitsLimits shape) where
    got_wide : (table position : ℕ) → IsTableOf shape table → position < capacity_of shape table → (seen : List ℕ)
        → (at : ReadPoint) → ReadFits (sight_of shape table position) at → (value : Option (List ℕ))
        → read_after (sight_of shape table position) seen at word ≡ Over (read_end.Got value)
        → HasWidth (width_of shape table) value
    got_wide table position is l seen at fits value e =
        let sight = sight_of shape table position in
        let f = read_falls sight (sight_fits shape limits table position is l) seen at word fits in
        subst (λ w. HasWidth w value) (width_is shape limits table position is l)
        (subst (ReadFalls sight (sight_fits shape limits table position is l) (read_left sight at)) e f).0

    txn_kept : (at : TxnPoint) (opened : Option Open) (end : Answer) → OpenFits shape opened
        → OpenPointFits shape opened at → OpenSo shape before.log opened
        → TxnTells shape word before after opened at end
        → is_some after.txn ≡ is_open_after true end → OpenSo shape after.log after.txn
    txn_kept at None end fits stands so told e = absurd told
    txn_kept (Finding op passed) (Some attempt) (answer.Txn end) fits stands so told e =
        op_kept attempt so op stands.0.0 stands.0.1 (Finding op passed)
        (λ value on. subst (HasWidth (width_of shape (op_key op).table)) (sym on.1) tt) end told e
    txn_kept (Reading op position at) (Some attempt) (answer.Txn end) fits stands so told e =
        op_kept attempt so op stands.0.0 stands.0.1 (Reading op position at)
        (got_wide (op_key op).table position (op_table shape limits attempt.state.claims op stands.0) stands.1
        attempt.state.seen at stands.2) end told e
    txn_kept (Claiming op at) (Some attempt) (answer.Txn end) fits stands so told e =
        op_kept attempt so op stands.0.0 stands.0.1 (Claiming op at)
        (λ value on. subst (HasWidth (width_of shape (op_key op).table)) (sym on) stands.2) end told e
    txn_kept (Committing at) (Some attempt) (answer.Txn end) fits stands so told e =
        commit_kept limits attempt so fits at stands end told e
    txn_kept at (Some attempt) _ fits stands so told e = absurd told

    -- 4. The other calls, but a scan

    begin_kept : (txn nth : ℕ) (at : SnapPoint) (end : Answer) → LogSo shape before.log 0 0 0
        → BeginTells shape word before after txn nth at end → is_some after.txn ≡ is_open_after false end
        → OpenSo shape after.log after.txn
    begin_kept txn nth at (answer.Begun prefix) so told e =
        subst (OpenSo shape after.log) (sym told.opened)
        (subst (λ log. LogSo shape log 0 0 1) (sym told.log) (snap_so shape before.log told.seen 0 0 0 so))
    begin_kept txn nth at (answer.Again worker first second) so told e =
        let event = unbegun txn nth (outcome.Again worker first second) in
        closes (subst (λ log. LogSo shape log 0 0 0) (sym told.1) (event_so shape before.log event 0 0 0 so tt refl)) e
    begin_kept txn nth at _ so told e = absurd told

    same : LogSo shape before.log 0 0 0 → after.log ≡ before.log → is_some after.txn ≡ false
        → OpenSo shape after.log after.txn
    same so told e = closes (subst (λ log. LogSo shape log 0 0 0) (sym told) so) e

    move_kept : (table key position : ℕ) (at : MovePoint) (end : Answer) → IsTableOf shape table
        → LogSo shape before.log 0 0 0 → MoveTells shape word before after table key position at end
        → is_some after.txn ≡ is_open_after false end → OpenSo shape after.log after.txn
    move_kept table key position at answer.Moved is so told e =
        closes (subst (λ log. LogSo shape log 0 0 0) (sym told.log)
        (event_so shape before.log _ 0 0 0 so (table_named shape table is) refl)) e
    move_kept table key position at answer.Back is so told e =
        closes (subst (λ log. LogSo shape log 0 0 0) (sym told.log)
        (event_so shape before.log _ 0 0 0 so (table_named shape table is) refl)) e
    move_kept table key position at answer.Nothing is so told e = same so told.1 e
    move_kept table key position at (answer.NoRoom bucket) is so told e =
        closes (subst (λ log. LogSo shape log 0 0 0) (sym told.1)
        (event_so shape before.log (event.NoRoom bucket) 0 0 0 so tt refl)) e
    move_kept table key position at _ is so told e = absurd told

    seek_kept : (table key passed : ℕ) (end : Answer) → LogSo shape before.log 0 0 0
        → SeekTells shape word before after table key passed end → is_some after.txn ≡ is_open_after false end
        → OpenSo shape after.log after.txn
    seek_kept table key passed answer.Nothing so told e = same so told.1 e
    seek_kept table key passed _ so told e = absurd told

    snap_kept : (bucket : ℕ) (at : SnapPoint) (end : Answer) → LogSo shape before.log 0 0 0
        → SnapTells shape word before after bucket at end → is_some after.txn ≡ is_open_after false end
        → OpenSo shape after.log after.txn
    snap_kept bucket at (answer.Again worker first second) so told e =
        closes (subst (λ log. LogSo shape log 0 0 0) (sym told.1)
        (event_so shape before.log (event.CollectAgain bucket worker first second) 0 0 0 so tt refl)) e
    snap_kept bucket at _ so told e = absurd told

    collect_kept : (bucket prefix : ℕ) (seen : List ℕ) (end : Answer) → length seen ≡ shape.workers
        → LogSo shape before.log 0 0 1 → CollectTells shape word before after bucket prefix seen end
        → is_some after.txn ≡ is_open_after false end → OpenSo shape after.log after.txn
    collect_kept bucket prefix seen (answer.Collected known) many so told e =
        closes (subst (λ log. LogSo shape log 0 0 0) (sym told.log)
        (event_so shape before.log (event.Collected bucket prefix seen false) 0 0 0 so many refl)) e
    collect_kept bucket prefix seen _ many so told e = absurd told

    -- 5. By the call's point

    is_open : (was : Bool) (end : Answer) → is_some before.txn ≡ was
        → is_some after.txn ≡ is_open_after (is_some before.txn) end → is_some after.txn ≡ is_open_after was end
    is_open was end w e = subst (λ b. is_some after.txn ≡ is_open_after b end) w e

    pub answer_kept : (place : CallPoint) (end : Answer) → IsNoScan place → OpenFits shape before.txn
        → CallPointFits shape before.txn place → IsOpenAt before.txn place
        → NowSo shape before.log before.txn (Some (At place)) → AnswerTells shape word before after place end
        → is_some after.txn ≡ is_open_after (is_some before.txn) end → OpenSo shape after.log after.txn
    answer_kept (Beginning txn nth at) end other fits stands open_ so told e =
        begin_kept txn nth at end (open_before shape before.txn before.log open_ so) told (is_open false end open_ e)
    answer_kept (InTxn at) end other fits stands open_ so told e =
        txn_kept at before.txn end fits stands so told (is_open true end open_ e)
    answer_kept (Scanning table low high at) end other fits stands open_ so told e = absurd other
    answer_kept (Seeking table key passed) end other fits stands open_ so told e =
        seek_kept table key passed end (open_before shape before.txn before.log open_ so) told
        (is_open false end open_ e)
    answer_kept (Moving table key position at) end other fits stands open_ so told e =
        move_kept table key position at end stands.0 (open_before shape before.txn before.log open_ so) told
        (is_open false end open_ e)
    answer_kept (Snapping bucket at) end other fits stands open_ so told e =
        snap_kept bucket at end (open_before shape before.txn before.log open_ so) told (is_open false end open_ e)
    answer_kept (Collecting bucket prefix seen at) end other fits stands open_ so told e =
        collect_kept bucket prefix seen end stands.1 so told (is_open false end open_ e)

-- 6. A call that is answered as it is asked

module _ (shape : Shape) (before after : ClientState) where
  -- the write set is empty, or no number is left
  commit_ask_kept : (attempt : Open) → LogSo shape before.log attempt.reads attempt.locks 1 → (end : TxnAnswer)
      → CommitAskTells shape before after attempt end → is_some after.txn ≡ has_passed end
      → OpenSo shape after.log after.txn
  commit_ask_kept attempt so txn_answer.ReadOnly told e =
      ends shape 0 before after attempt outcome.ReadOnly so tt told.1 e
  commit_ask_kept attempt so txn_answer.Spent told e = ends shape 0 before after attempt outcome.Spent so tt told.2 e
  commit_ask_kept attempt so _ told e = absurd told

  own : (attempt : Open) → LogSo shape before.log attempt.reads attempt.locks 1 → (op : Op)
      → OpFits (widths_of shape.tables) op → is_scan op ≡ false → StateFits shape attempt.state → (end : TxnAnswer)
      → OwnTells shape before after attempt op end → is_some after.txn ≡ has_passed end
      → OpenSo shape after.log after.txn
  own attempt so op fits one state end told e =
      own_kept shape 0 before after attempt so op fits one
      (own_wide shape attempt.state.writes (op_key op) state.wide) end told e

  txn_ask_kept : (asked : TxnCall) (opened : Option Open) (end : Answer) → OpenFits shape opened
      → OpenCallFits shape opened asked → OpenSo shape before.log opened
      → OpenAskTells shape before after asked opened end → is_some after.txn ≡ is_open_after true end
      → OpenSo shape after.log after.txn
  txn_ask_kept asked None end fits call so told e = absurd told
  txn_ask_kept (Get t k) (Some attempt) (answer.Txn end) fits call so told e =
      own (with_call attempt (Get t k)) so (op.Get t k) call.0 refl fits end told.1 e
  txn_ask_kept (Put t k v) (Some attempt) (answer.Txn end) fits call so told e =
      own (with_call attempt (Put t k v)) so (op.Put t k v) call.0 refl fits end told.1 e
  txn_ask_kept (Add t k f up by) (Some attempt) (answer.Txn end) fits call so told e =
      own (with_call attempt (Add t k f up by)) so (op.Add t k f up by) call.0 refl fits end told.1 e
  txn_ask_kept (Del t k) (Some attempt) (answer.Txn end) fits call so told e =
      own (with_call attempt (Del t k)) so (op.Del t k) call.0 refl fits end told.1 e
  txn_ask_kept (Need t k f least) (Some attempt) (answer.Txn end) fits call so told e =
      own (with_call attempt (Need t k f least)) so (op.Need t k f least) call.0 refl fits end told.1 e
  txn_ask_kept (Guard t k) (Some attempt) (answer.Txn end) fits call so told e =
      own (with_call attempt (Guard t k)) so (op.Guard t k) call.0 refl fits end told.1 e
  txn_ask_kept Commit (Some attempt) (answer.Txn end) fits call so told e =
      commit_ask_kept attempt so end told e
  txn_ask_kept asked (Some attempt) _ fits call so told e = absurd told

  pub ask_kept : (asked : Call) (end : Answer) → OpenFits shape before.txn → CallFits shape before.txn asked
      → OpenSo shape before.log before.txn → AskTells shape before after asked end
      → is_some after.txn ≡ is_open_after (is_some before.txn) end → OpenSo shape after.log after.txn
  ask_kept (call.Txn asked) end fits may so told e =
      txn_ask_kept asked before.txn end fits may so told
      (subst (λ b. is_some after.txn ≡ is_open_after b end) (some_open shape before.txn asked may) e)
  ask_kept _ end fits may so told e = absurd told
