-- A call is asked, or the transaction is given up. What is told then is right.
use Rattle.std.proofs.Common.{List, None, Option, Some, [], ap, append-nil, length, refl, sym, ℕ, ◌+◌, ◌++◌, ◌∙◌}
use Rattle.std.proofs.Common.{◌∷◌, ◌≡◌}
use Rattle.std.proofs.lemmas.List.{length-append}
use Rattle.si_model.specs.Tells.{ListsTells}
use Rattle.si_model.specs.declared.log.Outcome.TheVariants as outcome
use Rattle.si_model.specs.declared.op.Op.TheVariants as op
use Rattle.si_model.specs.declared.op.Op.{Op}
use Rattle.nam_verbs.specs.declared.now.Now.TheVariants.{At, Over}
use Rattle.nam_verbs.specs.declared.now.Now.{Now}
use Rattle.nam_catalog.specs.declared.shape.Shape.{Shape}
use Rattle.nam_calls.specs.Words.{capacity_of}
use Rattle.nam_protocol.specs.Client.{ask_scan, ask_txn, abandon_open, client_abandon, client_ask}
use Rattle.nam_protocol.specs.ClientFits.{CallFits}
use Rattle.nam_protocol.specs.Own.{Rests}
use Rattle.nam_protocol.specs.Telling.{stepped}
use Rattle.nam_protocol.specs.Txn.{Stepped}
use Rattle.nam_protocol.specs.declared.client.Answer.{Answer}
use Rattle.nam_protocol.specs.declared.client.Call.TheVariants.{Begin, Collect, Scan, Tidy, Txn}
use Rattle.nam_protocol.specs.declared.client.Call.{Call}
use Rattle.nam_protocol.specs.declared.client.CallPoint.{CallPoint}
use Rattle.nam_protocol.specs.declared.client.ClientState.{ClientState}
use Rattle.nam_protocol.specs.declared.client.Open.{Open}
use Rattle.nam_protocol.specs.declared.txn.TxnCall.TheVariants as call
use Rattle.nam_protocol.specs.declared.txn.TxnCall.{TxnCall}
use Rattle.nam_tells.proofs.StepLemmas.{Ongoing, StepsOf, asked_of, ends_on, stepped_told}
use Rattle.nam_tells.specs.Steps.{asking, told_abandoned, told_asked, told_left, told_stepped}
use Rattle.nam_tells.specs.Steps.{told_txn_asked}
use Rattle.nam_tells.specs.Teller.{IsTold, OpenTold, Teller, open_snaps, running, snaps_pending}

-- 1. No call runs

module _ (client : ClientState) (teller : Teller) (told : IsTold client teller) (rests : Rests client.call) where
  abbrev Lists : List (List ℕ) → Type 0
  Lists snaps = ListsTells client.log teller.front teller.reads teller.locks [] snaps

  rest_at : (now : Option (Now CallPoint Answer)) → Rests now → Lists (snaps_pending client.txn now)
      → OpenTold teller (running now) client.txn → Lists (open_snaps client.txn) × OpenTold teller [] client.txn
  rest_at None is lists opened = (lists, opened)
  rest_at (Some (Over end)) is lists opened = (lists, opened)
  rest_at (Some (At place)) is lists opened = absurd is

  pub at_rest : Lists (open_snaps client.txn) × OpenTold teller [] client.txn
  at_rest = rest_at client.call rests told.lists told.opened

-- 2. An operation is asked, or the commit

module _ (shape : Shape) (client : ClientState) (teller : Teller) (attempt : Open)
    (on : Ongoing client teller [] attempt) where
  all_passed : teller.ops ≡ teller.passed
  all_passed = on.counted.asked ∙ append-nil teller.passed

  one_asked : (o : Op) (n : ℕ)
      → Ongoing client (asking teller (o ∷ [])) (o ∷ []) (record attempt { ops = attempt.ops + 1; ops_so_far = n })
  one_asked o n =
      let counted = on.counted in
      record {
        lists = on.lists;
        number = on.number;
        counted = record {
          ops_count = ap (λ (k : ℕ). k + 1) counted.ops_count ∙ sym (length-append teller.ops (o ∷ []));
          reads_count = counted.reads_count;
          locks_count = counted.locks_count;
          asked = ap (λ (ops : List Op). ops ++ o ∷ []) all_passed;
        };
      }

  none_asked : Ongoing client (asking teller []) [] attempt
  none_asked =
      let counted = on.counted in
      record {
        lists = on.lists;
        number = on.number;
        counted = record {
          ops_count = counted.ops_count ∙ ap (λ (ops : List Op). length ops) (sym (append-nil teller.ops));
          reads_count = counted.reads_count;
          locks_count = counted.locks_count;
          asked = ap (λ (ops : List Op). ops ++ []) all_passed;
        };
      }

  op_told : (o : Op) (step : Stepped) → StepsOf attempt.state (o ∷ []) step
      → let opened = record attempt { ops = attempt.ops + 1; ops_so_far = attempt.ops_so_far + 1 } in
      IsTold (stepped client opened 0 step) (told_stepped (asking teller (o ∷ [])) opened 0 step)
  op_told o step of =
      stepped_told client (asking teller (o ∷ [])) (o ∷ [])
      (record attempt { ops = attempt.ops + 1; ops_so_far = attempt.ops_so_far + 1 })
      (one_asked o (attempt.ops_so_far + 1)) 0 step of

  pub txn_asked : (asked : TxnCall)
      → IsTold (ask_txn shape client asked (Some attempt)) (told_txn_asked shape teller asked (Some attempt))
  txn_asked (call.Get t k) = op_told (op.Get t k) _ (asked_of shape attempt.state (call.Get t k))
  txn_asked (call.Put t k v) = op_told (op.Put t k v) _ (asked_of shape attempt.state (call.Put t k v))
  txn_asked (call.Add t k f up by) =
      op_told (op.Add t k f up by) _ (asked_of shape attempt.state (call.Add t k f up by))
  txn_asked (call.Del t k) = op_told (op.Del t k) _ (asked_of shape attempt.state (call.Del t k))
  txn_asked (call.Need t k f least) =
      op_told (op.Need t k f least) _ (asked_of shape attempt.state (call.Need t k f least))
  txn_asked (call.Guard t k) = op_told (op.Guard t k) _ (asked_of shape attempt.state (call.Guard t k))
  txn_asked call.Commit =
      stepped_told client (asking teller []) [] attempt none_asked 0 _ (asked_of shape attempt.state call.Commit)

  pub scan_asked : (table low high : ℕ)
      → IsTold (ask_scan shape client table low high (Some attempt)) (asking teller (op.Scan table low high ∷ []))
  scan_asked table low high =
      let o = op.Scan table low high in
      let next = one_asked o (attempt.ops_so_far + capacity_of shape table) in
      record { opens = refl; lists = next.lists; number = next.number; opened = next.counted }

-- 3. Any call

module _ (shape : Shape) (client : ClientState) (teller : Teller) (told : IsTold client teller)
    (rests : Rests client.call) where
  abbrev Asks : Option Open → Call → Type 0
  Asks opened asked = CallFits shape opened asked → Lists client teller told rests (open_snaps opened)
      → OpenTold teller [] opened
      → IsTold (client_ask shape (record client { txn = opened }) asked)
      (told_asked shape (record client { txn = opened }) asked teller)

  asks : (opened : Option Open) (asked : Call) → Asks opened asked
  asks None (Begin txn nth) fits lists is =
      record { opens = refl; lists = lists; number = told.number; opened = is }
  asks None (Tidy table key) fits lists is =
      record { opens = refl; lists = lists; number = told.number; opened = is }
  asks None (Collect bucket) fits lists is =
      record { opens = refl; lists = lists; number = told.number; opened = is }
  asks None (Txn asked) fits lists is = absurd fits
  asks None (Scan table low high) fits lists is = absurd (cc)
  asks (Some attempt) (Begin txn nth) fits lists is = absurd (cc)
  asks (Some attempt) (Tidy table key) fits lists is = absurd (cc)
  asks (Some attempt) (Collect bucket) fits lists is = absurd (cc)
  asks (Some attempt) (Txn asked) fits lists is =
      txn_asked shape (record client { txn = Some attempt }) teller attempt
      (record { lists = lists; number = told.number; counted = is }) asked
  asks (Some attempt) (Scan table low high) fits lists is =
      scan_asked shape (record client { txn = Some attempt }) teller attempt
      (record { lists = lists; number = told.number; counted = is }) table low high

  pub told_by_ask : (asked : Call) → CallFits shape client.txn asked
      → IsTold (client_ask shape client asked) (told_asked shape client asked teller)
  told_by_ask asked fits =
      let rest = at_rest client teller told rests in asks client.txn asked fits rest.0 rest.1

-- 4. The transaction is given up

module _ (client : ClientState) (teller : Teller) (told : IsTold client teller) (rests : Rests client.call) where
  leaves : (opened : Option Open) → Lists client teller told rests (open_snaps opened) → OpenTold teller [] opened
      → IsTold (abandon_open client opened) (told_left opened teller)
  leaves None lists is = told
  leaves (Some attempt) lists is =
      ends_on client teller [] attempt (record { lists = lists; number = told.number; counted = is }) outcome.Left refl
      client.call rests

  pub told_by_leaving : IsTold (client_abandon client) (told_abandoned client teller)
  told_by_leaving = let rest = at_rest client teller told rests in leaves client.txn rest.0 rest.1
