-- The verb of each call is the client's.
use Rattle.std.specs.Prelude.{IfSome, IsSome, None, Option, Some, if◌then◌else◌, option_map}
use Rattle.std.proofs.Common.{Bool, List, [], ap, false, refl, sym, true, ℕ, ◌<◌, ◌∙◌, ◌≡◌}
use Rattle.std.proofs.lemmas.Bool.{false≢true}
use Rattle.nam_verbs.specs.declared.now.Now.{Now}
use Rattle.nam_verbs.specs.declared.now.Now.TheVariants.{At, Over}
use Rattle.nam_verbs.specs.declared.verb.Verb.{Verb}
use Rattle.nam_verbs.specs.declared.verb.Verb.TheVariants.{Read}
use Rattle.nam_verbs.specs.Running as running_call
use Rattle.nam_verbs.specs.Verb.{address_of}
use Rattle.nam_verbs.specs.VerbAt.{VerbAt, verb_by}
use Rattle.nam_catalog.specs.declared.shape.Shape.{Shape}
use Rattle.nam_catalog.specs.Words.{words_of}
use Rattle.nam_layout.specs.declared.field.Field.{Field}
use Rattle.nam_calls.specs.declared.index.Path.{Path}
use Rattle.nam_calls.specs.Index.{find_verb, nth_key}
use Rattle.nam_calls.specs.Memory.{verb_there}
use Rattle.nam_calls.specs.Words.{path_of}
use Rattle.nam_protocol.specs.declared.client.ClientState.{ClientState}
use Rattle.nam_protocol.specs.declared.client.Open.{Open}
use Rattle.nam_protocol.specs.declared.scan.ScanAnswer.{ScanAnswer}
use Rattle.nam_protocol.specs.declared.scan.ScanPoint.{ScanPoint}
use Rattle.nam_protocol.specs.declared.txn.TxnAnswer.{TxnAnswer}
use Rattle.nam_protocol.specs.declared.txn.TxnPoint.{TxnPoint}
use Rattle.nam_protocol.specs.declared.txn.TxnState.{TxnState}
use Rattle.nam_protocol.specs.Client.{client_verb, verb_of as verb_in}
use Rattle.nam_protocol.proofs.FieldLemmas.{client_fields, reached_within}
use Rattle.nam_index.specs.Path.{path_address}
use Rattle.nam_index.proofs.PathLemmas.{stands}
use Rattle.nam_scan.specs.Scan.{Scanning as ScanValue, running}
use Rattle.nam_txn.specs.Txn.{Transacting, answer_in, next_verb}
use Rattle.nam_client.specs.declared.registers.Registers.{Registers}
use Rattle.nam_client.specs.declared.registers.Step.TheVariants as step
use Rattle.nam_upkeep.specs.Collector as collection
use Rattle.nam_protocol.specs.declared.client.Answer.TheVariants.{Collected, Txn}
use Rattle.nam_protocol.specs.Session.{answer_now}
use Rattle.nam_protocol.specs.declared.client.Answer.{Answer}
use Rattle.nam_protocol.specs.declared.client.CallPoint.{CallPoint}
use Rattle.nam_protocol.specs.declared.client.CallPoint.TheVariants.{Collecting}
use Rattle.nam_protocol.specs.SessionFits.{is_running}
use Rattle.nam_calls.specs.declared.horizon.CollectPoint.{CollectPoint}
use Rattle.nam_protocol.specs.Left.{client_left, left_of}
use Rattle.nam_client.specs.Registers.{client_of, call_of, in_scan, in_txn as txn_call, open_of, runs, seen_in}
use Rattle.nam_client.specs.Client.{verb_of}
use Rattle.nam_client.specs.Fits.{HandFits, IsClientOf, IsStanding}

module _ (shape : Shape) (a : Registers) (of : IsClientOf shape a) (uncut : a.is_cut ≡ false) where
  -- the verb is that of the call
  by_call : verb_of shape a ≡ option_map (verb_there shape) (verb_in shape (client_of a) (call_of a.step a))
  by_call = rw uncut refl

  -- 1. A transaction's call

  of_txn : (client : ClientState) (attempt : Open) (t : Transacting) (now : Option (Now TxnPoint TxnAnswer))
      → client.txn ≡ Some attempt → attempt.state ≡ t.state → t.call ≡ now
      → next_verb shape t ≡ option_map (verb_there shape) (verb_in shape client (txn_call now))
  of_txn client attempt t None opened same call = rw call refl
  of_txn client attempt t (Some (At at)) opened same call = rw (call, opened, same) refl
  of_txn client attempt t (Some (Over end)) opened same call = rw call refl

  pub in_txn : a.step ≡ step.InTxn → a.is_open ≡ true → next_verb shape a.txn ≡ verb_of shape a
  in_txn at opened =
      of_txn (client_of a) (open_of a) a.txn a.txn.call (rw opened refl) refl refl ∙ sym (by_call ∙ (rw at refl))

  -- 2. A search

  pub seeking : (table key passed : ℕ) (verb : Verb) → a.step ≡ step.Seeking table key passed
      → verb ≡ verb_by (path_address a.path) (find_verb a.path passed) → Some verb ≡ verb_of shape a
  seeking table key passed verb at is =
      let hand = rw at at of.hand in
      let fits = rw at at of.fits.2 in
      let there = ap (λ (path : Path). path_address path (nth_key path passed)) hand.0
      ∙ stands shape of.limits table fits.0 key passed fits.1 in
      ap Some is ∙ ap (λ n. Some (Read n)) there ∙ sym (by_call ∙ (rw at refl))

  -- 3. A scan

  of_scan : (client : ClientState) (scan : ScanValue) (state : Now ScanPoint ScanAnswer) → scan.state ≡ state
      → running_call.next_verb (running shape scan)
      ≡ option_map (verb_there shape) (verb_in shape client (in_scan (Some scan)))
  of_scan client scan (At at) same = rw same refl
  of_scan client scan (Over end) same = rw same refl

  pub scanning : (scan : ScanValue) → a.step ≡ step.Scanning → a.scan ≡ Some scan
      → running_call.next_verb (running shape scan) ≡ verb_of shape a
  scanning scan at is = of_scan (client_of a) scan scan.state refl ∙ sym (by_call ∙ (rw (at, is) refl))

  -- 4. How many verbs are to come of a collection

  left_is : client_left shape (client_of a) ≡ left_of shape (client_of a) (call_of a.step a)
  left_is = rw uncut refl

  of_collection : (bucket prefix : ℕ) (state : Now CollectPoint (List ℕ)) → a.collector.state ≡ state
      → HandFits shape a (runs (Collecting bucket prefix (seen_in a.snapper.state)) Collected state)
      → running_call.verbs_left (collection.running [] a.collector)
      ≡ left_of shape (client_of a) (runs (Collecting bucket prefix (seen_in a.snapper.state)) Collected state)
  of_collection bucket prefix (At at) same hand = rw (same, hand.0, hand.1) refl
  of_collection bucket prefix (Over known) same hand = rw same refl

  pub collecting : (bucket prefix n : ℕ) → a.step ≡ step.Collecting bucket prefix
      → ((seen : List ℕ) → n ≡ running_call.verbs_left (collection.running seen a.collector))
      → n ≡ client_left shape (client_of a)
  collecting bucket prefix n at each =
      each [] ∙ of_collection bucket prefix a.collector.state refl (rw at at of.hand) ∙ sym (left_is ∙ (rw at refl))

-- 5. The verb is at a word of the store

pub within : (shape : Shape) (a : Registers) → IsClientOf shape a → (verb : Verb) → verb_of shape a ≡ Some verb
    → address_of verb < words_of shape
within shape a of verb is = at_field (client_verb shape (client_of a)) refl is
  where
    at_field : (found : Option (VerbAt Field)) → client_verb shape (client_of a) ≡ found
        → option_map (verb_there shape) found ≡ Some verb → address_of verb < words_of shape
    at_field None same e = absurd (cc)
    at_field (Some v) same e =
        let there : verb_there shape v ≡ verb = cc in
        rw (← there) (reached_within shape v (client_fields shape of.limits (client_of a) v of.fits same)).0

-- 6. No verb stands where the client is cut, or no call runs

module _ (a : Registers) where
  rests_by : (shape : Shape) (cut : Bool) (call : Option (Now CallPoint Answer)) → is_running call ≡ false
      → None ≡ option_map (verb_there shape) (if cut then None else verb_in shape (client_of a) call)
  rests_by shape true call rests = refl
  rests_by shape false None rests = refl
  rests_by shape false (Some (At at)) rests = absurd (false≢true (sym rests))
  rests_by shape false (Some (Over end)) rests = refl

  pub none_rests : is_running (client_of a).call ≡ false → IsStanding a None
  none_rests rests shape of = rests_by shape a.is_cut (call_of a.step a) rests

  pub none_cut : a.is_cut ≡ true → IsStanding a None
  none_cut cut shape of = rw cut refl

-- 7. What the transaction answered is the client's answer

answered_by : (call : Option (Now TxnPoint TxnAnswer)) (end : TxnAnswer) → answer_in call ≡ Some end
    → answer_now (txn_call call) ≡ Some (Txn end)
answered_by None end is = absurd (cc)
answered_by (Some (At at)) end is = absurd (cc)
answered_by (Some (Over end)) end' is = ap (λ (o : Option TxnAnswer). option_map Txn o) is

pub txn_answered : (a : Registers) (end : TxnAnswer) → a.step ≡ step.InTxn → answer_in a.txn.call ≡ Some end
    → answer_now (client_of a).call ≡ Some (Txn end)
txn_answered a end at is = rw at (answered_by a.txn.call end is)
