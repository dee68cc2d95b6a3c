-- Where the verb of a running operation is, and how many are to come.
use Rattle.std.proofs.Common.{◌≡◌, ℕ, ◌+◌, ◌-◌, ◌*◌, ◌<◌, refl, sym, ap, ◌∙◌, subst, Option, Some, None}
use Rattle.std.specs.Prelude.{IfSome, if◌then◌else◌}
use Rattle.si_model.specs.Evaluation.{op_key}
use Rattle.si_model.specs.Operations.{op_claims}
use Rattle.nam_verbs.specs.declared.verb.Verb.{Verb}
use Rattle.nam_verbs.specs.declared.verb.Verb.TheVariants.{Read, Exchange}
use Rattle.nam_verbs.specs.declared.now.Now.{Now}
use Rattle.nam_verbs.specs.declared.now.Now.TheVariants.{At, Over}
use Rattle.nam_verbs.specs.Now.{verb_now}
use Rattle.nam_verbs.specs.Running as running_call
use Rattle.nam_verbs.specs.Verb.{address_of}
use Rattle.nam_verbs.specs.VerbAt.{VerbAt, ReadAt, WriteAt, ExchangeAt, target, verb_by}
use Rattle.nam_catalog.specs.declared.shape.Shape.{Shape}
use Rattle.nam_catalog.specs.Words.{words_of}
use Rattle.nam_layout.specs.declared.field.Field.{Field}
use Rattle.nam_layout.specs.Rows.{row_of}
use Rattle.nam_layout.specs.Address.{address}
use Rattle.nam_layout.specs.Place.{bucket_of}
use Rattle.nam_layout.proofs.PlaceLemmas.{known_stands}
use Rattle.nam_calls.specs.declared.index.ClaimKeyPoint.TheVariants.{KeyLook, KeyTake}
use Rattle.nam_calls.specs.Words.{capacity_of, key_word}
use Rattle.nam_calls.specs.Index.{nth_key}
use Rattle.nam_calls.specs.Memory.{verb_there}
use Rattle.nam_calls.specs.Reading.{sight_of, read_verb, read_left, read_most}
use Rattle.nam_calls.proofs.FieldLemmas.{read_field}
use Rattle.nam_index.specs.Path.{path_address}
use Rattle.nam_index.proofs.PathLemmas as path
use Rattle.nam_protocol.specs.declared.txn.TxnAnswer.{TxnAnswer}
use Rattle.nam_protocol.specs.declared.txn.TxnPoint.{TxnPoint}
use Rattle.nam_protocol.specs.declared.txn.TxnPoint.TheVariants.{Finding, Reading, Claiming}
use Rattle.nam_protocol.specs.Operations.{op_path}
use Rattle.nam_protocol.specs.TxnCalls.{txn_verb}
use Rattle.nam_protocol.specs.Bound.{txn_left}
use Rattle.nam_protocol.proofs.FieldLemmas.{txn_fields, reached_within}
use Rattle.nam_reader.specs.Reading.{sight_address, running}
use Rattle.nam_txn.specs.Txn.{Transacting, IsTxnOf, CallFits, OpRuns, ReadStands, point_of, verb_of, next_verb}
use Rattle.nam_txn.specs.declared.registers.Registers.{Registers}
use Rattle.nam_txn.proofs.RunLemmas.{is_table, capacity_is}
use Rattle.nam_txn.proofs.ReadLemmas.{looks_fit}

-- a verb is the same where its word has the same address
same_verb : (verb : VerbAt Field) (f g : Field → ℕ) → f (target verb) ≡ g (target verb)
    → verb_by f verb ≡ verb_by g verb
same_verb (ReadAt at) f g same = rw same refl
same_verb (WriteAt at word) f g same = rw same refl
same_verb (ExchangeAt at expect word) f g same = rw same refl

module _ (shape : Shape) (a : Registers) (runs : OpRuns shape a) where
  -- 1. Addresses

  pub key_here : path_address a.walk.path (nth_key a.walk.path a.walk.passed)
      ≡ address shape (nth_key (op_path shape a.op) a.walk.passed)
  key_here =
      ap (λ p. path_address p (nth_key p a.walk.passed)) runs.table.path
      ∙ path.stands shape runs.limits (op_key a.op).table (is_table shape a runs) (op_key a.op).key a.walk.passed
      (subst (λ n. a.walk.passed < n) (capacity_is shape a runs) runs.walk.passed)

  pub find_verb_is : (at : ℕ) → at ≡ path_address a.walk.path (nth_key a.walk.path a.walk.passed)
      → Some (Read at) ≡ Some (verb_there shape (txn_verb shape a.state (Finding a.op a.walk.passed)))
  find_verb_is at same = ap (λ n. Some (Read n)) (same ∙ key_here)

  pub look_verb_is : (at : ℕ) → at ≡ path_address a.walk.path (nth_key a.walk.path a.walk.passed)
      → Some (Read at) ≡ Some (verb_there shape (txn_verb shape a.state (Claiming a.op (KeyLook a.walk.passed))))
  look_verb_is at same = ap (λ n. Some (Read n)) (same ∙ key_here)

  pub take_verb_is : (at : ℕ) → at ≡ path_address a.walk.path (nth_key a.walk.path a.walk.passed)
      → Some (Exchange at 0 (a.walk.path.key + 1))
      ≡ Some (verb_there shape (txn_verb shape a.state (Claiming a.op (KeyTake a.walk.passed))))
  take_verb_is at same =
      ap (λ n. Some (Exchange n 0 (a.walk.path.key + 1))) (same ∙ key_here)
      ∙ ap (λ p. Some (Exchange (address shape (nth_key (op_path shape a.op) a.walk.passed)) 0 (key_word p.key)))
      runs.table.path

  module _ (reads : ReadStands shape a) where
    address_is : sight_address (sight_of shape (op_key a.op).table a.walk.position)
        (target (read_verb (sight_of shape (op_key a.op).table a.walk.position) (point_of a.reader.state)))
        ≡ address shape
        (target (read_verb (sight_of shape (op_key a.op).table a.walk.position) (point_of a.reader.state)))
    address_is =
        let row = row_of shape.tables (op_key a.op).table a.walk.position in
        sym (known_stands shape row (bucket_of shape row)
        (target (read_verb (sight_of shape (op_key a.op).table a.walk.position) (point_of a.reader.state)))
        (read_field (sight_of shape (op_key a.op).table a.walk.position) (looks_fit shape a runs)
        (point_of a.reader.state) reads.fits)).0

    pub read_verb_is : (found : Option Verb) → found ≡ running_call.next_verb (running a.state.seen a.reader)
        → found ≡ Some (verb_there shape
        (txn_verb shape a.state (Reading a.op a.walk.position (point_of a.reader.state))))
    read_verb_is found same =
        same
        ∙ ap (λ s. verb_now (λ at. verb_by (sight_address a.reader.sight) (read_verb a.reader.sight at)) s) reads.state
        ∙ ap (λ s. Some (verb_by (sight_address s) (read_verb s (point_of a.reader.state)))) reads.sight
        ∙ ap Some (same_verb (read_verb (sight_of shape (op_key a.op).table a.walk.position) (point_of a.reader.state))
        (sight_address (sight_of shape (op_key a.op).table a.walk.position)) (address shape) address_is)

  -- 2. Verbs to come

  module _ (claim : ℕ) (is : claim ≡ (if op_claims a.op then 2 * a.walk.path.capacity else 0)) where
    pub find_left_is : (a.walk.path.capacity - a.walk.passed) + (a.read_most + claim)
        ≡ txn_left shape a.state (Finding a.op a.walk.passed)
    find_left_is =
        let most : claim ≡ (if op_claims a.op then 2 * capacity_of shape (op_key a.op).table else 0) =
        is ∙ ap (λ p. if op_claims a.op then 2 * p.capacity else 0) runs.table.path in
        rw (most, runs.table.read_most)
        (ap (λ n. (n - a.walk.passed) + (read_most shape (op_key a.op).table
        + (if op_claims a.op then 2 * capacity_of shape (op_key a.op).table else 0))) (capacity_is shape a runs))

    pub read_left_is : ReadStands shape a → (left : ℕ)
        → left ≡ read_left a.reader.sight (point_of a.reader.state)
        → left + claim ≡ txn_left shape a.state (Reading a.op a.walk.position (point_of a.reader.state))
    read_left_is reads left same =
        let there = ap (λ s. read_left s (point_of a.reader.state)) reads.sight in
        let most : claim ≡ (if op_claims a.op then 2 * capacity_of shape (op_key a.op).table else 0) =
        is ∙ ap (λ p. if op_claims a.op then 2 * p.capacity else 0) runs.table.path in
        ap (λ n. n + claim) (same ∙ there)
        ∙ ap (λ n. read_left (sight_of shape (op_key a.op).table a.walk.position) (point_of a.reader.state) + n) most

  pub look_left_is : 2 * (a.walk.path.capacity - a.walk.passed - 1) + 2
      ≡ txn_left shape a.state (Claiming a.op (KeyLook a.walk.passed))
  look_left_is = ap (λ n. 2 * (n - a.walk.passed - 1) + 2) (capacity_is shape a runs)

  pub take_left_is : 2 * (a.walk.path.capacity - a.walk.passed - 1) + 1
      ≡ txn_left shape a.state (Claiming a.op (KeyTake a.walk.passed))
  take_left_is = ap (λ n. 2 * (n - a.walk.passed - 1) + 1) (capacity_is shape a runs)

-- 3. A verb that stands is at a word of the store

module _ (shape : Shape) (a : Transacting) (of : IsTxnOf shape a) where
  within_at : (call : Option (Now TxnPoint TxnAnswer)) → CallFits shape a.state a.hand call
      → IfSome (verb_of shape a.state call) (λ verb. address_of verb < words_of shape)
  within_at None fits = tt
  within_at (Some (Over answer)) fits = tt
  within_at (Some (At at)) fits =
      (reached_within shape (txn_verb shape a.state at)
      (txn_fields shape of.limits a.state at of.fits fits.0)).0

  pub verb_within : IfSome (next_verb shape a) (λ verb. address_of verb < words_of shape)
  verb_within = within_at a.call of.call
