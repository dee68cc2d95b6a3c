-- How many verbs a commit begins with, and what each call of a transaction begins with.
use Rattle.std.proofs.Common.{◌≡◌, ◌+◌, ◌-◌, ◌*◌, ◌<◌, ◌≤◌, List, [], ◌∷◌, ◌++◌, length, take, refl, sym, ◌∙◌, ap}
use Rattle.std.proofs.Common.{arith, true}
use Rattle.std.proofs.Common.{None}
use Rattle.std.specs.Prelude.{◌==◌, if◌then◌else◌, map, Bool, false, ℕ}
use Rattle.std.specs.List.{AllByRecursion}
use Rattle.std.proofs.lemmas.Bool.{false≢true}
use Rattle.std.proofs.lemmas.Bool.Decides.{nat_tests}
use Rattle.std.proofs.lemmas.List.{length-map}
use Rattle.si_model.specs.declared.row.Key.{Key}
use Rattle.si_model.specs.declared.row.Item.{Item}
use Rattle.si_model.specs.Rows.{same_key, item_key}
use Rattle.si_model.specs.Evaluation.{unwritten}
use Rattle.si_model.proofs.EvaluationLemmas.{same_key_says}
use Rattle.si_model.specs.declared.op.Op.TheVariants as op
use Rattle.nam_verbs.proofs.TestLemmas.{by_test}
use Rattle.nam_catalog.specs.declared.shape.Shape.{Shape}
use Rattle.nam_catalog.specs.Fits.{FitsLimits}
use Rattle.nam_catalog.specs.Greatest.{greatest_number}
use Rattle.nam_layout.specs.declared.field.Place.{Place}
use Rattle.nam_calls.specs.Words.{width_of}
use Rattle.nam_calls.specs.Lock.{lock_begin}
use Rattle.nam_calls.proofs.FallsTables.{width_is}
use Rattle.nam_protocol.specs.declared.txn.Record.{Record}
use Rattle.nam_protocol.specs.declared.txn.TxnState.{TxnState}
use Rattle.nam_protocol.specs.declared.txn.TxnCall.{TxnCall}
use Rattle.nam_protocol.specs.declared.txn.TxnCall.TheVariants.{Get, Put, Add, Del, Need, Guard, Commit}
use Rattle.nam_protocol.specs.declared.txn.TxnPoint.TheVariants.{Committing}
use Rattle.nam_protocol.specs.declared.txn.CommitPoint.TheVariants.{Listing, Locking}
use Rattle.nam_protocol.specs.declared.txn.TxnAnswer.TheVariants.{ReadOnly, Spent}
use Rattle.nam_protocol.specs.Txn.{at, over}
use Rattle.nam_protocol.specs.Commit.{record_in, records_of, ask_commit, commit_begin, committing, list_begin, places}
use Rattle.nam_protocol.specs.Commit.{tells_intent}
use Rattle.nam_protocol.specs.Commit.{has_intents}
use Rattle.nam_protocol.specs.TxnCalls.{txn_ask}
use Rattle.nam_protocol.specs.Bound.{installs_most, writes_bound, values_bound, intent_bound, commit_left, listed_from}
use Rattle.nam_protocol.specs.Bound.{listed_most, of_intent}
use Rattle.nam_protocol.specs.TxnFits.{is_claimed, IsPlaced, StateFits, CommitPointFits, TxnCallFits, TxnBegins}
use Rattle.nam_protocol.specs.TxnFits.{commit_bound}
use Rattle.nam_protocol.specs.TxnFits.{txn_call_bound}
use Rattle.nam_protocol.proofs.FallsKeys.{record_placed, records_length, tells_by_form}
use Rattle.nam_protocol.proofs.FallsTxn.{op_begins}

-- the record of a claimed key bears that key
pub record_key : (cs : List Record) (key : Key) → is_claimed cs key ≡ true → (record_in cs key).key ≡ key
record_key [] key e = absurd (false≢true e)
record_key (c ∷ cs) key e =
    by_test (λ (r : Record). r.key ≡ key) (same_key c.key key) c (record_in cs key) (λ f. same_key_says c.key key f)
    (λ f. record_key cs key (rw f at e))

module _ (shape : Shape) (limits : FitsLimits shape) where
  pub record_width : (cs : List Record) (key : Key) → AllByRecursion (IsPlaced shape) cs → is_claimed cs key ≡ true
      → (record_in cs key).place.width ≡ width_of shape key.table
  record_width cs key placed e =
      let p = record_placed shape cs key placed e in
      ap (λ (p : Place). p.width) p.2 ∙ width_is shape limits (record_in cs key).key.table p.0 p.1.0 p.1.1
      ∙ ap (λ (k : Key). width_of shape k.table)
      (record_key cs key e)

  abbrev places_in : List Record → List Key → List Place
  places_in cs keys = map (λ (r : Record). r.place) (map (record_in cs) keys)

  -- copies, installs, locks and checks of the written records
  writes_take : (cs : List Record) (ws : List Item) (rest : List Key) → AllByRecursion (IsPlaced shape) cs
      → AllByRecursion (λ item. is_claimed cs (item_key item) ≡ true) ws
      → installs_most (take (length ws) (places_in cs (map item_key ws ++ rest)))
      + 4 * length ws ≡ writes_bound shape (map item_key ws)
  writes_take cs [] rest placed all = refl
  writes_take cs (w ∷ ws) rest placed all =
      let r = writes_take cs ws rest placed all.1 in
      let e = record_width cs (item_key w) placed all.0 in
      omega arith

  guards_listed : (cs : List Record) (keys : List Key) → listed_most 0 (places_in cs keys) ≡ 2 * length keys
  guards_listed cs [] = refl
  guards_listed cs (key ∷ keys) = let r = guards_listed cs keys in omega arith

  -- rows, kinds, data and counts of the written records, and rows and kinds of the others
  intent_takes : (cs : List Record) (ws : List Item) (rest : List Key) → AllByRecursion (IsPlaced shape) cs
      → AllByRecursion (λ item. is_claimed cs (item_key item) ≡ true) ws
      → listed_most (length ws) (places_in cs (map item_key ws ++ rest)) + length ws
      ≡ values_bound shape (map item_key ws) + 2 * length rest
  intent_takes cs [] rest placed all = let r = guards_listed cs rest in omega arith
  intent_takes cs (w ∷ ws) rest placed all =
      let r = intent_takes cs ws rest placed all.1 in
      let e = record_width cs (item_key w) placed all.0 in
      omega arith

  commit_figure : (state : TxnState) → StateFits shape state → 1 ≤ length state.writes
      → commit_left (committing state) (commit_begin (committing state)) ≤ commit_bound shape state
  commit_figure state fits some =
      let w = writes_take state.claims state.writes (unwritten state.writes state.guards) fits.placed fits.written in
      let i = intent_takes state.claims state.writes (unwritten state.writes state.guards) fits.placed fits.written in
      let r = records_length shape state fits in
      let p : length (map (λ (r : Record). r.place) (records_of state)) ≡ length (records_of state) =
      length-map (records_of state)
      (λ (r : Record). r.place) in
      let same = tells_by_form shape (committing state) fits refl some in
      let all : length state.writes - 0 ≡ length state.writes = omega arith in
      let listed : listed_from (committing state) 0 ≡ listed_most (length state.writes) (places (committing state)) =
      ap (λ n. listed_most n (places (committing state))) all in
      let part : (b : Bool) (n : ℕ) → tells_intent (committing state) ≡ b
      → of_intent (committing state) n ≡ (if b then n else 0) =
      λ b n e. ap (λ (b : Bool). if b then n else 0) e in
      let bound : (b : Bool) → has_intents shape.form ≡ b
      → intent_bound shape (map item_key state.writes) (length (unwritten state.writes state.guards))
      ≡ (if b then values_bound shape (map item_key state.writes) + 2 * length (unwritten state.writes state.guards) + 4
      else 0) =
      λ b e. ap (λ (b : Bool). if b then values_bound shape (map item_key state.writes)
      + 2 * length (unwritten state.writes state.guards) + 4 else 0) e in
      by_test (λ place. commit_left (committing state) place ≤ commit_bound shape state)
      (tells_intent (committing state)) (Listing list_begin) (Locking lock_begin)
      (λ t. let a = part true (length state.writes + 1) t in
      let b = part true 1 t in
      let c = bound true (sym same ∙ t) in
      omega arith)
      (λ t. let a = part false (length state.writes + 1) t in
      let b = part false 1 t in
      let c = bound false (sym same ∙ t) in
      omega arith)

  commit_first : (state : TxnState) → StateFits shape state → 1 ≤ length state.writes
      → CommitPointFits shape (committing state) (commit_begin (committing state))
  commit_first state fits some =
      let r = records_length shape state fits in
      by_test (CommitPointFits shape (committing state)) (tells_intent (committing state)) (Listing list_begin)
      (Locking lock_begin) (λ t. (refl, refl, omega arith, t)) (λ t. (omega arith, refl))

  commit_begins : (state : TxnState) → StateFits shape state
      → TxnBegins shape (commit_bound shape state) (ask_commit shape state)
  commit_begins state fits =
      let n = commit_bound shape state in
      let none = record state { read = None } in
      let begun = at (committing state) (Committing (commit_begin (committing state))) in
      by_test (TxnBegins shape n) (length state.writes == 0) (over none ReadOnly)
      (if state.last == greatest_number shape.form then over none Spent else begun)
      (λ e. (fits, tt))
      (λ e. by_test (TxnBegins shape n) (state.last == greatest_number shape.form) (over none Spent) begun
      (λ f. (fits, tt))
      (λ f. let some : 1 ≤ length state.writes = grind (arith, nat_tests) in
      let l = fits.last_is in
      let room : state.last < greatest_number shape.form = grind (arith, nat_tests) in
      (fits, ((refl, some, commit_first state fits some, room), commit_figure state fits some))))

  -- a call is asked
  pub txn_begins : (state : TxnState) (call : TxnCall) → StateFits shape state → TxnCallFits shape state call
      → TxnBegins shape (txn_call_bound shape state call) (txn_ask shape state call)
  txn_begins state (Get t k) fits stands = op_begins shape limits state (op.Get t k) fits stands
  txn_begins state (Put t k v) fits stands = op_begins shape limits state (op.Put t k v) fits stands
  txn_begins state (Add t k f up by) fits stands = op_begins shape limits state (op.Add t k f up by) fits stands
  txn_begins state (Del t k) fits stands = op_begins shape limits state (op.Del t k) fits stands
  txn_begins state (Need t k f least) fits stands = op_begins shape limits state (op.Need t k f least) fits stands
  txn_begins state (Guard t k) fits stands = op_begins shape limits state (op.Guard t k) fits stands
  txn_begins state Commit fits stands = commit_begins state fits
