-- Which key words a client's verb changes: none, or that of a free position, to the key of its operation.
use Rattle.std.proofs.Common.{None, Option, Some, ap, arith, inl, inr, refl, subst, sym, true, ℕ, ◌+◌, ◌<◌, ◌∙◌, ◌≡◌}
use Rattle.std.proofs.Common.{◌⊎◌}
use Rattle.std.specs.Prelude.{if◌then◌else◌, ◌==◌}
use Rattle.std.proofs.lemmas.Bool.{cases_eq, false≢true}
use Rattle.std.proofs.lemmas.Option.{none-some}
use Rattle.si_model.specs.Evaluation.{key_claimed, op_key}
use Rattle.si_model.specs.Operations.{op_claims}
use Rattle.si_model.specs.Rows.{key_at}
use Rattle.si_model.specs.declared.op.Op.{Op}
use Rattle.si_model.specs.declared.op.Op.TheVariants as op
use Rattle.nam_verbs.specs.VerbAt.{ExchangeAt, left_at, target}
use Rattle.nam_verbs.specs.declared.now.Now.{Now}
use Rattle.nam_verbs.specs.declared.now.Now.TheVariants.{At}
use Rattle.nam_verbs.proofs.TestLemmas.{by_equal}
use Rattle.nam_catalog.specs.declared.shape.Shape.{Shape}
use Rattle.nam_layout.specs.Address.{IsRow}
use Rattle.nam_layout.specs.Rows.{row_of, table_of}
use Rattle.nam_layout.proofs.PositionLemmas.{position_is_row}
use Rattle.nam_calls.proofs.FieldLemmas.{row_within}
use Rattle.nam_layout.specs.declared.field.Field.{Field}
use Rattle.nam_layout.specs.declared.field.Field.TheVariants.{Key}
use Rattle.nam_calls.specs.Index.{nth_key}
use Rattle.nam_calls.specs.Memory.{memory}
use Rattle.nam_calls.specs.Words.{capacity_of, key_word}
use Rattle.nam_calls.specs.declared.index.ClaimKeyPoint.TheVariants.{KeyLook, KeyTake}
use Rattle.nam_protocol.specs.CallWrites.{open_writes}
use Rattle.nam_protocol.specs.Client.{open_verb}
use Rattle.nam_protocol.specs.Operations.{op_path}
use Rattle.nam_protocol.specs.Own.{IsOpenNow}
use Rattle.nam_protocol.specs.declared.client.Answer.{Answer}
use Rattle.nam_protocol.specs.declared.client.CallPoint.{CallPoint}
use Rattle.nam_protocol.specs.declared.client.CallPoint.TheVariants.{Beginning, Collecting, InTxn, Moving, Scanning}
use Rattle.nam_protocol.specs.declared.client.CallPoint.TheVariants.{Seeking, Snapping}
use Rattle.nam_protocol.specs.declared.client.ClientState.{ClientState}
use Rattle.nam_protocol.specs.declared.client.Open.{Open}
use Rattle.nam_protocol.specs.declared.txn.TxnPoint.TheVariants.{Claiming, Committing, Finding, Reading}
use Rattle.nam_store.specs.Base.{BaseOk}
use Rattle.nam_store.specs.Changed.{Changed, Does, written_at, written_of}
use Rattle.nam_store.specs.Kinds.{MayWrite, MayWriteAt}
use Rattle.nam_store.specs.Store.{Abandons, Asks, Cuts, Store, Takes, client_at, next_verb, step}
use Rattle.nam_store.proofs.BaseLemmas.{does_law}
use Rattle.nam_store.proofs.PathLemmas.{on_row, row_on}
use Rattle.nam_store.proofs.StepLemmas.{verb_is}
use Rattle.nam_ghost.specs.Keys.{Bears, key_view}
use Rattle.nam_claimed.specs.HomeLaw.{TakenLaw}
use Rattle.nam_claimed.proofs.HomeLemmas.{home_at, home_is, keys_meet, table_within}
use Rattle.nam_claimed.proofs.ViewLemmas.{ViewWithin, view_within}

-- an operation that claims, claims its key
pub claims_key : (op : Op) → op_claims op ≡ true → key_claimed op ≡ Some (op_key op)
claims_key (op.Get t k) e = absurd (false≢true e)
claims_key (op.Put t k v) e = refl
claims_key (op.Add t k f up by) e = refl
claims_key (op.Del t k) e = refl
claims_key (op.Need t k f least) e = absurd (false≢true e)
claims_key (op.Guard t k) e = refl
claims_key (op.Scan t low high) e = absurd (false≢true e)

-- the row of a key's position after so many others
abbrev pub row_for : Shape → Op → ℕ → ℕ
row_for shape op passed = row_on shape (op_key op).table (op_key op).key passed

abbrev key_row : Field → ℕ
key_row (Key row) = row
key_row _ = 0

module _ (shape : Shape) (store : Store) (base : BaseOk shape store) (nth : ℕ) (client : ClientState)
    (here : client_at store nth ≡ Some client) where
  abbrev m : Field → ℕ
  m = memory shape store.words

  abbrev now : Field → ℕ
  now = memory shape (step shape store nth client).words

  -- the client claims the row's position, which bore no key, for the key of its operation
  pub record Claims (row : ℕ) : Type 0 where
    pub op : Op
    pub passed : ℕ
    pub runs : client.call ≡ Some (At (InTxn (Claiming op (KeyTake passed))))
    pub row_is : row_for shape op passed ≡ row
    pub free : m (Key row) ≡ 0
    pub bears : now (Key row) ≡ key_word (op_key op).key

  abbrev pub KeyGoes : ℕ → Type 0
  KeyGoes row = (now (Key row) ≡ m (Key row)) ⊎ Claims row

  module _ (place : CallPoint) (at : client.call ≡ Some (At place)) where
    abbrev did : Does shape store nth client
    did = does_law shape store base nth client place here at

    -- a call that doesn't write keys
    kept : (row : ℕ) → IsRow shape row → (MayWrite (nth + 1) place (Key row) → ⊥) → now (Key row) ≡ m (Key row)
    kept row is none =
        did.kinds (Key row) is (λ may.
        none (subst (λ (call : Option (Now CallPoint Answer)). MayWriteAt (nth + 1) call (Key row)) at may))

  -- it only looks
  look_keeps : (op : Op) (passed : ℕ) → client.call ≡ Some (At (InTxn (Claiming op (KeyLook passed)))) → (row : ℕ)
      → IsRow shape row → now (Key row) ≡ m (Key row)
  look_keeps op passed at row is =
      (does_law shape store base nth client _ here at).leaves (Key row) is
      (λ e. none-some _ (sym none ∙ e))
    where
      by : (opened : Option Open) → open_writes shape opened (Claiming op (KeyLook passed)) ≡ None
      by None = refl
      by (Some attempt) = refl

      none : written_of shape client ≡ None
      none = ap (written_at shape client) at ∙ by client.txn

  -- its exchange
  pub take_changes : (op : Op) (passed : ℕ) → client.call ≡ Some (At (InTxn (Claiming op (KeyTake passed))))
      → let spot = Key (row_for shape op passed) in
      Changed shape m now spot (if m spot == 0 then key_word (op_key op).key else m spot)
  take_changes op passed at =
      subst (λ verb. Changed shape m now (target verb) (left_at m verb)) verb
      (does_law shape store base nth client _ here at).changes
    where
      by : (opened : Option Open) → IsOpenNow opened (Some (At (InTxn (Claiming op (KeyTake passed)))))
          → open_verb shape opened (Claiming op (KeyTake passed))
          ≡ ExchangeAt (nth_key (op_path shape op) passed) 0 (key_word (op_key op).key)
      by None is = absurd (false≢true is)
      by (Some attempt) is = refl

      verb : next_verb shape client ≡ ExchangeAt (nth_key (op_path shape op) passed) 0 (key_word (op_key op).key)
      verb =
          verb_is shape client (InTxn (Claiming op (KeyTake passed))) at
          ∙ by client.txn (subst (IsOpenNow client.txn) at (base.clients nth client here).opened)

  take_goes : (op : Op) (passed : ℕ) → client.call ≡ Some (At (InTxn (Claiming op (KeyTake passed)))) → (row : ℕ)
      → IsRow shape row → KeyGoes row
  take_goes op passed at row is =
      let changes = take_changes op passed at in
      let spot = row_for shape op passed in
      elim (cases_eq row spot) [
        | inl same ↦
            subst KeyGoes (sym same)
            (by_equal (λ word. now (Key spot) ≡ word → KeyGoes spot) (m (Key spot)) 0 (key_word (op_key op).key)
            (m (Key spot))
            (λ free written.
            inr record { op = op; passed = passed; runs = at; row_is = refl; free = free; bears = written })
            (λ some stays. inl stays) changes.here)
        | inr apart ↦ inl (changes.others (Key row) is (λ e. apart (ap key_row e)))
      ]

  pub key_goes : (place : CallPoint) → client.call ≡ Some (At place) → (row : ℕ) → IsRow shape row → KeyGoes row
  key_goes (Beginning txn number at) runs row is = inl (kept _ runs row is (λ may. may))
  key_goes (InTxn (Finding op passed)) runs row is = inl (kept _ runs row is (λ may. may))
  key_goes (InTxn (Reading op position at)) runs row is = inl (kept _ runs row is (λ may. may))
  key_goes (InTxn (Claiming op (KeyLook passed))) runs row is = inl (look_keeps op passed runs row is)
  key_goes (InTxn (Claiming op (KeyTake passed))) runs row is = take_goes op passed runs row is
  key_goes (InTxn (Committing at)) runs row is = inl (kept _ runs row is (λ may. may))
  key_goes (Scanning table low high at) runs row is = inl (kept _ runs row is (λ may. may))
  key_goes (Seeking table key passed) runs row is = inl (kept _ runs row is (λ may. may))
  key_goes (Moving table key position at) runs row is = inl (kept _ runs row is (λ may. may))
  key_goes (Snapping bucket at) runs row is = inl (kept _ runs row is (λ may. may))
  key_goes (Collecting bucket prefix seen at) runs row is = inl (kept _ runs row is (λ may. may))

  -- the key that is claimed is the one that stands there then
  pub claims_key_at : (table key position : ℕ) → position < capacity_of shape table
      → (claims : Claims (row_of shape.tables table position)) → Bears shape now table key position
      → op_key claims.op ≡ key_at table key
  claims_key_at table key position less claims bears =
      let claimed = op_key claims.op in
      let within = subst (ViewWithin shape) (ap key_view claims.runs)
      (view_within shape client.txn client.call (base.clients nth client here).fits.2) in
      let there = on_row shape claimed.table (table_within shape claimed.table claims.passed within) claimed.key
      claims.passed within in
      let is = position_is_row shape.tables table position (table_within shape table position less, less) in
      let word = sym claims.bears ∙ bears in
      keys_meet claimed.table table claimed.key key
      (sym there.table_is ∙ ap (table_of shape.tables) claims.row_is ∙ is.table_is) (omega arith)

-- a step gives a home to no key but that of the operation whose claim takes one
pub taken_holds : TakenLaw
taken_holds shape before _ (Takes nth client place here runs at) base stand key position none home =
    let now = memory shape (step shape before nth client).words in
    let is = home_is shape now key position home in
    elim (key_goes shape before base nth client here place at (row_of shape.tables key.table position)
    (row_within shape key.table position (table_within shape key.table position is.0) is.0)) [
      | inl same ↦ let stood = home_at shape before.words stand key position is.0 (sym same ∙ is.1) in absurd (cc)
      | inr claims ↦ (
        claims.op,
        claims.passed,
        ap place_in (sym at ∙ claims.runs),
        claims_key_at shape before base nth client here key.table key.key position is.0 claims is.1,
      )
    ]
  where
    place_in : Option (Now CallPoint Answer) → CallPoint
    place_in (Some (At place)) = place
    place_in _ = Seeking 0 0 0
taken_holds shape before _ (Asks nth client asked here may words) base stand key position none home = absurd (cc)
taken_holds shape before _ (Abandons nth client here rests) base stand key position none home = absurd (cc)
taken_holds shape before _ (Cuts nth client here) base stand key position none home = absurd (cc)
