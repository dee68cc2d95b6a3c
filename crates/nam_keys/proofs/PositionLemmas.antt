-- What is said of keys, in words of key words and clients alone.
use Rattle.std.proofs.Common.{List, None, Option, Some, ap, arith, inl, inr, refl, subst, sym, true, ℕ, ◌+◌, ◌<◌, ◌∙◌}
use Rattle.std.proofs.Common.{◌≡◌, ◌≢◌}
use Rattle.std.proofs.lemmas.Bool.{cases_eq, cases_order, eqb-true, or_cases}
use Rattle.std.specs.Prelude.{◌==◌, ◌||◌}
use Rattle.nam_calls.proofs.FieldLemmas.{row_within}
use Rattle.nam_calls.specs.Fits.{IsTableOf}
use Rattle.nam_calls.specs.Index.{claim_key_after, find_after, nth_key}
use Rattle.nam_calls.specs.Memory.{memory}
use Rattle.nam_calls.specs.Words.{capacity_of, key_word, path_of}
use Rattle.nam_calls.specs.declared.index.ClaimKeyPoint.{ClaimKeyPoint}
use Rattle.nam_calls.specs.declared.index.ClaimKeyPoint.TheVariants.{KeyLook, KeyTake}
use Rattle.nam_calls.specs.declared.index.FindEnd.{FindEnd}
use Rattle.nam_catalog.specs.Fits.{FitsLimits}
use Rattle.nam_catalog.specs.declared.shape.Shape.{Shape}
use Rattle.nam_ghost.proofs.KeyLemmas.{key_stays, past_stays, position_within, view_fits}
use Rattle.nam_ghost.specs.Ghost.{ghost_step, opening_ghost}
use Rattle.nam_ghost.specs.Keys.{ClaimsOk, IsPast, KeyClientOk, KeyView, KeysNext, KeysOk, LooksFor, ScannedOk}
use Rattle.nam_ghost.specs.Keys.{ViewFits, ViewOk, call_view, key_view, txn_view}
use Rattle.nam_ghost.specs.Versions.{Chain}
use Rattle.nam_keys.proofs.StayLemmas.{claim_row}
use Rattle.nam_keys.proofs.StoreLemmas.{keys_reached, next_law}
use Rattle.nam_keys.proofs.TellLemmas.{look_tells, take_tells}
use Rattle.nam_keys.specs.KeysLaw.{AbsentLaw, FoundLaw, FullLaw, HasRow, InCall, InClaims, InScan, OnceLaw, PassedLaw}
use Rattle.nam_keys.specs.Tells.{ClaimTells}
use Rattle.nam_layout.specs.Address.{IsRow}
use Rattle.nam_layout.specs.Rows.{row_of}
use Rattle.nam_layout.specs.declared.field.Field.{Field}
use Rattle.nam_layout.specs.declared.field.Field.TheVariants.{Key}
use Rattle.nam_protocol.specs.Client.{call_verb, open_verb}
use Rattle.nam_protocol.specs.ClientFits.{CallPointFits, NowFits, OpenFits, OpenPointFits}
use Rattle.nam_protocol.specs.declared.client.Answer.{Answer}
use Rattle.nam_protocol.specs.declared.client.CallPoint.{CallPoint}
use Rattle.nam_protocol.specs.declared.client.CallPoint.TheVariants.{Beginning, Collecting, InTxn, Moving, Scanning}
use Rattle.nam_protocol.specs.declared.client.CallPoint.TheVariants.{Seeking, Snapping}
use Rattle.nam_protocol.specs.declared.client.ClientState.{ClientState}
use Rattle.nam_protocol.specs.declared.client.Open.{Open}
use Rattle.nam_protocol.specs.declared.scan.ScanPoint.TheVariants.{ScanKey, ScanRead}
use Rattle.nam_protocol.specs.declared.txn.TxnPoint.{TxnPoint}
use Rattle.nam_protocol.specs.declared.txn.TxnPoint.TheVariants.{Claiming, Committing, Finding, Reading}
use Rattle.nam_store.proofs.BaseLemmas.{base_keeps}
use Rattle.nam_store.proofs.PathLemmas.{row_on, row_reached}
use Rattle.nam_store.proofs.ReachedLemmas.{ghost_rides, path_keeps, reached_law}
use Rattle.nam_store.proofs.RowsStand.{key_once}
use Rattle.nam_store.specs.Base.{BaseOk, ClientOk}
use Rattle.nam_store.specs.Opening.{AreLoaded}
use Rattle.nam_store.specs.Reached.{IsReached}
use Rattle.nam_store.specs.Store.{Store, client_at, found_word, verb_at}
use Rattle.nam_store.specs.Turns.{StepsOn}
use Rattle.nam_verbs.proofs.TestLemmas.{by_equal, by_test}
use Rattle.nam_verbs.specs.VerbAt.{found_at}
use Rattle.nam_verbs.specs.declared.now.Now.{Now}
use Rattle.nam_verbs.specs.declared.now.Now.TheVariants.{At, Over}
use Rattle.si_model.proofs.ListLemmas.{All-listed}
use Rattle.si_model.specs.Evaluation.{op_key}
use Rattle.si_model.specs.declared.op.Op.{Op}
use Rattle.si_model.specs.declared.row.Row.{Row}
use Rattle.nam_calls.specs.declared.index.ClaimKeyEnd.TheVariants as claimed_key
use Rattle.nam_calls.specs.declared.index.FindEnd.TheVariants as found_key

-- 1. Stores that come about, and those after them

-- a store that comes about has chains that meet what is said
known : (shape : Shape) → FitsLimits shape → (rows : List Row) → AreLoaded shape rows → (store : Store)
    → IsReached shape rows store → BaseOk shape store × ((chains : ℕ → Chain) × KeysOk shape store chains)
known shape limits rows loaded store reached =
    let with_ghost = ghost_rides shape rows (opening_ghost shape rows) (ghost_step shape) store tt reached in (
      reached_law shape limits rows loaded store reached,
      (with_ghost.0.chains, keys_reached shape limits rows loaded store with_ghost.0 with_ghost.1),
    )

-- a key word that stands does so in each store that comes after
pub stands_on : (shape : Shape) (first after : Store) → BaseOk shape first → StepsOn shape first after
    → KeysNext shape (memory shape first.words) (memory shape after.words)
stands_on shape first after base path =
    let Stands : Store → Type 0 =
    λ store. BaseOk shape store × KeysNext shape (memory shape first.words) (memory shape store.words) in
    (path_keeps shape first Stands
    (λ before later goes was. (
      base_keeps shape before later goes was.0,
      λ row is some.
          let same = was.1 row is some in
          next_law shape before later goes was.0 row is (λ none. some (sym same ∙ none)) ∙ same,
    )) (base, λ row is some. refl) after path).1

-- 2. What a client has found, and what it has passed

module _ (shape : Shape) (store : Store) (base : BaseOk shape store) (chains : ℕ → Chain)
    (ok : KeysOk shape store chains) (nth : ℕ) (client : ClientState) (here : client_at store nth ≡ Some client) where
  abbrev m : Field → ℕ
  m = memory shape store.words

  own : ClientOk shape nth client
  own = base.clients nth client here

  knows : KeyClientOk shape m client
  knows = ok.clients nth client here

  fits_as : (view : KeyView) → key_view client.call ≡ view → ViewFits shape view
  fits_as view is = subst (ViewFits shape) is (view_fits shape base.limits client.txn client.call own.fits.2)

  knows_as : (view : KeyView) → key_view client.call ≡ view → ViewOk shape m view
  knows_as view is = subst (ViewOk shape m) is knows.at

  -- the row is one, and bears the key
  abbrev Bears : ℕ × ℕ → Type 0
  Bears at = IsRow shape at.0 × (m (Key at.0) ≡ key_word at.1)

  has_row : (key row : ℕ) → HasRow shape client key row → Bears (row, key)
  has_row key row (InCall table position view row_is) =
      let fits = fits_as _ view in
      subst (λ r. Bears (r, key)) row_is (row_within shape table position fits.0 fits.1, knows_as _ view)
  has_row key row (InClaims attempt claim opened listed key_is row_is) =
      let fits = subst (OpenFits shape) opened own.fits.1 in
      let claims = subst (ClaimsOk shape m) opened knows.claims in
      subst Bears (λ i. (row_is i, key_is i))
      (claim_row shape claim (All-listed _ attempt.state.claims claim fits.placed listed), claims claim listed)
  has_row key row (InScan table low high at found runs listed key_is row_is) =
      let fits = subst (NowFits shape client.txn) runs own.fits.2 in
      let scanned = subst (λ (call : Option (Now CallPoint Answer)). ScannedOk shape m call client.scanned) runs
      knows.scanned found listed in
      let before = scanned.0 in
      let within = position_within shape table at fits.2 in
      subst Bears (λ i. (row_is i, key_is i))
      (row_within shape table found.position fits.1 (omega arith), scanned.1)

  module _ (after : Store) (path : StepsOn shape store after) where
    abbrev now : Field → ℕ
    now = memory shape after.words

    pub has_for_good : (key row : ℕ) → HasRow shape client key row → now (Key row) ≡ key_word key
    has_for_good key row has =
        let bears = has_row key row has in
        key_stays shape m now (stands_on shape store after base path) row key bears.0 bears.1

    pub passed_for_good : (table key passed : ℕ) → key_view client.call ≡ LooksFor table key passed
        → IsPast shape now table key passed
    passed_for_good table key passed view =
        let fits = fits_as _ view in
        let less = fits.1 in
        past_stays shape m now (stands_on shape store after base path) table key passed fits.0 (omega arith)
        (knows_as _ view)

  -- 3. The word that a search is to find

  -- the word of the position that the view looks at
  abbrev spot_of : KeyView → ℕ
  spot_of (LooksFor table key passed) = m (nth_key (path_of shape table key) passed)
  spot_of _ = 0

  txn_finds : (opened : Option Open) (at : TxnPoint) (table key passed : ℕ) → OpenPointFits shape opened at
      → txn_view at ≡ LooksFor table key passed
      → found_at m (open_verb shape opened at) ≡ m (nth_key (path_of shape table key) passed)
  txn_finds None at table key passed fits view = absurd fits
  txn_finds (Some attempt) (Finding op p) table key passed fits view = ap spot_of view
  txn_finds (Some attempt) (Reading op position at) table key passed fits view = absurd (cc)
  txn_finds (Some attempt) (Claiming op (KeyLook p)) table key passed fits view = ap spot_of view
  txn_finds (Some attempt) (Claiming op (KeyTake p)) table key passed fits view = ap spot_of view
  txn_finds (Some attempt) (Committing at) table key passed fits view = absurd (cc)

  place_finds : (place : CallPoint) (table key passed : ℕ) → CallPointFits shape client.txn place
      → call_view place ≡ LooksFor table key passed
      → found_at m (call_verb shape client place) ≡ m (nth_key (path_of shape table key) passed)
  place_finds (Beginning txn number at) table key passed fits view = absurd (cc)
  place_finds (InTxn at) table key passed fits view = txn_finds client.txn at table key passed fits view
  place_finds (Scanning t low high (ScanKey position)) table key passed fits view = absurd (cc)
  place_finds (Scanning t low high (ScanRead position k at)) table key passed fits view = absurd (cc)
  place_finds (Seeking t k p) table key passed fits view = ap spot_of view
  place_finds (Moving t k position at) table key passed fits view = absurd (cc)
  place_finds (Snapping bucket at) table key passed fits view = absurd (cc)
  place_finds (Collecting bucket prefix seen at) table key passed fits view = absurd (cc)

  call_finds : (call : Option (Now CallPoint Answer)) (table key passed : ℕ) → NowFits shape client.txn call
      → key_view call ≡ LooksFor table key passed
      → found_at m (verb_at shape client call) ≡ m (nth_key (path_of shape table key) passed)
  call_finds None table key passed fits view = absurd (cc)
  call_finds (Some (Over answer)) table key passed fits view = absurd (cc)
  call_finds (Some (At place)) table key passed fits view = place_finds place table key passed fits view

  module _ (table key passed : ℕ) (view : key_view client.call ≡ LooksFor table key passed) where
    abbrev word : ℕ
    word = m (nth_key (path_of shape table key) passed)

    finds : found_word shape store client ≡ m (nth_key (path_of shape table key) passed)
    finds = call_finds client.call table key passed own.fits.2 view

    -- where it ends the search, no position bears the key
    module _ (ends : find_after (path_of shape table key) passed word ≡ Over found_key.Absent) where
      abbrev NotAt : ℕ → Type 0
      NotAt p = m (Key (row_on shape table key p)) ≢ key_word key

      ended : (p : ℕ) → p < capacity_of shape table → word ≢ key_word key
          → ((word == 0) || (passed + 1 == capacity_of shape table)) ≡ true → NotAt p
      ended p within other free same = elim (cases_order p passed) [
        | inl at ↦ other (ap (λ k. m (nth_key (path_of shape table key) k)) (sym at) ∙ same)
        | inr apart ↦ elim apart [
          | inl before ↦ (knows_as _ view p before).1 same
          | inr later ↦ elim (or_cases (word == 0) _ free) [
            | inl none ↦
                (ok.paths table key p (fits_as _ view).0 within same passed later).0 (eqb-true word 0 none)
            | inr last ↦ let e = eqb-true (passed + 1) (capacity_of shape table) last in omega arith
          ]
        ]
      ]

      none_at : (p : ℕ) → p < capacity_of shape table → NotAt p
      none_at p within =
          by_equal (λ (now : Now ℕ FindEnd). now ≡ Over found_key.Absent → NotAt p) word (key_word key) _ _
          (λ same e. absurd (cc))
          (λ other. by_test (λ (now : Now ℕ FindEnd). now ≡ Over found_key.Absent → NotAt p)
          ((word == 0) || (passed + 1 == capacity_of shape table)) _ _ (λ free e. ended p within other free)
          (λ some e. absurd (cc))) ends

      pub none_bears : (position : ℕ) → position < capacity_of shape table
          → m (Key (row_of shape.tables table position)) ≢ key_word key
      none_bears position less same =
          let p = row_reached shape table (fits_as _ view).0 key position less in
          none_at p.0 p.1 (ap (λ row. m (Key row)) p.2 ∙ same)

  -- 4. The word that a claim is to find

  module _ (op : Op) where
    abbrev Ends : ClaimKeyPoint → ℕ → Type 0
    Ends at found =
        claim_key_after (path_of shape (op_key op).table (op_key op).key) at found ≡ Over claimed_key.NoSpace

    -- where it ends the claim for want of space, all positions were passed
    all_past : (at : ClaimKeyPoint) → client.call ≡ Some (At (InTxn (Claiming op at)))
        → Ends at (found_word shape store client)
        → IsPast shape m (op_key op).table (op_key op).key (capacity_of shape (op_key op).table)
    all_past (KeyLook passed) runs ends =
        let key = op_key op in
        let view = ap key_view runs in
        subst (ClaimTells shape m key) (subst (Ends (KeyLook passed)) (finds key.table key.key passed view) ends)
        (look_tells shape m key passed (m (nth_key (path_of shape key.table key.key) passed)) (knows_as _ view)
        (λ some. refl))
    all_past (KeyTake passed) runs ends =
        let key = op_key op in
        let view = ap key_view runs in
        let word = m (nth_key (path_of shape key.table key.key) passed) in
        let ends_here = subst (Ends (KeyTake passed)) (finds key.table key.key passed view) ends in
        elim (cases_eq word 0) [
          | inl none ↦ absurd (not_free passed (subst (Ends (KeyTake passed)) none ends_here))
          | inr some ↦
              subst (ClaimTells shape m key) ends_here
              (take_tells shape m key passed word (knows_as _ view) (λ e. refl) (λ none. absurd (some none)))
        ]
      where
        not_free : (passed : ℕ) → Ends (KeyTake passed) 0 → ⊥
        not_free passed e = absurd (cc)

    pub full_for_good : (at : ClaimKeyPoint) → client.call ≡ Some (At (InTxn (Claiming op at)))
        → Ends at (found_word shape store client) → (after : Store) → StepsOn shape store after → (position : ℕ)
        → position < capacity_of shape (op_key op).table
        → let word = memory shape after.words (Key (row_of shape.tables (op_key op).table position)) in
        (word ≢ 0) × (word ≢ key_word (op_key op).key)
    full_for_good at runs ends after path position less =
        let key = op_key op in
        let is = table_is at runs in
        let p = row_reached shape key.table is key.key position less in
        let past = past_stays shape m (memory shape after.words) (stands_on shape store after base path) key.table
        key.key (capacity_of shape key.table) is (omega arith) (all_past at runs ends) in
        subst (λ row. let word = memory shape after.words (Key row) in (word ≢ 0) × (word ≢ key_word key.key)) p.2
        (past p.0 p.1)
      where
        table_is : (at : ClaimKeyPoint) → client.call ≡ Some (At (InTxn (Claiming op at)))
            → IsTableOf shape (op_key op).table
        table_is (KeyLook passed) runs = (fits_as _ (ap key_view runs)).0
        table_is (KeyTake passed) runs = (fits_as _ (ap key_view runs)).0

-- 5. Every store

pub once_law : OnceLaw
once_law shape limits rows loaded store reached table key one other is first second here there =
    let k = known shape limits rows loaded store reached in
    key_once shape store.words k.1.1.paths table is key one other first second here there

pub found_law : FoundLaw
found_law shape limits rows loaded store reached nth client here key row has =
    let k = known shape limits rows loaded store reached in (
      (has_row shape store k.0 k.1.0 k.1.1 nth client here key row has).0,
      λ after path. has_for_good shape store k.0 k.1.0 k.1.1 nth client here after path key row has,
    )

pub passed_law : PassedLaw
passed_law shape limits rows loaded store reached nth client here table key passed view after path =
    let k = known shape limits rows loaded store reached in
    passed_for_good shape store k.0 k.1.0 k.1.1 nth client here after path table key passed view

pub absent_law : AbsentLaw
absent_law shape limits rows loaded store reached nth client here table key passed view ends =
    let k = known shape limits rows loaded store reached in
    none_bears shape store k.0 k.1.0 k.1.1 nth client here table key passed view
    (subst (λ found. find_after (path_of shape table key) passed found ≡ Over found_key.Absent)
    (finds shape store k.0 k.1.0 k.1.1 nth client here table key passed view) ends)

pub full_law : FullLaw
full_law shape limits rows loaded store reached nth client here op at runs ends after path =
    let k = known shape limits rows loaded store reached in
    full_for_good shape store k.0 k.1.0 k.1.1 nth client here op at runs ends after path
