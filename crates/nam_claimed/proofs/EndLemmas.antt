-- What a search tells of its key's home, at the word that ends it.
use Rattle.std.proofs.Common.{None, Option, Some, ap, arith, inl, inr, refl, subst, sym, true, ℕ, ◌+◌, ◌<◌, ◌∙◌, ◌≡◌}
use Rattle.std.proofs.Common.{◌≢◌}
use Rattle.std.specs.Prelude.{◌==◌, ◌||◌}
use Rattle.std.proofs.lemmas.Bool.{cases_eq, eqb-false, eqb-true, or_cases, or_parts}
use Rattle.si_model.specs.Evaluation.{op_key}
use Rattle.si_model.specs.Rows.{key_at}
use Rattle.si_model.specs.declared.op.Op.{Op}
use Rattle.nam_verbs.specs.VerbAt.{VerbAt, found_at}
use Rattle.nam_verbs.specs.declared.now.Now.{Now}
use Rattle.nam_verbs.specs.declared.now.Now.TheVariants.{At, Over}
use Rattle.nam_verbs.proofs.TestLemmas.{by_equal, by_test}
use Rattle.nam_catalog.specs.declared.shape.Shape.{Shape}
use Rattle.nam_layout.specs.declared.field.Field.{Field}
use Rattle.nam_calls.specs.Index.{claim_key_after, claim_key_next, find_after, nth_position}
use Rattle.nam_calls.specs.Memory.{memory}
use Rattle.nam_calls.specs.Words.{capacity_of, key_word, path_of}
use Rattle.nam_calls.specs.declared.index.ClaimKeyEnd.{ClaimKeyEnd}
use Rattle.nam_calls.specs.declared.index.ClaimKeyPoint.{ClaimKeyPoint}
use Rattle.nam_calls.specs.declared.index.ClaimKeyPoint.TheVariants.{KeyLook, KeyTake}
use Rattle.nam_calls.specs.declared.index.FindEnd.{FindEnd}
use Rattle.nam_calls.specs.declared.index.Path.{Path}
use Rattle.nam_protocol.specs.Client.{call_verb, open_verb}
use Rattle.nam_protocol.specs.ClientFits.{CallPointFits, NowFits, OpenPointFits}
use Rattle.nam_protocol.specs.Operations.{op_path}
use Rattle.nam_protocol.specs.declared.client.Answer.{Answer}
use Rattle.nam_protocol.specs.declared.client.CallPoint.{CallPoint}
use Rattle.nam_protocol.specs.declared.client.CallPoint.TheVariants.{Beginning, Collecting, InTxn, Moving, Scanning}
use Rattle.nam_protocol.specs.declared.client.CallPoint.TheVariants.{Seeking, Snapping}
use Rattle.nam_protocol.specs.declared.client.ClientState.{ClientState}
use Rattle.nam_protocol.specs.declared.client.Open.{Open}
use Rattle.nam_protocol.specs.declared.scan.ScanPoint.TheVariants.{ScanKey, ScanRead}
use Rattle.nam_protocol.specs.declared.txn.TxnPoint.{TxnPoint}
use Rattle.nam_protocol.specs.declared.txn.TxnPoint.TheVariants.{Claiming, Committing, Finding, Reading}
use Rattle.nam_store.specs.Base.{BaseOk, ClientOk}
use Rattle.nam_store.specs.Store.{Store, client_at, found_word, verb_at}
use Rattle.nam_ghost.specs.Keys.{IsPast, KeyView, KeysOk, LooksFor, ViewOk, call_view, key_view, txn_view}
use Rattle.nam_ghost.specs.Versions.{Chain}
use Rattle.nam_claimed.specs.EndsLaw.{AbsentLaw, ScanLaw}
use Rattle.nam_claimed.specs.Home.{home_of, word_at}
use Rattle.nam_claimed.proofs.ViewLemmas.{ViewWithin, view_within}
use Rattle.nam_claimed.proofs.HomeLemmas.{home_at, home_is}
use Rattle.nam_claimed.proofs.PathLemmas.{free_none, past_more, past_none, word_on}
use Rattle.nam_calls.specs.declared.index.ClaimKeyEnd.TheVariants as claimed_key
use Rattle.nam_calls.specs.declared.index.FindEnd.TheVariants as found_key

-- 1. The word that a search is to find is that of its position

module _ (shape : Shape) (m : Field → ℕ) where
  abbrev Finds : KeyView → VerbAt Field → Type 0
  Finds (LooksFor table key passed) verb = found_at m verb ≡ word_on shape m table key passed
  Finds view verb = Unit {0}

  txn_finds : (opened : Option Open) (at : TxnPoint) → OpenPointFits shape opened at
      → Finds (txn_view at) (open_verb shape opened at)
  txn_finds None at fits = absurd fits
  txn_finds (Some attempt) (Finding op passed) fits = refl
  txn_finds (Some attempt) (Reading op position at) fits = tt
  txn_finds (Some attempt) (Claiming op (KeyLook passed)) fits = refl
  txn_finds (Some attempt) (Claiming op (KeyTake passed)) fits = refl
  txn_finds (Some attempt) (Committing at) fits = tt

  place_finds : (client : ClientState) (place : CallPoint) → CallPointFits shape client.txn place
      → Finds (call_view place) (call_verb shape client place)
  place_finds client (Beginning txn number at) fits = tt
  place_finds client (InTxn at) fits = txn_finds client.txn at fits
  place_finds client (Scanning table low high (ScanKey position)) fits = tt
  place_finds client (Scanning table low high (ScanRead position key at)) fits = tt
  place_finds client (Seeking table key passed) fits = refl
  place_finds client (Moving table key position at) fits = tt
  place_finds client (Snapping bucket at) fits = tt
  place_finds client (Collecting bucket prefix seen at) fits = tt

  call_finds : (client : ClientState) (call : Option (Now CallPoint Answer)) → NowFits shape client.txn call
      → Finds (key_view call) (verb_at shape client call)
  call_finds client (Some (At place)) fits = place_finds client place fits
  call_finds client (Some (Over answer)) fits = tt
  call_finds client None fits = tt

module _ (shape : Shape) (store : Store) (base : BaseOk shape store) (nth : ℕ) (client : ClientState)
    (here : client_at store nth ≡ Some client) where
  abbrev m : Field → ℕ
  m = memory shape store.words

  own : ClientOk shape nth client
  own = base.clients nth client here

  pub finds : (table key passed : ℕ) → key_view client.call ≡ LooksFor table key passed
      → (passed < capacity_of shape table) × (found_word shape store client ≡ word_on shape m table key passed)
  finds table key passed view = (
    subst (ViewWithin shape) view (view_within shape client.txn client.call own.fits.2),
    subst (λ v. Finds shape m v (verb_at shape client client.call)) view
        (call_finds shape m client client.call own.fits.2),
  )

  -- a scan's
  scan_finds : (table low high position : ℕ) → client.call ≡ Some (At (Scanning table low high (ScanKey position)))
      → (position < capacity_of shape table) × (found_word shape store client ≡ word_at shape m table position)
  scan_finds table low high position runs = (
    (subst (NowFits shape client.txn) runs own.fits.2).2,
    ap (λ (call : Option (Now CallPoint Answer)). found_at m (verb_at shape client call)) runs,
  )

-- 2. A search that ends without a position

module _ (shape : Shape) (store : Store) (chains : ℕ → Chain) (ok : KeysOk shape store chains) (table key : ℕ) where
  abbrev words : Field → ℕ
  words = memory shape store.words

  abbrev Tells : Now ℕ FindEnd → Type 0
  Tells now = now ≡ Over found_key.Absent → home_of shape words (key_at table key) ≡ None

  module _ (passed found : ℕ) (less : passed < capacity_of shape table)
      (is : found ≡ word_on shape words table key passed) (past : IsPast shape words table key passed) where
    none_there : found ≢ key_word key → ((found == 0) || (passed + 1 == capacity_of shape table)) ≡ true
        → home_of shape words (key_at table key) ≡ None
    none_there other last = elim (cases_eq found 0) [
      | inl free ↦ free_none shape store.words ok.paths table key passed less past (sym is ∙ free)
      | inr some ↦ elim (or_cases (found == 0) (passed + 1 == capacity_of shape table) last) [
        | inl free ↦ absurd (some (eqb-true found 0 free))
        | inr whole ↦
            past_none shape words table key
            (subst (IsPast shape words table key) (eqb-true (passed + 1) (capacity_of shape table) whole)
            (past_more shape words table key passed past (λ e. some (is ∙ e)) (λ e. other (is ∙ e))))
      ]
    ]

    absent_at : Tells (find_after (path_of shape table key) passed found)
    absent_at =
        by_equal Tells found (key_word key) (Over (found_key.At (nth_position (path_of shape table key) passed))) _
        (λ same e. absurd (cc))
        (λ other. by_test Tells ((found == 0) || (passed + 1 == capacity_of shape table)) (Over found_key.Absent)
        (At (passed + 1)) (λ last e. none_there other last) (λ more e. absurd (cc)))

pub absent_holds : AbsentLaw
absent_holds shape store chains base ok nth client here table key passed view ends =
    let found = finds shape store base nth client here table key passed view in
    absent_at shape store chains ok table key passed (found_word shape store client) found.0 found.1
    (subst (ViewOk shape (memory shape store.words)) view (ok.clients nth client here).at) ends

-- 3. A claim that ends for want of space has passed the whole path

module _ (shape : Shape) (m : Field → ℕ) (op : Op) where
  abbrev table : ℕ
  table = (op_key op).table

  abbrev key : ℕ
  key = (op_key op).key

  abbrev path : Path
  path = op_path shape op

  abbrev Full : Now ClaimKeyPoint ClaimKeyEnd → Type 0
  Full now = now ≡ Over claimed_key.NoSpace → IsPast shape m table key (capacity_of shape table)

  module _ (passed found : ℕ) (is : found ≡ word_on shape m table key passed)
      (past : IsPast shape m table key passed) where
    next_full : found ≢ 0 → found ≢ key_word key → Full (claim_key_next path passed)
    next_full some other =
        by_equal Full (passed + 1) (capacity_of shape table) (Over claimed_key.NoSpace) (At (KeyLook (passed + 1)))
        (λ whole e. subst (IsPast shape m table key) whole
        (past_more shape m table key passed past (λ none. some (is ∙ none)) (λ same. other (is ∙ same))))
        (λ more e. absurd (cc))

    look_full : Full (claim_key_after path (KeyLook passed) found)
    look_full =
        by_equal Full found (key_word key) (Over (claimed_key.At (nth_position path passed))) _
        (λ same e. absurd (cc))
        (λ other. by_equal Full found 0 (At (KeyTake passed)) (claim_key_next path passed) (λ free e. absurd (cc))
        (λ some. next_full some other))

    take_full : Full (claim_key_after path (KeyTake passed) found)
    take_full =
        by_test Full ((found == 0) || (found == key_word key)) (Over (claimed_key.At (nth_position path passed)))
        (claim_key_next path passed) (λ has e. absurd (cc))
        (λ neither. let parts = or_parts (found == 0) (found == key_word key) neither in
        next_full (eqb-false found 0 parts.0) (eqb-false found (key_word key) parts.1))

pub claim_full : (shape : Shape) (store : Store) (chains : ℕ → Chain) (base : BaseOk shape store)
    (ok : KeysOk shape store chains) (nth : ℕ) (client : ClientState) (here : client_at store nth ≡ Some client)
    (op : Op) (at : ClaimKeyPoint) → client.call ≡ Some (At (InTxn (Claiming op at)))
    → claim_key_after (op_path shape op) at (found_word shape store client) ≡ Over claimed_key.NoSpace
    → IsPast shape (memory shape store.words) (op_key op).table (op_key op).key (capacity_of shape (op_key op).table)
claim_full shape store chains base ok nth client here op (KeyLook passed) runs ends =
    let view = ap key_view runs in
    look_full shape (memory shape store.words) op passed (found_word shape store client)
    (finds shape store base nth client here (op_key op).table (op_key op).key passed view).1
    (subst (ViewOk shape (memory shape store.words)) view (ok.clients nth client here).at) ends
claim_full shape store chains base ok nth client here op (KeyTake passed) runs ends =
    let view = ap key_view runs in
    take_full shape (memory shape store.words) op passed (found_word shape store client)
    (finds shape store base nth client here (op_key op).table (op_key op).key passed view).1
    (subst (ViewOk shape (memory shape store.words)) view (ok.clients nth client here).at) ends

-- 4. The word of a scan's position

pub scan_holds : ScanLaw
scan_holds shape store chains base ok nth client here table low high position runs =
    let found = scan_finds shape store base nth client here table low high position runs in
    record {
      free = λ none key home.
          let bears = (home_is shape (memory shape store.words) (key_at table key) position home).1 in
          let word = found.1 in absurd (omega arith);
      taken = λ key same.
          home_at shape store.words ok.paths (key_at table key) position found.0 (sym found.1 ∙ same);
    }
