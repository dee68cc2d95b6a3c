-- Where a running scan goes on after each word that it takes, with what it has gathered. For any property of clients:
-- if it holds at each point that may follow, and of each client that lists its rows or is refused, it holds after the
-- word.
use Rattle.std.proofs.Common.{List, None, Option, Some, [], ap, arith, false, subst, sym, true, ℕ, ◌++◌, ◌+◌, ◌-◌, ◌∙◌}
use Rattle.std.proofs.Common.{◌∷◌, ◌≡◌}
use Rattle.std.proofs.lemmas.Bool.{and_from, and_parts, le-leb, leb-true, true≢false}
use Rattle.std.specs.Prelude.{Bool, nat_le}
use Rattle.nam_calls.specs.Reading.{read_after, read_begin, sight_of}
use Rattle.nam_calls.specs.Words.{capacity_of, key_word}
use Rattle.nam_calls.specs.declared.reading.ReadPoint.{ReadPoint}
use Rattle.nam_calls.specs.declared.reading.ReadingEnd.TheVariants.{Got}
use Rattle.nam_catalog.specs.declared.shape.Shape.{Shape}
use Rattle.nam_ghost.specs.Keys.{Bears}
use Rattle.nam_ghost.specs.Versions.{Chain}
use Rattle.nam_ghost.specs.Wanted.{IsNewest}
use Rattle.nam_layout.specs.Rows.{row_of}
use Rattle.nam_layout.specs.declared.field.Field.{Field}
use Rattle.nam_layout.specs.declared.field.Field.TheVariants.{Key}
use Rattle.nam_protocol.proofs.GoesParts.{scan_read_goes}
use Rattle.nam_protocol.specs.Carries.{IsBetween}
use Rattle.nam_protocol.specs.Operations.{own_value}
use Rattle.nam_protocol.specs.Scan.{in_range, scan_after, scan_skip}
use Rattle.nam_protocol.specs.ScanCall.{on_scan, on_skip, scan_ended, scan_listed, with_gathered}
use Rattle.nam_protocol.specs.Telling.{go}
use Rattle.nam_protocol.specs.declared.client.CallPoint.TheVariants.{Scanning}
use Rattle.nam_protocol.specs.declared.client.ClientState.{ClientState}
use Rattle.nam_protocol.specs.declared.client.Open.{Open}
use Rattle.nam_protocol.specs.declared.client.Scanned.{Scanned}
use Rattle.nam_protocol.specs.declared.scan.ScanPoint.{ScanPoint}
use Rattle.nam_protocol.specs.declared.scan.ScanPoint.TheVariants.{ScanKey, ScanRead}
use Rattle.nam_protocol.specs.declared.txn.TxnAnswer.{TxnAnswer}
use Rattle.nam_protocol.specs.declared.txn.TxnState.{TxnState}
use Rattle.nam_scans.proofs.RangeLemmas.{left_empty, left_found}
use Rattle.nam_scans.specs.Gathered.{Finds, FindsBy, HasGathered, ScanOk}
use Rattle.nam_verbs.proofs.TestLemmas.{by_equal, by_test}
use Rattle.nam_verbs.specs.declared.now.Now.TheVariants.{Over}
use Rattle.si_model.specs.Rows.{key_at, writes_key}
use Rattle.si_model.specs.declared.log.Outcome.{Outcome}
use Rattle.si_model.specs.declared.row.Key as row_key

-- 1. A range

between_is : (low high key : ℕ) → in_range low high (key_word key) ≡ true → IsBetween low high key
between_is low high key is =
    let parts = and_parts (nat_le (low + 1) (key + 1)) (nat_le (key + 1) (high + 1)) is in
    let least = leb-true (low + 1) (key + 1) parts.0 in
    let most = leb-true (key + 1) (high + 1) parts.1 in
    ((omega arith), (omega arith))

is_between : (low high key : ℕ) → IsBetween low high key → in_range low high (key_word key) ≡ true
is_between low high key (least, most) =
    and_from (nat_le (low + 1) (key + 1)) (nat_le (key + 1) (high + 1)) (le-leb (low + 1) (key + 1) (omega arith))
    (le-leb (key + 1) (high + 1) (omega arith))

finds_own : (state : TxnState) (chain : Chain) (key : row_key.Key) (test : Bool) → test ≡ true
    → FindsBy test state chain key (own_value state.writes key)
finds_own state chain key true is = λ i. own_value state.writes key
finds_own state chain key false is = absurd (true≢false (sym is))

finds_newest : (state : TxnState) (chain : Chain) (key : row_key.Key) (value : Option (List ℕ))
    → IsNewest state.seen chain value → (test : Bool) → test ≡ false → FindsBy test state chain key value
finds_newest state chain key value newest true is = absurd (true≢false is)
finds_newest state chain key value newest false is = newest

module _ (shape : Shape) (m : Field → ℕ) (chains : ℕ → Chain) (client : ClientState) (attempt : Open)
    (table low high position : ℕ) where
  abbrev Gathers : ℕ → List Scanned → Type 0
  Gathers = HasGathered shape m chains attempt.state table low high

  -- the client with these rows, and at this point of its scan
  abbrev pub with_rows : List Scanned → ClientState
  with_rows rows = record client { txn = Some attempt; scanned = rows }

  abbrev pub scans_at : List Scanned → ScanPoint → ClientState
  scans_at rows at = go (with_rows rows) (Scanning table low high at)

  abbrev chain : Chain
  chain = chains (row_of shape.tables table position)

  module _ (P : ClientState → Type 0)
      (next : (rows : List Scanned) → Gathers (position + 1) rows → P (scans_at rows (ScanKey (position + 1))))
      (lists : (rows : List Scanned) → Gathers (position + 1) rows → position + 1 ≡ capacity_of shape table
      → P (scan_listed (with_rows rows) attempt table)) where
    -- 2. A position is left

    skip_goes : (rows : List Scanned) → Gathers (position + 1) rows
        → P (on_skip (with_rows rows) attempt table low high (scan_skip shape table position))
    skip_goes rows gathered =
        by_equal (λ now. P (on_skip (with_rows rows) attempt table low high now)) (position + 1)
        (capacity_of shape table) _ _ (lists rows gathered) (λ more. next rows gathered)

    -- the same where its word names no key of the range
    out_goes : (rows : List Scanned) → Gathers (position + 1) rows
        → P (on_scan shape (with_rows rows) attempt table low high position (scan_skip shape table position))
    out_goes rows gathered =
        by_equal (λ now. P (on_scan shape (with_rows rows) attempt table low high position now)) (position + 1)
        (capacity_of shape table) _ _ (lists rows gathered) (λ more. next rows gathered)

    found_goes : (rows : List Scanned) → Gathers position rows → (key : ℕ) (value : Option (List ℕ))
        → Bears shape m table key position → IsBetween low high key
        → Finds attempt.state chain (key_at table key) value
        → P (on_skip (with_gathered (with_rows rows) position key value) attempt table low high
        (scan_skip shape table position))
    found_goes rows before key None bears between finds =
        skip_goes rows
        (left_found shape m chains attempt.state table low high position rows before key None bears between finds)
    found_goes rows before key (Some value) bears between finds =
        skip_goes (rows ++ record { position = position; key = key; value = value } ∷ [])
        (left_found shape m chains attempt.state table low high position rows before key (Some value) bears between
        finds)

    -- 3. A word is taken

    module _ (rows : List Scanned) where
      pub key_goes : (found : ℕ) → m (Key (row_of shape.tables table position)) ≡ found → Gathers position rows
          → ((key : ℕ) → ScanOk shape m chains attempt.state table low high (ScanRead position key read_begin) rows
          → P (scans_at rows (ScanRead position key read_begin)))
          → P (on_scan shape (with_rows rows) attempt table low high position
          (scan_after shape table low high attempt.state.seen (ScanKey position) found))
      key_goes found is before reads =
          by_test (λ now. P (on_scan shape (with_rows rows) attempt table low high position now))
          (in_range low high found) _ _
          (λ e.
          let least = leb-true (low + 1) found (and_parts (nat_le (low + 1) found) (nat_le found (high + 1)) e).0 in
          let key = found - 1 in
          let named : key_word key ≡ found = omega arith in
          let bears : Bears shape m table key position = is ∙ sym named in
          let between = between_is low high key (subst (λ w. in_range low high w ≡ true) (sym named) e) in
          by_test P (writes_key attempt.state.writes (key_at table key)) _ _
          (λ own. found_goes rows before key (own_value attempt.state.writes (key_at table key)) bears between
          (finds_own attempt.state chain (key_at table key) (writes_key attempt.state.writes (key_at table key)) own))
          (λ other. reads key record { gathered = before; key = between; others = other }))
          (λ e. out_goes rows
          (left_empty shape m chains attempt.state table low high position rows before (λ row at of_range.
          true≢false (sym (is_between low high row.key of_range.between)
          ∙ subst (λ w. in_range low high w ≡ false)
          (sym is ∙ sym (ap (λ p. m (Key (row_of shape.tables table p))) at) ∙ of_range.bears) e))))

      pub read_goes : (key : ℕ) (at : ReadPoint) (found : ℕ) → Bears shape m table key position
          → ScanOk shape m chains attempt.state table low high (ScanRead position key at) rows
          → ((value : Option (List ℕ))
          → read_after (sight_of shape table position) attempt.state.seen at found ≡ Over (Got value)
          → IsNewest attempt.state.seen chain value)
          → ((later : ReadPoint) → P (scans_at rows (ScanRead position key later)))
          → ((outcome : Outcome) (end : TxnAnswer) → P (scan_ended (with_rows rows) attempt outcome end))
          → P (on_scan shape (with_rows rows) attempt table low high position
          (scan_after shape table low high attempt.state.seen (ScanRead position key at) found))
      read_goes key at found bears ok newest stays over =
          scan_read_goes table (λ now. P (on_scan shape (with_rows rows) attempt table low high position now)) position
          key (read_after (sight_of shape table position) attempt.state.seen at found) (λ later e. stays later)
          (λ value e. found_goes rows ok.gathered key value bears ok.key
          (finds_newest attempt.state chain (key_at table key) value (newest value e)
          (writes_key attempt.state.writes (key_at table key)) ok.others))
          (λ worker entry horizon e. over _ _) (λ e. over _ _)
