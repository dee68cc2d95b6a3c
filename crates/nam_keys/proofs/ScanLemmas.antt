-- What a scan knows of keys after each word that it takes.
use Rattle.std.proofs.Common.{List, None, Option, Some, [], arith, inl, inr, subst, ℕ, ◌+◌, ◌-◌, ◌<◌, ◌∷◌, ◌≡◌, ◌≢◌}
use Rattle.std.proofs.lemmas.Bool.{and_parts, leb-true}
use Rattle.std.specs.Prelude.{nat_le, ◌==◌}
use Rattle.nam_calls.specs.Reading.{read_after, sight_of}
use Rattle.nam_calls.specs.Words.{capacity_of}
use Rattle.nam_calls.specs.declared.reading.ReadPoint.{ReadPoint}
use Rattle.nam_catalog.specs.declared.shape.Shape.{Shape}
use Rattle.nam_ghost.specs.Keys.{AreAtKeys, Bears, ClaimsOk, KeyClientOk}
use Rattle.nam_keys.specs.Tells.{AreBefore}
use Rattle.nam_layout.specs.Rows.{row_of}
use Rattle.nam_layout.specs.declared.field.Field.{Field}
use Rattle.nam_layout.specs.declared.field.Field.TheVariants.{Key}
use Rattle.nam_protocol.proofs.GoesParts.{scan_read_goes}
use Rattle.nam_protocol.specs.Operations.{own_value}
use Rattle.nam_protocol.specs.Scan.{in_range, scan_after, scan_skip}
use Rattle.nam_protocol.specs.ScanCall.{on_scan, on_skip, with_gathered}
use Rattle.nam_protocol.specs.declared.client.ClientState.{ClientState}
use Rattle.nam_protocol.specs.declared.client.Open.{Open}
use Rattle.nam_protocol.specs.declared.client.Scanned.{Scanned}
use Rattle.nam_protocol.specs.declared.scan.ScanPoint.TheVariants.{ScanKey, ScanRead}
use Rattle.nam_verbs.proofs.TestLemmas.{by_test}
use Rattle.si_model.proofs.ListLemmas.{listed_append_cases}
use Rattle.si_model.specs.Rows.{key_at, writes_key}

module _ (shape : Shape) (m : Field → ℕ) (attempt : Open) (claims : AreAtKeys shape m attempt.state.claims)
    (table low high position : ℕ) where
  -- 1. A position is left

  -- the rows that were found before it, and maybe that at it
  skip_tells : (client : ClientState) → ClaimsOk shape m client.txn
      → AreBefore shape m table (position + 1) client.scanned
      → KeyClientOk shape m (on_skip client attempt table low high (scan_skip shape table position))
  skip_tells client opened before =
      by_test (λ now. KeyClientOk shape m (on_skip client attempt table low high now))
      (position + 1 == capacity_of shape table) _ _ (λ e. record { at = tt; claims = claims; scanned = tt })
      (λ e. record { at = tt; claims = opened; scanned = before })

  still_before : (rows : List Scanned) → AreBefore shape m table position rows
      → AreBefore shape m table (position + 1) rows
  still_before rows before row listed =
      let o = before row listed in let less = o.0 in ((omega arith), o.1)

  gathered_tells : (client : ClientState) (key : ℕ) (value : Option (List ℕ)) → ClaimsOk shape m client.txn
      → AreBefore shape m table position client.scanned → Bears shape m table key position
      → KeyClientOk shape m
      (on_skip (with_gathered client position key value) attempt table low high (scan_skip shape table position))
  gathered_tells client key None opened before bears = skip_tells client opened (still_before client.scanned before)
  gathered_tells client key (Some value) opened before bears =
      let row : Scanned = record { position = position; key = key; value = value } in
      skip_tells (with_gathered client position key (Some value)) opened
      (λ other listed. elim (listed_append_cases client.scanned (row ∷ []) other listed) [
        | inl earlier ↦ still_before client.scanned before other earlier
        | inr last ↦ elim last [
          | inl same ↦
              subst (λ (r : Scanned). (r.position < position + 1) × Bears shape m table r.key r.position) same
              ((omega arith), bears)
          | inr none ↦ absurd none
        ]
      ])

  -- 2. A word is taken

  module _ (client : ClientState) (opened : ClaimsOk shape m client.txn)
      (before : AreBefore shape m table position client.scanned) where
    pub key_tells : (seen : List ℕ) (found : ℕ)
        → (found ≢ 0 → m (Key (row_of shape.tables table position)) ≡ found)
        → KeyClientOk shape m (on_scan shape client attempt table low high position
        (scan_after shape table low high seen (ScanKey position) found))
    key_tells seen found says =
        by_test (λ now. KeyClientOk shape m (on_scan shape client attempt table low high position now))
        (in_range low high found) _ _
        (λ e.
        let least = leb-true (low + 1) found (and_parts (nat_le (low + 1) found) (nat_le found (high + 1)) e).0 in
        let here = says (λ none. omega arith) in
        let bears : Bears shape m table (found - 1) position = omega arith in
        by_test (KeyClientOk shape m) (writes_key attempt.state.writes (key_at table (found - 1))) _ _
        (λ own. gathered_tells client (found - 1) (own_value attempt.state.writes (key_at table (found - 1))) opened
        before bears)
        (λ other. record { at = bears; claims = opened; scanned = before }))
        (λ e. by_test (λ now. KeyClientOk shape m (on_scan shape client attempt table low high position now))
        (position + 1 == capacity_of shape table) _ _ (λ f. record { at = tt; claims = claims; scanned = tt })
        (λ f. record { at = tt; claims = opened; scanned = still_before client.scanned before }))

    pub read_tells : (key : ℕ) (at : ReadPoint) (found : ℕ) → Bears shape m table key position
        → KeyClientOk shape m (on_scan shape client attempt table low high position
        (scan_after shape table low high attempt.state.seen (ScanRead position key at) found))
    read_tells key at found bears =
        scan_read_goes table
        (λ now. KeyClientOk shape m (on_scan shape client attempt table low high position now)) position key
        (read_after (sight_of shape table position) attempt.state.seen at found)
        (λ next e. record { at = bears; claims = opened; scanned = before })
        (λ value e. gathered_tells client key value opened before bears)
        (λ worker entry horizon e. record { at = tt; claims = tt; scanned = tt })
        (λ e. record { at = tt; claims = tt; scanned = tt })
