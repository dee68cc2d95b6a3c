-- What a client knows of keys stays, as long as key words that stand do.
use Rattle.std.proofs.Common.{List, None, Option, Some, arith, subst, sym, ℕ}
use Rattle.std.specs.List.{AllByRecursion}
use Rattle.nam_calls.proofs.FieldLemmas.{row_within}
use Rattle.nam_catalog.specs.Fits.{FitsLimits}
use Rattle.nam_catalog.specs.declared.shape.Shape.{Shape}
use Rattle.nam_ghost.proofs.KeyLemmas.{bears_stays, key_stays, position_within, view_fits, view_stays}
use Rattle.nam_ghost.specs.Keys.{AreAtKeys, ClaimsOk, KeyClientOk, KeysNext, ScannedOk, key_view}
use Rattle.nam_layout.specs.Address.{IsRow}
use Rattle.nam_layout.specs.declared.field.Field.{Field}
use Rattle.nam_layout.specs.declared.field.Place.{Place}
use Rattle.nam_protocol.specs.ClientFits.{ClientFits, NowFits, OpenFits}
use Rattle.nam_protocol.specs.TxnFits.{IsPlaced}
use Rattle.nam_protocol.specs.declared.client.Answer.{Answer}
use Rattle.nam_protocol.specs.declared.client.CallPoint.{CallPoint}
use Rattle.nam_protocol.specs.declared.client.CallPoint.TheVariants.{Scanning}
use Rattle.nam_protocol.specs.declared.client.ClientState.{ClientState}
use Rattle.nam_protocol.specs.declared.client.Open.{Open}
use Rattle.nam_protocol.specs.declared.client.Scanned.{Scanned}
use Rattle.nam_protocol.specs.declared.txn.Record.{Record}
use Rattle.nam_verbs.specs.declared.now.Now.{Now}
use Rattle.nam_verbs.specs.declared.now.Now.TheVariants.{At, Over}
use Rattle.si_model.proofs.ListLemmas.{All-listed}

pub claim_row : (shape : Shape) (claim : Record) → IsPlaced shape claim → IsRow shape claim.place.row
claim_row shape claim placed =
    subst (λ (place : Place). IsRow shape place.row) (sym placed.2)
    (row_within shape claim.key.table placed.0 placed.1.0 placed.1.1)

module _ (shape : Shape) (m now : Field → ℕ) (next : KeysNext shape m now) where
  pub claims_stay : (claims : List Record) → AllByRecursion (IsPlaced shape) claims → AreAtKeys shape m claims
      → AreAtKeys shape now claims
  claims_stay claims placed ok claim listed =
      key_stays shape m now next claim.place.row claim.key.key
      (claim_row shape claim (All-listed (IsPlaced shape) claims claim placed listed)) (ok claim listed)

  open_stays : (opened : Option Open) → OpenFits shape opened → ClaimsOk shape m opened → ClaimsOk shape now opened
  open_stays None fits ok = tt
  open_stays (Some attempt) fits ok = claims_stay attempt.state.claims fits.placed ok

  scanned_stay : (opened : Option Open) (call : Option (Now CallPoint Answer)) (rows : List Scanned)
      → NowFits shape opened call → ScannedOk shape m call rows → ScannedOk shape now call rows
  scanned_stay opened (Some (At (Scanning table low high at))) rows fits ok = λ row listed.
      let o = ok row listed in
      let before = o.0 in
      let within = position_within shape table at fits.2 in
      (before, bears_stays shape m now next table row.key row.position fits.1 (omega arith) o.1)
  scanned_stay opened (Some (At _)) rows fits ok = tt
  scanned_stay opened (Some (Over answer)) rows fits ok = tt
  scanned_stay opened None rows fits ok = tt

  pub client_stays : FitsLimits shape → (client : ClientState) → ClientFits shape client
      → KeyClientOk shape m client → KeyClientOk shape now client
  client_stays limits client fits ok = record {
    at = view_stays shape m now next (key_view client.call)
        (view_fits shape limits client.txn client.call fits.2) ok.at;
    claims = open_stays client.txn fits.1 ok.claims;
    scanned = scanned_stay client.txn client.call client.scanned fits.2 ok.scanned;
  }
