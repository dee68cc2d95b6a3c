-- What clients know of keys is at home, and so is each version but the loader's absent ones.
use Rattle.std.proofs.Common.{List, None, Option, Some, [], ap, arith, inl, inr, refl, subst, suc, sym, true}
use Rattle.std.proofs.Common.{zero, ℕ, ◌++◌, ◌-◌, ◌∙◌, ◌∷◌, ◌≡◌}
use Rattle.std.specs.Prelude.{slice_get}
use Rattle.std.proofs.lemmas.Bool.{cases_eq, false≢true}
use Rattle.std.proofs.lemmas.Option.{same_Some}
use Rattle.si_model.specs.Lists.{Listed}
use Rattle.si_model.specs.Rows.{key_at, same_key}
use Rattle.si_model.specs.declared.row.Key.{Key}
use Rattle.si_model.proofs.EvaluationLemmas.{same_key_says}
use Rattle.si_model.proofs.ListLemmas.{All-listed}
use Rattle.nam_verbs.specs.declared.now.Now.{Now}
use Rattle.nam_verbs.proofs.TestLemmas.{by_test}
use Rattle.nam_catalog.specs.declared.shape.Shape.{Shape}
use Rattle.nam_layout.specs.Rows.{row_of}
use Rattle.nam_layout.specs.declared.field.Field.{Field}
use Rattle.nam_layout.specs.declared.field.Field.TheVariants as field
use Rattle.nam_layout.specs.declared.field.Place.{Place}
use Rattle.nam_calls.specs.Memory.{memory}
use Rattle.nam_calls.proofs.FieldLemmas.{row_within}
use Rattle.nam_protocol.specs.ClientFits.{NowFits, OpenFits}
use Rattle.nam_protocol.specs.TxnFits.{IsPlaced, is_claimed}
use Rattle.nam_protocol.specs.declared.client.Answer.{Answer}
use Rattle.nam_protocol.specs.declared.client.CallPoint.{CallPoint}
use Rattle.nam_protocol.specs.declared.client.ClientState.{ClientState}
use Rattle.nam_protocol.specs.declared.txn.Record.{Record}
use Rattle.nam_store.specs.Base.{BaseOk, ClientOk}
use Rattle.nam_store.specs.Store.{Store, client_at}
use Rattle.nam_ghost.specs.Keys.{ClaimsOk, KeyClientOk, KeysOk, ScannedOk, ViewOk}
use Rattle.nam_ghost.specs.Keys.{IsUnused}
use Rattle.nam_ghost.specs.Versions.{Chain, IsNth, Version}
use Rattle.nam_claimed.specs.Home.{home_of, word_at}
use Rattle.nam_claimed.specs.HomeLaw.{ClaimsHome, ClientsLaw, FoundHome, KeysHome, ScannedHome, UsedLaw}
use Rattle.nam_claimed.proofs.HomeLemmas.{home_at, table_within}
use Rattle.nam_claimed.proofs.ViewLemmas.{ViewWithin, position_within, view_within}

-- 1. A client of a store

-- a key that is said to be claimed is a claim's
claim_of : (claims : List Record) (key : Key) → is_claimed claims key ≡ true
    → (claim : Record) × Listed claim claims × (claim.key ≡ key)
claim_of [] key e = absurd (false≢true e)
claim_of (c ∷ cs) key e =
    by_test (λ test. test ≡ true → (claim : Record) × Listed claim (c ∷ cs) × (claim.key ≡ key)) (same_key c.key key)
    true (is_claimed cs key) (λ same is. (c, inl refl, same_key_says c.key key same))
    (λ other is. let later = claim_of cs key is in (later.0, inr later.1, later.2)) e

module _ (shape : Shape) (store : Store) (chains : ℕ → Chain) (base : BaseOk shape store)
    (ok : KeysOk shape store chains) (nth : ℕ) (client : ClientState) (here : client_at store nth ≡ Some client) where
  abbrev m : Field → ℕ
  m = memory shape store.words

  own : ClientOk shape nth client
  own = base.clients nth client here

  knows : KeyClientOk shape m client
  knows = ok.clients nth client here

  found_home : FoundHome shape m client
  found_home table key position view =
      home_at shape store.words ok.paths (key_at table key) position
      (subst (ViewWithin shape) view (view_within shape client.txn client.call own.fits.2))
      (subst (ViewOk shape m) view knows.at)

  claims_home : ClaimsHome shape m client
  claims_home attempt opened claim listed =
      let fits = subst (OpenFits shape) opened own.fits.1 in
      let placed = All-listed (IsPlaced shape) attempt.state.claims claim fits.placed listed in
      let stands = subst (ClaimsOk shape m) opened knows.claims claim listed in (
        placed.0,
        home_at shape store.words ok.paths claim.key placed.0 placed.1.1
            (ap (λ (place : Place). m (field.Key place.row)) (sym placed.2) ∙ stands),
        placed.2,
      )

  keys_home : KeysHome shape m client
  keys_home attempt opened key claimed none =
      let claim = claim_of attempt.state.claims key claimed in
      let home = claims_home attempt opened claim.0 claim.1 in
      let stands = ap (home_of shape m) (sym claim.2) ∙ home.1 in
      absurd (cc)

  scanned_home : ScannedHome shape m client
  scanned_home table low high at runs row listed =
      let fits = subst (NowFits shape client.txn) runs own.fits.2 in
      let scanned = subst (λ (call : Option (Now CallPoint Answer)). ScannedOk shape m call client.scanned) runs
      knows.scanned row listed in
      let before = scanned.0 in
      let within = position_within shape table at fits.2 in
      home_at shape store.words ok.paths (key_at table row.key) row.position (omega arith) scanned.1

pub clients_hold : ClientsLaw
clients_hold shape store chains base ok nth client here = record {
  found = found_home shape store chains base ok nth client here;
  claims = claims_home shape store chains base ok nth client here;
  keys = keys_home shape store chains base ok nth client here;
  scanned = scanned_home shape store chains base ok nth client here;
}

-- 2. Versions

-- an unused position's version is the first, and absent
only_absent : (chain : Chain) → IsUnused chain → (number : ℕ) (version : Version) → IsNth chain number version
    → (number ≡ 0) × (version.value ≡ None)
only_absent chain unused number version is =
    by number (subst (λ (old : List Version). slice_get (old ++ chain.now ∷ []) number ≡ Some version) unused.old is)
  where
    by : (number : ℕ) → slice_get (chain.now ∷ []) number ≡ Some version → (number ≡ 0) × (version.value ≡ None)
    by zero e = (refl, ap (λ (v : Version). v.value) (sym (same_Some chain.now version e)) ∙ unused.absent)
    by (suc number) e = absurd (cc)

pub used_holds : UsedLaw
used_holds shape store chains ok table position less number version is used =
    let row = row_of shape.tables table position in
    let word = word_at shape (memory shape store.words) table position in
    elim (cases_eq word 0) [
      | inl free ↦
          let unused = ok.unused row (row_within shape table position (table_within shape table position less) less)
          free in
          let absent = only_absent (chains row) unused number version is in
          elim used [ inl later ↦ absurd (later absent.0) | inr some ↦ absurd (some absent.1) ]
      | inr some ↦
          (word - 1, home_at shape store.words ok.paths (key_at table (word - 1)) position less (omega arith))
    ]
