-- How many keys, records, headers and counts a transaction has that fits.
use Rattle.std.proofs.Common.{◌≡◌, ◌≤◌, List, length, ap, arith, true}
use Rattle.std.specs.List.{AllByRecursion}
use Rattle.std.specs.Set.{is_member}
use Rattle.std.proofs.lemmas.List.{length-map}
use Rattle.si_model.specs.declared.row.Key.{Key}
use Rattle.si_model.specs.Rows.{same_key}
use Rattle.si_model.proofs.ListLemmas.{All-map}
use Rattle.nam_catalog.specs.declared.shape.Shape.{Shape}
use Rattle.nam_protocol.specs.declared.txn.CommitPoint.{CommitPoint}
use Rattle.nam_protocol.specs.declared.txn.CommitPoint.TheVariants.{Locking, Checking, Returning, Saving, Copying}
use Rattle.nam_protocol.specs.declared.txn.CommitPoint.TheVariants.{Installing, Publishing, Freeing}
use Rattle.nam_protocol.specs.declared.txn.CommitPoint.TheVariants.{Listing, Counting, Deciding, Clearing, Ending}
use Rattle.nam_protocol.specs.declared.txn.Record.{Record}
use Rattle.nam_protocol.specs.declared.txn.TxnState.{TxnState}
use Rattle.nam_protocol.specs.Commit.{commit_keys, records_of}
use Rattle.nam_protocol.specs.TxnFits.{is_claimed, is_used, StateFits, CommitPointFits, CommitFits}
use Rattle.nam_protocol.specs.FewLaw.{FewKeys, FewKeysLaw, FewPlaces, FewPlacesLaw, FewTidiesLaw, KeyWordLaw}
use Rattle.nam_protocol.proofs.KeyLemmas.{AreOnce, member_holds, claimed_keys, claimed_is_member, used_once}
use Rattle.nam_protocol.proofs.KeyLemmas.{used_member, once_within}
use Rattle.nam_protocol.proofs.FallsCommit.{held_within}
use Rattle.nam_protocol.proofs.FallsKeys.{claims_each, keys_claimed, records_length, writes_within}
use Rattle.nam_protocol.proofs.JobKeys.{written_few}

module _ (shape : Shape) (state : TxnState) (fits : StateFits shape state) where
  abbrev claim_keys : List Key
  claim_keys = claimed_keys state.claims

  claimed_length : length claim_keys ≡ length state.claims
  claimed_length = length-map state.claims (λ (r : Record). r.key)

  -- keys that are listed once and claimed
  within_claims : (keys : List Key) → AreOnce keys → AllByRecursion (λ key. is_claimed state.claims key ≡ true) keys
      → length keys ≤ length state.claims
  within_claims keys once all =
      let few = once_within keys claim_keys once (λ key is. claimed_is_member state.claims key
      (member_holds (λ k. is_claimed state.claims k ≡ true) keys key all is)) in
      let e = claimed_length in
      omega arith

  keys_once : AreOnce (commit_keys state)
  keys_once = used_once state.writes state.guards fits.written_once fits.guarded_once

  -- the claimed keys are those of a commit
  within_keys : length state.claims ≤ length (commit_keys state)
  within_keys =
      let Of : Key → Type 0 = λ key. is_member same_key (commit_keys state) key ≡ true in
      let all : AllByRecursion Of claim_keys =
      All-map (λ (r : Record). r.key) Of state.claims
      (claims_each (λ r. is_used state.writes state.guards r.key ≡ true) (λ r. Of r.key)
      (λ r. used_member state.writes state.guards r.key) state.claims fits.used) in
      let few = once_within claim_keys (commit_keys state) fits.claimed_once
      (λ key is. member_holds Of claim_keys key all is) in
      let e = claimed_length in
      omega arith

  keys_length : length (records_of state) ≡ length (commit_keys state)
  keys_length = length-map (commit_keys state) _

  few_keys_here : FewKeys state
  few_keys_here =
      let few = fits.few in
      let keys = within_claims (commit_keys state) keys_once (keys_claimed shape state fits) in
      let guards = within_claims state.guards fits.guarded_once fits.guarded in
      let least = within_keys in
      let many = keys_length in
      let sum = records_length shape state fits in
      record {
        claims = few;
        exact = omega arith;
        writes = omega arith;
        guards = omega arith;
        records = omega arith;
      }

  -- the headers and the counts are no more than the records
  places_within : (at : CommitPoint) → length state.writes ≤ length state.records → CommitPointFits shape state at
      → (length state.held ≤ length state.records) × (length state.counts ≤ length state.records)
  places_within (Listing at) w c = let h = c.0 in let n = c.1 in (omega arith, omega arith)
  places_within (Locking at) w c = let n = c.1 in (held_within (length state.records) state.held at c.0, omega arith)
  places_within (Checking at) w c = let h = c.0 in let n = c.1 in (omega arith, omega arith)
  places_within (Returning given full) w c = let h = c.0 in let n = c.2 in (omega arith, omega arith)
  places_within (Counting nth) w c = let h = c.0 in let n = c.1 in (omega arith, omega arith)
  places_within Deciding w c = let h = c.0 in let n = c.1 in (omega arith, omega arith)
  places_within (Saving nth got) w c = let h = c.0 in let n = c.1 in (omega arith, omega arith)
  places_within (Copying nth old at) w c = let h = c.0 in let n = c.1 in (omega arith, omega arith)
  places_within (Installing nth at) w c = let h = c.0 in let n = c.1 in (omega arith, omega arith)
  places_within Publishing w c = let h = c.0 in let n = c.1 in (omega arith, omega arith)
  places_within (Freeing nth) w c = let h = c.0 in let n = c.1 in (omega arith, omega arith)
  places_within (Clearing refusal) w c = let h = c.0 in let n = c.1 in (omega arith, omega arith)
  places_within Ending w c = let h = c.0 in let n = c.1 in (omega arith, omega arith)

  few_places_at : (at : CommitPoint) → CommitFits shape state at → FewPlaces shape state
  few_places_at at c =
      let few = few_keys_here.records in
      let same = ap (λ (rs : List Record). length rs) c.0 in
      let p = places_within at (writes_within shape state fits c.0) c.2 in
      let h = p.0 in
      let n = p.1 in
      let room = c.3 in
      record { records = omega arith; held = omega arith; counts = omega arith; number = omega arith }

pub few_keys : FewKeysLaw
few_keys = few_keys_here

pub few_places : FewPlacesLaw
few_places shape state at fits c = few_places_at shape state fits at c

pub few_tidies : FewTidiesLaw
few_tidies shape ops fits = written_few ops fits.few

pub key_words : KeyWordLaw
key_words shape claims op stands = stands.2
