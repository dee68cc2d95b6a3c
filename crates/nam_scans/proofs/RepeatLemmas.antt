-- While a transaction is open no step changes what it finds at a key.
use Rattle.std.proofs.Common.{Bool, List, None, Option, Some, false, inl, inr, refl, subst, sym, true, ℕ, ◌<◌, ◌∙◌, ◌≡◌}
use Rattle.std.proofs.lemmas.Bool.{cases_eq}
use Rattle.nam_calls.proofs.FieldLemmas.{row_within}
use Rattle.nam_calls.specs.Fits.{IsTableOf}
use Rattle.nam_calls.specs.Memory.{memory}
use Rattle.nam_calls.specs.Words.{capacity_of}
use Rattle.nam_catalog.specs.declared.shape.Shape.{Shape}
use Rattle.nam_ghost.proofs.KeyLemmas.{bears_stays}
use Rattle.nam_ghost.specs.Chains.{ChainsOk}
use Rattle.nam_ghost.specs.Keys.{Bears, ClaimsOk, IsUnused}
use Rattle.nam_ghost.specs.Versions.{Chain}
use Rattle.nam_ghost.specs.Wanted.{IsNewest}
use Rattle.nam_layout.specs.Rows.{row_of}
use Rattle.nam_layout.specs.declared.field.Field.{Field}
use Rattle.nam_layout.specs.declared.field.Field.TheVariants.{Key}
use Rattle.nam_protocol.specs.ClientFits.{OpenFits}
use Rattle.nam_protocol.specs.Own.{OwnOpen}
use Rattle.nam_protocol.specs.declared.txn.TxnState.{TxnState}
use Rattle.nam_scans.proofs.FindsLemmas.{look, newest_there}
use Rattle.nam_scans.proofs.NewestLemmas.{unused_absent}
use Rattle.nam_scans.proofs.StayLemmas.{TableNext, finds_on}
use Rattle.nam_scans.proofs.StoreLemmas.{table_next}
use Rattle.nam_scans.specs.Gathered.{FindsBy}
use Rattle.nam_scans.specs.ScannedLaw.{FindsAt, FindsKey, IsNowhere, StaysLaw}
use Rattle.nam_store.specs.Store.{Store}
use Rattle.si_model.specs.Rows.{key_at, writes_key}

-- the newest value of a position that was never used is none
unused_newest : (seen : List ℕ) (chain : Chain) → IsUnused chain → (value : Option (List ℕ))
    → IsNewest seen chain value → IsNewest seen chain None
unused_newest seen chain unused None newest = newest
unused_newest seen chain unused (Some value) newest = absurd (unused_absent seen chain unused value newest)

module _ (shape : Shape) (before after : Store) (chains later : ℕ → Chain) (ok : ChainsOk shape before chains)
    (state : TxnState) (table key : ℕ) (is : IsTableOf shape table)
    (goes : TableNext shape (memory shape before.words) (memory shape after.words) chains later state table) where
  abbrev m : Field → ℕ
  m = memory shape before.words

  abbrev now : Field → ℕ
  now = memory shape after.words

  abbrev row_at : ℕ → ℕ
  row_at position = row_of shape.tables table position

  at_stays : (value : Option (List ℕ)) → FindsAt shape before chains state table key value
      → FindsAt shape after later state table key value
  at_stays value at = record {
    position = at.position;
    within = at.within;
    bears = bears_stays shape m now goes.next table key at.position is at.within at.bears;
    finds = finds_on state (chains (row_at at.position)) (later (row_at at.position))
        (goes.newest (row_at at.position) (row_within shape table at.position is at.within)) (key_at table key) value
        (writes_key state.writes (key_at table key)) at.finds;
  }

  -- a position that was claimed for the key has nothing that the transaction finds
  claimed_finds : (position : ℕ) → position < capacity_of shape table → Bears shape now table key position
      → m (Key (row_at position)) ≡ 0 → (test : Bool) → writes_key state.writes (key_at table key) ≡ test
      → FindsBy test state (later (row_at position)) (key_at table key) None
  claimed_finds position less here free true writes = absurd (goes.own position key less writes here free)
  claimed_finds position less here free false writes =
      let row = row_at position in
      let within = row_within shape table position is less in
      let newest = newest_there state.seen (chains row) (ok row within).first in
      (goes.newest row within).stays None
      (unused_newest state.seen (chains row) (goes.unused row within free) newest.0 newest.1)

  nowhere_stays : IsNowhere shape before chains state table key → FindsKey shape after later state table key None
  nowhere_stays none = elim (look shape now table key (capacity_of shape table)) [
    | inl found ↦ elim (cases_eq (m (Key (row_at found.0))) 0) [
      | inl free ↦ inl record {
        position = found.0;
        within = found.1;
        bears = found.2;
        finds = claimed_finds found.0 found.1 found.2 free (writes_key state.writes (key_at table key)) refl;
      }
      | inr some ↦
          absurd (none found.0 found.1
          (sym (goes.next (row_at found.0) (row_within shape table found.0 is found.1) some) ∙ found.2))
    ]
    | inr still ↦ inr (still, refl)
  ]

  finds_stays : (value : Option (List ℕ)) → FindsKey shape before chains state table key value
      → FindsKey shape after later state table key value
  finds_stays value (inl at) = inl (at_stays value at)
  finds_stays value (inr none) = subst (FindsKey shape after later state table key) (sym none.1) (nowhere_stays none.0)

pub stays_law : StaysLaw
stays_law shape before after goes ghost rests ok nth client here attempt opened table key is =
    let own = rests.stands.base.clients nth client here in
    let fits = subst (OpenFits shape) opened own.fits.1 in
    let claims = subst (ClaimsOk shape (memory shape before.words)) opened
    (rests.stands.keys.clients nth client here).claims in
    let owns = subst (OwnOpen client.worker client.last client.log.snaps) opened own.own.opened in
    finds_stays shape before after ghost.chains _ ok attempt.state table key is
    (table_next shape before after goes ghost rests nth client here attempt fits claims owns table is)
