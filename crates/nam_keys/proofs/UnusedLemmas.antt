-- A commit changes the chains of rows that bear keys alone.
use Rattle.std.proofs.Common.{None, Option, Some, ap, arith, length, refl, subst, sym, true, ℕ, ◌<◌, ◌∙◌, ◌≡◌, ◌≢◌}
use Rattle.std.specs.List.{AllByRecursion}
use Rattle.std.specs.Prelude.{◌==◌}
use Rattle.nam_calls.proofs.FallsTests.{either}
use Rattle.nam_calls.specs.declared.lock.LockPoint.TheVariants.{GiveBack, Peek, Seize}
use Rattle.nam_calls.specs.declared.record.InstallPoint.TheVariants.{InstallCount, InstallHead, InstallWord}
use Rattle.nam_catalog.specs.Fits.{FitsLimits}
use Rattle.nam_catalog.specs.declared.shape.Shape.{Shape}
use Rattle.nam_ghost.proofs.KeyLemmas.{claimed_holds}
use Rattle.nam_ghost.specs.Holders.{record_row}
use Rattle.nam_ghost.specs.Keys.{AreAtKeys, ClaimsOk}
use Rattle.nam_ghost.specs.Steps.{at_record, chains_after, commit_chains, given_back, locked_for, new_version, renewed}
use Rattle.nam_ghost.specs.Versions.{Chain}
use Rattle.nam_layout.specs.declared.field.Field.{Field}
use Rattle.nam_layout.specs.declared.field.Field.TheVariants.{Key}
use Rattle.nam_layout.specs.declared.field.Place.{Place}
use Rattle.nam_protocol.proofs.FallsKeys.{all_at, keys_claimed, place_of_nth}
use Rattle.nam_protocol.proofs.FieldLemmas.{written_less}
use Rattle.nam_protocol.specs.ClientFits.{CallPointFits, OpenFits}
use Rattle.nam_protocol.specs.Commit.{commit_keys, no_record, record_in, records_of}
use Rattle.nam_protocol.specs.TxnFits.{CommitFits, StateFits, is_claimed}
use Rattle.nam_protocol.specs.declared.client.CallPoint.{CallPoint}
use Rattle.nam_protocol.specs.declared.client.CallPoint.TheVariants.{InTxn}
use Rattle.nam_protocol.specs.declared.client.Open.{Open}
use Rattle.nam_protocol.specs.declared.txn.CommitPoint.{CommitPoint}
use Rattle.nam_protocol.specs.declared.txn.CommitPoint.TheVariants.{Freeing, Installing, Locking, Returning}
use Rattle.nam_protocol.specs.declared.txn.Record.{Record}
use Rattle.nam_protocol.specs.declared.txn.TxnPoint.TheVariants.{Committing}
use Rattle.nam_protocol.specs.declared.txn.TxnState.{TxnState}
use Rattle.nam_store.proofs.Lists.{put_beside}
use Rattle.si_model.proofs.ListLemmas.{All-from_listed, All-listed, All-map}

module _ (shape : Shape) (limits : FitsLimits shape) (m : Field → ℕ) (row : ℕ) (free : m (Key row) ≡ 0)
    (chains : ℕ → Chain) where
  module _ (state : TxnState) (fits : StateFits shape state) (claims : AreAtKeys shape m state.claims)
      (are : state.records ≡ records_of state) where
    abbrev HasKey : Record → Type 0
    HasKey r = m (Key r.place.row) ≢ 0

    -- each record of the commit stands at its key
    records_have : AllByRecursion HasKey state.records
    records_have =
        let keys = commit_keys state in
        let claimed = All-from_listed HasKey state.claims
        (λ claim listed none. let here = claims claim listed in omega arith) in
        subst (AllByRecursion HasKey) (sym are)
        (All-map (record_in state.claims) HasKey keys
        (All-from_listed (λ key. HasKey (record_in state.claims key)) keys
        (λ key listed. claimed_holds HasKey state.claims key claimed
        (All-listed (λ k. is_claimed state.claims k ≡ true) keys key (keys_claimed shape state fits) listed))))

    beside : (p : ℕ) → p < length state.records → (change : Chain → Chain)
        → at_record state p chains change row ≡ chains row
    beside p less change =
        put_beside chains (record_row state p) (change (chains (record_row state p))) row
        (λ same. all_at HasKey no_record state.records p records_have less
        (ap (λ (place : Place). m (Key place.row)) (sym (place_of_nth state.records p))
        ∙ ap (λ r. m (Key r)) (sym same) ∙ free))

    commit_beside : (at : CommitPoint) → CommitFits shape state at → (found : ℕ)
        → commit_chains state at found chains row ≡ chains row
    commit_beside (Locking Peek) c found = refl
    commit_beside (Locking (Seize header)) c found =
        either (λ (later : ℕ → Chain). later row ≡ chains row) (found == header) _ _
        (beside (length state.held) c.2.0 (locked_for state.worker)) refl
    commit_beside (Locking (GiveBack given word)) c found =
        let less = c.2.0.0 in let more = c.2.0.1 in beside given (omega arith) given_back
    commit_beside (Returning given full) c found = beside given c.2.1 given_back
    commit_beside (Installing p (InstallWord word)) c found =
        beside p (written_less shape limits state fits c.0 p c.2.2) (λ chain. record chain { dirty = true })
    commit_beside (Installing p InstallCount) c found =
        beside p (written_less shape limits state fits c.0 p c.2.2) (λ chain. record chain { counted = true })
    commit_beside (Installing p InstallHead) c found =
        beside p (written_less shape limits state fits c.0 p c.2.2) (renewed (new_version state p))
    commit_beside (Freeing p) c found = beside p c.2.3 given_back
    commit_beside _ c found = refl

  -- a row without a key keeps its chain, whatever a client's verb is
  pub chain_stays : (opened : Option Open) (place : CallPoint) → OpenFits shape opened
      → CallPointFits shape opened place → ClaimsOk shape m opened → (found : ℕ)
      → chains_after opened place found chains row ≡ chains row
  chain_stays None place fits at claims found = refl
  chain_stays (Some attempt) (InTxn (Committing point)) fits at claims found =
      commit_beside attempt.state fits claims at.0 point at found
  chain_stays (Some attempt) (InTxn _) fits at claims found = refl
  chain_stays (Some attempt) _ fits at claims found = refl
