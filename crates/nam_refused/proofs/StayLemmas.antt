-- What is claimed of a refused commit stays, since versions do and no snapshot that was taken sees a new one.
use Rattle.std.proofs.Common.{List, None, Option, Some, [], ap, inl, inr, length, map, option_map, refl, subst, sym, ℕ}
use Rattle.std.proofs.Common.{⊎_elim, ◌++◌, ◌<◌, ◌∙◌, ◌∷◌, ◌≡◌, ◌⊎◌}
use Rattle.std.proofs.lemmas.Option.{slice_get-map}
use Rattle.nam_calls.specs.declared.lock.LockPoint.TheVariants.{GiveBack, Peek, Seize}
use Rattle.nam_catalog.specs.Fits.{FitsLimits}
use Rattle.nam_catalog.specs.declared.shape.Shape.{Shape}
use Rattle.nam_ghost.specs.Chains.{IsNew}
use Rattle.nam_ghost.specs.Holders.{record_row}
use Rattle.nam_ghost.specs.Moments.{Observer, observer_of}
use Rattle.nam_ghost.specs.Slots.{Copies, Flags, Idles, Marks, Renews, Ring, RowNext}
use Rattle.nam_ghost.specs.Versions.{Chain, Version, current_word, versions}
use Rattle.nam_layout.specs.Address.{IsRow}
use Rattle.nam_layout.specs.declared.field.Place.{Place}
use Rattle.nam_protocol.proofs.FallsKeys.{place_of_nth}
use Rattle.nam_protocol.proofs.FieldLemmas.{placed}
use Rattle.nam_protocol.specs.ClientFits.{NowFits, OpenFits}
use Rattle.nam_protocol.specs.Commit.{record_at, record_place}
use Rattle.nam_protocol.specs.Own.{OwnOpen}
use Rattle.nam_protocol.specs.TxnFits.{CommitFits, StateFits}
use Rattle.nam_protocol.specs.declared.client.Answer.{Answer}
use Rattle.nam_protocol.specs.declared.client.CallPoint.{CallPoint}
use Rattle.nam_protocol.specs.declared.client.CallPoint.TheVariants.{InTxn}
use Rattle.nam_protocol.specs.declared.client.ClientState.{ClientState}
use Rattle.nam_protocol.specs.declared.client.Open.{Open}
use Rattle.nam_protocol.specs.declared.txn.CommitPoint.{CommitPoint}
use Rattle.nam_protocol.specs.declared.txn.CommitPoint.TheVariants.{Clearing, Locking}
use Rattle.nam_protocol.specs.declared.txn.Refusal.{Refusal}
use Rattle.nam_protocol.specs.declared.txn.TxnPoint.TheVariants.{Committing}
use Rattle.nam_protocol.specs.declared.txn.TxnState.{TxnState}
use Rattle.nam_refused.specs.Refused.{ChainGoes, ChainsGo, HasStamp, IsFound, IsNewer, IsUnseen, LostOk, PointOk}
use Rattle.nam_refused.specs.Refused.{RefusalOk, SeizeOk}
use Rattle.nam_refused.specs.Views.{InCall}
use Rattle.nam_store.specs.Base.{ClientOk}
use Rattle.nam_store.specs.Everyone.{Someone}
use Rattle.nam_store.specs.Store.{Store, client_at}
use Rattle.nam_verbs.specs.declared.now.Now.{Now}
use Rattle.nam_verbs.specs.declared.now.Now.TheVariants.{At, Over}
use Rattle.si_model.proofs.ListLemmas.{listed_append_left}
use Rattle.si_model.specs.Lists.{Listed}
use Rattle.si_model.specs.declared.log.Lock.{Lock}
use Rattle.si_model.specs.declared.log.Stamp.{Stamp}
use Rattle.nam_protocol.specs.declared.txn.Refusal.TheVariants as refusal

-- 1. Chains

pub goes_nowhere : (seen : List ℕ) (chain : Chain) → ChainGoes seen chain chain
goes_nowhere seen chain = record { stays = λ version is. is; current = inl refl }

-- what a step may make of a row
pub row_goes : (place : Place) (Flagged : ℕ → Type 0) (width : ℕ) (observers : List Observer) (chain later : Chain)
    (ring next : Ring) → RowNext place Flagged (IsNew width observers) chain ring later next → (seen : List ℕ)
    → Someone (λ _ observer. Listed seen observer.snaps) observers → ChainGoes seen chain later
row_goes place Flagged width observers chain later ring _ (Idles old now clean) seen taken = record {
  stays = λ version is. subst (Listed version) (λ t. sym old t ++ sym now t ∷ []) is;
  current = inl now;
}
row_goes place Flagged width observers chain _ ring _ (Marks slot free before) seen taken = goes_nowhere seen chain
row_goes place Flagged width observers chain _ ring _ (Copies next empty) seen taken = goes_nowhere seen chain
row_goes place Flagged width observers chain _ ring _ (Flags slot elsewhere) seen taken = goes_nowhere seen chain
row_goes place Flagged width observers chain later ring _ (Renews old new whole ends) seen taken = record {
  stays = λ version is. subst (λ vs. Listed version (vs ++ later.now ∷ [])) (sym old)
      (listed_append_left (versions chain) (later.now ∷ []) version is);
  current = inr (new.hidden seen taken);
}

-- 2. A commit, whose records are rows

module _ (shape : Shape) (chains later : ℕ → Chain) (state : TxnState)
    (rows : (p : ℕ) → p < length state.records → IsRow shape (record_row state p))
    (goes : ChainsGo shape state.seen chains later) where
  pub has_stays : (number : ℕ) (stamp : Stamp) → HasStamp shape chains state number stamp
      → HasStamp shape later state number stamp
  has_stays number stamp has = record {
    within = has.within;
    version = has.version;
    there = (goes (record_row state number) (rows number has.within)).stays has.version has.there;
    stamp_is = has.stamp_is;
  }

  pub found_stays : (lock : Lock) → IsFound shape chains state lock → IsFound shape later state lock
  found_stays lock found = record {
    number = found.number;
    table = found.table;
    key = found.key;
    has = has_stays _ _ found.has;
  }

  pub newer_stays : (lock : Lock) → IsNewer shape chains state lock → IsNewer shape later state lock
  newer_stays lock newer = record { found = found_stays lock newer.found; unseen = newer.unseen }

  pub lost_stays : (found : ℕ) → LostOk shape chains state found → LostOk shape later state found
  lost_stays found lost = record { has = has_stays _ _ lost.has; newer = lost.newer }

  pub seize_stays : (header : ℕ) → length state.held < length state.records → SeizeOk shape chains state header
      → SeizeOk shape later state header
  seize_stays header less ok =
      let row = record_row state (length state.held) in
      ⊎_elim (λ (same : (later row).now ≡ (chains row).now).
      subst (λ (now : Version). (current_word shape.form 0 now ≡ header) ⊎ IsUnseen state now.stamp) (sym same) ok)
      (λ unseen. inr unseen) (goes row (rows (length state.held) less)).current

  pub refusal_stays : (why : Refusal) → RefusalOk shape chains state why → RefusalOk shape later state why
  refusal_stays (refusal.Locked lock) ok = found_stays lock ok
  refusal_stays (refusal.Newer lock) ok = newer_stays lock ok
  refusal_stays (refusal.Full lock) ok = tt

  pub point_stays : (at : CommitPoint) → CommitFits shape state at → PointOk shape chains state at
      → PointOk shape later state at
  point_stays (Locking (Seize header)) fits ok = seize_stays header fits.2.0 ok
  point_stays (Locking (GiveBack given found)) fits ok = lost_stays found ok
  point_stays (Locking Peek) fits ok = tt
  point_stays (Clearing why) fits ok = refusal_stays why ok
  point_stays _ fits ok = tt

-- 3. A client

pub record_rows : (shape : Shape) → FitsLimits shape → (state : TxnState) (at : CommitPoint) → StateFits shape state
    → CommitFits shape state at → (p : ℕ) → p < length state.records → IsRow shape (record_row state p)
record_rows shape limits state at fits c p less = (placed shape limits state fits c.0 p less).row_is

-- the records' places have the shape's form
module _ (shape : Shape) (limits : FitsLimits shape) (state : TxnState) (at : CommitPoint)
    (fits : StateFits shape state) (c : CommitFits shape state at) (p : ℕ) (less : p < length state.records) where
  pub record_form : (record_place state p).form ≡ shape.form
  record_form = ap (λ (place : Place). place.form) (placed shape limits state fits c.0 p less).place_is

  pub found_form : (record_at state p).place.form ≡ shape.form
  found_form = ap (λ (place : Place). place.form) (sym (place_of_nth state.records p)) ∙ record_form

-- the snapshots that a client lists see the step so
abbrev pub GoesFor : Shape → (ℕ → Chain) → (ℕ → Chain) → ClientState → Type 0
GoesFor shape chains later client =
    (seen : List ℕ) → Listed seen client.log.snaps → ChainsGo shape seen chains later

module _ (shape : Shape) (limits : FitsLimits shape) (chains later : ℕ → Chain) where
  pub call_stays : (nth : ℕ) (client : ClientState) → ClientOk shape nth client → GoesFor shape chains later client
      → InCall (PointOk shape chains) client.call client.txn → InCall (PointOk shape later) client.call client.txn
  call_stays nth client own goes = by_call client.call client.txn own.own.opened own.fits.1 own.fits.2
    where
      by_call : (call : Option (Now CallPoint Answer)) (opened : Option Open)
          → OwnOpen client.worker client.last client.log.snaps opened → OpenFits shape opened
          → NowFits shape opened call → InCall (PointOk shape chains) call opened
          → InCall (PointOk shape later) call opened
      by_call (Some (At (InTxn (Committing at)))) (Some attempt) owns fits c ok =
          point_stays shape chains later attempt.state (record_rows shape limits attempt.state at fits c)
          (goes attempt.state.seen owns.listed) at c ok
      by_call (Some (At (InTxn (Committing at)))) None owns fits c ok = tt
      by_call (Some (At (InTxn _))) opened owns fits c ok = tt
      by_call (Some (At _)) opened owns fits c ok = tt
      by_call (Some (Over answer)) opened owns fits c ok = tt
      by_call None opened owns fits c ok = tt

-- a client's snapshots are some observer's
pub taken_by : (store : Store) (nth : ℕ) (client : ClientState) → client_at store nth ≡ Some client
    → (seen : List ℕ) → Listed seen client.log.snaps
    → Someone (λ _ observer. Listed seen observer.snaps) (map observer_of store.clients)
taken_by store nth client here seen listed = (
  nth,
  (
    observer_of client,
    (slice_get-map observer_of store.clients nth ∙ ap (option_map observer_of) here, listed),
  ),
)
