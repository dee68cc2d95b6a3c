-- A lock that stands in a commit's way is another client's: the commit's own locks are of its other records.
use Rattle.std.proofs.Common.{Some, ap, length, option_map, refl, subst, sym, ℕ, ◌+◌, ◌<◌, ◌∙◌, ◌≡◌, ◌≢◌}
use Rattle.std.proofs.lemmas.Option.{same_Some, slice_get-map}
use Rattle.nam_calls.specs.Fits.{LockFits}
use Rattle.nam_calls.specs.Memory.{memory}
use Rattle.nam_calls.specs.declared.lock.LockPoint.{LockPoint}
use Rattle.nam_calls.specs.declared.lock.LockPoint.TheVariants.{GiveBack, Peek, Seize}
use Rattle.nam_catalog.specs.declared.shape.Shape.{Shape}
use Rattle.nam_ghost.proofs.ListedLemmas.{someone_lists}
use Rattle.nam_ghost.specs.Holders.{holder_at, holder_of, record_row}
use Rattle.nam_ghost.specs.Keys.{ClaimsOk, KeysOk}
use Rattle.nam_ghost.specs.Locks.{HolderOk, Lists, LocksOk, header_at}
use Rattle.nam_ghost.specs.Versions.{Chain}
use Rattle.nam_header.specs.Header.{header_of}
use Rattle.nam_header.specs.Stamp.{is_locked}
use Rattle.nam_layout.specs.Address.{IsRow}
use Rattle.nam_layout.specs.declared.field.Field.{Field}
use Rattle.nam_protocol.specs.Commit.{commit_verb}
use Rattle.nam_protocol.specs.Sorts.{committing_at}
use Rattle.nam_protocol.specs.declared.client.ClientState.{ClientState}
use Rattle.nam_protocol.specs.declared.client.Open.{Open}
use Rattle.nam_protocol.specs.declared.txn.CommitPoint.TheVariants.{Locking}
use Rattle.nam_protocol.specs.declared.txn.TxnState.{TxnState}
use Rattle.nam_refused.proofs.RecordLemmas.{records_apart}
use Rattle.nam_refused.proofs.StayLemmas.{record_rows}
use Rattle.nam_refused.specs.RefusedLaw.{LockedLaw, LooksAt, MeetsLock}
use Rattle.nam_store.specs.Base.{BaseOk, ClientOk}
use Rattle.nam_store.specs.Store.{Store, client_at, found_word}
use Rattle.nam_verbs.specs.VerbAt.{found_at}
use Rattle.nam_layout.specs.declared.field.Field.TheVariants as field

-- the record at hand is one more than those that are locked
pub less_there : (records : ℕ) (state : TxnState) (at : LockPoint) → LooksAt at → LockFits records state.held at
    → length state.held < records
less_there records state Peek looks fits = fits
less_there records state (Seize header) looks fits = fits
less_there records state (GiveBack given found) looks fits = absurd looks

-- what is found is that record's header
word_there : (m : Field → ℕ) (state : TxnState) (at : LockPoint) → LooksAt at
    → found_at m (commit_verb state (Locking at)) ≡ m (field.Header (record_row state (length state.held)))
word_there m state Peek looks = refl
word_there m state (Seize header) looks = refl
word_there m state (GiveBack given found) looks = absurd looks

module _ (shape : Shape) (store : Store) (chains : ℕ → Chain) (base : BaseOk shape store)
    (locks : LocksOk shape store chains) (keys : KeysOk shape store chains) (nth : ℕ) (client : ClientState)
    (attempt : Open) (meets : MeetsLock shape store nth client attempt) where
  abbrev m : Field → ℕ
  m = memory shape store.words

  abbrev state : TxnState
  state = attempt.state

  abbrev here : ℕ
  here = length state.held

  abbrev row : ℕ
  row = record_row state here

  abbrev before : ClientState
  before = committing_at client attempt (Locking meets.at)

  same : client ≡ before
  same = λ k. record client { call = meets.runs k; txn = meets.opened k }

  pub own : ClientOk shape nth before
  own = subst (ClientOk shape nth) same (base.clients nth client meets.here)

  pub less : here < length state.records
  less = less_there (length state.records) state meets.at meets.looks own.fits.2.2.0

  pub claims : ClaimsOk shape m (Some attempt)
  claims = subst (ClaimsOk shape m) meets.opened (keys.clients nth client meets.here).claims

  pub is_row : IsRow shape row
  is_row = record_rows shape base.limits state (Locking meets.at) own.fits.1 own.fits.2 here less

  pub word_is : found_word shape store client ≡ header_at shape store row
  word_is = ap (found_word shape store) same ∙ word_there m state meets.at meets.looks

  -- none of the records that it has locked is this row
  other_rows : (p : ℕ) → p < here → record_row state p ≡ row → ⊥
  other_rows p before e =
      records_apart shape m state own.fits.1 own.fits.2.0 claims p here before less e

  holder : HolderOk shape m chains nth (holder_at state (Locking meets.at))
  holder =
      subst (λ (c : ClientState). HolderOk shape m chains nth (holder_of c)) same
      (locks.each nth (holder_of client)
      (slice_get-map holder_of store.clients nth ∙ ap (option_map holder_of) meets.here))

  not_own : (chains row).holder ≢ nth + 1
  not_own e = let holds = holder.owns row is_row e in other_rows holds.0 holds.1.ends holds.2

  not_listed : Lists row client → ⊥
  not_listed lists =
      let attempts : lists.attempt ≡ attempt = same_Some lists.attempt attempt (sym lists.opened ∙ meets.opened) in
      other_rows lists.number
      (subst (λ (a : Open). lists.number < length a.state.held) attempts lists.ends)
      (subst (λ (a : Open). record_row a.state lists.number ≡ row) attempts lists.row_is)

  another : (other : ℕ) (one : ClientState) → client_at store other ≡ Some one → Lists row one → other ≢ nth
  another other one there lists e =
      let ones : one ≡ client = same_Some one client (sym there ∙ ap (client_at store) e ∙ meets.here) in
      not_listed (subst (Lists row) ones lists)

pub locked_holds : LockedLaw
locked_holds shape store chains base locks keys nth client attempt meets =
    let word = word_is shape store chains base locks keys nth client attempt meets in
    let at = row shape store chains base locks keys nth client attempt meets in
    let (other, (one, (there, (lists, named)))) = someone_lists shape store base chains locks at
    (is_row shape store chains base locks keys nth client attempt meets)
    (ap (is_locked shape.form) (sym word) ∙ meets.locked) in (
      not_own shape store chains base locks keys nth client attempt meets,
      (
        other,
        (
          one,
          (
            there,
            (
              another shape store chains base locks keys nth client attempt meets other one there lists,
              lists,
              ap (λ w. (header_of shape.form w).holder) word ∙ named,
            ),
          ),
        ),
      ),
    )
