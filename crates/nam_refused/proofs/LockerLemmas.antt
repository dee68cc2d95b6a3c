-- Where a commit finds a header locked, the client whose lock it is has listed it, under the same key and stamp.
use Rattle.std.proofs.Common.{List, Some, [], ap, arith, inl, inr, length, option_map, refl, subst, suc, sym, zero, ℕ}
use Rattle.std.proofs.Common.{◌+◌, ◌<◌, ◌∙◌, ◌∷◌, ◌≡◌, ◌≤◌}
use Rattle.std.proofs.lemmas.Option.{slice_get-map}
use Rattle.std.specs.Prelude.{slice_index}
use Rattle.nam_calls.specs.Memory.{memory}
use Rattle.nam_catalog.specs.declared.form.Form.{Form}
use Rattle.nam_catalog.specs.declared.shape.Shape.{Shape}
use Rattle.nam_ghost.proofs.RecordLemmas.{header_fits, header_says}
use Rattle.nam_ghost.specs.Holders.{Holds, holder_at, holder_of, record_row}
use Rattle.nam_ghost.specs.Keys.{ClaimsOk, KeysOk}
use Rattle.nam_ghost.specs.Locks.{HolderOk, Lists, LocksOk}
use Rattle.nam_ghost.specs.Versions.{Chain, current_header, record_image}
use Rattle.nam_header.proofs.StampLemmas.{stamp_in-word_of}
use Rattle.nam_header.specs.Stamp.{stamp_in}
use Rattle.nam_header.specs.declared.header.Header.{Header}
use Rattle.nam_layout.specs.Rows.{table_of, width_at}
use Rattle.nam_layout.specs.declared.field.Field.{Field}
use Rattle.nam_protocol.proofs.FallsCommit.{held_within}
use Rattle.nam_protocol.specs.Carries.{AttemptCarries}
use Rattle.nam_protocol.specs.Commit.{lock_at}
use Rattle.nam_protocol.specs.Sorts.{committing_at}
use Rattle.nam_protocol.specs.Telling.{locks_from}
use Rattle.nam_protocol.specs.TxnFits.{CommitFits, CommitPointFits, StateFits}
use Rattle.nam_protocol.specs.declared.client.ClientState.{ClientState}
use Rattle.nam_protocol.specs.declared.client.Open.{Open}
use Rattle.nam_protocol.specs.declared.txn.CommitPoint.{CommitPoint}
use Rattle.nam_protocol.specs.declared.txn.CommitPoint.TheVariants.{Checking, Clearing, Copying, Counting, Deciding}
use Rattle.nam_protocol.specs.declared.txn.CommitPoint.TheVariants.{Ending, Freeing, Installing, Listing, Locking}
use Rattle.nam_protocol.specs.declared.txn.CommitPoint.TheVariants.{Publishing, Returning, Saving}
use Rattle.nam_protocol.specs.declared.txn.TxnState.{TxnState}
use Rattle.nam_refused.proofs.LockedLemmas.{claims, is_row, less, locked_holds, own, word_is}
use Rattle.nam_refused.proofs.RecordLemmas.{row_bears, row_table}
use Rattle.nam_refused.proofs.StayLemmas.{found_form}
use Rattle.nam_refused.specs.Lockers.{IsListed}
use Rattle.nam_refused.specs.RefusedLaw.{MeetsLock}
use Rattle.nam_store.specs.Base.{BaseOk, ClientOk}
use Rattle.nam_store.specs.Store.{Store, client_at, found_word}
use Rattle.si_model.proofs.ListLemmas.{listed_append_right}
use Rattle.si_model.specs.Lists.{Listed}
use Rattle.si_model.specs.declared.log.Lock.{Lock}
use Rattle.nam_layout.specs.declared.field.Field.TheVariants as field

-- 1. What a list of locks has

locks_have : (state : TxnState) (start : ℕ) (headers : List ℕ) (p : ℕ) → p < length headers
    → Listed (lock_at state (start + p) (slice_index headers p)) (locks_from state start headers)
locks_have state start [] p less = absurd (omega arith)
locks_have state start (h ∷ hs) zero less =
    inl (ap (λ n. lock_at state n h) (omega arith))
locks_have state start (h ∷ hs) (suc p) less =
    inr (subst (λ n. Listed (lock_at state n (slice_index hs p)) (locks_from state (start + 1) hs)) (omega arith)
    (locks_have state (start + 1) hs p (omega arith)))

lock_same : (a b : Lock) → a.table ≡ b.table → a.key ≡ b.key → a.stamp ≡ b.stamp → a ≡ b
lock_same a b table key stamp = λ k. record { table = table k; key = key k; stamp = stamp k }

held_records : (shape : Shape) (state : TxnState) (at : CommitPoint) → CommitPointFits shape state at
    → length state.held ≤ length state.records
held_records shape state (Listing at) c = let h = c.0 in omega arith
held_records shape state (Locking at) c = held_within (length state.records) state.held at c.0
held_records shape state (Checking at) c = let h = c.0 in omega arith
held_records shape state (Returning given full) c = let h = c.0 in omega arith
held_records shape state (Counting nth) c = let h = c.0 in omega arith
held_records shape state Deciding c = let h = c.0 in omega arith
held_records shape state (Saving nth got) c = let h = c.0 in omega arith
held_records shape state (Copying nth old at) c = let h = c.0 in omega arith
held_records shape state (Installing nth at) c = let h = c.0 in omega arith
held_records shape state Publishing c = let h = c.0 in omega arith
held_records shape state (Freeing nth) c = let h = c.0 in omega arith
held_records shape state (Clearing refusal) c = c.0
held_records shape state Ending c = let h = c.0 in omega arith

-- 2. A client that lists a row has listed its lock

module _ (shape : Shape) (store : Store) (chains : ℕ → Chain) (base : BaseOk shape store)
    (locks : LocksOk shape store chains) (keys : KeysOk shape store chains) (row : ℕ) (other : ℕ) (one : ClientState)
    (there : client_at store other ≡ Some one) (lists : Lists row one) where
  abbrev m : Field → ℕ
  m = memory shape store.words

  abbrev theirs : TxnState
  theirs = lists.attempt.state

  abbrev before : ClientState
  before = committing_at one lists.attempt lists.at

  same : one ≡ before
  same = λ k. record one { call = lists.runs k; txn = lists.opened k }

  ok : ClientOk shape other before
  ok = subst (ClientOk shape other) same (base.clients other one there)

  their_claims : ClaimsOk shape m (Some lists.attempt)
  their_claims = subst (ClaimsOk shape m) lists.opened (keys.clients other one there).claims

  holder : HolderOk shape m chains other (holder_at theirs lists.at)
  holder =
      subst (λ (c : ClientState). HolderOk shape m chains other (holder_of c)) same
      (locks.each other (holder_of one) (slice_get-map holder_of store.clients other ∙ ap (option_map holder_of) there))

  holds : Holds (holder_at theirs lists.at) lists.number
  holds = record { begins = lists.begins; ends = lists.ends }

  -- its header bears the current version's stamp
  stamp_is : stamp_in shape.form (slice_index theirs.held lists.number) ≡ (chains row).now.stamp
  stamp_is =
      let form = shape.form in
      let version = (chains (record_row theirs lists.number)).now in
      ap (stamp_in form) (holder.held lists.number holds).header_is
      ∙ stamp_in-word_of form (current_header form 0 version)
      (header_fits form 0 version (omega arith) (locks.rows (record_row theirs lists.number)
      (holder.inside lists.number holds)).fits)
      ∙ ap (λ r. (chains r).now.stamp) lists.row_is

  abbrev lock : Lock
  lock = lock_at theirs lists.number (slice_index theirs.held lists.number)

  pub has_listed : Listed lock one.log.locks
  has_listed =
      let carries : AttemptCarries before.last before.log.locks before.call lists.attempt = ok.carries.opened in
      subst (Listed lock) (sym carries.took.listed)
      (listed_append_right carries.took.earlier (locks_from theirs 0 theirs.held) lock
      (subst (λ n. Listed (lock_at theirs n (slice_index theirs.held lists.number)) (locks_from theirs 0 theirs.held))
      (omega arith) (locks_have theirs 0 theirs.held lists.number lists.ends)))

  their_less : lists.number < length theirs.records
  their_less =
      let most = held_records shape theirs lists.at ok.fits.2.2 in let ends = lists.ends in omega arith

  -- 3. Which is the lock that another commit finds at the row, under the header that it finds

  module _ (mine : TxnState) (at : CommitPoint) (fits : StateFits shape mine) (c : CommitFits shape mine at)
      (my_claims : ClaimsOk shape m (Some (record lists.attempt { state = mine }))) (next : ℕ)
      (less : next < length mine.records) (here : record_row mine next ≡ row) (word : ℕ)
      (says : stamp_in shape.form word ≡ (chains row).now.stamp) where
    same_lock : lock ≡ lock_at mine next word
    same_lock =
        let rows : record_row theirs lists.number ≡ record_row mine next = lists.row_is ∙ sym here in
        let table = sym (row_table shape m theirs ok.fits.1 ok.fits.2.0 their_claims lists.number their_less)
        ∙ ap (table_of shape.tables) rows ∙ row_table shape m mine fits c.0 my_claims next less in
        let key = sym (row_bears shape m theirs ok.fits.1 ok.fits.2.0 their_claims lists.number their_less)
        ∙ ap (λ (r : ℕ). m (field.Key r)) rows ∙ row_bears shape m mine fits c.0 my_claims next less in
        let header = slice_index theirs.held lists.number in
        lock_same lock (lock_at mine next word) table (omega arith)
        (ap (λ (form : Form). stamp_in form header)
        (found_form shape base.limits theirs lists.at ok.fits.1 ok.fits.2 lists.number their_less)
        ∙ stamp_is ∙ sym says
        ∙ ap (λ (form : Form). stamp_in form word) (sym (found_form shape base.limits mine at fits c next less)))

    pub lists_it : Listed (lock_at mine next word) one.log.locks
    lists_it = subst (λ (l : Lock). Listed l one.log.locks) same_lock has_listed

-- 4. A commit that meets a lock

pub meets_listed : (shape : Shape) (store : Store) (chains : ℕ → Chain) → BaseOk shape store
    → LocksOk shape store chains → KeysOk shape store chains → (nth : ℕ) (client : ClientState) (attempt : Open)
    → MeetsLock shape store nth client attempt
    → IsListed store.clients nth (lock_at attempt.state (length attempt.state.held) (found_word shape store client))
meets_listed shape store chains base locks keys nth client attempt meets =
    let mine = attempt.state in
    let next = length mine.held in
    let row = record_row mine next in
    let own_ok = own shape store chains base locks keys nth client attempt meets in
    let found = word_is shape store chains base locks keys nth client attempt meets in
    let (not_own, (other, (one, (there, (apart, lists, named))))) =
    locked_holds shape store chains base locks keys nth client attempt meets in
    let says = ap (stamp_in shape.form) found
    ∙ ap (λ (h : Header). h.stamp) (header_says shape.form shape.workers (width_at shape.tables row)
    (record_image (memory shape store.words) row) (chains row) base.limits.most_workers
    (locks.rows row (is_row shape store chains base locks keys nth client attempt meets))) in
    let my_claims = claims shape store chains base locks keys nth client attempt meets in
    let within = less shape store chains base locks keys nth client attempt meets in
    let it = lists_it shape store chains base locks keys row other one there lists mine (Locking meets.at)
    own_ok.fits.1 own_ok.fits.2 my_claims next within refl (found_word shape store client) says in
    (other, (one, (there, (apart, it))))
