-- What becomes of the claims on a commit with each word that it takes.
use Rattle.std.proofs.Common.{[], ap, false, inl, length, refl, subst, sym, true, ℕ, ⊎_elim, ◌+◌, ◌<◌, ◌∙◌, ◌∷◌, ◌≡◌}
use Rattle.std.proofs.lemmas.Bool.{true≢false}
use Rattle.nam_calls.proofs.GoesTests.{give_back_goes, peek_goes, seize_goes}
use Rattle.nam_calls.specs.Lock.{give_back}
use Rattle.nam_calls.specs.declared.lock.LockPoint.TheVariants.{GiveBack, Peek, Seize}
use Rattle.nam_catalog.specs.Fits.{FitsLimits}
use Rattle.nam_catalog.specs.declared.form.Form.{Form}
use Rattle.nam_catalog.specs.declared.shape.Shape.{Shape}
use Rattle.nam_ghost.proofs.RecordLemmas.{free_says, header_says}
use Rattle.nam_ghost.specs.Holders.{record_row}
use Rattle.nam_ghost.specs.Locks.{RowOk}
use Rattle.nam_ghost.specs.Versions.{Chain, Version, current_word, record_image}
use Rattle.nam_header.specs.Stamp.{is_locked, sees, stamp_in}
use Rattle.nam_header.specs.declared.header.Header.{Header}
use Rattle.nam_layout.specs.Address.{IsRow}
use Rattle.nam_layout.specs.Rows.{width_at}
use Rattle.nam_layout.specs.declared.field.Field.{Field}
use Rattle.nam_protocol.proofs.GoesCommit.{next_count_goes, next_free_goes, on_copy_goes, on_install_goes, on_list_goes}
use Rattle.nam_protocol.proofs.GoesCommit.{on_return_goes, on_slot_goes, on_words_goes, refused_goes}
use Rattle.nam_protocol.specs.Commit.{commit_after, commit_verb, lock_at, on_lock, places, record_at, record_place}
use Rattle.nam_protocol.specs.Commit.{refusal_answer, refused}
use Rattle.nam_protocol.specs.Sorts.{committing_at}
use Rattle.nam_protocol.specs.Txn.{Stepped}
use Rattle.nam_protocol.specs.TxnFits.{CommitFits, StateFits}
use Rattle.nam_protocol.specs.declared.client.ClientState.{ClientState}
use Rattle.nam_protocol.specs.declared.client.Open.{Open}
use Rattle.nam_protocol.specs.declared.txn.CommitPoint.{CommitPoint}
use Rattle.nam_protocol.specs.declared.txn.CommitPoint.TheVariants.{Checking, Clearing, Copying, Counting, Deciding}
use Rattle.nam_protocol.specs.declared.txn.CommitPoint.TheVariants.{Ending, Freeing, Installing, Listing, Locking}
use Rattle.nam_protocol.specs.declared.txn.CommitPoint.TheVariants.{Publishing, Returning, Saving}
use Rattle.nam_protocol.specs.declared.txn.Refusal.{Refusal}
use Rattle.nam_protocol.specs.declared.txn.TxnState.{TxnState}
use Rattle.nam_refused.proofs.StayLemmas.{GoesFor, found_form, lost_stays, record_form, record_rows, refusal_stays}
use Rattle.nam_refused.proofs.StayLemmas.{seize_stays}
use Rattle.nam_refused.specs.Refused.{AnswerOk, ChainsGo, HasStamp, IsFound, IsNewer, IsUnseen, LostOk, PointOk}
use Rattle.nam_refused.specs.Refused.{RefusalOk, SeizeOk}
use Rattle.nam_refused.specs.Views.{InCall, InNow}
use Rattle.nam_store.specs.Base.{ClientOk}
use Rattle.nam_store.specs.Store.{next_verb}
use Rattle.nam_verbs.specs.VerbAt.{found_at}
use Rattle.si_model.proofs.ListLemmas.{listed_append_right}
use Rattle.nam_layout.specs.declared.field.Field.TheVariants as field
use Rattle.nam_protocol.specs.declared.txn.Refusal.TheVariants as refusal

-- the answer says what the refusal does
pub answer_ok : (shape : Shape) (chains : ℕ → Chain) (state : TxnState) (why : Refusal)
    → RefusalOk shape chains state why → AnswerOk shape chains state (refusal_answer why)
answer_ok shape chains state (refusal.Locked lock) ok = ok
answer_ok shape chains state (refusal.Newer lock) ok = ok
answer_ok shape chains state (refusal.Full lock) ok = tt

module _ (shape : Shape) (limits : FitsLimits shape) (m : Field → ℕ) (chains later : ℕ → Chain) (state : TxnState)
    (fits : StateFits shape state) where
  abbrev pub After : Stepped → Type 0
  After step = InNow (PointOk shape later) (AnswerOk shape later state) step.state step.call

  module _ (at : CommitPoint) (c : CommitFits shape state at) where
    form_is : (p : ℕ) → p < length state.records → (record_place state p).form ≡ shape.form
    form_is = record_form shape limits state at fits c

    place_form : (p : ℕ) → p < length state.records → (record_at state p).place.form ≡ shape.form
    place_form = found_form shape limits state at fits c

    -- 1. A lock was missed

    -- the refusal that follows
    refuses : (why : Refusal) → RefusalOk shape later state why → After (refused state why)
    refuses why ok = refused_goes After state why (λ tells. ok) (λ untold. answer_ok shape later state why ok)

    module _ (found : ℕ) (less : length state.held < length state.records)
        (lost : LostOk shape later state found) where
      abbrev here : ℕ
      here = length state.held

      is_found : IsFound shape later state (lock_at state here found)
      is_found = record {
        number = here;
        table = refl;
        key = refl;
        has = subst (λ (form : Form). HasStamp shape later state here (stamp_in form found))
            (sym (place_form here less)) lost.has;
      }

      is_newer : is_locked (record_place state here).form found ≡ false
          → IsNewer shape later state (lock_at state here found)
      is_newer free = record {
        found = is_found;
        unseen = subst (λ (form : Form). IsUnseen state (stamp_in form found)) (sym (place_form here less))
            (lost.newer (subst (λ (form : Form). is_locked form found ≡ false) (form_is here less) free));
      }

      -- those that are held are given back one by one
      gives_back : (given : ℕ) → After (on_lock state (give_back (places state) state.held given found))
      gives_back given =
          give_back_goes (λ now. After (on_lock state now)) (places state) state.held given found
          (λ all locked. refuses (refusal.Locked (lock_at state here found)) is_found)
          (λ all free. refuses (refusal.Newer (lock_at state here found)) (is_newer free)) (λ more. lost)

    -- 2. A header is looked at

    module _ (less : length state.held < length state.records) (goes : ChainsGo shape state.seen chains later)
        (row_ok : RowOk shape m chains (record_row state (length state.held))) where
      abbrev row : ℕ
      row = record_row state (length state.held)

      abbrev word : ℕ
      word = m (field.Header row)

      abbrev width : ℕ
      width = width_at shape.tables row

      abbrev now : Version
      now = (chains row).now

      says : stamp_in shape.form word ≡ now.stamp
      says = ap (λ (h : Header). h.stamp)
          (header_says shape.form shape.workers width (record_image m row) (chains row) limits.most_workers row_ok)

      -- it bears the current version
      meets : (is_locked shape.form word ≡ false → IsUnseen state now.stamp) → LostOk shape later state word
      meets newer =
          lost_stays shape chains later state (record_rows shape limits state at fits c) goes word record {
            has = record {
              within = less;
              version = now;
              there = listed_append_right (chains row).old (now ∷ []) now (inl refl);
              stamp_is = sym says;
            };
            newer = λ free. subst (IsUnseen state) (sym says) (newer free);
          }

      unlocked : is_locked shape.form word ≡ false → current_word shape.form 0 now ≡ word
      unlocked free =
          ap (λ (holder : ℕ). current_word shape.form holder now)
          (sym (free_says shape.form shape.workers width (record_image m row) (chains row) limits.most_workers row_ok
          free))
          ∙ sym row_ok.header_is

      peeks : After (commit_after state (Locking Peek) word)
      peeks =
          let form = form_is (length state.held) less in
          peek_goes (λ now. After (on_lock state now)) (places state) state.seen state.held word
          (λ locked. gives_back word less (meets (λ free. absurd (true≢false (sym
          (subst (λ (f : Form). is_locked f word ≡ true) form locked) ∙ free)))) 0)
          (λ free seen. seize_stays shape chains later state (record_rows shape limits state at fits c) goes word less
          (inl (unlocked (subst (λ (f : Form). is_locked f word ≡ false) form free))))
          (λ free unseen. gives_back word less (meets (λ same. subst (IsUnseen state) says
          (subst (λ (f : Form). sees f state.seen word ≡ false) form unseen))) 0)

      seizes : (header : ℕ) → SeizeOk shape chains state header
          → After (commit_after state (Locking (Seize header)) word)
      seizes header ok =
          seize_goes (λ now. After (on_lock state now)) (places state) state.seen state.held header word
          (λ same all. tt) (λ same more. tt)
          (λ other. gives_back word less (meets (λ free.
          ⊎_elim (λ (same : current_word shape.form 0 now ≡ header). absurd (other (sym (unlocked free) ∙ same)))
          (λ unseen. unseen) ok)) 0)

  -- 3. Each point

  module _ (goes : ChainsGo shape state.seen chains later)
      (rows : (row : ℕ) → IsRow shape row → RowOk shape m chains row) where
    abbrev pub Taken : CommitPoint → Type 0
    Taken at = After (commit_after state at (found_at m (commit_verb state at)))

    row_at : (at : CommitPoint) → CommitFits shape state at → (p : ℕ) → p < length state.records
        → RowOk shape m chains (record_row state p)
    row_at at c p less = rows (record_row state p) (record_rows shape limits state at fits c p less)

    pub commit_keeps : (at : CommitPoint) → CommitFits shape state at → PointOk shape chains state at → Taken at
    commit_keeps (Listing at) c ok = on_list_goes After state _ (λ next e. tt) (λ e. tt)
    commit_keeps (Locking Peek) c ok =
        peeks (Locking Peek) c c.2.0 goes (row_at (Locking Peek) c (length state.held) c.2.0)
    commit_keeps (Locking (Seize header)) c ok =
        let at = Locking (Seize header) in
        seizes at c c.2.0 goes (row_at at c (length state.held) c.2.0) header ok
    commit_keeps (Locking (GiveBack given found)) c ok =
        let at = Locking (GiveBack given found) in
        gives_back at c found c.2.0.0
        (lost_stays shape chains later state (record_rows shape limits state at fits c) goes found ok) (given + 1)
    commit_keeps (Checking at) c ok =
        on_slot_goes After state _ (λ next e. tt) (λ count e f g. tt) (λ count e f g. tt) (λ count e f. tt)
        (λ slot found e. tt)
    commit_keeps (Returning given full) c ok =
        on_return_goes After state full _ (λ next e. tt) (λ e f. tt) (λ e f. tt)
    commit_keeps (Counting p) c ok = next_count_goes After state (p + 1) (λ e. tt) (λ e. tt)
    commit_keeps Deciding c ok = tt
    commit_keeps (Saving p got) c ok = on_words_goes After state p _ (λ next e. tt) (λ old e. tt)
    commit_keeps (Copying p old at) c ok = on_copy_goes After state p old _ (λ next e. tt) (λ e. tt)
    commit_keeps (Installing p at) c ok =
        on_install_goes After state p _ (λ next e. tt) (λ e f. tt) (λ e f. tt)
    commit_keeps Publishing c ok =
        next_free_goes After state (length state.writes) (λ e f. tt) (λ e f. tt) (λ e. tt)
    commit_keeps (Freeing p) c ok = next_free_goes After state (p + 1) (λ e f. tt) (λ e f. tt) (λ e. tt)
    commit_keeps (Clearing why) c ok =
        answer_ok shape later state why
        (refusal_stays shape chains later state (record_rows shape limits state (Clearing why) fits c) goes why ok)
    commit_keeps Ending c ok = tt

-- 4. The word of a client that commits

pub commit_word : (shape : Shape) → FitsLimits shape → (m : Field → ℕ) (chains later : ℕ → Chain)
    → ((row : ℕ) → IsRow shape row → RowOk shape m chains row) → (nth : ℕ) (before client : ClientState)
    (attempt : Open) (at : CommitPoint) → before ≡ committing_at client attempt at → ClientOk shape nth before
    → GoesFor shape chains later before → InCall (PointOk shape chains) before.call before.txn
    → let step = commit_after attempt.state at (found_at m (next_verb shape before)) in
    InNow (PointOk shape later) (AnswerOk shape later attempt.state) step.state step.call
commit_word shape limits m chains later rows nth before client attempt at same own goes ok =
    subst (λ (b : ClientState). ClientOk shape nth b → GoesFor shape chains later b
    → InCall (PointOk shape chains) b.call b.txn
    → let step = commit_after attempt.state at (found_at m (next_verb shape b)) in
    InNow (PointOk shape later) (AnswerOk shape later attempt.state) step.state step.call) (sym same)
    (λ own goes ok. commit_keeps shape limits m chains later attempt.state own.fits.1
    (goes attempt.state.seen own.own.opened.listed) rows at own.fits.2 ok) own goes ok
