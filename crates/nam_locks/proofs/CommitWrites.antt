-- Each point of a commit that writes a word of a current version keeps what is said of locks.
use Rattle.std.proofs.Common.{Bool, List, Some, [], ap, arith, false, length, refl, subst, sym, true, ℕ, ◌++◌, ◌+◌, ◌<◌}
use Rattle.std.proofs.Common.{◌∙◌, ◌∷◌, ◌≡◌}
use Rattle.std.proofs.lemmas.Bool.{eqb-true, lt-ltb}
use Rattle.std.proofs.lemmas.List.{length-map}
use Rattle.std.specs.Prelude.{if◌then◌else◌, is_some, not, slice_get, slice_index, slice_set}
use Rattle.nam_calls.specs.Lock.{give_back, lock_next, locks_at}
use Rattle.nam_calls.specs.Record.{word_in}
use Rattle.nam_calls.specs.Words.{wrapped}
use Rattle.nam_calls.specs.declared.lock.LockPoint.TheVariants.{GiveBack, Peek, Seize}
use Rattle.nam_calls.specs.declared.record.InstallPoint.TheVariants.{InstallCount, InstallHead, InstallWord}
use Rattle.nam_catalog.specs.Fits.{FitsLimits}
use Rattle.nam_catalog.specs.declared.form.Form.{Form}
use Rattle.nam_catalog.specs.declared.shape.Shape.{Shape}
use Rattle.nam_ghost.specs.Holders.{Holder, holder_at, holder_now, record_row, words_in}
use Rattle.nam_ghost.specs.Locks.{AreHeld}
use Rattle.nam_ghost.specs.Steps.{at_record, given_back, locked_for, new_version, renewed}
use Rattle.nam_ghost.specs.Versions.{Chain}
use Rattle.nam_header.specs.Stamp.{FitsStamp, is_locked, sees, version_word, with_lock}
use Rattle.nam_layout.specs.declared.field.Field.{Field}
use Rattle.nam_layout.specs.declared.field.Field.TheVariants.{Count, Header, Word}
use Rattle.nam_layout.specs.declared.field.Place.{Place}
use Rattle.nam_locks.proofs.CommitReads.{ends, gives_back, nothing_left, refuses}
use Rattle.nam_locks.proofs.HolderLemmas.{seen_as}
use Rattle.nam_locks.proofs.WriteKinds.{backs, counts_on, locks, renews, words_on}
use Rattle.nam_protocol.proofs.GoesCommit.{next_free_goes}
use Rattle.nam_protocol.specs.Commit.{commit_after, go, new_header, on_install, on_lock, on_return, own_stamp, places}
use Rattle.nam_protocol.specs.Commit.{record_place, value_at}
use Rattle.nam_protocol.specs.FieldLaw.{IsRowPlace}
use Rattle.nam_protocol.specs.Own.{StageAt}
use Rattle.nam_protocol.specs.Txn.{Stepped}
use Rattle.nam_protocol.specs.declared.txn.CommitPoint.{CommitPoint}
use Rattle.nam_protocol.specs.declared.txn.CommitPoint.TheVariants.{Freeing, Installing, Locking, Publishing, Returning}
use Rattle.nam_protocol.specs.declared.txn.CommitPoint.TheVariants.{Saving}
use Rattle.nam_protocol.specs.declared.txn.Record.{Record}
use Rattle.nam_protocol.specs.declared.txn.TxnState.{TxnState}
use Rattle.nam_store.specs.Changed.{Changed}
use Rattle.nam_verbs.proofs.TestLemmas.{by_equal}
use Rattle.nam_verbs.specs.declared.now.Now.TheVariants.{At, Over}
use Rattle.si_model.specs.declared.log.Lock.{Lock}
use Rattle.nam_calls.specs.declared.lock.LockEnd.TheVariants as lock_end
use Rattle.nam_protocol.specs.declared.txn.Refusal.TheVariants as refusal

module _ (shape : Shape) (limits : FitsLimits shape) (m now : Field → ℕ) (chains : ℕ → Chain) (holders : List Holder)
    (ok : AreHeld shape m chains holders) (nth : ℕ) (within : nth < shape.workers) (state : TxnState) where
  -- what a word of a point comes to, with these chains
  abbrev pub Comes : (ℕ → Chain) → Stepped → Type 0
  Comes later step =
      AreHeld shape now later (slice_set holders nth (holder_now state.worker step.state step.call))

  abbrev pub IsAt : CommitPoint → Type 0
  IsAt at = slice_get holders nth ≡ Some (holder_at state at)

  -- 1. A lock

  pub takes_lock : (header : ℕ) → let p = length state.held in
      IsAt (Locking (Seize header)) → StageAt state (Locking (Seize header)) → IsRowPlace shape (record_place state p)
      → length state.counts ≡ 0 → m (Header (record_row state p)) ≡ header
      → Changed shape m now (Header (record_row state p)) (with_lock (record_place state p).form state.worker header)
      → Comes (at_record state p chains (locked_for state.worker))
      (on_lock state (lock_next (places state) (state.held ++ header ∷ [])))
  takes_lock header at stage row none is changed =
      let p = length state.held in
      let headers = state.held ++ header ∷ [] in
      let later = at_record state p chains (locked_for state.worker) in
      let form = ap (λ (place : Place). place.form) row.place_is in
      let done : Comes later (on_lock state (At (locks_at headers Peek))) =
      locks shape limits m now chains holders ok nth within (holder_at state (Locking (Seize header))) at header
      row.row_is (omega arith) refl refl refl none is
      (ap (λ (f : Form). is_locked f header) (sym form) ∙ stage.0)
      (ap (λ (f : Form). sees f state.seen header) (sym form) ∙ stage.1)
      (subst (λ (f : Form). Changed shape m now (Header (record_row state p)) (with_lock f state.worker header)) form
      changed) in
      by_equal (λ next. Comes later (on_lock state next)) (length headers) (length (places state))
      (Over (lock_end.Held headers)) (At (locks_at headers Peek)) (λ e. done) (λ e. done)

  -- 2. Headers that are written back

  pub gives_one : (given found : ℕ) → IsAt (Locking (GiveBack given found)) → given < length state.held
      → Changed shape m now (Header (record_row state given)) (slice_index state.held given)
      → Comes (at_record state given chains given_back)
      (on_lock state (give_back (places state) state.held (given + 1) found))
  gives_one given found at less changed =
      let was = holder_at state (Locking (GiveBack given found)) in
      let next = holder_at state (Locking (GiveBack (given + 1) found)) in
      let step = on_lock state (give_back (places state) state.held (given + 1) found) in
      let later = at_record state given chains given_back in
      let done = backs shape limits m now chains holders ok nth within was at
      record { begins = omega arith; ends = less } refl refl changed in
      seen_as shape now later holders nth was next (holder_now state.worker step.state step.call) at done
      (gives_back shape now later nth state (given + 1) found)

  pub returns_one : (given : ℕ) (full : Lock) (found : ℕ) → IsAt (Returning given full) → given < length state.held
      → length state.held ≡ length state.records
      → Changed shape m now (Header (record_row state given)) (slice_index state.held given)
      → Comes (at_record state given chains given_back) (commit_after state (Returning given full) found)
  returns_one given full found at less all changed =
      let was = holder_at state (Returning given full) in
      let next = holder_at state (Returning (given + 1) full) in
      let later = at_record state given chains given_back in
      let done = backs shape limits m now chains holders ok nth within was at
      record { begins = omega arith; ends = less } refl refl changed in
      by_equal (λ now. Comes later (on_return state full now)) (given + 1) (length (places state)) (Over tt)
      (At (given + 1))
      (λ e. let step = on_return state full (Over tt) in
      let long = length-map state.records (λ (r : Record). r.place) in
      seen_as shape now later holders nth was next (holder_now state.worker step.state step.call) at done
      (λ own. refuses shape now later nth state (Returning (given + 1) full) own (omega arith) (refusal.Full full)))
      (λ e. done)

  pub frees_one : (p found : ℕ) → IsAt (Freeing p) → p < length state.held
      → length state.held ≡ length state.records
      → Changed shape m now (Header (record_row state p)) (slice_index state.held p)
      → Comes (at_record state p chains given_back) (commit_after state (Freeing p) found)
  frees_one p found at less all changed =
      let was = holder_at state (Freeing p) in
      let next = holder_at state (Freeing (p + 1)) in
      let later = at_record state p chains given_back in
      let done = backs shape limits m now chains holders ok nth within was at
      record { begins = omega arith; ends = less } refl refl changed in
      next_free_goes (Comes later) state (p + 1)
      (λ e tells. let last = eqb-true _ _ e in
      seen_as shape now later holders nth was next _ at done
      (λ own. ends shape now later nth state (Freeing (p + 1)) own (omega arith) refl))
      (λ e untold. let last = eqb-true _ _ e in
      seen_as shape now later holders nth was next _ at done
      (λ own. nothing_left shape now later nth state (Freeing (p + 1)) own (omega arith)))
      (λ e. done)

  -- 3. The new version

  module _ (p : ℕ) (row : IsRowPlace shape (record_place state p)) (less : p < length state.held) where
    abbrev width : ℕ
    width = (record_place state p).width

    pub installs_word : (word found : ℕ) → IsAt (Installing p (InstallWord word)) → word < width
        → is_some (value_at state p) ≡ true
        → Changed shape m now (Word (record_row state p) word) (word_in (value_at state p) word)
        → Comes (at_record state p chains (λ chain. record chain { dirty = true }))
        (commit_after state (Installing p (InstallWord word)) found)
    installs_word word found at narrow some changed =
        let was = holder_at state (Installing p (InstallWord word)) in
        let later = at_record state p chains (λ chain. record chain { dirty = true }) in
        let wide = ap (λ (place : Place). place.width) row.place_is in
        let done = words_on shape limits m now chains holders ok nth within was at
        record { begins = omega arith; ends = less } (word_in (value_at state p) word) (omega arith) refl changed in
        by_equal (λ next. Comes later (on_install state p next)) (word + 1) width (At InstallCount)
        (At (InstallWord (word + 1)))
        (λ last. let words : word + 1 ≡ words_in (value_at state p) width InstallCount =
        last ∙ ap (λ (b : Bool). if b then width else 0) (sym some) in
        subst (λ (holder : Holder). AreHeld shape now later (slice_set holders nth holder))
        (λ k. record was { words = words k; dirty = sym some k }) done)
        (λ more. subst (λ (holder : Holder). AreHeld shape now later (slice_set holders nth holder))
        (λ k. record was { words = word + 1; dirty = sym (lt-ltb 0 (word + 1) (omega arith)) k }) done)

    pub installs_count : (found : ℕ) → IsAt (Installing p InstallCount) → p < length state.counts
        → Changed shape m now (Count (record_row state p)) (wrapped (slice_index state.counts p + 1))
        → Comes (at_record state p chains (λ chain. record chain { counted = true }))
        (commit_after state (Installing p InstallCount) found)
    installs_count found at known changed =
        counts_on shape limits m now chains holders ok nth within (holder_at state (Installing p InstallCount)) at
        record { begins = omega arith; ends = less } (slice_index state.counts p) refl known refl changed

    pub installs_header : (found : ℕ) → IsAt (Installing p InstallHead) → FitsStamp shape.form (own_stamp state)
        → Changed shape m now (Header (record_row state p)) (new_header state p)
        → Comes (at_record state p chains (renewed (new_version state p)))
        (commit_after state (Installing p InstallHead) found)
    installs_header found at fits changed =
        let was = holder_at state (Installing p InstallHead) in
        let later = at_record state p chains (renewed (new_version state p)) in
        let form = ap (λ (place : Place). place.form) row.place_is in
        let wide = ap (λ (place : Place). place.width) row.place_is in
        let done = renews shape limits m now chains holders ok nth within was at
        record { begins = omega arith; ends = less } refl refl fits
        (λ some. ap (λ (b : Bool). if b then width else 0) some ∙ wide)
        (subst (λ (f : Form). Changed shape m now (Header (record_row state p))
        (version_word f (own_stamp state) (not (is_some (value_at state p))))) form changed) in
        by_equal (Comes later) (p + 1) (length state.writes) (go state Publishing) (go state (Saving (p + 1) []))
        (λ last. subst (λ (holder : Holder). AreHeld shape now later (slice_set holders nth holder))
        (λ k. record was { from = last k; done = last k; words = 0; dirty = false; counted = false }) done)
        (λ more. done)
