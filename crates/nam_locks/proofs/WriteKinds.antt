-- The kinds of write to a record's current version: a lock, a header written back, a data word, the count, the new
-- header. Each keeps what is said of locks.
use Rattle.std.proofs.Common.{List, None, Option, Some, ap, arith, false, length, refl, subst, sym, true, ℕ, ⊎_elim}
use Rattle.std.proofs.Common.{◌+◌, ◌<◌, ◌∙◌, ◌≡◌, ◌≤◌}
use Rattle.std.proofs.lemmas.Bool.{cases_lt}
use Rattle.std.specs.Prelude.{Bool, is_some, not, slice_get, slice_index, slice_set}
use Rattle.nam_calls.specs.Record.{word_in}
use Rattle.nam_calls.specs.Words.{wrapped}
use Rattle.nam_catalog.specs.Fits.{FitsLimits}
use Rattle.nam_catalog.specs.declared.shape.Shape.{Shape}
use Rattle.nam_ghost.proofs.RecordLemmas.{free_says, stamp_says}
use Rattle.nam_ghost.specs.Holders.{Holder, Holds, version_of}
use Rattle.nam_ghost.specs.Locks.{AreHeld, HolderOk, RecordOk, RowOk}
use Rattle.nam_ghost.specs.Steps.{given_back, locked_for, renewed}
use Rattle.nam_ghost.specs.Versions.{Chain, HasData, IsVersion, RecordImage, Version, current_word, record_image}
use Rattle.nam_header.specs.Stamp.{FitsStamp, is_locked, sees, version_word, with_lock}
use Rattle.nam_layout.specs.Address.{IsRow}
use Rattle.nam_layout.specs.Rows.{width_at}
use Rattle.nam_layout.specs.declared.field.Field.{Field}
use Rattle.nam_layout.specs.declared.field.Field.TheVariants.{Count, Header, Word}
use Rattle.nam_locks.proofs.HolderKinds.{releases, seizes, works}
use Rattle.nam_locks.proofs.HolderLemmas.{acts}
use Rattle.nam_locks.proofs.RecordLemmas.{back_ok, count_ok, lock_ok, record_same, renewed_grows, renewed_has}
use Rattle.nam_locks.proofs.RecordLemmas.{renewed_ok, word_ok}
use Rattle.nam_locks.proofs.RowLemmas.{written_apart}
use Rattle.nam_locks.specs.Kinds.{left_behind, one_more, working}
use Rattle.nam_store.proofs.Lists.{put_cases}
use Rattle.nam_store.specs.Changed.{Changed}
use Rattle.nam_store.specs.Everyone.{put}

module _ (shape : Shape) (limits : FitsLimits shape) (m now : Field → ℕ) (chains : ℕ → Chain) (holders : List Holder)
    (ok : AreHeld shape m chains holders) (nth : ℕ) (within : nth < shape.workers) (holder : Holder)
    (here : slice_get holders nth ≡ Some holder) where
  own : HolderOk shape m chains nth holder
  own = ok.each nth holder here

  some : 0 < holder.stamp.thread
  some = let w = own.worker in omega arith

  -- a record that is held is its holder's alone
  alone : (p : ℕ) → Holds holder p → (other : ℕ) → (chains (holder.row p)).holder ≡ other + 1 → other ≡ nth
  alone p holds other e = let a = (own.held p holds).holder_is in let b = own.worker in omega arith

  -- what the words and clients come to, where the chain of a row is this one now
  abbrev pub Comes : ℕ → Chain → Holder → Type 0
  Comes row chain after = AreHeld shape now (put chains row chain) (slice_set holders nth after)

  -- 1. A lock is taken

  pub locks : (word : ℕ) → let row = holder.row (length holder.held) in
      IsRow shape row → holder.from ≤ length holder.held → holder.words ≡ 0 → holder.dirty ≡ false
      → holder.counted ≡ false → length holder.counts ≡ 0 → m (Header row) ≡ word
      → is_locked shape.form word ≡ false → sees shape.form holder.seen word ≡ true
      → Changed shape m now (Header row) (with_lock shape.form holder.stamp.thread word)
      → Comes row (locked_for holder.stamp.thread (chains row)) (one_more holder word)
  locks word is_row from none undirty uncounted uncounted_all is unlocked seen changed =
      let row = holder.row (length holder.held) in
      let worker = holder.stamp.thread in
      let form = shape.form in
      let width = width_at shape.tables row in
      let image = record_image m row in
      let chain = locked_for worker (chains row) in
      let row_ok = ok.rows row is_row in
      let few = limits.most_workers in
      let free = free_says form shape.workers width image (chains row) few row_ok (ap (is_locked form) is ∙ unlocked) in
      let visible = sym (stamp_says form shape.workers width image (chains row) few row_ok holder.seen)
      ∙ ap (sees form holder.seen) is ∙ seen in
      let w = own.worker in
      let clean = row_ok.free free in
      acts shape m chains holders ok nth holder here now row chain (one_more holder word)
      record {
        inside = is_row;
        others = written_apart shape m now (Header row) (with_lock form worker word) changed row refl;
        row_is =
            record_same form shape.workers width (record image { header = with_lock form worker image.header })
            (record_image now row) chain (changed.here ∙ ap (with_lock form worker) (sym is))
            (changed.others (Count row) is_row (λ e. cc))
            (λ word less. changed.others (Word row word) (is_row, less) (λ e. cc))
            (lock_ok form shape.workers width image (chains row) few row_ok worker free some (omega arith));
        grows = λ version is. is;
        before = λ other e. absurd (omega arith);
        after = λ other e. omega arith;
      }
      (seizes shape m chains nth holder own now word is_row from none undirty uncounted uncounted_all free
      record { dirty = clean.0; counted = clean.1 }
      (sym is ∙ row_ok.header_is ∙ ap (λ x. current_word form x (chains row).now) free) visible)

  module _ (is : Holds holder holder.from) where
    abbrev row : ℕ
    row = holder.row holder.from

    abbrev width : ℕ
    width = width_at shape.tables row

    abbrev image : RecordImage
    image = record_image m row

    inside : IsRow shape row
    inside = own.inside holder.from is

    row_ok : RowOk shape m chains row
    row_ok = ok.rows row inside

    held_some : 0 < (chains row).holder
    held_some = let e = (own.held holder.from is).holder_is in let s = some in omega arith

    -- the row's claims, where its header was written, or its count
    header_written : (word : ℕ) (chain : Chain) → Changed shape m now (Header row) word
        → RecordOk shape.form shape.workers width (record image { header = word }) chain
        → RowOk shape now (λ other. chain) row
    header_written word chain changed ok =
        record_same shape.form shape.workers width (record image { header = word }) (record_image now row) chain
        changed.here (changed.others (Count row) inside (λ e. cc))
        (λ word less. changed.others (Word row word) (inside, less) (λ e. cc)) ok

    count_written : (word : ℕ) (chain : Chain) → Changed shape m now (Count row) word
        → RecordOk shape.form shape.workers width (record image { count = word }) chain
        → RowOk shape now (λ other. chain) row
    count_written word chain changed ok =
        record_same shape.form shape.workers width (record image { count = word }) (record_image now row) chain
        (changed.others (Header row) inside (λ e. cc)) changed.here
        (λ word less. changed.others (Word row word) (inside, less) (λ e. cc)) ok

    -- the versions installed so far are still there
    still_installed : (chain : Chain) → ((version : Version) → IsVersion (chains row) version → IsVersion chain version)
        → (p : ℕ) → p < holder.done → IsVersion (put chains row chain (holder.row p)) (version_of holder p)
    still_installed chain grows p less =
        let version = version_of holder p in
        put_cases (λ (c : Chain). IsVersion c version) chains row chain (holder.row p)
        (λ e. grows version (subst (λ x. IsVersion (chains x) version) e (own.installed p less)))
        (λ beside. own.installed p less)

    -- 2. The header of the record at hand is written back

    pub backs : holder.dirty ≡ false → holder.counted ≡ false
        → Changed shape m now (Header row) (slice_index holder.held holder.from)
        → Comes row (given_back (chains row)) (left_behind holder holder.done)
    backs undirty uncounted changed =
        let word = slice_index holder.held holder.from in
        let chain = given_back (chains row) in
        let written = own.written is in
        acts shape m chains holders ok nth holder here now row chain
        (left_behind holder holder.done)
        record {
          inside = inside;
          others = written_apart shape m now (Header row) word changed row refl;
          row_is =
              header_written word chain changed
              (back_ok shape.form shape.workers width image (chains row) limits.most_workers row_ok word
              (own.held holder.from is).header_is (written.dirty ∙ undirty) (written.counted ∙ uncounted));
          grows = λ version is. is;
          before = alone holder.from is;
          after = λ other e. absurd (omega arith);
        }
        (releases shape m chains nth holder own now holder.done chain is refl
        (still_installed chain (λ version is. is)))

    -- 3. A data word is written

    pub words_on : (word : ℕ) → holder.words < width → word ≡ word_in (holder.value holder.from) holder.words
        → Changed shape m now (Word row holder.words) word
        → Comes row (record (chains row) { dirty = true }) (record holder { words = holder.words + 1; dirty = true })
    words_on word narrow value changed =
        let chain : Chain = record (chains row) { dirty = true } in
        let written = own.written is in
        let kept = works shape m chains nth holder own now (holder.words + 1) true (chains row).counted is (omega arith)
        (λ k less. ⊎_elim
        (λ (before : k < holder.words).
        changed.others (Word row k) (inside, omega arith) (λ e. absurd (apart k holder.words (omega arith) e))
        ∙ written.words k before)
        (λ (least : holder.words ≤ k). let e : k ≡ holder.words = omega arith in
        subst (λ x. now (Word row x) ≡ word_in (holder.value holder.from) x) (sym e) (changed.here ∙ value))
        (cases_lt k holder.words)) in
        acts shape m chains holders ok nth holder here now row chain
        (record holder { words = holder.words + 1; dirty = true })
        record {
          inside = inside;
          others = written_apart shape m now (Word row holder.words) word changed row refl;
          row_is =
              record_same shape.form shape.workers width (record image { body = λ k. now (Word row k) })
              (record_image now row) chain (changed.others (Header row) inside (λ e. cc))
              (changed.others (Count row) inside (λ e. cc)) (λ k less. refl)
              (word_ok shape.form shape.workers width image (chains row) limits.most_workers row_ok
              (λ k. now (Word row k)) held_some);
          grows = λ version is. is;
          before = alone holder.from is;
          after = alone holder.from is;
        }
        (subst (λ (counted : Bool). HolderOk shape now (put chains row chain) nth
        (working holder (holder.words + 1) true counted)) written.counted kept)
      where
        number_of : Field → ℕ
        number_of (Word row k) = k
        number_of _ = 0

        apart : (j k : ℕ) → j < k → Word row j ≡ Word row k → ⊥
        apart j k less e = let same = ap number_of e in omega arith

    -- 4. The count is written

    pub counts_on : (count : ℕ) → holder.counted ≡ false → holder.from < length holder.counts
        → slice_index holder.counts holder.from ≡ count
        → Changed shape m now (Count row) (wrapped (count + 1))
        → Comes row (record (chains row) { counted = true }) (record holder { counted = true })
    counts_on count uncounted known found changed =
        let chain : Chain = record (chains row) { counted = true } in
        let written = own.written is in
        let kept = works shape m chains nth holder own now holder.words (chains row).dirty true is (own.narrow is)
        (λ k less. let narrow = own.narrow is in
        changed.others (Word row k) (inside, omega arith) (λ e. cc) ∙ written.words k less) in
        acts shape m chains holders ok nth holder here now row chain (record holder { counted = true })
        record {
          inside = inside;
          others = written_apart shape m now (Count row) (wrapped (count + 1)) changed row refl;
          row_is =
              count_written (wrapped (count + 1)) chain changed
              (count_ok shape.form shape.workers width image (chains row) limits.most_workers row_ok count
              (sym found ∙ (own.held holder.from is).count_is known) held_some);
          grows = λ version is. is;
          before = alone holder.from is;
          after = alone holder.from is;
        }
        (subst (λ (dirty : Bool). HolderOk shape now (put chains row chain) nth
        (working holder holder.words dirty true)) written.dirty kept)

    -- 5. The new header is written

    pub renews : holder.counted ≡ true → holder.done ≡ holder.from → FitsStamp shape.form holder.stamp
        → (is_some (holder.value holder.from) ≡ true → holder.words ≡ width)
        → let version = version_of holder holder.from in
        Changed shape m now (Header row) (version_word shape.form version.stamp (not (is_some version.value)))
        → Comes row (renewed version (chains row)) (left_behind holder (holder.from + 1))
    renews counted done fits whole changed =
        let version = version_of holder holder.from in
        let word = version_word shape.form version.stamp (not (is_some version.value)) in
        let chain = renewed version (chains row) in
        let written = own.written is in
        let grows = renewed_grows (chains row) version in
        acts shape m chains holders ok nth holder here now row chain
        (left_behind holder (holder.from + 1))
        record {
          inside = inside;
          others = written_apart shape m now (Header row) word changed row refl;
          row_is =
              header_written word chain changed
              (renewed_ok shape.form shape.workers width image (chains row) limits.most_workers row_ok version
              (written.counted ∙ counted) fits (whole_data (holder.value holder.from) whole written.words));
          grows = grows;
          before = alone holder.from is;
          after = λ other e. absurd (omega arith);
        }
        (releases shape m chains nth holder own now (holder.from + 1) chain is refl
        (λ p less. ⊎_elim
        (λ (before : p < holder.from). still_installed chain grows p (omega arith))
        (λ (least : holder.from ≤ p). let e : p ≡ holder.from = omega arith in
        subst (λ x. IsVersion (put chains row chain (holder.row x)) (version_of holder x)) (sym e)
        (put_cases (λ (c : Chain). IsVersion c version) chains row chain row
        (λ same. renewed_has (chains row) version) (λ other. absurd (other refl))))
        (cases_lt p holder.from)))
      where
        whole_data : (value : Option (List ℕ)) → (is_some value ≡ true → holder.words ≡ width)
            → ((k : ℕ) → k < holder.words → m (Word row k) ≡ word_in value k)
            → HasData width (λ k. m (Word row k)) value
        whole_data None all words = tt
        whole_data (Some value) all words = λ k less. words k (let e = all refl in omega arith)
