-- A step of one client: what is said of all others stays, by what the step owes them.
use Rattle.std.proofs.Common.{List, Some, ap, arith, length-set, refl, subst, sym, ℕ, ◌+◌, ◌∙◌, ◌≡◌, ◌≢◌}
use Rattle.std.specs.Prelude.{slice_get, slice_set}
use Rattle.nam_catalog.specs.declared.shape.Shape.{Shape}
use Rattle.nam_ghost.specs.Holders.{Holder, Holds, version_of}
use Rattle.nam_ghost.specs.Locks.{AreHeld, CleanOk, HeldOk, HolderOk, RowOk, Spared}
use Rattle.nam_ghost.specs.Versions.{Chain, IsVersion, Version, record_image}
use Rattle.nam_layout.specs.Address.{IsRow}
use Rattle.nam_layout.specs.Rows.{width_at}
use Rattle.nam_layout.specs.declared.field.Field.{Field}
use Rattle.nam_locks.proofs.RecordLemmas.{record_same}
use Rattle.nam_locks.proofs.RowLemmas.{same_rows}
use Rattle.nam_locks.specs.Rows.{OtherRows, SameRow, SameRows}
use Rattle.nam_store.proofs.Lists.{everyone_set, get_set, put_beside, put_cases, set_twice}
use Rattle.nam_store.specs.Everyone.{put}

-- 1. What is said of a client stays so where it is spared

module _ (shape : Shape) (m now : Field → ℕ) (chains later : ℕ → Chain) (nth : ℕ) where
  pub holder_spared : (holder : Holder) → Spared shape m now chains later nth → HolderOk shape m chains nth holder
      → HolderOk shape now later nth holder
  holder_spared holder spared ok =
      let row = holder.row in
      let is_own : (p : ℕ) → Holds holder p → (chains (row p)).holder ≡ nth + 1 =
      λ p holds. (ok.held p holds).holder_is ∙ ok.worker in
      let stays : (p : ℕ) → Holds holder p → later (row p) ≡ chains (row p) =
      λ p holds. (spared.same (row p) (ok.inside p holds) (is_own p holds)).0 in
      record {
        worker = ok.worker;
        inside = ok.inside;
        held = λ p holds. subst (HeldOk shape.form holder p) (sym (stays p holds)) (ok.held p holds);
        written = λ holds.
            let words = (spared.same (row holder.from) (ok.inside holder.from holds) (is_own holder.from holds)).1 in
            let w = ok.written holds in
            let n = ok.narrow holds in
            record {
              dirty = ap (λ (chain : Chain). chain.dirty) (stays holder.from holds) ∙ w.dirty;
              counted = ap (λ (chain : Chain). chain.counted) (stays holder.from holds) ∙ w.counted;
              words = λ word less. words word (omega arith) ∙ w.words word less;
            };
        narrow = ok.narrow;
        clean = λ p holds other. subst CleanOk (sym (stays p holds)) (ok.clean p holds other);
        apart = ok.apart;
        owns = λ r is e. ok.owns r is (spared.none_new r is e);
        installed = λ p less. spared.grows (row p) (version_of holder p) (ok.installed p less);
      }

-- so it is where no word of a current version was written
pub still_spared : (shape : Shape) (m now : Field → ℕ) (chains : ℕ → Chain) (nth : ℕ) → SameRows shape m now
    → Spared shape m now chains chains nth
still_spared shape m now chains nth same = record {
  grows = λ row version is. is;
  same = λ row is e. (refl, (same row is).word);
  none_new = λ row is e. e;
}

-- a row's claims, where its words are what they were
pub row_ok_same : (shape : Shape) (m now : Field → ℕ) (chains : ℕ → Chain) (row : ℕ) → SameRow shape m now row
    → RowOk shape m chains row → RowOk shape now chains row
row_ok_same shape m now chains row same ok =
    record_same shape.form shape.workers (width_at shape.tables row) (record_image m row) (record_image now row)
    (chains row) same.header same.count same.word ok

-- 2. The step of one client, the nth

module _ (shape : Shape) (m : Field → ℕ) (chains : ℕ → Chain) (holders : List Holder)
    (ok : AreHeld shape m chains holders) (nth : ℕ) (holder : Holder) (here : slice_get holders nth ≡ Some holder) where
  -- no word of a current version was written
  pub looks : (now : Field → ℕ) (after : Holder) → SameRows shape m now → HolderOk shape now chains nth after
      → AreHeld shape now chains (slice_set holders nth after)
  looks now after same kept = record {
    all = length-set holders nth after ∙ ok.all;
    rows = λ row is. row_ok_same shape m now chains row (same row is) (ok.rows row is);
    each = everyone_set (HolderOk shape m chains) (HolderOk shape now chains) holders nth after ok.each
        (λ other x apart e o. holder_spared shape m now chains chains other x
        (still_spared shape m now chains other same) o) kept;
  }

  -- words of one row were written, which no other client holds before or after
  pub record Act (now : Field → ℕ) (row : ℕ) (chain : Chain) : Type 0 where
    pub inside : IsRow shape row
    pub others : OtherRows shape m now row
    pub row_is : RowOk shape now (λ other. chain) row
    pub grows : (version : Version) → IsVersion (chains row) version → IsVersion chain version
    pub before : (other : ℕ) → (chains row).holder ≡ other + 1 → other ≡ nth
    pub after : (other : ℕ) → chain.holder ≡ other + 1 → other ≡ nth

  pub acts : (now : Field → ℕ) (row : ℕ) (chain : Chain) (after : Holder) → Act now row chain
      → HolderOk shape now (put chains row chain) nth after
      → AreHeld shape now (put chains row chain) (slice_set holders nth after)
  acts now row chain after act kept =
      let later : ℕ → Chain = put chains row chain in
      let spared : (other : ℕ) → other ≢ nth → Spared shape m now chains later other = λ other apart. record {
        grows = λ r version is.
            put_cases (λ (c : Chain). IsVersion c version) chains row chain r
            (λ e. act.grows version (subst (λ x. IsVersion (chains x) version) e is)) (λ e. is);
        same = λ r is e.
            let beside : r ≢ row = λ same. apart (act.before other (subst (λ x. (chains x).holder ≡ other + 1) same e))
            in
            (put_beside chains row chain r beside, (act.others r is beside).word);
        none_new = λ r is.
            put_cases (λ (c : Chain). c.holder ≡ other + 1 → (chains r).holder ≡ other + 1) chains row chain r
            (λ e held. absurd (apart (act.after other held))) (λ e held. held);
      } in
      record {
        all = length-set holders nth after ∙ ok.all;
        rows = λ r is. put_cases (λ (c : Chain). RowOk shape now (λ other. c) r) chains row chain r
            (λ e. subst (RowOk shape now (λ other. chain)) (sym e) act.row_is)
            (λ beside. row_ok_same shape m now chains r (act.others r is beside) (ok.rows r is));
        each = everyone_set (HolderOk shape m chains) (HolderOk shape now later) holders nth after ok.each
            (λ other x apart e o. holder_spared shape m now chains later other x (spared other apart) o) kept;
      }

-- another view of the same client
pub seen_as : (shape : Shape) (m : Field → ℕ) (chains : ℕ → Chain) (holders : List Holder) (nth : ℕ)
    (was first later : Holder) → slice_get holders nth ≡ Some was
    → AreHeld shape m chains (slice_set holders nth first)
    → (HolderOk shape m chains nth first → HolderOk shape m chains nth later)
    → AreHeld shape m chains (slice_set holders nth later)
seen_as shape m chains holders nth was first later here ok kept =
    let at = get_set holders nth was first here in
    subst (AreHeld shape m chains) (set_twice holders nth first later)
    (looks shape m chains (slice_set holders nth first) ok nth first at m later (same_rows shape m)
    (kept (ok.each nth first at)))
