-- What a step of a client makes of the claims on itself: a record is left, a lock is taken, a word is written at the
-- record at hand, a count is found, nothing is held.
use Rattle.std.proofs.Common.{Bool, List, [], ap, arith, false, length, refl, subst, sym, true, ℕ, ⊎_elim, ◌++◌, ◌+◌}
use Rattle.std.proofs.Common.{◌<◌, ◌∙◌, ◌∷◌, ◌≡◌, ◌≢◌, ◌≤◌}
use Rattle.std.proofs.lemmas.Bool.{cases_eq, cases_lt}
use Rattle.std.proofs.lemmas.List.{get_or_append_left, get_or_push, length_push}
use Rattle.std.specs.Prelude.{slice_index}
use Rattle.nam_calls.specs.Record.{word_in}
use Rattle.nam_calls.specs.Words.{wrapped}
use Rattle.nam_catalog.specs.declared.shape.Shape.{Shape}
use Rattle.nam_ghost.specs.Holders.{Holder, Holds, HoldsRow, version_of}
use Rattle.nam_ghost.specs.Locks.{CleanOk, HeldOk, HolderOk, RowOk, WrittenOk}
use Rattle.nam_ghost.specs.Steps.{locked_for}
use Rattle.nam_ghost.specs.Versions.{Chain, IsVersion, current_number, current_word}
use Rattle.nam_header.specs.Header.{flag}
use Rattle.nam_header.specs.Visible.{is_visible}
use Rattle.nam_layout.specs.Address.{IsRow}
use Rattle.nam_layout.specs.Rows.{width_at}
use Rattle.nam_layout.specs.declared.field.Field.{Field}
use Rattle.nam_layout.specs.declared.field.Field.TheVariants.{Count, Word}
use Rattle.nam_locks.specs.Kinds.{left_behind, one_more, worked, working}
use Rattle.nam_store.proofs.Lists.{put_beside, put_cases, put_here}
use Rattle.nam_store.specs.Everyone.{put}

module _ (shape : Shape) (m : Field → ℕ) (chains : ℕ → Chain) (nth : ℕ) (holder : Holder)
    (own : HolderOk shape m chains nth holder) where
  abbrev row : ℕ → ℕ
  row = holder.row

  abbrev hand : ℕ
  hand = holder.row holder.from

  -- the chain of a row that is held is so far unwritten, where nothing was written at the record at hand
  unwritten : holder.dirty ≡ false → holder.counted ≡ false → (p : ℕ) → Holds holder p → CleanOk (chains (row p))
  unwritten undirty uncounted p holds =
      ⊎_elim (λ (e : p ≡ holder.from). let w = own.written (subst (Holds holder) e holds) in
      subst (λ x. CleanOk (chains (row x))) (sym e) record {
        dirty = w.dirty ∙ undirty;
        counted = w.counted ∙ uncounted;
      })
      (λ (other : p ≢ holder.from). own.clean p holds other) (cases_eq p holder.from)

  -- 1. The record at hand is left: its header is written

  pub releases : (now : Field → ℕ) (done : ℕ) (chain : Chain) → Holds holder holder.from → chain.holder ≡ 0
      → ((p : ℕ) → p < done → IsVersion (put chains hand chain (row p)) (version_of holder p))
      → HolderOk shape now (put chains hand chain) nth (left_behind holder done)
  releases now done chain is unlocked installed =
      let after = left_behind holder done in
      let later : ℕ → Chain = put chains hand chain in
      let was : (p : ℕ) → Holds after p → Holds holder p = λ p holds.
      record { begins = let b = holds.begins in omega arith; ends = holds.ends } in
      let past : (p : ℕ) → Holds after p → p ≢ holder.from = λ p holds e.
      let b = holds.begins in absurd (omega arith) in
      let stays : (p : ℕ) → Holds after p → later (row p) ≡ chains (row p) = λ p holds.
      put_beside chains hand chain (row p) (own.apart p holder.from (was p holds) is (past p holds)) in
      record {
        worker = own.worker;
        inside = λ p holds. own.inside p (was p holds);
        held = λ p holds.
            let o = own.held p (was p holds) in
            subst (HeldOk shape.form after p) (sym (stays p holds)) record {
              holder_is = o.holder_is;
              header_is = o.header_is;
              sees = o.sees;
              count_is = o.count_is;
            };
        written = λ holds.
            let clean = own.clean (holder.from + 1) (was (holder.from + 1) holds) (λ e. absurd (omega arith)) in
            let same = stays (holder.from + 1) holds in
            record {
              dirty = ap (λ (c : Chain). c.dirty) same ∙ clean.dirty;
              counted = ap (λ (c : Chain). c.counted) same ∙ clean.counted;
              words = λ word less. absurd (omega arith);
            };
        narrow = λ holds. omega arith;
        clean = λ p holds other. subst CleanOk (sym (stays p holds)) (own.clean p (was p holds) (past p holds));
        apart = λ p q a b. own.apart p q (was p a) (was q b);
        owns = λ r inside.
            put_cases (λ (c : Chain). c.holder ≡ nth + 1 → HoldsRow after r) chains hand chain r
            (λ e held. absurd (omega arith))
            (λ beside held. let o = own.owns r inside held in
            let from_past : o.0 ≢ holder.from = λ e. beside (sym o.2 ∙ ap row e) in
            let b = o.1.begins in
            (o.0, record { begins = more holder.from o.0 b from_past; ends = o.1.ends }, o.2));
        installed = λ p less. installed p less;
      }
    where
      more : (a b : ℕ) → a ≤ b → b ≢ a → a + 1 ≤ b
      more a b least other =
          ⊎_elim (λ (l : a < b). omega arith) (λ (l : b ≤ a). absurd (other (omega arith))) (cases_lt a b)

  -- 2. One lock more is taken

  abbrev next_row : ℕ
  next_row = holder.row (length holder.held)

  pub seizes : (now : Field → ℕ) (word : ℕ) → let chain = chains next_row in
      IsRow shape next_row → holder.from ≤ length holder.held → holder.words ≡ 0 → holder.dirty ≡ false
      → holder.counted ≡ false → length holder.counts ≡ 0 → chain.holder ≡ 0 → CleanOk chain
      → word ≡ current_word shape.form 0 chain.now → is_visible chain.now.stamp holder.seen ≡ true
      → HolderOk shape now (put chains next_row (locked_for holder.stamp.thread chain)) nth (one_more holder word)
  seizes now word is_row from_less none undirty uncounted uncounted_all free clean is sees =
      let chain : Chain = locked_for holder.stamp.thread (chains next_row) in
      let later : ℕ → Chain = put chains next_row chain in
      let after = one_more holder word in
      let last = length holder.held in
      let long : length after.held ≡ last + 1 = length_push holder.held word in
      let was : (p : ℕ) → Holds after p → p < last → Holds holder p = λ p holds less.
      record { begins = holds.begins; ends = less } in
      let beside : (p : ℕ) → Holds holder p → row p ≢ next_row = λ p holds e.
      let a = (own.held p holds).holder_is in let b = own.worker in
      let c = ap (λ r. (chains r).holder) e in
      absurd (omega arith) in
      let stays : (p : ℕ) → Holds holder p → later (row p) ≡ chains (row p) = λ p holds.
      put_beside chains next_row chain (row p) (beside p holds) in
      let here : later next_row ≡ chain = put_here chains next_row chain in
      let is_last : (p : ℕ) → Holds after p → last ≤ p → p ≡ last = λ p holds l. let e = holds.ends in omega arith in
      let by : (P : ℕ → Type 0) → ((p : ℕ) → Holds holder p → P p) → P last → (p : ℕ) → Holds after p → P p =
      λ P old new p holds. ⊎_elim (λ (less : p < last). old p (was p holds less))
      (λ (least : last ≤ p). subst P (sym (is_last p holds least)) new) (cases_lt p last) in
      record {
        worker = own.worker;
        inside = by (λ p. IsRow shape (row p)) own.inside is_row;
        held =
            by (λ p. HeldOk shape.form after p (later (row p)))
            (λ p holds. let o = own.held p holds in
            subst (HeldOk shape.form after p) (sym (stays p holds)) record {
              holder_is = o.holder_is;
              header_is = get_or_append_left holder.held (word ∷ []) 0 p holds.ends ∙ o.header_is;
              sees = o.sees;
              count_is = o.count_is;
            })
            (subst (HeldOk shape.form after last) (sym here) record {
              holder_is = refl;
              header_is = get_or_push holder.held word 0 last refl ∙ is;
              sees = sees;
              count_is = λ less. absurd (omega arith);
            });
        written = λ holds.
            by (λ p. WrittenOk after (λ nth. now (Word (row p) nth)) (later (row p)))
            (λ p old. let c = unwritten undirty uncounted p old in
            subst (WrittenOk after (λ nth. now (Word (row p) nth))) (sym (stays p old)) record {
              dirty = c.dirty ∙ sym undirty;
              counted = c.counted ∙ sym uncounted;
              words = λ nth less. absurd (omega arith);
            })
            (subst (WrittenOk after (λ nth. now (Word next_row nth))) (sym here) record {
              dirty = clean.dirty ∙ sym undirty;
              counted = clean.counted ∙ sym uncounted;
              words = λ nth less. absurd (omega arith);
            })
            holder.from holds;
        narrow = λ holds. omega arith;
        clean = λ p holds other.
            by (λ p. p ≢ holder.from → CleanOk (later (row p)))
            (λ p old other. subst CleanOk (sym (stays p old)) (own.clean p old other))
            (λ other. subst CleanOk (sym here) record { dirty = clean.dirty; counted = clean.counted }) p holds other;
        apart = λ p q a b other.
            by (λ p. (q : ℕ) → Holds after q → p ≢ q → row p ≢ row q)
            (λ p a q b other.
            by (λ q. p ≢ q → row p ≢ row q) (λ q b other. own.apart p q a b other) (λ other. beside p a) q b other)
            (λ q b other.
            by (λ q. last ≢ q → next_row ≢ row q) (λ q b other e. beside q b (sym e))
            (λ other. absurd (other refl)) q b other)
            p a q b other;
        owns = λ r inside.
            put_cases (λ (c : Chain). c.holder ≡ nth + 1 → HoldsRow after r) chains next_row chain r
            (λ e held. (last, record { begins = from_less; ends = omega arith }, sym e))
            (λ other held. let o = own.owns r inside held in let b = o.1.ends in
            (o.0, record { begins = o.1.begins; ends = omega arith }, o.2));
        installed = λ p less.
            put_cases (λ (c : Chain). IsVersion c (version_of holder p)) chains next_row chain (row p)
            (λ e. subst (λ r. IsVersion (chains r) (version_of holder p)) e (own.installed p less))
            (λ other. own.installed p less);
      }

  -- 3. A word is written at the record at hand

  pub works : (now : Field → ℕ) (words : ℕ) (dirty counted : Bool) → Holds holder holder.from
      → words ≤ width_at shape.tables hand
      → ((word : ℕ) → word < words → now (Word hand word) ≡ word_in (holder.value holder.from) word)
      → HolderOk shape now (put chains hand (worked (chains hand) dirty counted)) nth
      (working holder words dirty counted)
  works now words dirty counted is narrow written =
      let chain = worked (chains hand) dirty counted in
      let later : ℕ → Chain = put chains hand chain in
      let after = working holder words dirty counted in
      let same : (p : ℕ) → Holds after p → Holds holder p = λ p holds.
      record { begins = holds.begins; ends = holds.ends } in
      let here : later hand ≡ chain = put_here chains hand chain in
      let stays : (p : ℕ) → Holds after p → p ≢ holder.from → later (row p) ≡ chains (row p) = λ p holds other.
      put_beside chains hand chain (row p) (own.apart p holder.from (same p holds) is other) in
      record {
        worker = own.worker;
        inside = λ p holds. own.inside p (same p holds);
        held = λ p holds.
            let o = own.held p (same p holds) in let f = own.held holder.from is in
            ⊎_elim
            (λ (e : p ≡ holder.from). subst (λ x. HeldOk shape.form after x (later (row x))) (sym e)
            (subst (HeldOk shape.form after holder.from) (sym here) record {
              holder_is = f.holder_is;
              header_is = f.header_is;
              sees = f.sees;
              count_is = f.count_is;
            }))
            (λ (other : p ≢ holder.from). subst (HeldOk shape.form after p) (sym (stays p holds other)) record {
              holder_is = o.holder_is;
              header_is = o.header_is;
              sees = o.sees;
              count_is = o.count_is;
            })
            (cases_eq p holder.from);
        written = λ holds.
            subst (WrittenOk after (λ word. now (Word hand word))) (sym here)
            record { dirty = refl; counted = refl; words = written };
        narrow = λ holds. narrow;
        clean = λ p holds other. subst CleanOk (sym (stays p holds other)) (own.clean p (same p holds) other);
        apart = λ p q a b. own.apart p q (same p a) (same q b);
        owns = λ r inside held.
            let o = own.owns r inside
            (put_cases (λ (c : Chain). c.holder ≡ nth + 1 → (chains r).holder ≡ nth + 1) chains hand chain r
            (λ e h. ap (λ x. (chains x).holder) e ∙ h) (λ other h. h) held) in
            (o.0, record { begins = o.1.begins; ends = o.1.ends }, o.2);
        installed = λ p less.
            put_cases (λ (c : Chain). IsVersion c (version_of holder p)) chains hand chain (row p)
            (λ e. subst (λ r. IsVersion (chains r) (version_of holder p)) e (own.installed p less))
            (λ other. own.installed p less);
      }

  -- 4. A number is found under a lock, or the numbers are others

  pub recounts : (counts : List ℕ)
      → ((p : ℕ) → Holds holder p → p < length counts
      → slice_index counts p ≡ wrapped (current_number (chains (row p))))
      → HolderOk shape m chains nth (record holder { counts = counts })
  recounts counts known =
      let same : (p : ℕ) → Holds (record holder { counts = counts }) p → Holds holder p = λ p holds.
      record { begins = holds.begins; ends = holds.ends } in
      record {
        worker = own.worker;
        inside = λ p holds. own.inside p (same p holds);
        held = λ p holds.
            let o = own.held p (same p holds) in
            record {
              holder_is = o.holder_is;
              header_is = o.header_is;
              sees = o.sees;
              count_is = known p (same p holds);
            };
        written = λ holds.
            let w = own.written (same holder.from holds) in
            record { dirty = w.dirty; counted = w.counted; words = w.words };
        narrow = λ holds. own.narrow (same holder.from holds);
        clean = λ p holds other. own.clean p (same p holds) other;
        apart = λ p q a b. own.apart p q (same p a) (same q b);
        owns = λ r inside held.
            let o = own.owns r inside held in
            (o.0, record { begins = o.1.begins; ends = o.1.ends }, o.2);
        installed = own.installed;
      }

  pub counts_more : (count : ℕ) → holder.dirty ≡ false → holder.counted ≡ false
      → let found = length holder.counts in
      Holds holder found → RowOk shape m chains (row found) → count ≡ m (Count (row found))
      → HolderOk shape m chains nth (record holder { counts = holder.counts ++ count ∷ [] })
  counts_more count undirty uncounted holds row_ok is =
      let found = length holder.counts in
      let chain = chains (row found) in
      let long : length (holder.counts ++ count ∷ []) ≡ found + 1 = length_push holder.counts count in
      let clean = (unwritten undirty uncounted found holds).counted in
      let number : count ≡ wrapped (current_number chain) =
      is ∙ row_ok.count_is ∙ ap (λ (b : Bool). wrapped (current_number chain + flag b)) clean
      ∙ ap wrapped (let z : current_number chain + 0 ≡ current_number chain = omega arith in z) in
      recounts (holder.counts ++ count ∷ [])
      (λ p a l. ⊎_elim
      (λ (less : p < found). get_or_append_left holder.counts (count ∷ []) 0 p less ∙ (own.held p a).count_is less)
      (λ (least : found ≤ p). let same : p ≡ found = omega arith in
      subst (λ x. slice_index (holder.counts ++ count ∷ []) x ≡ wrapped (current_number (chains (row x)))) (sym same)
      (get_or_push holder.counts count 0 found refl ∙ number))
      (cases_lt p found))

  -- 5. Nothing was held, nor is it

  pub holds_nothing : (after : Holder) → length holder.held ≤ holder.from → after.stamp.thread ≡ nth + 1
      → length after.held ≤ after.from
      → ((p : ℕ) → p < after.done → IsVersion (chains (after.row p)) (version_of after p))
      → HolderOk shape m chains nth after
  holds_nothing after past worker none installed =
      let no : (p : ℕ) → Holds after p → ⊥ = λ p holds.
      let a = holds.begins in let b = holds.ends in omega arith in
      record {
        worker = worker;
        inside = λ p holds. absurd (no p holds);
        held = λ p holds. absurd (no p holds);
        written = λ holds. absurd (no after.from holds);
        narrow = λ holds. absurd (no after.from holds);
        clean = λ p holds other. absurd (no p holds);
        apart = λ p q a b. absurd (no p a);
        owns = λ r inside held.
            let o = own.owns r inside held in let a = o.1.begins in let b = o.1.ends in absurd (omega arith);
        installed = installed;
      }
