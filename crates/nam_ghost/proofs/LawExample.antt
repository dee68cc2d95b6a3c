-- Every group's claim on one store: a commit has written a data word over the current version, while another client
-- reads that version. Each clause by computing.
use Rattle.nam_calls.specs.Memory.{memory}
use Rattle.nam_calls.specs.Record.{word_in}
use Rattle.nam_calls.specs.Words.{wrapped}
use Rattle.nam_catalog.specs.declared.form.Form.TheVariants.{Narrow}
use Rattle.nam_ghost.proofs.MoveExample.{narrow_shape}
use Rattle.nam_ghost.proofs.Runs.{Calls, Seen, Turns, after_deeds, client_of, opened, stamp, turns}
use Rattle.nam_ghost.proofs.Small.{below_1, below_2, everyone_2, everyone_by, fits_by, of_true}
use Rattle.nam_ghost.specs.Cells.{CellMap}
use Rattle.nam_ghost.specs.Holders.{Holder, Holds, HoldsRow, holder_of}
use Rattle.nam_ghost.specs.Locks.{HeldOk, HolderOk, LocksOk, RowOk, WrittenOk}
use Rattle.nam_ghost.specs.Moments.{AreFound, AreObservers, AtMost, IsCandidate, IsCandidateOf, MomentsOk, Observer}
use Rattle.nam_ghost.specs.Moments.{ObserverOk, observer_of, vector_of}
use Rattle.nam_ghost.specs.Slots.{Ring}
use Rattle.nam_ghost.specs.Versions.{Chain, current_number, current_word}
use Rattle.nam_layout.specs.declared.field.Field.{Field}
use Rattle.nam_layout.specs.declared.field.Field.TheVariants.{Word}
use Rattle.nam_protocol.proofs.Shown.{loaded}
use Rattle.nam_protocol.specs.Opening.{copies, load_from}
use Rattle.nam_protocol.specs.Telling.{new_client}
use Rattle.nam_protocol.specs.declared.client.Call.TheVariants.{Begin, Txn}
use Rattle.nam_protocol.specs.declared.client.ClientState.{ClientState}
use Rattle.nam_protocol.specs.declared.txn.TxnCall.TheVariants.{Commit, Get, Put}
use Rattle.si_model.specs.Lists.{Listed}
use Rattle.std.proofs.Common.{List, None, [], arith, false, inl, inr, length, map, refl, subst, suc, sym, true, zero}
use Rattle.std.proofs.Common.{ℕ, ◌<◌, ◌∙◌, ◌∷◌, ◌≡◌, ◌≤◌}
use Rattle.std.proofs.lemmas.Option.{none-some}
use Rattle.std.specs.Prelude.{slice_index}
use Rattle.std.proofs.lemmas.Option.{none-some, same_Some}

-- the second client has read the header of key 0; then the first one's commit has come to the count
abbrev pub meets : Seen
meets = after_deeds narrow_shape (opened narrow_shape (loaded 0 0 (5 ∷ []) ∷ []))
    (Calls 1 (Begin 9 1) ∷ Turns 1 4 ∷ Calls 1 (Txn (Get 0 0)) ∷ Turns 1 2 ∷ Calls 0 (Begin 1 1) ∷ Turns 0 4 ∷
    Calls 0 (Txn (Put 0 0 (6 ∷ []))) ∷ Turns 0 1 ∷ Calls 0 (Txn Commit) ∷ Turns 0 10 ∷ [])

abbrev pub m : Field → ℕ
m = memory narrow_shape meets.store.words

abbrev pub chains : ℕ → Chain
chains = meets.ghost.chains

abbrev pub rings : ℕ → Ring
rings = meets.ghost.rings

abbrev pub cells : CellMap
cells = meets.ghost.cells

abbrev pub clients : List ClientState
clients = meets.store.clients

abbrev pub one : ClientState
one = client_of meets 0

abbrev pub other : ClientState
other = client_of meets 1

pub two_clients : length clients ≡ 2
unfolding turns copies load_from
two_clients = refl

-- 1. Moments: each client has taken the snapshot without commits

abbrev pub watcher : Observer
watcher = record { number = 0; pass = None; snaps = (0 ∷ 0 ∷ []) ∷ [] }

pub observers_are : map observer_of clients ≡ watcher ∷ watcher ∷ []
unfolding turns copies load_from
observers_are = refl

candidate_of : (s : List ℕ) (k : ℕ) → IsCandidateOf 2 watcher s k → (0 ∷ 0 ∷ []) ≡ s
candidate_of s k (inl passing) = absurd passing
candidate_of s k (inr (confirmed, inl same)) = same
candidate_of s k (inr (confirmed, inr none)) = absurd none

pub candidate_is : (s : List ℕ) (k : ℕ) → IsCandidate 2 (watcher ∷ watcher ∷ []) s k → (0 ∷ 0 ∷ []) ≡ s
candidate_is s k (zero, (x, (e, is))) =
    candidate_of s k (subst (λ x. IsCandidateOf 2 x s k) (sym (same_Some watcher x e)) is)
candidate_is s k (suc zero, (x, (e, is))) =
    candidate_of s k (subst (λ x. IsCandidateOf 2 x s k) (sym (same_Some watcher x e)) is)
candidate_is s k (suc (suc n), (x, (e, is))) = absurd (none-some x e)

abbrev pub V : ℕ → ℕ
V = vector_of m

watcher_ok : (nth : ℕ) → V nth ≡ 0 → ObserverOk 0 2 V nth watcher
watcher_ok nth entry = record { entry = entry; pass = tt; finds_own = tt; wide = wide_of }
  where
    wide_of : (s : List ℕ) → Listed s ((0 ∷ 0 ∷ []) ∷ []) → length s ≡ 2
    wide_of s (inl same) = subst (λ (s : List ℕ). length s ≡ 2) same refl
    wide_of s (inr none) = absurd none

found_in : AreFound 0 V 2 (0 ∷ 0 ∷ [])
unfolding turns copies load_from
found_in = below_2 (λ a. (0 ≤ slice_index (0 ∷ 0 ∷ []) a) × (slice_index (0 ∷ 0 ∷ []) a ≤ V a))
    (omega arith, omega arith) (omega arith, omega arith)

least_of : (a : ℕ) → a < 2 → 0 ≤ V a
least_of a less = omega arith

no_entry : (nth : ℕ) → nth < 2 → V nth ≡ 0
unfolding turns copies load_from
no_entry = below_2 (λ nth. V nth ≡ 0) refl refl

observers_ok : AreObservers 0 2 V (watcher ∷ watcher ∷ [])
observers_ok = record {
  all = refl;
  least = least_of;
  each = everyone_2 (ObserverOk 0 2 V) watcher watcher (watcher_ok 0 (no_entry 0 (omega arith)))
      (watcher_ok 1 (no_entry 1 (omega arith)));
  moments = record {
    within = λ s k is. subst (AreFound 0 V 2) (candidate_is s k is) found_in;
    ordered = λ s t k l is js us ut.
        inl (subst (λ s. AtMost 2 s t) (candidate_is s k is)
        (subst (λ t. AtMost 2 (0 ∷ 0 ∷ []) t) (candidate_is t l js) (λ a less. omega arith)));
  };
}

pub moments_ok : MomentsOk narrow_shape meets.store
unfolding turns copies load_from
moments_ok = observers_ok

-- 2. Locks

row_ok : RowOk narrow_shape m chains 0
unfolding turns copies load_from
row_ok = record {
  header_is = refl;
  fits = fits_by Narrow (stamp 0 0) refl refl;
  count_is = refl;
  data_is = of_true;
  free = λ none. absurd (omega arith);
  worker = omega arith;
}

abbrev pub holder : Holder
holder = holder_of one

pub only : (p : ℕ) → Holds holder p → p ≡ 0
unfolding turns copies load_from
only p holds = let less : p < 1 = holds.ends in omega arith

pub row_0 : holder.row 0 ≡ 0
unfolding turns copies load_from
row_0 = refl

held_0 : HeldOk Narrow holder 0 (chains 0)
unfolding turns copies load_from
held_0 = record {
  holder_is = let a : (chains 0).holder ≡ 1 = refl in let b : holder.stamp.thread ≡ 1 = refl in a ∙ sym b;
  header_is =
      let a : slice_index holder.held 0 ≡ 0 = refl in
      let b : current_word Narrow 0 (chains 0).now ≡ 0 = refl in a ∙ sym b;
  sees = refl;
  count_is = λ less.
      let a : slice_index holder.counts 0 ≡ 0 = refl in
      let b : wrapped (current_number (chains 0)) ≡ 0 = refl in a ∙ sym b;
}

written_0 : WrittenOk holder (λ word. m (Word 0 word)) (chains 0)
unfolding turns copies load_from
written_0 = record {
  dirty = let a : (chains 0).dirty ≡ true = refl in let b : holder.dirty ≡ true = refl in a ∙ sym b;
  counted = let a : (chains 0).counted ≡ false = refl in let b : holder.counted ≡ false = refl in a ∙ sym b;
  words = below_1 (λ nth. m (Word 0 nth) ≡ word_in (holder.value holder.from) nth)
      (let a : m (Word 0 0) ≡ 6 = refl in let b : word_in (holder.value holder.from) 0 ≡ 6 = refl in a ∙ sym b);
}

owns_0 : (row : ℕ) → row < 1 → (chains row).holder ≡ 1 → HoldsRow holder row
unfolding turns copies load_from
owns_0 = below_1 (λ row. (chains row).holder ≡ 1 → HoldsRow holder row)
    (λ own. (0, record { begins = omega arith; ends = omega arith }, refl))

holder_ok : HolderOk narrow_shape m chains 0 holder
unfolding turns copies load_from
holder_ok = record {
  worker = refl;
  inside = λ p holds. subst (λ q. holder.row q < 1) (sym (only p holds)) (subst (λ r. r < 1) (sym row_0) (omega arith));
  held = λ p holds. subst (λ q. HeldOk Narrow holder q (chains (holder.row q))) (sym (only p holds)) held_0;
  written = λ holds. written_0;
  narrow = λ holds. omega arith;
  clean = λ p holds apart. absurd (apart (only p holds));
  apart = λ p q first second apart. absurd (apart (only p first ∙ sym (only q second)));
  owns = owns_0;
  installed = λ p less. absurd (omega arith);
}

abbrev pub idle : Holder
idle = holder_of other

pub holds_none : (p : ℕ) → Holds idle p → ⊥
unfolding turns copies load_from
holds_none p holds = let less : p < 0 = holds.ends in omega arith

owns_none : (row : ℕ) → row < 1 → (chains row).holder ≡ 2 → HoldsRow idle row
unfolding turns copies load_from
owns_none = below_1 (λ row. (chains row).holder ≡ 2 → HoldsRow idle row)
    (λ e. let a : 1 ≡ 2 = e in absurd (omega arith))

idle_ok : HolderOk narrow_shape m chains 1 idle
unfolding turns copies load_from
idle_ok = record {
  worker = refl;
  inside = λ p holds. absurd (holds_none p holds);
  held = λ p holds. absurd (holds_none p holds);
  written = λ holds. absurd (holds_none 0 holds);
  narrow = λ holds. absurd (holds_none 0 holds);
  clean = λ p holds apart. absurd (holds_none p holds);
  apart = λ p q first second apart. absurd (holds_none p first);
  owns = owns_none;
  installed = λ p less. absurd (omega arith);
}

two_holders : length (map holder_of clients) ≡ 2
unfolding turns copies load_from
two_holders = refl

pub locks_ok : LocksOk narrow_shape meets.store chains
locks_ok = record {
  all = two_holders;
  rows = below_1 (RowOk narrow_shape m chains) row_ok;
  each = everyone_by holder_of (HolderOk narrow_shape m chains) (new_client 0 0) clients two_clients holder_ok idle_ok;
}
