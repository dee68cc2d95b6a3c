-- What a reader may rely on of a row and its ring stays, whatever a step makes of them.
use Rattle.std.proofs.Common.{List, None, Option, Some, [], ap, arith, false, inl, inr, length, refl, slice_get, subst}
use Rattle.std.proofs.Common.{sym, true, ℕ, ⊎_elim, ◌++◌, ◌<◌, ◌∙◌, ◌∷◌, ◌≡◌, ◌≤◌, ◌⊎◌}
use Rattle.std.proofs.lemmas.List.{length_push}
use Rattle.std.proofs.lemmas.Option.{none-some, same_Some, slice_get_within}
use Rattle.std.specs.Prelude.{Bool}
use Rattle.nam_calls.specs.Fits.{RingFits}
use Rattle.nam_calls.specs.declared.ring.RingPoint.{RingPoint}
use Rattle.nam_calls.specs.declared.ring.RingPoint.TheVariants.{SlotAgain, SlotEnding, SlotHead, SlotWords}
use Rattle.nam_catalog.specs.declared.shape.Shape.{Shape}
use Rattle.nam_ghost.proofs.ListLemmas.{got_push}
use Rattle.nam_ghost.proofs.RowLemmas.{moved_keeps}
use Rattle.nam_ghost.specs.Cells.{OldOk}
use Rattle.nam_ghost.specs.Reads.{CurrentWith, HeaderRead, IsUnsure, OldRingAt, RecheckAt, UnsureAt}
use Rattle.nam_ghost.specs.Slots.{Copies, Flags, GetsCopy, GetsFlag, GetsMark, Idles, IsFreeSlot, Keeps, KeepsOn, Kept}
use Rattle.nam_ghost.specs.Slots.{Marks, Renews, Ring, RowNext, SlotNext, copied_count, copy_of, home, moved_of}
use Rattle.nam_ghost.specs.Turn.{Turn}
use Rattle.nam_ghost.specs.Versions.{Chain, HasGot, IsNth, Version, current_number, versions}
use Rattle.nam_ghost.specs.Wanted.{IsAhead, IsTested, RingAt, SlotTest, TestAt, Wanted}
use Rattle.nam_header.specs.Visible.{is_visible}
use Rattle.nam_layout.proofs.LimitLemmas.{place_within_limits}
use Rattle.nam_layout.specs.Address.{IsRow}
use Rattle.nam_layout.specs.Place.{place_at}
use Rattle.nam_layout.specs.Rows.{ring_at}
use Rattle.nam_layout.specs.declared.field.Place.{Place}
use Rattle.nam_store.proofs.Lists.{put_cases}
use Rattle.si_model.specs.declared.log.Stamp.{Stamp}

-- 1. A slot: a version that was copied stays the one with its number, and ends so

goes_back : (copied : ℕ) (was is : Option Kept) → SlotNext copied was is → (kept : Kept) → is ≡ Some kept
    → kept.number < copied
    → (before : Kept) × (was ≡ Some before) × (before.number ≡ kept.number) × (before.next ≡ kept.next)
goes_back copied was _ KeepsOn kept at less = (kept, at, refl, refl)
goes_back copied _ _ (GetsMark moved) kept at less = absurd (none-some kept at)
goes_back copied _ _ (GetsCopy {kept} number) other at less =
    let same = ap (λ (k : Kept). k.number) (same_Some kept other at) in absurd (omega arith)
goes_back copied _ _ (GetsFlag {kept}) other at less =
    let same = same_Some (record kept { moved = true }) other at in
    (kept, refl, ap (λ (k : Kept). k.number) same, ap (λ (k : Kept). k.next) same)

module _ (place : Place) (Flagged : ℕ → Type 0) (New : Version → Type 0) where
  -- 2. Versions

  pub longer : (chain later : Chain) (ring next : Ring) → RowNext place Flagged New chain ring later next
      → current_number chain ≤ current_number later
  longer chain later ring _ (Idles old now clean) = let same = ap length old in omega arith
  longer chain _ ring _ (Marks slot free before) = omega arith
  longer chain _ ring _ (Copies next empty) = omega arith
  longer chain _ ring _ (Flags slot elsewhere) = omega arith
  longer chain later ring _ (Renews old new whole ends) =
      let same = ap length old in let long = length_push chain.old chain.now in omega arith

  -- a version that is there was there, or is new
  nth_before : (chain later : Chain) (ring next : Ring) → RowNext place Flagged New chain ring later next → (n : ℕ)
      (version : Version) → IsNth later n version → IsNth chain n version ⊎ New version
  nth_before chain later ring _ (Idles old now clean) n version is =
      inl (sym (λ k. slice_get (old k ++ now k ∷ []) n) ∙ is)
  nth_before chain _ ring _ (Marks slot free before) n version is = inl is
  nth_before chain _ ring _ (Copies next empty) n version is = inl is
  nth_before chain _ ring _ (Flags slot elsewhere) n version is = inl is
  nth_before chain later ring _ (Renews old new whole ends) n version is =
      ⊎_elim (λ there. inl there)
      (λ (last : (n ≡ length (versions chain)) × (later.now ≡ version)). inr (subst New last.1 new))
      (got_push (versions chain) later.now version n (sym (ap (λ vs. slice_get (vs ++ later.now ∷ []) n) old) ∙ is))

  -- what was got under the header, while its version is the current one and not written over
  got_stays : (number : ℕ) (version : Version) (got : List ℕ) (chain later : Chain) (ring next : Ring)
      → RowNext place Flagged New chain ring later next → IsNth chain number version
      → (number ≡ current_number chain → chain.dirty ≡ false → HasGot got version.value)
      → number ≡ current_number later → later.dirty ≡ false → HasGot got version.value
  got_stays number version got chain later ring _ (Idles old now clean) is has same unwritten =
      has (same ∙ ap length old) (clean unwritten)
  got_stays number version got chain _ ring _ (Marks slot free before) is has same unwritten = has same unwritten
  got_stays number version got chain _ ring _ (Copies next empty) is has same unwritten = has same unwritten
  got_stays number version got chain _ ring _ (Flags slot elsewhere) is has same unwritten = has same unwritten
  got_stays number version got chain later ring _ (Renews old new whole ends) is has same unwritten =
      let less = slice_get_within (versions chain) number version is in let more = ap length old in absurd (omega arith)

  -- 3. A version leaves its slot only once it is old and was moved

  abbrev Left : Chain → Option Kept → ℕ → Type 0
  Left chain slot number =
      (kept : Kept) × (slot ≡ Some kept) × (kept.moved ≡ true) × (kept.number ≡ number)
      × (number < current_number chain)

  free_moved : (slot : Option Kept) (kept : Kept) → slot ≡ Some kept → IsFreeSlot slot → kept.moved ≡ true
  free_moved None kept at free = absurd (none-some kept at)
  free_moved (Some old) kept at free = ap (λ (k : Kept). k.moved) (sym (same_Some old kept at)) ∙ free

  keeps_goes : (chain later : Chain) (ring next : Ring) → RowNext place Flagged New chain ring later next
      → (slot number : ℕ) → Keeps (ring.kept slot) number
      → Keeps (next.kept slot) number ⊎ Left chain (ring.kept slot) number
  keeps_goes chain later ring _ (Idles old now clean) slot number keeps = inl keeps
  keeps_goes chain _ ring _ (Marks at free before) slot number keeps =
      put_cases (λ (o : Option Kept). Keeps o number ⊎ Left chain (ring.kept slot) number) ring.kept at None slot
      (λ here.
      let kept = keeps.0 in
      let is = keeps.2 in
      let less = before kept (ap ring.kept (sym here) ∙ keeps.1) in
      inr (
        kept,
        keeps.1,
        free_moved (ring.kept slot) kept keeps.1 (subst (λ u. IsFreeSlot (ring.kept u)) (sym here) free),
        is,
        omega arith,
      )) (λ beside. inl keeps)
  keeps_goes chain _ ring _ (Copies next empty) slot number keeps =
      let at = home place (current_number chain) in
      put_cases (λ (o : Option Kept). Keeps o number ⊎ Left chain (ring.kept slot) number) ring.kept at
      (Some (copy_of chain next)) slot
      (λ here. absurd (none-some keeps.0 (sym empty ∙ ap ring.kept (sym here) ∙ keeps.1))) (λ beside. inl keeps)
  keeps_goes chain _ ring _ (Flags at elsewhere) slot number keeps =
      put_cases (λ (o : Option Kept). Keeps o number ⊎ Left chain (ring.kept slot) number) ring.kept at
      (moved_of (ring.kept at)) slot
      (λ here. inl (subst (λ u. Keeps (moved_of (ring.kept u)) number) here
      (moved_keeps (ring.kept slot) number keeps))) (λ beside. inl keeps)
  keeps_goes chain later ring _ (Renews old new whole ends) slot number keeps = inl keeps

-- 4. A row in a turn

module _ (shape : Shape) (turn : Turn shape) (row : ℕ) (inside : IsRow shape row) (Elsewhere : ℕ → Type 0)
    (New : Version → Type 0) (seen : List ℕ)
    (hidden : (version : Version) → New version → is_visible version.stamp seen ≡ false)
    (goes : RowNext (place_at shape row) Elsewhere New (turn.chains row) (turn.rings row) (turn.later row)
    (turn.next row)) where
  abbrev place : Place
  place = place_at shape row

  abbrev chain : Chain
  chain = turn.chains row

  abbrev later : Chain
  later = turn.later row

  abbrev ring : Ring
  ring = turn.rings row

  abbrev next : Ring
  next = turn.next row

  rises : current_number chain ≤ current_number later
  rises = longer place Elsewhere New chain later ring next goes

  pub old_stays : (number : ℕ) → number < current_number chain → number < current_number later
  old_stays number less = let up = rises in omega arith

  pub wanted_stays : (number : ℕ) (version : Version) → Wanted seen chain number version
      → Wanted seen later number version
  wanted_stays number version wanted = record {
    is = turn.rows.numbers row number version inside wanted.is;
    sees = wanted.sees;
    newer = λ n newer less is.
        ⊎_elim (λ there. wanted.newer n newer less there) (λ new. hidden newer new)
        (nth_before place Elsewhere New chain later ring next goes n newer is);
  }

  header_stays : (head number : ℕ) (version : Version) → HeaderRead shape.form seen chain head number version
      → HeaderRead shape.form seen later head number version
  header_stays head number version reads = record {
    wanted = wanted_stays number version reads.wanted;
    stamp_is = reads.stamp_is;
    some = reads.some;
  }

  -- a slot's version that was copied was there before
  was_kept : (slot : ℕ) → slot < ring_at shape.tables row → (kept : Kept) → next.kept slot ≡ Some kept
      → kept.number < copied_count chain ring
      → (before : Kept) × (ring.kept slot ≡ Some before) × (before.number ≡ kept.number) × (before.next ≡ kept.next)
  was_kept slot short kept at less =
      goes_back (copied_count chain ring) (ring.kept slot) (next.kept slot) (turn.rows.slots row slot (inside, short))
      kept at less

  kept_copied : (slot number : ℕ) → slot < ring_at shape.tables row → Keeps (ring.kept slot) number
      → number < copied_count chain ring
  kept_copied slot number short (kept, at, is) =
      let less = (turn.images row inside).behind slot short kept at in omega arith

  -- 5. A slot in test

  module _ (slot : ℕ) (short : slot < ring_at shape.tables row) (head : ℕ) (got : List ℕ) (ended : Bool)
      (test : SlotTest shape.form seen chain (ring.kept slot) head got ended) where
    test_copied : (test.number < current_number chain) ⊎ Keeps (ring.kept slot) test.number
        → test.number < copied_count chain ring
    test_copied (inl less) = omega arith
    test_copied (inr keeps) = kept_copied slot test.number short keeps

    test_before : (kept : Kept) → next.kept slot ≡ Some kept → kept.number ≡ test.number
        → (before : Kept) × (ring.kept slot ≡ Some before) × (before.number ≡ kept.number) × (before.next ≡ kept.next)
    test_before kept at same = let less = test_copied test.last in was_kept slot short kept at (omega arith)

    last_stays : (test.number < current_number chain) ⊎ Keeps (ring.kept slot) test.number
        → (test.number < current_number later) ⊎ Keeps (next.kept slot) test.number
    last_stays (inl less) = inl (old_stays test.number less)
    last_stays (inr keeps) =
        elim (keeps_goes place Elsewhere New chain later ring next goes slot test.number keeps) [
          | inl kept ↦ inr kept
          | inr left ↦ inl (old_stays test.number left.4)
        ]

    test_stays : SlotTest shape.form seen later (next.kept slot) head got ended
    test_stays = record {
      number = test.number;
      version = test.version;
      is = turn.rows.numbers row test.number test.version inside test.is;
      stamp_is = test.stamp_is;
      deleted_is = test.deleted_is;
      sees = test.sees;
      words = λ kept at same.
          let before = test_before kept at same in test.words before.0 before.1 (before.2 ∙ same);
      hidden = λ is kept at same.
          let before = test_before kept at same in
          subst (λ (s : Stamp). is_visible s seen ≡ false) before.3
          (test.hidden is before.0 before.1 (before.2 ∙ same));
      last = last_stays test.last;
    }

  -- 6. A search of the ring

  module _ (Away Later : Type 0) (still : Away → Later) (number : ℕ)
      (lost : number < current_number chain → (slot : ℕ) → slot < ring_at shape.tables row → (kept : Kept)
      → ring.kept slot ≡ Some kept → kept.moved ≡ true → kept.number ≡ number → Later) where
    abbrev Ahead : ℕ → Type 0
    Ahead slot = IsAhead place next number slot ⊎ Later

    home_within : home place number < ring_at shape.tables row
    home_within = let least = (place_within_limits shape row turn.limits inside).least_ring in omega arith

    ahead_stays : (slot : ℕ) → IsAhead place ring number slot → Ahead slot
    ahead_stays slot (keeps, from) =
        elim (keeps_goes place Elsewhere New chain later ring next goes (home place number) number keeps) [
          | inl kept ↦ inl (kept, from)
          | inr left ↦ inr (lost left.4 (home place number) home_within left.0 left.1 left.2 left.3)
        ]

    tested_stays : (slot tested : ℕ) → slot < ring_at shape.tables row → IsAhead place ring number slot
        → IsTested number (ring.kept slot) tested → IsTested number (next.kept slot) tested
    tested_stays slot tested short ahead is kept at same =
        let less = kept_copied (home place number) number home_within ahead.0 in
        let before = was_kept slot short kept at (omega arith) in
        is before.0 before.1 (before.2 ∙ same)

    test_at_stays : (slot head : ℕ) (got : List ℕ) (ended : Bool) → slot < ring_at shape.tables row
        → TestAt place seen chain ring Away number slot head got ended
        → TestAt place seen later next Later number slot head got ended
    unfolding test_stays
    test_at_stays slot head got ended short (test, there) =
        (test_stays slot short head got ended test, by_there there)
      where
        by_there : (IsAhead place ring number slot × IsTested number (ring.kept slot) test.number) ⊎ Away
            → (IsAhead place next number slot × IsTested number (next.kept slot) test.number) ⊎ Later
        by_there (inr away) = inr (still away)
        by_there (inl (ahead, is)) = elim (ahead_stays slot ahead) [
          | inl stays ↦ inl (stays, tested_stays slot test.number short ahead is)
          | inr away ↦ inr away
        ]

    pub ring_at_stays : (at : RingPoint) → RingFits place at → RingAt place seen chain ring Away number at
        → RingAt place seen later next Later number at
    ring_at_stays (SlotHead slot) fits (inl ahead) = ahead_stays slot ahead
    ring_at_stays (SlotHead slot) fits (inr away) = inr (still away)
    ring_at_stays (SlotEnding slot head) fits o = test_at_stays slot head [] false fits o
    ring_at_stays (SlotWords slot head got) fits o = test_at_stays slot head got true fits.0 o
    ring_at_stays (SlotAgain slot head value) fits o = test_at_stays slot head value true fits.0 o

  -- 7. A read of the current version, and a search that isn't sure

  module _ (Now : ℕ → Type 0) where
    pub with_stays : (head : ℕ) (got : List ℕ) → CurrentWith place seen chain ring Elsewhere head got
        → CurrentWith place seen later next Now head got
    with_stays head got (number, version, reads, has) = (
      number,
      version,
      header_stays head number version reads,
      got_stays place Elsewhere New number version got chain later ring next goes reads.wanted.is has,
    )

    unsure_stays : (value : List ℕ) (number : ℕ) (version : Version)
        → IsUnsure place seen chain ring Elsewhere value number version
        → IsUnsure place seen later next Now value number version
    unsure_stays value number version (inl has) = inl has
    unsure_stays value number version (inr less) = inr (old_stays number less)

    pub recheck_stays : (value : List ℕ) (head : ℕ) → RecheckAt place seen chain ring Elsewhere value head
        → RecheckAt place seen later next Now value head
    recheck_stays value head (number, version, reads, unsure) = (
      number,
      version,
      header_stays head number version reads,
      unsure_stays value number version unsure,
    )

    -- a version that leaves its slot is old, so that its header is another one by now
    pub unsure_at_stays : (value : List ℕ) (head : ℕ) (at : RingPoint) → RingFits place at
        → UnsureAt place seen chain ring Elsewhere value head at → UnsureAt place seen later next Now value head at
    unsure_at_stays value head at fits (number, version, reads, o) = (
      number,
      version,
      header_stays head number version reads,
      ring_at_stays (IsUnsure place seen chain ring Elsewhere value number version)
          (IsUnsure place seen later next Now value number version) (unsure_stays value number version) number
          (λ less slot short kept at moved same. inr (old_stays number less)) at fits o,
    )

    -- and one that was moved stands elsewhere
    pub old_ring_stays : ((number : ℕ) → Elsewhere number → Now number) → OldOk place Elsewhere chain ring
        → (at : RingPoint) → RingFits place at → OldRingAt place seen chain ring Elsewhere at
        → OldRingAt place seen later next Now at
    old_ring_stays up old at fits (number, version, (wanted, less), o) = (
      number,
      version,
      (wanted_stays number version wanted, old_stays number less),
      ring_at_stays (Elsewhere number) (Now number) (up number) number
          (λ is slot short kept there moved same.
          subst Now same (up kept.number (old.gone slot short kept there moved)))
          at fits o,
    )
