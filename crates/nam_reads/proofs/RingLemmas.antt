-- Each word of a search of the ring: it goes on past no slot that keeps the wanted version, and finds no other one.
use Rattle.std.proofs.Common.{List, None, Option, Some, [], ap, arith, eqb, false, inl, inr, length, not, refl}
use Rattle.std.proofs.Common.{slice_get, subst, sym, true, ℕ, ◌&&◌, ◌++◌, ◌+◌, ◌<◌, ◌||◌, ◌∙◌, ◌∷◌, ◌≡◌, ◌⊎◌}
use Rattle.std.proofs.lemmas.Bool.{and_cases, and_parts, cases_eq, cases_lt, eqb-false, eqb-true, not-false, not-true}
use Rattle.std.proofs.lemmas.Bool.{or_cases, or_parts, true≢false}
use Rattle.std.proofs.lemmas.List.{length_push}
use Rattle.std.proofs.lemmas.Option.{same_Some}
use Rattle.std.specs.Prelude.{Bool, if◌then◌else◌, is_some}
use Rattle.nam_calls.specs.Fits.{RingFits}
use Rattle.nam_calls.specs.Ring.{next_slot, ring_after, ring_verb}
use Rattle.nam_calls.specs.declared.ring.RingPoint.{RingPoint}
use Rattle.nam_calls.specs.declared.ring.RingPoint.TheVariants.{SlotAgain, SlotEnding, SlotHead, SlotWords}
use Rattle.nam_calls.specs.declared.ring.SearchEnd.{SearchEnd}
use Rattle.nam_calls.specs.declared.ring.SearchEnd.TheVariants.{Found, NotThere}
use Rattle.nam_catalog.specs.declared.form.Form.{Form}
use Rattle.nam_catalog.specs.declared.shape.Shape.{Shape}
use Rattle.nam_ghost.proofs.ValueLemmas.{got_more, got_none, old_says, stamp_says}
use Rattle.nam_ghost.specs.Slots.{Kept, KeptOk, Ring, SlotIs, home}
use Rattle.nam_ghost.specs.Versions.{Chain, HasData, HasGot, Version, current_number, old_header, slot_image, versions}
use Rattle.nam_ghost.specs.Wanted.{IsAhead, IsTested, RingAt, RingNow, SlotTest, TestAt, Wanted}
use Rattle.nam_header.specs.Header.{header_of}
use Rattle.nam_header.specs.Stamp.{is_deleted, mark, same_stamp, sees, stamp_in}
use Rattle.nam_header.specs.Visible.{is_visible}
use Rattle.nam_header.specs.declared.header.Header.{Header}
use Rattle.nam_layout.proofs.LimitLemmas.{place_within_limits}
use Rattle.nam_layout.specs.Place.{place_at}
use Rattle.nam_layout.specs.Rows.{ring_at, width_at}
use Rattle.nam_layout.specs.declared.field.Field.{Field}
use Rattle.nam_layout.specs.declared.field.Field.TheVariants.{SlotEnd, SlotHeader, SlotWord}
use Rattle.nam_layout.specs.declared.field.Place.{Place}
use Rattle.nam_reads.proofs.CurrentLemmas.{whole_value}
use Rattle.nam_reads.proofs.WantedLemmas.{is_old, only, same_stamps, stamps_same, wanted_is}
use Rattle.nam_reads.specs.Facts.{RowFacts}
use Rattle.nam_store.proofs.Lists.{some_within}
use Rattle.nam_verbs.proofs.TestLemmas.{by_equal, by_test}
use Rattle.nam_verbs.specs.VerbAt.{found_at}
use Rattle.nam_verbs.specs.declared.now.Now.{Now}
use Rattle.nam_verbs.specs.declared.now.Now.TheVariants.{At, Over}
use Rattle.si_model.specs.declared.log.Stamp.{Stamp}

mark_locked : (form : Form) → (header_of form mark).locked ≡ true
mark_locked form = refl

module _ {shape : Shape} {m : Field → ℕ} {row : ℕ} {seen : List ℕ} {chain : Chain} {ring : Ring}
    {Elsewhere : ℕ → Type 0} (facts : RowFacts shape m row seen chain ring Elsewhere) (Away : Type 0) {number : ℕ}
    {version : Version} (wanted : Wanted seen chain number version) where
  abbrev place : Place
  place = place_at shape row

  abbrev Goes : Now RingPoint SearchEnd → Type 0
  Goes now = RingNow place seen chain ring Away number version.value now

  abbrev Ahead : ℕ → Type 0
  Ahead slot = IsAhead place ring number slot ⊎ Away

  -- 1. A slot that doesn't keep the wanted version is left

  leaves : (slot : ℕ) → Ahead slot → ((kept : Kept) → ring.kept slot ≡ Some kept → kept.number ≡ number → Away)
      → Goes (next_slot place slot)
  leaves slot (inr away) without = by_test Goes (eqb (slot + 1) place.ring) _ _ (λ e. away) (λ e. inr away)
  leaves slot (inl ahead) without =
      let least = (place_within_limits shape row facts.limits facts.inside).least_ring in
      let within : home place number < place.ring = omega arith in
      let kept = ahead.0 in
      let from = ahead.1 in
      let here : slot ≡ home place number → Away =
      λ same. without kept.0 (ap ring.kept same ∙ kept.1) kept.2 in
      by_equal Goes (slot + 1) place.ring (Over NotThere) (At (SlotHead (slot + 1)))
      (λ last. here (omega arith))
      (λ more. elim (cases_lt slot (home place number)) [
        | inl less ↦ inl (kept, omega arith)
        | inr most ↦ inr (here (omega arith))
      ])

  module _ (slot : ℕ) (short : slot < ring_at shape.tables row) where
    abbrev header : ℕ
    header = m (SlotHeader row slot)

    abbrev ending : ℕ
    ending = m (SlotEnd row slot)

    abbrev word : ℕ → ℕ
    word nth = m (SlotWord row slot nth)

    -- 2. What is read of a slot that keeps a version

    kept_is : (kept : Kept) → ring.kept slot ≡ Some kept
        → KeptOk place slot (slot_image m row slot) chain kept
    kept_is kept at = subst (SlotIs place slot (slot_image m row slot) chain) at (facts.ring_is.slots slot short)

    kept_header : (kept : Kept) → ring.kept slot ≡ Some kept
        → header_of shape.form header ≡ old_header kept.moved kept.version
    kept_header kept at =
        let ok = kept_is kept at in
        ap (header_of shape.form) ok.header_is ∙ old_says shape.form kept.moved kept.version ok.fits

    kept_stamp : (kept : Kept) → ring.kept slot ≡ Some kept → stamp_in shape.form header ≡ kept.version.stamp
    kept_stamp kept at = ap (λ (h : Header). h.stamp) (kept_header kept at)

    kept_end : (kept : Kept) → ring.kept slot ≡ Some kept
        → sees shape.form seen ending ≡ is_visible kept.next seen
    kept_end kept at =
        let ok = kept_is kept at in
        ap (λ (s : Stamp). is_visible s seen)
        (ap (stamp_in shape.form) ok.ending_is ∙ stamp_says shape.form kept.next ok.next_fits)

    -- the mark is no version's header
    unmarked : (kept : Kept) → ring.kept slot ≡ Some kept → eqb header mark ≡ true → ⊥
    unmarked kept at is =
        true≢false (sym (mark_locked shape.form)
        ∙ ap (λ (n : ℕ). (header_of shape.form n).locked) (sym (eqb-true header mark is))
        ∙ ap (λ (h : Header). h.locked) (kept_header kept at))

    keeps_one : (o : Option Kept) → ring.kept slot ≡ o → eqb header mark ≡ false
        → (kept : Kept) × (ring.kept slot ≡ Some kept)
    keeps_one None at other =
        absurd (eqb-false header mark other
        (subst (SlotIs place slot (slot_image m row slot) chain) at (facts.ring_is.slots slot short)))
    keeps_one (Some kept) at other = (kept, at)

    -- the wanted version's copy ends unseen
    end_hidden : (kept : Kept) → ring.kept slot ≡ Some kept → kept.number ≡ number
        → is_visible kept.next seen ≡ false
    end_hidden kept at same = elim (cases_eq number (current_number chain)) [
      | inl current ↦ facts.unseen slot short kept at (same ∙ current)
      | inr apart ↦
          let less = is_old facts wanted apart in
          let long = length_push chain.old chain.now in
          let next = some_within (versions chain) (kept.number + 1) (omega arith) in
          subst (λ (s : Stamp). is_visible s seen ≡ false) ((kept_is kept at).next_is next.0 next.1)
          (wanted.newer (kept.number + 1) next.0 (omega arith) next.1)
    ]

    -- a visible version that ends unseen is the wanted one
    kept_wanted : (kept : Kept) → ring.kept slot ≡ Some kept → is_visible kept.version.stamp seen ≡ true
        → is_visible kept.next seen ≡ false → kept.number ≡ number
    kept_wanted kept at visible hidden =
        let ok = kept_is kept at in
        only facts wanted kept.number kept.version ok.version_is visible
        (λ next is. subst (λ (s : Stamp). is_visible s seen ≡ false) (sym (ok.next_is next is)) hidden)

    kept_version : (kept : Kept) → ring.kept slot ≡ Some kept → kept.number ≡ number → version ≡ kept.version
    kept_version kept at same =
        wanted_is facts wanted kept.version
        (ap (slice_get (versions chain)) (sym same) ∙ (kept_is kept at).version_is)

    -- 3. Its header

    abbrev Test : ℕ → List ℕ → Bool → Type 0
    Test head got ended = TestAt place seen chain ring Away number slot head got ended

    passes_header : (kept : Kept) → ring.kept slot ≡ Some kept → kept.number ≡ number
        → (eqb header mark || not (sees shape.form seen header)) ≡ true → ⊥
    passes_header kept at same e = elim (or_cases (eqb header mark) (not (sees shape.form seen header)) e) [
      | inl marked ↦ unmarked kept at marked
      | inr hides ↦ true≢false (sym wanted.sees
          ∙ ap (λ (v : Version). is_visible v.stamp seen) (kept_version kept at same)
          ∙ sym (ap (λ (s : Stamp). is_visible s seen) (kept_stamp kept at)) ∙ not-true _ hides)
    ]

    begins : (kept : Kept) → ring.kept slot ≡ Some kept → sees shape.form seen header ≡ true → Ahead slot
        → Test header [] false
    begins kept at visible ahead =
        let says = kept_header kept at in (
          record {
            number = kept.number;
            version = kept.version;
            is = (kept_is kept at).version_is;
            stamp_is = kept_stamp kept at;
            deleted_is = ap (λ (h : Header). h.deleted) says;
            sees = sym (ap (λ (s : Stamp). is_visible s seen) (kept_stamp kept at)) ∙ visible;
            words = λ other is same. got_none kept.version.value;
            hidden = λ ended. absurd (true≢false (sym ended));
            last = inr (kept, at, refl);
          },
          by_ahead ahead,
        )
      where
        by_ahead : Ahead slot → (IsAhead place ring number slot × IsTested number (ring.kept slot) kept.number) ⊎ Away
        by_ahead (inl there) =
            inl (there, λ other is same. ap (λ (k : Kept). k.number) (same_Some kept other (sym at ∙ is)) ∙ same)
        by_ahead (inr away) = inr away

    head_found : Ahead slot → Goes (ring_after place seen (SlotHead slot) header)
    head_found ahead =
        by_test Goes (eqb header mark || not (sees shape.form seen header)) (next_slot place slot)
        (At (SlotEnding slot header))
        (λ e. leaves slot ahead (λ kept at same. absurd (passes_header kept at same e)))
        (λ e.
        let parts = or_parts (eqb header mark) (not (sees shape.form seen header)) e in
        let kept = keeps_one (ring.kept slot) refl parts.0 in
        begins kept.0 kept.1 (not-false _ parts.1) ahead)

    -- 4. Its end, and its words

    ahead_of : (head : ℕ) (got : List ℕ) (ended : Bool) → Test head got ended → Ahead slot
    ahead_of head got ended (test, inl there) = inl there.0
    ahead_of head got ended (test, inr away) = inr away

    end_found : (head : ℕ) → Test head [] false → Goes (ring_after place seen (SlotEnding slot head) ending)
    end_found head test =
        by_test Goes (sees shape.form seen ending) (next_slot place slot) (At (SlotWords slot head []))
        (λ e. leaves slot (ahead_of head [] false test)
        (λ kept at same. absurd (true≢false (sym e ∙ kept_end kept at ∙ end_hidden kept at same))))
        (λ e. (ended e test.0, test.1))
      where
        ended : sees shape.form seen ending ≡ false → SlotTest shape.form seen chain (ring.kept slot) head [] false
            → SlotTest shape.form seen chain (ring.kept slot) head [] true
        ended e test = record {
          number = test.number;
          version = test.version;
          is = test.is;
          stamp_is = test.stamp_is;
          deleted_is = test.deleted_is;
          sees = test.sees;
          words = test.words;
          hidden = λ is kept at same. sym (kept_end kept at) ∙ e;
          last = test.last;
        }

    word_found : (head : ℕ) (got : List ℕ) → length got < width_at shape.tables row → Test head got true
        → Goes (ring_after place seen (SlotWords slot head got) (word (length got)))
    word_found head got less (test, there) =
        let more = got ++ word (length got) ∷ [] in
        let longer : SlotTest shape.form seen chain (ring.kept slot) head more true = record {
          number = test.number;
          version = test.version;
          is = test.is;
          stamp_is = test.stamp_is;
          deleted_is = test.deleted_is;
          sees = test.sees;
          words = λ kept at same.
              let ok = kept_is kept at in
              got_more (width_at shape.tables row) got word test.version.value less (test.words kept at same)
              (subst (λ (v : Version). HasData (width_at shape.tables row) word v.value)
              (same_Some kept.version test.version
              (sym ok.version_is ∙ ap (slice_get (versions chain)) same ∙ test.is)) ok.data_is);
          hidden = test.hidden;
          last = test.last;
        } in
        by_test (λ (at : RingPoint). Goes (At at)) (eqb (length more) (width_at shape.tables row))
        (SlotAgain slot head more) (SlotWords slot head more) (λ e. (longer, there)) (λ e. (longer, there))

    -- 5. Its header once more

    gets : (head : ℕ) (value : List ℕ) → length value ≡ width_at shape.tables row
        → SlotTest shape.form seen chain (ring.kept slot) head value true → same_stamp shape.form header head ≡ true
        → (kept : Kept) → ring.kept slot ≡ Some kept
        → (if is_deleted shape.form head then None else Some value) ≡ version.value
    gets head value long test stands kept at =
        let ok = kept_is kept at in
        let stamp : kept.version.stamp ≡ test.version.stamp =
        sym (kept_stamp kept at) ∙ stamps_same shape.form header head stands ∙ test.stamp_is in
        let same = facts.once kept.number test.number kept.version test.version ok.version_is test.is stamp in
        let is_wanted = kept_wanted kept at
        (subst (λ (s : Stamp). is_visible s seen ≡ true) (sym stamp) test.sees) (test.hidden refl kept at same) in
        let is = wanted_is facts wanted test.version
        (ap (slice_get (versions chain)) (sym is_wanted ∙ same) ∙ test.is) in
        whole_value (width_at shape.tables row) value version.value (is_deleted shape.form head) long
        (facts.wide number version wanted.is)
        (test.deleted_is ∙ sym (ap (λ (v : Version). not (is_some v.value)) is))
        (subst (λ (v : Version). HasGot value v.value) (sym is) (test.words kept at same))

    again_found : (head : ℕ) (value : List ℕ) → length value ≡ width_at shape.tables row → Test head value true
        → Goes (ring_after place seen (SlotAgain slot head value) header)
    again_found head value long (test, there) =
        by_test Goes (same_stamp shape.form header head && not (eqb header mark))
        (Over (Found (if is_deleted shape.form head then None else Some value))) (next_slot place slot)
        (λ e.
        let parts = and_parts (same_stamp shape.form header head) (not (eqb header mark)) e in
        let kept = keeps_one (ring.kept slot) refl (not-true _ parts.1) in
        gets head value long test parts.0 kept.0 kept.1)
        (λ e. elim there [
          | inl ahead ↦
              leaves slot (inl ahead.0) (λ kept at same. absurd (passed e kept at same (ahead.1 kept at same)))
          | inr away ↦ leaves slot (inr away) (λ kept at same. away)
        ])
      where
        passed : (same_stamp shape.form header head && not (eqb header mark)) ≡ false → (kept : Kept)
            → ring.kept slot ≡ Some kept → kept.number ≡ number → test.number ≡ number → ⊥
        passed e kept at same is =
            let stamp : stamp_in shape.form header ≡ stamp_in shape.form head =
            kept_stamp kept at ∙ ap (λ (v : Version). v.stamp) (same_Some kept.version test.version
            (sym (kept_is kept at).version_is ∙ ap (slice_get (versions chain)) (same ∙ sym is) ∙ test.is))
            ∙ sym test.stamp_is in
            elim (and_cases (same_stamp shape.form header head) (not (eqb header mark)) e) [
              | inl other ↦ true≢false (sym (same_stamps shape.form header head stamp) ∙ other)
              | inr marked ↦ unmarked kept at (not-false _ marked)
            ]

  pub ring_found : (at : RingPoint) → RingFits place at → RingAt place seen chain ring Away number at
      → Goes (ring_after place seen at (found_at m (ring_verb place at)))
  ring_found (SlotHead slot) fits o = head_found slot fits o
  ring_found (SlotEnding slot head) fits o = end_found slot fits head o
  ring_found (SlotWords slot head got) fits o = word_found slot fits.0 head got fits.1 o
  ring_found (SlotAgain slot head value) fits o = again_found slot fits.0 head value fits.1 o
