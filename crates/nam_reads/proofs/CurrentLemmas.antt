-- Each word of a read that looks at the current version.
use Rattle.std.proofs.Common.{List, None, Option, Some, [], ap, arith, eqb, false, inl, inr, length, not, refl, subst}
use Rattle.std.proofs.Common.{sym, true, ℕ, ⊎_elim, ◌++◌, ◌<◌, ◌||◌, ◌∙◌, ◌∷◌, ◌≡◌, ◌⊎◌}
use Rattle.std.proofs.lemmas.Bool.{cases_Bool, ltb-false, not-false, or_parts, true≢false}
use Rattle.std.proofs.lemmas.List.{ext_get_or}
use Rattle.std.specs.Prelude.{Bool, if◌then◌else◌, is_some, slice_index}
use Rattle.nam_calls.specs.Fits.{CurrentFits, HasWidth}
use Rattle.nam_calls.specs.Reading.{on_current}
use Rattle.nam_calls.specs.Record.{current_after, current_verb, recheck_end}
use Rattle.nam_calls.specs.Ring.{ring_begin}
use Rattle.nam_calls.specs.declared.reading.ReadPoint.TheVariants.{ReadRing}
use Rattle.nam_calls.specs.declared.reading.ReadingEnd.TheVariants.{Got}
use Rattle.nam_calls.specs.declared.record.CurrentEnd.{CurrentEnd}
use Rattle.nam_calls.specs.declared.record.CurrentEnd.TheVariants.{Found, GoOld, Unsure}
use Rattle.nam_calls.specs.declared.record.CurrentPoint.{CurrentPoint}
use Rattle.nam_calls.specs.declared.record.CurrentPoint.TheVariants.{CurrentAgain, CurrentHead, CurrentWords}
use Rattle.nam_catalog.specs.declared.shape.Shape.{Shape}
use Rattle.nam_ghost.proofs.ValueLemmas.{got_more, got_none}
use Rattle.nam_ghost.specs.Cells.{CellMap, IsElsewhere}
use Rattle.nam_ghost.specs.Reads.{CurrentAt, CurrentWith, HeaderRead, IsUnsure}
use Rattle.nam_ghost.specs.Slots.{Keeps, Ring, home}
use Rattle.nam_ghost.specs.Versions.{Chain, HasData, HasGot, Version, current_number}
use Rattle.nam_ghost.specs.Wanted.{IsAhead, Wanted}
use Rattle.nam_header.specs.Stamp.{is_deleted, is_locked, same_stamp, sees}
use Rattle.nam_header.specs.Visible.{is_visible}
use Rattle.nam_header.specs.declared.header.Header.{Header}
use Rattle.nam_layout.specs.Place.{place_at}
use Rattle.nam_layout.specs.Rows.{width_at}
use Rattle.nam_layout.specs.declared.field.Field.{Field}
use Rattle.nam_layout.specs.declared.field.Place.{Place}
use Rattle.nam_reads.proofs.WantedLemmas.{by_stamp, is_old, newest, now_header, now_is, now_last, now_sees, now_stamp}
use Rattle.nam_reads.proofs.WantedLemmas.{nth_within, same_stamps, stamps_same}
use Rattle.nam_reads.specs.Comes.{Comes}
use Rattle.nam_reads.specs.Facts.{RowFacts}
use Rattle.nam_verbs.proofs.TestLemmas.{by_test}
use Rattle.nam_verbs.specs.VerbAt.{found_at}
use Rattle.nam_verbs.specs.declared.now.Now.{Now}
use Rattle.nam_verbs.specs.declared.now.Now.TheVariants.{At, Over}
use Rattle.nam_layout.specs.declared.field.Field.TheVariants as field

-- 1. Values

-- words that are a value's, as many as it has, are the value
pub whole_value : (width : ℕ) (value : List ℕ) (of : Option (List ℕ)) (deleted : Bool) → length value ≡ width
    → HasWidth width of → deleted ≡ not (is_some of) → HasGot value of
    → (if deleted then None else Some value) ≡ of
whole_value width value None deleted long wide is has = ap (λ (b : Bool). if b then None else Some value) is
whole_value width value (Some words) deleted long wide is has =
    ap (λ (b : Bool). if b then None else Some value) is
    ∙ ap Some (ext_get_or 0 value words (long ∙ sym wide) (λ nth less. has nth less))

data_got : (width : ℕ) (value : List ℕ) (of : Option (List ℕ)) → length value ≡ width
    → HasData width (slice_index value) of → HasGot value of
data_got width value of long has = subst (λ n. HasData n (slice_index value) of) (sym long) has

module _ (shape : Shape) (chains : ℕ → Chain) (rings : ℕ → Ring) (m : Field → ℕ) (cells : CellMap) (seen : List ℕ)
    (row : ℕ) where
  abbrev place : Place
  place = place_at shape row

  abbrev chain : Chain
  chain = chains row

  abbrev ring : Ring
  ring = rings row

  abbrev Elsewhere : ℕ → Type 0
  Elsewhere = IsElsewhere shape chains rings m cells row

  abbrev header : ℕ
  header = m (field.Header row)

  module _ (facts : RowFacts shape m row seen chain ring Elsewhere) where
    abbrev Goes : Now CurrentPoint CurrentEnd → Type 0
    Goes now = Comes shape chains rings m cells seen row (on_current now)

    abbrev With : ℕ → List ℕ → Type 0
    With head got = CurrentWith place seen chain ring Elsewhere head got

    abbrev Reads : ℕ → ℕ → Version → Type 0
    Reads head number version = HeaderRead shape.form seen chain head number version

    -- an old version is in its slot, or elsewhere
    goes_old : (number : ℕ) (version : Version) → Wanted seen chain number version → number < current_number chain
        → Comes shape chains rings m cells seen row (At (ReadRing ring_begin))
    goes_old number version wanted less = (number, version, (wanted, less), ahead (facts.old.old number less))
      where
        ahead : Keeps (ring.kept (home place number)) number ⊎ Elsewhere number
            → IsAhead place ring number 0 ⊎ Elsewhere number
        ahead (inl keeps) = inl (keeps, omega arith)
        ahead (inr elsewhere) = inr elsewhere

    -- 2. The header

    now_wanted : sees shape.form seen header ≡ true → Wanted seen chain (current_number chain) chain.now
    now_wanted e = record {
      is = now_last facts;
      sees = sym (now_sees facts) ∙ e;
      newer = λ n newer less is. let within = nth_within facts n newer is in absurd (omega arith);
    }

    deleted_says : is_deleted shape.form header ≡ not (is_some chain.now.value)
    deleted_says = ap (λ (h : Header). h.deleted) (now_header facts)

    visible_found : sees shape.form seen header ≡ true
        → Goes (if is_deleted shape.form header then Over (Found None) else At (CurrentWords header []))
    visible_found visible =
        by_test Goes (is_deleted shape.form header) (Over (Found None)) (At (CurrentWords header []))
        (λ deleted. (
          record {
            number = current_number chain;
            version = chain.now;
            wanted = now_wanted visible;
            value_is = none chain.now.value (sym deleted_says ∙ deleted);
          },
          tt,
        ))
        (λ kept. (
          current_number chain,
          chain.now,
          record {
            wanted = now_wanted visible;
            stamp_is = now_stamp facts;
            some = not-false (is_some chain.now.value) (sym deleted_says ∙ kept);
          },
          λ same clean. got_none chain.now.value,
        ))
      where
        none : (value : Option (List ℕ)) → not (is_some value) ≡ true → None ≡ value
        none None e = refl
        none (Some words) e = absurd (true≢false (sym e))

    hidden_found : sees shape.form seen header ≡ false → Goes (Over GoOld)
    hidden_found hides =
        let wanted = newest facts in
        goes_old wanted.0 wanted.1 wanted.2
        (is_old facts wanted.2
        (λ same. true≢false (sym wanted.2.sees
        ∙ ap (λ (v : Version). is_visible v.stamp seen) (now_is facts wanted.2 same)
        ∙ sym (now_sees facts) ∙ hides)))

    head_found : Goes (current_after place seen CurrentHead header)
    head_found =
        by_test Goes (sees shape.form seen header)
        (if is_deleted shape.form header then Over (Found None) else At (CurrentWords header [])) (Over GoOld)
        visible_found hidden_found

    -- 3. A data word

    word_found : (head : ℕ) (got : List ℕ) → length got < width_at shape.tables row → With head got
        → Goes (current_after place seen (CurrentWords head got) (m (field.Word row (length got))))
    word_found head got less (number, version, reads, has) =
        let word = m (field.Word row (length got)) in
        let more : With head (got ++ word ∷ []) = (
          number,
          version,
          reads,
          λ same clean.
              got_more (width_at shape.tables row) got (λ nth. m (field.Word row nth)) version.value less
              (has same clean)
              (subst (λ (v : Version). HasData (width_at shape.tables row) (λ nth. m (field.Word row nth)) v.value)
              (sym (now_is facts reads.wanted same)) (facts.record_is.data_is clean)),
        ) in
        by_test (λ (at : CurrentPoint). Goes (At at)) (eqb (length (got ++ word ∷ [])) (width_at shape.tables row))
        (CurrentAgain head (got ++ word ∷ [])) (CurrentWords head (got ++ word ∷ [])) (λ e. more) (λ e. more)

    -- 4. The header once more, after the data words, or after a search of the ring

    module _ (head : ℕ) (value : List ℕ) (long : length value ≡ width_at shape.tables row) (number : ℕ)
        (version : Version) (reads : Reads head number version) where
      -- the same stamp is that of the current version
      stands : same_stamp shape.form header head ≡ true → number ≡ current_number chain
      stands same =
          by_stamp facts reads.wanted
          (sym (now_stamp facts) ∙ stamps_same shape.form header head same ∙ reads.stamp_is)

      -- another one leads to the old versions
      was_passed : same_stamp shape.form header head ≡ false
          → Comes shape chains rings m cells seen row (At (ReadRing ring_begin))
      was_passed other = goes_old number version reads.wanted (is_old facts reads.wanted current)
        where
          current : number ≡ current_number chain → ⊥
          current same =
              let now = ap (λ (v : Version). v.stamp) (now_is facts reads.wanted same) in
              true≢false (sym (same_stamps shape.form header head (now_stamp facts ∙ sym now ∙ sym reads.stamp_is))
              ∙ other)

      gets : HasGot value version.value
          → Comes shape chains rings m cells seen row (Over (Got (Some value)))
      gets has =
          let wide = facts.wide number version reads.wanted.is in (
            record {
              number = number;
              version = version;
              wanted = reads.wanted;
              value_is = whole_value (width_at shape.tables row) value version.value false long wide
                  (sym (ap not reads.some)) has;
            },
            long,
          )

      -- what was got is the version's, or its copy is in the ring
      is_unsure : number ≡ current_number chain
          → (number ≡ current_number chain → chain.dirty ≡ false → HasGot value version.value)
          → IsAhead place ring number 0 ⊎ IsUnsure place seen chain ring Elsewhere value number version
      is_unsure is has = elim (cases_Bool chain.dirty) [
        | inl dirty ↦ inl (
          subst (λ n. Keeps (ring.kept (home place n)) n) (sym is)
              (facts.ring_is.whole (facts.ring_is.dirty dirty)),
          omega arith,
        )
        | inr clean ↦ inr (inl (subst (λ n. HasData n (slice_index value) version.value) long (has is clean)))
      ]

      again_found : (number ≡ current_number chain → chain.dirty ≡ false → HasGot value version.value)
          → Goes (current_after place seen (CurrentAgain head value) header)
      again_found has =
          by_test Goes (same_stamp shape.form header head)
          (if is_locked shape.form head || is_locked shape.form header then Over (Unsure value head)
          else Over (Found (Some value))) (Over GoOld)
          (λ same.
          let is = stands same in
          by_test Goes (is_locked shape.form head || is_locked shape.form header) (Over (Unsure value head))
          (Over (Found (Some value))) (λ locked. (number, version, reads, is_unsure is has))
          (λ free. gets (has is (clean (or_parts (is_locked shape.form head) (is_locked shape.form header) free).1))))
          was_passed
        where
          clean : is_locked shape.form header ≡ false → chain.dirty ≡ false
          clean unlocked =
              let says = ap (λ (h : Header). h.locked) (now_header facts) in
              let least = ltb-false 0 chain.holder (sym says ∙ unlocked) in
              (facts.record_is.free (omega arith)).0

      pub recheck_found : IsUnsure place seen chain ring Elsewhere value number version
          → Comes shape chains rings m cells seen row
          (if recheck_end place head header then Over (Got (Some value)) else At (ReadRing ring_begin))
      recheck_found unsure =
          by_test (Comes shape chains rings m cells seen row) (recheck_end place head header) (Over (Got (Some value)))
          (At (ReadRing ring_begin))
          (λ same.
          let is = stands same in
          ⊎_elim (λ has. gets (data_got (width_at shape.tables row) value version.value long has))
          (λ (less : number < current_number chain). absurd (omega arith)) unsure)
          was_passed

    pub current_found : (at : CurrentPoint) → CurrentFits place at → CurrentAt place seen chain ring Elsewhere at
        → Goes (current_after place seen at (found_at m (current_verb place at)))
    current_found CurrentHead fits o = head_found
    current_found (CurrentWords head got) fits o = word_found head got fits o
    current_found (CurrentAgain head value) fits o = again_found head value fits o.0 o.1 o.2 o.3
