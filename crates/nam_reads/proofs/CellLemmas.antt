-- Each word of a search of the cells, and of the look at the horizon: no cell that has the wanted version is passed,
-- none gives another one, and after the last cell a horizon entry is above the snapshot's.
use Rattle.std.proofs.Common.{List, None, Some, [], ap, arith, eqb, false, inl, inr, length, not, refl, slice_get}
use Rattle.std.proofs.Common.{subst, sym, true, ℕ, ◌++◌, ◌+◌, ◌-◌, ◌<◌, ◌∙◌, ◌∷◌, ◌≡◌, ◌≢◌}
use Rattle.std.proofs.Math.Arith.{lt_of_le-ne}
use Rattle.std.proofs.lemmas.Bool.{cases_eq, cases_lt, ltb-false, ltb-true, true≢false}
use Rattle.std.proofs.lemmas.List.{length_push}
use Rattle.std.proofs.lemmas.Option.{same_Some}
use Rattle.std.specs.Prelude.{Bool, if◌then◌else◌, is_some, nat_lt, slice_index}
use Rattle.nam_calls.specs.Fits.{CellFits, IsOf}
use Rattle.nam_calls.specs.Horizon.{old_after}
use Rattle.nam_calls.specs.Overflow.{cell_after, cell_verb, next_cell}
use Rattle.nam_calls.specs.declared.horizon.OldEnd.{OldEnd}
use Rattle.nam_calls.specs.declared.horizon.OldEnd.TheVariants.{NotPassed, TooOld}
use Rattle.nam_calls.specs.declared.overflow.CellPoint.{CellPoint}
use Rattle.nam_calls.specs.declared.overflow.CellPoint.TheVariants.{CellAgain, CellBegin, CellEnding, CellOwner}
use Rattle.nam_calls.specs.declared.overflow.CellPoint.TheVariants.{CellTag, CellWords}
use Rattle.nam_calls.specs.declared.ring.SearchEnd.{SearchEnd}
use Rattle.nam_calls.specs.declared.ring.SearchEnd.TheVariants.{Found, NotThere}
use Rattle.nam_catalog.specs.declared.shape.Shape.{Shape}
use Rattle.nam_ghost.proofs.CellLemmas.{bucket_within}
use Rattle.nam_ghost.proofs.ValueLemmas.{got_more, got_none, old_says, stamp_says}
use Rattle.nam_ghost.proofs.VisibleLemmas.{reached_visible}
use Rattle.nam_ghost.specs.Cells.{Cell, CellIs, CellMap, CellsAre, ClaimedBy, FreeCell, IsElsewhere, IsEnded}
use Rattle.nam_ghost.specs.Cells.{IsOverflowed, IsWhole, Stores, end_at, end_by}
use Rattle.nam_ghost.specs.Reads.{CellTest, CellsAt, HorizonAt, IsAheadOf, UnderTag}
use Rattle.nam_ghost.specs.Slots.{Ring, home}
use Rattle.nam_ghost.specs.Versions.{Chain, HasData, HasGot, IsNth, Version, cell_image, current_number, versions}
use Rattle.nam_ghost.specs.Wanted.{Wanted}
use Rattle.nam_header.specs.Header.{header_of}
use Rattle.nam_header.specs.Stamp.{is_deleted, sees, stamp_in}
use Rattle.nam_header.specs.Tag.{state_of}
use Rattle.nam_header.specs.Visible.{is_visible}
use Rattle.nam_header.specs.declared.header.Header.{Header}
use Rattle.nam_layout.specs.Place.{bucket_of, cells_of, place_at}
use Rattle.nam_layout.specs.Rows.{width_at}
use Rattle.nam_layout.specs.declared.field.Cells.{Cells}
use Rattle.nam_layout.specs.declared.field.Field.{Field}
use Rattle.nam_layout.specs.declared.field.Field.TheVariants.{Begin, CellWord, End, Horizon, Owner, Tag}
use Rattle.nam_layout.specs.declared.field.Place.{Place}
use Rattle.nam_reads.proofs.CurrentLemmas.{whole_value}
use Rattle.nam_reads.proofs.WantedLemmas.{next_hidden, only, wanted_is}
use Rattle.nam_reads.specs.Comes.{CellsCome, HorizonComes}
use Rattle.nam_reads.specs.Facts.{RowFacts}
use Rattle.nam_store.proofs.Lists.{some_within}
use Rattle.nam_verbs.proofs.TestLemmas.{by_equal, by_test}
use Rattle.nam_verbs.specs.VerbAt.{found_at}
use Rattle.nam_verbs.specs.declared.now.Now.{Now}
use Rattle.nam_verbs.specs.declared.now.Now.TheVariants.{At, Over}
use Rattle.si_model.specs.declared.log.Stamp.{Stamp}

module _ (shape : Shape) (chains : ℕ → Chain) (rings : ℕ → Ring) (m : Field → ℕ) (cells : CellMap) (seen : List ℕ)
    (row : ℕ) where
  abbrev place : Place
  place = place_at shape row

  abbrev bucket : ℕ
  bucket = bucket_of shape row

  abbrev there : Cells
  there = cells_of shape (bucket_of shape row)

  abbrev chain : Chain
  chain = chains row

  abbrev Elsewhere : ℕ → Type 0
  Elsewhere = IsElsewhere shape chains rings m cells row

  abbrev end_of : ℕ → Stamp
  end_of number = end_at shape chains rings row number

  module _ (facts : RowFacts shape m row seen chain (rings row) Elsewhere) (are : CellsAre shape chains rings m cells)
      (number : ℕ) (version : Version) (wanted : Wanted seen chain number version)
      (old : number < current_number chain) where
    abbrev Goes : Now CellPoint SearchEnd → Type 0
    Goes now = CellsCome shape chains rings m cells seen row number version.value now

    -- 1. Ends

    -- the wanted version ends unseen
    end_hidden : is_visible (end_of number) seen ≡ false
    end_hidden =
        let long = length_push chain.old chain.now in
        let next = some_within (versions chain) (number + 1) (omega arith) in
        ap (λ o. is_visible (end_by o ((rings row).kept (home place number))) seen) next.1
        ∙ next_hidden facts wanted next.0 next.1

    -- and no other version does that is visible
    only_one : (n : ℕ) (v : Version) → IsNth chain n v → is_visible v.stamp seen ≡ true
        → is_visible (end_of n) seen ≡ false → n ≡ number
    only_one n v is visible hides =
        only facts wanted n v is visible
        (λ next at. sym (ap (λ o. is_visible (end_by o ((rings row).kept (home place n))) seen) at) ∙ hides)

    -- within the horizon it is above the snapshot there
    above : IsEnded shape chains rings m cells row number → HorizonAt shape chains rings m cells seen row number 1
    above ended = (ended, ((end_of number).thread, ended.0, ended.0, ended.1, passed))
      where
        passed : slice_index seen ((end_of number).thread - 1) < m (Horizon (end_of number).thread)
        passed = elim (cases_lt (slice_index seen ((end_of number).thread - 1)) (end_of number).number) [
          | inl less ↦ let within = ended.2 in omega arith
          | inr reached ↦
              let long = facts.long in
              let most = ended.1 in
              absurd (true≢false (sym (reached_visible (end_of number) seen (ended.0, omega arith, reached))
              ∙ end_hidden))
        ]

    -- 2. A cell is left, which doesn't have the wanted version

    next_on : (cell : ℕ) → cell < shape.cells → IsOverflowed shape chains rings m cells (cell + 1) row number
        → Goes (next_cell there cell)
    next_on cell less stands =
        by_equal Goes (cell + 1) shape.cells (Over NotThere) (At (CellTag (cell + 1)))
        (λ last. elim stands [
          | inl in_cell ↦ let from = in_cell.1 in let short = in_cell.2 in absurd (omega arith)
          | inr ended ↦ above ended
        ])
        (λ more. stands)

    module _ (cell : ℕ) (less : cell < shape.cells) where
      cell_is : (x : Cell) → cells bucket cell ≡ x → CellIs shape chains rings bucket (cell_image m bucket cell) x
      cell_is x e =
          subst (CellIs shape chains rings bucket (cell_image m bucket cell)) e
          (are bucket cell (bucket_within shape facts.limits row, less))

      abbrev Whole : ℕ → Type 0
      Whole n = IsWhole shape chains rings row n (cell_image m bucket cell)

      whole_at : (n : ℕ) → cells bucket cell ≡ Stores row n → Whole n
      whole_at n e = (cell_is (Stores row n) e).2

      begin_says : (n : ℕ) (whole : Whole n)
          → sees shape.form seen (m (Begin bucket cell)) ≡ is_visible whole.version.stamp seen
      begin_says n whole =
          ap (λ (h : Header). is_visible h.stamp seen)
          (ap (header_of shape.form) whole.begin_is ∙ old_says shape.form false whole.version whole.fits)

      end_says : (n : ℕ) → Whole n → sees shape.form seen (m (End bucket cell)) ≡ is_visible (end_of n) seen
      end_says n whole =
          ap (λ (s : Stamp). is_visible s seen)
          (ap (stamp_in shape.form) whole.ending_is ∙ stamp_says shape.form (end_of n) whole.end_fits)

      full_stores : state_of (m (Tag bucket cell)) ≡ 2 → (x : Cell) → cells bucket cell ≡ x
          → (r : ℕ) × (n : ℕ) × (cells bucket cell ≡ Stores r n)
      full_stores full FreeCell e =
          let none : state_of (m (Tag bucket cell)) ≡ 0 = cell_is FreeCell e in absurd (omega arith)
      full_stores full (ClaimedBy worker) e =
          let one : state_of (m (Tag bucket cell)) ≡ 1 = cell_is (ClaimedBy worker) e in absurd (omega arith)
      full_stores full (Stores r n) e = (r, n, e)

      abbrev Ahead : ℕ → Type 0
      Ahead tag = IsAheadOf shape chains rings m cells seen row number cell tag

      leaves : (tag : ℕ) → Ahead tag → (m (Tag bucket cell) ≡ tag → cells bucket cell ≡ Stores row number → ⊥)
          → Goes (next_cell there cell)
      leaves tag (inl stands) without = next_on cell less stands
      leaves tag (inr here) without = absurd (without here.0 here.1)

      -- 3. Its tag

      tag_found : IsOverflowed shape chains rings m cells cell row number
          → Goes (cell_after there place seen (CellTag cell) (m (Tag bucket cell)))
      tag_found stands =
          let tag = m (Tag bucket cell) in
          by_equal Goes (state_of tag) 2 (At (CellOwner cell tag)) (next_cell there cell)
          (λ full. (ahead stands, (omega arith, λ same. full_stores full (cells bucket cell) refl)))
          (λ other. leaves tag (ahead stands) (λ same e. other (cell_is (Stores row number) e).0))
        where
          ahead : IsOverflowed shape chains rings m cells cell row number → Ahead (m (Tag bucket cell))
          ahead (inr ended) = inl (inr ended)
          ahead (inl (at, from, short, e)) = elim (cases_eq at cell) [
            | inl same ↦ inr (refl, subst (λ c. cells bucket c ≡ Stores row number) same e)
            | inr apart ↦
                let past : cell < at = lt_of_le-ne from (λ same. apart (sym same)) in
                inl (inl (at, omega arith, short, e))
          ]

      module _ (tag : ℕ) (ahead : Ahead tag) where
        abbrev Under : Type 0 → Type 0
        Under Claim = UnderTag shape chains rings m cells seen row cell tag Claim

        abbrev Test : ℕ → List ℕ → Bool → Type 0
        Test head got ended = CellTest shape chains rings m cells seen row cell head got ended

        -- 4. Its owner, begin and end

        owner_found : Under ((r : ℕ) × (n : ℕ) × (cells bucket cell ≡ Stores r n))
            → Goes (cell_after there place seen (CellOwner cell tag) (m (Owner bucket cell)))
        owner_found under =
            by_equal Goes (m (Owner bucket cell)) row (At (CellBegin cell tag)) (next_cell there cell)
            (λ same. (ahead, (under.0, λ e. owned same (under.1 e))))
            (λ other. leaves tag ahead (λ same e. other (whole_at number e).owner_is))
          where
            owned : m (Owner bucket cell) ≡ row → (r : ℕ) × (n : ℕ) × (cells bucket cell ≡ Stores r n)
                → (n : ℕ) × (cells bucket cell ≡ Stores row n)
            owned same (r, n, e) =
                (n, e ∙ ap (λ owner. Stores owner n) (sym (cell_is (Stores r n) e).2.owner_is ∙ same))

        begin_found : Under ((n : ℕ) × (cells bucket cell ≡ Stores row n))
            → Goes (cell_after there place seen (CellBegin cell tag) (m (Begin bucket cell)))
        begin_found under =
            let found = m (Begin bucket cell) in
            by_test Goes (sees shape.form seen found) (At (CellEnding cell tag found)) (next_cell there cell)
            (λ visible. (ahead, (under.0, λ e. begun visible (under.1 e))))
            (λ hides. leaves tag ahead (λ same e. true≢false (sym (visible e) ∙ hides)))
          where
            begun : sees shape.form seen (m (Begin bucket cell)) ≡ true → (n : ℕ) × (cells bucket cell ≡ Stores row n)
                → Test (m (Begin bucket cell)) [] false
            begun visible (n, e) = let whole = whole_at n e in record {
              number = n;
              version = whole.version;
              stored = e;
              was_copied = whole.was_copied;
              is = whole.version_is;
              fits = whole.fits;
              header_is = whole.begin_is;
              sees = sym (begin_says n whole) ∙ visible;
              hidden = λ ended. absurd (true≢false (sym ended));
              words = got_none whole.version.value;
            }

            visible : cells bucket cell ≡ Stores row number → sees shape.form seen (m (Begin bucket cell)) ≡ true
            visible e =
                let whole = whole_at number e in
                begin_says number whole
                ∙ sym (ap (λ (v : Version). is_visible v.stamp seen)
                (wanted_is facts wanted whole.version whole.version_is))
                ∙ wanted.sees

        ending_found : (head : ℕ) → Under (Test head [] false)
            → Goes (cell_after there place seen (CellEnding cell tag head) (m (End bucket cell)))
        ending_found head under =
            by_test Goes (sees shape.form seen (m (End bucket cell))) (next_cell there cell)
            (At (CellWords cell tag head []))
            (λ visible. leaves tag ahead
            (λ same e. true≢false (sym visible ∙ end_says number (whole_at number e) ∙ end_hidden)))
            (λ hides. (ahead, (under.0, λ e. ended hides (under.1 e))))
          where
            ended : sees shape.form seen (m (End bucket cell)) ≡ false → Test head [] false → Test head [] true
            ended hides test = record {
              number = test.number;
              version = test.version;
              stored = test.stored;
              was_copied = test.was_copied;
              is = test.is;
              fits = test.fits;
              header_is = test.header_is;
              sees = test.sees;
              hidden = λ is. sym (end_says test.number (whole_at test.number test.stored)) ∙ hides;
              words = test.words;
            }

        -- 5. Its words, and its tag once more

        words_found : (head : ℕ) (got : List ℕ) → length got < width_at shape.tables row → Under (Test head got true)
            → Goes (cell_after there place seen (CellWords cell tag head got) (m (CellWord bucket cell (length got))))
        words_found head got short under =
            let more = got ++ m (CellWord bucket cell (length got)) ∷ [] in
            by_test (λ (at : CellPoint). Goes (At at)) (eqb (length more) (width_at shape.tables row))
            (CellAgain cell tag head more) (CellWords cell tag head more)
            (λ e. (ahead, (under.0, λ same. longer (under.1 same))))
            (λ e. (ahead, (under.0, λ same. longer (under.1 same))))
          where
            longer : Test head got true → Test head (got ++ m (CellWord bucket cell (length got)) ∷ []) true
            longer test =
                let whole = whole_at test.number test.stored in
                record {
                  number = test.number;
                  version = test.version;
                  stored = test.stored;
                  was_copied = test.was_copied;
                  is = test.is;
                  fits = test.fits;
                  header_is = test.header_is;
                  sees = test.sees;
                  hidden = test.hidden;
                  words = got_more (width_at shape.tables row) got (λ nth. m (CellWord bucket cell nth))
                      test.version.value short test.words
                      (subst (λ (v : Version).
                      HasData (width_at shape.tables row) (λ nth. m (CellWord bucket cell nth)) v.value)
                      (same_Some whole.version test.version (sym whole.version_is ∙ test.is)) whole.data_is);
                }

        again_found : (head : ℕ) (value : List ℕ) → length value ≡ width_at shape.tables row
            → Under (Test head value true)
            → Goes (cell_after there place seen (CellAgain cell tag head value) (m (Tag bucket cell)))
        again_found head value long under =
            by_equal Goes (m (Tag bucket cell)) tag
            (Over (Found (if is_deleted shape.form head then None else Some value))) (next_cell there cell)
            (λ same. gets (under.1 same)) (λ other. leaves tag ahead (λ same e. other same))
          where
            gets : Test head value true → (if is_deleted shape.form head then None else Some value) ≡ version.value
            gets test =
                let one = only_one test.number test.version test.is test.sees (test.hidden refl) in
                let is =
                wanted_is facts wanted test.version (ap (slice_get (versions chain)) (sym one) ∙ test.is) in
                let says = ap (header_of shape.form) test.header_is
                ∙ old_says shape.form false test.version test.fits in
                whole_value (width_at shape.tables row) value version.value (is_deleted shape.form head) long
                (facts.wide number version wanted.is)
                (ap (λ (h : Header). h.deleted) says ∙ sym (ap (λ (v : Version). not (is_some v.value)) is))
                (subst (λ (v : Version). HasGot value v.value) (sym is) test.words)

    pub cell_found : (at : CellPoint) → CellFits there place at
        → CellsAt shape chains rings m cells seen row number at
        → Goes (cell_after there place seen at (found_at m (cell_verb there at)))
    cell_found (CellTag cell) fits o = tag_found cell fits o
    cell_found (CellOwner cell tag) fits o = owner_found cell fits tag o.0 o.1
    cell_found (CellBegin cell tag) fits o = begin_found cell fits tag o.0 o.1
    cell_found (CellEnding cell tag head) fits o = ending_found cell fits tag o.0 head o.1
    cell_found (CellWords cell tag head got) fits o = words_found cell fits.0 tag o.0 head got fits.1 o.1
    cell_found (CellAgain cell tag head value) fits o = again_found cell fits.0 tag o.0 head value fits.1 o.1

    -- 6. The horizon

    abbrev Tells : Now ℕ OldEnd → Type 0
    Tells now = HorizonComes shape chains rings m cells seen row number now

    pub horizon_found : (worker : ℕ) → IsOf shape.workers worker
        → HorizonAt shape chains rings m cells seen row number worker
        → Tells (old_after shape.workers seen worker (m (Horizon worker)))
    horizon_found worker fits (ended, (at, from, least, most, past)) =
        let entry = slice_index seen (worker - 1) in
        let horizon = m (Horizon worker) in
        by_test Tells (nat_lt entry horizon) (Over (TooOld worker entry horizon))
        (if eqb worker shape.workers then Over NotPassed else At (worker + 1))
        (λ e. (refl, refl, ltb-true entry horizon e, ended))
        (λ e.
        let beyond : worker < at = lt_of_le-ne from (λ same. other e (sym same)) in
        by_equal Tells worker shape.workers (Over NotPassed) (At (worker + 1))
        (λ last. absurd (omega arith)) (λ more. (ended, (at, omega arith, least, most, past))))
      where
        other : nat_lt (slice_index seen (worker - 1)) (m (Horizon worker)) ≡ false → at ≢ worker
        other e same =
            let below = ltb-false (slice_index seen (worker - 1)) (m (Horizon worker)) e in
            let here = subst (λ w. slice_index seen (w - 1) < m (Horizon w)) same past in
            omega arith
