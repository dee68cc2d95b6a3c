-- The lines of a script as far as its loaded rows lead to the draft of them.
use Rattle.std.proofs.Common.{◌≡◌, ℕ, ◌^◌, ◌<◌, ◌≤◌, true, eqb, ltb, not, List, [], ◌∷◌, ◌++◌, length}
use Rattle.std.proofs.Common.{Some, Ok, refl, sym, ap, ◌∙◌, subst, arith, length-append}
use Rattle.std.proofs.Common.{◌-◌, append_assoc}
use Rattle.std.specs.Prelude.{is_ok, is_some, slice_index}
use Rattle.std.specs.List.{AllByRecursion}
use Rattle.std.proofs.lemmas.Bool.{eq-eqb, lt-ltb}
use Rattle.std.proofs.lemmas.List.{length-map}
use Rattle.std.proofs.lemmas.List.Elements.{recursion_from_All}
use Rattle.si_model.specs.declared.row.Row.{Row}
use Rattle.nam_catalog.specs.declared.shape.Table.{Table}
use Rattle.nam_catalog.specs.Greatest.{greatest_number}
use Rattle.nam_catalog.specs.declared.form.Form.{Form}
use Rattle.nam_catalog.specs.declared.form.Form.TheVariants.{Narrow, Wide, Held}
use Rattle.nam_catalog.specs.Tables.{name_of, widths_of, capacities_of}
use Rattle.nam_catalog.specs.Limits.{fault_of}
use Rattle.nam_catalog.specs.Fits.{FitsTable, FitsLimits}
use Rattle.nam_catalog.proofs.FitsLemmas.{fits_limits, has_no_fault}
use Rattle.nam_text.specs.Spelling.{FitsWord}
use Rattle.nam_script.specs.declared.refusal.Kind.TheVariants as kind
use Rattle.nam_script.specs.Line as line
use Rattle.nam_script.specs.declared.script.Script.{Script}
use Rattle.nam_script.specs.declared.draft.Draft.{Draft}
use Rattle.nam_script.specs.declared.stage.Stage.{Stage}
use Rattle.nam_script.specs.declared.stage.Stage.TheVariants as stage
use Rattle.nam_script.specs.Lines.{spelt_line}
use Rattle.nam_script.specs.Stages.{takes_table, takes_row}
use Rattle.nam_script.specs.Checks.{within, all_small, key_of, place_of, is_given, rows_in}
use Rattle.nam_script.specs.Admit.{start, is_held, admit}
use Rattle.nam_script.specs.Limits.{IsNamed, AreDistinct, Fits64Bits, IsScript}
use Rattle.nam_script.specs.Spelling.{somes, setting_lines, table_line, row_line}
use Rattle.nam_script.proofs.Leads.{Leads, leads_none, leads_next, Leads1}
use Rattle.nam_script.proofs.Leads.{ok_goes, must_goes, within_goes, all_small_goes}
use Rattle.nam_script.proofs.Fronts.{all_at, AreFirst, front_fits, name_is_new, found_at, finds}
use Rattle.nam_script.proofs.Fronts.{name_at, width_at, place_below, row_is_new, row_has_room}
use Rattle.nam_script.proofs.Drafts.{after, after_more, after_passes, tabled}
use Rattle.nam_script.proofs.Drafts.{rowed}

-- ---- settings

least_number : (form : Form) → greatest_number form < 2 ^ 64
least_number Narrow = omega arith
least_number Wide = omega arith
least_number Held = omega arith

pub settings_lead : (s : Script) → IsScript s → Leads start (setting_lines s.shape s.policy) (tabled s [])
unfolding admit spelt_line
settings_lead s is =
    let limits = fits_limits s.shape is.shape in
    let d1 : Draft = record start { stage = stage.Version } in
    let d2 : Draft = record d1 { stage = stage.Header; shape = record d1.shape { form = s.shape.form } } in
    let d3 : Draft = record d2 { stage = stage.Workers; shape = record d2.shape { workers = s.shape.workers } } in
    let d4 : Draft = record d3 { stage = stage.Tries; policy = record d3.policy { tries = s.policy.tries } } in
    let d5 : Draft = record d4 { stage = stage.Tidy; policy = record d4.policy { tidy = s.policy.tidy } } in
    let d6 : Draft = record d5 { stage = stage.Start; shape = record d5.shape { start = s.shape.start } } in
    let d7 = tabled s [] in
    leads_next start d1 d7 line.Version _ tt refl
    (leads_next d1 d2 d7 (line.Header s.shape.form) _ tt
    (must_goes (not (is_held s.shape.form)) kind.Word _ _ (ap not is.form) refl)
    (leads_next d2 d3 d7 (line.Workers (Some s.shape.workers)) _ (omega (arith, limits.most_workers))
    (ok_goes (within 1 16 (Some s.shape.workers)) _ s.shape.workers _
    (within_goes 1 16 s.shape.workers limits.least_workers limits.most_workers) refl)
    (leads_next d3 d4 d7 (line.Tries (Some s.policy.tries)) _ (omega (arith, is.tries.1))
    (ok_goes (within 1 16 (Some s.policy.tries)) _ s.policy.tries _
    (within_goes 1 16 s.policy.tries is.tries.0 is.tries.1) refl)
    (leads_next d4 d5 d7 (line.Tidy s.policy.tidy) _ tt refl
    (leads_next d5 d6 d7 (line.Start (Some s.shape.start)) _ (omega (arith, limits.start, least_number s.shape.form))
    (ok_goes (within 0 (greatest_number s.shape.form) (Some s.shape.start)) _ s.shape.start _
    (within_goes 0 (greatest_number s.shape.form) s.shape.start (omega arith) limits.start) refl)
    (leads_next d6 d7 d7 (line.Overflow (Some s.shape.buckets) (Some s.shape.cells)) _
    (omega (arith, limits.most_buckets), omega (arith, limits.most_cells))
    (ok_goes (within 1 256 (Some s.shape.buckets)) _ s.shape.buckets _
    (within_goes 1 256 s.shape.buckets limits.least_buckets limits.most_buckets)
    (ok_goes (within 1 64 (Some s.shape.cells)) _ s.shape.cells _
    (within_goes 1 64 s.shape.cells limits.least_cells limits.most_cells) refl))
    (leads_none d7)))))))

-- ---- tables

none_is : (s : Script) (ts : List Table) → FitsLimits (record s.shape { tables = ts })
    → not (is_some (fault_of (record s.shape { tables = ts }))) ≡ true
none_is s ts fits = ap (λ (o : _). not (is_some o)) (has_no_fault (record s.shape { tables = ts }) fits)

pub table_leads : (s : Script) → IsScript s → (before : List Table) (t : Table) (rest : List Table)
    → before ++ t ∷ rest ≡ s.shape.tables → Leads1 (tabled s before) (table_line t) (tabled s (before ++ t ∷ []))
unfolding admit spelt_line
table_leads s is before t rest all =
    let limits = fits_limits s.shape is.shape in
    let fit_all = recursion_from_All FitsTable s.shape.tables limits.tables in
    let fit = subst (AllByRecursion FitsTable) (sym all) fit_all in
    let fits = all_at FitsTable before t rest fit in
    let named = all_at IsNamed before t rest (subst (AllByRecursion IsNamed) (sym all) is.names) in
    let first = subst AreFirst (sym all) limits.names in
    let count = length-append before (t ∷ rest) in
    let few : length before < 8 = omega (arith, is.few_tables, count, ap length all) in
    let split : before ++ t ∷ rest ≡ (before ++ t ∷ []) ++ rest = sym (append_assoc before (t ∷ []) rest) in
    let front = front_fits s.shape (before ++ t ∷ []) rest (subst (AllByRecursion FitsTable) split fit)
    (omega (arith, length-append before (t ∷ [])))
    (subst (λ (ts : List Table). FitsLimits (record s.shape { tables = ts })) (sym all ∙ split) limits) in (
      (named, (omega (arith, fits.most_width), (omega (arith, fits.most_capacity), omega (arith, fits.most_ring)))),
      must_goes (takes_table (after stage.Overflow stage.Tables before)) kind.Word _ _
          (after_passes takes_table stage.Overflow stage.Tables before refl refl)
          (must_goes (not (is_ok (place_of before t.name))) kind.Name _ _ (name_is_new before t rest first)
          (ok_goes (within 1 _ (Some t.width)) _ t.width _ (within_goes 1 _ t.width fits.least_width fits.most_width)
          (ok_goes (within 1 _ (Some t.capacity)) _ t.capacity _
          (within_goes 1 _ t.capacity fits.least_capacity fits.most_capacity)
          (ok_goes (within 1 _ (Some t.ring)) _ t.ring _ (within_goes 1 _ t.ring fits.least_ring fits.most_ring)
          (must_goes (ltb (length before) 8) kind.Size _ _ (lt-ltb (length before) 8 few)
          (must_goes (not (is_some (fault_of (record s.shape { tables = before ++ t ∷ [] })))) kind.Size _ _
          (none_is s (before ++ t ∷ []) front)
          (ap (λ (y : Stage). Ok (record (tabled s (before ++ t ∷ [])) { stage = y }))
          (sym (after_more stage.Overflow stage.Tables before t))))))))),
    )

-- ---- rows

pub fit_words : (vs : List ℕ) → AllByRecursion Fits64Bits vs → AllByRecursion FitsWord (somes vs)
fit_words [] h = tt
fit_words (v ∷ vs) h = (h.0, fit_words vs h.1)

pub row_leads : (s : Script) → IsScript s → (before : List Row) (r : Row) (rest : List Row)
    → before ++ r ∷ rest ≡ s.rows
    → Leads1 (rowed s before) (row_line s.shape.tables r) (rowed s (before ++ r ∷ []))
unfolding admit spelt_line
row_leads s is before r rest all =
    let ts = s.shape.tables in
    let limits = fits_limits s.shape is.shape in
    let fits = all_at _ before r rest (subst (AllByRecursion _) (sym all) is.rows.fit) in
    let numbers = all_at _ before r rest (subst (AllByRecursion _) (sym all) is.rows.numbers) in
    let distinct = subst AreDistinct (sym all) is.rows.distinct in
    let lt = place_below ts r.table fits.0.0 in
    let room = row_has_room before r rest (slice_index (capacities_of ts) r.table)
    (subst (λ (rs : List Row). rows_in rs r.table ≤ slice_index (capacities_of ts) r.table) (sym all)
    (is.rows.loaded r.table lt)) in
    let wide = width_at ts r.table (recursion_from_All FitsTable ts limits.tables) lt in
    let count = length-map r.value (λ (n : ℕ). Some n) in (
      (
        name_at ts r.table is.names lt,
        (
          omega (arith, numbers.0),
          (fit_words r.value numbers.1, omega (arith, count, fits.1, wide.0), omega (arith, count, fits.1, wide.1)),
        ),
      ),
      must_goes (takes_row (after stage.Tables stage.Rows before)) kind.Word _ _
          (after_passes takes_row stage.Tables stage.Rows before refl refl)
          (ok_goes (place_of ts (name_of ts r.table)) _ (found_at ts r.table) _ (finds ts limits.names r.table lt)
          (ok_goes (key_of (Some r.key)) _ r.key _ (within_goes 0 (2 ^ 64 - 2) r.key (omega arith) numbers.0)
          (ok_goes (all_small (somes r.value)) _ r.value _ (all_small_goes r.value)
          (must_goes (not (is_given before r.table r.key)) kind.Twice _ _ (row_is_new before r rest distinct)
          (must_goes (ltb (rows_in before r.table) (slice_index (capacities_of ts) r.table)) kind.Size _ _
          (lt-ltb _ _ room)
          (must_goes (eqb (length r.value) (slice_index (widths_of ts) r.table)) kind.Size _ _ (eq-eqb _ _ fits.1)
          (ap (λ (y : Stage). Ok (record (rowed s (before ++ r ∷ [])) { stage = y }))
          (sym (after_more stage.Tables stage.Rows before r))))))))),
    )
