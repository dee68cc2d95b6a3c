-- The audit of any words fits their shape.
use Rattle.std.proofs.Common.{◌≡◌, ℕ, zero, suc, ◌+◌, ◌<◌, ◌≤◌, List, [], ◌∷◌, length, subst, ap, ◌∙◌, arith}
use Rattle.std.proofs.Common.{Option}
use Rattle.std.specs.Prelude.{nat_lt, slice_index, not, ◌==◌, ◌||◌}
use Rattle.std.specs.List.{AllByRecursion}
use Rattle.si_model.specs.declared.report.AuditRow.{AuditRow}
use Rattle.si_model.proofs.ListLemmas.{All-append}
use Rattle.nam_verbs.specs.declared.now.Now.{Now}
use Rattle.nam_verbs.specs.declared.now.Now.TheVariants.{At, Over}
use Rattle.nam_verbs.specs.VerbAt.{found_at}
use Rattle.nam_verbs.proofs.TestLemmas.{by_test}
use Rattle.nam_catalog.specs.declared.shape.Shape.{Shape}
use Rattle.nam_catalog.specs.declared.shape.Table.{Table}
use Rattle.nam_catalog.specs.Fits.{FitsLimits}
use Rattle.nam_catalog.specs.Tables.{widths_of, capacities_of}
use Rattle.nam_header.specs.Stamp.{is_locked}
use Rattle.nam_layout.specs.declared.field.Field.{Field}
use Rattle.nam_layout.specs.declared.field.Field.TheVariants.{Key, Header}
use Rattle.nam_layout.specs.Rows.{row_of}
use Rattle.nam_calls.specs.Fits.{HasWidth, IsTableOf, SightFits, ReadFits, ReadEnds}
use Rattle.nam_calls.specs.Memory.{memory}
use Rattle.nam_calls.specs.Reading.{read_after, read_begin, read_left, read_verb, sight_of}
use Rattle.nam_calls.specs.Words.{capacity_of, width_of}
use Rattle.nam_calls.specs.declared.reading.ReadPoint.{ReadPoint}
use Rattle.nam_calls.specs.declared.reading.ReadingEnd.{ReadingEnd}
use Rattle.nam_calls.specs.declared.reading.ReadingEnd.TheVariants.{Got, Passed, Astray}
use Rattle.nam_calls.specs.declared.reading.Sight.{Sight}
use Rattle.nam_calls.proofs.FallsRead.{ReadFalls, read_falls}
use Rattle.nam_calls.proofs.FallsTables.{sight_fits, width_is}
use Rattle.nam_protocol.specs.Closed.{read_alone, inserted, inserted_all, audit_row, is_audited, table_rows}
use Rattle.nam_protocol.specs.Closed.{tables_rows}
use Rattle.nam_protocol.specs.Closed.{value_under, vector}
use Rattle.nam_report.specs.Fits.{AuditRowFits}
use Rattle.nam_simulated.specs.AuditLaw.{AuditLaw}
use Rattle.nam_simulated.proofs.ItemsFit.{table_named, value_fits}

-- 1. A read on words that nobody changes

module _ (sight : Sight) (fits : SightFits sight) (seen : List ℕ) (words : Field → ℕ) where
  abbrev Stands : Now ReadPoint ReadingEnd → Type 0
  Stands (At place) = ReadFits sight place
  Stands (Over end) = ReadEnds sight end

  falls_stands : (n : ℕ) (now : Now ReadPoint ReadingEnd) → ReadFalls sight fits n now → Stands now
  falls_stands n (At place) falls = falls.0
  falls_stands n (Over end) falls = falls.0

  alone_wide : (verbs : ℕ) (now : Now ReadPoint ReadingEnd) → Stands now
      → HasWidth sight.place.width (read_alone sight seen words verbs now)
  alone_wide verbs (Over (Got value)) stands = stands
  alone_wide zero (Over (Passed worker entry horizon)) stands = tt
  alone_wide (suc verbs) (Over (Passed worker entry horizon)) stands = tt
  alone_wide zero (Over Astray) stands = tt
  alone_wide (suc verbs) (Over Astray) stands = tt
  alone_wide zero (At place) stands = tt
  alone_wide (suc verbs) (At place) stands =
      let found = found_at words (read_verb sight place) in
      alone_wide verbs (read_after sight seen place found)
      (falls_stands (read_left sight place) (read_after sight seen place found)
      (read_falls sight fits seen place found stands))

-- 2. The rows, sorted

module _ (P : AuditRow → Type 0) where
  all_inserted : (row : AuditRow) (rows : List AuditRow) → P row → AllByRecursion P rows
      → AllByRecursion P (inserted row rows)
  all_inserted row [] p all = (p, tt)
  all_inserted row (r ∷ rs) p all =
      by_test (AllByRecursion P) (nat_lt row.key r.key) (row ∷ r ∷ rs) (r ∷ inserted row rs) (λ e. (p, all))
      (λ e. (all.0, all_inserted row rs p all.1))

  all_inserted_all : (more rows : List AuditRow) → AllByRecursion P more → AllByRecursion P rows
      → AllByRecursion P (inserted_all more rows)
  all_inserted_all [] rows all those = those
  all_inserted_all (r ∷ rs) rows all those =
      all_inserted r (inserted_all rs rows) all.0 (all_inserted_all rs rows all.1 those)

-- 3. Tables

module _ (shape : Shape) (limits : FitsLimits shape) (words : List ℕ) where
  abbrev Fits : AuditRow → Type 0
  Fits = AuditRowFits (widths_of shape.tables)

  value_wide : (table position : ℕ) → IsTableOf shape table → position < capacity_of shape table
      → HasWidth (width_of shape table) (value_under shape words table position)
  value_wide table position is l =
      let sight = sight_of shape table position in
      subst (λ w. HasWidth w (value_under shape words table position)) (width_is shape limits table position is l)
      (alone_wide sight (sight_fits shape limits table position is l) (vector shape words) (memory shape words)
      (read_left sight read_begin) (At read_begin) tt)

  row_fits : (table row : ℕ) (value : Option (List ℕ)) → IsTableOf shape table → HasWidth (width_of shape table) value
      → AllByRecursion (AuditRowFits (widths_of shape.tables)) (audit_row shape words table row value)
  row_fits table row value is wide =
      let locked = is_locked shape.form (memory shape words (Header row)) in
      let key = memory shape words (Key row) in
      by_test (AllByRecursion (AuditRowFits (widths_of shape.tables))) ((key == 0) || not (is_audited value locked)) _ _
      (λ e. tt) (λ e. ((table_named shape table is, value_fits shape table value wide), tt))

  rows_fit : (table position rest : ℕ) → IsTableOf shape table → position + rest ≤ capacity_of shape table
      → AllByRecursion (AuditRowFits (widths_of shape.tables)) (table_rows shape words table position rest)
  rows_fit table position zero is l = tt
  rows_fit table position (suc rest) is l =
      all_inserted_all (AuditRowFits (widths_of shape.tables))
      (audit_row shape words table (row_of shape.tables table position) (value_under shape words table position))
      (table_rows shape words table (position + 1) rest)
      (row_fits table (row_of shape.tables table position) (value_under shape words table position) is
      (value_wide table position is (omega arith)))
      (rows_fit table (position + 1) rest is (omega arith))

  tables_fit : (table : ℕ) (tables : List Table) → table + length tables ≤ length shape.tables
      → ((k : ℕ) → k < length tables → slice_index (capacities_of tables) k ≡ capacity_of shape (table + k))
      → AllByRecursion (AuditRowFits (widths_of shape.tables)) (tables_rows shape words table tables)
  tables_fit table [] l same = tt
  tables_fit table (t ∷ tables) l same =
      let first : table + 0 ≡ table = omega arith in
      let capacity : t.capacity ≡ capacity_of shape table =
      same 0 (omega arith) ∙ ap (λ n. capacity_of shape n) first in
      All-append (AuditRowFits (widths_of shape.tables)) (table_rows shape words table 0 t.capacity)
      (tables_rows shape words (table + 1) tables)
      (rows_fit table 0 t.capacity (omega arith) (omega arith))
      (tables_fit (table + 1) tables (omega arith)
      (λ k m. let next : table + suc k ≡ table + 1 + k = omega arith in
      same (suc k) (omega arith) ∙ ap (λ n. capacity_of shape n) next))

pub audits_fit : AuditLaw
audits_fit shape limits words =
    tables_fit shape limits words 0 shape.tables (omega arith)
    (λ k l. let first : k ≡ 0 + k = omega arith in ap (λ n. capacity_of shape n) first)
