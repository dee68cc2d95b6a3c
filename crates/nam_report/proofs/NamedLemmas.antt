-- What the lines of a report take from its script: each table has a name of its own, and a width from 1 to 8.
use Rattle.std.proofs.Common.{◌≡◌, ℕ, zero, suc, ◌<◌, ◌≤◌, true, List, [], ◌∷◌, length, arith}
use Rattle.std.specs.Prelude.{slice_index}
use Rattle.std.specs.List.{AllByRecursion}
use Rattle.std.proofs.lemmas.List.{length-map}
use Rattle.std.proofs.lemmas.List.Elements.{recursion_from_All}
use Rattle.nam_catalog.specs.declared.shape.Table.{Table}
use Rattle.nam_catalog.specs.Fits.{FitsTable}
use Rattle.nam_catalog.specs.Tables.{name_of, widths_of}
use Rattle.nam_catalog.proofs.FitsLemmas.{fits_limits}
use Rattle.nam_text.specs.Token.{is_name}
use Rattle.nam_script.specs.declared.script.Script.{Script}
use Rattle.nam_script.specs.Limits.{IsNamed, IsScript}
use Rattle.nam_report.specs.Fits.{NamesTable}
use Rattle.nam_report.specs.Spelling.{table}

pub record AreNamed (workers : ℕ) (tables : List Table) : Type 0 where
  pub few : (1 ≤ workers) × (workers ≤ 16)
  pub table : (t : ℕ) → NamesTable (widths_of tables) t → (table tables).Fits t
  pub width : (t : ℕ) → NamesTable (widths_of tables) t
      → (1 ≤ slice_index (widths_of tables) t) × (slice_index (widths_of tables) t ≤ 8)

name_is : (ts : List Table) (t : ℕ) → AllByRecursion IsNamed ts → t < length (widths_of ts)
    → is_name (name_of ts t) ≡ true
name_is [] t names lt = absurd (omega (arith, lt))
name_is (u ∷ ts) zero names lt = names.0
name_is (u ∷ ts) (suc t) names lt = name_is ts t names.1 (omega (arith, lt))

width_is : (ts : List Table) (t : ℕ) → AllByRecursion FitsTable ts → t < length (widths_of ts)
    → (1 ≤ slice_index (widths_of ts) t) × (slice_index (widths_of ts) t ≤ 8)
width_is [] t fits lt = absurd (omega (arith, lt))
width_is (u ∷ ts) zero fits lt = (fits.0.least_width, fits.0.most_width)
width_is (u ∷ ts) (suc t) fits lt = width_is ts t fits.1 (omega (arith, lt))

pub named : (s : Script) → IsScript s → AreNamed s.shape.workers s.shape.tables
named s limits =
    let ts = s.shape.tables in
    let fits = fits_limits s.shape limits.shape in
    record {
      few = (fits.least_workers, fits.most_workers);
      table = λ t lt. (name_is ts t limits.names lt, fits.names t (omega (arith, lt, length-map ts (λ t. t.width))));
      width = λ t lt. width_is ts t (recursion_from_All FitsTable ts fits.tables) lt;
    }
