use Rattle.std.proofs.Common.{◌+◌, sym, ◌∙◌, ap, subst}
use Rattle.std.specs.Prelude.{All}
use Rattle.nam_catalog.specs.Fits.{FitsTable}
use Rattle.nam_catalog.proofs.FitsLemmas.{fits_limits}
use Rattle.nam_catalog.specs.Words.{tables_words}
use Rattle.nam_layout.specs.Address.{tables_at}
use Rattle.nam_layout.specs.Extent.{extents_of}
use Rattle.nam_layout.proofs.LayoutLemmas.{laid_out}
use Rattle.nam_layout.proofs.layout.Layout.new.Goals as goal

pub lay_out-extents-requires-clause-tables : goal.lay_out-extents-requires-clause-tables
lay_out-extents-requires-clause-tables c =
    let fits = fits_limits c.args.shape.now c.requires in
    subst (All FitsTable) (sym c.as_slice.ensures.value) fits.tables

pub invariant_of-result : goal.invariant_of-result
invariant_of-result c =
    let shape = c.args.shape.now in
    let laid = c.lay_out-extents in
    let tables = c.copied.ensures ∙ c.as_slice-2.ensures.value in
    let begin = ap (extents_of (tables_at shape) 0) c.as_slice.ensures.value in
    let words = ap (λ ts. tables_at shape + tables_words ts) c.as_slice.ensures.value in
    laid_out shape laid.result.extents c.copied.result laid.result.after c.intent_words.result
    tables c.requires (laid.ensures.extents ∙ begin) (laid.ensures.after ∙ words) c.intent_words.ensures.value
