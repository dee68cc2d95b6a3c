use Rattle.std.proofs.Common.{◌≤◌, sym, ap, ◌∙◌, subst}
use Rattle.nam_catalog.specs.Words.{words_of}
use Rattle.nam_layout.specs.declared.field.Place.{Place}
use Rattle.nam_calls.specs.declared.index.Path.{Path}
use Rattle.nam_calls.proofs.FallsTables.{has_capacity, width_is, ring_is}
use Rattle.nam_index.specs.Path.{path_end, FitsPath}
use Rattle.nam_index.proofs.PathLemmas.{path_fits}
use Rattle.nam_index.proofs.path.path_of.Goals as goal

pub place-place-requires : goal.place-place-requires
place-place-requires c =
    (c.requires.table, has_capacity c.args.layout.now c.total-words.ensures.fits c.args.table c.requires.table)

pub returns-clause-value : goal.returns-clause-value
returns-clause-value c =
    let shape = c.args.layout.now in
    let limits = c.total-words.ensures.fits in
    let table = c.args.table in
    let some = has_capacity shape limits table c.requires.table in
    let same = c.place-place.ensures.value in
    let width = ap (λ (place : Place). place.width) same ∙ width_is shape limits table 0 c.requires.table some in
    let ring = ap (λ (place : Place). place.ring) same ∙ ring_is shape limits table 0 c.requires.table some in
    let first = ap (λ (place : Place). place.key_at) same in
    let row = ap (λ (place : Place). place.row) same in
    let capacity = c.capacity.ensures in
    let words = c.slot_words.ensures in
    cc

pub returns-clause-fits : goal.returns-clause-fits
returns-clause-fits c =
    subst FitsPath (sym (returns-clause-value c))
    (path_fits c.args.layout.now c.total-words.ensures.fits c.args.table c.requires.table c.args.key c.requires.key).0

pub returns-clause-within : goal.returns-clause-within
returns-clause-within c =
    subst (λ (path : Path). path_end path ≤ words_of c.args.layout.now) (sym (returns-clause-value c))
    (path_fits c.args.layout.now c.total-words.ensures.fits c.args.table c.requires.table c.args.key c.requires.key).1
