-- The read of a running operation: where it looks, and that what it gets has its table's width.
use Rattle.std.proofs.Common.{◌≡◌, ℕ, ◌≤◌, length, Some, None, refl, sym, ap, ◌∙◌, subst, arith}
use Rattle.si_model.specs.Evaluation.{op_key}
use Rattle.nam_verbs.specs.declared.now.Now.{Now}
use Rattle.nam_verbs.specs.declared.now.Now.TheVariants.{At, Over}
use Rattle.nam_verbs.specs.Now.{after_now}
use Rattle.nam_verbs.specs.Running.{Running, after_found}
use Rattle.nam_catalog.specs.declared.shape.Shape.{Shape}
use Rattle.nam_layout.specs.declared.field.Field.{Field}
use Rattle.nam_layout.specs.declared.field.Place.{Place}
use Rattle.nam_layout.specs.declared.field.Cells.{Cells}
use Rattle.nam_layout.specs.Place.{place_of, cells_of, bucket_of}
use Rattle.nam_calls.specs.declared.reading.ReadPoint.{ReadPoint}
use Rattle.nam_calls.specs.declared.reading.ReadingEnd.{ReadingEnd}
use Rattle.nam_calls.specs.declared.reading.ReadingEnd.TheVariants.{Got, Passed, Astray}
use Rattle.nam_calls.specs.Words.{width_of}
use Rattle.nam_calls.specs.Reading.{sight_of, read_begin, read_after, read_left}
use Rattle.nam_calls.specs.Fits.{SightFits, HasWidth}
use Rattle.nam_calls.proofs.FallsRead.{ReadFalls, read_falls}
use Rattle.nam_calls.proofs.FallsTables.{sight_fits, width_is, read_figure}
use Rattle.nam_reader.specs.Reading.{Reads, sight_by, running, ended}
use Rattle.nam_reader.specs.declared.end.ReaderEnd.TheVariants as reader_end
use Rattle.nam_txn.specs.Txn.{OpRuns, ReadStands, EndsWide, point_of}
use Rattle.nam_txn.specs.declared.registers.Registers.{Registers}
use Rattle.nam_txn.proofs.RunLemmas.{is_table, position_less}

module _ (shape : Shape) (a : Registers) (runs : OpRuns shape a) where
  pub looks : (place : Place) (cells : Cells) (workers : ℕ)
      → place ≡ place_of shape (op_key a.op).table a.walk.position
      → cells ≡ cells_of shape (bucket_of shape place.row) → workers ≡ length a.state.seen
      → sight_by place cells workers ≡ sight_of shape (op_key a.op).table a.walk.position
  looks place cells workers p c w = rw (c, p, w, runs.fits.seen_is) refl

  pub looks_fit : SightFits (sight_of shape (op_key a.op).table a.walk.position)
  looks_fit = sight_fits shape runs.limits (op_key a.op).table a.walk.position (is_table shape a runs)
      (position_less shape a runs)

  pub begins_within : read_left (sight_of shape (op_key a.op).table a.walk.position) read_begin ≤ a.read_most
  begins_within =
      let figure = read_figure shape runs.limits (op_key a.op).table a.walk.position (is_table shape a runs)
      (position_less shape a runs) in
      let most = runs.table.read_most in
      omega (arith, figure, most)

  module _ (reads : ReadStands shape a) where
    ends_wide : (n : ℕ) (now : Now ReadPoint ReadingEnd)
        → ReadFalls (sight_of shape (op_key a.op).table a.walk.position) looks_fit n now
        → EndsWide (width_of shape (op_key a.op).table) now
    ends_wide n (At at) falls = tt
    ends_wide n (Over (Got value)) falls =
        subst (λ w. HasWidth w value)
        (width_is shape runs.limits (op_key a.op).table a.walk.position (is_table shape a runs)
        (position_less shape a runs)) falls.0
    ends_wide n (Over (Passed worker entry horizon)) falls = tt
    ends_wide n (Over Astray) falls = tt

    pub after_wide : (found : ℕ) → EndsWide (width_of shape (op_key a.op).table)
        (read_after (sight_of shape (op_key a.op).table a.walk.position) a.state.seen (point_of a.reader.state) found)
    after_wide found =
        ends_wide _ _
        (read_falls (sight_of shape (op_key a.op).table a.walk.position) looks_fit a.state.seen
        (point_of a.reader.state) found reads.fits)

    pub taken_wide : (after : Reads) (found : ℕ)
        → running a.state.seen after ≡ after_found (running a.state.seen a.reader) found
        → EndsWide (width_of shape (op_key a.op).table) after.state
    taken_wide after found same =
        let seen = a.state.seen in
        let new : after.state ≡ after_now (read_after a.reader.sight seen) a.reader.state found =
        ap (λ (r : Running Field ReadPoint ReadingEnd). r.state) same in
        let at = ap (λ s. after_now (read_after a.reader.sight seen) s found) reads.state in
        let there = ap (λ sight. read_after sight seen (point_of a.reader.state) found) reads.sight in
        subst (EndsWide (width_of shape (op_key a.op).table)) (sym (new ∙ at ∙ there)) (after_wide found)

pub got_none : (state : Now ReadPoint ReadingEnd) → ended state ≡ Some reader_end.Absent → state ≡ Over (Got None)
got_none (At at) is = absurd cc
got_none (Over (Got (Some value))) is = absurd cc
got_none (Over (Got None)) is = refl
got_none (Over (Passed worker entry horizon)) is = absurd cc
got_none (Over Astray) is = absurd cc
