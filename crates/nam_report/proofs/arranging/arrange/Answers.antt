use Rattle.std.proofs.Common.{◌≡◌, suc, List, length, map, ap, sym, ◌∙◌, subst, arith, Vec, Global}
use Rattle.std.specs.Prelude.{Result, Ok, Err, IfOk}
use Rattle.std.specs.List.{AllByRecursion}
use Rattle.si_model.specs.declared.op.Op.{Op}
use Rattle.si_model.specs.Tells.{tells_of}
use Rattle.si_model.specs.Arranged.{level_from}
use Rattle.nam_report.specs.declared.arranging.placed.Placed.{Placed}
use Rattle.nam_report.specs.Lines.{referents}
use Rattle.nam_report.specs.Depths.{line_of}
use Rattle.nam_report.specs.Arranging.{in_order, placed_by, arranged}
use Rattle.nam_report.proofs.ArrangedLemmas.{no_depths, placed_is}
use Rattle.nam_report.proofs.arranging.arrange.Goals as goal

abbrev jobs_of : List (Vec Op Global) → List (List Op)
jobs_of jobs = map (λ job. job.items) jobs

pub settle-requires : goal.settle-requires
settle-requires c =
    let levels = c.in_ok-levels.levels in
    subst (AllByRecursion (λ (p : Placed). p.depth ≡ 0)) (sym c.in_ok-placed.ensures)
    (no_depths (level_from levels.start levels.top (referents levels.snapshots.items)) (jobs_of c.args.jobs.now)
    c.in_ok-lines.lines.items)

then : {T E : Type 0} (r : Result T E) (P Q : T → Type 0) → ((x : T) → P x → Q x) → IfOk r P → IfOk r Q
then (Ok x) P Q f h = f x h
then (Err e) P Q f h = h

pub returns : goal.returns
returns c =
    let jobs = jobs_of c.args.jobs.now in
    let logs = c.args.logs.now in
    let levels = c.in_ok-levels.levels in
    let lines = c.in_ok-lines.lines.items in
    let top : levels.top ≡ suc (length lines) =
    omega (arith, c.in_ok-levels.ensures.top, c.in_ok-lines.lines.ok.0, c.len.ensures) in
    let placed : c.settle.new.placed.items ≡ placed_by c.args.start (map (tells_of jobs) logs) =
    c.in_ok-settle.ensures
    ∙ placed_is c.args.start jobs logs levels lines c.in_ok-placed.placed.items c.requires.counts c.in_ok-lines.ensures
    c.in_ok-levels.ensures.start top c.in_ok-levels.ensures.same c.in_ok-placed.ensures in
    then c.in_order.result (λ entries. map line_of (in_order c.settle.new.placed.items) ≡ entries.items)
    (λ history. history.items ≡ arranged c.args.start (map (tells_of jobs) logs))
    (λ entries e. sym e ∙ ap (λ ps. map line_of (in_order ps)) placed) c.in_order.ensures
