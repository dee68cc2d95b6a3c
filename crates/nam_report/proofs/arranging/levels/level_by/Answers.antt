use Rattle.std.proofs.Common.{◌≡◌, ◌<◌, ℕ, List, length, get_or, ap, sym, ◌∙◌, arith, Bor}
use Rattle.si_model.specs.History.{stamp_at}
use Rattle.si_model.specs.Snapshots.{sum_above}
use Rattle.nam_report.proofs.LevelLemmas.{level_found, level_none, counts_rise}
use Rattle.nam_report.proofs.arranging.levels.level_by.Goals as goal

pub returns-in-Some : goal.returns-in-Some
returns-in-Some c =
    let s = stamp_at c.args.worker c.args.number in
    let levels = c.args.levels.now in
    let ss = levels.snapshots.items in
    let first = c.first_with-first.ensures in
    let look = c.in-Some.ensures.lookup in
    let d = c.in-Some.snapshot.now in
    let i = c.first_with-first.result in
    let same : c.deref.result.now ≡ ss = c.deref.ensures.value in
    let within : i < length ss = omega (arith, look.3.0, ap length same) in
    let level = level_found levels.start levels.top s ss (omega arith) (counts_rise levels.start ss c.requires.rise) i d
    within (λ k lt. first.before k d lt) (first.here d within) in
    let here : sum_above levels.start d.now ≡ sum_above levels.start (get_or ss i d).now =
    ap (λ (x : Bor (List ℕ)). sum_above levels.start x.now) look.1
    ∙ ap (λ (xs : List (Bor (List ℕ))). sum_above levels.start (get_or xs i d).now) same in
    omega (arith, c.sum_above.ensures, c.min.ensures, level, here)

pub returns-in-None : goal.returns-in-None
returns-in-None c =
    let s = stamp_at c.args.worker c.args.number in
    let levels = c.args.levels.now in
    let ss = levels.snapshots.items in
    let first = c.first_with-first.ensures in
    let look = c.in-None.ensures.lookup in
    let same : c.deref.result.now ≡ ss = c.deref.ensures.value in
    sym (level_none levels.start levels.top s ss
    (λ k d lt. first.before k d (omega (arith, lt, look.3, ap length same))))
