use Rattle.std.proofs.Common.{◌≡◌, ◌≤◌, ℕ, length}
use Rattle.nam_verbs.specs.Running.{verbs_left}
use Rattle.nam_verbs.specs.Machine.{driven}
use Rattle.nam_verbs.proofs.driver.drive.Given as goal

-- enough verbs from here lead where the whole run leads
abbrev pub invariant-loop-verb : goal.invariant-loop-verb
invariant-loop-verb g l =
    let running = g.M.Machine.running in
    let words = g.R.Region.words in
    let first = running l.initial.machine in
    ((running l.machine).reach ≤ length (words l.region))
    × ((fuel : ℕ) × (verbs_left (running l.machine) ≤ fuel)
    × (driven fuel (running l.machine) (words l.region) ≡ driven (verbs_left first) first (words l.initial.region)))

abbrev pub decreases-loop-verb : goal.decreases-loop-verb
decreases-loop-verb g l = verbs_left (g.M.Machine.running l.machine)
