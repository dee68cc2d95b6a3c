use Rattle.std.proofs.Common.{◌≡◌, None, length, sym, ◌∙◌, ap, arith, rules}
use Rattle.nam_verbs.specs.Running.{next_verb, after_found, verbs_left}
use Rattle.nam_verbs.proofs.MachineLemmas.{length-after_verb, driven_at_end, driven-leads, driven-verb}
use Rattle.nam_verbs.proofs.driver.drive.Goals as goal

pub loop-verb-preserved : goal.loop-verb-preserved
loop-verb-preserved g c =
    let words = g.R.Region.words c.loop-verb.region in
    let call = g.M.Machine.running c.loop-verb.machine in
    let run = c.loop-verb.invariant.1 in
    let stands = sym c.verb.ensures.verb ∙ c.in-Some.is in
    let taken = c.take.ensures.after ∙ ap (after_found call) c.verb-found.ensures.found in
    let changed = c.verb-found.ensures.changed in
    let kept = ap length changed ∙ length-after_verb words c.in-Some.verb in
    let reach = ap (λ r. r.reach) c.take.ensures.after in (
      omega (arith, kept, reach),
      driven-verb run.0 (verbs_left call) (verbs_left (g.M.Machine.running c.take.new.self)) words c.in-Some.verb
          call run.1 c.take.ensures.falls stands taken changed run.2,
    )

pub returns-clause-taken : goal.returns-clause-taken
returns-clause-taken g c =
    let words = g.R.Region.words c.loop-verb.region in
    let first = g.M.Machine.running c.args.machine.now in
    let run = c.loop-verb.invariant.1 in
    let over : next_verb (g.M.Machine.running c.loop-verb.machine) ≡ None = sym c.verb.ensures.verb ∙ search rules in
    rw (driven_at_end run.0 words over run.2).0
    (driven-leads (verbs_left first) first (g.R.Region.words c.args.region.now))

pub returns-clause-machine : goal.returns-clause-machine
returns-clause-machine g c =
    let words = g.R.Region.words c.loop-verb.region in
    let run = c.loop-verb.invariant.1 in
    let over : next_verb (g.M.Machine.running c.loop-verb.machine) ≡ None = sym c.verb.ensures.verb ∙ search rules in
    (driven_at_end run.0 words over run.2).0

pub returns-clause-words : goal.returns-clause-words
returns-clause-words g c =
    let words = g.R.Region.words c.loop-verb.region in
    let run = c.loop-verb.invariant.1 in
    let over : next_verb (g.M.Machine.running c.loop-verb.machine) ≡ None = sym c.verb.ensures.verb ∙ search rules in
    (driven_at_end run.0 words over run.2).1
