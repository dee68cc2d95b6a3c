use Rattle.std.proofs.Common.{sym, subst}
use Rattle.nam_scan.specs.Scan.{IsScanOf, scanning_at}
use Rattle.nam_scan.proofs.ScanLemmas.{sight_at, reached}
use Rattle.nam_scan.proofs.scan.Scan.verb.Goals as goal

pub returns-in-At-clause-within : goal.returns-in-At-clause-within
returns-in-At-clause-within c = λ shape of.
    let i = c.self.inside in
    let a = scanning_at i.range i.seen i.position i.sight i.state in
    let is = subst (IsScanOf shape) (sym c.self.view_is) of in
    let stands = rw c.in-At.is at c.self.invariant.at in
    reached shape a is c.self.invariant c.in-At.at _ stands
    (c.scan_verb.ensures.value shape a.range.table (sight_at shape a is c.self.invariant c.in-At.at stands))
