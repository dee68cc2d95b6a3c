use Rattle.std.proofs.Common.{sym, ◌∙◌, subst}
use Rattle.nam_scan.specs.Scan.{IsScanOf, scanning_at}
use Rattle.nam_scan.proofs.ScanLemmas.{sight_at, goes_down}
use Rattle.nam_scan.proofs.scan.Scan.take.Goals as goal
use Rattle.nam_scan.proofs.scan.Scan.take.Goals.{in-At, in-Over}

pub go-requires-clause-fits : goal.go-requires-clause-fits
go-requires-clause-fits c = elim c.match-replace.branch [
  | in-At w ↦
      let i = c.self.inside in
      let a = scanning_at i.range i.seen i.position i.sight i.state in
      let shape = c.args.layout.now in
      let is = subst (IsScanOf shape) (sym c.self.view_is) c.requires.of in
      let old = sym c.replace.ensures.value ∙ w.in-At.is in
      let stands = rw old at c.self.invariant.at in
      let sees = sight_at shape a is c.self.invariant w.in-At.at stands in
      let after = w.scan_after-now.ensures shape record { capacity_is = is.sees.capacity_is; sight_is = sees } in
      (goes_down shape a is c.self.invariant w.in-At.at c.args.found _ stands (w.now-is ∙ after)).0
  | in-Over w ↦
      let over = sym c.replace.ensures.value ∙ w.in-Over.is in
      let some = rw (← c.self.view_is, over) at c.requires.stands in absurd (cc)
]

pub returns-clause-falls : goal.returns-clause-falls
returns-clause-falls c = elim c.match-replace.branch [
  | in-At w ↦
      let i = c.self.inside in
      let a = scanning_at i.range i.seen i.position i.sight i.state in
      let shape = c.args.layout.now in
      let is = subst (IsScanOf shape) (sym c.self.view_is) c.requires.of in
      let old = sym c.replace.ensures.value ∙ w.in-At.is in
      let stands = rw old at c.self.invariant.at in
      let sees = sight_at shape a is c.self.invariant w.in-At.at stands in
      let after = w.scan_after-now.ensures shape record { capacity_is = is.sees.capacity_is; sight_is = sees } in
      rw (c.go.ensures.value, ← c.self.view_is, old)
      (goes_down shape a is c.self.invariant w.in-At.at c.args.found _ stands (w.now-is ∙ after)).1
  | in-Over w ↦
      let over = sym c.replace.ensures.value ∙ w.in-Over.is in
      let some = rw (← c.self.view_is, over) at c.requires.stands in absurd (cc)
]
