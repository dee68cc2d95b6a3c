use Rattle.std.proofs.Common.{sym, ap, subst}
use Rattle.std.specs.Prelude.{IsSome}
use Rattle.nam_verbs.specs.Running.{next_verb, verb_from}
use Rattle.nam_reader.specs.Reading.{Reads, running}
use Rattle.nam_reader.specs.Registers.{state_of}
use Rattle.nam_reader.proofs.TakenLemmas.{still_fits, fewer_left}
use Rattle.nam_reader.proofs.reader.Reader.take.Goals as goal

pub invariant_of-self : goal.invariant_of-self
invariant_of-self c =
    let a = c.self.inside in
    still_fits a.sight c.args.seen.now c.args.found (state_of a.registers) (state_of c.take.new.self) c.self.invariant
    c.take.ensures

pub returns-clause-after : goal.returns-clause-after
returns-clause-after c =
    let a = c.self.inside in
    rw (← c.self.view_is)
    (ap (λ state. running c.args.seen.now (record { sight = a.sight; state = state })) c.take.ensures)

pub returns-clause-falls : goal.returns-clause-falls
returns-clause-falls c =
    let a = c.self.inside in
    let seen = c.args.seen.now in
    let stands = subst (λ (reads : Reads). IsSome (next_verb (running seen reads))) (sym c.self.view_is)
    c.requires.stands in
    rw (← c.self.view_is)
    (fewer_left a.sight seen c.args.found
    (verb_from (running seen (record { sight = a.sight; state = state_of a.registers })))
    (state_of a.registers) (state_of c.take.new.self) c.self.invariant stands c.take.ensures)
