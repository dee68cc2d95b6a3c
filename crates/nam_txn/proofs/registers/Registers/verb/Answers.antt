use Rattle.std.proofs.Common.{◌≡◌, ◌+◌, sym, subst, Some}
use Rattle.nam_verbs.specs.declared.verb.Verb.TheVariants.{Read, Exchange}
use Rattle.nam_txn.specs.Txn.{verb_of, call_at}
use Rattle.nam_txn.specs.declared.step.Step.TheVariants as step
use Rattle.nam_txn.proofs.StandLemmas.{stands}
use Rattle.nam_txn.proofs.VerbLemmas.{find_verb_is, look_verb_is, take_verb_is, read_verb_is}
use Rattle.nam_txn.proofs.registers.Registers.verb.Goals as goal

pub returns-in-Finding : goal.returns-in-Finding
returns-in-Finding c = λ shape of.
    let a = c.args.self.now in
    let runs = stands shape a step.Finding c.in-Finding.is c.requires of in
    subst (λ s. Some (Read c.key_at.result) ≡ verb_of shape a.state (call_at s a)) (sym c.in-Finding.is)
    (find_verb_is shape a runs c.key_at.result c.key_at.ensures.value)

pub returns-in-Reading : goal.returns-in-Reading
returns-in-Reading c = λ shape of.
    let a = c.args.self.now in
    let here = stands shape a step.Reading c.in-Reading.is c.requires of in
    subst (λ s. c.verb.result ≡ verb_of shape a.state (call_at s a)) (sym c.in-Reading.is)
    (read_verb_is shape a here.0 here.1 c.verb.result (c.verb.ensures.verb a.state.seen))

pub returns-in-KeyLook : goal.returns-in-KeyLook
returns-in-KeyLook c = λ shape of.
    let a = c.args.self.now in
    let here = stands shape a step.KeyLook c.in-KeyLook.is c.requires of in
    subst (λ s. Some (Read c.key_at-in-KeyLook.result) ≡ verb_of shape a.state (call_at s a)) (sym c.in-KeyLook.is)
    (look_verb_is shape a here.0 c.key_at-in-KeyLook.result c.key_at-in-KeyLook.ensures.value)

pub returns-in-KeyTake : goal.returns-in-KeyTake
returns-in-KeyTake c = λ shape of.
    let a = c.args.self.now in
    let here = stands shape a step.KeyTake c.in-KeyTake.is c.requires of in
    subst (λ s. Some (Exchange c.key_at-in-KeyTake.result 0 (a.walk.path.key + 1))
    ≡ verb_of shape a.state (call_at s a)) (sym c.in-KeyTake.is)
    (take_verb_is shape a here.0 c.key_at-in-KeyTake.result c.key_at-in-KeyTake.ensures.value)
