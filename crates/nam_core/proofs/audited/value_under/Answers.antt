use Rattle.std.proofs.Common.{◌≡◌, ◌<◌, ℕ, List, Some, sym, ap, ◌∙◌, subst, rules}
use Rattle.std.specs.Option.{IsSome}
use Rattle.nam_verbs.specs.declared.now.Now.{Now}
use Rattle.nam_verbs.specs.Now.{verb_now, after_now}
use Rattle.nam_verbs.specs.Verb.{address_of}
use Rattle.nam_verbs.specs.VerbAt.{verb_by}
use Rattle.nam_verbs.specs.Running.{Running}
use Rattle.nam_layout.specs.declared.field.Field.{Field}
use Rattle.nam_calls.specs.declared.reading.Sight.{Sight}
use Rattle.nam_calls.specs.declared.reading.ReadPoint.{ReadPoint}
use Rattle.nam_calls.specs.declared.reading.ReadingEnd.{ReadingEnd}
use Rattle.nam_calls.specs.Reading.{sight_of, read_verb, read_after}
use Rattle.nam_protocol.specs.Closed.{vector}
use Rattle.nam_reader.specs.Reading.{sight_address}
use Rattle.nam_core.proofs.ReadLemmas.{GoesOn, goes_end, goes_within, goes_next}
use Rattle.nam_core.proofs.audited.value_under.Goals as goal

pub found_by-found-requires : goal.found_by-found-requires
found_by-found-requires c =
    let shape = c.args.layout.now in
    let state = c.loop-verb.reader.state in
    let verb = c.in-Some.verb in
    let stands = subst
    (λ (s : Sight). Some verb ≡ verb_now (λ at. verb_by (sight_address s) (read_verb s at)) state)
    c.loop-verb.invariant.sight (c.in-Some.ensures.verb c.args.seen.now) in
    subst (λ n. address_of verb < n) (sym c.requires.long)
    (goes_within shape c.args.table c.args.position c.args.words.now c.total-words.ensures.fits c.requires.position.0
    c.requires.position.1 state verb c.loop-verb.invariant.goes stands)

pub take-requires-clause-stands : goal.take-requires-clause-stands
take-requires-clause-stands c = subst IsSome (c.in-Some.ensures.verb c.args.seen.now) (search rules)

pub loop-verb-preserved : goal.loop-verb-preserved
loop-verb-preserved c =
    let shape = c.args.layout.now in
    let table = c.args.table in
    let position = c.args.position in
    let words = c.args.words.now in
    let seen = c.args.seen.now in
    let state = c.loop-verb.reader.state in
    let verb = c.in-Some.verb in
    let found = c.found_by-found.result in
    let stands = subst
    (λ (s : Sight). Some verb ≡ verb_now (λ at. verb_by (sight_address s) (read_verb s at)) state)
    c.loop-verb.invariant.sight (c.in-Some.ensures.verb seen) in
    let next = ap (λ (r : Running Field ReadPoint ReadingEnd). r.state) c.take.ensures.after
    ∙ ap (λ (s : Sight). after_now (read_after s seen) state found) c.loop-verb.invariant.sight
    ∙ ap (λ (v : List ℕ). after_now (read_after (sight_of shape table position) v) state found) c.requires.seen
    ∙ ap (λ n. after_now (read_after (sight_of shape table position) (vector shape words)) state n)
    c.found_by-found.ensures in
    record {
      sight = c.take.ensures.sight ∙ c.loop-verb.invariant.sight;
      goes =
          subst (λ (s : Now ReadPoint ReadingEnd). GoesOn shape table position words s) (sym next)
          (goes_next shape table position words c.total-words.ensures.fits c.requires.position.0
          c.requires.position.1 state verb c.loop-verb.invariant.goes stands);
    }

pub returns : goal.returns
returns c =
    let state = c.loop-verb.reader.state in
    let stands = subst
    (λ (s : Sight). c.verb.result ≡ verb_now (λ at. verb_by (sight_address s) (read_verb s at)) state)
    c.loop-verb.invariant.sight (c.verb.ensures.verb c.args.seen.now) in
    c.value_of.ensures
    ∙ goes_end c.args.layout.now c.args.table c.args.position c.args.words.now state c.loop-verb.invariant.goes
    (sym c.in_default.is ∙ stands)
