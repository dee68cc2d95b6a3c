use Rattle.std.proofs.Common.{sym, ◌∙◌, ap, subst, ◌<◌}
use Rattle.std.specs.Prelude.{IfSome}
use Rattle.nam_verbs.specs.Now.{verb_now}
use Rattle.nam_verbs.specs.Verb.{address_of}
use Rattle.nam_verbs.specs.VerbAt.{verb_by}
use Rattle.nam_catalog.specs.Words.{words_of}
use Rattle.nam_protocol.specs.Commit.{commit_verb}
use Rattle.nam_commit.specs.Commits.{Commits}
use Rattle.nam_commit.specs.Stands.{NowStands, point_address}
use Rattle.nam_commit.proofs.StandsLemmas.{commits_stand}
use Rattle.nam_commit.proofs.VerbLemmas.{verb_named, verb_within}
use Rattle.nam_commit.proofs.committer.Committer.verb.Goals as goal

pub step_verb-requires-clause-stands : goal.step_verb-requires-clause-stands
step_verb-requires-clause-stands c =
    subst (NowStands c.args.state.now) (ap (λ (a : Commits). a.state) (sym c.self.view_is))
    (commits_stand c.args.state.now c.args.self.now c.requires)

pub returns-clause-verb : goal.returns-clause-verb
returns-clause-verb c shape fit =
    c.step_verb.ensures
    ∙ ap (λ (a : Commits). verb_now (λ at. verb_by (point_address c.args.state.now a.intent_at at)
    (commit_verb c.args.state.now at)) a.state) c.self.view_is
    ∙ verb_named shape c.args.state.now c.args.self.now fit

pub returns-clause-within : goal.returns-clause-within
returns-clause-within c shape fit =
    subst (λ result. IfSome result (λ verb. address_of verb < words_of shape)) (sym (returns-clause-verb c shape fit))
    (verb_within shape c.args.state.now c.args.self.now fit)
