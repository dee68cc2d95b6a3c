use Rattle.std.proofs.Common.{◌<◌, sym, subst}
use Rattle.nam_verbs.specs.Verb.{address_of}
use Rattle.nam_catalog.specs.Words.{words_of}
use Rattle.nam_medic.proofs.MedicLemmas.{verb_within}
use Rattle.nam_medic.proofs.verb.medic_verb.Goals as goal

pub returns-clause-within : goal.returns-clause-within
returns-clause-within c =
    let shape = c.args.layout.now in
    subst (λ verb. address_of verb < words_of shape) (sym c.verb_at.ensures)
    (verb_within shape c.args.worker c.total-words.ensures.fits c.requires.form c.requires.worker c.args.at.now
    c.requires.at)
