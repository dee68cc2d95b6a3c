use Rattle.nam_protocol.proofs.FewLemmas.{few_keys, few_places, few_tidies, key_words}
use Rattle.nam_protocol.proofs.laws_few.places_suffice.Goals as goal

pub returns-clause-keys : goal.returns-clause-keys
returns-clause-keys c = few_keys

pub returns-clause-places : goal.returns-clause-places
returns-clause-places c = few_places

pub returns-clause-tidies : goal.returns-clause-tidies
returns-clause-tidies c = few_tidies

pub returns-clause-words : goal.returns-clause-words
returns-clause-words c = key_words
