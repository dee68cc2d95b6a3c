-- what a publication does
use Rattle.std.specs.Prelude.{ℕ, [], ◌∷◌}
use Rattle.nam_verbs.specs.Steps.{EndsAfter}
use Rattle.nam_vector.specs.Publish.{publishing, publish_verb, running}

-- whatever is found, it writes the worker's entry, and does nothing else
abbrev pub PublishLaw : Type 0
PublishLaw = (worker number : ℕ) → EndsAfter (running (publishing worker number)) (publish_verb worker number ∷ []) tt
