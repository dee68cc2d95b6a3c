-- addresses of verbs
use Rattle.std.proofs.Common.{◌≡◌, ℕ, refl, ap}
use Rattle.nam_verbs.specs.declared.verb.Verb.TheVariants.{Read, Write, Exchange}
use Rattle.nam_verbs.specs.Verb.{address_of}
use Rattle.nam_verbs.specs.VerbAt.{VerbAt, ReadAt, WriteAt, ExchangeAt, target, verb_by}

module _ {W : Type 0} where
  -- a verb reaches the address of its target
  pub reached : (address : W → ℕ) (verb : VerbAt W) → address_of (verb_by address verb) ≡ address (target verb)
  reached address (ReadAt at) = refl
  reached address (WriteAt at word) = refl
  reached address (ExchangeAt at expect word) = refl

  -- addresses that agree on the target give one verb
  pub same_verb : (address other : W → ℕ) (verb : VerbAt W) → address (target verb) ≡ other (target verb)
      → verb_by address verb ≡ verb_by other verb
  same_verb address other (ReadAt at) same = ap Read same
  same_verb address other (WriteAt at word) same = ap (λ a. Write a word) same
  same_verb address other (ExchangeAt at expect word) same = ap (λ a. Exchange a expect word) same
