-- what the writing back of headers does
use Rattle.std.proofs.Common.{◌≡◌, refl, subst, arith, ℕ, List, [], ◌∷◌, length, true, false}
use Rattle.std.specs.Prelude.{◌==◌}
use Rattle.std.proofs.lemmas.Bool.Decides.{nat_tests}
use Rattle.std.proofs.lemmas.List.{append-nil}
use Rattle.nam_verbs.specs.declared.now.Now.TheVariants.{At, Over}
use Rattle.nam_verbs.specs.Steps.{Does, writes_of}
use Rattle.nam_verbs.proofs.WritingLemmas.{writes_words}
use Rattle.nam_layout.specs.declared.field.Place.{Place}
use Rattle.nam_calls.specs.Lock.{unlock_begin, unlock_verb_by, unlock_after}
use Rattle.nam_lock.specs.LockingLaw.{header_of}

module _ {W : Type 0} (name : Place → W) (places : List Place) where
  pub unlocks : (headers : List ℕ) → length headers ≡ length places
      → Does (unlock_verb_by name places headers) (λ given found. unlock_after places given) (unlock_begin places)
      (writes_of (header_of name places) headers) tt
  unlocks [] long = let none : (length places == 0) ≡ true = grind (arith, nat_tests) in rw none refl
  unlocks (header ∷ headers) long =
      let all = header ∷ headers in
      let verb = unlock_verb_by name places all in
      let after = λ (given found : ℕ). unlock_after places given in
      let some : (length places == 0) ≡ false = grind (arith, nat_tests) in
      let writes = writes_words verb after (header_of name places) all (λ given. given) (Over tt) (λ nth. refl)
      (λ nth word. rw long refl) [] tt refl (omega arith) in
      rw some (subst (λ verbs. Does verb after (At 0) verbs tt) (append-nil (writes_of (header_of name places) all))
      writes)
