-- words that a call writes one after another
use Rattle.std.proofs.Common.{◌≡◌, ℕ, zero, suc, ◌+◌, ◌<◌, List, ◌++◌, length, drop, refl, arith, true, false}
use Rattle.std.specs.Prelude.{◌==◌, if◌then◌else◌, slice_index}
use Rattle.std.proofs.lemmas.List.{drop_more, drop_all}
use Rattle.std.proofs.lemmas.Bool.Decides.{nat_tests}
use Rattle.nam_verbs.specs.declared.now.Now.{Now}
use Rattle.nam_verbs.specs.declared.now.Now.TheVariants.{At}
use Rattle.nam_verbs.specs.VerbAt.{VerbAt, WriteAt}
use Rattle.nam_verbs.specs.Steps.{Does, writes_from, writes_of}

-- a point for each word, and what follows the last
module _ {W P E : Type 0} (verb : P → VerbAt W) (after : P → ℕ → Now P E) (at : ℕ → W) (words : List ℕ) (here : ℕ → P)
    (done : Now P E)
    (writes : (nth : ℕ) → verb (here nth) ≡ WriteAt (at nth) (slice_index words nth))
    (takes : (nth found : ℕ) → after (here nth) found ≡ (if nth + 1 == length words then done else At (here (nth + 1))))
    (rest : List (VerbAt W)) (end : E) (goes_on : Does verb after done rest end) where
  write_from : (n nth : ℕ) → nth + suc n ≡ length words
      → Does verb after (At (here nth)) (writes_from at nth (drop nth words) ++ rest) end
  write_from zero nth within =
      let last : (nth + 1 == length words) ≡ true = grind (arith, nat_tests) in
      rw (drop_more words nth 0 (omega arith))
      (writes nth, λ found. rw (takes nth found, last, drop_all (nth + 1) words (omega arith)) goes_on)
  write_from (suc n) nth within =
      let more : (nth + 1 == length words) ≡ false = grind (arith, nat_tests) in
      rw (drop_more words nth 0 (omega arith))
      (writes nth, λ found. rw (takes nth found, more) (write_from n (nth + 1) (omega arith)))

  all_words : (w : ℕ) → w ≡ length words → 0 < w → Does verb after (At (here 0)) (writes_of at words ++ rest) end
  all_words zero same some = absurd (omega arith)
  all_words (suc n) same some = write_from n 0 (omega arith)

  -- a call that begins to write words writes them all, and goes on
  pub writes_words : 0 < length words → Does verb after (At (here 0)) (writes_of at words ++ rest) end
  writes_words some = all_words (length words) refl some
