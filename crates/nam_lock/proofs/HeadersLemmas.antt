-- addresses of headers.
use Rattle.std.proofs.Common.{ℕ, zero, suc, ◌+◌, ◌<◌, ◌≤◌, List, [], ◌∷◌, length, arith}
use Rattle.std.specs.Prelude.{nat_le, All}
use Rattle.std.proofs.lemmas.Bool.Decides.{nat_tests}
use Rattle.std.proofs.lemmas.List.Elements.{All-head, All-tail}
use Rattle.nam_verbs.proofs.TestLemmas.{by_test}
use Rattle.nam_catalog.specs.declared.bounds.TheConstants.{MOST_WORDS}
use Rattle.nam_layout.specs.declared.field.Place.{Place}
use Rattle.nam_layout.specs.Place.{later}
use Rattle.nam_layout.specs.PlaceFits.{FitsPlace}
use Rattle.nam_calls.specs.Lock.{nth_place}
use Rattle.nam_lock.specs.Headers.{headers_end}

first_below : (a b : ℕ) → a ≤ later a b
first_below a b = by_test (λ n. a ≤ n) (nat_le a b) b a (λ test. grind (arith, nat_tests)) (λ test. omega arith)

second_below : (a b : ℕ) → b ≤ later a b
second_below a b = by_test (λ n. b ≤ n) (nat_le a b) b a (λ test. omega arith) (λ test. grind (arith, nat_tests))

both_below : (a b most : ℕ) → a ≤ most → b ≤ most → later a b ≤ most
both_below a b most first second = by_test (λ n. n ≤ most) (nat_le a b) b a (λ test. second) (λ test. first)

pub is_below_end : (places : List Place) (nth : ℕ) → nth < length places
    → (nth_place places nth).header_at < headers_end places
is_below_end [] nth within = absurd (omega arith)
is_below_end (place ∷ places) zero within =
    let first = first_below (place.header_at + 1) (headers_end places) in omega arith
is_below_end (place ∷ places) (suc nth) within =
    let later = is_below_end places nth (omega arith) in
    let second = second_below (place.header_at + 1) (headers_end places) in omega arith

-- each header is a word of a store
pub end_fits : (places : List Place) → All FitsPlace places → headers_end places ≤ MOST_WORDS
end_fits [] fit = omega arith
end_fits (place ∷ places) fit =
    let here = All-head FitsPlace place places fit in
    let follows = here.header_follows in
    let count = here.count_follows in
    let words = here.words_follow in
    let ring = here.ring_follows in
    let last = here.last in
    both_below (place.header_at + 1) (headers_end places) MOST_WORDS (omega arith)
    (end_fits places (All-tail FitsPlace place places fit))
