-- A line that is asked once more, and how many verbs it passed.
use Rattle.std.proofs.Common.{◌≡◌, ℕ, zero, suc, ◌+◌, ◌-◌, ◌^◌, ◌<◌, ◌≤◌, true, false, refl, sym, ◌∙◌, subst}
use Rattle.std.proofs.Common.{arith}
use Rattle.std.proofs.Math.Nat.{min-eq_left}
use Rattle.std.proofs.lemmas.Bool.{false≢true}
use Rattle.nam_line.specs.Plan.{Plan, Line, asked_once, refuses, refuses_next, next_asked, passed_up_to, passed_by}
use Rattle.nam_line.specs.PassedLaw.{CanCount}
use Rattle.nam_calls.proofs.FallsTests.{either}
use Rattle.nam_cuts.specs.Cuts.{PassedAll, RefusedLast}

-- 1. The count of verbs asked for

-- it rises by one, or stands at its last number
pub data Counts (asked : ℕ) : Type 0 where
  rises : next_asked asked ≡ asked + 1 → asked < 2 ^ 64 - 1 → Counts asked
  stands : next_asked asked ≡ asked → asked ≡ 2 ^ 64 - 1 → Counts asked

counts_at : (asked left : ℕ) → 2 ^ 64 - 1 - asked ≡ left → asked ≤ 2 ^ 64 - 1 → Counts asked
counts_at asked zero e most =
    let last : asked ≡ 2 ^ 64 - 1 = omega (arith, e, most) in
    stands (subst (λ n. next_asked n ≡ n) (sym last) refl) last
counts_at asked (suc left) e most =
    let l : asked < 2 ^ 64 - 1 = omega (arith, e) in
    rises (min-eq_left {n = asked + 1} {m = 2 ^ 64 - 1} (omega (arith, l))) l

pub counts : (asked : ℕ) → asked ≤ 2 ^ 64 - 1 → Counts asked
counts asked most = counts_at asked (2 ^ 64 - 1 - asked) refl most

-- the count after the next verb is no less, at most one more, and within its bound
pub record NextCount (asked : ℕ) : Type 0 where
  pub least : asked ≤ next_asked asked
  pub most : next_asked asked ≤ asked + 1
  pub within : next_asked asked ≤ 2 ^ 64 - 1
  -- below its last number it has risen
  pub rose : next_asked asked < 2 ^ 64 - 1 → asked < 2 ^ 64 - 1

next_by : (asked : ℕ) → Counts asked → NextCount asked
next_by asked (rises e l) = record {
  least = omega (arith, e);
  most = omega (arith, e);
  within = omega (arith, e, l);
  rose = λ less. l;
}
next_by asked (stands e l) = record {
  least = omega (arith, e);
  most = omega (arith, e);
  within = omega (arith, e, l);
  rose = λ less. omega (arith, e, l, less);
}

pub next_count : (asked : ℕ) → asked ≤ 2 ^ 64 - 1 → NextCount asked
next_count asked most = next_by asked (counts asked most)

-- 2. What passed and what was refused

module _ (start now : Line) where
  -- one number more, or none
  passed_at : PassedAll start now → refuses_next now ≡ false → Counts now.asked → PassedAll start (asked_once now)
  passed_at all is (rises e l) number after most = by (number - now.asked) refl
    where
      by : (over : ℕ) → number - now.asked ≡ over → refuses now.plan number ≡ false
      by zero f = all number after (omega (arith, f))
      by (suc over) f =
          let last : next_asked now.asked ≡ number = omega (arith, e, f, most) in
          subst (λ n. refuses now.plan n ≡ false) last is
  passed_at all is (stands e l) number after most = all number after (omega (arith, e, most))

  refused_at : start.asked < 2 ^ 64 - 1 → start.asked ≤ now.asked → PassedAll start now → refuses_next now ≡ true
      → Counts now.asked → RefusedLast start (asked_once now)
  refused_at first from all is (rises e l) = record {
    some = omega (arith, e, from);
    last = is;
    before = λ number after less. all number after (omega (arith, e, less));
  }
  refused_at first from all is (stands e l) =
      let passed = all now.asked (omega (arith, first, l)) (omega arith) in
      let refused : refuses now.plan now.asked ≡ true = subst (λ n. refuses now.plan n ≡ true) e is in
      absurd (false≢true (sym passed ∙ refused))

  pub passed_next : now.asked ≤ 2 ^ 64 - 1 → PassedAll start now → refuses_next now ≡ false
      → PassedAll start (asked_once now)
  passed_next most all is = passed_at all is (counts now.asked most)

  pub refused_next : CanCount start → start.asked ≤ now.asked → now.asked ≤ 2 ^ 64 - 1 → PassedAll start now
      → refuses_next now ≡ true → RefusedLast start (asked_once now)
  refused_next first from most all is = refused_at first from all is (counts now.asked most)

-- 3. No more passed than were asked for

passed_most : (plan : Plan) (m n d : ℕ) → m ≡ n + d → passed_up_to plan m ≤ passed_up_to plan n + d
unfolding passed_up_to
passed_most plan m n zero e =
    let same : n ≡ m = omega (arith, e) in
    subst (λ k. passed_up_to plan k ≤ passed_up_to plan n + 0) same (omega arith)
passed_most plan zero n (suc d) e = absurd (omega (arith, e))
passed_most plan (suc m) n (suc d) e =
    let l = passed_most plan m n d (omega (arith, e)) in
    either (λ k. k ≤ passed_up_to plan n + suc d) (refuses plan (suc m)) (passed_up_to plan m) (passed_up_to plan m + 1)
    (omega (arith, l)) (omega (arith, l))

pub passed_within : (start now : Line) → now.plan ≡ start.plan → start.asked ≤ now.asked
    → passed_by now ≤ passed_by start + (now.asked - start.asked)
passed_within start now same from =
    subst (λ plan. passed_up_to plan now.asked ≤ passed_up_to start.plan start.asked + (now.asked - start.asked))
    (sym same)
    (passed_most start.plan now.asked start.asked (now.asked - start.asked) (omega (arith, from)))
