-- How many verbs a line has passed, when it is asked once more.
use Rattle.std.proofs.Common.{◌≡◌, suc, ◌+◌, ◌-◌, ◌^◌, Bool, true, false, refl, ap, sym, ◌∙◌, subst, arith}
use Rattle.std.proofs.Math.Nat.{min-eq_left}
use Rattle.std.proofs.Math.Numerals.{add-one}
use Rattle.std.specs.Prelude.{if◌then◌else◌}
use Rattle.nam_io.specs.Faults.{one_more}
use Rattle.nam_line.specs.Plan.{Line, asked_once, refuses, refuses_next, next_asked, passed_up_to, passed_by}
use Rattle.nam_line.specs.CountedLine.{CountedLine}
use Rattle.nam_line.specs.PassedLaw.{PassedLaw, CanCount}

-- below the last number the next one is one more
next_is_suc : (line : Line) → CanCount line → next_asked line.asked ≡ suc line.asked
next_is_suc line h =
    min-eq_left {n = line.asked + 1} {m = 2 ^ 64 - 1} (omega (arith, h)) ∙ add-one line.asked

-- one verb more
passed_next : (line : Line) → CanCount line
    → passed_by (asked_once line) ≡ (if refuses_next line then passed_by line else passed_by line + 1)
unfolding passed_up_to
passed_next line h = subst
    (λ m. passed_up_to line.plan m ≡ (if refuses line.plan m then passed_by line else passed_by line + 1))
    (sym (next_is_suc line h)) refl

-- by whether the verb is refused
module _ (line : Line) (counted : CanCount line) where
  passed_where : (b : Bool) → refuses_next line ≡ b
      → passed_by (asked_once line) ≡ (if b then passed_by line else passed_by line + 1)
  passed_where b is = passed_next line counted ∙ ap (λ r. if r then passed_by line else passed_by line + 1) is

sum_next : (counted : CountedLine) → CanCount counted.line
    → passed_by counted.line + counted.faults ≡ counted.line.asked
    → (b : Bool) → refuses_next counted.line ≡ b
    → passed_by (asked_once counted.line) + (if b then one_more counted.faults else counted.faults)
    ≡ next_asked counted.line.asked
sum_next counted h sum true is =
    let p : passed_by (asked_once counted.line) ≡ passed_by counted.line = passed_where counted.line h true is in
    rw p (omega (arith, h, sum))
sum_next counted h sum false is =
    let p : passed_by (asked_once counted.line) ≡ passed_by counted.line + 1 = passed_where counted.line h false is in
    rw p (omega (arith, h, sum))

pub law : PassedLaw
unfolding passed_up_to
law = record {
  begins = λ plan. refl;
  passes = λ line h is. passed_where line h false is;
  refuses = λ line h is. passed_where line h true is;
  stays = λ line last. ap (passed_up_to line.plan) (subst (λ n. next_asked n ≡ n) (sym last) refl);
  sum = λ counted h sum. sum_next counted h sum (refuses_next counted.line) refl;
}
