-- Plans on closed examples.
use Rattle.std.proofs.Common.{◌≡◌, ℕ, true, false, List, [], ◌∷◌, Some, map, refl}
use Rattle.nam_line.specs.Plan.{Plan, empty_plan, plan_from, plan_of, refuses, next_asked, passed_up_to}

-- verbs that are listed, and all from a number on
abbrev plan : Plan
plan = record { listed = 2 ∷ 4 ∷ []; from = Some 6 }

abbrev seven : List ℕ
seven = 1 ∷ 2 ∷ 3 ∷ 4 ∷ 5 ∷ 6 ∷ 7 ∷ []

refused : map (refuses plan) seven ≡ false ∷ true ∷ false ∷ true ∷ false ∷ true ∷ true ∷ []
refused = refl

refused_by_none : map (refuses empty_plan) seven ≡ false ∷ false ∷ false ∷ false ∷ false ∷ false ∷ false ∷ []
refused_by_none = refl

refused_by_fuse : map (refuses (plan_from 6)) seven ≡ false ∷ false ∷ false ∷ false ∷ false ∷ true ∷ true ∷ []
refused_by_fuse = refl

refused_by_list : map (refuses (plan_of (4 ∷ 2 ∷ 2 ∷ []))) seven
    ≡ false ∷ true ∷ false ∷ true ∷ false ∷ false ∷ false ∷ []
refused_by_list = refl

-- the number of the verbs asked for stays at the last
asked_at_most : map next_asked (0 ∷ 18446744073709551614 ∷ 18446744073709551615 ∷ [])
    ≡ 1 ∷ 18446744073709551615 ∷ 18446744073709551615 ∷ []
asked_at_most = refl

-- verbs 1, 3 and 5 pass
passed : map (passed_up_to plan) (0 ∷ seven) ≡ 0 ∷ 1 ∷ 1 ∷ 2 ∷ 2 ∷ 3 ∷ 3 ∷ 3 ∷ []
unfolding passed_up_to
passed = refl
