-- The text that is printed of a script spells it.
use Rattle.std.proofs.Common.{◌≡◌, ℕ, zero, suc, ◌≤◌, List, [], ◌∷◌, ◌++◌, length, take, drop, refl, sym, ap, ◌∙◌}
use Rattle.std.proofs.Common.{subst}
use Rattle.std.proofs.Common.{arith}
use Rattle.std.specs.List.{flat_map, AllByRecursion}
use Rattle.std.proofs.lemmas.List.{length-take, length-take-le, length-drop, take-append-drop}
use Rattle.nam_script.specs.declared.script.Stint.{Stint}
use Rattle.nam_script.specs.declared.script.Script.{Script}
use Rattle.nam_script.specs.Text.{script_text, grouped_text, stints_in, IsSpelt}
use Rattle.nam_script.specs.Grouping.{AreFull}
use Rattle.nam_script.proofs.GroupingLemmas.{grouping}

-- the stints in lines of 64, of no more than n lines
abbrev lines_of_64 : ℕ → List Stint → List (List Stint)
lines_of_64 zero ss = []
lines_of_64 (suc n) [] = []
lines_of_64 (suc n) (s ∷ ss) = take 64 (s ∷ ss) ∷ lines_of_64 n (drop 64 (s ∷ ss))

are_all : (n : ℕ) (ss : List Stint) → length ss ≤ n → flat_map (λ g. g) (lines_of_64 n ss) ≡ ss
are_all zero [] le = refl
are_all zero (s ∷ ss) le = absurd (omega (arith, le))
are_all (suc n) [] le = refl
are_all (suc n) (s ∷ ss) le =
    let fewer : length (drop 64 (s ∷ ss)) ≤ n = omega (arith, le, length-drop 64 (s ∷ ss)) in
    ap (λ (x : List Stint). take 64 (s ∷ ss) ++ x) (are_all n (drop 64 (s ∷ ss)) fewer) ∙ take-append-drop 64 (s ∷ ss)

are_short : (n : ℕ) (ss : List Stint) → AllByRecursion (λ g. (1 ≤ length g) × (length g ≤ 64)) (lines_of_64 n ss)
are_short zero ss = tt
are_short (suc n) [] = tt
are_short (suc n) (s ∷ ss) =
    let len = length-take 64 (s ∷ ss) in
    ((omega (arith, len), omega (arith, len)), are_short n (drop 64 (s ∷ ss)))

some_left : (n : ℕ) (ss : List Stint) → 1 ≤ length (lines_of_64 n ss) → 1 ≤ length ss
some_left zero ss some = absurd (omega (arith, some))
some_left (suc n) [] some = absurd (omega (arith, some))
some_left (suc n) (s ∷ ss) some = omega arith

full_before : (g : List Stint) (gs : List (List Stint)) → (1 ≤ length gs → length g ≡ 64) → AreFull gs
    → AreFull (g ∷ gs)
full_before g [] full rest = tt
full_before g (h ∷ gs) full rest = (full (omega arith), rest)

are_full : (n : ℕ) (ss : List Stint) → AreFull (lines_of_64 n ss)
are_full zero ss = tt
are_full (suc n) [] = tt
are_full (suc n) (s ∷ ss) =
    let rest = drop 64 (s ∷ ss) in
    let full : 1 ≤ length (lines_of_64 n rest) → length (take 64 (s ∷ ss)) ≡ 64 = λ some.
    length-take-le 64 (s ∷ ss) (omega (arith, some_left n rest some, length-drop 64 (s ∷ ss))) in
    full_before (take 64 (s ∷ ss)) (lines_of_64 n rest) full (are_full n rest)

spells_itself : (s : Script) → IsSpelt s (script_text s)
spells_itself s =
    let ss = stints_in s.turns in
    let gs = lines_of_64 (length ss) ss in
    let spelt : IsSpelt s (grouped_text s gs) = record {
      groups = gs;
      stints = are_all (length ss) ss (omega arith);
      short = are_short (length ss) ss;
      is = refl;
    } in
    subst (IsSpelt s) (grouping s (grouped_text s gs) spelt (are_full (length ss) ss)) spelt

pub printed : (s : Script) (text : List ℕ) → text ≡ script_text s → IsSpelt s text
printed s text is = subst (IsSpelt s) (sym is) (spells_itself s)
