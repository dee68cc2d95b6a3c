-- Stints that stand 64 to a line are printed so.
use Rattle.std.proofs.Common.{◌≡◌, ℕ, ◌-◌, ◌≤◌, false, eqb, List, [], ◌∷◌, ◌++◌, length, refl, sym, ap, ◌∙◌, arith}
use Rattle.std.proofs.Common.{append_assoc}
use Rattle.std.specs.Prelude.{codes}
use Rattle.std.specs.List.{flat_map, AllByRecursion}
use Rattle.std.proofs.lemmas.Bool.{ne_eqb}
use Rattle.std.proofs.lemmas.List.{append-nil}
use Rattle.nam_script.specs.declared.script.Stint.{Stint}
use Rattle.nam_script.specs.declared.script.Turns.{Turns}
use Rattle.nam_script.specs.declared.script.Turns.TheVariants as turns
use Rattle.nam_script.specs.Text.{settings_text, table_text, row_text, txn_text, stint_text, stints_text, turns_text}
use Rattle.nam_script.specs.Text.{group_text, grouped_turns, stints_in}
use Rattle.nam_script.proofs.Wording.{group_is}
use Rattle.nam_script.specs.Grouping.{AreFull, GroupingLaw}

abbrev AreShort : List (List Stint) → Type 0
AreShort gs = AllByRecursion (λ g. (1 ≤ length g) × (length g ≤ 64)) gs

abbrev joined : List (List Stint) → List Stint
joined gs = flat_map (λ g. g) gs

-- with room on the line a stint stands on it
with_room : (r : ℕ) (s : Stint) (ss : List Stint) → 1 ≤ r
    → stints_text r (s ∷ ss) ≡ stint_text s ++ stints_text (r - 1) ss
with_room r s ss some = let room : eqb r 0 ≡ false = ne_eqb _ _ (λ e. absurd (omega (arith, e, some))) in rw room refl

on_line : (g rest : List Stint) (r : ℕ) → length g ≤ r
    → stints_text r (g ++ rest) ≡ flat_map stint_text g ++ stints_text (r - length g) rest
on_line [] rest r le = ap (λ (n : ℕ). stints_text n rest) (omega arith)
on_line (s ∷ g) rest r le =
    with_room r s (g ++ rest) (omega (arith, le))
    ∙ ap (λ (x : List ℕ). stint_text s ++ x) (on_line g rest (r - 1) (omega (arith, le)))
    ∙ sym (append_assoc (stint_text s) (flat_map stint_text g) _)
    ∙ ap (λ (n : ℕ). (stint_text s ++ flat_map stint_text g) ++ stints_text n rest) (omega (arith, le))

-- without room a line begins
next_line : (s : Stint) (ss : List Stint) → stints_text 0 (s ∷ ss) ≡ codes "\nturns" ++ stints_text 64 (s ∷ ss)
next_line s ss = append_assoc (codes "\nturns") (stint_text s) (stints_text 63 ss)

next_group : (h : List Stint) (gs : List (List Stint)) → 1 ≤ length h
    → stints_text 0 (joined (h ∷ gs)) ≡ codes "\nturns" ++ stints_text 64 (joined (h ∷ gs))
next_group [] gs some = absurd (omega (arith, some))
next_group (s ∷ h) gs some = next_line s (h ++ joined gs)

ends_line : (n : ℕ) → stints_text n [] ≡ codes "\n"
ends_line n = refl

groups_are : (g : List Stint) (gs : List (List Stint)) → AreShort (g ∷ gs) → AreFull (g ∷ gs)
    → codes "turns" ++ stints_text 64 (joined (g ∷ gs)) ≡ flat_map group_text (g ∷ gs)
groups_are g [] short full =
    ap (λ (x : List ℕ). codes "turns" ++ x) (on_line g [] 64 short.0.1)
    ∙ sym (append_assoc (codes "turns") (flat_map stint_text g) (codes "\n"))
    ∙ sym (group_is g)
    ∙ sym (append-nil (group_text g))
groups_are g (h ∷ gs) short full =
    let none : 64 - length g ≡ 0 = omega (arith, full.0) in
    ap (λ (x : List ℕ). codes "turns" ++ x) (on_line g (joined (h ∷ gs)) 64 short.0.1 ∙ ap
    (λ (n : ℕ). flat_map stint_text g ++ stints_text n (joined (h ∷ gs))) none
    ∙ ap (λ (x : List ℕ). flat_map stint_text g ++ x)
    (next_group h gs short.1.0.0 ∙ ap (λ (x : List ℕ). 10 ∷ x) (groups_are h gs short.1 full.1)))
    ∙ sym (append_assoc (codes "turns") (flat_map stint_text g) (10 ∷ flat_map group_text (h ∷ gs)))
    ∙ sym (append_assoc (codes "turns" ++ flat_map stint_text g) (10 ∷ []) (flat_map group_text (h ∷ gs)))
    ∙ ap (λ (x : List ℕ). x ++ flat_map group_text (h ∷ gs)) (sym (group_is g))

list_text : (ss : List Stint) → 1 ≤ length ss → turns_text (turns.List ss) ≡ codes "turns" ++ stints_text 64 ss
list_text [] some = absurd (omega (arith, some))
list_text (s ∷ ss) some = refl

some_stints : (g : List Stint) (gs : List (List Stint)) → 1 ≤ length g → 1 ≤ length (joined (g ∷ gs))
some_stints [] gs some = absurd (omega (arith, some))
some_stints (s ∷ g) gs some = omega arith

turns_are : (t : Turns) (gs : List (List Stint)) → joined gs ≡ stints_in t → AreShort gs → AreFull gs
    → grouped_turns gs t ≡ turns_text t
turns_are (turns.Seed seed picks) gs e short full = refl
turns_are (turns.List ss) [] e short full = ap (λ (x : List Stint). turns_text (turns.List x)) e
turns_are (turns.List ss) (g ∷ gs) e short full =
    sym (groups_are g gs short full) ∙ sym (list_text (joined (g ∷ gs)) (some_stints g gs short.0.0))
    ∙ ap (λ (x : List Stint). turns_text (turns.List x)) e

pub grouping : GroupingLaw
grouping s text spelt full =
    spelt.is
    ∙ ap (λ (x : List ℕ). settings_text s.shape s.policy ++ flat_map table_text s.shape.tables ++ flat_map
    (row_text s.shape.tables) s.rows ++ flat_map (txn_text s.shape.tables) s.txns ++ x) (turns_are s.turns
    spelt.groups spelt.stints spelt.short full)
