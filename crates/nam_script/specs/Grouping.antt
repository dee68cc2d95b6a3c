-- Stints that stand 64 to a line: such a text is the one that is printed.
use Rattle.std.specs.Prelude.{◌≡◌, ℕ, List, [], ◌∷◌, length}
use Rattle.nam_script.specs.declared.script.Stint.{Stint}
use Rattle.nam_script.specs.declared.script.Script.{Script}
use Rattle.nam_script.specs.Text.{script_text, IsSpelt}

-- each group but the last has 64 stints
abbrev pub AreFull : List (List Stint) → Type 0
AreFull [] = Unit {0}
AreFull (g ∷ []) = Unit {0}
AreFull (g ∷ h ∷ gs) = (length g ≡ 64) × AreFull (h ∷ gs)

-- where the stints stand 64 to a line, and so where there are none, the text is the script's own
abbrev pub GroupingLaw : Type 0
GroupingLaw = (s : Script) (text : List ℕ) (spelt : IsSpelt s text) → AreFull spelt.groups → text ≡ script_text s
