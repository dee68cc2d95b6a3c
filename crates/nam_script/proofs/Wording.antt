-- The lines of a script are its text.
use Rattle.std.proofs.Common.{◌≡◌, ℕ, List, [], ◌∷◌, ◌++◌, map, Some, refl, sym, ap, ◌∙◌, append_assoc}
use Rattle.std.specs.Prelude.{codes}
use Rattle.std.specs.List.{flat_map}
use Rattle.std.specs.Fmt.{decimal}
use Rattle.std.proofs.lemmas.List.{append-nil}
use Rattle.std.proofs.lemmas.Grind.{flat_map-append}
use Rattle.nam_catalog.specs.declared.shape.Table.{Table}
use Rattle.nam_text.specs.Token.{number_text}
use Rattle.nam_text.specs.Kinds.{behind_spaces}
use Rattle.nam_script.specs.Line.{Line}
use Rattle.nam_script.specs.Line as line
use Rattle.nam_script.specs.declared.script.ScriptTxn.{ScriptTxn}
use Rattle.nam_script.specs.declared.script.Stint.{Stint}
use Rattle.nam_script.specs.Lines.{spelt_stint_text, spelt_line}
use Rattle.nam_script.specs.Text.{op_text, txn_text, stint_text, group_text}
use Rattle.nam_script.specs.Spelling.{somes, spelt, line_text, text_of, op_line, txn_lines}

-- the words of a value, as numbers
pub numbers_are : (ws : List ℕ) → map number_text (somes ws) ≡ map decimal ws
numbers_are [] = refl
numbers_are (w ∷ ws) = ap (λ (t : List (List ℕ)). decimal w ∷ t) (numbers_are ws)

-- a line for each
pub each_line : {A : Type 0} (f : A → Line) (xs : List A) → text_of (map f xs) ≡ flat_map (λ x. line_text (f x)) xs
each_line f [] = refl
each_line f (x ∷ xs) = ap (λ (t : List ℕ). line_text (f x) ++ t) (each_line f xs)

txn_is : (ts : List Table) (x : ScriptTxn) → text_of (txn_lines ts x) ≡ txn_text ts x
txn_is ts x =
    let start = line_text (line.Txn (Some x.worker)) in
    ap (λ (t : List ℕ). start ++ t)
    (flat_map-append line_text (map (op_line ts) x.ops) (line.End ∷ [])
    ∙ ap (λ (t : List ℕ). t ++ (line_text line.End ++ [])) (each_line (op_line ts) x.ops)
    ∙ ap (λ (t : List ℕ). flat_map (op_text ts) x.ops ++ t) (append-nil (line_text line.End)))
    ∙ sym (append_assoc start (flat_map (op_text ts) x.ops) (line_text line.End))

pub txns_are : (ts : List Table) (xs : List ScriptTxn)
    → text_of (flat_map (txn_lines ts) xs) ≡ flat_map (txn_text ts) xs
txns_are ts [] = refl
txns_are ts (x ∷ xs) =
    flat_map-append line_text (txn_lines ts x) (flat_map (txn_lines ts) xs) ∙ rw (txn_is ts x, txns_are ts xs) refl

stints_are : (ss : List Stint) → behind_spaces (map spelt_stint_text (map spelt ss)) ≡ flat_map stint_text ss
stints_are [] = refl
stints_are (s ∷ ss) = ap (λ (t : List ℕ). stint_text s ++ t) (stints_are ss)

pub group_is : (g : List Stint) → group_text g ≡ codes "turns" ++ flat_map stint_text g ++ codes "\n"
unfolding spelt_line
group_is g = ap (λ (t : List ℕ). codes "turns" ++ t ++ codes "\n") (stints_are g)
