-- The lines of a draft, and one line more at their end.
use Rattle.std.proofs.Common.{◌≡◌, ℕ, List, [], ◌∷◌, ◌++◌, map, Some, refl, sym, ap, ◌∙◌, append_assoc}
use Rattle.std.specs.List.{flat_map}
use Rattle.std.proofs.lemmas.List.{append-nil, map-append}
use Rattle.std.proofs.lemmas.Grind.{flat_map-append}
use Rattle.si_model.specs.declared.row.Row.{Row}
use Rattle.si_model.specs.declared.op.Op.{Op}
use Rattle.nam_catalog.specs.declared.shape.Table.{Table}
use Rattle.nam_script.specs.Line.{Line}
use Rattle.nam_script.specs.Line as line
use Rattle.nam_script.specs.declared.script.ScriptTxn.{ScriptTxn}
use Rattle.nam_script.specs.declared.script.Stint.{Stint}
use Rattle.nam_script.specs.Spelling.{table_line, row_line, op_line, txn_lines, turns_line}

-- lines by their parts: settings, tables, rows, transactions, the open one, stints in groups, a seed
abbrev pub joined : List Line → List Table → List Row → List ScriptTxn → List Line → List (List Stint) → List Line
    → List Line
joined h ts rs xs os gs sd =
    h ++ (map table_line ts ++
    (map (row_line ts) rs ++ (flat_map (txn_lines ts) xs ++ (os ++ (map turns_line gs ++ sd)))))

pub same_parts : (h k : List Line) (ts : List Table) (rs ss : List Row) (xs ys : List ScriptTxn) (os ps : List Line)
    (gs fs : List (List Stint)) (sd td : List Line)
    → h ≡ k → rs ≡ ss → xs ≡ ys → os ≡ ps → gs ≡ fs → sd ≡ td → joined h ts rs xs os gs sd ≡ joined k ts ss ys ps fs td
same_parts h k ts rs ss xs ys os ps gs fs sd td eh er ex eo eg es = rw (eh, er, ex, eo, eg, es) refl

pub same_tables : (h k : List Line) (ts us : List Table) → h ≡ k → ts ≡ us
    → joined h ts [] [] [] [] [] ≡ joined k us [] [] [] [] []
same_tables h k ts us eh et = rw (eh, et) refl

nils : (x : List Line) → (((x ++ []) ++ []) ++ []) ++ [] ≡ x
nils x = append-nil _ ∙ append-nil _ ∙ append-nil _ ∙ append-nil x

open_more : (h a b c o : List Line) (l : Line)
    → h ++ (a ++ (b ++ (c ++ ((o ++ l ∷ []) ++ [])))) ≡ (h ++ (a ++ (b ++ (c ++ (o ++ []))))) ++ l ∷ []
open_more h a b c o l = simp (append_assoc, append-nil)

ended_more : (h a b c o : List Line) (l : Line)
    → h ++ (a ++ (b ++ ((c ++ ((o ++ l ∷ []) ++ [])) ++ []))) ≡ (h ++ (a ++ (b ++ (c ++ (o ++ []))))) ++ l ∷ []
ended_more h a b c o l = simp (append_assoc, append-nil)

pub setting_more : (h : List Line) (l : Line)
    → joined (h ++ l ∷ []) [] [] [] [] [] [] ≡ joined h [] [] [] [] [] [] ++ l ∷ []
setting_more h l = append-nil (h ++ l ∷ []) ∙ ap (λ (x : List Line). x ++ l ∷ []) (sym (append-nil h))

pub table_more : (h : List Line) (ts : List Table) (t : Table)
    → joined h (ts ++ t ∷ []) [] [] [] [] [] ≡ joined h ts [] [] [] [] [] ++ table_line t ∷ []
table_more h ts t =
    ap (λ (x : List Line). h ++ x) (append-nil (map table_line (ts ++ t ∷ [])) ∙ map-append table_line ts (t ∷ []) ∙ ap
    (λ (x : List Line). x ++ table_line t ∷ []) (sym (append-nil (map table_line ts))))
    ∙ sym (append_assoc h (map table_line ts ++ []) (table_line t ∷ []))

pub row_more : (h : List Line) (ts : List Table) (rs : List Row) (r : Row)
    → joined h ts (rs ++ r ∷ []) [] [] [] [] ≡ joined h ts rs [] [] [] [] ++ row_line ts r ∷ []
row_more h ts rs r = simp (map-append, append_assoc, append-nil)

pub txn_more : (h : List Line) (ts : List Table) (rs : List Row) (xs : List ScriptTxn) (w : ℕ)
    → joined h ts rs xs (line.Txn (Some w) ∷ []) [] [] ≡ joined h ts rs xs [] [] [] ++ line.Txn (Some w) ∷ []
txn_more h ts rs xs w = simp (append_assoc, append-nil)

pub op_more : (h : List Line) (ts : List Table) (rs : List Row) (xs : List ScriptTxn) (w : ℕ) (ops : List Op) (o : Op)
    → joined h ts rs xs (line.Txn (Some w) ∷ map (op_line ts) (ops ++ o ∷ [])) [] []
    ≡ joined h ts rs xs (line.Txn (Some w) ∷ map (op_line ts) ops) [] [] ++ op_line ts o ∷ []
op_more h ts rs xs w ops o =
    let a = map table_line ts in
    let b = map (row_line ts) rs in
    let c = flat_map (txn_lines ts) xs in
    ap (λ (x : List Line). h ++ (a ++ (b ++ (c ++ ((line.Txn (Some w) ∷ x) ++ [])))))
    (map-append (op_line ts) ops (o ∷ []))
    ∙ open_more h a b c (line.Txn (Some w) ∷ map (op_line ts) ops) (op_line ts o)

pub end_more : (h : List Line) (ts : List Table) (rs : List Row) (xs : List ScriptTxn) (w : ℕ) (ops : List Op)
    → joined h ts rs (xs ++ (record { worker = w; ops = ops }) ∷ []) [] [] []
    ≡ joined h ts rs xs (line.Txn (Some w) ∷ map (op_line ts) ops) [] [] ++ line.End ∷ []
end_more h ts rs xs w ops =
    let a = map table_line ts in
    let b = map (row_line ts) rs in
    let c = flat_map (txn_lines ts) xs in
    ap (λ (x : List Line). h ++ (a ++ (b ++ (x ++ []))))
    (flat_map-append (txn_lines ts) xs ((record { worker = w; ops = ops }) ∷ []))
    ∙ ended_more h a b c (line.Txn (Some w) ∷ map (op_line ts) ops) line.End

pub turns_more : (h : List Line) (ts : List Table) (rs : List Row) (xs : List ScriptTxn) (gs : List (List Stint))
    (g : List Stint)
    → joined h ts rs xs [] (gs ++ g ∷ []) [] ≡ joined h ts rs xs [] gs [] ++ turns_line g ∷ []
turns_more h ts rs xs gs g = simp (map-append, append_assoc, append-nil)

pub seed_more : (h : List Line) (ts : List Table) (rs : List Row) (xs : List ScriptTxn) (l : Line)
    → joined h ts rs xs [] [] (l ∷ []) ≡ joined h ts rs xs [] [] [] ++ l ∷ []
seed_more h ts rs xs l = simp (append_assoc, append-nil)
