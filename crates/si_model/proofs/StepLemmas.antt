-- One step of an evaluation.
use Rattle.std.proofs.Common.{◌≡◌, ℕ, ◌+◌, ◌<◌, true, false, List, ◌∷◌, ◌++◌, length, get_or, drop, refl, ap, sym, ◌∙◌}
use Rattle.std.proofs.lemmas.List.{append_assoc, drop_more}
use Rattle.si_model.specs.declared.row.Key.{Key}
use Rattle.si_model.specs.declared.row.Item.{Item}
use Rattle.si_model.specs.declared.op.Op.{Op}
use Rattle.si_model.specs.declared.evaluated.Evaluated.{Evaluated}
use Rattle.si_model.specs.declared.evaluated.Evaluated.TheVariants.{Done, Declined}
use Rattle.si_model.specs.Rows.{Rows, overlay}
use Rattle.si_model.specs.Evaluation.{passes, found, writes_after, guards_after, with_reads, evaluation_from}

pub with_reads-append : (xs ys : List Item) (e : Evaluated) → with_reads (xs ++ ys) e ≡ with_reads xs (with_reads ys e)
with_reads-append xs ys (Done reads writes guards) = ap (λ zs. Done zs writes guards) (append_assoc xs ys reads)
with_reads-append xs ys (Declined op reads) = ap (λ zs. Declined op zs) (append_assoc xs ys reads)

evaluation_from-pass : (widths : List ℕ) (rows : Rows) (n : ℕ) (ws : List Item) (gs : List Key) (op : Op)
    (ops : List Op) → passes op (overlay ws rows) ≡ true →
    evaluation_from widths rows n ws gs (op ∷ ops)
    ≡ with_reads (found op (overlay ws rows))
    (evaluation_from widths rows (n + 1) (writes_after widths op (overlay ws rows) ws) (guards_after op gs) ops)
evaluation_from-pass widths rows n ws gs op ops passed = rw passed refl

evaluation_from-stop : (widths : List ℕ) (rows : Rows) (n : ℕ) (ws : List Item) (gs : List Key) (op : Op)
    (ops : List Op) → passes op (overlay ws rows) ≡ false →
    evaluation_from widths rows n ws gs (op ∷ ops) ≡ Declined n (found op (overlay ws rows))
evaluation_from-stop widths rows n ws gs op ops passed = rw passed refl

-- operation `op`, at place `i`, after those before it have read rs, written ws and guarded gs
module _ (widths : List ℕ) (rows : Rows) (ops : List Op) (all : Evaluated) (i : ℕ) (op : Op) (rs rs' ws : List Item)
    (gs : List Key) (within : i < length ops) (is : op ≡ get_or ops i op)
    (reads : rs' ≡ rs ++ found op (overlay ws rows))
    (so_far : with_reads rs (evaluation_from widths rows (i + 1) ws gs (drop i ops)) ≡ all) where
  split : drop i ops ≡ op ∷ drop (i + 1) ops
  split = drop_more ops i op within ∙ ap (λ o. o ∷ drop (i + 1) ops) (sym is)

  -- it passes, and the rest goes on
  pub go_on : (ws' : List Item) (gs' : List Key) → passes op (overlay ws rows) ≡ true
      → ws' ≡ writes_after widths op (overlay ws rows) ws → gs' ≡ guards_after op gs
      → with_reads rs' (evaluation_from widths rows (i + 1 + 1) ws' gs' (drop (i + 1) ops)) ≡ all
  go_on ws' gs' passed writes guards =
      rw (reads, writes, guards) (with_reads-append rs (found op (overlay ws rows))
      (evaluation_from widths rows (i + 1 + 1) (writes_after widths op (overlay ws rows) ws) (guards_after op gs)
      (drop (i + 1) ops)))
      ∙ ap (with_reads rs) (sym (evaluation_from-pass widths rows (i + 1) ws gs op (drop (i + 1) ops) passed))
      ∙ ap (λ os. with_reads rs (evaluation_from widths rows (i + 1) ws gs os)) (sym split) ∙ so_far

  -- it declines, and that is the end
  pub stop : passes op (overlay ws rows) ≡ false → Declined (i + 1) rs' ≡ all
  stop passed =
      ap (Declined (i + 1)) reads ∙ ap (with_reads rs)
      (sym (evaluation_from-stop widths rows (i + 1) ws gs op (drop (i + 1) ops) passed))
      ∙ ap (λ os. with_reads rs (evaluation_from widths rows (i + 1) ws gs os)) (sym split) ∙ so_far
