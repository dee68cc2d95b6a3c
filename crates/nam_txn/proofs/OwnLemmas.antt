-- A key of the write set: its value there, and what an operation makes of it.
use Rattle.std.proofs.Common.{◌≡◌, ◌∙◌, ℕ, List, refl, sym, ap, subst, true, false, Option, Some, None, is_some}
use Rattle.std.proofs.Common.{slice_index_or}
use Rattle.std.specs.Prelude.{if◌then◌else◌}
use Rattle.si_model.specs.declared.row.Key.{Key}
use Rattle.si_model.specs.declared.row.Item.{Item}
use Rattle.si_model.specs.declared.op.Op.{Op}
use Rattle.si_model.specs.Rows.{writes_key}
use Rattle.si_model.specs.Evaluation.{op_key}
use Rattle.si_model.specs.Places.{place_of}
use Rattle.si_model.proofs.PlaceLemmas.{has_place, place_says}
use Rattle.nam_catalog.specs.declared.shape.Shape.{Shape}
use Rattle.nam_calls.specs.Fits.{HasWidth}
use Rattle.nam_calls.specs.Words.{width_of}
use Rattle.nam_protocol.specs.declared.txn.TxnState.{TxnState}
use Rattle.nam_protocol.specs.Operations.{holding, own_value, read_of, value_in}
use Rattle.nam_protocol.specs.Txn.{ask_op, with_own}
use Rattle.nam_protocol.specs.TxnFits.{StateFits, OpStands}
use Rattle.nam_protocol.proofs.FallsKeys.{own_wide}
use Rattle.nam_txn.specs.Txn.{own_step, verbs_step}
use Rattle.nam_txn.proofs.ValueLemmas.{read_wide, own_again}

pub is_written : (ws : List Item) (key : Key) (place : ℕ) → place_of ws key ≡ Some place → writes_key ws key ≡ true
is_written ws key place some = sym (has_place ws key) ∙ ap is_some some

pub not_written : (ws : List Item) (key : Key) → place_of ws key ≡ None → writes_key ws key ≡ false
not_written ws key none = sym (has_place ws key) ∙ ap is_some none

pub own_found : (ws : List Item) (key : Key) (place : ℕ) (item : Item) → place_of ws key ≡ Some place
    → item ≡ slice_index_or ws place item → item.value ≡ own_value ws key
own_found ws key place item some is =
    ap (λ (i : Item). i.value) is ∙ sym ((place_says ws key place some).1 (holding None) item)

-- what the write set has of a key
pub own_some : (ws : List Item) (key : Key) (place : ℕ) (item : Item) → place_of ws key ≡ Some place
    → item ≡ slice_index_or ws place item
    → Some item.value ≡ (if writes_key ws key then Some (own_value ws key) else None)
own_some ws key place item some is =
    rw (is_written ws key place some) (ap Some (own_found ws key place item some is))

pub own_none : (ws : List Item) (key : Key) → place_of ws key ≡ None
    → None ≡ (if writes_key ws key then Some (own_value ws key) else None)
own_none ws key none = rw (not_written ws key none) refl

module _ (shape : Shape) (state : TxnState) (op : Op) where
  pub asks_own : writes_key state.writes (op_key op) ≡ true → own_step shape state op ≡ ask_op shape state op
  asks_own written = rw written refl

  pub asks_verbs : writes_key state.writes (op_key op) ≡ false → verbs_step state op ≡ ask_op shape state op
  asks_verbs written = rw written refl

  pub own_read_wide : StateFits shape state → OpStands shape state.claims op → (width : ℕ)
      → width ≡ width_of shape (op_key op).table → (value : Option (List ℕ))
      → value ≡ own_value state.writes (op_key op) → HasWidth width (value_in (read_of op value))
  own_read_wide fits stands width same value is =
      subst (λ w. HasWidth w (value_in (read_of op value))) (sym same)
      (subst (λ v. HasWidth (width_of shape (op_key op).table) (value_in (read_of op v))) (sym is)
      (read_wide (width_of shape (op_key op).table) op (own_value state.writes (op_key op))
      (own_wide shape state.writes (op_key op) fits.wide) stands.1))

  pub own_steps : (value : Option (List ℕ)) → value ≡ own_value state.writes (op_key op)
      → with_own shape (record state { read = read_of op value }) op (value_in (read_of op value))
      ≡ own_step shape state op
  own_steps value is =
      own_again shape (record state { read = read_of op value }) op value
      ∙ ap (λ v. with_own shape (record state { read = read_of op v }) op v) is
