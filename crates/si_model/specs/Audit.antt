-- The audit of a run: its final rows, and the locks that a stopped worker left.
use Rattle.std.specs.Prelude.{◌&&◌, ◌||◌, Bool, true, false, IsTrue, List, [], ◌∷◌, Some, None, is_none, is_some}
use Rattle.std.specs.List.{list_any, flat_map, AllByRecursion}
use Rattle.si_model.specs.declared.row.Key.{Key}
use Rattle.si_model.specs.declared.row.Row.{Row}
use Rattle.si_model.specs.declared.report.AuditRow.{AuditRow}
use Rattle.si_model.specs.declared.log.Event.{Event}
use Rattle.si_model.specs.declared.log.Event.TheVariants.{TailCut}
use Rattle.si_model.specs.Rows.{Rows, key_at, same_key, ListsRows}
use Rattle.si_model.specs.Evaluation.{guard_keys}
use Rattle.si_model.specs.Tells.{Tell, commit_in}
use Rattle.si_model.specs.Causes.{ends_locking}

-- the row of an audit line that has a value
abbrev pub row_in : AuditRow → List Row
row_in a = elim a.value [ None ↦ [] | Some v ↦ record { table = a.table; key = a.key; value = v } ∷ [] ]

abbrev pub is_tail_cut : Event → Bool
is_tail_cut TailCut = true
is_tail_cut event = false

-- a commit that guards the key, and then the stop after it
abbrev pub is_guard_left : Key → Tell → Tell → Bool
is_guard_left key t u =
    is_tail_cut u.event && is_some (commit_in t.event) && list_any (λ k. same_key k key) (guard_keys t.ops)

-- the last two events are a commit that guards the key, and the stop after it
abbrev pub ends_guarding : Key → List Tell → Bool
ends_guarding key [] = false
ends_guarding key (t ∷ []) = false
ends_guarding key (t ∷ u ∷ []) = is_guard_left key t u
ends_guarding key (t ∷ u ∷ w ∷ ts) = ends_guarding key (u ∷ w ∷ ts)

-- may the key still be locked after these logs
abbrev pub may_be_locked : List (List Tell) → Key → Bool
may_be_locked tss key = list_any (λ ts. ends_locking key ts || ends_guarding key ts) tss

-- an absent row stands there only because it is locked, and a locked one has its cause
pub record IsAuditLine (tss : List (List Tell)) (a : AuditRow) : Type 0 where
  pub absent : IsTrue (is_none a.value) → IsTrue a.locked
  pub locked : IsTrue a.locked → IsTrue (may_be_locked tss (key_at a.table a.key))

-- the audit has exactly these rows, in order, and each locked row has its cause
pub record IsAudit (rows : Rows) (tss : List (List Tell)) (audit : List AuditRow) : Type 0 where
  pub state : ListsRows (flat_map row_in audit) rows
  pub lines : AllByRecursion (IsAuditLine tss) audit
