-- What the laws of evaluation speak of.
use Rattle.std.specs.Prelude.{ℕ, ◌≡◌, Bool, true, false, List, [], ◌∷◌, length, slice_index, MatchOption}
use Rattle.si_model.specs.declared.row.Item.{Item}
use Rattle.si_model.specs.declared.op.Op.{Op}
use Rattle.si_model.specs.declared.op.Op.TheVariants.{Get, Put, Add, Del, Need, Guard, Scan}
use Rattle.si_model.specs.Rows.{Rows, overlay}
use Rattle.si_model.specs.Evaluation.{writes_after}

-- the item's value, where there is one, has its table's width
abbrev pub IsWide : List ℕ → Item → Type 0
IsWide widths i = MatchOption i.value (Unit {0}) (λ v. length v ≡ slice_index widths i.table)

-- does the operation read a range
abbrev pub is_scan : Op → Bool
is_scan (Get t k) = false
is_scan (Put t k v) = false
is_scan (Add t k f up by) = false
is_scan (Del t k) = false
is_scan (Need t k f least) = false
is_scan (Guard t k) = false
is_scan (Scan t low high) = true

-- the write set of operations that all pass, over the writes so far
abbrev pub writes_from : List ℕ → Rows → List Item → List Op → List Item
writes_from widths rows ws [] = ws
writes_from widths rows ws (op ∷ ops) = writes_from widths rows (writes_after widths op (overlay ws rows) ws) ops
