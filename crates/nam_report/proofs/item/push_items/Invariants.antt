use Rattle.std.proofs.Common.{◌≡◌, ◌++◌, drop}
use Rattle.std.specs.Prelude.{string_bytes}
use Rattle.nam_report.specs.Text.{items_text}
use Rattle.nam_report.proofs.item.push_items.Given as goal

-- the items from here on are still to come
abbrev pub invariant-loop-item : goal.invariant-loop-item
invariant-loop-item l =
    string_bytes l.out ++ items_text l.tables l.letter (drop l.item-index l.items) ≡ string_bytes l.initial.out ++
    items_text l.tables l.letter l.items
