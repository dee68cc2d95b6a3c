-- What a snapshot shows of each key, by words: the newest version that it sees at the key's position.
use Rattle.nam_catalog.specs.declared.shape.Shape.{Shape}
use Rattle.nam_claimed.specs.Home.{home_of}
use Rattle.nam_ghost.specs.Versions.{Chain, Version, versions}
use Rattle.nam_header.specs.Visible.{is_visible}
use Rattle.nam_layout.specs.Rows.{row_of}
use Rattle.nam_layout.specs.declared.field.Field.{Field}
use Rattle.si_model.specs.History.{loader, same_stamp}
use Rattle.si_model.specs.Rows.{Rows}
use Rattle.si_model.specs.declared.log.Stamp.{Stamp}
use Rattle.si_model.specs.declared.row.Key.{Key}
use Rattle.std.specs.List.{filter}
use Rattle.std.specs.Prelude.{Bool, List, None, Option, Some, [], if◌then◌else◌, length, not, ℕ, ◌&&◌, ◌∷◌}

-- 1. Versions, oldest first

-- the last of them that the snapshot sees, behind the one that was last before
abbrev pub last_seen : List ℕ → Option Version → List Version → Option Version
last_seen seen before [] = before
last_seen seen before (v ∷ vs) = last_seen seen (if is_visible v.stamp seen then Some v else before) vs

abbrev pub value_in : Option Version → Option (List ℕ)
value_in None = None
value_in (Some version) = version.value

abbrev pub stamp_in : Option Version → Stamp
stamp_in None = loader
stamp_in (Some version) = version.stamp

-- does the version stand behind the one of this stamp, and does the snapshot see it; a writer has in its snapshot all
-- versions before its own, and the loader has none
abbrev pub is_seen_after : List ℕ → Stamp → Version → Bool
is_seen_after seen stamp version =
    not (same_stamp version.stamp loader) && is_visible stamp version.seen && is_visible version.stamp seen

-- 2. Keys

module _ (shape : Shape) (m : Field → ℕ) (chains : ℕ → Chain) where
  -- those at the position that bears the key; none where no position does
  abbrev pub versions_of : Key → List Version
  versions_of key = elim (home_of shape m key)
      [ None ↦ [] | Some position ↦ versions (chains (row_of shape.tables key.table position)) ]

  -- what the snapshot shows
  abbrev pub shown : List ℕ → Rows
  shown seen key = value_in (last_seen seen None (versions_of key))

  -- the stamp of the version that it shows; the loader's where there is none
  abbrev pub stamp_shown : List ℕ → Key → Stamp
  stamp_shown seen key = stamp_in (last_seen seen None (versions_of key))

  -- how many versions it sees behind the one of this stamp
  abbrev pub later_shown : List ℕ → Key → Stamp → ℕ
  later_shown seen key stamp = length (filter (is_seen_after seen stamp) (versions_of key))
