-- Old versions moved into cells and collected, phase by phase: the row's slot, the cells, and the words that stand
-- there.
use Rattle.nam_catalog.specs.declared.form.Form.TheVariants.{Narrow}
use Rattle.nam_catalog.specs.declared.shape.Shape.{Shape}
use Rattle.nam_ghost.proofs.Runs.{Calls, Deed, RowShown, Seen, Turns, after_deeds, cell_words, cells_shown, chain}
use Rattle.nam_ghost.proofs.Runs.{horizon_words, kept, opened, row_is, row_shown, stamp, turns, version}
use Rattle.nam_ghost.specs.Cells.{Cell, ClaimedBy, FreeCell, Stores, end_at}
use Rattle.nam_ghost.specs.Versions.{Version, number_by}
use Rattle.nam_header.specs.Stamp.{stamp_word}
use Rattle.nam_protocol.proofs.Shown.{loaded, shape, table}
use Rattle.nam_protocol.specs.Opening.{copies, load_from}
use Rattle.nam_protocol.specs.declared.client.Call.TheVariants.{Begin, Collect, Tidy, Txn}
use Rattle.nam_protocol.specs.declared.txn.TxnCall.TheVariants.{Commit, Put}
use Rattle.std.proofs.Common.{List, None, Some, [], false, map, refl, true, ℕ, ◌∷◌, ◌≡◌}

-- two workers, a table of one position with one word and a ring of one slot, one bucket of two cells
abbrev pub narrow_shape : Shape
narrow_shape = shape Narrow 2 (table 1 1 1 ∷ []) 1 2 0

abbrev pub put_deeds : ℕ → ℕ → List Deed
put_deeds nth value = Calls nth (Begin 1 1) ∷ Turns nth 4 ∷ Calls nth (Txn (Put 0 0 (value ∷ []))) ∷ Turns nth 1 ∷
    Calls nth (Txn Commit) ∷ Turns nth 13 ∷ []

-- the second worker has a snapshot without commits; the first has put 6
abbrev pub put_once : Seen
put_once = after_deeds narrow_shape (opened narrow_shape (loaded 0 0 (5 ∷ []) ∷ []))
    (Calls 1 (Begin 9 1) ∷ Turns 1 4 ∷ put_deeds 0 6)

abbrev pub tidies : ℕ → Seen
tidies verbs = after_deeds narrow_shape put_once (Calls 0 (Tidy 0 0) ∷ Turns 0 verbs ∷ [])

abbrev pub first : Version
first = version 0 0 (Some (5 ∷ [])) []

abbrev pub second : Version
second = version 1 1 (Some (6 ∷ [])) (0 ∷ 0 ∷ [])

abbrev pub third : Version
third = version 1 2 (Some (7 ∷ [])) (1 ∷ 0 ∷ [])

-- what is shown of the one row, and of the two cells
pub record Shown : Type 0 where
  pub row : RowShown
  pub cells : List Cell

abbrev pub shown_of : Seen → Shown
shown_of seen = record { row = row_shown seen 0 1; cells = cells_shown seen 0 2 }

abbrev is_shown : RowShown → List Cell → Shown
is_shown row cells = record { row = row; cells = cells }

-- 1. The move of version 0

once_put : shown_of (tidies 5) ≡ is_shown
    (row_is (chain (first ∷ []) second 0 false false) (kept 0 first (stamp 1 1) false ∷ []) false)
    (FreeCell ∷ FreeCell ∷ [])
unfolding turns copies load_from number_by
once_put = refl

cell_is_claimed : cells_shown (tidies 6) 0 2 ≡ ClaimedBy 1 ∷ FreeCell ∷ []
unfolding turns copies load_from number_by
cell_is_claimed = refl

-- until its last write it is the mover's, with all words of the version
cell_is_filled : cells_shown (tidies 12) 0 2 ≡ ClaimedBy 1 ∷ FreeCell ∷ []
unfolding turns copies load_from number_by
cell_is_filled = refl

filled_words : cell_words narrow_shape (tidies 12) 0 0 1
    ≡ 1 ∷ 0 ∷ stamp_word Narrow (stamp 0 0) ∷ stamp_word Narrow (stamp 1 1) ∷ 5 ∷ []
unfolding turns copies load_from number_by
filled_words = refl

-- it is full before the slot has the flag
cell_is_full : shown_of (tidies 13) ≡ is_shown
    (row_is (chain (first ∷ []) second 0 false false) (kept 0 first (stamp 1 1) false ∷ []) false)
    (Stores 0 0 ∷ FreeCell ∷ [])
unfolding turns copies load_from number_by
cell_is_full = refl

slot_is_flagged : shown_of (tidies 14) ≡ is_shown
    (row_is (chain (first ∷ []) second 0 false false) (kept 0 first (stamp 1 1) true ∷ []) false)
    (Stores 0 0 ∷ FreeCell ∷ [])
unfolding turns copies load_from number_by
slot_is_flagged = refl

-- 2. The next commit, which marks the slot and copies version 1 there

abbrev pub puts_again : ℕ → Seen
puts_again verbs = after_deeds narrow_shape (tidies 14)
    (Calls 0 (Begin 2 1) ∷ Turns 0 4 ∷ Calls 0 (Txn (Put 0 0 (7 ∷ []))) ∷ Turns 0 1 ∷ Calls 0 (Txn Commit) ∷
    Turns 0 verbs ∷ [])

slot_is_marked : shown_of (puts_again 6) ≡ is_shown
    (row_is (chain (first ∷ []) second 1 false false) (None ∷ []) false) (Stores 0 0 ∷ FreeCell ∷ [])
unfolding turns copies load_from number_by
slot_is_marked = refl

slot_is_filled : shown_of (puts_again 9) ≡ is_shown
    (row_is (chain (first ∷ []) second 1 false false) (kept 1 second (stamp 1 2) false ∷ []) true)
    (Stores 0 0 ∷ FreeCell ∷ [])
unfolding turns copies load_from number_by
slot_is_filled = refl

twice_put : shown_of (puts_again 13) ≡ is_shown
    (row_is (chain (first ∷ second ∷ []) third 0 false false) (kept 1 second (stamp 1 2) false ∷ []) false)
    (Stores 0 0 ∷ FreeCell ∷ [])
unfolding turns copies load_from number_by
twice_put = refl

-- the ends of both old versions, the first of which its slot keeps no longer
ends_stay : map (end_at narrow_shape (puts_again 13).ghost.chains (puts_again 13).ghost.rings 0) (0 ∷ 1 ∷ [])
    ≡ stamp 1 1 ∷ stamp 1 2 ∷ []
unfolding turns copies load_from number_by
ends_stay = refl

-- the same while there is no next version yet
copy_ends : end_at narrow_shape (puts_again 9).ghost.chains (puts_again 9).ghost.rings 0 1 ≡ stamp 1 2
unfolding turns copies load_from number_by
copy_ends = refl

-- 3. A move of version 1 into the second cell, and a collection with the snapshot of both commits

abbrev pub collects : ℕ → Seen
collects verbs = after_deeds narrow_shape (puts_again 13)
    (Calls 0 (Tidy 0 0) ∷ Turns 0 15 ∷ Calls 0 (Collect 0) ∷ Turns 0 verbs ∷ [])

both_stored : shown_of (collects 4) ≡ is_shown
    (row_is (chain (first ∷ second ∷ []) third 0 false false) (kept 1 second (stamp 1 2) true ∷ []) false)
    (Stores 0 0 ∷ Stores 0 1 ∷ [])
unfolding turns copies load_from number_by
both_stored = refl

-- the horizon is raised first, the second worker's entry not, since it is the snapshot's
horizon_is_raised : horizon_words narrow_shape (collects 7) ≡ 2 ∷ 0 ∷ []
unfolding turns copies load_from number_by
horizon_is_raised = refl

nothing_freed : cells_shown (collects 9) 0 2 ≡ Stores 0 0 ∷ Stores 0 1 ∷ []
unfolding turns copies load_from number_by
nothing_freed = refl

first_freed : cells_shown (collects 10) 0 2 ≡ FreeCell ∷ Stores 0 1 ∷ []
unfolding turns copies load_from number_by
first_freed = refl

both_freed : cells_shown (collects 13) 0 2 ≡ FreeCell ∷ FreeCell ∷ []
unfolding turns copies load_from number_by
both_freed = refl
