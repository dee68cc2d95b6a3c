-- A commit of two workers' store in form Held, phase by phase: the row's chain and its slots.
use Rattle.nam_catalog.specs.declared.form.Form.TheVariants.{Held}
use Rattle.nam_catalog.specs.declared.shape.Shape.{Shape}
use Rattle.nam_ghost.proofs.Runs.{Calls, RowShown, Seen, Turns, after_deeds, chain, kept, opened, row_is, row_shown}
use Rattle.nam_ghost.proofs.Runs.{stamp, turns, version}
use Rattle.nam_ghost.specs.Versions.{Version}
use Rattle.nam_protocol.proofs.Shown.{loaded, shape, table}
use Rattle.nam_protocol.specs.Opening.{copies, load_from}
use Rattle.nam_protocol.specs.declared.client.Call.TheVariants.{Begin, Txn}
use Rattle.nam_protocol.specs.declared.txn.TxnCall.TheVariants.{Commit, Put}
use Rattle.std.proofs.Common.{None, Some, [], false, refl, true, ℕ, ◌∷◌, ◌≡◌}

-- two workers, a table of two positions with two words and a ring of two slots, one bucket of two cells
abbrev pub held_shape : Shape
held_shape = shape Held 2 (table 2 2 2 ∷ []) 1 2 0

abbrev pub begun : Seen
begun = after_deeds held_shape (opened held_shape (loaded 0 0 (5 ∷ 6 ∷ []) ∷ []))
    (Calls 0 (Begin 1 1) ∷ Turns 0 4 ∷ Calls 0 (Txn (Put 0 0 (7 ∷ 8 ∷ []))) ∷ Turns 0 1 ∷ Calls 0 (Txn Commit) ∷ [])

-- after so many verbs of the commit
abbrev pub commits : ℕ → Seen
commits verbs = after_deeds held_shape begun (Turns 0 verbs ∷ [])

abbrev first : Version
first = version 0 0 (Some (5 ∷ 6 ∷ [])) []

abbrev second : Version
second = version 1 1 (Some (7 ∷ 8 ∷ [])) (0 ∷ 0 ∷ [])

abbrev shown : ℕ → RowShown
shown verbs = row_shown (commits verbs) 0 2

-- the loaded version, while the commit lists its intent and looks at the header
listed : shown 7 ≡ row_is (chain [] first 0 false false) (None ∷ None ∷ []) false
unfolding turns copies load_from
listed = refl

locked : shown 8 ≡ row_is (chain [] first 1 false false) (None ∷ None ∷ []) false
unfolding turns copies load_from
locked = refl

before_header : shown 18 ≡ row_is (chain [] first 1 false false) (None ∷ None ∷ []) false
unfolding turns copies load_from
before_header = refl

is_copied : shown 19 ≡ row_is (chain [] first 1 false false) (kept 0 first (stamp 1 1) false ∷ None ∷ []) true
unfolding turns copies load_from
is_copied = refl

is_dirty : shown 20 ≡ row_is (chain [] first 1 true false) (kept 0 first (stamp 1 1) false ∷ None ∷ []) true
unfolding turns copies load_from
is_dirty = refl

is_counted : shown 22 ≡ row_is (chain [] first 1 true true) (kept 0 first (stamp 1 1) false ∷ None ∷ []) true
unfolding turns copies load_from
is_counted = refl

is_installed : shown 23
    ≡ row_is (chain (first ∷ []) second 0 false false) (kept 0 first (stamp 1 1) false ∷ None ∷ []) false
unfolding turns copies load_from
is_installed = refl
