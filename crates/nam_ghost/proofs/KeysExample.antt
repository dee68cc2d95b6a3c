-- Keys of one path: what was passed, what was found, and a position without a key.
use Rattle.nam_calls.specs.Index.{nth_key}
use Rattle.nam_calls.specs.Memory.{memory}
use Rattle.nam_calls.specs.Words.{key_word, path_of}
use Rattle.nam_catalog.specs.declared.form.Form.TheVariants.{Narrow}
use Rattle.nam_catalog.specs.declared.shape.Shape.{Shape}
use Rattle.nam_ghost.proofs.Runs.{Calls, Seen, Turns, after_deeds, client_of, opened, turns}
use Rattle.nam_ghost.proofs.Small.{below_1, below_2}
use Rattle.nam_ghost.specs.Keys.{Bears, HasFound, IsPast, IsUnused, KeyView, LooksFor, key_view}
use Rattle.nam_layout.specs.Rows.{row_of}
use Rattle.nam_layout.specs.declared.field.Field.{Field}
use Rattle.nam_layout.specs.declared.field.Field.TheVariants.{Key}
use Rattle.nam_protocol.proofs.Shown.{loaded, shape, table}
use Rattle.nam_protocol.specs.Opening.{copies, load_from}
use Rattle.nam_protocol.specs.declared.client.Call.{Call}
use Rattle.nam_protocol.specs.declared.client.Call.TheVariants.{Begin, Scan, Txn}
use Rattle.nam_protocol.specs.declared.txn.TxnCall.TheVariants.{Get, Put}
use Rattle.std.proofs.Common.{[], arith, map, refl, ℕ, ◌∷◌, ◌≡◌, ◌≢◌}

-- three positions; keys 0 and 3 have one path, so key 3 is at the second of it
abbrev path_shape : Shape
path_shape = shape Narrow 1 (table 1 3 1 ∷ []) 1 1 0

abbrev asks : Call → ℕ → Seen
asks call verbs = after_deeds path_shape
    (opened path_shape (loaded 0 0 (5 ∷ []) ∷ loaded 0 3 (6 ∷ []) ∷ []))
    (Calls 0 (Begin 1 1) ∷ Turns 0 2 ∷ Calls 0 call ∷ Turns 0 verbs ∷ [])

abbrev view_of : Seen → KeyView
view_of seen = key_view (client_of seen 0).call

abbrev m : Field → ℕ
m = memory path_shape (asks (Txn (Get 0 3)) 1).store.words

key_words : map (λ row. m (Key row)) (0 ∷ 1 ∷ 2 ∷ []) ≡ 1 ∷ 4 ∷ 0 ∷ []
unfolding turns copies load_from
key_words = refl

has_passed : view_of (asks (Txn (Get 0 3)) 1) ≡ LooksFor 0 3 1
unfolding turns copies load_from
has_passed = refl

has_found : view_of (asks (Txn (Get 0 3)) 2) ≡ HasFound 0 3 1
unfolding turns copies load_from
has_found = refl

-- the position that was passed bears another key
past : IsPast path_shape m 0 3 1
unfolding turns copies load_from
past = below_1 (λ q. (m (nth_key (path_of path_shape 0 3) q) ≢ 0) × (m (nth_key (path_of path_shape 0 3) q) ≢ 4))
    ((λ e. absurd (omega arith)), (λ e. absurd (omega arith)))

-- what a search of key 6 has passed, at the third position of the path: both that bear keys
past_both : IsPast path_shape m 0 6 2
unfolding turns copies load_from
past_both = below_2 (λ q. (m (nth_key (path_of path_shape 0 6) q) ≢ 0) × (m (nth_key (path_of path_shape 0 6) q) ≢ 7))
    ((λ e. absurd (omega arith)), (λ e. absurd (omega arith)))
    ((λ e. absurd (omega arith)), (λ e. absurd (omega arith)))

bears : Bears path_shape m 0 3 1
unfolding turns copies load_from
bears = refl

-- the third position has no key: the loader's absent version alone
unused : IsUnused ((asks (Txn (Get 0 3)) 1).ghost.chains 2)
unfolding turns copies load_from
unused = record { old = refl; absent = refl; free = refl }

-- a claim takes it, and the transaction's key stands there
abbrev claims : Seen
claims = asks (Txn (Put 0 6 (7 ∷ []))) 4

key_is_claimed : map (λ row. memory path_shape claims.store.words (Key row)) (0 ∷ 1 ∷ 2 ∷ []) ≡ 1 ∷ 4 ∷ 7 ∷ []
unfolding turns copies load_from
key_is_claimed = refl

-- a scan has found keys 0 and 3 when it looks at the third position
abbrev scans : Seen
scans = asks (Scan 0 0 9) 8

found_so_far : map (λ row. row.key) (client_of scans 0).scanned ≡ 0 ∷ 3 ∷ []
unfolding turns copies load_from
found_so_far = refl

found_there : map (λ row. memory path_shape scans.store.words (Key (row_of path_shape.tables 0 row.position)))
    (client_of scans 0).scanned ≡ map (λ row. key_word row.key) (client_of scans 0).scanned
unfolding turns copies load_from
found_there = refl
