-- What deletions spare of the verbs of a commit.
use Rattle.std.proofs.Common.{◌≡◌, ℕ, zero, suc, ◌+◌, ◌-◌, ◌*◌, ◌<◌, ◌≤◌, List, [], ◌∷◌, length, take, drop, refl}
use Rattle.std.proofs.Common.{arith, Bool, true, false, is_some}
use Rattle.std.specs.Prelude.{if◌then◌else◌, slice_index_or}
use Rattle.si_model.specs.declared.row.Item.{Item}
use Rattle.nam_layout.specs.declared.field.Place.{Place}
use Rattle.nam_calls.specs.Lock.{nth_place}
use Rattle.nam_protocol.specs.Commit.{no_item}
use Rattle.nam_protocol.specs.Bound.{installs_most, listed_most}
use Rattle.nam_longest.specs.Deletions.{spared}

-- the nth written record, and those after it
pub spared_at : (ws : List Item) (ps : List Place) (nth : ℕ) → nth < length ws → nth < length ps
    → spared (drop nth ws) (drop nth ps)
    ≡ (if is_some (slice_index_or ws nth no_item).value then 0 else (nth_place ps nth).width)
    + spared (drop (suc nth) ws) (drop (suc nth) ps)
spared_at [] ps nth l m = absurd (omega arith)
spared_at (w ∷ ws) [] nth l m = absurd (omega arith)
spared_at (w ∷ ws) (p ∷ ps) zero l m = refl
spared_at (w ∷ ws) (p ∷ ps) (suc nth) l m = spared_at ws ps nth (omega arith) (omega arith)

-- after the written records there is none
pub spared_none : (ws : List Item) (ps : List Place) (nth : ℕ) → length ws ≤ nth → spared (drop nth ws) ps ≡ 0
spared_none [] ps zero l = refl
spared_none [] ps (suc nth) l = refl
spared_none (w ∷ ws) ps zero l = absurd (omega arith)
spared_none (w ∷ ws) ps (suc nth) l = spared_none ws ps nth (omega arith)

-- a record spares no more than its width
pub one_spared : (b : Bool) (width : ℕ) → (if b then 0 else width) ≤ width
one_spared true width = omega arith
one_spared false width = omega arith

-- copies and installs take more
pub spared_installs : (ws : List Item) (ps : List Place) → length ws ≤ length ps
    → spared ws ps + 5 * length ws ≤ installs_most (take (length ws) ps)
spared_installs [] ps l = omega arith
spared_installs (w ∷ ws) [] l = absurd (omega arith)
spared_installs (w ∷ ws) (p ∷ ps) l =
    let r = spared_installs ws ps (omega arith) in
    let o = one_spared (is_some w.value) p.width in
    omega arith

pub spared_installs_from : (ws : List Item) (ps : List Place) (nth : ℕ) → length ws ≤ length ps
    → spared (drop nth ws) (drop nth ps) ≤ installs_most (drop nth (take (length ws) ps))
spared_installs_from ws ps zero l = let s = spared_installs ws ps l in omega arith
spared_installs_from [] ps (suc nth) l = omega arith
spared_installs_from (w ∷ ws) [] (suc nth) l = absurd (omega arith)
spared_installs_from (w ∷ ws) (p ∷ ps) (suc nth) l = spared_installs_from ws ps nth (omega arith)

-- and so do the lists
spared_listed : (ws : List Item) (ps : List Place) → length ws ≤ length ps → spared ws ps ≤ listed_most (length ws) ps
spared_listed [] ps l = omega arith
spared_listed (w ∷ ws) [] l = absurd (omega arith)
spared_listed (w ∷ ws) (p ∷ ps) l =
    let r = spared_listed ws ps (omega arith) in
    let o = one_spared (is_some w.value) p.width in
    omega arith

pub spared_listed_from : (ws : List Item) (ps : List Place) (nth : ℕ) → length ws ≤ length ps
    → spared (drop nth ws) (drop nth ps) ≤ listed_most (length ws - nth) (drop nth ps)
spared_listed_from ws ps zero l = let e : length ws - 0 ≡ length ws = omega arith in rw e (spared_listed ws ps l)
spared_listed_from [] ps (suc nth) l = omega arith
spared_listed_from (w ∷ ws) [] (suc nth) l = absurd (omega arith)
spared_listed_from (w ∷ ws) (p ∷ ps) (suc nth) l =
    let e : length (w ∷ ws) - suc nth ≡ length ws - nth = omega arith in
    rw e (spared_listed_from ws ps nth (omega arith))

-- the nth written record is listed before the others
pub value_listed : (rest nth : ℕ) (xs : List Place) → nth < length xs
    → listed_most (suc rest) (drop nth xs) ≡ (nth_place xs nth).width + 2 + listed_most rest (drop (suc nth) xs)
value_listed rest nth [] l = absurd (omega arith)
value_listed rest zero (x ∷ xs) l = refl
value_listed rest (suc nth) (x ∷ xs) l = value_listed rest nth xs (omega arith)
