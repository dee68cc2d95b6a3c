-- Looking for a table by its name, one place after the other.
use Rattle.std.proofs.Common.{◌≡◌, ℕ, suc, ◌+◌, ◌<◌, ◌≤◌, true, false, List, length, drop, get_or, Ok, Err, refl, sym}
use Rattle.std.proofs.Common.{ap, ◌∙◌, add-one}
use Rattle.std.proofs.Math.Seq.{drop-cons}
use Rattle.std.specs.Str.{bytes_eq}
use Rattle.nam_catalog.specs.declared.shape.Table.{Table}
use Rattle.nam_script.specs.declared.refusal.Kind.TheVariants as kind
use Rattle.std.proofs.lemmas.List.{drop_all}
use Rattle.nam_script.specs.Checks.{place_from}

pub another_name : (ts : List Table) (i : ℕ) (t : Table) (name : List ℕ) → i < length ts → t ≡ get_or ts i t
    → bytes_eq t.name name ≡ false → place_from (i + 1) (drop (i + 1) ts) name ≡ place_from i (drop i ts) name
unfolding place_from
another_name ts i t name lt is differs =
    let tail : drop (i + 1) ts ≡ drop (suc i) ts = ap (λ (n : ℕ). drop n ts) (add-one i) in
    let here : place_from i (drop i ts) name ≡ place_from (i + 1) (drop (suc i) ts) name = rw
    (drop-cons ts i t, ← is, differs) refl in
    ap (λ (r : List Table). place_from (i + 1) r name) tail ∙ sym here

pub that_name : (ts : List Table) (i : ℕ) (t : Table) (name : List ℕ) → i < length ts → t ≡ get_or ts i t
    → bytes_eq t.name name ≡ true
    → place_from i (drop i ts) name ≡ Ok (record { table = i; width = t.width; capacity = t.capacity })
unfolding place_from
that_name ts i t name lt is same = rw (drop-cons ts i t, ← is, same) refl

pub no_name : (ts : List Table) (i : ℕ) (name : List ℕ) → length ts ≤ i → place_from i (drop i ts) name ≡ Err kind.Name
unfolding place_from
no_name ts i name past = rw (drop_all i ts past) refl
