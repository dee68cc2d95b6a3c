-- At the opening nothing is locked, and each position has its loaded version.
use Rattle.std.proofs.Common.{Bool, List, None, Some, [], ap, arith, false, map, refl, subst, suc, sym, true, zero, ℕ}
use Rattle.std.proofs.Common.{⊎_elim, ◌+◌, ◌<◌, ◌∙◌, ◌∷◌, ◌≡◌}
use Rattle.std.proofs.lemmas.List.{length-map}
use Rattle.std.proofs.lemmas.Option.{none-some, same_Some}
use Rattle.std.specs.Prelude.{if◌then◌else◌, slice_index}
use Rattle.nam_calls.specs.Memory.{memory}
use Rattle.nam_catalog.specs.declared.form.Form.{Form}
use Rattle.nam_catalog.specs.declared.form.Form.TheVariants.{Held, Narrow, Wide}
use Rattle.nam_catalog.specs.declared.shape.Shape.{Shape}
use Rattle.nam_ghost.specs.Ghost.{opening_ghost}
use Rattle.nam_ghost.specs.Holders.{Holds, holder_of, no_holder}
use Rattle.nam_ghost.specs.Locks.{HolderOk}
use Rattle.nam_ghost.specs.Versions.{Chain, HasData, current_word}
use Rattle.nam_header.specs.Stamp.{FitsStamp, is_deleted}
use Rattle.nam_layout.specs.Rows.{width_at}
use Rattle.nam_layout.specs.declared.field.Field.{Field}
use Rattle.nam_layout.specs.declared.field.Field.TheVariants.{Count, Header, Word}
use Rattle.nam_locks.specs.LocksLaw.{OpensLaw}
use Rattle.nam_protocol.proofs.OpeningLemmas.{opening_law}
use Rattle.nam_protocol.specs.Opening.{opening_words}
use Rattle.nam_protocol.specs.OpeningLaw.{HasRow, IsFree}
use Rattle.nam_protocol.specs.Schedule.{numbers_from}
use Rattle.nam_protocol.specs.declared.client.ClientState.{ClientState}
use Rattle.nam_store.proofs.OpeningLemmas.{new_workers, opening_client}
use Rattle.nam_store.specs.Everyone.{Everyone}
use Rattle.nam_store.specs.Opening.{new_clients}
use Rattle.si_model.specs.Lists.{Listed}
use Rattle.si_model.specs.declared.row.Row.{Row}

-- 1. Lists

-- what holds of a view of each element holds of each element of the views
each_view : {A B : Type 0} (view : A → B) (P : ℕ → B → Type 0) (xs : List A) → Everyone (λ nth x. P nth (view x)) xs
    → Everyone P (map view xs)
each_view view P [] all nth b e = absurd (none-some b e)
each_view view P (x ∷ xs) all zero b e = subst (P zero) (same_Some (view x) b e) (all zero x refl)
each_view view P (x ∷ xs) all (suc nth) b e =
    each_view view (λ k. P (suc k)) xs (λ k y q. all (suc k) y q) nth b e

-- a function's values by number
mapped : (f : ℕ → ℕ) (first count nth : ℕ) → nth < count
    → f (first + nth) ≡ slice_index (map f (numbers_from first count)) nth
mapped f first zero nth less = absurd (omega arith)
mapped f first (suc count) zero less = ap f (let z : first + 0 ≡ first = omega arith in z)
mapped f first (suc count) (suc nth) less =
    ap f (let z : first + suc nth ≡ first + 1 + nth = omega arith in z) ∙ mapped f (first + 1) count nth (omega arith)

-- 2. A position

stamp_fits : (form : Form) → FitsStamp form record { thread = 0; number = 0 }
stamp_fits Narrow = record { thread = omega arith; number = omega arith }
stamp_fits Wide = record { thread = omega arith; number = omega arith }
stamp_fits Held = record { thread = omega arith; number = omega arith }

abbrev Loaded : Form → ℕ → List ℕ → Type 0
Loaded form header words = header ≡ current_word form 0 record {
  stamp = record { thread = 0; number = 0 };
  value = if is_deleted form header then None else Some words;
  seen = [];
}

-- the header of a position without a version has the deleted flag, and that of a loaded row has none
free_loaded : (form : Form) (words : List ℕ) → Loaded form 2 words
free_loaded Narrow words = refl
free_loaded Wide words = refl
free_loaded Held words = refl

row_loaded : (form : Form) (words : List ℕ) → Loaded form 0 words
row_loaded Narrow words = refl
row_loaded Wide words = refl
row_loaded Held words = refl

data_loaded : (width : ℕ) (body : ℕ → ℕ) (deleted : Bool)
    → HasData width body (if deleted then None else Some (map body (numbers_from 0 width)))
data_loaded width body true = tt
data_loaded width body false = λ nth less.
    ap body (let z : nth ≡ 0 + nth = omega arith in z) ∙ mapped body 0 width nth less

-- 3. A client

nothing_held : (shape : Shape) (m : Field → ℕ) (chains : ℕ → Chain) (nth : ℕ) → ((row : ℕ) → (chains row).holder ≡ 0)
    → HolderOk shape m chains nth (no_holder (nth + 1))
nothing_held shape m chains nth free =
    let no : (p : ℕ) → Holds (no_holder (nth + 1)) p → ⊥ = λ p holds. let e = holds.ends in omega arith in
    record {
      worker = refl;
      inside = λ p holds. absurd (no p holds);
      held = λ p holds. absurd (no p holds);
      written = λ holds. absurd (no 0 holds);
      narrow = λ holds. absurd (no 0 holds);
      clean = λ p holds other. absurd (no p holds);
      apart = λ p q a b. absurd (no p a);
      owns = λ row is e. let f = free row in absurd (omega arith);
      installed = λ p less. absurd (omega arith);
    }

-- 4. The store

pub locks_open : OpensLaw
locks_open shape limits rows loaded =
    let words = opening_words shape rows in
    let m : Field → ℕ = memory shape words in
    let opening = opening_law shape rows loaded.of_tables in
    let chains = (opening_ghost shape rows).chains in
    record {
      all = length-map (new_clients shape.start 1 shape.workers) holder_of
          ∙ new_workers shape.start 1 shape.workers;
      rows = λ row is. record {
        header_is =
            let values = map (λ nth. m (Word row nth)) (numbers_from 0 (width_at shape.tables row)) in
            ⊎_elim (λ (free : IsFree shape words row).
            subst (λ header. Loaded shape.form header values) (sym free.header) (free_loaded shape.form values))
            (λ (has : (r : Row) × Listed r rows × HasRow shape words row r).
            subst (λ header. Loaded shape.form header values) (sym has.2.header) (row_loaded shape.form values))
            (opening.positions row is);
        fits = stamp_fits shape.form;
        count_is = opening.untouched (Count row) is tt;
        data_is = λ e. data_loaded (width_at shape.tables row) (λ nth. m (Word row nth))
            (is_deleted shape.form (m (Header row)));
        free = λ e. (refl, refl);
        worker = omega arith;
      };
      each = each_view holder_of (HolderOk shape m chains) (new_clients shape.start 1 shape.workers)
          (λ nth client e. let new = (opening_client shape rows nth client e).1 in
          subst (λ (c : ClientState). HolderOk shape m chains nth (holder_of c)) (sym new)
          (nothing_held shape m chains nth (λ row. refl)));
    }
