-- A key that is loaded or asked for is one of the model's claimed keys; as many others as positions crowd a table.
use Rattle.std.proofs.Common.{Bool, List, None, Option, Some, [], ap, arith, false, inl, inr, length, map, not, refl}
use Rattle.std.proofs.Common.{subst, sym, true, ℕ, ◌∙◌, ◌∷◌, ◌≡◌, ◌≢◌, ◌≤◌}
use Rattle.std.specs.Prelude.{filter, nat_le, slice_index, ◌&&◌, ◌==◌}
use Rattle.std.proofs.lemmas.Bool.{cond_both, false_from_ne_true}
use Rattle.std.proofs.lemmas.Bool.Decides.{nat_tests}
use Rattle.si_model.specs.Evaluation.{key_claimed, keys_from, with_guard}
use Rattle.si_model.specs.Lists.{Listed}
use Rattle.si_model.specs.Rows.{row_key, same_key}
use Rattle.si_model.specs.Setting.{Asked, Setting, claimed_keys, distinct_from}
use Rattle.si_model.specs.declared.op.Op.{Op}
use Rattle.si_model.specs.declared.row.Key.{Key}
use Rattle.si_model.specs.declared.row.Row.{Row}
use Rattle.si_model.proofs.EvaluationLemmas.{same_key_says}
use Rattle.si_model.proofs.ListLemmas.{All-listed, listed_filter, listed_map}
use Rattle.si_law.proofs.GrowthCrowded.{length-le_from_listed}
use Rattle.nam_catalog.specs.declared.shape.Shape.{Shape}
use Rattle.nam_protocol.specs.declared.client.Call.{Call}
use Rattle.nam_claimed.specs.Claimed.{FromOp, FromRow, IsLoadedOrAsked}
use Rattle.nam_claimed.specs.EndsLaw.{CrowdedLaw, ListsAsked}

-- 1. Keys of a list, each once

guard_keeps : (key more : Key) (keys : List Key) → Listed key keys → Listed key (with_guard keys more)
guard_keeps key more [] listed = absurd listed
guard_keeps key more (k ∷ keys) listed =
    cond_both (same_key k more) (k ∷ keys) (k ∷ with_guard keys more) (Listed key) (λ same. listed)
    (λ other. elim listed [ inl here ↦ inl here | inr later ↦ inr (guard_keeps key more keys later) ])

guard_adds : (key : Key) (keys : List Key) → Listed key (with_guard keys key)
guard_adds key [] = inl refl
guard_adds key (k ∷ keys) =
    cond_both (same_key k key) (k ∷ keys) (k ∷ with_guard keys key) (Listed key)
    (λ same. inl (same_key_says k key same)) (λ other. inr (guard_adds key keys))

distinct_keeps : (key : Key) (keys more : List Key) → Listed key keys → Listed key (distinct_from keys more)
distinct_keeps key keys [] listed = listed
distinct_keeps key keys (k ∷ more) listed =
    distinct_keeps key (with_guard keys k) more (guard_keeps key k keys listed)

distinct_adds : (key : Key) (keys more : List Key) → Listed key more → Listed key (distinct_from keys more)
distinct_adds key keys [] listed = absurd listed
distinct_adds key keys (k ∷ more) (inl here) =
    distinct_keeps key (with_guard keys k) more
    (subst (λ (q : Key). Listed q (with_guard keys k)) here (guard_adds k keys))
distinct_adds key keys (k ∷ more) (inr later) = distinct_adds key (with_guard keys k) more later

abbrev claimed_on : List Key → Option Key → List Key
claimed_on keys claimed = elim claimed [ None ↦ keys | Some key ↦ with_guard keys key ]

on_keeps : (key : Key) (keys : List Key) (claimed : Option Key) → Listed key keys
    → Listed key (claimed_on keys claimed)
on_keeps key keys None listed = listed
on_keeps key keys (Some more) listed = guard_keeps key more keys listed

from_keeps : (key : Key) (keys : List Key) (ops : List Op) → Listed key keys
    → Listed key (keys_from key_claimed keys ops)
from_keeps key keys [] listed = listed
from_keeps key keys (op ∷ ops) listed =
    from_keeps key (claimed_on keys (key_claimed op)) ops (on_keeps key keys (key_claimed op) listed)

from_adds : (key : Key) (keys : List Key) (ops : List Op) (op : Op) → Listed op ops → key_claimed op ≡ Some key
    → Listed key (keys_from key_claimed keys ops)
from_adds key keys [] op listed claims = absurd listed
from_adds key keys (o ∷ ops) op (inl here) claims =
    from_keeps key (claimed_on keys (key_claimed o)) ops
    (subst (λ (claimed : Option Key). Listed key (claimed_on keys claimed)) (sym (ap key_claimed here ∙ claims))
    (guard_adds key keys))
from_adds key keys (o ∷ ops) op (inr later) claims =
    from_adds key (claimed_on keys (key_claimed o)) ops op later claims

-- 2. The model's claimed keys

pub known_claimed : (shape : Shape) (rows : List Row) (calls : ℕ → List Call) (s : Setting) (asked : Asked)
    → ListsAsked shape rows calls s asked → (key : Key) → IsLoadedOrAsked shape rows calls key
    → Listed key (claimed_keys s asked)
known_claimed shape rows calls s asked lists key (FromRow row listed is) =
    from_keeps key (distinct_from [] (map row_key s.rows)) asked.ops
    (distinct_adds key [] (map row_key s.rows)
    (subst (λ (k : Key). Listed k (map row_key s.rows)) is
    (listed_map row_key s.rows row (subst (Listed row) (sym lists.loaded) listed))))
known_claimed shape rows calls s asked lists key (FromOp nth op within listed claims) =
    from_adds key (distinct_from [] (map row_key s.rows)) asked.ops op (lists.ops nth within op listed) claims

-- 3. A table is crowded

pub crowded_holds : CrowdedLaw
crowded_holds shape m s asked key lacks =
    let other : Key → Bool = λ q. (q.table == key.table) && not (same_key q key) in
    let few = length-le_from_listed lacks.keys (filter other (claimed_keys s asked)) lacks.apart
    (λ k listed. let is = All-listed (λ q. (q.table ≡ key.table) × (q ≢ key) × Listed q (claimed_keys s asked))
    lacks.keys k lacks.others listed in
    listed_filter other (claimed_keys s asked) k is.2
    (passes k.table key.table (same_key k key) is.0
    (false_from_ne_true (same_key k key) (λ same. is.1 (same_key_says k key same))))) in
    let many = lacks.many in
    at_most (slice_index s.capacities key.table) (length (filter other (claimed_keys s asked))) (omega arith)
  where
    passes : (t u : ℕ) (same : Bool) → t ≡ u → same ≡ false → ((t == u) && not same) ≡ true
    passes t u same table differs = grind (arith, nat_tests)

    at_most : (n k : ℕ) → n ≤ k → nat_le n k ≡ true
    at_most n k least = grind (arith, nat_tests)
