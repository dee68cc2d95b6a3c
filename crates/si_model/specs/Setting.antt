-- What a run is of.
use Rattle.std.specs.Prelude.{ℕ, suc, ◌==◌, ◌&&◌, not, Bool, false, if◌then◌else◌, List, [], ◌∷◌, length, map, filter}
use Rattle.std.specs.Prelude.{slice_index, nat_le}
use Rattle.si_model.specs.declared.row.Key.{Key}
use Rattle.si_model.specs.declared.row.Row.{Row}
use Rattle.si_model.specs.declared.op.Op.{Op}
use Rattle.si_model.specs.declared.op.Policy.{Policy}
use Rattle.si_model.specs.Lists.{concat_of}
use Rattle.si_model.specs.Rows.{row_key, same_key}
use Rattle.si_model.specs.Evaluation.{with_guard, key_claimed, keys_from}

-- what a script fixes: workers, tables, loaded rows, the transactions and whose they are, and the policy
pub record Setting : Type 0 where
  pub workers : ℕ
  -- commit numbers follow start, up to the greatest that a header can bear
  pub start : ℕ
  pub greatest : ℕ
  -- does a locked header name its holder, so that a stopped worker can be finished
  pub held : Bool
  -- of each table
  pub widths : List ℕ
  pub capacities : List ℕ
  pub rings : List ℕ
  -- of each bucket
  pub cells : ℕ
  pub rows : List Row
  pub jobs : List (List Op)
  pub owners : List ℕ
  pub policy : Policy

-- what all callers asked for together, by a script or call by call
pub record Asked : Type 0 where
  -- all operations
  pub ops : List Op
  -- can an attempt be left by its caller
  pub by_calls : Bool

abbrev pub by_script : Setting → Asked
by_script s = record { ops = concat_of s.jobs; by_calls = false }

-- the keys of the list, each once
abbrev pub distinct_from : List Key → List Key → List Key
distinct_from ks [] = ks
distinct_from ks (key ∷ keys) = distinct_from (with_guard ks key) keys

-- the keys that a row or an operation gives a position, each once
abbrev pub claimed_keys : Setting → Asked → List Key
claimed_keys s asked = keys_from key_claimed (distinct_from [] (map row_key s.rows)) asked.ops

-- are there at least as many other keys of its table as the table has positions
abbrev pub is_crowded : Setting → Asked → Key → Bool
is_crowded s asked key =
    nat_le (slice_index s.capacities key.table)
    (length (filter (λ q. (q.table == key.table) && not (same_key q key)) (claimed_keys s asked)))

abbrev pub places_of : ℕ → ℕ → List ℕ → List ℕ
places_of j x [] = []
places_of j x (owner ∷ owners) = if owner == j then x ∷ places_of j (suc x) owners else places_of j (suc x) owners

-- the numbers of worker j's transactions
abbrev pub txns_of : ℕ → List ℕ → List ℕ
txns_of j owners = places_of j 1 owners
