-- The bank's script keeps to all limits.
use Rattle.std.proofs.Common.{◌≡◌, ℕ, zero, suc, ◌+◌, ◌*◌, ◌%◌, ◌^◌, ◌<◌, ◌≤◌, Bool, true, false, cond, ◌&&◌, eqb}
use Rattle.std.proofs.Common.{[], ◌∷◌}
use Rattle.std.proofs.Common.{◌/◌, length, refl, sym, subst, arith}
use Rattle.std.specs.Prelude.{slice_index}
use Rattle.std.specs.List.{AllByRecursion}
use Rattle.std.proofs.lemmas.Bool.{ne_eqb}
use Rattle.std.proofs.Math.Nat.{mod-lt}
use Rattle.si_model.specs.declared.row.Row.{Row}
use Rattle.si_model.specs.declared.row.Key.{Key}
use Rattle.si_model.specs.Rows.{key_at, same_key, row_key}
use Rattle.si_model.specs.Generator.{next_state, pick}
use Rattle.nam_script.specs.declared.script.Script.{Script}
use Rattle.nam_script.specs.Bank.{bank_ops, bank_txn, state_after, bank_txns, rows_from, bank_shape, bank_of}
use Rattle.nam_script.specs.Checks.{rows_in, txns_cost}
use Rattle.nam_script.specs.Limits.{RowFits, RowNumbersFit, AreDistinct, RowsFit, OpsFit, TxnFits, IsScript}

-- ---- accounts

rows_fit : (key n : ℕ) → AllByRecursion (RowFits (1 ∷ [])) (rows_from key n)
rows_fit key zero = tt
rows_fit key (suc n) = (((omega arith, omega arith), refl), rows_fit (key + 1) n)

rows_numbers : (key n : ℕ) → key + n ≤ 16 → AllByRecursion RowNumbersFit (rows_from key n)
rows_numbers key zero le = tt
rows_numbers key (suc n) le = ((omega (arith, le), (omega arith, tt)), rows_numbers (key + 1) n (omega (arith, le)))

unlike : (a b : Bool) → b ≡ false → (a && b) ≡ false
unlike true b e = e
unlike false b e = refl

-- later accounts have other keys
others : (first : Row) (key n : ℕ) → first.key < key
    → AllByRecursion (λ q. same_key (row_key first) (row_key q) ≡ false) (rows_from key n)
others first key zero lt = tt
others first key (suc n) lt =
    let other : first.key ≡ key → ⊥ = λ e. omega (arith, e, lt) in (
      unlike (eqb first.table 0) (eqb first.key key) (ne_eqb first.key key other),
      others first (key + 1) n (omega (arith, lt)),
    )

rows_distinct : (key n : ℕ) → AreDistinct (rows_from key n)
rows_distinct key zero = tt
rows_distinct key (suc n) =
    (others (record { table = 0; key = key; value = 1000 ∷ [] }) (key + 1) n (omega arith), rows_distinct (key + 1) n)

at_most_one : (b : Bool) → cond b 1 0 ≤ 1
at_most_one true = omega arith
at_most_one false = omega arith

rows_few : (key n t : ℕ) → rows_in (rows_from key n) t ≤ n
rows_few key zero t = omega arith
rows_few key (suc n) t = omega (arith, at_most_one (eqb 0 t), rows_few (key + 1) n t)

accounts_loaded : (t : ℕ) → t < 1 → rows_in (rows_from 0 16) t ≤ slice_index (16 ∷ []) t
accounts_loaded zero lt = rows_few 0 16 0
accounts_loaded (suc t) lt = absurd (omega arith)

accounts_fit : RowsFit bank_shape.tables (rows_from 0 16)
accounts_fit =
    record {
      fit = rows_fit 0 16;
      numbers = rows_numbers 0 16 (omega arith);
      distinct = rows_distinct 0 16;
      loaded = accounts_loaded;
    }

-- ---- transfers

two_keys : (b : Bool) (one other : Key) → length (cond b (one ∷ []) (one ∷ other ∷ [])) ≤ 16
two_keys true one other = omega arith
two_keys false one other = omega arith

ops_fit : (from to amount : ℕ) → from < 16 → to < 16 → 1 ≤ amount → amount ≤ 100
    → OpsFit bank_shape.tables (bank_ops from to amount)
ops_fit from to amount lf lt some most = record {
  fit = (
    ((omega arith, omega arith), (omega arith, omega arith)),
    (
      ((omega arith, omega arith), (omega arith, omega arith)),
      (((omega arith, omega arith), (omega arith, omega arith)), tt),
    ),
  );
  numbers = (
    (omega (arith, lf), omega (arith, most)),
    (
      (omega (arith, lf), omega (arith, most), λ _. some),
      ((omega (arith, lt), omega (arith, most), λ _. some), tt),
    ),
  );
  few = omega arith;
  claims = two_keys (same_key (key_at 0 from) (key_at 0 to)) (key_at 0 from) (key_at 0 to);
}

txn_fits : (place x : ℕ) → TxnFits 4 bank_shape.tables (bank_txn place x)
txn_fits place x =
    let first = next_state x in
    let second = next_state first in
    let third = next_state second in
    let from = pick first 16 in
    let amount = mod-lt (third / 2 ^ 33) {m = 100} (omega arith) in
    record {
      worker = (omega arith, omega (arith, mod-lt place {m = 4} (omega arith)));
      some = omega arith;
      ops = ops_fit from ((from + 1 + pick second 15) % 16) (1 + pick third 100)
          (mod-lt (first / 2 ^ 33) {m = 16} (omega arith))
          (mod-lt (from + 1 + pick second 15) {m = 16} (omega arith)) (omega arith) (omega (arith, amount));
    }

txns_fit : (place n x : ℕ) → AllByRecursion (TxnFits 4 bank_shape.tables) (bank_txns place n x)
txns_fit place zero x = tt
txns_fit place (suc n) x = (txn_fits place x, txns_fit (place + 1) n (state_after x))

txns_count : (place n x : ℕ) → length (bank_txns place n x) ≡ n
txns_count place zero x = refl
txns_count place (suc n) x = omega (arith, txns_count (place + 1) n (state_after x))

txns_spend : (place n x : ℕ) → txns_cost (16 ∷ []) (bank_txns place n x) ≡ 3 * n
txns_spend place zero x = refl
txns_spend place (suc n) x = omega (arith, txns_spend (place + 1) n (state_after x))

bank_is_script : (seed size : ℕ) → size ≤ 8192 → IsScript (bank_of seed size)
bank_is_script seed size few = record {
  shape = refl;
  form = refl;
  few_tables = omega arith;
  names = (refl, tt);
  tries = (omega arith, omega arith);
  rows = accounts_fit;
  few = omega (arith, txns_count 0 size seed, few);
  txns = txns_fit 0 size seed;
  cost = omega (arith, txns_spend 0 size seed, few);
  turns = (tt, omega arith);
}

pub bank_limits : (s : Script) (seed size : ℕ) → s ≡ bank_of seed size → size ≤ 2000 → IsScript s
bank_limits s seed size is few = subst IsScript (sym is) (bank_is_script seed size (omega (arith, few)))
