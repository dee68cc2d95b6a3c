-- Transactions and accounts, one more.
use Rattle.std.proofs.Common.{◌≡◌, ℕ, zero, suc, ◌+◌, ◌-◌, ◌<◌, List, [], ◌∷◌, ◌++◌, refl, sym, ap, ◌∙◌, arith}
use Rattle.std.proofs.Common.{append_assoc}
use Rattle.si_model.specs.declared.row.Row.{Row}
use Rattle.nam_script.specs.declared.script.ScriptTxn.{ScriptTxn}
use Rattle.nam_script.specs.Bank.{bank_txn, state_after, bank_txns, rows_from}

pub txns_split : (size place n x : ℕ) → place < size → n ≡ size - place
    → bank_txns place n x ≡ bank_txn place x ∷ bank_txns (place + 1) (size - (place + 1)) (state_after x)
txns_split size place zero x lt e = absurd (omega (arith, e, lt))
txns_split size place (suc n) x lt e =
    ap (λ (m : ℕ). bank_txn place x ∷ bank_txns (place + 1) m (state_after x)) (omega (arith, e, lt))

pub rows_split : (key n : ℕ) → key < 16 → n ≡ 16 - key
    → rows_from key n ≡ record { table = 0; key = key; value = 1000 ∷ [] } ∷ rows_from (key + 1) (16 - (key + 1))
rows_split key zero lt e = absurd (omega (arith, e, lt))
rows_split key (suc n) lt e =
    ap (λ (m : ℕ). record { table = 0; key = key; value = 1000 ∷ [] } ∷ rows_from (key + 1) m) (omega (arith, e, lt))

pub txns_more : (size place x : ℕ) → place < size
    → bank_txns place (size - place) x ≡ bank_txn place x ∷ bank_txns (place + 1) (size - (place + 1)) (state_after x)
txns_more size place x lt = txns_split size place (size - place) x lt refl

pub rows_more : (key : ℕ) → key < 16
    → rows_from key (16 - key)
    ≡ record { table = 0; key = key; value = 1000 ∷ [] } ∷ rows_from (key + 1) (16 - (key + 1))
rows_more key lt = rows_split key (16 - key) lt refl

pub txns_step : (old new : List ScriptTxn) (size place x : ℕ) (t : ScriptTxn) (y : ℕ) (all : List ScriptTxn)
    → t ≡ bank_txn place x → y ≡ state_after x → new ≡ old ++ t ∷ [] → place < size
    → old ++ bank_txns place (size - place) x ≡ all → new ++ bank_txns (place + 1) (size - (place + 1)) y ≡ all
txns_step old new size place x t y all et ey en lt so_far =
    rw (en, et, ey) (append_assoc old (bank_txn place x ∷ []) _ ∙ ap (λ (r : List ScriptTxn). old ++ r)
    (sym (txns_more size place x lt)) ∙ so_far)

pub rows_step : (old new : List Row) (key : ℕ) (value : List ℕ) (all : List Row) → value ≡ 1000 ∷ []
    → new ≡ old ++ (record { table = 0; key = key; value = value }) ∷ [] → key < 16
    → old ++ rows_from key (16 - key) ≡ all → new ++ rows_from (key + 1) (16 - (key + 1)) ≡ all
rows_step old new key value all ev en lt so_far =
    rw (en, ev) (append_assoc old ((record { table = 0; key = key; value = 1000 ∷ [] }) ∷ []) _ ∙ ap
    (λ (r : List Row). old ++ r) (sym (rows_more key lt)) ∙ so_far)
