-- places in rows of one length
use Rattle.std.proofs.Common.{ℕ, zero, suc, ◌+◌, ◌*◌, ◌<◌, ◌≤◌, arith}
use Rattle.std.proofs.lemmas.Nat.{mul-add-lt}

pub place_within : (row length place rows : ℕ) → row < rows → place < length → row * length + place < rows * length
place_within row length place rows some less = let within = mul-add-lt row length place rows some less in omega arith

pub some_length : (n rows length : ℕ) → n < rows * length → 1 ≤ length
some_length n rows zero within = absurd (omega arith)
some_length n rows (suc length) within = omega arith
