-- a machine that has taken a word: its point fits, and fewer verbs are to come
use Rattle.std.proofs.Common.{◌≡◌, ℕ, ◌<◌}
use Rattle.nam_verbs.specs.declared.now.Now.{Now}
use Rattle.nam_verbs.specs.declared.now.Now.TheVariants.{At, Over}
use Rattle.nam_verbs.specs.Now.{FitsNow, left_now}
use Rattle.nam_verbs.specs.Running.{Running}
use Rattle.nam_verbs.specs.Machine.{Always}
use Rattle.nam_verbs.proofs.StepsLemmas.{always, always_also}
use Rattle.nam_verbs.specs.Falls.{Falls}

module _ {P E : Type 0} (Fits : P → Type 0) (Ends : E → Type 0) (left : P → ℕ) (after : P → Now P E)
    (law : (at : P) → Fits at → Falls Fits Ends left (left at) (after at)) where
  falls_now : (n : ℕ) (now : Now P E) → Falls Fits Ends left n now → FitsNow Fits now × (left_now left now < n)
  falls_now n (At at) falls = falls
  falls_now n (Over end) falls = (tt, falls.1)

  fits_at : (old : Now P E) (at : P) → old ≡ At at → FitsNow Fits old → Fits at
  fits_at old at is fits = rw is at fits

  pub taken : (old new : Now P E) (at : P) → FitsNow Fits old → old ≡ At at → new ≡ after at
      → FitsNow Fits new × (left_now left new < left_now left old)
  taken old new at fits is goes =
      let both = falls_now (left at) new (rw goes (law at (fits_at old at is fits))) in (both.0, rw is both.1)

-- what holds at each point that fits holds wherever a call comes to whose verbs to come fall
module _ {W P E : Type 0} (Fits : P → Type 0) (Ends : E → Type 0) (call : Running W P E)
    (law : (at : P) → Fits at → (found : ℕ) → Falls Fits Ends call.left (call.left at) (call.after at found)) where
  fits_on : (n : ℕ) (now : Now P E) → Falls Fits Ends call.left n now → FitsNow Fits now
  fits_on n (At at) falls = falls.0
  fits_on n (Over end) falls = tt

  pub holds_always : (Holds : P → Type 0) → FitsNow Fits call.state → ((at : P) → Fits at → Holds at)
      → Always Holds call
  holds_always Holds fits follows =
      always_also Fits Holds follows call (always Fits call (λ at here found. fits_on _ _ (law at here found)) fits)
