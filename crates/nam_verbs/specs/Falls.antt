-- what it is that the number of verbs to come falls
use Rattle.std.specs.Prelude.{ℕ, ◌<◌}
use Rattle.nam_verbs.specs.declared.now.Now.{Now}
use Rattle.nam_verbs.specs.declared.now.Now.TheVariants.{At, Over}

module _ {P E : Type 0} where
  -- The call goes on at a point that fits, with fewer verbs to come than n; or it ends as it may, and what its caller
  -- does after that end takes fewer than n.
  abbrev pub FallsTo : (P → Type 0) → (E → Type 0) → (P → ℕ) → (E → ℕ) → ℕ → Now P E → Type 0
  FallsTo Fits Ends left after n (At place) = Fits place × (left place < n)
  FallsTo Fits Ends left after n (Over end) = Ends end × (after end < n)

-- nothing follows an end
abbrev pub nothing : {E : Type 0} → E → ℕ
nothing end = 0

abbrev pub Falls : {P E : Type 0} → (P → Type 0) → (E → Type 0) → (P → ℕ) → ℕ → Now P E → Type 0
Falls Fits Ends left n now = FallsTo Fits Ends left nothing n now

-- each point and each end
abbrev pub Any : {A : Type 0} → A → Type 0
Any a = Unit {0}
