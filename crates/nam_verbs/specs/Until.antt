-- words that are read one after another
use Rattle.std.specs.Prelude.{ℕ, List, length, ◌==◌, if◌then◌else◌}

-- where the call stands with the words got so far, and after the last of so many
abbrev pub until : {A : Type 0} → ℕ → List ℕ → (List ℕ → A) → (List ℕ → A) → A
until width got more done = if length got == width then done got else more got
