-- how many locks a locking has taken.
use Rattle.std.specs.Prelude.{◌≡◌, ℕ, ◌+◌, ◌==◌, if◌then◌else◌, List, [], ◌∷◌, Option, Some}
use Rattle.nam_verbs.specs.declared.verb.Verb.{Verb}
use Rattle.nam_verbs.specs.declared.verb.Verb.TheVariants.{Exchange}
use Rattle.nam_verbs.specs.Machine.{after_words}
use Rattle.nam_verbs.specs.Running.{Running, next_verb, after_found}
use Rattle.nam_layout.specs.declared.field.Place.{Place}
use Rattle.nam_calls.specs.declared.lock.Locks.{Locks}
use Rattle.nam_calls.specs.declared.lock.LockEnd.{LockEnd}
use Rattle.nam_lock.specs.Locking.{locking, running, taken_by}

-- 1 where the verb is an exchange that finds the word it expects
abbrev pub stored : Option Verb → ℕ → ℕ
stored (Some (Exchange at expected new)) found = if found == expected then 1 else 0
stored _ found = 0

-- how many exchanges of a call find the word that they expect, where its verbs find these words
abbrev pub exchanges : Running Place Locks LockEnd → List ℕ → ℕ
exchanges call [] = 0
exchanges call (word ∷ words) = stored (next_verb call) word + exchanges (after_found call word) words

-- whatever words were found, a locking has taken as many locks as there were such exchanges
abbrev pub TakenLaw : Type 0
TakenLaw = (worker : ℕ) (places : List Place) (seen words : List ℕ)
    → let call = running (locking worker places seen) in
    taken_by (after_words call words).state ≡ exchanges call words
