-- what the writing back of headers does
use Rattle.std.specs.Prelude.{◌≡◌, ℕ, List, length}
use Rattle.nam_verbs.specs.Steps.{writes_of, Does, EndsAfter}
use Rattle.nam_layout.specs.declared.field.Place.{Place}
use Rattle.nam_calls.specs.Lock.{header_field, unlock_begin, unlock_verb, unlock_after}
use Rattle.nam_lock.specs.LockingLaw.{header_of}
use Rattle.nam_lock.specs.Unlocking.{unlocking, running}

-- each header is written to its place, in their order, and nothing else is done
abbrev pub UnlockingLaw : Type 0
UnlockingLaw = (places : List Place) (headers : List ℕ) → length headers ≡ length places
    → EndsAfter (running (unlocking places headers)) (writes_of (header_of (λ place. place) places) headers) tt

-- the same of the protocol's call, at the header fields of rows
abbrev pub UnlockingAtFields : Type 0
UnlockingAtFields = (places : List Place) (headers : List ℕ) → length headers ≡ length places
    → Does (unlock_verb places headers) (λ given found. unlock_after places given) (unlock_begin places)
    (writes_of (header_of header_field places) headers) tt
