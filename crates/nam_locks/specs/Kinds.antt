-- What each kind of a commit's steps makes of its client as a holder.
use Rattle.std.specs.Prelude.{Bool, [], false, ℕ, ◌++◌, ◌+◌, ◌∷◌}
use Rattle.nam_ghost.specs.Holders.{Holder}
use Rattle.nam_ghost.specs.Versions.{Chain}

-- it has one lock more, under this header
abbrev pub one_more : Holder → ℕ → Holder
one_more holder header = record holder { held = holder.held ++ header ∷ [] }

-- it has written so much at the record at hand, and this is the record's chain then
abbrev pub working : Holder → ℕ → Bool → Bool → Holder
working holder words dirty counted = record holder { words = words; dirty = dirty; counted = counted }

abbrev pub worked : Chain → Bool → Bool → Chain
worked chain dirty counted = record chain { dirty = dirty; counted = counted }

-- it has left the record at hand, and so many are done
abbrev pub left_behind : Holder → ℕ → Holder
left_behind holder done =
    record holder { from = holder.from + 1; done = done; words = 0; dirty = false; counted = false }
