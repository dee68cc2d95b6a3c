-- What a snapshot contains of the listed commits, and what it says by them.
use Rattle.std.specs.Prelude.{ℕ, ◌+◌, ◌-◌, ◌&&◌, ◌||◌, nat_lt, nat_le, Bool, if◌then◌else◌, List, [], ◌∷◌, length}
use Rattle.std.specs.Prelude.{filter, map, slice_index, Option, Some, None}
use Rattle.si_model.specs.declared.row.Key.{Key}
use Rattle.si_model.specs.declared.log.Stamp.{Stamp}
use Rattle.si_model.specs.Rows.{Rows, writes_key, overlay}
use Rattle.si_model.specs.History.{loader, stamp_of, same_stamp, is_version}
use Rattle.si_model.specs.Commits.{Published, entry_of}

-- does the snapshot contain the commit of this stamp: its entry for the worker is at least the number
abbrev pub contains : List ℕ → Stamp → Bool
contains snap s = nat_lt 0 s.thread && nat_le s.number (slice_index snap (s.thread - 1))

-- the commits that it contains
abbrev pub inside : List ℕ → List Published → List Published
inside snap cs = filter (λ c. contains snap (stamp_of c.line)) cs

-- its entries' sum above start, which is how many commits it contains
abbrev pub sum_above : ℕ → List ℕ → ℕ
sum_above start [] = 0
sum_above start (n ∷ ns) = (n - start) + sum_above start ns

-- the one of the greater prefix
abbrev pub newer_of : Published → Option Published → Published
newer_of c None = c
newer_of c (Some d) = if nat_lt d.line.prefix c.line.prefix then c else d

-- of the commits that write the key the one of the greatest prefix
abbrev pub newest_in : Key → List Published → Option Published
newest_in key [] = None
newest_in key (c ∷ cs) = if writes_key c.line.writes key then Some (newer_of c (newest_in key cs)) else newest_in key cs

abbrev pub stamp_or_loader : Option Published → Stamp
stamp_or_loader None = loader
stamp_or_loader (Some c) = stamp_of c.line

abbrev pub value_by : Rows → Key → Option Published → Option (List ℕ)
value_by rows key None = rows key
value_by rows key (Some c) = overlay c.line.writes rows key

-- the rows that a snapshot shows
abbrev pub rows_in : Rows → List Published → List ℕ → Rows
rows_in rows cs snap key = value_by rows key (newest_in key (inside snap cs))

-- does the commit come after the version
abbrev pub is_after : Stamp → Published → Bool
is_after s c = same_stamp s loader || contains c.snap s

-- how many of these commits write the key after the version; none where it is not a version of the key
abbrev pub later_in : List Published → Key → Stamp → List Published → ℕ
later_in cs key s seen =
    if is_version key s (map entry_of cs) then length (filter (λ c. writes_key c.line.writes key && is_after s c) seen)
    else 0
