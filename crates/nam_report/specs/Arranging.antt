-- The history of any logs: the commits that they publish, put in order.
use Rattle.std.specs.Prelude.{ℕ, zero, suc, Bool, if◌then◌else◌, List, [], ◌∷◌, length, map, IsPermutation}
use Rattle.std.specs.declared.cmp.Ordering.{Ordering}
use Rattle.std.specs.Ordering.{nat_cmp, ordering_then, is_lt}
use Rattle.si_model.specs.declared.op.Op.{Op}
use Rattle.si_model.specs.declared.log.Stamp.{Stamp}
use Rattle.si_model.specs.declared.report.CommitLine.{CommitLine}
use Rattle.si_model.specs.Evaluation.{guard_keys}
use Rattle.si_model.specs.History.{stamp_of}
use Rattle.si_model.specs.Tells.{Tell}
use Rattle.si_model.specs.Commits.{Published, entry_of, published_by}
use Rattle.si_model.specs.Arranged.{level_of, IsArranged}
use Rattle.si_model.specs.Consistency.{CanBeArranged}
use Rattle.nam_report.specs.declared.arranging.placed.Placed.{Placed}
use Rattle.nam_report.specs.Depths.{with_next_depths, line_of}

-- a published commit at its level, at depth 0
abbrev pub placed_at : (Stamp → ℕ) → Published → Placed
placed_at level c =
    record { level = level (stamp_of c.line); depth = 0; guards = guard_keys c.ops; line = c.line }

-- the commits after so many rounds, each of which gives them their next depths
abbrev pub after_rounds : ℕ → List Placed → List Placed
after_rounds zero ps = ps
after_rounds (suc n) ps = after_rounds n (with_next_depths ps)

-- by level, depth, worker and number
abbrev pub place_cmp : Placed → Placed → Ordering
place_cmp a b =
    ordering_then (ordering_then (ordering_then (nat_cmp a.level b.level) (nat_cmp a.depth b.depth))
    (nat_cmp a.line.worker b.line.worker)) (nat_cmp a.line.number b.line.number)

abbrev pub is_before : Placed → Placed → Bool
is_before a b = is_lt (place_cmp a b)

-- the commit put before the first that isn't before it
abbrev pub put_in : Placed → List Placed → List Placed
put_in p [] = p ∷ []
put_in p (q ∷ qs) = if is_before q p then q ∷ put_in p qs else p ∷ q ∷ qs

-- the commits by level, depth, worker and number, and where these are the same in the order that they have
abbrev pub in_order : List Placed → List Placed
in_order [] = []
in_order (p ∷ ps) = put_in p (in_order ps)

-- the published commits at their levels and, after as many rounds as commits, their depths
abbrev pub placed_by : ℕ → List (List Tell) → List Placed
placed_by start tss =
    after_rounds (length (published_by tss)) (map (placed_at (level_of start tss)) (published_by tss))

-- the history of any logs, by what they tell: each published commit, by level, depth, worker and number
abbrev pub arranged : ℕ → List (List Tell) → List CommitLine
arranged start tss = map line_of (in_order (placed_by start tss))

-- the history of logs that can be arranged is their arranged history
abbrev pub ArrangedLaw : Type 0
ArrangedLaw = (start : ℕ) (jobs : List (List Op)) (tss : List (List Tell)) → CanBeArranged start jobs tss
    → IsArranged start tss (arranged start tss)

-- the history of any logs has exactly the commits that they publish
abbrev pub PublishedLaw : Type 0
PublishedLaw = (start : ℕ) (tss : List (List Tell))
    → IsPermutation (map entry_of (published_by tss)) (arranged start tss)
