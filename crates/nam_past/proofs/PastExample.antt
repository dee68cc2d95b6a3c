-- Two commits, three snapshots around them, and their moments, by computing.
use Rattle.std.proofs.Common.{List, [], arith, refl, slice_index, suc, true, zero, ℕ, ◌<◌, ◌∷◌, ◌≡◌, ◌≤◌}
use Rattle.nam_calls.specs.Memory.{memory}
use Rattle.nam_ghost.proofs.CommitExample.{held_shape}
use Rattle.nam_ghost.proofs.Runs.{Calls, Seen, Turns, after_deeds, client_of, opened, stamp, turns}
use Rattle.nam_ghost.specs.Moments.{vector_of}
use Rattle.nam_header.specs.Visible.{is_visible}
use Rattle.nam_past.specs.Past.{HasMoment, IsMoment, entry_after}
use Rattle.nam_protocol.proofs.Shown.{loaded}
use Rattle.nam_protocol.specs.Log.{prefix_of}
use Rattle.nam_protocol.specs.Opening.{copies, load_from}
use Rattle.nam_protocol.specs.declared.client.Call.TheVariants.{Begin, Txn}
use Rattle.nam_protocol.specs.declared.txn.TxnCall.TheVariants.{Commit, Put}
use Rattle.si_model.specs.declared.log.Stamp.{Stamp}

-- Both clients take a snapshot. The first commits. It begins another snapshot, and has read its own entry when the
-- second client commits; then it goes on.
abbrev run : Seen
run = after_deeds held_shape
    (opened held_shape (loaded 0 0 (5 ∷ 6 ∷ []) ∷ loaded 0 1 (1 ∷ 2 ∷ []) ∷ []))
    (Calls 1 (Begin 2 1) ∷ Turns 1 4 ∷ Calls 0 (Begin 1 1) ∷ Turns 0 4 ∷ Calls 0 (Txn (Put 0 0 (7 ∷ 8 ∷ []))) ∷
    Turns 0 1 ∷ Calls 0 (Txn Commit) ∷ Turns 0 30 ∷ Calls 0 (Begin 3 1) ∷ Turns 0 1 ∷
    Calls 1 (Txn (Put 0 1 (9 ∷ 9 ∷ []))) ∷ Turns 1 1 ∷ Calls 1 (Txn Commit) ∷ Turns 1 30 ∷ Turns 0 3 ∷ [])

abbrev order : List Stamp
order = stamp 1 1 ∷ stamp 2 1 ∷ []

order_is : run.ghost.order ≡ order
unfolding turns copies load_from
order_is = refl

first_takes : (client_of run 0).log.snaps ≡ (0 ∷ 0 ∷ []) ∷ (1 ∷ 1 ∷ []) ∷ []
unfolding turns copies load_from
first_takes = refl

second_takes : (client_of run 1).log.snaps ≡ (0 ∷ 0 ∷ []) ∷ []
unfolding turns copies load_from
second_takes = refl

-- the vector, along the order
after_none : entry_after 0 order 0 0 ≡ 0
after_none = refl

after_one : entry_after 0 order 1 0 ≡ 1
after_one = refl

other_after_one : entry_after 0 order 1 1 ≡ 0
other_after_one = refl

vector_is : vector_of (memory held_shape run.store.words) 1 ≡ entry_after 0 order 2 1
unfolding turns copies load_from
vector_is = refl

-- the moments: before both commits, and after both
before_both : IsMoment 0 2 order (0 ∷ 0 ∷ []) 0
before_both = record { within = omega arith; entries = each }
  where
    each : (a : ℕ) → a < 2 → slice_index (0 ∷ 0 ∷ []) a ≡ entry_after 0 order 0 a
    each zero less = refl
    each (suc zero) less = refl
    each (suc (suc a)) less = absurd (omega arith)

after_both : IsMoment 0 2 order (1 ∷ 1 ∷ []) 2
after_both = record { within = omega arith; entries = each }
  where
    each : (a : ℕ) → a < 2 → slice_index (1 ∷ 1 ∷ []) a ≡ entry_after 0 order 2 a
    each zero less = refl
    each (suc zero) less = refl
    each (suc (suc a)) less = absurd (omega arith)

sees_second : is_visible (stamp 2 1) (1 ∷ 1 ∷ []) ≡ true
sees_second = refl

tells_two : prefix_of 0 (1 ∷ 1 ∷ []) ≡ 2
tells_two = refl

-- What a first pass may find, where the first commit comes after its first word and the second before its second one:
-- it is at most the vector at its end, but of no moment.
only_found : HasMoment 0 2 order (0 ∷ 1 ∷ []) 0
only_found = record { count = 2; within = omega arith; found = each; same = λ a less. absurd (omega arith) }
  where
    each : (a : ℕ) → a < 2 → slice_index (0 ∷ 1 ∷ []) a ≤ entry_after 0 order 2 a
    each zero less = omega arith
    each (suc zero) less = omega arith
    each (suc (suc a)) less = absurd (omega arith)

of_no_moment : (count : ℕ) → IsMoment 0 2 order (0 ∷ 1 ∷ []) count → ⊥
of_no_moment zero is = let other = is.entries 1 (omega arith) in absurd (omega arith)
of_no_moment (suc zero) is = let own = is.entries 0 (omega arith) in absurd (omega arith)
of_no_moment (suc (suc zero)) is = let own = is.entries 0 (omega arith) in absurd (omega arith)
of_no_moment (suc (suc (suc count))) is = let within = is.within in absurd (omega arith)
