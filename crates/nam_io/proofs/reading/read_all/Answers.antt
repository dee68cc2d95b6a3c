use Rattle.std.proofs.Common.{◌≤◌, ◌+◌, ◌≡◌, ℕ, arith}
use Rattle.std.proofs.lemmas.List.{length-take}
use Rattle.nam_io.proofs.FrontLemmas.{LosesFront-both}
use Rattle.nam_io.proofs.reading.read_all.Goals as goal

-- the read gave exactly the bytes that it was asked for, which are one too many
pub returns-then-limit-len-clause-stops : goal.returns-then-limit-len-clause-stops
returns-then-limit-len-clause-stops g c =
    λ _. LosesFront-both _ _ _ _ _ (λ n. n ≡ c.args.limit + 1) c.loop-bytes.invariant.got c.in_ok-count.ensures.gives
    (omega (arith, c.in_ok-count.ensures.within, length-take {A = ℕ}))

-- what was got fits the limit, but not the memory
pub returns-in_err-extend_from_slice-clause-short :
    goal.returns-in_err-extend_from_slice-clause-short
returns-in_err-extend_from_slice-clause-short g c =
    λ _. LosesFront-both _ _ _ _ _ (λ n. n ≤ c.args.limit) c.loop-bytes.invariant.got c.in_ok-count.ensures.gives
    (omega (arith, c.in_ok-count.ensures.within))
