-- Turns that cut, and lines that are asked.
use Rattle.std.proofs.Common.{◌≡◌, ℕ, true, false, List, [], ◌∷◌, ◌++◌, map, replicate, Some, refl}
use Rattle.si_model.specs.declared.op.Op.TheVariants.{Put}
use Rattle.si_model.specs.declared.log.Outcome.TheVariants as outcome
use Rattle.nam_catalog.specs.declared.form.Form.TheVariants.{Narrow}
use Rattle.nam_protocol.specs.Schedule.{Scenario, Stints, opened, run_to_end}
use Rattle.nam_protocol.specs.Schedule.{stint_workers, picked, after_workers, until_ended}
use Rattle.nam_protocol.specs.Session.{settle}
use Rattle.nam_protocol.specs.Opening.{copies, load_from}
use Rattle.nam_protocol.specs.World.{World, Turn, Step, Cut, after_turns}
use Rattle.nam_protocol.specs.Closed.{closed}
use Rattle.nam_protocol.proofs.Shown.{shape, table, loaded, txn, stint, up, fuse, row, lock, tried, unbegun}

unfoldable puts_of_one_key : Scenario
puts_of_one_key = record {
  shape = shape Narrow 2 (table 1 2 2 ∷ []) 1 1 0;
  rows = loaded 0 0 (0 ∷ []) ∷ loaded 0 1 (0 ∷ []) ∷ [];
  policy = record { tries = 1; tidy = false };
  txns = txn 1 (Put 0 0 (1 ∷ []) ∷ Put 0 1 (1 ∷ []) ∷ []) ∷ txn 2 (Put 0 0 (7 ∷ []) ∷ []) ∷ [];
  schedule = Stints (stint 1 31 ∷ []);
}

-- 1. Turns

abbrev steps : ℕ → ℕ → List Turn
steps worker verbs = replicate {A = Turn} verbs (Step worker)

abbrev world_after : List Turn → World
world_after turns = after_turns puts_of_one_key.shape (opened puts_of_one_key []).world turns

-- worker 1 is cut under its two locks, and has no further step; worker 2 has ended when a cut comes
abbrev turns_that_cut : List Turn
turns_that_cut = steps 1 21 ++ Cut 1 ∷ steps 1 3 ++ steps 2 6 ++ Cut 2 ∷ []

cut_under_locks : closed puts_of_one_key.shape (world_after turns_that_cut) ≡ record {
  logs =
      record {
        events = tried 1 1 0 0 2 0 outcome.Cut ∷ [];
        reads = [];
        locks = lock 0 0 0 0 ∷ lock 0 1 0 0 ∷ [];
        writes = [];
        snaps = (0 ∷ 0 ∷ []) ∷ [];
      } ∷
      record {
        events = tried 2 1 0 0 0 0 (outcome.Locked (lock 0 0 0 0)) ∷ [];
        reads = [];
        locks = [];
        writes = [];
        snaps = (0 ∷ 0 ∷ []) ∷ [];
      } ∷
      [];
  audit = row 0 0 (Some (0 ∷ [])) true ∷ row 0 1 (Some (0 ∷ [])) true ∷ [];
}
unfolding puts_of_one_key settle copies load_from
cut_under_locks = refl

-- a session that has ended is not cut
ended_is_not_cut : map (λ session. session.client.cut) (world_after turns_that_cut).sessions ≡ true ∷ false ∷ []
unfolding puts_of_one_key settle copies load_from
ended_is_not_cut = refl

-- a cut between two verbs of worker 2, and one before the first verb of worker 1
cut_at_the_begin : closed puts_of_one_key.shape (world_after (steps 2 4 ++ Cut 1 ∷ Cut 2 ∷ steps 2 1))
    ≡ record {
      logs =
          record { events = unbegun 1 1 outcome.Cut ∷ []; reads = []; locks = []; writes = []; snaps = [] } ∷
          record {
            events = tried 2 1 0 0 0 0 outcome.Cut ∷ [];
            reads = [];
            locks = [];
            writes = [];
            snaps = (0 ∷ 0 ∷ []) ∷ [];
          } ∷
          [];
      audit = row 0 0 (Some (0 ∷ [])) false ∷ row 0 1 (Some (0 ∷ [])) false ∷ [];
    }
unfolding puts_of_one_key settle copies load_from
cut_at_the_begin = refl

-- 2. Lines

-- the refused verb is asked for, and the line of a worker without a verb is not asked again
asked_lines : map (λ line. line.asked) (run_to_end 1000000 puts_of_one_key (fuse 22 ∷ up ∷ [])).lines ≡ 22 ∷ 6 ∷ []
unfolding puts_of_one_key stint_workers picked after_workers until_ended settle copies load_from
asked_lines = refl
