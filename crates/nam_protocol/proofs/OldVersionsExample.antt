-- Old versions in rings and cells, simulated.
use Rattle.std.proofs.Common.{◌≡◌, true, false, [], ◌∷◌, Some, refl}
use Rattle.si_model.specs.declared.op.Op.TheVariants.{Get, Add}
use Rattle.si_model.specs.declared.log.Outcome.TheVariants.{Commit, ReadOnly, TooOld, Full}
use Rattle.si_model.specs.declared.log.Event.TheVariants.{NoRoom, Collected}
use Rattle.nam_catalog.specs.declared.form.Form.TheVariants.{Narrow}
use Rattle.nam_protocol.specs.Schedule.{Scenario, Stints, stint_workers, picked, after_workers, until_ended}
use Rattle.nam_protocol.specs.Session.{settle}
use Rattle.nam_protocol.specs.Opening.{copies, load_from}
use Rattle.nam_protocol.proofs.Shown.{shape, table, loaded, txn, stint, item, row, lock, tried, move, move_done}
use Rattle.nam_protocol.proofs.Shown.{shown}

unfoldable of_ring_is_full : Scenario
of_ring_is_full = record {
  shape = shape Narrow 1 (table 1 1 1 ∷ []) 1 1 0;
  rows = loaded 0 0 (0 ∷ []) ∷ [];
  policy = record { tries = 1; tidy = false };
  txns = txn 1 (Add 0 0 1 true 1 ∷ []) ∷ txn 1 (Add 0 0 1 true 1 ∷ []) ∷ txn 1 (Add 0 0 1 true 1 ∷ []) ∷ [];
  schedule = Stints ([]);
}

-- a ring of one slot is full after one commit that is not tidied
ring_is_full : shown of_ring_is_full [] ≡ record {
  logs =
      record {
        events = tried 1 1 0 1 1 1 (Commit 1) ∷ tried 2 1 1 1 1 0 (Full (lock 0 0 0 0)) ∷ tried 3 1 1 1 1 0
            (Full (lock 0 0 0 0)) ∷ [];
        reads = item 0 0 (Some (0 ∷ [])) ∷ item 0 0 (Some (1 ∷ [])) ∷ item 0 0 (Some (1 ∷ [])) ∷ [];
        locks = lock 0 0 0 0 ∷ lock 0 0 1 1 ∷ lock 0 0 1 1 ∷ [];
        writes = item 0 0 (Some (1 ∷ [])) ∷ [];
        snaps = (0 ∷ []) ∷ (1 ∷ []) ∷ (1 ∷ []) ∷ [];
      } ∷
      [];
  audit = row 0 0 (Some (1 ∷ [])) false ∷ [];
}
unfolding of_ring_is_full stint_workers picked after_workers until_ended settle copies load_from
ring_is_full = refl

unfoldable of_reader_finds_cell : Scenario
of_reader_finds_cell = record {
  shape = shape Narrow 2 (table 1 1 1 ∷ []) 1 4 0;
  rows = loaded 0 0 (5 ∷ []) ∷ [];
  policy = record { tries = 1; tidy = true };
  txns = txn 1 (Add 0 0 1 true 1 ∷ []) ∷ txn 1 (Add 0 0 1 true 1 ∷ []) ∷ txn 2 (Get 0 0 ∷ []) ∷ [];
  schedule = Stints (stint 2 4 ∷ stint 1 200 ∷ []);
}

-- a get on an old snapshot finds its version in a cell
reader_finds_cell : shown of_reader_finds_cell [] ≡ record {
  logs =
      record {
        events = tried 1 1 0 1 1 1 (Commit 1) ∷ move 0 0 0 0 0 move_done ∷ tried 2 1 1 1 1 1
            (Commit 2) ∷ move 0 0 0 1 1 move_done ∷ [];
        reads = item 0 0 (Some (5 ∷ [])) ∷ item 0 0 (Some (6 ∷ [])) ∷ [];
        locks = lock 0 0 0 0 ∷ lock 0 0 1 1 ∷ [];
        writes = item 0 0 (Some (6 ∷ [])) ∷ item 0 0 (Some (7 ∷ [])) ∷ [];
        snaps = (0 ∷ 0 ∷ []) ∷ (1 ∷ 0 ∷ []) ∷ [];
      } ∷
      record {
        events = tried 3 1 0 1 0 0 ReadOnly ∷ [];
        reads = item 0 0 (Some (5 ∷ [])) ∷ [];
        locks = [];
        writes = [];
        snaps = (0 ∷ 0 ∷ []) ∷ [];
      } ∷
      [];
  audit = row 0 0 (Some (7 ∷ [])) false ∷ [];
}
unfolding of_reader_finds_cell stint_workers picked after_workers until_ended settle copies load_from
reader_finds_cell = refl

unfoldable of_reader_too_old : Scenario
of_reader_too_old = record {
  shape = shape Narrow 2 (table 1 1 1 ∷ []) 1 1 0;
  rows = loaded 0 0 (5 ∷ []) ∷ [];
  policy = record { tries = 1; tidy = true };
  txns = txn 1 (Add 0 0 1 true 1 ∷ []) ∷ txn 1 (Add 0 0 1 true 1 ∷ []) ∷ txn 2 (Get 0 0 ∷ []) ∷ [];
  schedule = Stints (stint 2 4 ∷ stint 1 200 ∷ []);
}

-- a collection gives up the version that a get looks for
reader_too_old : shown of_reader_too_old [] ≡ record {
  logs =
      record {
        events = tried 1 1 0 1 1 1 (Commit 1) ∷ move 0 0 0 0 0 move_done ∷ tried 2 1 1 1 1 1
            (Commit 2) ∷ NoRoom 0 ∷ Collected 0 2 (2 ∷ 0 ∷
            []) false ∷ move 0 0 0 1 1 move_done ∷ [];
        reads = item 0 0 (Some (5 ∷ [])) ∷ item 0 0 (Some (6 ∷ [])) ∷ [];
        locks = lock 0 0 0 0 ∷ lock 0 0 1 1 ∷ [];
        writes = item 0 0 (Some (6 ∷ [])) ∷ item 0 0 (Some (7 ∷ [])) ∷ [];
        snaps = (0 ∷ 0 ∷ []) ∷ (1 ∷ 0 ∷ []) ∷ (2 ∷ 0 ∷ []) ∷ [];
      } ∷
      record {
        events = tried 3 1 0 0 0 0 (TooOld 1 0 2) ∷ [];
        reads = [];
        locks = [];
        writes = [];
        snaps = (0 ∷ 0 ∷ []) ∷ [];
      } ∷
      [];
  audit = row 0 0 (Some (7 ∷ [])) false ∷ [];
}
unfolding of_reader_too_old stint_workers picked after_workers until_ended settle copies load_from
reader_too_old = refl
