-- Scans, simulated.
use Rattle.std.proofs.Common.{◌≡◌, true, false, [], ◌∷◌, Some, None, refl}
use Rattle.si_model.specs.declared.op.Op.TheVariants.{Put, Add, Del, Scan}
use Rattle.si_model.specs.declared.log.Outcome.TheVariants.{Commit, ReadOnly, TooOld}
use Rattle.si_model.specs.declared.log.Event.TheVariants.{NoRoom, Collected}
use Rattle.nam_catalog.specs.declared.form.Form.TheVariants.{Narrow}
use Rattle.nam_protocol.specs.Schedule.{Scenario, Stints, stint_workers, picked, after_workers, until_ended}
use Rattle.nam_protocol.specs.Session.{settle}
use Rattle.nam_protocol.specs.Opening.{copies, load_from}
use Rattle.nam_protocol.proofs.Shown.{shape, table, loaded, txn, stint, item, row, lock, tried, move, move_done}
use Rattle.nam_protocol.proofs.Shown.{shown}

unfoldable of_scan_with_own_writes : Scenario
of_scan_with_own_writes = record {
  shape = shape Narrow 1 (table 1 4 1 ∷ []) 1 1 0;
  rows = loaded 0 3 (30 ∷ []) ∷ loaded 0 1 (10 ∷ []) ∷ loaded 0 7 (70 ∷ []) ∷ [];
  policy = record { tries = 1; tidy = false };
  txns = txn 1 (Put 0 2 (20 ∷ []) ∷ Del 0 1 ∷ Scan 0 1 3 ∷ []) ∷ txn 1 (Scan 0 0 18446744073709551614 ∷ []) ∷ [];
  schedule = Stints ([]);
}

-- the items are in order of keys, with the own writes among them
scan_with_own_writes : shown of_scan_with_own_writes [] ≡ record {
  logs =
      record {
        events = tried 1 1 0 2 2 2 (Commit 1) ∷ tried 2 1 1 3 0 0 ReadOnly ∷ [];
        reads = item 0 2 (Some (20 ∷ [])) ∷ item 0 3 (Some (30 ∷ [])) ∷ item 0 2 (Some (20 ∷ [])) ∷ item 0 3
            (Some (30 ∷ [])) ∷
            item 0 7 (Some (70 ∷ [])) ∷ [];
        locks = lock 0 2 0 0 ∷ lock 0 1 0 0 ∷ [];
        writes = item 0 2 (Some (20 ∷ [])) ∷ item 0 1 None ∷ [];
        snaps = (0 ∷ []) ∷ (1 ∷ []) ∷ [];
      } ∷
      [];
  audit = row 0 2 (Some (20 ∷ [])) false ∷ row 0 3 (Some (30 ∷ [])) false ∷ row 0 7 (Some (70 ∷ [])) false ∷ [];
}
unfolding of_scan_with_own_writes stint_workers picked after_workers until_ended settle copies load_from
scan_with_own_writes = refl

unfoldable of_scan_before_own_writes : Scenario
of_scan_before_own_writes = record {
  shape = shape Narrow 1 (table 1 4 1 ∷ []) 1 1 0;
  rows = loaded 0 3 (30 ∷ []) ∷ loaded 0 1 (10 ∷ []) ∷ loaded 0 7 (70 ∷ []) ∷ [];
  policy = record { tries = 1; tidy = false };
  txns = txn 1 (Scan 0 1 3 ∷ Put 0 2 (20 ∷ []) ∷ Del 0 1 ∷ []) ∷ txn 1 (Scan 0 0 18446744073709551614 ∷ []) ∷ [];
  schedule = Stints ([]);
}

-- the same before the writes
scan_before_own_writes : shown of_scan_before_own_writes [] ≡ record {
  logs =
      record {
        events = tried 1 1 0 2 2 2 (Commit 1) ∷ tried 2 1 1 3 0 0 ReadOnly ∷ [];
        reads = item 0 1 (Some (10 ∷ [])) ∷ item 0 3 (Some (30 ∷ [])) ∷ item 0 2 (Some (20 ∷ [])) ∷ item 0 3
            (Some (30 ∷ [])) ∷
            item 0 7 (Some (70 ∷ [])) ∷ [];
        locks = lock 0 2 0 0 ∷ lock 0 1 0 0 ∷ [];
        writes = item 0 2 (Some (20 ∷ [])) ∷ item 0 1 None ∷ [];
        snaps = (0 ∷ []) ∷ (1 ∷ []) ∷ [];
      } ∷
      [];
  audit = row 0 2 (Some (20 ∷ [])) false ∷ row 0 3 (Some (30 ∷ [])) false ∷ row 0 7 (Some (70 ∷ [])) false ∷ [];
}
unfolding of_scan_before_own_writes stint_workers picked after_workers until_ended settle copies load_from
scan_before_own_writes = refl

unfoldable of_scan_sees_its_prefix : Scenario
of_scan_sees_its_prefix = record {
  shape = shape Narrow 2 (table 1 4 2 ∷ []) 1 1 0;
  rows = loaded 0 0 (5 ∷ []) ∷ [];
  policy = record { tries = 1; tidy = false };
  txns = txn 1 (Put 0 1 (6 ∷ []) ∷ []) ∷ txn 2 (Scan 0 0 3 ∷ []) ∷ [];
  schedule = Stints (stint 2 4 ∷ stint 1 19 ∷ []);
}

-- a row that is put beside the scan
scan_sees_its_prefix : shown of_scan_sees_its_prefix [] ≡ record {
  logs =
      record {
        events = tried 1 1 0 0 1 1 (Commit 1) ∷ [];
        reads = [];
        locks = lock 0 1 0 0 ∷ [];
        writes = item 0 1 (Some (6 ∷ [])) ∷ [];
        snaps = (0 ∷ 0 ∷ []) ∷ [];
      } ∷
      record {
        events = tried 2 1 0 1 0 0 ReadOnly ∷ [];
        reads = item 0 0 (Some (5 ∷ [])) ∷ [];
        locks = [];
        writes = [];
        snaps = (0 ∷ 0 ∷ []) ∷ [];
      } ∷
      [];
  audit = row 0 0 (Some (5 ∷ [])) false ∷ row 0 1 (Some (6 ∷ [])) false ∷ [];
}
unfolding of_scan_sees_its_prefix stint_workers picked after_workers until_ended settle copies load_from
scan_sees_its_prefix = refl

unfoldable of_scan_passes_lock : Scenario
of_scan_passes_lock = record {
  shape = shape Narrow 2 (table 1 4 2 ∷ []) 1 1 0;
  rows = loaded 0 0 (100 ∷ []) ∷ [];
  policy = record { tries = 1; tidy = false };
  txns = txn 1 (Add 0 0 1 true 5 ∷ []) ∷ txn 2 (Scan 0 0 9 ∷ []) ∷ [];
  schedule = Stints (stint 1 11 ∷ stint 2 11 ∷ []);
}

-- a scan reads on under the lock of a commit
scan_passes_lock : shown of_scan_passes_lock [] ≡ record {
  logs =
      record {
        events = tried 1 1 0 1 1 1 (Commit 1) ∷ [];
        reads = item 0 0 (Some (100 ∷ [])) ∷ [];
        locks = lock 0 0 0 0 ∷ [];
        writes = item 0 0 (Some (105 ∷ [])) ∷ [];
        snaps = (0 ∷ 0 ∷ []) ∷ [];
      } ∷
      record {
        events = tried 2 1 0 1 0 0 ReadOnly ∷ [];
        reads = item 0 0 (Some (100 ∷ [])) ∷ [];
        locks = [];
        writes = [];
        snaps = (0 ∷ 0 ∷ []) ∷ [];
      } ∷
      [];
  audit = row 0 0 (Some (105 ∷ [])) false ∷ [];
}
unfolding of_scan_passes_lock stint_workers picked after_workers until_ended settle copies load_from
scan_passes_lock = refl

unfoldable of_scan_finds_cell : Scenario
of_scan_finds_cell = record {
  shape = shape Narrow 2 (table 1 1 1 ∷ []) 1 4 0;
  rows = loaded 0 0 (5 ∷ []) ∷ [];
  policy = record { tries = 1; tidy = true };
  txns = txn 1 (Add 0 0 1 true 1 ∷ []) ∷ txn 1 (Add 0 0 1 true 1 ∷ []) ∷ txn 2 (Scan 0 0 9 ∷ []) ∷ [];
  schedule = Stints (stint 2 4 ∷ stint 1 200 ∷ []);
}

-- a scan on an old snapshot finds its version in a cell
scan_finds_cell : shown of_scan_finds_cell [] ≡ record {
  logs =
      record {
        events = tried 1 1 0 1 1 1 (Commit 1) ∷ move 0 0 0 0 0 move_done ∷ tried 2 1 1 1 1 1
            (Commit 2) ∷ move 0 0 0 1 1 move_done ∷ [];
        reads = item 0 0 (Some (5 ∷ [])) ∷ item 0 0 (Some (6 ∷ [])) ∷ [];
        locks = lock 0 0 0 0 ∷ lock 0 0 1 1 ∷ [];
        writes = item 0 0 (Some (6 ∷ [])) ∷ item 0 0 (Some (7 ∷ [])) ∷ [];
        snaps = (0 ∷ 0 ∷ []) ∷ (1 ∷ 0 ∷ []) ∷ [];
      } ∷
      record {
        events = tried 3 1 0 1 0 0 ReadOnly ∷ [];
        reads = item 0 0 (Some (5 ∷ [])) ∷ [];
        locks = [];
        writes = [];
        snaps = (0 ∷ 0 ∷ []) ∷ [];
      } ∷
      [];
  audit = row 0 0 (Some (7 ∷ [])) false ∷ [];
}
unfolding of_scan_finds_cell stint_workers picked after_workers until_ended settle copies load_from
scan_finds_cell = refl

unfoldable of_scan_is_too_old : Scenario
of_scan_is_too_old = record {
  shape = shape Narrow 2 (table 1 1 1 ∷ []) 1 1 0;
  rows = loaded 0 0 (5 ∷ []) ∷ [];
  policy = record { tries = 1; tidy = true };
  txns = txn 1 (Add 0 0 1 true 1 ∷ []) ∷ txn 1 (Add 0 0 1 true 1 ∷ []) ∷ txn 2 (Scan 0 0 9 ∷ []) ∷ [];
  schedule = Stints (stint 2 4 ∷ stint 1 200 ∷ []);
}

-- a scan that ends by the horizon lists no read
scan_is_too_old : shown of_scan_is_too_old [] ≡ record {
  logs =
      record {
        events = tried 1 1 0 1 1 1 (Commit 1) ∷ move 0 0 0 0 0 move_done ∷ tried 2 1 1 1 1 1
            (Commit 2) ∷ NoRoom 0 ∷ Collected 0 2 (2 ∷ 0 ∷
            []) false ∷ move 0 0 0 1 1 move_done ∷ [];
        reads = item 0 0 (Some (5 ∷ [])) ∷ item 0 0 (Some (6 ∷ [])) ∷ [];
        locks = lock 0 0 0 0 ∷ lock 0 0 1 1 ∷ [];
        writes = item 0 0 (Some (6 ∷ [])) ∷ item 0 0 (Some (7 ∷ [])) ∷ [];
        snaps = (0 ∷ 0 ∷ []) ∷ (1 ∷ 0 ∷ []) ∷ (2 ∷ 0 ∷ []) ∷ [];
      } ∷
      record {
        events = tried 3 1 0 0 0 0 (TooOld 1 0 2) ∷ [];
        reads = [];
        locks = [];
        writes = [];
        snaps = (0 ∷ 0 ∷ []) ∷ [];
      } ∷
      [];
  audit = row 0 0 (Some (7 ∷ [])) false ∷ [];
}
unfolding of_scan_is_too_old stint_workers picked after_workers until_ended settle copies load_from
scan_is_too_old = refl
