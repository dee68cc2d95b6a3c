-- Simulated runs that an implementation of its own gave, each with an end that comes rarely.
use Rattle.std.proofs.Common.{◌≡◌, ℕ, true, false, List, [], ◌∷◌, Some, refl}
use Rattle.si_model.specs.declared.op.Op.TheVariants.{Get, Put, Add, Need, Guard, Scan}
use Rattle.si_model.specs.declared.log.Outcome.TheVariants.{Commit, Declined, Again, Newer, TooOld, Full, Cut}
use Rattle.si_model.specs.declared.log.Event.TheVariants.{NoRoom, Collected, TailCut}
use Rattle.nam_line.specs.Plan.{Line, plan_of, new_line}
use Rattle.nam_catalog.specs.declared.form.Form.TheVariants.{Narrow}
use Rattle.nam_protocol.specs.Schedule.{Scenario, Stints, stint_workers, picked, after_workers, until_ended}
use Rattle.nam_protocol.specs.Session.{settle}
use Rattle.nam_protocol.specs.Opening.{copies, load_from}
use Rattle.nam_protocol.proofs.Shown.{shape, table, loaded, txn, stint, fuse, item, row, lock, tried, unbegun}
use Rattle.nam_protocol.proofs.Shown.{move, move_done, move_cut, shown}

-- a line that refuses these verbs alone
abbrev listed : List ℕ → Line
listed numbers = new_line (plan_of numbers)

unfoldable of_no_room_again : Scenario
of_no_room_again = record {
  shape = shape Narrow 2 (table 1 2 1 ∷ []) 1 1 0;
  rows = loaded 0 0 (5 ∷ []) ∷ loaded 0 1 (6 ∷ []) ∷ [];
  policy = record { tries = 3; tidy = true };
  txns = txn 1 (Add 0 1 1 true 1 ∷ []) ∷ txn 2 (Add 0 1 1 true 1 ∷ []) ∷ txn 2 (Add 0 1 1 true 1 ∷ []) ∷ [];
  schedule = Stints (stint 2 30 ∷ stint 1 3 ∷ stint 1 21 ∷ stint 2 49 ∷ []);
}

-- a bucket that was collected for a key has no room again, and the key is left as it is; a collect lists its snapshot
no_room_again : shown of_no_room_again [] ≡ record {
  logs =
      record {
        events = tried 1 1 1 1 1 0 (Full (lock 0 1 0 0)) ∷ NoRoom 0 ∷ Collected 0 1 (0 ∷ 1 ∷ []) false ∷ NoRoom 0 ∷
            tried 1 2 2 1 1 1 (Commit 1) ∷ NoRoom 0 ∷ Collected 0 3 (1 ∷ 2 ∷ []) false ∷ move 0 0 1 2 2 move_done ∷ [];
        reads = item 0 1 (Some (7 ∷ [])) ∷ item 0 1 (Some (8 ∷ [])) ∷ [];
        locks = lock 0 1 2 1 ∷ lock 0 1 2 2 ∷ [];
        writes = item 0 1 (Some (9 ∷ [])) ∷ [];
        snaps = (0 ∷ 1 ∷ []) ∷ (0 ∷ 1 ∷ []) ∷ (0 ∷ 2 ∷ []) ∷ (1 ∷ 2 ∷ []) ∷ [];
      } ∷
      record {
        events = tried 2 1 0 1 1 1 (Commit 1) ∷ move 0 0 1 0 0 move_done ∷ tried 3 1 1 1 1 1 (Commit 2) ∷ NoRoom 0 ∷
            Collected 0 2 (0 ∷ 2 ∷ []) false ∷ move 0 0 1 2 1 move_done ∷ [];
        reads = item 0 1 (Some (6 ∷ [])) ∷ item 0 1 (Some (7 ∷ [])) ∷ [];
        locks = lock 0 1 0 0 ∷ lock 0 1 2 1 ∷ [];
        writes = item 0 1 (Some (7 ∷ [])) ∷ item 0 1 (Some (8 ∷ [])) ∷ [];
        snaps = (0 ∷ 0 ∷ []) ∷ (0 ∷ 1 ∷ []) ∷ (0 ∷ 2 ∷ []) ∷ [];
      } ∷
      [];
  audit = row 0 0 (Some (5 ∷ [])) false ∷ row 0 1 (Some (9 ∷ [])) false ∷ [];
}
unfolding of_no_room_again stint_workers picked after_workers until_ended settle copies load_from
no_room_again = refl

unfoldable of_scan_ends_too_old : Scenario
of_scan_ends_too_old = record {
  shape = shape Narrow 2 (table 1 2 1 ∷ []) 1 1 0;
  rows = loaded 0 0 (5 ∷ []) ∷ loaded 0 1 (6 ∷ []) ∷ [];
  policy = record { tries = 1; tidy = true };
  txns = txn 1 (Add 0 1 1 true 1 ∷ []) ∷ txn 1 (Add 0 1 1 true 1 ∷ []) ∷ txn 2 (Scan 0 0 1 ∷ []) ∷ [];
  schedule = Stints (stint 2 4 ∷ stint 1 200 ∷ []);
}

-- a scan ends by the horizon, and its one try is used up
scan_ends_too_old : shown of_scan_ends_too_old [] ≡ record {
  logs =
      record {
        events = tried 1 1 0 1 1 1 (Commit 1) ∷ move 0 0 1 0 0 move_done ∷ tried 2 1 1 1 1 1 (Commit 2) ∷ NoRoom 0 ∷
            Collected 0 2 (2 ∷ 0 ∷ []) false ∷ move 0 0 1 1 1 move_done ∷ [];
        reads = item 0 1 (Some (6 ∷ [])) ∷ item 0 1 (Some (7 ∷ [])) ∷ [];
        locks = lock 0 1 0 0 ∷ lock 0 1 1 1 ∷ [];
        writes = item 0 1 (Some (7 ∷ [])) ∷ item 0 1 (Some (8 ∷ [])) ∷ [];
        snaps = (0 ∷ 0 ∷ []) ∷ (1 ∷ 0 ∷ []) ∷ (2 ∷ 0 ∷ []) ∷ [];
      } ∷
      record {
        events = tried 3 1 0 0 0 0 (TooOld 1 0 2) ∷ [];
        reads = [];
        locks = [];
        writes = [];
        snaps = (0 ∷ 0 ∷ []) ∷ [];
      } ∷
      [];
  audit = row 0 0 (Some (5 ∷ [])) false ∷ row 0 1 (Some (8 ∷ [])) false ∷ [];
}
unfolding of_scan_ends_too_old stint_workers picked after_workers until_ended settle copies load_from
scan_ends_too_old = refl

unfoldable of_listed_refusal : Scenario
of_listed_refusal = record {
  shape = shape Narrow 1 (table 1 1 1 ∷ []) 1 1 0;
  rows = loaded 0 0 (7 ∷ []) ∷ [];
  policy = record { tries = 1; tidy = false };
  txns = txn 1 (Get 0 0 ∷ []) ∷ [];
  schedule = Stints ([]);
}

-- one refused verb is enough, though the line would pass the next
listed_refusal : shown of_listed_refusal (listed (4 ∷ []) ∷ []) ≡ record {
  logs =
      record {
        events = tried 1 1 0 0 0 0 Cut ∷ [];
        reads = [];
        locks = [];
        writes = [];
        snaps = (0 ∷ []) ∷ [];
      } ∷
      [];
  audit = row 0 0 (Some (7 ∷ [])) false ∷ [];
}
unfolding of_listed_refusal stint_workers picked after_workers until_ended settle copies load_from
listed_refusal = refl

unfoldable of_collect_above_start : Scenario
of_collect_above_start = record {
  shape = shape Narrow 3 (table 1 1 1 ∷ []) 1 1 100;
  rows = loaded 0 0 (5 ∷ []) ∷ [];
  policy = record { tries = 3; tidy = true };
  txns = txn 2 (Add 0 0 1 true 1 ∷ []) ∷ txn 3 (Add 0 0 1 true 1 ∷ []) ∷ txn 2 (Add 0 0 1 true 1 ∷ []) ∷
      txn 1 (Add 0 0 1 true 1 ∷ []) ∷ [];
  schedule = Stints (stint 2 4 ∷ stint 2 19 ∷ stint 1 5 ∷ stint 3 2 ∷ stint 1 44 ∷ []);
}

-- above start: a prefix counts the commits, while numbers and snapshots stand above it
collect_above_start : shown of_collect_above_start [] ≡ record {
  logs =
      record {
        events = tried 4 1 0 1 0 0 (Newer (lock 0 0 2 101)) ∷ tried 4 2 0 1 0 0 (Newer (lock 0 0 2 101)) ∷
            tried 4 3 0 1 0 0 (Newer (lock 0 0 2 101)) ∷ [];
        reads = item 0 0 (Some (5 ∷ [])) ∷ item 0 0 (Some (5 ∷ [])) ∷ item 0 0 (Some (5 ∷ [])) ∷ [];
        locks = [];
        writes = [];
        snaps = (100 ∷ 100 ∷ 100 ∷ []) ∷ (100 ∷ 100 ∷ 100 ∷ []) ∷ (100 ∷ 100 ∷ 100 ∷ []) ∷ [];
      } ∷
      record {
        events = tried 1 1 0 1 1 1 (Commit 101) ∷ move 0 0 0 0 0 move_done ∷
            tried 3 1 1 1 0 0 (Newer (lock 0 0 3 101)) ∷ tried 3 2 2 1 1 0 (Full (lock 0 0 2 101)) ∷ NoRoom 0 ∷
            Collected 0 2 (100 ∷ 101 ∷ 101 ∷ []) false ∷ tried 3 3 2 1 1 1 (Commit 102) ∷ move 0 0 0 3 101 move_done ∷
            [];
        reads = item 0 0 (Some (5 ∷ [])) ∷ item 0 0 (Some (6 ∷ [])) ∷ item 0 0 (Some (7 ∷ [])) ∷
            item 0 0 (Some (7 ∷ [])) ∷ [];
        locks = lock 0 0 0 0 ∷ lock 0 0 3 101 ∷ lock 0 0 3 101 ∷ [];
        writes = item 0 0 (Some (6 ∷ [])) ∷ item 0 0 (Some (8 ∷ [])) ∷ [];
        snaps = (100 ∷ 100 ∷ 100 ∷ []) ∷ (100 ∷ 101 ∷ 100 ∷ []) ∷ (100 ∷ 101 ∷ 101 ∷ []) ∷ (100 ∷ 101 ∷ 101 ∷ []) ∷
            (100 ∷ 101 ∷ 101 ∷ []) ∷ [];
      } ∷
      record {
        events = unbegun 2 1 (Again 2 100 101) ∷ tried 2 2 1 1 1 1 (Commit 101) ∷ NoRoom 0 ∷
            Collected 0 2 (100 ∷ 101 ∷ 101 ∷ []) false ∷ move 0 0 0 2 101 move_done ∷ [];
        reads = item 0 0 (Some (6 ∷ [])) ∷ [];
        locks = lock 0 0 2 101 ∷ [];
        writes = item 0 0 (Some (7 ∷ [])) ∷ [];
        snaps = (100 ∷ 101 ∷ 100 ∷ []) ∷ (100 ∷ 101 ∷ 101 ∷ []) ∷ [];
      } ∷
      [];
  audit = row 0 0 (Some (8 ∷ [])) false ∷ [];
}
unfolding of_collect_above_start stint_workers picked after_workers until_ended settle copies load_from
collect_above_start = refl

unfoldable of_tail_cut_above_start : Scenario
of_tail_cut_above_start = record {
  shape = shape Narrow 1 (table 1 2 1 ∷ []) 1 1 5;
  rows = loaded 0 0 (5 ∷ []) ∷ loaded 0 1 (6 ∷ []) ∷ [];
  policy = record { tries = 1; tidy = false };
  txns = txn 1 (Guard 0 0 ∷ Put 0 1 (9 ∷ []) ∷ []) ∷ [];
  schedule = Stints ([]);
}

-- the commit is published, and the guard's lock stands
tail_cut_above_start : shown of_tail_cut_above_start (fuse 24 ∷ []) ≡ record {
  logs =
      record {
        events = tried 1 1 0 1 2 1 (Commit 6) ∷ TailCut ∷ [];
        reads = item 0 0 (Some (5 ∷ [])) ∷ [];
        locks = lock 0 1 0 0 ∷ lock 0 0 0 0 ∷ [];
        writes = item 0 1 (Some (9 ∷ [])) ∷ [];
        snaps = (5 ∷ []) ∷ [];
      } ∷
      [];
  audit = row 0 0 (Some (5 ∷ [])) true ∷ row 0 1 (Some (9 ∷ [])) false ∷ [];
}
unfolding of_tail_cut_above_start stint_workers picked after_workers until_ended settle copies load_from
tail_cut_above_start = refl

unfoldable of_cut_move_in_second_bucket : Scenario
of_cut_move_in_second_bucket = record {
  shape = shape Narrow 1 (table 1 2 1 ∷ []) 2 1 0;
  rows = loaded 0 0 (5 ∷ []) ∷ loaded 0 1 (6 ∷ []) ∷ [];
  policy = record { tries = 1; tidy = true };
  txns = txn 1 (Put 0 1 (9 ∷ []) ∷ []) ∷ [];
  schedule = Stints ([]);
}

-- a version of a position of the second bucket has claimed its cell
cut_move_in_second_bucket : shown of_cut_move_in_second_bucket (fuse 23 ∷ []) ≡ record {
  logs =
      record {
        events = tried 1 1 0 0 1 1 (Commit 1) ∷ move 1 0 1 0 0 move_cut ∷ [];
        reads = [];
        locks = lock 0 1 0 0 ∷ [];
        writes = item 0 1 (Some (9 ∷ [])) ∷ [];
        snaps = (0 ∷ []) ∷ [];
      } ∷
      [];
  audit = row 0 0 (Some (5 ∷ [])) false ∷ row 0 1 (Some (9 ∷ [])) false ∷ [];
}
unfolding of_cut_move_in_second_bucket stint_workers picked after_workers until_ended settle copies load_from
cut_move_in_second_bucket = refl

unfoldable of_declined_behind_scans : Scenario
of_declined_behind_scans = record {
  shape = shape Narrow 1 (table 1 2 1 ∷ []) 1 1 0;
  rows = loaded 0 0 (5 ∷ []) ∷ loaded 0 1 (6 ∷ []) ∷ [];
  policy = record { tries = 1; tidy = false };
  txns = txn 1 (Scan 0 0 9 ∷ Scan 0 0 9 ∷ Need 0 0 1 999 ∷ []) ∷ [];
  schedule = Stints ([]);
}

-- a scan counts as one operation
declined_behind_scans : shown of_declined_behind_scans [] ≡ record {
  logs =
      record {
        events = tried 1 1 0 5 0 0 (Declined 3) ∷ [];
        reads = item 0 0 (Some (5 ∷ [])) ∷ item 0 1 (Some (6 ∷ [])) ∷ item 0 0 (Some (5 ∷ [])) ∷
            item 0 1 (Some (6 ∷ [])) ∷ item 0 0 (Some (5 ∷ [])) ∷ [];
        locks = [];
        writes = [];
        snaps = (0 ∷ []) ∷ [];
      } ∷
      [];
  audit = row 0 0 (Some (5 ∷ [])) false ∷ row 0 1 (Some (6 ∷ [])) false ∷ [];
}
unfolding of_declined_behind_scans stint_workers picked after_workers until_ended settle copies load_from
declined_behind_scans = refl
