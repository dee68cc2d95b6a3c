-- Rare ends of the retry policy, and workers that are cut beside their transactions, simulated.
use Rattle.std.proofs.Common.{◌≡◌, true, false, [], ◌∷◌, Some, refl}
use Rattle.si_model.specs.declared.op.Op.TheVariants.{Get, Put, Add, Scan}
use Rattle.si_model.specs.declared.log.Outcome.TheVariants.{Commit, ReadOnly, Again, TooOld, Full, Cut}
use Rattle.si_model.specs.declared.log.Event.TheVariants.{NoRoom, Collected, CollectAgain, CollectCut, TidyCut}
use Rattle.nam_catalog.specs.declared.form.Form.TheVariants.{Narrow}
use Rattle.nam_protocol.specs.Schedule.{Scenario, Stints, stint_workers, picked, after_workers, until_ended}
use Rattle.nam_protocol.specs.Session.{settle}
use Rattle.nam_protocol.specs.Opening.{copies, load_from}
use Rattle.nam_protocol.proofs.Shown.{shape, table, loaded, txn, stint, fuse, item, row, lock, tried, unbegun, move}
use Rattle.nam_protocol.proofs.Shown.{move_done, move_cut, shown}

unfoldable of_tries_are_used_up_by_again : Scenario
of_tries_are_used_up_by_again = record {
  shape = shape Narrow 2 (table 1 1 2 ∷ []) 1 1 0;
  rows = loaded 0 0 (100 ∷ []) ∷ [];
  policy = record { tries = 2; tidy = false };
  txns = txn 1 (Add 0 0 1 true 1 ∷ []) ∷ txn 1 (Add 0 0 1 true 1 ∷ []) ∷ txn 2 (Put 0 0 (9 ∷ []) ∷ []) ∷
      txn 2 (Get 0 0 ∷ []) ∷ [];
  schedule = Stints (stint 2 1 ∷ stint 1 22 ∷ stint 2 3 ∷ stint 1 22 ∷ stint 2 2 ∷ []);
}

-- each snapshot of the put meets a commit; what follows is the next transaction's first try
tries_are_used_up_by_again : shown of_tries_are_used_up_by_again [] ≡ record {
  logs =
      record {
        events = tried 1 1 0 1 1 1 (Commit 1) ∷ tried 2 1 1 1 1 1 (Commit 2) ∷ [];
        reads = item 0 0 (Some (100 ∷ [])) ∷ item 0 0 (Some (101 ∷ [])) ∷ [];
        locks = lock 0 0 0 0 ∷ lock 0 0 1 1 ∷ [];
        writes = item 0 0 (Some (101 ∷ [])) ∷ item 0 0 (Some (102 ∷ [])) ∷ [];
        snaps = (0 ∷ 0 ∷ []) ∷ (1 ∷ 0 ∷ []) ∷ [];
      } ∷
      record {
        events = unbegun 3 1 (Again 1 0 1) ∷ unbegun 3 2 (Again 1 1 2) ∷ tried 4 1 2 1 0 0 ReadOnly ∷ [];
        reads = item 0 0 (Some (102 ∷ [])) ∷ [];
        locks = [];
        writes = [];
        snaps = (2 ∷ 0 ∷ []) ∷ [];
      } ∷
      [];
  audit = row 0 0 (Some (102 ∷ [])) false ∷ [];
}
unfolding of_tries_are_used_up_by_again stint_workers picked after_workers until_ended settle copies load_from
tries_are_used_up_by_again = refl

unfoldable of_tries_are_used_up_by_old : Scenario
of_tries_are_used_up_by_old = record {
  shape = shape Narrow 2 (table 1 1 1 ∷ []) 1 1 0;
  rows = loaded 0 0 (5 ∷ []) ∷ [];
  policy = record { tries = 2; tidy = true };
  txns = txn 1 (Add 0 0 1 true 1 ∷ []) ∷ txn 1 (Add 0 0 1 true 1 ∷ []) ∷ txn 1 (Add 0 0 1 true 1 ∷ []) ∷
      txn 1 (Add 0 0 1 true 1 ∷ []) ∷ txn 2 (Get 0 0 ∷ []) ∷ txn 2 (Get 0 0 ∷ []) ∷ [];
  schedule = Stints (stint 2 4 ∷ stint 1 87 ∷ stint 2 11 ∷ stint 1 110 ∷ []);
}

-- two commits and two collections beside each try of the get
tries_are_used_up_by_old : shown of_tries_are_used_up_by_old [] ≡ record {
  logs =
      record {
        events = tried 1 1 0 1 1 1 (Commit 1) ∷ move 0 0 0 0 0 move_done ∷ tried 2 1 1 1 1 1 (Commit 2) ∷ NoRoom 0 ∷
            Collected 0 2 (2 ∷ 0 ∷ []) false ∷ move 0 0 0 1 1 move_done ∷ tried 3 1 2 1 1 1 (Commit 3) ∷ NoRoom 0 ∷
            Collected 0 3 (3 ∷ 0 ∷ []) false ∷ move 0 0 0 1 2 move_done ∷ tried 4 1 3 1 1 1 (Commit 4) ∷ NoRoom 0 ∷
            Collected 0 4 (4 ∷ 0 ∷ []) false ∷ move 0 0 0 1 3 move_done ∷ [];
        reads = item 0 0 (Some (5 ∷ [])) ∷ item 0 0 (Some (6 ∷ [])) ∷ item 0 0 (Some (7 ∷ [])) ∷
            item 0 0 (Some (8 ∷ [])) ∷ [];
        locks = lock 0 0 0 0 ∷ lock 0 0 1 1 ∷ lock 0 0 1 2 ∷ lock 0 0 1 3 ∷ [];
        writes = item 0 0 (Some (6 ∷ [])) ∷ item 0 0 (Some (7 ∷ [])) ∷ item 0 0 (Some (8 ∷ [])) ∷
            item 0 0 (Some (9 ∷ [])) ∷ [];
        snaps = (0 ∷ 0 ∷ []) ∷ (1 ∷ 0 ∷ []) ∷ (2 ∷ 0 ∷ []) ∷ (2 ∷ 0 ∷ []) ∷ (3 ∷ 0 ∷ []) ∷ (3 ∷ 0 ∷ []) ∷ (4 ∷ 0 ∷ []) ∷
            [];
      } ∷
      record {
        events = tried 5 1 0 0 0 0 (TooOld 1 0 2) ∷ tried 5 2 2 0 0 0 (TooOld 1 2 4) ∷ tried 6 1 4 1 0 0 ReadOnly ∷ [];
        reads = item 0 0 (Some (9 ∷ [])) ∷ [];
        locks = [];
        writes = [];
        snaps = (0 ∷ 0 ∷ []) ∷ (2 ∷ 0 ∷ []) ∷ (4 ∷ 0 ∷ []) ∷ [];
      } ∷
      [];
  audit = row 0 0 (Some (9 ∷ [])) false ∷ [];
}
unfolding of_tries_are_used_up_by_old stint_workers picked after_workers until_ended settle copies load_from
tries_are_used_up_by_old = refl

unfoldable of_last_try_is_full : Scenario
of_last_try_is_full = record {
  shape = shape Narrow 2 (table 1 1 1 ∷ []) 1 1 0;
  rows = loaded 0 0 (5 ∷ []) ∷ [];
  policy = record { tries = 1; tidy = true };
  txns = txn 2 (Add 0 0 1 true 1 ∷ []) ∷ txn 1 (Add 0 0 1 true 1 ∷ []) ∷ [];
  schedule = Stints (stint 2 22 ∷ stint 1 14 ∷ []);
}

-- no try follows, so the full key is not tidied for one
last_try_is_full : shown of_last_try_is_full [] ≡ record {
  logs =
      record {
        events = tried 2 1 1 1 1 0 (Full (lock 0 0 0 0)) ∷ [];
        reads = item 0 0 (Some (6 ∷ [])) ∷ [];
        locks = lock 0 0 2 1 ∷ [];
        writes = [];
        snaps = (0 ∷ 1 ∷ []) ∷ [];
      } ∷
      record {
        events = tried 1 1 0 1 1 1 (Commit 1) ∷ move 0 0 0 0 0 move_done ∷ [];
        reads = item 0 0 (Some (5 ∷ [])) ∷ [];
        locks = lock 0 0 0 0 ∷ [];
        writes = item 0 0 (Some (6 ∷ [])) ∷ [];
        snaps = (0 ∷ 0 ∷ []) ∷ [];
      } ∷
      [];
  audit = row 0 0 (Some (6 ∷ [])) false ∷ [];
}
unfolding of_last_try_is_full stint_workers picked after_workers until_ended settle copies load_from
last_try_is_full = refl

unfoldable of_nothing_to_tidy : Scenario
of_nothing_to_tidy = record {
  shape = shape Narrow 1 (table 1 1 2 ∷ []) 1 4 0;
  rows = loaded 0 0 (5 ∷ []) ∷ [];
  policy = record { tries = 1; tidy = true };
  txns = txn 1 (Add 0 0 1 true 1 ∷ []) ∷ txn 1 (Add 0 0 1 true 1 ∷ []) ∷ txn 1 (Add 0 0 1 true 1 ∷ []) ∷ [];
  schedule = Stints ([]);
}

-- the slot that the next version needs has no version after the first commit, and the older one after each other
nothing_to_tidy : shown of_nothing_to_tidy [] ≡ record {
  logs =
      record {
        events = tried 1 1 0 1 1 1 (Commit 1) ∷ tried 2 1 1 1 1 1 (Commit 2) ∷ move 0 0 0 0 0 move_done ∷
            tried 3 1 2 1 1 1 (Commit 3) ∷ move 0 0 0 1 1 move_done ∷ [];
        reads = item 0 0 (Some (5 ∷ [])) ∷ item 0 0 (Some (6 ∷ [])) ∷ item 0 0 (Some (7 ∷ [])) ∷ [];
        locks = lock 0 0 0 0 ∷ lock 0 0 1 1 ∷ lock 0 0 1 2 ∷ [];
        writes = item 0 0 (Some (6 ∷ [])) ∷ item 0 0 (Some (7 ∷ [])) ∷ item 0 0 (Some (8 ∷ [])) ∷ [];
        snaps = (0 ∷ []) ∷ (1 ∷ []) ∷ (2 ∷ []) ∷ [];
      } ∷
      [];
  audit = row 0 0 (Some (8 ∷ [])) false ∷ [];
}
unfolding of_nothing_to_tidy stint_workers picked after_workers until_ended settle copies load_from
nothing_to_tidy = refl

unfoldable of_collect_meets_commit : Scenario
of_collect_meets_commit = record {
  shape = shape Narrow 2 (table 1 2 1 ∷ []) 1 1 0;
  rows = loaded 0 0 (5 ∷ []) ∷ loaded 0 1 (8 ∷ []) ∷ [];
  policy = record { tries = 1; tidy = true };
  txns = txn 1 (Add 0 0 1 true 1 ∷ []) ∷ txn 1 (Add 0 0 1 true 1 ∷ []) ∷ txn 2 (Put 0 1 (9 ∷ []) ∷ []) ∷ [];
  schedule = Stints (stint 2 17 ∷ stint 1 65 ∷ stint 2 1 ∷ stint 1 7 ∷ []);
}

-- a collection whose snapshot meets a commit is not made again for the key, and the bucket has still no room
collect_meets_commit : shown of_collect_meets_commit [] ≡ record {
  logs =
      record {
        events = tried 1 1 0 1 1 1 (Commit 1) ∷ move 0 0 0 0 0 move_done ∷ tried 2 1 1 1 1 1 (Commit 2) ∷ NoRoom 0 ∷
            CollectAgain 0 2 0 1 ∷ NoRoom 0 ∷ [];
        reads = item 0 0 (Some (5 ∷ [])) ∷ item 0 0 (Some (6 ∷ [])) ∷ [];
        locks = lock 0 0 0 0 ∷ lock 0 0 1 1 ∷ [];
        writes = item 0 0 (Some (6 ∷ [])) ∷ item 0 0 (Some (7 ∷ [])) ∷ [];
        snaps = (0 ∷ 0 ∷ []) ∷ (1 ∷ 0 ∷ []) ∷ [];
      } ∷
      record {
        events = tried 3 1 0 0 1 1 (Commit 1) ∷ NoRoom 0 ∷ Collected 0 3 (2 ∷ 1 ∷ []) false ∷ move 0 0 1 0 0 move_done ∷
            [];
        reads = [];
        locks = lock 0 1 0 0 ∷ [];
        writes = item 0 1 (Some (9 ∷ [])) ∷ [];
        snaps = (0 ∷ 0 ∷ []) ∷ (2 ∷ 1 ∷ []) ∷ [];
      } ∷
      [];
  audit = row 0 0 (Some (7 ∷ [])) false ∷ row 0 1 (Some (9 ∷ [])) false ∷ [];
}
unfolding of_collect_meets_commit stint_workers picked after_workers until_ended settle copies load_from
collect_meets_commit = refl

unfoldable of_no_room_in_second_bucket : Scenario
of_no_room_in_second_bucket = record {
  shape = shape Narrow 1 (table 1 1 1 ∷ table 1 1 1 ∷ []) 2 1 0;
  rows = loaded 0 0 (4 ∷ []) ∷ loaded 1 0 (5 ∷ []) ∷ [];
  policy = record { tries = 1; tidy = true };
  txns = txn 1 (Add 1 0 1 true 1 ∷ []) ∷ txn 1 (Add 1 0 1 true 1 ∷ []) ∷ [];
  schedule = Stints ([]);
}

-- the bucket that has no room is the one that is collected, for a key of the second table
no_room_in_second_bucket : shown of_no_room_in_second_bucket [] ≡ record {
  logs =
      record {
        events = tried 1 1 0 1 1 1 (Commit 1) ∷ move 1 1 0 0 0 move_done ∷ tried 2 1 1 1 1 1 (Commit 2) ∷ NoRoom 1 ∷
            Collected 1 2 (2 ∷ []) false ∷ move 1 1 0 1 1 move_done ∷ [];
        reads = item 1 0 (Some (5 ∷ [])) ∷ item 1 0 (Some (6 ∷ [])) ∷ [];
        locks = lock 1 0 0 0 ∷ lock 1 0 1 1 ∷ [];
        writes = item 1 0 (Some (6 ∷ [])) ∷ item 1 0 (Some (7 ∷ [])) ∷ [];
        snaps = (0 ∷ []) ∷ (1 ∷ []) ∷ (2 ∷ []) ∷ [];
      } ∷
      [];
  audit = row 0 0 (Some (4 ∷ [])) false ∷ row 1 0 (Some (7 ∷ [])) false ∷ [];
}
unfolding of_no_room_in_second_bucket stint_workers picked after_workers until_ended settle copies load_from
no_room_in_second_bucket = refl

unfoldable of_two_tidied_adds : Scenario
of_two_tidied_adds = record {
  shape = shape Narrow 1 (table 1 1 1 ∷ []) 1 1 0;
  rows = loaded 0 0 (5 ∷ []) ∷ [];
  policy = record { tries = 1; tidy = true };
  txns = txn 1 (Add 0 0 1 true 1 ∷ []) ∷ txn 1 (Add 0 0 1 true 1 ∷ []) ∷ [];
  schedule = Stints ([]);
}

-- the second pass of a collection's snapshot is refused
cut_in_snapshot_of_collect : shown of_two_tidied_adds (fuse 61 ∷ []) ≡ record {
  logs =
      record {
        events = tried 1 1 0 1 1 1 (Commit 1) ∷ move 0 0 0 0 0 move_done ∷ tried 2 1 1 1 1 1 (Commit 2) ∷ NoRoom 0 ∷
            CollectCut 0 ∷ [];
        reads = item 0 0 (Some (5 ∷ [])) ∷ item 0 0 (Some (6 ∷ [])) ∷ [];
        locks = lock 0 0 0 0 ∷ lock 0 0 1 1 ∷ [];
        writes = item 0 0 (Some (6 ∷ [])) ∷ item 0 0 (Some (7 ∷ [])) ∷ [];
        snaps = (0 ∷ []) ∷ (1 ∷ []) ∷ [];
      } ∷
      [];
  audit = row 0 0 (Some (7 ∷ [])) false ∷ [];
}
unfolding of_two_tidied_adds stint_workers picked after_workers until_ended settle copies load_from
cut_in_snapshot_of_collect = refl

-- a collection that has its snapshot lists it
cut_at_horizon : shown of_two_tidied_adds (fuse 62 ∷ []) ≡ record {
  logs =
      record {
        events = tried 1 1 0 1 1 1 (Commit 1) ∷ move 0 0 0 0 0 move_done ∷ tried 2 1 1 1 1 1 (Commit 2) ∷ NoRoom 0 ∷
            Collected 0 2 (2 ∷ []) true ∷ [];
        reads = item 0 0 (Some (5 ∷ [])) ∷ item 0 0 (Some (6 ∷ [])) ∷ [];
        locks = lock 0 0 0 0 ∷ lock 0 0 1 1 ∷ [];
        writes = item 0 0 (Some (6 ∷ [])) ∷ item 0 0 (Some (7 ∷ [])) ∷ [];
        snaps = (0 ∷ []) ∷ (1 ∷ []) ∷ (2 ∷ []) ∷ [];
      } ∷
      [];
  audit = row 0 0 (Some (7 ∷ [])) false ∷ [];
}
unfolding of_two_tidied_adds stint_workers picked after_workers until_ended settle copies load_from
cut_at_horizon = refl

-- its last verb, which would free the cell
cut_at_last_cell : shown of_two_tidied_adds (fuse 66 ∷ []) ≡ record {
  logs =
      record {
        events = tried 1 1 0 1 1 1 (Commit 1) ∷ move 0 0 0 0 0 move_done ∷ tried 2 1 1 1 1 1 (Commit 2) ∷ NoRoom 0 ∷
            Collected 0 2 (2 ∷ []) true ∷ [];
        reads = item 0 0 (Some (5 ∷ [])) ∷ item 0 0 (Some (6 ∷ [])) ∷ [];
        locks = lock 0 0 0 0 ∷ lock 0 0 1 1 ∷ [];
        writes = item 0 0 (Some (6 ∷ [])) ∷ item 0 0 (Some (7 ∷ [])) ∷ [];
        snaps = (0 ∷ []) ∷ (1 ∷ []) ∷ (2 ∷ []) ∷ [];
      } ∷
      [];
  audit = row 0 0 (Some (7 ∷ [])) false ∷ [];
}
unfolding of_two_tidied_adds stint_workers picked after_workers until_ended settle copies load_from
cut_at_last_cell = refl

-- the search of the key, after the collection
cut_in_tidying_after_collect : shown of_two_tidied_adds (fuse 67 ∷ []) ≡ record {
  logs =
      record {
        events = tried 1 1 0 1 1 1 (Commit 1) ∷ move 0 0 0 0 0 move_done ∷ tried 2 1 1 1 1 1 (Commit 2) ∷ NoRoom 0 ∷
            Collected 0 2 (2 ∷ []) false ∷ TidyCut 0 0 ∷ [];
        reads = item 0 0 (Some (5 ∷ [])) ∷ item 0 0 (Some (6 ∷ [])) ∷ [];
        locks = lock 0 0 0 0 ∷ lock 0 0 1 1 ∷ [];
        writes = item 0 0 (Some (6 ∷ [])) ∷ item 0 0 (Some (7 ∷ [])) ∷ [];
        snaps = (0 ∷ []) ∷ (1 ∷ []) ∷ (2 ∷ []) ∷ [];
      } ∷
      [];
  audit = row 0 0 (Some (7 ∷ [])) false ∷ [];
}
unfolding of_two_tidied_adds stint_workers picked after_workers until_ended settle copies load_from
cut_in_tidying_after_collect = refl

-- no cell was claimed yet
cut_at_claim_of_cell : shown of_two_tidied_adds (fuse 72 ∷ []) ≡ record {
  logs =
      record {
        events = tried 1 1 0 1 1 1 (Commit 1) ∷ move 0 0 0 0 0 move_done ∷ tried 2 1 1 1 1 1 (Commit 2) ∷ NoRoom 0 ∷
            Collected 0 2 (2 ∷ []) false ∷ TidyCut 0 0 ∷ [];
        reads = item 0 0 (Some (5 ∷ [])) ∷ item 0 0 (Some (6 ∷ [])) ∷ [];
        locks = lock 0 0 0 0 ∷ lock 0 0 1 1 ∷ [];
        writes = item 0 0 (Some (6 ∷ [])) ∷ item 0 0 (Some (7 ∷ [])) ∷ [];
        snaps = (0 ∷ []) ∷ (1 ∷ []) ∷ (2 ∷ []) ∷ [];
      } ∷
      [];
  audit = row 0 0 (Some (7 ∷ [])) false ∷ [];
}
unfolding of_two_tidied_adds stint_workers picked after_workers until_ended settle copies load_from
cut_at_claim_of_cell = refl

-- a cell was claimed for the version
cut_after_claim_of_cell : shown of_two_tidied_adds (fuse 73 ∷ []) ≡ record {
  logs =
      record {
        events = tried 1 1 0 1 1 1 (Commit 1) ∷ move 0 0 0 0 0 move_done ∷ tried 2 1 1 1 1 1 (Commit 2) ∷ NoRoom 0 ∷
            Collected 0 2 (2 ∷ []) false ∷ move 0 0 0 1 1 move_cut ∷ [];
        reads = item 0 0 (Some (5 ∷ [])) ∷ item 0 0 (Some (6 ∷ [])) ∷ [];
        locks = lock 0 0 0 0 ∷ lock 0 0 1 1 ∷ [];
        writes = item 0 0 (Some (6 ∷ [])) ∷ item 0 0 (Some (7 ∷ [])) ∷ [];
        snaps = (0 ∷ []) ∷ (1 ∷ []) ∷ (2 ∷ []) ∷ [];
      } ∷
      [];
  audit = row 0 0 (Some (7 ∷ [])) false ∷ [];
}
unfolding of_two_tidied_adds stint_workers picked after_workers until_ended settle copies load_from
cut_after_claim_of_cell = refl

unfoldable of_cut_in_scan : Scenario
of_cut_in_scan = record {
  shape = shape Narrow 1 (table 1 2 1 ∷ []) 1 1 0;
  rows = loaded 0 0 (5 ∷ []) ∷ loaded 0 1 (6 ∷ []) ∷ [];
  policy = record { tries = 2; tidy = false };
  txns = txn 1 (Get 0 0 ∷ Scan 0 0 9 ∷ []) ∷ txn 1 (Get 0 1 ∷ []) ∷ [];
  schedule = Stints ([]);
}

-- a scan that was cut lists none of its rows, and no call follows
cut_in_scan : shown of_cut_in_scan (fuse 11 ∷ []) ≡ record {
  logs =
      record {
        events = tried 1 1 0 1 0 0 Cut ∷ [];
        reads = item 0 0 (Some (5 ∷ [])) ∷ [];
        locks = [];
        writes = [];
        snaps = (0 ∷ []) ∷ [];
      } ∷
      [];
  audit = row 0 0 (Some (5 ∷ [])) false ∷ row 0 1 (Some (6 ∷ [])) false ∷ [];
}
unfolding of_cut_in_scan stint_workers picked after_workers until_ended settle copies load_from
cut_in_scan = refl
