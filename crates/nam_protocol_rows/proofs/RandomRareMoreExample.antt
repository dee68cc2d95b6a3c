-- More random scripts in which rare events come, of a simulator of its own.
use Rattle.std.proofs.Common.{◌≡◌, true, false, [], ◌∷◌, Some, None, refl}
use Rattle.nam_catalog.specs.declared.form.Form.TheVariants.{Narrow, Wide}
use Rattle.si_model.specs.declared.op.Op.TheVariants.{Get, Put, Add, Del, Need, Guard, Scan}
use Rattle.si_model.specs.declared.log.Outcome.TheVariants.{Commit, ReadOnly, Declined, NoSpace, Again, Locked, Newer}
use Rattle.si_model.specs.declared.log.Outcome.TheVariants.{Full}
use Rattle.si_model.specs.declared.log.Event.TheVariants.{NoRoom, Collected, CollectAgain, CollectCut, TailCut}
use Rattle.nam_protocol.specs.Schedule.{Scenario, Stints, Picks, stint_workers, picked, after_workers, until_ended}
use Rattle.nam_protocol.specs.Session.{settle}
use Rattle.nam_protocol.specs.Opening.{copies, load_from}
use Rattle.nam_protocol.proofs.Shown.{shape, table, loaded, txn, stint, up, fuse, item, row, lock, tried, unbegun, move}
use Rattle.nam_protocol.proofs.Shown.{move_done, move_back, move_cut, shown}

unfoldable of_more_rare_1 : Scenario
of_more_rare_1 = record {
  shape = shape Wide 2 (table 1 2 1 ∷ []) 1 1 0;
  rows = loaded 0 3 (5 ∷ []) ∷ loaded 0 1 (1 ∷ []) ∷ [];
  policy = record { tries = 1; tidy = true };
  txns = txn 2 (Add 0 1 1 true 0 ∷ []) ∷ txn 2 (Scan 0 0 5 ∷ []) ∷ [];
  schedule = Stints (stint 2 13 ∷ stint 2 3 ∷ stint 2 2 ∷ stint 1 2 ∷ stint 2 20 ∷ []);
}

more_rare_1 : shown of_more_rare_1 (up ∷ fuse 38 ∷ []) ≡ record {
  logs =
      record {
        events = [];
        reads = [];
        locks = [];
        writes = [];
        snaps = [];
      } ∷
      record {
        events = tried 1 1 0 1 1 1 (Commit 1) ∷ move 0 0 1 0 0 move_cut ∷ [];
        reads = item 0 1 (Some (1 ∷ [])) ∷ [];
        locks = lock 0 1 0 0 ∷ [];
        writes = item 0 1 (Some (1 ∷ [])) ∷ [];
        snaps = (0 ∷ 0 ∷ []) ∷ [];
      } ∷
      [];
  audit = row 0 1 (Some (1 ∷ [])) false ∷ row 0 3 (Some (5 ∷ [])) false ∷ [];
}
unfolding of_more_rare_1 stint_workers picked after_workers until_ended settle copies load_from
more_rare_1 = refl

unfoldable of_more_rare_2 : Scenario
of_more_rare_2 = record {
  shape = shape Narrow 3 (table 1 3 1 ∷ []) 1 1 0;
  rows = [];
  policy = record { tries = 1; tidy = true };
  txns = txn 3 (Scan 0 1 18446744073709551614 ∷ Scan 0 0 5 ∷ []) ∷
      txn 2 (Need 0 2 1 0 ∷ Scan 0 1 5 ∷ Guard 0 2 ∷ Guard 0 2 ∷ []) ∷ txn 1 (Put 0 2 (4 ∷ []) ∷ []) ∷
      txn 3 (Guard 0 2 ∷ Scan 0 0 3 ∷ Scan 0 0 5 ∷ []) ∷ [];
  schedule = Stints (stint 3 40 ∷ stint 1 8 ∷ stint 3 5 ∷ []);
}

more_rare_2 : shown of_more_rare_2 (fuse 28 ∷ up ∷ up ∷ []) ≡ record {
  logs =
      record {
        events = tried 3 1 0 0 1 1 (Commit 1) ∷ move 0 0 2 0 0 move_cut ∷ [];
        reads = [];
        locks = lock 0 2 0 0 ∷ [];
        writes = item 0 2 (Some (4 ∷ [])) ∷ [];
        snaps = (0 ∷ 0 ∷ 0 ∷ []) ∷ [];
      } ∷
      record {
        events = tried 2 1 0 3 0 0 ReadOnly ∷ [];
        reads = item 0 2 None ∷ item 0 2 None ∷ item 0 2 None ∷ [];
        locks = [];
        writes = [];
        snaps = (0 ∷ 0 ∷ 0 ∷ []) ∷ [];
      } ∷
      record {
        events = tried 1 1 0 0 0 0 ReadOnly ∷ tried 4 1 0 1 0 0 ReadOnly ∷ [];
        reads = item 0 2 None ∷ [];
        locks = [];
        writes = [];
        snaps = (0 ∷ 0 ∷ 0 ∷ []) ∷ (0 ∷ 0 ∷ 0 ∷ []) ∷ [];
      } ∷
      [];
  audit = row 0 2 (Some (4 ∷ [])) false ∷ [];
}
unfolding of_more_rare_2 stint_workers picked after_workers until_ended settle copies load_from
more_rare_2 = refl

unfoldable of_more_rare_3 : Scenario
of_more_rare_3 = record {
  shape = shape Wide 2 (table 1 3 1 ∷ []) 1 1 0;
  rows = loaded 0 1 (5 ∷ []) ∷ [];
  policy = record { tries = 3; tidy = true };
  txns = txn 1 (Scan 0 0 18446744073709551614 ∷ Add 0 3 1 true 3 ∷ []) ∷ txn 2 (Scan 0 2 3 ∷ []) ∷
      txn 2 (Del 0 1 ∷ Add 0 2 1 true 3 ∷ Scan 0 0 3 ∷ []) ∷ [];
  schedule = Picks 1096637760536994560 44;
}

more_rare_3 : shown of_more_rare_3 (up ∷ fuse 51 ∷ []) ≡ record {
  logs =
      record {
        events = tried 1 1 0 2 1 1 (Commit 1) ∷ move 0 0 3 0 0 move_done ∷ [];
        reads = item 0 1 (Some (5 ∷ [])) ∷ item 0 3 None ∷ [];
        locks = lock 0 3 0 0 ∷ [];
        writes = item 0 3 (Some (3 ∷ [])) ∷ [];
        snaps = (0 ∷ 0 ∷ []) ∷ [];
      } ∷
      record {
        events = tried 2 1 0 0 0 0 ReadOnly ∷ tried 3 1 0 2 2 2 (Commit 1) ∷ NoRoom 0 ∷ CollectCut 0 ∷ [];
        reads = item 0 2 None ∷ item 0 2 (Some (3 ∷ [])) ∷ [];
        locks = lock 0 1 0 0 ∷ lock 0 2 0 0 ∷ [];
        writes = item 0 1 None ∷ item 0 2 (Some (3 ∷ [])) ∷ [];
        snaps = (0 ∷ 0 ∷ []) ∷ (0 ∷ 0 ∷ []) ∷ [];
      } ∷
      [];
  audit = row 0 2 (Some (3 ∷ [])) false ∷ row 0 3 (Some (3 ∷ [])) false ∷ [];
}
unfolding of_more_rare_3 stint_workers picked after_workers until_ended settle copies load_from
more_rare_3 = refl

unfoldable of_more_rare_4 : Scenario
of_more_rare_4 = record {
  shape = shape Narrow 2 (table 1 2 1 ∷ []) 1 1 7;
  rows = loaded 0 8 (5 ∷ []) ∷ [];
  policy = record { tries = 1; tidy = true };
  txns = txn 1 (Need 0 2 1 1 ∷ Add 0 2 1 true 3 ∷ Del 0 18446744073709551614 ∷ Need 0 18446744073709551614 1 1 ∷ []) ∷
      txn 2 (Need 0 18446744073709551614 1 0 ∷ Del 0 2 ∷ []) ∷ txn 1 (Need 0 8 1 0 ∷ Add 0 8 1 true 1 ∷ []) ∷
      txn 2 (Need 0 2 1 0 ∷ Need 0 8 1 0 ∷ Put 0 18446744073709551614 (8 ∷ []) ∷ Del 0 18446744073709551614 ∷ []) ∷
      txn 1 (Del 0 18446744073709551614 ∷ Put 0 8 (0 ∷ []) ∷ []) ∷ txn 2 (Add 0 8 1 false 1 ∷ []) ∷ [];
  schedule = Stints (stint 1 5 ∷ stint 1 3 ∷ stint 1 13 ∷ stint 1 20 ∷ stint 2 2 ∷ stint 2 20 ∷ stint 2 1 ∷ []);
}

more_rare_4 : shown of_more_rare_4 (up ∷ fuse 28 ∷ []) ≡ record {
  logs =
      record {
        events = tried 1 1 0 1 0 0 (Declined 1) ∷ tried 3 1 0 2 1 1 (Commit 8) ∷ move 0 0 8 0 0 move_done ∷
            tried 5 1 2 0 0 0 (NoSpace 0) ∷ [];
        reads = item 0 2 None ∷ item 0 8 (Some (5 ∷ [])) ∷ item 0 8 (Some (5 ∷ [])) ∷ [];
        locks = lock 0 8 0 0 ∷ [];
        writes = item 0 8 (Some (6 ∷ [])) ∷ [];
        snaps = (7 ∷ 7 ∷ []) ∷ (7 ∷ 7 ∷ []) ∷ (8 ∷ 8 ∷ []) ∷ [];
      } ∷
      record {
        events = tried 2 1 1 1 1 1 (Commit 8) ∷ NoRoom 0 ∷ CollectCut 0 ∷ [];
        reads = item 0 18446744073709551614 None ∷ [];
        locks = lock 0 2 0 0 ∷ [];
        writes = item 0 2 None ∷ [];
        snaps = (8 ∷ 7 ∷ []) ∷ [];
      } ∷
      [];
  audit = row 0 8 (Some (6 ∷ [])) false ∷ [];
}
unfolding of_more_rare_4 stint_workers picked after_workers until_ended settle copies load_from
more_rare_4 = refl

unfoldable of_more_rare_5 : Scenario
of_more_rare_5 = record {
  shape = shape Narrow 2 (table 1 1 1 ∷ table 2 3 1 ∷ []) 1 1 0;
  rows = loaded 0 4 (0 ∷ []) ∷ loaded 1 2 (1 ∷ 5 ∷ []) ∷ [];
  policy = record { tries = 3; tidy = true };
  txns = txn 2 (Put 1 1 (7 ∷ 7 ∷ []) ∷ []) ∷
      txn 1 (Scan 1 1 3 ∷ Scan 1 0 18446744073709551614 ∷ Put 1 2 (9 ∷ 7 ∷ []) ∷ Scan 1 2 3 ∷ []) ∷
      txn 2 (Put 0 4 (9 ∷ []) ∷ Add 1 4 1 false 0 ∷ Scan 1 0 18446744073709551614 ∷ Get 1 1 ∷ []) ∷
      txn 2 (Need 1 4 1 5 ∷ Add 1 2 1 true 1 ∷ Need 1 2 2 5 ∷ []) ∷ [];
  schedule = Stints (stint 2 5 ∷ stint 1 40 ∷ stint 1 2 ∷ stint 1 3 ∷ stint 2 20 ∷ stint 2 13 ∷ stint 1 20 ∷ []);
}

more_rare_5 : shown of_more_rare_5 (up ∷ fuse 28 ∷ []) ≡ record {
  logs =
      record {
        events = tried 2 1 0 3 1 1 (Commit 1) ∷ move 0 1 2 0 0 move_done ∷ [];
        reads = item 1 2 (Some (1 ∷ 5 ∷ [])) ∷ item 1 2 (Some (1 ∷ 5 ∷ [])) ∷ item 1 2 (Some (9 ∷ 7 ∷ [])) ∷ [];
        locks = lock 1 2 0 0 ∷ [];
        writes = item 1 2 (Some (9 ∷ 7 ∷ [])) ∷ [];
        snaps = (0 ∷ 0 ∷ []) ∷ [];
      } ∷
      record {
        events = tried 1 1 0 0 1 1 (Commit 1) ∷ NoRoom 0 ∷ CollectCut 0 ∷ [];
        reads = [];
        locks = lock 1 1 0 0 ∷ [];
        writes = item 1 1 (Some (7 ∷ 7 ∷ [])) ∷ [];
        snaps = (0 ∷ 0 ∷ []) ∷ [];
      } ∷
      [];
  audit = row 0 4 (Some (0 ∷ [])) false ∷ row 1 1 (Some (7 ∷ 7 ∷ [])) false ∷ row 1 2 (Some (9 ∷ 7 ∷ [])) false ∷ [];
}
unfolding of_more_rare_5 stint_workers picked after_workers until_ended settle copies load_from
more_rare_5 = refl

unfoldable of_more_rare_6 : Scenario
of_more_rare_6 = record {
  shape = shape Narrow 2 (table 2 3 1 ∷ []) 1 1 0;
  rows = loaded 0 1 (5 ∷ 18446744073709551614 ∷ []) ∷ loaded 0 0 (1 ∷ 1 ∷ []) ∷ loaded 0 8 (1 ∷ 5 ∷ []) ∷ [];
  policy = record { tries = 1; tidy = true };
  txns = txn 1 (Add 0 1 2 false 3 ∷ Add 0 8 2 true 1 ∷ Put 0 8 (1 ∷ 0 ∷ []) ∷ Add 0 8 1 false 0 ∷ []) ∷
      txn 2 (Add 0 0 1 true 1 ∷ Guard 0 8 ∷ Need 0 0 1 0 ∷ []) ∷ txn 2 (Guard 0 1 ∷ []) ∷ txn 1 (Del 0 1 ∷ []) ∷ [];
  schedule = Stints (stint 1 20 ∷ stint 1 5 ∷ stint 1 8 ∷ stint 1 40 ∷ stint 2 5 ∷ stint 1 13 ∷ stint 1 5 ∷ []);
}

more_rare_6 : shown of_more_rare_6 [] ≡ record {
  logs =
      record {
        events = tried 1 1 0 3 2 2 (Commit 1) ∷ move 0 0 1 0 0 move_done ∷ NoRoom 0 ∷ Collected 0 1 (1 ∷ 0 ∷ []) false ∷
            move 0 0 8 0 0 move_done ∷ tried 4 1 1 0 1 1 (Commit 2) ∷ NoRoom 0 ∷ CollectAgain 0 2 0 1 ∷ NoRoom 0 ∷ [];
        reads = item 0 1 (Some (5 ∷ 18446744073709551614 ∷ [])) ∷ item 0 8 (Some (1 ∷ 5 ∷ [])) ∷
            item 0 8 (Some (1 ∷ 0 ∷ [])) ∷ [];
        locks = lock 0 1 0 0 ∷ lock 0 8 0 0 ∷ lock 0 1 1 1 ∷ [];
        writes = item 0 1 (Some (5 ∷ 18446744073709551611 ∷ [])) ∷ item 0 8 (Some (1 ∷ 0 ∷ [])) ∷ item 0 1 None ∷ [];
        snaps = (0 ∷ 0 ∷ []) ∷ (1 ∷ 0 ∷ []) ∷ (1 ∷ 0 ∷ []) ∷ [];
      } ∷
      record {
        events = tried 2 1 1 3 2 1 (Commit 1) ∷ NoRoom 0 ∷ Collected 0 3 (2 ∷ 1 ∷ []) false ∷ move 0 0 0 0 0 move_done ∷
            tried 3 1 3 1 0 0 ReadOnly ∷ [];
        reads = item 0 0 (Some (1 ∷ 1 ∷ [])) ∷ item 0 8 (Some (1 ∷ 0 ∷ [])) ∷ item 0 0 (Some (2 ∷ 1 ∷ [])) ∷
            item 0 1 None ∷ [];
        locks = lock 0 0 0 0 ∷ lock 0 8 1 1 ∷ [];
        writes = item 0 0 (Some (2 ∷ 1 ∷ [])) ∷ [];
        snaps = (1 ∷ 0 ∷ []) ∷ (2 ∷ 1 ∷ []) ∷ (2 ∷ 1 ∷ []) ∷ [];
      } ∷
      [];
  audit = row 0 0 (Some (2 ∷ 1 ∷ [])) false ∷ row 0 8 (Some (1 ∷ 0 ∷ [])) false ∷ [];
}
unfolding of_more_rare_6 stint_workers picked after_workers until_ended settle copies load_from
more_rare_6 = refl

unfoldable of_more_rare_7 : Scenario
of_more_rare_7 = record {
  shape = shape Narrow 1 (table 2 3 1 ∷ table 1 3 2 ∷ []) 1 2 0;
  rows = loaded 0 3 (5 ∷ 1 ∷ []) ∷ loaded 0 18446744073709551614 (1 ∷ 18446744073709551614 ∷ []) ∷ loaded 1 8 (5 ∷ []) ∷
      loaded 1 3 (40 ∷ []) ∷ [];
  policy = record { tries = 1; tidy = true };
  txns = txn 1 (Add 0 5 1 true 0 ∷ Guard 1 3 ∷ Scan 1 0 5 ∷ Guard 1 3 ∷ []) ∷
      txn 1 (Put 1 18446744073709551614 (5 ∷ []) ∷ Add 1 3 1 true 1 ∷ Scan 1 2 18446744073709551614 ∷ []) ∷ [];
  schedule = Stints (stint 1 2 ∷ stint 1 40 ∷ stint 1 20 ∷ stint 1 13 ∷ stint 1 5 ∷ stint 1 1 ∷ []);
}

more_rare_7 : shown of_more_rare_7 (fuse 44 ∷ []) ≡ record {
  logs =
      record {
        events = tried 1 1 0 4 2 1 (Commit 1) ∷ TailCut ∷ [];
        reads = item 0 5 None ∷ item 1 3 (Some (40 ∷ [])) ∷ item 1 3 (Some (40 ∷ [])) ∷ item 1 3 (Some (40 ∷ [])) ∷ [];
        locks = lock 0 5 0 0 ∷ lock 1 3 0 0 ∷ [];
        writes = item 0 5 (Some (0 ∷ 0 ∷ [])) ∷ [];
        snaps = (0 ∷ []) ∷ [];
      } ∷
      [];
  audit = row 0 3 (Some (5 ∷ 1 ∷ [])) false ∷ row 0 5 (Some (0 ∷ 0 ∷ [])) false ∷ row 0 18446744073709551614 (Some (1 ∷
      18446744073709551614 ∷ [])) false ∷ row 1 3 (Some (40 ∷ [])) true ∷ row 1 8 (Some (5 ∷ [])) false ∷ [];
}
unfolding of_more_rare_7 stint_workers picked after_workers until_ended settle copies load_from
more_rare_7 = refl

unfoldable of_more_rare_8 : Scenario
of_more_rare_8 = record {
  shape = shape Wide 2 (table 1 4 1 ∷ []) 1 1 0;
  rows = loaded 0 2 (40 ∷ []) ∷ loaded 0 3 (0 ∷ []) ∷ [];
  policy = record { tries = 3; tidy = true };
  txns = txn 2 (Add 0 3 1 false 0 ∷ []) ∷ txn 1 (Need 0 8 1 0 ∷ []) ∷
      txn 1 (Need 0 1 1 0 ∷ Add 0 3 1 false 0 ∷ Guard 0 1 ∷ Put 0 0 (0 ∷ []) ∷ []) ∷
      txn 1 (Put 0 2 (9 ∷ []) ∷ Get 0 3 ∷ Guard 0 1 ∷ Guard 0 2 ∷ []) ∷ txn 1 (Guard 0 0 ∷ []) ∷ [];
  schedule = Stints (stint 1 20 ∷ stint 2 2 ∷ stint 1 1 ∷ stint 1 1 ∷ stint 1 20 ∷ stint 2 1 ∷ stint 1 3 ∷ stint 1 40 ∷
      stint 2 5 ∷ []);
}

more_rare_8 : shown of_more_rare_8 [] ≡ record {
  logs =
      record {
        events = tried 2 1 0 1 0 0 ReadOnly ∷ tried 3 1 0 3 3 2 (Commit 1) ∷ move 0 0 3 0 0 move_done ∷ NoRoom 0 ∷
            Collected 0 1 (1 ∷ 0 ∷ []) false ∷ move 0 0 0 0 0 move_done ∷ tried 4 1 1 3 2 1 (Commit 2) ∷ NoRoom 0 ∷
            Collected 0 3 (2 ∷ 1 ∷ []) false ∷ move 0 0 2 0 0 move_done ∷ tried 5 1 3 1 0 0 ReadOnly ∷ [];
        reads = item 0 8 None ∷ item 0 1 None ∷ item 0 3 (Some (0 ∷ [])) ∷ item 0 1 None ∷ item 0 3 (Some (0 ∷ [])) ∷
            item 0 1 None ∷ item 0 2 (Some (9 ∷ [])) ∷ item 0 0 (Some (0 ∷ [])) ∷ [];
        locks = lock 0 3 0 0 ∷ lock 0 0 0 0 ∷ lock 0 1 0 0 ∷ lock 0 2 0 0 ∷ lock 0 1 0 0 ∷ [];
        writes = item 0 3 (Some (0 ∷ [])) ∷ item 0 0 (Some (0 ∷ [])) ∷ item 0 2 (Some (9 ∷ [])) ∷ [];
        snaps = (0 ∷ 0 ∷ []) ∷ (0 ∷ 0 ∷ []) ∷ (1 ∷ 0 ∷ []) ∷ (1 ∷ 0 ∷ []) ∷ (2 ∷ 1 ∷ []) ∷ (2 ∷ 1 ∷ []) ∷ [];
      } ∷
      record {
        events = tried 1 1 0 1 0 0 (Newer (lock 0 3 1 1)) ∷ tried 1 2 1 1 1 1 (Commit 1) ∷ NoRoom 0 ∷
            CollectAgain 0 1 1 2 ∷ NoRoom 0 ∷ [];
        reads = item 0 3 (Some (0 ∷ [])) ∷ item 0 3 (Some (0 ∷ [])) ∷ [];
        locks = lock 0 3 1 1 ∷ [];
        writes = item 0 3 (Some (0 ∷ [])) ∷ [];
        snaps = (0 ∷ 0 ∷ []) ∷ (1 ∷ 0 ∷ []) ∷ [];
      } ∷
      [];
  audit = row 0 0 (Some (0 ∷ [])) false ∷ row 0 2 (Some (9 ∷ [])) false ∷ row 0 3 (Some (0 ∷ [])) false ∷ [];
}
unfolding of_more_rare_8 stint_workers picked after_workers until_ended settle copies load_from
more_rare_8 = refl

unfoldable of_more_rare_9 : Scenario
of_more_rare_9 = record {
  shape = shape Narrow 3 (table 1 3 1 ∷ []) 1 1 0;
  rows = [];
  policy = record { tries = 4; tidy = true };
  txns = txn 1 (Del 0 8 ∷ Scan 0 0 18446744073709551614 ∷ Add 0 8 1 true 1 ∷ Del 0 8 ∷ []) ∷ txn 2 (Scan 0 2 5 ∷ []) ∷
      txn 2 (Del 0 8 ∷ []) ∷ txn 1 (Del 0 5 ∷ []) ∷
      txn 3 (Get 0 8 ∷ Add 0 8 1 true 0 ∷ Put 0 8 (8 ∷ []) ∷ Put 0 8 (8 ∷ []) ∷ []) ∷ [];
  schedule = Picks 7095559931020508102 179;
}

more_rare_9 : shown of_more_rare_9 [] ≡ record {
  logs =
      record {
        events = tried 1 1 0 1 1 1 (Commit 1) ∷ move 0 0 8 0 0 move_done ∷ tried 4 1 1 0 1 1 (Commit 2) ∷ NoRoom 0 ∷
            CollectAgain 0 3 0 1 ∷ NoRoom 0 ∷ [];
        reads = item 0 8 None ∷ [];
        locks = lock 0 8 0 0 ∷ lock 0 5 0 0 ∷ [];
        writes = item 0 8 None ∷ item 0 5 None ∷ [];
        snaps = (0 ∷ 0 ∷ 0 ∷ []) ∷ (1 ∷ 0 ∷ 0 ∷ []) ∷ [];
      } ∷
      record {
        events = tried 2 1 0 0 0 0 ReadOnly ∷ tried 3 1 0 0 0 0 (Locked (lock 0 8 0 0)) ∷
            tried 3 2 0 0 0 0 (Locked (lock 0 8 0 0)) ∷ unbegun 3 3 (Again 1 0 1) ∷
            tried 3 4 1 0 1 0 (Full (lock 0 8 0 0)) ∷ [];
        reads = [];
        locks = lock 0 8 1 1 ∷ [];
        writes = [];
        snaps = (0 ∷ 0 ∷ 0 ∷ []) ∷ (0 ∷ 0 ∷ 0 ∷ []) ∷ (0 ∷ 0 ∷ 0 ∷ []) ∷ (1 ∷ 0 ∷ 0 ∷ []) ∷ [];
      } ∷
      record {
        events = tried 5 1 0 2 0 0 (Locked (lock 0 8 0 0)) ∷ tried 5 2 0 2 0 0 (Newer (lock 0 8 1 1)) ∷
            tried 5 3 1 2 1 1 (Commit 1) ∷ NoRoom 0 ∷ Collected 0 3 (2 ∷ 0 ∷ 1 ∷ []) false ∷ move 0 0 8 1 1 move_done ∷
            [];
        reads = item 0 8 None ∷ item 0 8 None ∷ item 0 8 None ∷ item 0 8 None ∷ item 0 8 None ∷ item 0 8 None ∷ [];
        locks = lock 0 8 1 1 ∷ [];
        writes = item 0 8 (Some (8 ∷ [])) ∷ [];
        snaps = (0 ∷ 0 ∷ 0 ∷ []) ∷ (0 ∷ 0 ∷ 0 ∷ []) ∷ (1 ∷ 0 ∷ 0 ∷ []) ∷ (2 ∷ 0 ∷ 1 ∷ []) ∷ [];
      } ∷
      [];
  audit = row 0 8 (Some (8 ∷ [])) false ∷ [];
}
unfolding of_more_rare_9 stint_workers picked after_workers until_ended settle copies load_from
more_rare_9 = refl

unfoldable of_more_rare_10 : Scenario
of_more_rare_10 = record {
  shape = shape Narrow 3 (table 1 3 3 ∷ table 1 3 3 ∷ []) 2 2 0;
  rows = loaded 0 2 (18446744073709551614 ∷ []) ∷ loaded 0 18446744073709551614 (0 ∷ []) ∷ loaded 1 2 (0 ∷ []) ∷
      loaded 1 3 (1 ∷ []) ∷ loaded 1 1 (40 ∷ []) ∷ [];
  policy = record { tries = 3; tidy = true };
  txns = txn 2 (Put 0 8 (4 ∷ []) ∷ []) ∷ txn 3 (Guard 0 5 ∷ Add 1 3 1 true 1 ∷ Need 0 8 1 0 ∷ []) ∷
      txn 1 (Add 0 18446744073709551614 1 true 0 ∷ []) ∷ txn 1 (Add 1 2 1 true 0 ∷ []) ∷ [];
  schedule = Stints (stint 2 8 ∷ stint 3 20 ∷ stint 1 2 ∷ stint 3 1 ∷ stint 1 8 ∷ stint 1 3 ∷ stint 2 2 ∷ stint 1 1 ∷
      []);
}

more_rare_10 : shown of_more_rare_10 (up ∷ up ∷ fuse 37 ∷ []) ≡ record {
  logs =
      record {
        events = tried 3 1 0 1 1 1 (Commit 1) ∷ tried 4 1 2 1 1 1 (Commit 2) ∷ [];
        reads = item 0 18446744073709551614 (Some (0 ∷ [])) ∷ item 1 2 (Some (0 ∷ [])) ∷ [];
        locks = lock 0 18446744073709551614 0 0 ∷ lock 1 2 0 0 ∷ [];
        writes = item 0 18446744073709551614 (Some (0 ∷ [])) ∷ item 1 2 (Some (0 ∷ [])) ∷ [];
        snaps = (0 ∷ 0 ∷ 0 ∷ []) ∷ (1 ∷ 0 ∷ 1 ∷ []) ∷ [];
      } ∷
      record {
        events = tried 1 1 0 0 0 0 (NoSpace 0) ∷ [];
        reads = [];
        locks = [];
        writes = [];
        snaps = (0 ∷ 0 ∷ 0 ∷ []) ∷ [];
      } ∷
      record {
        events = tried 2 1 0 3 2 1 (Commit 1) ∷ TailCut ∷ [];
        reads = item 0 5 None ∷ item 1 3 (Some (1 ∷ [])) ∷ item 0 8 None ∷ [];
        locks = lock 1 3 0 0 ∷ lock 0 5 0 0 ∷ [];
        writes = item 1 3 (Some (2 ∷ [])) ∷ [];
        snaps = (0 ∷ 0 ∷ 0 ∷ []) ∷ [];
      } ∷
      [];
  audit = row 0 2 (Some (18446744073709551614 ∷ [])) false ∷ row 0 5 None true ∷
      row 0 18446744073709551614 (Some (0 ∷ [])) false ∷ row 1 1 (Some (40 ∷ [])) false ∷
      row 1 2 (Some (0 ∷ [])) false ∷ row 1 3 (Some (2 ∷ [])) false ∷ [];
}
unfolding of_more_rare_10 stint_workers picked after_workers until_ended settle copies load_from
more_rare_10 = refl

unfoldable of_more_rare_11 : Scenario
of_more_rare_11 = record {
  shape = shape Narrow 3 (table 1 1 1 ∷ []) 1 2 0;
  rows = [];
  policy = record { tries = 3; tidy = true };
  txns = txn 2 (Del 0 0 ∷ Guard 0 8 ∷ Add 0 0 1 true 3 ∷ []) ∷ txn 2 (Guard 0 0 ∷ Add 0 0 1 true 3 ∷ []) ∷
      txn 2 (Get 0 0 ∷ []) ∷ txn 2 (Del 0 0 ∷ Put 0 0 (0 ∷ []) ∷ Put 0 0 (0 ∷ []) ∷ Add 0 0 1 true 0 ∷ []) ∷
      txn 1 (Del 0 0 ∷ []) ∷ txn 2 (Guard 0 0 ∷ []) ∷ [];
  schedule = Stints (stint 3 1 ∷ stint 2 3 ∷ stint 2 13 ∷ stint 2 20 ∷ stint 1 3 ∷ []);
}

more_rare_11 : shown of_more_rare_11 (up ∷ up ∷ fuse 63 ∷ []) ≡ record {
  logs =
      record {
        events = tried 5 1 1 0 1 0 (Full (lock 0 0 0 0)) ∷ move 0 0 0 0 0 move_back ∷ tried 5 2 1 0 1 1 (Commit 1) ∷
            move 0 0 0 2 1 move_done ∷ [];
        reads = [];
        locks = lock 0 0 2 1 ∷ lock 0 0 2 1 ∷ [];
        writes = item 0 0 None ∷ [];
        snaps = (0 ∷ 1 ∷ 0 ∷ []) ∷ (0 ∷ 1 ∷ 0 ∷ []) ∷ [];
      } ∷
      record {
        events = tried 1 1 0 1 0 0 (NoSpace 0) ∷ tried 2 1 0 2 1 1 (Commit 1) ∷ move 0 0 0 0 0 move_done ∷
            tried 3 1 1 1 0 0 ReadOnly ∷ tried 4 1 1 1 0 0 (Locked (lock 0 0 2 1)) ∷
            tried 4 2 1 1 0 0 (Locked (lock 0 0 2 1)) ∷ unbegun 4 3 (Again 1 0 1) ∷ tried 6 1 2 1 0 0 ReadOnly ∷ [];
        reads = item 0 8 None ∷ item 0 0 None ∷ item 0 0 None ∷ item 0 0 (Some (3 ∷ [])) ∷ item 0 0 (Some (0 ∷ [])) ∷
            item 0 0 (Some (0 ∷ [])) ∷ item 0 0 None ∷ [];
        locks = lock 0 0 0 0 ∷ [];
        writes = item 0 0 (Some (3 ∷ [])) ∷ [];
        snaps = (0 ∷ 0 ∷ 0 ∷ []) ∷ (0 ∷ 0 ∷ 0 ∷ []) ∷ (0 ∷ 1 ∷ 0 ∷ []) ∷ (0 ∷ 1 ∷ 0 ∷ []) ∷ (0 ∷ 1 ∷ 0 ∷ []) ∷
            (1 ∷ 1 ∷ 0 ∷ []) ∷ [];
      } ∷
      record {
        events = [];
        reads = [];
        locks = [];
        writes = [];
        snaps = [];
      } ∷
      [];
  audit = [];
}
unfolding of_more_rare_11 stint_workers picked after_workers until_ended settle copies load_from
more_rare_11 = refl

unfoldable of_more_rare_12 : Scenario
of_more_rare_12 = record {
  shape = shape Narrow 3 (table 1 3 1 ∷ []) 2 2 0;
  rows = loaded 0 4 (18446744073709551614 ∷ []) ∷ [];
  policy = record { tries = 1; tidy = false };
  txns = txn 2 (Scan 0 2 5 ∷ []) ∷ txn 2 (Add 0 4 1 true 3 ∷ []) ∷ txn 2 (Guard 0 4 ∷ Scan 0 0 3 ∷ Scan 0 0 3 ∷ []) ∷
      txn 2 (Need 0 0 1 0 ∷ []) ∷ txn 3 (Guard 0 4 ∷ Scan 0 2 3 ∷ Put 0 0 (1 ∷ []) ∷ []) ∷ [];
  schedule = Picks 14433426303008759975 92;
}

more_rare_12 : shown of_more_rare_12 (up ∷ up ∷ fuse 32 ∷ []) ≡ record {
  logs =
      record {
        events = [];
        reads = [];
        locks = [];
        writes = [];
        snaps = [];
      } ∷
      record {
        events = tried 1 1 0 1 0 0 ReadOnly ∷ tried 2 1 1 1 0 0 (Declined 1) ∷ tried 3 1 1 3 0 0 ReadOnly ∷
            tried 4 1 1 1 0 0 ReadOnly ∷ [];
        reads = item 0 4 (Some (18446744073709551614 ∷ [])) ∷ item 0 4 (Some (18446744073709551614 ∷ [])) ∷
            item 0 4 (Some (18446744073709551614 ∷ [])) ∷ item 0 0 (Some (1 ∷ [])) ∷ item 0 0 (Some (1 ∷ [])) ∷
            item 0 0 (Some (1 ∷ [])) ∷ [];
        locks = [];
        writes = [];
        snaps = (0 ∷ 0 ∷ 0 ∷ []) ∷ (0 ∷ 0 ∷ 1 ∷ []) ∷ (0 ∷ 0 ∷ 1 ∷ []) ∷ (0 ∷ 0 ∷ 1 ∷ []) ∷ [];
      } ∷
      record {
        events = tried 5 1 0 1 2 1 (Commit 1) ∷ TailCut ∷ [];
        reads = item 0 4 (Some (18446744073709551614 ∷ [])) ∷ [];
        locks = lock 0 0 0 0 ∷ lock 0 4 0 0 ∷ [];
        writes = item 0 0 (Some (1 ∷ [])) ∷ [];
        snaps = (0 ∷ 0 ∷ 0 ∷ []) ∷ [];
      } ∷
      [];
  audit = row 0 0 (Some (1 ∷ [])) false ∷ row 0 4 (Some (18446744073709551614 ∷ [])) true ∷ [];
}
unfolding of_more_rare_12 stint_workers picked after_workers until_ended settle copies load_from
more_rare_12 = refl

unfoldable of_more_rare_13 : Scenario
of_more_rare_13 = record {
  shape = shape Narrow 3 (table 2 1 2 ∷ []) 2 2 0;
  rows = [];
  policy = record { tries = 3; tidy = true };
  txns = txn 3 (Add 0 1 1 true 1 ∷ []) ∷ txn 1 (Put 0 1 (3 ∷ 3 ∷ []) ∷ Del 0 1 ∷ []) ∷
      txn 2 (Put 0 1 (3 ∷ 1 ∷ []) ∷ Need 0 1 2 5 ∷ Get 0 1 ∷ Del 0 1 ∷ []) ∷
      txn 3 (Add 0 1 2 false 1 ∷ Guard 0 1 ∷ []) ∷ txn 2 (Add 0 1 2 true 3 ∷ Need 0 1 1 0 ∷ []) ∷ txn 3 (Del 0 1 ∷ []) ∷
      [];
  schedule = Stints (stint 3 2 ∷ stint 1 2 ∷ stint 3 5 ∷ []);
}

more_rare_13 : shown of_more_rare_13 [] ≡ record {
  logs =
      record {
        events = tried 2 1 0 0 0 0 (Locked (lock 0 1 0 0)) ∷ tried 2 2 0 0 0 0 (Locked (lock 0 1 0 0)) ∷
            unbegun 2 3 (Again 3 0 1) ∷ [];
        reads = [];
        locks = [];
        writes = [];
        snaps = (0 ∷ 0 ∷ 0 ∷ []) ∷ (0 ∷ 0 ∷ 0 ∷ []) ∷ [];
      } ∷
      record {
        events = tried 3 1 0 1 0 0 (Declined 2) ∷ tried 5 1 0 2 0 0 (Locked (lock 0 1 0 0)) ∷
            tried 5 2 1 2 1 1 (Commit 1) ∷ move 0 0 1 0 0 move_done ∷ [];
        reads = item 0 1 (Some (3 ∷ 1 ∷ [])) ∷ item 0 1 None ∷ item 0 1 (Some (0 ∷ 3 ∷ [])) ∷
            item 0 1 (Some (1 ∷ 0 ∷ [])) ∷ item 0 1 (Some (1 ∷ 3 ∷ [])) ∷ [];
        locks = lock 0 1 3 1 ∷ [];
        writes = item 0 1 (Some (1 ∷ 3 ∷ [])) ∷ [];
        snaps = (0 ∷ 0 ∷ 0 ∷ []) ∷ (0 ∷ 0 ∷ 0 ∷ []) ∷ (0 ∷ 0 ∷ 1 ∷ []) ∷ [];
      } ∷
      record {
        events = tried 1 1 0 1 1 1 (Commit 1) ∷ tried 4 1 1 1 0 0 (Declined 1) ∷
            tried 6 1 1 0 0 0 (Newer (lock 0 1 2 1)) ∷ tried 6 2 2 0 1 0 (Full (lock 0 1 0 0)) ∷
            move 0 0 1 0 0 move_back ∷ tried 6 3 2 0 1 1 (Commit 2) ∷ move 0 0 1 3 1 move_done ∷ [];
        reads = item 0 1 None ∷ item 0 1 (Some (1 ∷ 0 ∷ [])) ∷ [];
        locks = lock 0 1 0 0 ∷ lock 0 1 2 1 ∷ lock 0 1 2 1 ∷ [];
        writes = item 0 1 (Some (1 ∷ 0 ∷ [])) ∷ item 0 1 None ∷ [];
        snaps = (0 ∷ 0 ∷ 0 ∷ []) ∷ (0 ∷ 0 ∷ 1 ∷ []) ∷ (0 ∷ 0 ∷ 1 ∷ []) ∷ (0 ∷ 1 ∷ 1 ∷ []) ∷ (0 ∷ 1 ∷ 1 ∷ []) ∷ [];
      } ∷
      [];
  audit = [];
}
unfolding of_more_rare_13 stint_workers picked after_workers until_ended settle copies load_from
more_rare_13 = refl
