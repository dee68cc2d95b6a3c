-- Random scripts whose turns are picked, of a simulator of its own.
use Rattle.std.proofs.Common.{◌≡◌, true, false, [], ◌∷◌, Some, None, refl}
use Rattle.nam_catalog.specs.declared.form.Form.TheVariants.{Narrow, Wide, Held}
use Rattle.si_model.specs.declared.op.Op.TheVariants.{Get, Put, Add, Del, Need, Guard}
use Rattle.si_model.specs.declared.log.Outcome.TheVariants.{Commit, ReadOnly, Declined, NoSpace, Spent, Again, Locked}
use Rattle.si_model.specs.declared.log.Outcome.TheVariants.{Newer, Full, Cut}
use Rattle.si_model.specs.declared.log.Event.TheVariants.{NoRoom, Collected}
use Rattle.nam_protocol.specs.Schedule.{Scenario, Stints, Picks, stint_workers, picked, after_workers, until_ended}
use Rattle.nam_protocol.specs.Session.{settle}
use Rattle.nam_protocol.specs.Opening.{copies, load_from}
use Rattle.nam_protocol.proofs.Shown.{shape, table, loaded, txn, stint, up, fuse, item, row, lock, tried, unbegun, move}
use Rattle.nam_protocol.proofs.Shown.{move_done, shown}

unfoldable of_picks_1 : Scenario
of_picks_1 = record {
  shape = shape Wide 1 (table 1 3 1 ∷ []) 1 1 0;
  rows = loaded 0 5 (0 ∷ []) ∷ loaded 0 4 (0 ∷ []) ∷ [];
  policy = record { tries = 2; tidy = true };
  txns = txn 1 (Put 0 8 (3 ∷ []) ∷ Put 0 4 (2 ∷ []) ∷ Del 0 4 ∷ Add 0 8 1 true 1 ∷ []) ∷
      txn 1 (Put 0 8 (6 ∷ []) ∷ Need 0 4 1 5 ∷ []) ∷ txn 1 (Need 0 4 1 5 ∷ Del 0 3 ∷ Need 0 4 1 1 ∷ []) ∷
      txn 1 (Add 0 4 1 false 3 ∷ Add 0 8 1 false 0 ∷ Need 0 4 1 0 ∷ Get 0 5 ∷ []) ∷ txn 1 (Get 0 3 ∷ Guard 0 8 ∷ []) ∷
      [];
  schedule = Picks 14008624825028494130 34;
}

picks_1 : shown of_picks_1 (fuse 23 ∷ []) ≡ record {
  logs =
      record {
        events = tried 1 1 0 1 2 0 Cut ∷ [];
        reads = item 0 8 (Some (3 ∷ [])) ∷ [];
        locks = lock 0 8 0 0 ∷ lock 0 4 0 0 ∷ [];
        writes = [];
        snaps = (0 ∷ []) ∷ [];
      } ∷
      [];
  audit = row 0 4 (Some (0 ∷ [])) true ∷ row 0 5 (Some (0 ∷ [])) false ∷ [];
}
unfolding of_picks_1 stint_workers picked after_workers until_ended settle copies load_from
picks_1 = refl

unfoldable of_picks_2 : Scenario
of_picks_2 = record {
  shape = shape Narrow 1 (table 1 1 1 ∷ []) 2 1 0;
  rows = [];
  policy = record { tries = 3; tidy = true };
  txns = txn 1 (Put 0 5 (0 ∷ []) ∷ []) ∷ txn 1 (Add 0 2 1 true 1 ∷ Add 0 5 1 false 1 ∷ []) ∷ txn 1 (Guard 0 5 ∷ []) ∷
      txn 1 (Del 0 5 ∷ []) ∷ txn 1 (Guard 0 5 ∷ Add 0 5 1 true 1 ∷ Get 0 5 ∷ []) ∷ txn 1 (Need 0 5 1 0 ∷ []) ∷ [];
  schedule = Picks 1356714917278232910 40;
}

picks_2 : shown of_picks_2 [] ≡ record {
  logs =
      record {
        events = tried 1 1 0 0 1 1 (Commit 1) ∷ move 0 0 5 0 0 move_done ∷ tried 2 1 1 1 0 0 (NoSpace 0) ∷
            tried 3 1 1 1 0 0 ReadOnly ∷ tried 4 1 1 0 1 1 (Commit 2) ∷ NoRoom 0 ∷ Collected 0 2 (2 ∷ []) false ∷
            move 0 0 5 1 1 move_done ∷ tried 5 1 2 3 1 1 (Commit 3) ∷ NoRoom 0 ∷ Collected 0 3 (3 ∷ []) false ∷
            move 0 0 5 1 2 move_done ∷ tried 6 1 3 1 0 0 ReadOnly ∷ [];
        reads = item 0 2 None ∷ item 0 5 (Some (0 ∷ [])) ∷ item 0 5 None ∷ item 0 5 None ∷ item 0 5 (Some (1 ∷ [])) ∷
            item 0 5 (Some (1 ∷ [])) ∷ [];
        locks = lock 0 5 0 0 ∷ lock 0 5 1 1 ∷ lock 0 5 1 2 ∷ [];
        writes = item 0 5 (Some (0 ∷ [])) ∷ item 0 5 None ∷ item 0 5 (Some (1 ∷ [])) ∷ [];
        snaps = (0 ∷ []) ∷ (1 ∷ []) ∷ (1 ∷ []) ∷ (1 ∷ []) ∷ (2 ∷ []) ∷ (2 ∷ []) ∷ (3 ∷ []) ∷ (3 ∷ []) ∷ [];
      } ∷
      [];
  audit = row 0 5 (Some (1 ∷ [])) false ∷ [];
}
unfolding of_picks_2 stint_workers picked after_workers until_ended settle copies load_from
picks_2 = refl

unfoldable of_picks_3 : Scenario
of_picks_3 = record {
  shape = shape Narrow 3 (table 2 3 2 ∷ table 2 4 2 ∷ []) 1 1 7;
  rows = [];
  policy = record { tries = 4; tidy = true };
  txns = txn 3 (Need 1 2 2 5 ∷ []) ∷ txn 2 (Add 1 0 1 false 3 ∷ []) ∷ txn 2 (Del 1 0 ∷ []) ∷
      txn 1 (Add 1 5 1 false 3 ∷ Put 1 5 (0 ∷ 7 ∷ []) ∷ []) ∷
      txn 1 (Put 1 8 (9 ∷ 9 ∷ []) ∷ Get 1 5 ∷ Put 1 0 (7 ∷ 3 ∷ []) ∷ []) ∷ [];
  schedule = Picks 13206479233734132210 55;
}

picks_3 : shown of_picks_3 [] ≡ record {
  logs =
      record {
        events = tried 4 1 0 1 0 0 (Declined 1) ∷ tried 5 1 0 1 1 0 (Locked (lock 1 0 0 0)) ∷
            unbegun 5 2 (Again 2 7 8) ∷ tried 5 3 1 1 2 2 (Commit 8) ∷ move 0 1 0 0 0 move_done ∷ [];
        reads = item 1 5 None ∷ item 1 5 None ∷ item 1 5 None ∷ [];
        locks = lock 1 8 0 0 ∷ lock 1 8 0 0 ∷ lock 1 0 2 8 ∷ [];
        writes = item 1 8 (Some (9 ∷ 9 ∷ [])) ∷ item 1 0 (Some (7 ∷ 3 ∷ [])) ∷ [];
        snaps = (7 ∷ 7 ∷ 7 ∷ []) ∷ (7 ∷ 7 ∷ 7 ∷ []) ∷ (7 ∷ 8 ∷ 7 ∷ []) ∷ [];
      } ∷
      record {
        events = tried 2 1 0 1 0 0 (Declined 1) ∷ tried 3 1 0 0 1 1 (Commit 8) ∷ [];
        reads = item 1 0 None ∷ [];
        locks = lock 1 0 0 0 ∷ [];
        writes = item 1 0 None ∷ [];
        snaps = (7 ∷ 7 ∷ 7 ∷ []) ∷ (7 ∷ 7 ∷ 7 ∷ []) ∷ [];
      } ∷
      record {
        events = tried 1 1 0 1 0 0 (Declined 1) ∷ [];
        reads = item 1 2 None ∷ [];
        locks = [];
        writes = [];
        snaps = (7 ∷ 7 ∷ 7 ∷ []) ∷ [];
      } ∷
      [];
  audit = row 1 0 (Some (7 ∷ 3 ∷ [])) false ∷ row 1 8 (Some (9 ∷ 9 ∷ [])) false ∷ [];
}
unfolding of_picks_3 stint_workers picked after_workers until_ended settle copies load_from
picks_3 = refl

unfoldable of_picks_4 : Scenario
of_picks_4 = record {
  shape = shape Narrow 3 (table 1 1 1 ∷ []) 2 2 7;
  rows = [];
  policy = record { tries = 2; tidy = false };
  txns = txn 2 (Add 0 18446744073709551614 1 true 3 ∷ []) ∷ txn 2 (Add 0 8 1 true 0 ∷ Get 0 8 ∷ []) ∷
      txn 2 (Guard 0 18446744073709551614 ∷ []) ∷ txn 2 (Put 0 8 (4 ∷ []) ∷ []) ∷
      txn 1 (Add 0 18446744073709551614 1 true 0 ∷ []) ∷ [];
  schedule = Picks 1773736802607710297 152;
}

picks_4 : shown of_picks_4 (up ∷ fuse 66 ∷ up ∷ []) ≡ record {
  logs =
      record {
        events = tried 5 1 0 1 1 1 (Commit 8) ∷ [];
        reads = item 0 18446744073709551614 None ∷ [];
        locks = lock 0 18446744073709551614 0 0 ∷ [];
        writes = item 0 18446744073709551614 (Some (0 ∷ [])) ∷ [];
        snaps = (7 ∷ 7 ∷ 7 ∷ []) ∷ [];
      } ∷
      record {
        events = tried 1 1 0 1 0 0 (Locked (lock 0 18446744073709551614 0 0)) ∷
            tried 1 2 0 1 0 0 (Locked (lock 0 18446744073709551614 0 0)) ∷ tried 2 1 0 1 0 0 (NoSpace 0) ∷
            tried 3 1 1 1 0 0 ReadOnly ∷ tried 4 1 1 0 0 0 (NoSpace 0) ∷ [];
        reads = item 0 18446744073709551614 None ∷ item 0 18446744073709551614 None ∷ item 0 8 None ∷
            item 0 18446744073709551614 (Some (0 ∷ [])) ∷ [];
        locks = [];
        writes = [];
        snaps = (7 ∷ 7 ∷ 7 ∷ []) ∷ (7 ∷ 7 ∷ 7 ∷ []) ∷ (7 ∷ 7 ∷ 7 ∷ []) ∷ (8 ∷ 7 ∷ 7 ∷ []) ∷ (8 ∷ 7 ∷ 7 ∷ []) ∷ [];
      } ∷
      record {
        events = [];
        reads = [];
        locks = [];
        writes = [];
        snaps = [];
      } ∷
      [];
  audit = row 0 18446744073709551614 (Some (0 ∷ [])) false ∷ [];
}
unfolding of_picks_4 stint_workers picked after_workers until_ended settle copies load_from
picks_4 = refl

unfoldable of_picks_5 : Scenario
of_picks_5 = record {
  shape = shape Wide 2 (table 1 2 3 ∷ []) 2 1 35184372088830;
  rows = loaded 0 8 (18446744073709551614 ∷ []) ∷ [];
  policy = record { tries = 4; tidy = false };
  txns = txn 2 (Need 0 5 1 1 ∷ Need 0 5 1 0 ∷ Add 0 5 1 false 0 ∷ []) ∷
      txn 2 (Need 0 5 1 0 ∷ Need 0 5 1 0 ∷ Add 0 8 1 true 1 ∷ []) ∷
      txn 1 (Add 0 5 1 true 1 ∷ Guard 0 5 ∷ Add 0 5 1 true 3 ∷ Add 0 5 1 false 3 ∷ []) ∷ txn 2 (Put 0 5 (6 ∷ []) ∷ []) ∷
      [];
  schedule = Stints (stint 1 3 ∷ stint 2 20 ∷ stint 2 8 ∷ stint 1 1 ∷ []);
}

picks_5 : shown of_picks_5 (fuse 60 ∷ up ∷ []) ≡ record {
  logs =
      record {
        events = tried 3 1 0 4 1 1 (Commit 35184372088831) ∷ [];
        reads = item 0 5 None ∷ item 0 5 (Some (1 ∷ [])) ∷ item 0 5 (Some (1 ∷ [])) ∷ item 0 5 (Some (4 ∷ [])) ∷ [];
        locks = lock 0 5 0 0 ∷ [];
        writes = item 0 5 (Some (1 ∷ [])) ∷ [];
        snaps = (35184372088830 ∷ 35184372088830 ∷ []) ∷ [];
      } ∷
      record {
        events = tried 1 1 0 1 0 0 (Declined 1) ∷ tried 2 1 0 3 1 1 (Commit 35184372088831) ∷ tried 4 1 1 0 0 0 Spent ∷
            [];
        reads = item 0 5 None ∷ item 0 5 None ∷ item 0 5 None ∷ item 0 8 (Some (18446744073709551614 ∷ [])) ∷ [];
        locks = lock 0 8 0 0 ∷ [];
        writes = item 0 8 (Some (18446744073709551615 ∷ [])) ∷ [];
        snaps = (35184372088830 ∷ 35184372088830 ∷ []) ∷ (35184372088830 ∷ 35184372088830 ∷ []) ∷
            (35184372088830 ∷ 35184372088831 ∷ []) ∷ [];
      } ∷
      [];
  audit = row 0 5 (Some (1 ∷ [])) false ∷ row 0 8 (Some (18446744073709551615 ∷ [])) false ∷ [];
}
unfolding of_picks_5 stint_workers picked after_workers until_ended settle copies load_from
picks_5 = refl

unfoldable of_picks_6 : Scenario
of_picks_6 = record {
  shape = shape Narrow 2 (table 2 4 3 ∷ []) 2 2 7;
  rows = loaded 0 4 (5 ∷ 40 ∷ []) ∷ loaded 0 0 (18446744073709551614 ∷ 0 ∷ []) ∷ [];
  policy = record { tries = 2; tidy = true };
  txns = txn 1 (Add 0 5 1 true 0 ∷ []) ∷ txn 2 (Guard 0 0 ∷ []) ∷ txn 2 (Add 0 5 2 true 3 ∷ []) ∷
      txn 2 (Need 0 5 2 0 ∷ Put 0 2 (1 ∷ 3 ∷ []) ∷ []) ∷ txn 1 (Put 0 0 (5 ∷ 2 ∷ []) ∷ []) ∷
      txn 2 (Add 0 0 2 true 1 ∷ []) ∷ [];
  schedule = Stints (stint 1 13 ∷ stint 2 20 ∷ stint 2 3 ∷ stint 2 13 ∷ stint 2 40 ∷ stint 1 3 ∷ []);
}

picks_6 : shown of_picks_6 (fuse 49 ∷ up ∷ []) ≡ record {
  logs =
      record {
        events = tried 1 1 0 1 1 1 (Commit 8) ∷ tried 5 1 3 0 1 0 Cut ∷ [];
        reads = item 0 5 None ∷ [];
        locks = lock 0 5 0 0 ∷ lock 0 0 2 9 ∷ [];
        writes = item 0 5 (Some (0 ∷ 0 ∷ [])) ∷ [];
        snaps = (7 ∷ 7 ∷ []) ∷ (8 ∷ 9 ∷ []) ∷ [];
      } ∷
      record {
        events = tried 2 1 0 1 0 0 ReadOnly ∷ tried 3 1 0 1 0 0 (Locked (lock 0 5 0 0)) ∷
            tried 3 2 0 1 0 0 (Locked (lock 0 5 0 0)) ∷ tried 4 1 0 1 1 1 (Commit 8) ∷ tried 6 1 1 1 1 1 (Commit 9) ∷
            [];
        reads = item 0 0 (Some (18446744073709551614 ∷ 0 ∷ [])) ∷ item 0 5 None ∷ item 0 5 None ∷ item 0 5 None ∷
            item 0 0 (Some (18446744073709551614 ∷ 0 ∷ [])) ∷ [];
        locks = lock 0 2 0 0 ∷ lock 0 0 0 0 ∷ [];
        writes = item 0 2 (Some (1 ∷ 3 ∷ [])) ∷ item 0 0 (Some (18446744073709551614 ∷ 1 ∷ [])) ∷ [];
        snaps = (7 ∷ 7 ∷ []) ∷ (7 ∷ 7 ∷ []) ∷ (7 ∷ 7 ∷ []) ∷ (7 ∷ 7 ∷ []) ∷ (7 ∷ 8 ∷ []) ∷ [];
      } ∷
      [];
  audit = row 0 0 (Some (18446744073709551614 ∷ 1 ∷ [])) true ∷ row 0 2 (Some (1 ∷ 3 ∷ [])) false ∷
      row 0 4 (Some (5 ∷ 40 ∷ [])) false ∷ row 0 5 (Some (0 ∷ 0 ∷ [])) false ∷ [];
}
unfolding of_picks_6 stint_workers picked after_workers until_ended settle copies load_from
picks_6 = refl

unfoldable of_picks_7 : Scenario
of_picks_7 = record {
  shape = shape Held 3 (table 1 2 1 ∷ table 1 2 1 ∷ []) 1 2 0;
  rows = loaded 1 1 (18446744073709551614 ∷ []) ∷ [];
  policy = record { tries = 4; tidy = true };
  txns = txn 1 (Del 0 18446744073709551614 ∷ Put 0 2 (3 ∷ []) ∷ Need 0 18446744073709551614 1 0 ∷ Del 1 2 ∷ []) ∷
      txn 3 (Get 1 1 ∷ []) ∷ txn 3 (Need 0 2 1 0 ∷ []) ∷ [];
  schedule = Stints (stint 3 8 ∷ stint 1 3 ∷ stint 2 8 ∷ stint 3 2 ∷ stint 2 20 ∷ stint 3 1 ∷ stint 2 8 ∷ stint 3 2 ∷
      stint 3 8 ∷ []);
}

picks_7 : shown of_picks_7 [] ≡ record {
  logs =
      record {
        events = tried 1 1 0 1 3 3 (Commit 1) ∷ move 0 0 18446744073709551614 0 0 move_done ∷ move 0 0 2 0 0 move_done ∷
            NoRoom 0 ∷ Collected 0 1 (1 ∷ 0 ∷ 0 ∷ []) false ∷ move 0 1 2 0 0 move_done ∷ [];
        reads = item 0 18446744073709551614 None ∷ [];
        locks = lock 0 18446744073709551614 0 0 ∷ lock 0 2 0 0 ∷ lock 1 2 0 0 ∷ [];
        writes = item 0 18446744073709551614 None ∷ item 0 2 (Some (3 ∷ [])) ∷ item 1 2 None ∷ [];
        snaps = (0 ∷ 0 ∷ 0 ∷ []) ∷ (1 ∷ 0 ∷ 0 ∷ []) ∷ [];
      } ∷
      record {
        events = [];
        reads = [];
        locks = [];
        writes = [];
        snaps = [];
      } ∷
      record {
        events = tried 2 1 0 1 0 0 ReadOnly ∷ tried 3 1 0 1 0 0 ReadOnly ∷ [];
        reads = item 1 1 (Some (18446744073709551614 ∷ [])) ∷ item 0 2 None ∷ [];
        locks = [];
        writes = [];
        snaps = (0 ∷ 0 ∷ 0 ∷ []) ∷ (0 ∷ 0 ∷ 0 ∷ []) ∷ [];
      } ∷
      [];
  audit = row 0 2 (Some (3 ∷ [])) false ∷ row 1 1 (Some (18446744073709551614 ∷ [])) false ∷ [];
}
unfolding of_picks_7 stint_workers picked after_workers until_ended settle copies load_from
picks_7 = refl

unfoldable of_picks_8 : Scenario
of_picks_8 = record {
  shape = shape Held 1 (table 1 3 2 ∷ []) 2 1 7;
  rows = loaded 0 18446744073709551614 (40 ∷ []) ∷ loaded 0 8 (18446744073709551614 ∷ []) ∷ loaded 0 3 (5 ∷ []) ∷ [];
  policy = record { tries = 2; tidy = false };
  txns = txn 1 (Add 0 3 1 true 3 ∷ Need 0 2 1 0 ∷ Get 0 8 ∷ []) ∷ txn 1 (Get 0 8 ∷ []) ∷
      txn 1 (Guard 0 8 ∷ Add 0 8 1 true 1 ∷ Del 0 2 ∷ Need 0 2 1 1 ∷ []) ∷ [];
  schedule = Picks 17080989166393808406 71;
}

picks_8 : shown of_picks_8 [] ≡ record {
  logs =
      record {
        events = tried 1 1 0 3 1 1 (Commit 8) ∷ tried 2 1 1 1 0 0 ReadOnly ∷ tried 3 1 1 2 0 0 (NoSpace 0) ∷ [];
        reads = item 0 3 (Some (5 ∷ [])) ∷ item 0 2 None ∷ item 0 8 (Some (18446744073709551614 ∷ [])) ∷
            item 0 8 (Some (18446744073709551614 ∷ [])) ∷ item 0 8 (Some (18446744073709551614 ∷ [])) ∷
            item 0 8 (Some (18446744073709551614 ∷ [])) ∷ [];
        locks = lock 0 3 0 0 ∷ [];
        writes = item 0 3 (Some (8 ∷ [])) ∷ [];
        snaps = (7 ∷ []) ∷ (8 ∷ []) ∷ (8 ∷ []) ∷ [];
      } ∷
      [];
  audit = row 0 3 (Some (8 ∷ [])) false ∷ row 0 8 (Some (18446744073709551614 ∷ [])) false ∷
      row 0 18446744073709551614 (Some (40 ∷ [])) false ∷ [];
}
unfolding of_picks_8 stint_workers picked after_workers until_ended settle copies load_from
picks_8 = refl

unfoldable of_picks_9 : Scenario
of_picks_9 = record {
  shape = shape Wide 2 (table 2 4 3 ∷ table 1 2 1 ∷ []) 2 1 0;
  rows = loaded 0 18446744073709551614 (1 ∷ 1 ∷ []) ∷ loaded 0 3 (1 ∷ 0 ∷ []) ∷ loaded 1 1 (0 ∷ []) ∷
      loaded 1 4 (0 ∷ []) ∷ [];
  policy = record { tries = 4; tidy = true };
  txns = txn 2 (Del 0 3 ∷ []) ∷ txn 1 (Need 0 4 1 1 ∷ Get 0 4 ∷ Put 0 5 (5 ∷ 3 ∷ []) ∷ Need 0 5 2 0 ∷ []) ∷
      txn 2 (Get 0 5 ∷ []) ∷ txn 1 (Get 0 4 ∷ Guard 1 1 ∷ Del 1 4 ∷ Add 0 3 2 false 1 ∷ []) ∷ [];
  schedule = Picks 151598393919737879 192;
}

picks_9 : shown of_picks_9 [] ≡ record {
  logs =
      record {
        events = tried 2 1 0 1 0 0 (Declined 1) ∷ tried 4 1 0 3 0 0 (Declined 4) ∷ [];
        reads = item 0 4 None ∷ item 0 4 None ∷ item 1 1 (Some (0 ∷ [])) ∷ item 0 3 (Some (1 ∷ 0 ∷ [])) ∷ [];
        locks = [];
        writes = [];
        snaps = (0 ∷ 0 ∷ []) ∷ (0 ∷ 0 ∷ []) ∷ [];
      } ∷
      record {
        events = tried 1 1 0 0 1 1 (Commit 1) ∷ tried 3 1 1 1 0 0 ReadOnly ∷ [];
        reads = item 0 5 None ∷ [];
        locks = lock 0 3 0 0 ∷ [];
        writes = item 0 3 None ∷ [];
        snaps = (0 ∷ 0 ∷ []) ∷ (0 ∷ 1 ∷ []) ∷ [];
      } ∷
      [];
  audit = row 0 18446744073709551614 (Some (1 ∷ 1 ∷ [])) false ∷ row 1 1 (Some (0 ∷ [])) false ∷
      row 1 4 (Some (0 ∷ [])) false ∷ [];
}
unfolding of_picks_9 stint_workers picked after_workers until_ended settle copies load_from
picks_9 = refl

unfoldable of_picks_10 : Scenario
of_picks_10 = record {
  shape = shape Narrow 3 (table 1 1 3 ∷ table 1 4 1 ∷ []) 1 1 0;
  rows = loaded 1 3 (0 ∷ []) ∷ loaded 1 4 (18446744073709551614 ∷ []) ∷ [];
  policy = record { tries = 3; tidy = false };
  txns = txn 2 (Need 0 8 1 0 ∷ Del 0 8 ∷ Del 0 8 ∷ Add 0 8 1 true 1 ∷ []) ∷ txn 3 (Del 0 8 ∷ Del 0 8 ∷ []) ∷
      txn 2 (Guard 0 8 ∷ Add 0 8 1 false 3 ∷ Add 0 8 1 true 3 ∷ []) ∷ [];
  schedule = Picks 17569722857073220332 230;
}

picks_10 : shown of_picks_10 (up ∷ fuse 4 ∷ up ∷ []) ≡ record {
  logs =
      record {
        events = [];
        reads = [];
        locks = [];
        writes = [];
        snaps = [];
      } ∷
      record {
        events = unbegun 1 1 Cut ∷ [];
        reads = [];
        locks = [];
        writes = [];
        snaps = [];
      } ∷
      record {
        events = tried 2 1 0 0 1 1 (Commit 1) ∷ [];
        reads = [];
        locks = lock 0 8 0 0 ∷ [];
        writes = item 0 8 None ∷ [];
        snaps = (0 ∷ 0 ∷ 0 ∷ []) ∷ [];
      } ∷
      [];
  audit = row 1 3 (Some (0 ∷ [])) false ∷ row 1 4 (Some (18446744073709551614 ∷ [])) false ∷ [];
}
unfolding of_picks_10 stint_workers picked after_workers until_ended settle copies load_from
picks_10 = refl

unfoldable of_picks_11 : Scenario
of_picks_11 = record {
  shape = shape Held 2 (table 1 4 2 ∷ []) 2 3 4294967294;
  rows = loaded 0 8 (5 ∷ []) ∷ loaded 0 4 (1 ∷ []) ∷ loaded 0 3 (1 ∷ []) ∷ loaded 0 0 (5 ∷ []) ∷ [];
  policy = record { tries = 1; tidy = false };
  txns = txn 1 (Del 0 4 ∷ Guard 0 4 ∷ Put 0 4 (8 ∷ []) ∷ []) ∷ txn 1 (Guard 0 4 ∷ Del 0 4 ∷ []) ∷
      txn 1 (Put 0 4 (2 ∷ []) ∷ Guard 0 4 ∷ Guard 0 5 ∷ []) ∷ [];
  schedule = Picks 10169697884678380961 175;
}

picks_11 : shown of_picks_11 (up ∷ fuse 4 ∷ []) ≡ record {
  logs =
      record {
        events = tried 1 1 0 1 1 1 (Commit 4294967295) ∷ tried 2 1 1 1 0 0 Spent ∷ tried 3 1 1 2 0 0 (NoSpace 0) ∷ [];
        reads = item 0 4 None ∷ item 0 4 (Some (8 ∷ [])) ∷ item 0 4 (Some (2 ∷ [])) ∷ item 0 5 None ∷ [];
        locks = lock 0 4 0 0 ∷ [];
        writes = item 0 4 (Some (8 ∷ [])) ∷ [];
        snaps = (4294967294 ∷ 4294967294 ∷ []) ∷ (4294967295 ∷ 4294967294 ∷ []) ∷ (4294967295 ∷ 4294967294 ∷ []) ∷ [];
      } ∷
      record {
        events = [];
        reads = [];
        locks = [];
        writes = [];
        snaps = [];
      } ∷
      [];
  audit = row 0 0 (Some (5 ∷ [])) false ∷ row 0 3 (Some (1 ∷ [])) false ∷ row 0 4 (Some (8 ∷ [])) false ∷
      row 0 8 (Some (5 ∷ [])) false ∷ [];
}
unfolding of_picks_11 stint_workers picked after_workers until_ended settle copies load_from
picks_11 = refl

unfoldable of_picks_12 : Scenario
of_picks_12 = record {
  shape = shape Wide 2 (table 1 1 1 ∷ table 1 2 1 ∷ []) 1 1 0;
  rows = loaded 0 3 (40 ∷ []) ∷ loaded 1 2 (5 ∷ []) ∷ [];
  policy = record { tries = 2; tidy = false };
  txns = txn 1 (Add 0 3 1 false 0 ∷ Add 0 3 1 true 1 ∷ Del 0 3 ∷ Del 0 3 ∷ []) ∷
      txn 2 (Get 0 3 ∷ Add 0 3 1 true 1 ∷ Add 0 3 1 true 1 ∷ Put 0 3 (9 ∷ []) ∷ []) ∷
      txn 1 (Need 0 3 1 0 ∷ Get 0 3 ∷ Put 0 3 (3 ∷ []) ∷ []) ∷ [];
  schedule = Picks 7134316810899027853 126;
}

picks_12 : shown of_picks_12 [] ≡ record {
  logs =
      record {
        events = tried 1 1 0 2 0 0 (Locked (lock 0 3 0 0)) ∷ tried 1 2 0 2 0 0 (Newer (lock 0 3 2 1)) ∷
            tried 3 1 1 2 1 0 (Full (lock 0 3 0 0)) ∷ tried 3 2 1 2 1 0 (Full (lock 0 3 0 0)) ∷ [];
        reads = item 0 3 (Some (40 ∷ [])) ∷ item 0 3 (Some (40 ∷ [])) ∷ item 0 3 (Some (40 ∷ [])) ∷
            item 0 3 (Some (40 ∷ [])) ∷ item 0 3 (Some (9 ∷ [])) ∷ item 0 3 (Some (9 ∷ [])) ∷ item 0 3 (Some (9 ∷ [])) ∷
            item 0 3 (Some (9 ∷ [])) ∷ [];
        locks = lock 0 3 2 1 ∷ lock 0 3 2 1 ∷ [];
        writes = [];
        snaps = (0 ∷ 0 ∷ []) ∷ (0 ∷ 0 ∷ []) ∷ (0 ∷ 1 ∷ []) ∷ (0 ∷ 1 ∷ []) ∷ [];
      } ∷
      record {
        events = tried 2 1 0 3 1 1 (Commit 1) ∷ [];
        reads = item 0 3 (Some (40 ∷ [])) ∷ item 0 3 (Some (40 ∷ [])) ∷ item 0 3 (Some (41 ∷ [])) ∷ [];
        locks = lock 0 3 0 0 ∷ [];
        writes = item 0 3 (Some (9 ∷ [])) ∷ [];
        snaps = (0 ∷ 0 ∷ []) ∷ [];
      } ∷
      [];
  audit = row 0 3 (Some (9 ∷ [])) false ∷ row 1 2 (Some (5 ∷ [])) false ∷ [];
}
unfolding of_picks_12 stint_workers picked after_workers until_ended settle copies load_from
picks_12 = refl
