-- More random scripts whose turns are picked, of a simulator of its own.
use Rattle.std.proofs.Common.{◌≡◌, true, false, [], ◌∷◌, Some, None, refl}
use Rattle.nam_catalog.specs.declared.form.Form.TheVariants.{Narrow, Wide, Held}
use Rattle.si_model.specs.declared.op.Op.TheVariants.{Get, Put, Add, Del, Need, Guard}
use Rattle.si_model.specs.declared.log.Outcome.TheVariants.{Commit, ReadOnly, Declined, NoSpace, Spent, Again, Locked}
use Rattle.si_model.specs.declared.log.Outcome.TheVariants.{Newer, Full, Cut}
use Rattle.si_model.specs.declared.log.Event.TheVariants.{NoRoom, Collected}
use Rattle.nam_protocol.specs.Schedule.{Scenario, Stints, Picks, stint_workers, picked, after_workers, until_ended}
use Rattle.nam_protocol.specs.Session.{settle}
use Rattle.nam_protocol.specs.Opening.{copies, load_from}
use Rattle.nam_protocol.proofs.Shown.{shape, table, loaded, txn, stint, up, fuse, item, row, lock, tried, unbegun, move}
use Rattle.nam_protocol.proofs.Shown.{move_done, move_cut, shown}

unfoldable of_more_picks_1 : Scenario
of_more_picks_1 = record {
  shape = shape Held 3 (table 2 3 1 ∷ []) 1 3 7;
  rows = loaded 0 0 (5 ∷ 0 ∷ []) ∷ loaded 0 8 (40 ∷ 5 ∷ []) ∷ loaded 0 5 (5 ∷ 40 ∷ []) ∷ [];
  policy = record { tries = 2; tidy = false };
  txns = txn 3 (Del 0 5 ∷ []) ∷ txn 3 (Del 0 5 ∷ []) ∷ txn 1 (Need 0 8 1 0 ∷ []) ∷ [];
  schedule = Picks 3364872636783371243 147;
}

more_picks_1 : shown of_more_picks_1 [] ≡ record {
  logs =
      record {
        events = tried 3 1 0 1 0 0 ReadOnly ∷ [];
        reads = item 0 8 (Some (40 ∷ 5 ∷ [])) ∷ [];
        locks = [];
        writes = [];
        snaps = (7 ∷ 7 ∷ 7 ∷ []) ∷ [];
      } ∷
      record {
        events = [];
        reads = [];
        locks = [];
        writes = [];
        snaps = [];
      } ∷
      record {
        events = tried 1 1 0 0 1 1 (Commit 8) ∷ tried 2 1 1 0 1 0 (Full (lock 0 5 0 0)) ∷
            tried 2 2 1 0 1 0 (Full (lock 0 5 0 0)) ∷ [];
        reads = [];
        locks = lock 0 5 0 0 ∷ lock 0 5 3 8 ∷ lock 0 5 3 8 ∷ [];
        writes = item 0 5 None ∷ [];
        snaps = (7 ∷ 7 ∷ 7 ∷ []) ∷ (7 ∷ 7 ∷ 8 ∷ []) ∷ (7 ∷ 7 ∷ 8 ∷ []) ∷ [];
      } ∷
      [];
  audit = row 0 0 (Some (5 ∷ 0 ∷ [])) false ∷ row 0 8 (Some (40 ∷ 5 ∷ [])) false ∷ [];
}
unfolding of_more_picks_1 stint_workers picked after_workers until_ended settle copies load_from
more_picks_1 = refl

unfoldable of_more_picks_2 : Scenario
of_more_picks_2 = record {
  shape = shape Narrow 1 (table 1 2 1 ∷ table 1 3 1 ∷ []) 2 1 0;
  rows = loaded 0 3 (40 ∷ []) ∷ loaded 0 5 (40 ∷ []) ∷ loaded 1 0 (40 ∷ []) ∷ [];
  policy = record { tries = 1; tidy = true };
  txns = txn 1 (Del 1 0 ∷ Need 1 0 1 0 ∷ Del 1 0 ∷ Need 1 0 1 1 ∷ []) ∷ txn 1 (Del 1 0 ∷ []) ∷
      txn 1 (Guard 1 0 ∷ Add 1 0 1 true 3 ∷ []) ∷
      txn 1 (Del 1 0 ∷ Add 1 0 1 true 1 ∷ Add 1 0 1 true 1 ∷ Add 1 0 1 true 0 ∷ []) ∷
      txn 1 (Del 1 0 ∷ Add 1 0 1 true 0 ∷ Need 1 18446744073709551614 1 0 ∷ []) ∷ [];
  schedule = Stints (stint 1 8 ∷ stint 1 1 ∷ stint 1 13 ∷ []);
}

more_picks_2 : shown of_more_picks_2 [] ≡ record {
  logs =
      record {
        events = tried 1 1 0 2 0 0 (Declined 4) ∷ tried 2 1 0 0 1 1 (Commit 1) ∷ move 0 1 0 0 0 move_done ∷
            tried 3 1 1 2 1 1 (Commit 2) ∷ NoRoom 0 ∷ Collected 0 2 (2 ∷ []) false ∷ move 0 1 0 1 1 move_done ∷
            tried 4 1 2 3 1 1 (Commit 3) ∷ NoRoom 0 ∷ Collected 0 3 (3 ∷ []) false ∷ move 0 1 0 1 2 move_done ∷
            tried 5 1 3 2 1 1 (Commit 4) ∷ NoRoom 0 ∷ Collected 0 4 (4 ∷ []) false ∷ move 0 1 0 1 3 move_done ∷ [];
        reads = item 1 0 None ∷ item 1 0 None ∷ item 1 0 None ∷ item 1 0 None ∷ item 1 0 None ∷
            item 1 0 (Some (1 ∷ [])) ∷ item 1 0 (Some (2 ∷ [])) ∷ item 1 0 None ∷ item 1 18446744073709551614 None ∷ [];
        locks = lock 1 0 0 0 ∷ lock 1 0 1 1 ∷ lock 1 0 1 2 ∷ lock 1 0 1 3 ∷ [];
        writes = item 1 0 None ∷ item 1 0 (Some (3 ∷ [])) ∷ item 1 0 (Some (2 ∷ [])) ∷ item 1 0 (Some (0 ∷ [])) ∷ [];
        snaps = (0 ∷ []) ∷ (0 ∷ []) ∷ (1 ∷ []) ∷ (2 ∷ []) ∷ (2 ∷ []) ∷ (3 ∷ []) ∷ (3 ∷ []) ∷ (4 ∷ []) ∷ [];
      } ∷
      [];
  audit = row 0 3 (Some (40 ∷ [])) false ∷ row 0 5 (Some (40 ∷ [])) false ∷ row 1 0 (Some (0 ∷ [])) false ∷ [];
}
unfolding of_more_picks_2 stint_workers picked after_workers until_ended settle copies load_from
more_picks_2 = refl

unfoldable of_more_picks_3 : Scenario
of_more_picks_3 = record {
  shape = shape Narrow 2 (table 1 4 3 ∷ table 1 2 2 ∷ []) 1 1 0;
  rows = loaded 0 5 (1 ∷ []) ∷ loaded 0 0 (5 ∷ []) ∷ loaded 0 2 (5 ∷ []) ∷ loaded 0 8 (1 ∷ []) ∷ [];
  policy = record { tries = 1; tidy = true };
  txns = txn 1 (Del 0 2 ∷ []) ∷ txn 1 (Add 0 2 1 true 1 ∷ []) ∷ txn 2 (Need 0 2 1 0 ∷ []) ∷
      txn 2 (Guard 0 2 ∷ Add 0 2 1 true 1 ∷ []) ∷ txn 2 (Del 0 2 ∷ Need 0 2 1 1 ∷ []) ∷
      txn 2 (Guard 0 2 ∷ Add 0 2 1 false 1 ∷ []) ∷ [];
  schedule = Picks 4687965066958306882 146;
}

more_picks_3 : shown of_more_picks_3 (up ∷ fuse 51 ∷ []) ≡ record {
  logs =
      record {
        events = tried 1 1 0 0 1 1 (Commit 1) ∷ tried 2 1 1 1 1 1 (Commit 2) ∷ [];
        reads = item 0 2 None ∷ [];
        locks = lock 0 2 0 0 ∷ lock 0 2 1 1 ∷ [];
        writes = item 0 2 None ∷ item 0 2 (Some (1 ∷ [])) ∷ [];
        snaps = (0 ∷ 0 ∷ []) ∷ (1 ∷ 0 ∷ []) ∷ [];
      } ∷
      record {
        events = tried 3 1 0 1 0 0 ReadOnly ∷ unbegun 4 1 (Again 1 0 1) ∷ tried 5 1 1 1 0 0 (Declined 2) ∷
            tried 6 1 1 2 0 0 (Declined 2) ∷ [];
        reads = item 0 2 (Some (5 ∷ [])) ∷ item 0 2 None ∷ item 0 2 None ∷ item 0 2 None ∷ [];
        locks = [];
        writes = [];
        snaps = (0 ∷ 0 ∷ []) ∷ (1 ∷ 0 ∷ []) ∷ (1 ∷ 0 ∷ []) ∷ [];
      } ∷
      [];
  audit = row 0 0 (Some (5 ∷ [])) false ∷ row 0 2 (Some (1 ∷ [])) false ∷ row 0 5 (Some (1 ∷ [])) false ∷
      row 0 8 (Some (1 ∷ [])) false ∷ [];
}
unfolding of_more_picks_3 stint_workers picked after_workers until_ended settle copies load_from
more_picks_3 = refl

unfoldable of_more_picks_4 : Scenario
of_more_picks_4 = record {
  shape = shape Narrow 3 (table 1 2 3 ∷ table 1 2 2 ∷ []) 1 3 7;
  rows = loaded 0 8 (1 ∷ []) ∷ [];
  policy = record { tries = 4; tidy = true };
  txns = txn 1 (Get 0 8 ∷ Put 1 8 (3 ∷ []) ∷ Need 1 5 1 1 ∷ []) ∷
      txn 1 (Put 0 18446744073709551614 (4 ∷ []) ∷ Add 0 8 1 true 3 ∷ Need 1 5 1 0 ∷ Add 1 5 1 true 1 ∷ []) ∷
      txn 2 (Guard 1 5 ∷ Guard 0 8 ∷ Guard 1 8 ∷ Put 0 3 (8 ∷ []) ∷ []) ∷
      txn 3 (Get 0 8 ∷ Guard 1 5 ∷ Add 0 8 1 true 3 ∷ []) ∷
      txn 3 (Get 0 3 ∷ Need 1 5 1 0 ∷ Add 1 5 1 true 1 ∷ Get 1 5 ∷ []) ∷ [];
  schedule = Stints (stint 1 2 ∷ stint 3 20 ∷ stint 2 2 ∷ stint 2 13 ∷ stint 3 2 ∷ stint 2 8 ∷ stint 1 3 ∷ stint 1 2 ∷
      []);
}

more_picks_4 : shown of_more_picks_4 (fuse 20 ∷ up ∷ up ∷ []) ≡ record {
  logs =
      record {
        events = tried 1 1 0 2 0 0 (Declined 3) ∷ unbegun 2 1 Cut ∷ [];
        reads = item 0 8 (Some (1 ∷ [])) ∷ item 1 5 None ∷ [];
        locks = [];
        writes = [];
        snaps = (7 ∷ 7 ∷ 7 ∷ []) ∷ [];
      } ∷
      record {
        events = tried 3 1 0 3 1 0 (Locked (lock 1 5 0 0)) ∷ tried 3 2 0 3 2 0 (Newer (lock 0 8 3 8)) ∷
            tried 3 3 1 3 1 0 (Locked (lock 1 5 0 0)) ∷ tried 3 4 2 3 4 1 (Commit 8) ∷ [];
        reads = item 1 5 None ∷ item 0 8 (Some (1 ∷ [])) ∷ item 1 8 None ∷ item 1 5 None ∷ item 0 8 (Some (1 ∷ [])) ∷
            item 1 8 None ∷ item 1 5 None ∷ item 0 8 (Some (4 ∷ [])) ∷ item 1 8 None ∷ item 1 5 (Some (1 ∷ [])) ∷
            item 0 8 (Some (4 ∷ [])) ∷ item 1 8 None ∷ [];
        locks = lock 0 3 0 0 ∷ lock 0 3 0 0 ∷ lock 1 5 0 0 ∷ lock 0 3 0 0 ∷ lock 0 3 0 0 ∷ lock 1 5 3 9 ∷ lock 0 8 3 8 ∷
            lock 1 8 0 0 ∷ [];
        writes = item 0 3 (Some (8 ∷ [])) ∷ [];
        snaps = (7 ∷ 7 ∷ 7 ∷ []) ∷ (7 ∷ 7 ∷ 7 ∷ []) ∷ (7 ∷ 7 ∷ 8 ∷ []) ∷ (7 ∷ 7 ∷ 9 ∷ []) ∷ [];
      } ∷
      record {
        events = tried 4 1 0 3 2 1 (Commit 8) ∷ tried 5 1 1 4 0 0 (Locked (lock 1 5 0 0)) ∷
            tried 5 2 1 4 1 1 (Commit 9) ∷ [];
        reads = item 0 8 (Some (1 ∷ [])) ∷ item 1 5 None ∷ item 0 8 (Some (1 ∷ [])) ∷ item 0 3 None ∷ item 1 5 None ∷
            item 1 5 None ∷ item 1 5 (Some (1 ∷ [])) ∷ item 0 3 None ∷ item 1 5 None ∷ item 1 5 None ∷
            item 1 5 (Some (1 ∷ [])) ∷ [];
        locks = lock 0 8 0 0 ∷ lock 1 5 0 0 ∷ lock 1 5 0 0 ∷ [];
        writes = item 0 8 (Some (4 ∷ [])) ∷ item 1 5 (Some (1 ∷ [])) ∷ [];
        snaps = (7 ∷ 7 ∷ 7 ∷ []) ∷ (7 ∷ 7 ∷ 8 ∷ []) ∷ (7 ∷ 7 ∷ 8 ∷ []) ∷ [];
      } ∷
      [];
  audit = row 0 3 (Some (8 ∷ [])) false ∷ row 0 8 (Some (4 ∷ [])) false ∷ row 1 5 (Some (1 ∷ [])) false ∷ [];
}
unfolding of_more_picks_4 stint_workers picked after_workers until_ended settle copies load_from
more_picks_4 = refl

unfoldable of_more_picks_5 : Scenario
of_more_picks_5 = record {
  shape = shape Narrow 2 (table 1 1 1 ∷ []) 1 1 0;
  rows = [];
  policy = record { tries = 4; tidy = true };
  txns = txn 1 (Need 0 18446744073709551614 1 1 ∷ []) ∷ txn 1 (Put 0 18446744073709551614 (0 ∷ []) ∷ Del 0 5 ∷
      Add 0 18446744073709551614 1 true 0 ∷ Del 0 5 ∷ []) ∷ [];
  schedule = Stints (stint 1 3 ∷ stint 2 20 ∷ stint 1 3 ∷ stint 1 8 ∷ stint 1 40 ∷ stint 2 8 ∷ stint 1 20 ∷ stint 2 5 ∷
      stint 2 2 ∷ []);
}

more_picks_5 : shown of_more_picks_5 (fuse 16 ∷ up ∷ []) ≡ record {
  logs =
      record {
        events = tried 1 1 0 1 0 0 (Declined 1) ∷ tried 2 1 0 0 0 0 (NoSpace 0) ∷ [];
        reads = item 0 18446744073709551614 None ∷ [];
        locks = [];
        writes = [];
        snaps = (0 ∷ 0 ∷ []) ∷ (0 ∷ 0 ∷ []) ∷ [];
      } ∷
      record {
        events = [];
        reads = [];
        locks = [];
        writes = [];
        snaps = [];
      } ∷
      [];
  audit = [];
}
unfolding of_more_picks_5 stint_workers picked after_workers until_ended settle copies load_from
more_picks_5 = refl

unfoldable of_more_picks_6 : Scenario
of_more_picks_6 = record {
  shape = shape Narrow 2 (table 2 2 2 ∷ []) 1 3 0;
  rows = loaded 0 1 (1 ∷ 1 ∷ []) ∷ loaded 0 18446744073709551614 (0 ∷ 1 ∷ []) ∷ [];
  policy = record { tries = 4; tidy = true };
  txns = txn 1 (Get 0 1 ∷ Add 0 1 2 true 1 ∷ []) ∷ txn 2 (Guard 0 1 ∷ Guard 0 1 ∷ Add 0 1 2 true 1 ∷ []) ∷ [];
  schedule = Picks 13091941451042652507 93;
}

more_picks_6 : shown of_more_picks_6 [] ≡ record {
  logs =
      record {
        events = tried 1 1 0 2 1 1 (Commit 1) ∷ [];
        reads = item 0 1 (Some (1 ∷ 1 ∷ [])) ∷ item 0 1 (Some (1 ∷ 1 ∷ [])) ∷ [];
        locks = lock 0 1 0 0 ∷ [];
        writes = item 0 1 (Some (1 ∷ 2 ∷ [])) ∷ [];
        snaps = (0 ∷ 0 ∷ []) ∷ [];
      } ∷
      record {
        events = tried 2 1 0 3 0 0 (Newer (lock 0 1 1 1)) ∷ tried 2 2 1 3 1 1 (Commit 1) ∷ move 0 0 1 0 0 move_done ∷
            [];
        reads = item 0 1 (Some (1 ∷ 1 ∷ [])) ∷ item 0 1 (Some (1 ∷ 1 ∷ [])) ∷ item 0 1 (Some (1 ∷ 1 ∷ [])) ∷
            item 0 1 (Some (1 ∷ 2 ∷ [])) ∷ item 0 1 (Some (1 ∷ 2 ∷ [])) ∷ item 0 1 (Some (1 ∷ 2 ∷ [])) ∷ [];
        locks = lock 0 1 1 1 ∷ [];
        writes = item 0 1 (Some (1 ∷ 3 ∷ [])) ∷ [];
        snaps = (0 ∷ 0 ∷ []) ∷ (1 ∷ 0 ∷ []) ∷ [];
      } ∷
      [];
  audit = row 0 1 (Some (1 ∷ 3 ∷ [])) false ∷ row 0 18446744073709551614 (Some (0 ∷ 1 ∷ [])) false ∷ [];
}
unfolding of_more_picks_6 stint_workers picked after_workers until_ended settle copies load_from
more_picks_6 = refl

unfoldable of_more_picks_7 : Scenario
of_more_picks_7 = record {
  shape = shape Held 3 (table 1 1 3 ∷ table 1 2 3 ∷ []) 2 3 4294967294;
  rows = loaded 1 4 (1 ∷ []) ∷ [];
  policy = record { tries = 2; tidy = false };
  txns = txn 1 (Put 0 18446744073709551614 (1 ∷ []) ∷ Guard 1 4 ∷ Add 1 3 1 false 0 ∷ Del 0 18446744073709551614 ∷ []) ∷
      txn 1 (Put 1 4 (2 ∷ []) ∷ Guard 1 3 ∷ Del 1 18446744073709551614 ∷ []) ∷
      txn 1 (Add 0 18446744073709551614 1 true 1 ∷ []) ∷ txn 3 (Put 1 3 (9 ∷ []) ∷ []) ∷ txn 1 (Need 0 8 1 0 ∷ []) ∷
      txn 2 (Guard 1 4 ∷ []) ∷ [];
  schedule = Picks 4677542457645337929 103;
}

more_picks_7 : shown of_more_picks_7 (up ∷ fuse 64 ∷ up ∷ []) ≡ record {
  logs =
      record {
        events = tried 1 1 0 2 1 0 (Newer (lock 1 3 3 4294967295)) ∷ tried 1 2 1 2 3 2 (Commit 4294967295) ∷
            tried 2 1 2 1 0 0 (NoSpace 1) ∷ tried 3 1 2 1 0 0 Spent ∷ tried 5 1 2 1 0 0 ReadOnly ∷ [];
        reads = item 1 4 (Some (1 ∷ [])) ∷ item 1 3 None ∷ item 1 4 (Some (1 ∷ [])) ∷ item 1 3 (Some (9 ∷ [])) ∷
            item 1 3 (Some (9 ∷ [])) ∷ item 0 18446744073709551614 None ∷ item 0 8 None ∷ [];
        locks = lock 0 18446744073709551614 0 0 ∷ lock 0 18446744073709551614 0 0 ∷ lock 1 3 3 4294967295 ∷
            lock 1 4 0 0 ∷ [];
        writes = item 0 18446744073709551614 None ∷ item 1 3 (Some (9 ∷ [])) ∷ [];
        snaps = (4294967294 ∷ 4294967294 ∷ 4294967294 ∷ []) ∷ (4294967294 ∷ 4294967294 ∷ 4294967295 ∷ []) ∷
            (4294967295 ∷ 4294967294 ∷ 4294967295 ∷ []) ∷ (4294967295 ∷ 4294967294 ∷ 4294967295 ∷ []) ∷
            (4294967295 ∷ 4294967294 ∷ 4294967295 ∷ []) ∷ [];
      } ∷
      record {
        events = tried 6 1 0 1 0 0 ReadOnly ∷ [];
        reads = item 1 4 (Some (1 ∷ [])) ∷ [];
        locks = [];
        writes = [];
        snaps = (4294967294 ∷ 4294967294 ∷ 4294967294 ∷ []) ∷ [];
      } ∷
      record {
        events = tried 4 1 0 0 1 1 (Commit 4294967295) ∷ [];
        reads = [];
        locks = lock 1 3 0 0 ∷ [];
        writes = item 1 3 (Some (9 ∷ [])) ∷ [];
        snaps = (4294967294 ∷ 4294967294 ∷ 4294967294 ∷ []) ∷ [];
      } ∷
      [];
  audit = row 1 3 (Some (9 ∷ [])) false ∷ row 1 4 (Some (1 ∷ [])) false ∷ [];
}
unfolding of_more_picks_7 stint_workers picked after_workers until_ended settle copies load_from
more_picks_7 = refl

unfoldable of_more_picks_8 : Scenario
of_more_picks_8 = record {
  shape = shape Wide 1 (table 2 3 3 ∷ []) 1 2 0;
  rows = loaded 0 1 (18446744073709551614 ∷ 5 ∷ []) ∷ loaded 0 18446744073709551614 (40 ∷ 40 ∷ []) ∷ [];
  policy = record { tries = 2; tidy = true };
  txns = txn 1 (Del 0 1 ∷ Del 0 1 ∷ Put 0 1 (2 ∷ 2 ∷ []) ∷ []) ∷ txn 1 (Add 0 1 1 true 1 ∷ []) ∷
      txn 1 (Add 0 8 1 true 0 ∷ Guard 0 1 ∷ Add 0 1 2 true 0 ∷ []) ∷ txn 1 (Del 0 8 ∷ Add 0 1 1 true 0 ∷ []) ∷
      txn 1 (Guard 0 1 ∷ []) ∷ txn 1 (Add 0 1 2 true 3 ∷ Need 0 1 1 0 ∷ Need 0 1 2 0 ∷ []) ∷ [];
  schedule = Picks 5218364750795122838 117;
}

more_picks_8 : shown of_more_picks_8 [] ≡ record {
  logs =
      record {
        events = tried 1 1 0 0 1 1 (Commit 1) ∷ tried 2 1 1 1 1 1 (Commit 2) ∷ tried 3 1 2 3 2 2 (Commit 3) ∷
            move 0 0 1 0 0 move_done ∷ tried 4 1 3 1 2 2 (Commit 4) ∷ move 0 0 1 1 1 move_done ∷
            tried 5 1 4 1 0 0 ReadOnly ∷ tried 6 1 4 3 1 1 (Commit 5) ∷ NoRoom 0 ∷ Collected 0 5 (5 ∷ []) false ∷
            move 0 0 1 1 2 move_done ∷ [];
        reads = item 0 1 (Some (2 ∷ 2 ∷ [])) ∷ item 0 8 None ∷ item 0 1 (Some (3 ∷ 2 ∷ [])) ∷
            item 0 1 (Some (3 ∷ 2 ∷ [])) ∷ item 0 1 (Some (3 ∷ 2 ∷ [])) ∷ item 0 1 (Some (3 ∷ 2 ∷ [])) ∷
            item 0 1 (Some (3 ∷ 2 ∷ [])) ∷ item 0 1 (Some (3 ∷ 5 ∷ [])) ∷ item 0 1 (Some (3 ∷ 5 ∷ [])) ∷ [];
        locks = lock 0 1 0 0 ∷ lock 0 1 1 1 ∷ lock 0 8 0 0 ∷ lock 0 1 1 2 ∷ lock 0 8 1 3 ∷ lock 0 1 1 3 ∷ lock 0 1 1 4 ∷
            [];
        writes = item 0 1 (Some (2 ∷ 2 ∷ [])) ∷ item 0 1 (Some (3 ∷ 2 ∷ [])) ∷ item 0 8 (Some (0 ∷ 0 ∷ [])) ∷
            item 0 1 (Some (3 ∷ 2 ∷ [])) ∷ item 0 8 None ∷ item 0 1 (Some (3 ∷ 2 ∷ [])) ∷ item 0 1 (Some (3 ∷ 5 ∷ [])) ∷
            [];
        snaps = (0 ∷ []) ∷ (1 ∷ []) ∷ (2 ∷ []) ∷ (3 ∷ []) ∷ (4 ∷ []) ∷ (4 ∷ []) ∷ (5 ∷ []) ∷ [];
      } ∷
      [];
  audit = row 0 1 (Some (3 ∷ 5 ∷ [])) false ∷ row 0 18446744073709551614 (Some (40 ∷ 40 ∷ [])) false ∷ [];
}
unfolding of_more_picks_8 stint_workers picked after_workers until_ended settle copies load_from
more_picks_8 = refl

unfoldable of_more_picks_9 : Scenario
of_more_picks_9 = record {
  shape = shape Wide 3 (table 1 4 3 ∷ []) 1 1 0;
  rows = [];
  policy = record { tries = 2; tidy = true };
  txns = txn 2 (Guard 0 5 ∷ []) ∷ txn 1 (Del 0 3 ∷ Add 0 1 1 true 3 ∷ Add 0 3 1 true 0 ∷ Add 0 1 1 true 3 ∷ []) ∷
      txn 2 (Need 0 1 1 0 ∷ Guard 0 3 ∷ []) ∷ txn 3 (Del 0 3 ∷ []) ∷
      txn 1 (Guard 0 5 ∷ Add 0 1 1 true 3 ∷ Guard 0 3 ∷ Get 0 3 ∷ []) ∷ [];
  schedule = Picks 18063753202503494582 82;
}

more_picks_9 : shown of_more_picks_9 [] ≡ record {
  logs =
      record {
        events = tried 2 1 0 3 0 0 (Locked (lock 0 3 0 0)) ∷ tried 2 2 1 3 2 2 (Commit 1) ∷
            tried 5 1 2 4 3 1 (Commit 2) ∷ [];
        reads = item 0 1 None ∷ item 0 3 None ∷ item 0 1 (Some (3 ∷ [])) ∷ item 0 1 None ∷ item 0 3 None ∷
            item 0 1 (Some (3 ∷ [])) ∷ item 0 5 None ∷ item 0 1 (Some (6 ∷ [])) ∷ item 0 3 (Some (0 ∷ [])) ∷
            item 0 3 (Some (0 ∷ [])) ∷ [];
        locks = lock 0 3 3 1 ∷ lock 0 1 0 0 ∷ lock 0 1 1 1 ∷ lock 0 5 0 0 ∷ lock 0 3 1 1 ∷ [];
        writes = item 0 3 (Some (0 ∷ [])) ∷ item 0 1 (Some (6 ∷ [])) ∷ item 0 1 (Some (9 ∷ [])) ∷ [];
        snaps = (0 ∷ 0 ∷ 0 ∷ []) ∷ (0 ∷ 0 ∷ 1 ∷ []) ∷ (1 ∷ 0 ∷ 1 ∷ []) ∷ [];
      } ∷
      record {
        events = tried 1 1 0 1 0 0 ReadOnly ∷ unbegun 3 1 (Again 3 0 1) ∷ tried 3 2 1 2 0 0 ReadOnly ∷ [];
        reads = item 0 5 None ∷ item 0 1 None ∷ item 0 3 None ∷ [];
        locks = [];
        writes = [];
        snaps = (0 ∷ 0 ∷ 0 ∷ []) ∷ (0 ∷ 0 ∷ 1 ∷ []) ∷ [];
      } ∷
      record {
        events = tried 4 1 0 0 1 1 (Commit 1) ∷ [];
        reads = [];
        locks = lock 0 3 0 0 ∷ [];
        writes = item 0 3 None ∷ [];
        snaps = (0 ∷ 0 ∷ 0 ∷ []) ∷ [];
      } ∷
      [];
  audit = row 0 1 (Some (9 ∷ [])) false ∷ row 0 3 (Some (0 ∷ [])) false ∷ [];
}
unfolding of_more_picks_9 stint_workers picked after_workers until_ended settle copies load_from
more_picks_9 = refl

unfoldable of_more_picks_10 : Scenario
of_more_picks_10 = record {
  shape = shape Narrow 2 (table 1 3 1 ∷ table 1 4 1 ∷ []) 2 1 0;
  rows = loaded 0 0 (0 ∷ []) ∷ loaded 0 1 (0 ∷ []) ∷ loaded 1 5 (1 ∷ []) ∷ loaded 1 3 (5 ∷ []) ∷
      loaded 1 18446744073709551614 (0 ∷ []) ∷ [];
  policy = record { tries = 2; tidy = false };
  txns = txn 2 (Del 1 5 ∷ []) ∷ txn 1 (Guard 1 1 ∷ Del 1 18446744073709551614 ∷ []) ∷ txn 1 (Need 1 1 1 0 ∷ []) ∷ [];
  schedule = Picks 14822707567188197029 239;
}

more_picks_10 : shown of_more_picks_10 [] ≡ record {
  logs =
      record {
        events = tried 2 1 0 1 2 1 (Commit 1) ∷ tried 3 1 2 1 0 0 ReadOnly ∷ [];
        reads = item 1 1 None ∷ item 1 1 None ∷ [];
        locks = lock 1 18446744073709551614 0 0 ∷ lock 1 1 0 0 ∷ [];
        writes = item 1 18446744073709551614 None ∷ [];
        snaps = (0 ∷ 0 ∷ []) ∷ (1 ∷ 1 ∷ []) ∷ [];
      } ∷
      record {
        events = tried 1 1 0 0 1 1 (Commit 1) ∷ [];
        reads = [];
        locks = lock 1 5 0 0 ∷ [];
        writes = item 1 5 None ∷ [];
        snaps = (0 ∷ 0 ∷ []) ∷ [];
      } ∷
      [];
  audit = row 0 0 (Some (0 ∷ [])) false ∷ row 0 1 (Some (0 ∷ [])) false ∷ row 1 3 (Some (5 ∷ [])) false ∷ [];
}
unfolding of_more_picks_10 stint_workers picked after_workers until_ended settle copies load_from
more_picks_10 = refl

unfoldable of_more_picks_11 : Scenario
of_more_picks_11 = record {
  shape = shape Narrow 3 (table 1 4 1 ∷ table 1 2 1 ∷ []) 1 1 0;
  rows = loaded 0 0 (18446744073709551614 ∷ []) ∷ [];
  policy = record { tries = 4; tidy = true };
  txns = txn 2 (Get 0 5 ∷ Guard 1 5 ∷ Del 1 3 ∷ []) ∷ txn 3 (Guard 1 18446744073709551614 ∷ []) ∷ txn 1 (Del 1 3 ∷ []) ∷
      txn 2 (Need 1 5 1 5 ∷ Del 1 18446744073709551614 ∷ Guard 1 5 ∷ Get 1 18446744073709551614 ∷ []) ∷
      txn 1 (Add 1 5 1 false 3 ∷ []) ∷ txn 2 (Add 1 3 1 true 0 ∷ []) ∷ [];
  schedule = Stints (stint 3 2 ∷ stint 2 3 ∷ stint 2 8 ∷ stint 2 20 ∷ []);
}

more_picks_11 : shown of_more_picks_11 [] ≡ record {
  logs =
      record {
        events = tried 3 1 1 0 1 0 (Full (lock 1 3 0 0)) ∷ tried 3 2 1 0 1 1 (Commit 1) ∷ NoRoom 0 ∷
            Collected 0 2 (1 ∷ 1 ∷ 0 ∷ []) false ∷ move 0 1 3 2 1 move_done ∷ tried 5 1 2 1 0 0 (Declined 1) ∷ [];
        reads = item 1 5 None ∷ [];
        locks = lock 1 3 2 1 ∷ lock 1 3 2 1 ∷ [];
        writes = item 1 3 None ∷ [];
        snaps = (0 ∷ 1 ∷ 0 ∷ []) ∷ (0 ∷ 1 ∷ 0 ∷ []) ∷ (1 ∷ 1 ∷ 0 ∷ []) ∷ (1 ∷ 1 ∷ 0 ∷ []) ∷ [];
      } ∷
      record {
        events = tried 1 1 0 2 2 1 (Commit 1) ∷ move 0 1 3 0 0 move_done ∷ tried 4 1 1 1 0 0 (Declined 1) ∷
            tried 6 1 1 1 0 0 (Locked (lock 1 3 2 1)) ∷ tried 6 2 1 1 0 0 (Newer (lock 1 3 1 1)) ∷
            tried 6 3 2 1 1 0 (Full (lock 1 3 2 1)) ∷ NoRoom 0 ∷ Collected 0 2 (1 ∷ 1 ∷ 0 ∷ []) false ∷
            tried 6 4 2 1 1 1 (Commit 2) ∷ move 0 1 3 1 1 move_done ∷ [];
        reads = item 0 5 None ∷ item 1 5 None ∷ item 1 5 None ∷ item 1 3 None ∷ item 1 3 None ∷ item 1 3 None ∷
            item 1 3 None ∷ [];
        locks = lock 1 3 0 0 ∷ lock 1 5 0 0 ∷ lock 1 3 1 1 ∷ lock 1 3 1 1 ∷ [];
        writes = item 1 3 None ∷ item 1 3 (Some (0 ∷ [])) ∷ [];
        snaps = (0 ∷ 0 ∷ 0 ∷ []) ∷ (0 ∷ 1 ∷ 0 ∷ []) ∷ (0 ∷ 1 ∷ 0 ∷ []) ∷ (0 ∷ 1 ∷ 0 ∷ []) ∷ (1 ∷ 1 ∷ 0 ∷ []) ∷
            (1 ∷ 1 ∷ 0 ∷ []) ∷ (1 ∷ 1 ∷ 0 ∷ []) ∷ [];
      } ∷
      record {
        events = unbegun 2 1 (Again 2 0 1) ∷ tried 2 2 1 1 0 0 (NoSpace 1) ∷ [];
        reads = item 1 18446744073709551614 None ∷ [];
        locks = [];
        writes = [];
        snaps = (0 ∷ 1 ∷ 0 ∷ []) ∷ [];
      } ∷
      [];
  audit = row 0 0 (Some (18446744073709551614 ∷ [])) false ∷ row 1 3 (Some (0 ∷ [])) false ∷ [];
}
unfolding of_more_picks_11 stint_workers picked after_workers until_ended settle copies load_from
more_picks_11 = refl

unfoldable of_more_picks_12 : Scenario
of_more_picks_12 = record {
  shape = shape Narrow 1 (table 1 2 1 ∷ []) 2 1 0;
  rows = [];
  policy = record { tries = 2; tidy = true };
  txns = txn 1 (Del 0 0 ∷ []) ∷ txn 1 (Guard 0 8 ∷ []) ∷ txn 1 (Add 0 8 1 true 1 ∷ []) ∷
      txn 1 (Del 0 18446744073709551614 ∷ Get 0 0 ∷ Put 0 0 (4 ∷ []) ∷ []) ∷
      txn 1 (Add 0 0 1 true 1 ∷ Add 0 0 1 true 1 ∷ []) ∷ txn 1 (Put 0 0 (5 ∷ []) ∷ Get 0 8 ∷ []) ∷ [];
  schedule = Picks 5280753469972433404 182;
}

more_picks_12 : shown of_more_picks_12 (fuse 29 ∷ []) ≡ record {
  logs =
      record {
        events = tried 1 1 0 0 1 1 (Commit 1) ∷ move 0 0 0 0 0 move_cut ∷ [];
        reads = [];
        locks = lock 0 0 0 0 ∷ [];
        writes = item 0 0 None ∷ [];
        snaps = (0 ∷ []) ∷ [];
      } ∷
      [];
  audit = [];
}
unfolding of_more_picks_12 stint_workers picked after_workers until_ended settle copies load_from
more_picks_12 = refl
