-- More random scripts with scans, of a simulator of its own.
use Rattle.std.proofs.Common.{◌≡◌, true, false, [], ◌∷◌, Some, None, refl}
use Rattle.nam_catalog.specs.declared.form.Form.TheVariants.{Narrow, Wide, Held}
use Rattle.si_model.specs.declared.op.Op.TheVariants.{Get, Put, Add, Del, Need, Guard, Scan}
use Rattle.si_model.specs.declared.log.Outcome.TheVariants.{Commit, ReadOnly, Declined, NoSpace, Again, Locked, Newer}
use Rattle.si_model.specs.declared.log.Outcome.TheVariants.{Full, Cut}
use Rattle.si_model.specs.declared.log.Event.TheVariants.{NoRoom, Collected}
use Rattle.nam_protocol.specs.Schedule.{Scenario, Stints, Picks, stint_workers, picked, after_workers, until_ended}
use Rattle.nam_protocol.specs.Session.{settle}
use Rattle.nam_protocol.specs.Opening.{copies, load_from}
use Rattle.nam_protocol.proofs.Shown.{shape, table, loaded, txn, stint, up, fuse, item, row, lock, tried, unbegun, move}
use Rattle.nam_protocol.proofs.Shown.{move_done, shown}

unfoldable of_more_scans_1 : Scenario
of_more_scans_1 = record {
  shape = shape Held 1 (table 2 2 1 ∷ []) 2 1 0;
  rows = [];
  policy = record { tries = 4; tidy = true };
  txns = txn 1 (Add 0 0 2 true 1 ∷ Guard 0 0 ∷ Del 0 0 ∷ Scan 0 1 5 ∷ []) ∷
      txn 1 (Need 0 0 1 0 ∷ Guard 0 0 ∷ Scan 0 0 3 ∷ Scan 0 1 18446744073709551614 ∷ []) ∷ txn 1 (Del 0 0 ∷ []) ∷
      txn 1 (Add 0 0 1 true 1 ∷ Del 0 0 ∷ Get 0 0 ∷ Scan 0 0 5 ∷ []) ∷ [];
  schedule = Stints (stint 1 5 ∷ stint 1 3 ∷ stint 1 40 ∷ []);
}

more_scans_1 : shown of_more_scans_1 [] ≡ record {
  logs =
      record {
        events = tried 1 1 0 2 1 1 (Commit 1) ∷ move 0 0 0 0 0 move_done ∷ tried 2 1 1 2 0 0 ReadOnly ∷
            tried 3 1 1 0 1 1 (Commit 2) ∷ NoRoom 0 ∷ Collected 0 2 (2 ∷ []) false ∷ move 0 0 0 1 1 move_done ∷
            tried 4 1 2 2 1 1 (Commit 3) ∷ NoRoom 0 ∷ Collected 0 3 (3 ∷ []) false ∷ move 0 0 0 1 2 move_done ∷ [];
        reads = item 0 0 None ∷ item 0 0 (Some (0 ∷ 1 ∷ [])) ∷ item 0 0 None ∷ item 0 0 None ∷ item 0 0 None ∷
            item 0 0 None ∷ [];
        locks = lock 0 0 0 0 ∷ lock 0 0 1 1 ∷ lock 0 0 1 2 ∷ [];
        writes = item 0 0 None ∷ item 0 0 None ∷ item 0 0 None ∷ [];
        snaps = (0 ∷ []) ∷ (1 ∷ []) ∷ (1 ∷ []) ∷ (2 ∷ []) ∷ (2 ∷ []) ∷ (3 ∷ []) ∷ [];
      } ∷
      [];
  audit = [];
}
unfolding of_more_scans_1 stint_workers picked after_workers until_ended settle copies load_from
more_scans_1 = refl

unfoldable of_more_scans_2 : Scenario
of_more_scans_2 = record {
  shape = shape Narrow 3 (table 1 2 3 ∷ table 1 3 3 ∷ []) 1 1 0;
  rows = loaded 0 18446744073709551614 (0 ∷ []) ∷ loaded 0 0 (5 ∷ []) ∷ loaded 1 4 (40 ∷ []) ∷
      loaded 1 18446744073709551614 (0 ∷ []) ∷ loaded 1 8 (1 ∷ []) ∷ [];
  policy = record { tries = 1; tidy = false };
  txns = txn 1 (Need 0 18446744073709551614 1 0 ∷ Scan 1 0 18446744073709551614 ∷ Add 1 2 1 false 1 ∷ Get 0 0 ∷ []) ∷
      txn 3 (Guard 1 8 ∷ Scan 1 1 3 ∷ Del 0 0 ∷ []) ∷
      txn 1 (Add 1 8 1 true 1 ∷ Scan 1 0 18446744073709551614 ∷ Scan 1 0 3 ∷ Guard 1 2 ∷ []) ∷ txn 1 (Scan 0 0 5 ∷ []) ∷
      txn 1 (Need 0 0 1 1 ∷ Get 1 8 ∷ []) ∷ txn 1 (Scan 1 2 3 ∷ Add 1 8 1 true 1 ∷ []) ∷ [];
  schedule = Picks 3496741257892969171 21;
}

more_scans_2 : shown of_more_scans_2 [] ≡ record {
  logs =
      record {
        events = tried 1 1 0 5 0 0 (Declined 3) ∷ unbegun 3 1 (Again 3 0 1) ∷ tried 4 1 1 0 0 0 ReadOnly ∷
            tried 5 1 1 1 0 0 (Declined 1) ∷ tried 6 1 1 1 1 1 (Commit 1) ∷ [];
        reads = item 0 18446744073709551614 (Some (0 ∷ [])) ∷ item 1 4 (Some (40 ∷ [])) ∷ item 1 8 (Some (1 ∷ [])) ∷
            item 1 18446744073709551614 (Some (0 ∷ [])) ∷ item 1 2 None ∷ item 0 0 None ∷ item 1 8 (Some (1 ∷ [])) ∷ [];
        locks = lock 1 8 0 0 ∷ [];
        writes = item 1 8 (Some (2 ∷ [])) ∷ [];
        snaps = (0 ∷ 0 ∷ 0 ∷ []) ∷ (0 ∷ 0 ∷ 1 ∷ []) ∷ (0 ∷ 0 ∷ 1 ∷ []) ∷ (0 ∷ 0 ∷ 1 ∷ []) ∷ [];
      } ∷
      record {
        events = [];
        reads = [];
        locks = [];
        writes = [];
        snaps = [];
      } ∷
      record {
        events = tried 2 1 0 1 2 1 (Commit 1) ∷ [];
        reads = item 1 8 (Some (1 ∷ [])) ∷ [];
        locks = lock 0 0 0 0 ∷ lock 1 8 0 0 ∷ [];
        writes = item 0 0 None ∷ [];
        snaps = (0 ∷ 0 ∷ 0 ∷ []) ∷ [];
      } ∷
      [];
  audit = row 0 18446744073709551614 (Some (0 ∷ [])) false ∷ row 1 4 (Some (40 ∷ [])) false ∷
      row 1 8 (Some (2 ∷ [])) false ∷ row 1 18446744073709551614 (Some (0 ∷ [])) false ∷ [];
}
unfolding of_more_scans_2 stint_workers picked after_workers until_ended settle copies load_from
more_scans_2 = refl

unfoldable of_more_scans_3 : Scenario
of_more_scans_3 = record {
  shape = shape Wide 2 (table 1 4 2 ∷ table 2 3 3 ∷ []) 1 1 7;
  rows = loaded 0 5 (18446744073709551614 ∷ []) ∷ loaded 0 8 (0 ∷ []) ∷ loaded 0 2 (1 ∷ []) ∷
      loaded 0 0 (18446744073709551614 ∷ []) ∷ loaded 1 3 (40 ∷ 40 ∷ []) ∷ loaded 1 8 (18446744073709551614 ∷ 0 ∷ []) ∷
      [];
  policy = record { tries = 2; tidy = false };
  txns = txn 2 (Scan 1 1 18446744073709551614 ∷ Scan 1 1 5 ∷ Del 1 8 ∷ Del 1 8 ∷ []) ∷ txn 1 (Scan 1 0 5 ∷
      Scan 1 2 18446744073709551614 ∷ Add 1 8 2 true 1 ∷ []) ∷ txn 1 (Scan 1 1 5 ∷ Get 1 8 ∷ []) ∷ [];
  schedule = Picks 17166963687621528531 33;
}

more_scans_3 : shown of_more_scans_3 [] ≡ record {
  logs =
      record {
        events = tried 2 1 0 4 0 0 (Locked (lock 1 8 0 0)) ∷ unbegun 2 2 (Again 2 7 8) ∷ tried 3 1 1 2 0 0 ReadOnly ∷
            [];
        reads = item 1 3 (Some (40 ∷ 40 ∷ [])) ∷ item 1 3 (Some (40 ∷ 40 ∷ [])) ∷
            item 1 8 (Some (18446744073709551614 ∷ 0 ∷ [])) ∷ item 1 8 (Some (18446744073709551614 ∷ 0 ∷ [])) ∷
            item 1 3 (Some (40 ∷ 40 ∷ [])) ∷ item 1 8 None ∷ [];
        locks = [];
        writes = [];
        snaps = (7 ∷ 7 ∷ []) ∷ (7 ∷ 8 ∷ []) ∷ [];
      } ∷
      record {
        events = tried 1 1 0 3 1 1 (Commit 8) ∷ [];
        reads = item 1 3 (Some (40 ∷ 40 ∷ [])) ∷ item 1 8 (Some (18446744073709551614 ∷ 0 ∷ [])) ∷
            item 1 3 (Some (40 ∷ 40 ∷ [])) ∷ [];
        locks = lock 1 8 0 0 ∷ [];
        writes = item 1 8 None ∷ [];
        snaps = (7 ∷ 7 ∷ []) ∷ [];
      } ∷
      [];
  audit = row 0 0 (Some (18446744073709551614 ∷ [])) false ∷ row 0 2 (Some (1 ∷ [])) false ∷
      row 0 5 (Some (18446744073709551614 ∷ [])) false ∷ row 0 8 (Some (0 ∷ [])) false ∷
      row 1 3 (Some (40 ∷ 40 ∷ [])) false ∷ [];
}
unfolding of_more_scans_3 stint_workers picked after_workers until_ended settle copies load_from
more_scans_3 = refl

unfoldable of_more_scans_4 : Scenario
of_more_scans_4 = record {
  shape = shape Narrow 3 (table 1 4 1 ∷ []) 1 1 0;
  rows = [];
  policy = record { tries = 1; tidy = false };
  txns = txn 3 (Guard 0 8 ∷ []) ∷ txn 3 (Add 0 3 1 true 3 ∷ Add 0 8 1 true 3 ∷ Add 0 1 1 true 0 ∷
      Scan 0 0 18446744073709551614 ∷ []) ∷ txn 1 (Add 0 8 1 true 1 ∷ Del 0 3 ∷ []) ∷
      txn 2 (Scan 0 0 18446744073709551614 ∷ []) ∷ [];
  schedule = Stints (stint 1 1 ∷ stint 2 8 ∷ stint 3 5 ∷ stint 2 1 ∷ stint 2 13 ∷ stint 2 5 ∷ stint 3 2 ∷ stint 1 1 ∷
      []);
}

more_scans_4 : shown of_more_scans_4 [] ≡ record {
  logs =
      record {
        events = tried 3 1 0 1 2 2 (Commit 1) ∷ [];
        reads = item 0 8 None ∷ [];
        locks = lock 0 8 0 0 ∷ lock 0 3 0 0 ∷ [];
        writes = item 0 8 (Some (1 ∷ [])) ∷ item 0 3 None ∷ [];
        snaps = (0 ∷ 0 ∷ 0 ∷ []) ∷ [];
      } ∷
      record {
        events = tried 4 1 0 0 0 0 ReadOnly ∷ [];
        reads = [];
        locks = [];
        writes = [];
        snaps = (0 ∷ 0 ∷ 0 ∷ []) ∷ [];
      } ∷
      record {
        events = tried 1 1 0 1 0 0 ReadOnly ∷ tried 2 1 0 6 0 0 (Locked (lock 0 3 0 0)) ∷ [];
        reads = item 0 8 None ∷ item 0 3 None ∷ item 0 8 None ∷ item 0 1 None ∷ item 0 1 (Some (0 ∷ [])) ∷
            item 0 3 (Some (3 ∷ [])) ∷ item 0 8 (Some (3 ∷ [])) ∷ [];
        locks = [];
        writes = [];
        snaps = (0 ∷ 0 ∷ 0 ∷ []) ∷ (0 ∷ 0 ∷ 0 ∷ []) ∷ [];
      } ∷
      [];
  audit = row 0 8 (Some (1 ∷ [])) false ∷ [];
}
unfolding of_more_scans_4 stint_workers picked after_workers until_ended settle copies load_from
more_scans_4 = refl

unfoldable of_more_scans_5 : Scenario
of_more_scans_5 = record {
  shape = shape Narrow 2 (table 1 2 3 ∷ []) 1 3 7;
  rows = loaded 0 8 (40 ∷ []) ∷ loaded 0 4 (40 ∷ []) ∷ [];
  policy = record { tries = 4; tidy = false };
  txns = txn 1 (Scan 0 0 18446744073709551614 ∷ []) ∷ txn 1 (Scan 0 0 18446744073709551614 ∷ []) ∷
      txn 1 (Scan 0 1 18446744073709551614 ∷ []) ∷
      txn 1 (Put 0 5 (9 ∷ []) ∷ Put 0 5 (1 ∷ []) ∷ Scan 0 0 3 ∷ Scan 0 0 3 ∷ []) ∷
      txn 2 (Scan 0 0 5 ∷ Guard 0 4 ∷ Guard 0 4 ∷ []) ∷ [];
  schedule = Stints (stint 1 1 ∷ stint 1 20 ∷ stint 1 5 ∷ []);
}

more_scans_5 : shown of_more_scans_5 (up ∷ fuse 21 ∷ []) ≡ record {
  logs =
      record {
        events = tried 1 1 0 2 0 0 ReadOnly ∷ tried 2 1 0 2 0 0 ReadOnly ∷ tried 3 1 0 2 0 0 ReadOnly ∷
            tried 4 1 0 0 0 0 (NoSpace 0) ∷ [];
        reads = item 0 4 (Some (40 ∷ [])) ∷ item 0 8 (Some (40 ∷ [])) ∷ item 0 4 (Some (40 ∷ [])) ∷
            item 0 8 (Some (40 ∷ [])) ∷ item 0 4 (Some (40 ∷ [])) ∷ item 0 8 (Some (40 ∷ [])) ∷ [];
        locks = [];
        writes = [];
        snaps = (7 ∷ 7 ∷ []) ∷ (7 ∷ 7 ∷ []) ∷ (7 ∷ 7 ∷ []) ∷ (7 ∷ 7 ∷ []) ∷ [];
      } ∷
      record {
        events = tried 5 1 0 2 0 0 Cut ∷ [];
        reads = item 0 4 (Some (40 ∷ [])) ∷ item 0 4 (Some (40 ∷ [])) ∷ [];
        locks = [];
        writes = [];
        snaps = (7 ∷ 7 ∷ []) ∷ [];
      } ∷
      [];
  audit = row 0 4 (Some (40 ∷ [])) false ∷ row 0 8 (Some (40 ∷ [])) false ∷ [];
}
unfolding of_more_scans_5 stint_workers picked after_workers until_ended settle copies load_from
more_scans_5 = refl

unfoldable of_more_scans_6 : Scenario
of_more_scans_6 = record {
  shape = shape Narrow 3 (table 1 4 1 ∷ table 1 1 1 ∷ []) 1 3 0;
  rows = loaded 0 5 (1 ∷ []) ∷ loaded 0 1 (0 ∷ []) ∷ [];
  policy = record { tries = 3; tidy = true };
  txns = txn 2 (Add 1 2 1 true 1 ∷ Scan 0 0 3 ∷ Scan 0 0 18446744073709551614 ∷ Need 1 0 1 0 ∷ []) ∷
      txn 3 (Scan 0 2 18446744073709551614 ∷ Need 0 5 1 5 ∷ []) ∷
      txn 2 (Add 0 8 1 true 1 ∷ Scan 1 0 18446744073709551614 ∷ Scan 1 0 3 ∷ Scan 1 0 18446744073709551614 ∷ []) ∷ [];
  schedule = Picks 9412559828521838271 56;
}

more_scans_6 : shown of_more_scans_6 (up ∷ up ∷ fuse 60 ∷ []) ≡ record {
  logs =
      record {
        events = [];
        reads = [];
        locks = [];
        writes = [];
        snaps = [];
      } ∷
      record {
        events = tried 1 1 0 5 1 1 (Commit 1) ∷ move 0 1 2 0 0 move_done ∷ tried 3 1 1 4 1 1 (Commit 2) ∷
            move 0 0 8 0 0 move_done ∷ [];
        reads = item 1 2 None ∷ item 0 1 (Some (0 ∷ [])) ∷ item 0 1 (Some (0 ∷ [])) ∷ item 0 5 (Some (1 ∷ [])) ∷
            item 1 0 None ∷ item 0 8 None ∷ item 1 2 (Some (1 ∷ [])) ∷ item 1 2 (Some (1 ∷ [])) ∷
            item 1 2 (Some (1 ∷ [])) ∷ [];
        locks = lock 1 2 0 0 ∷ lock 0 8 0 0 ∷ [];
        writes = item 1 2 (Some (1 ∷ [])) ∷ item 0 8 (Some (1 ∷ [])) ∷ [];
        snaps = (0 ∷ 0 ∷ 0 ∷ []) ∷ (0 ∷ 1 ∷ 0 ∷ []) ∷ [];
      } ∷
      record {
        events = tried 2 1 0 2 0 0 (Declined 2) ∷ [];
        reads = item 0 5 (Some (1 ∷ [])) ∷ item 0 5 (Some (1 ∷ [])) ∷ [];
        locks = [];
        writes = [];
        snaps = (0 ∷ 0 ∷ 0 ∷ []) ∷ [];
      } ∷
      [];
  audit = row 0 1 (Some (0 ∷ [])) false ∷ row 0 5 (Some (1 ∷ [])) false ∷ row 0 8 (Some (1 ∷ [])) false ∷
      row 1 2 (Some (1 ∷ [])) false ∷ [];
}
unfolding of_more_scans_6 stint_workers picked after_workers until_ended settle copies load_from
more_scans_6 = refl

unfoldable of_more_scans_7 : Scenario
of_more_scans_7 = record {
  shape = shape Wide 2 (table 1 2 1 ∷ []) 1 1 7;
  rows = loaded 0 3 (40 ∷ []) ∷ loaded 0 4 (5 ∷ []) ∷ [];
  policy = record { tries = 2; tidy = true };
  txns = txn 2 (Need 0 4 1 1 ∷ Scan 0 1 18446744073709551614 ∷ Put 0 4 (4 ∷ []) ∷ []) ∷
      txn 1 (Scan 0 0 18446744073709551614 ∷ Scan 0 0 5 ∷ Add 0 3 1 true 1 ∷ []) ∷ txn 1 (Put 0 3 (1 ∷ []) ∷ []) ∷
      txn 2 (Scan 0 0 18446744073709551614 ∷ Guard 0 4 ∷ []) ∷ txn 1 (Scan 0 1 5 ∷ Guard 0 0 ∷ []) ∷ [];
  schedule = Picks 15322357558442694601 87;
}

more_scans_7 : shown of_more_scans_7 [] ≡ record {
  logs =
      record {
        events = tried 2 1 0 5 1 1 (Commit 8) ∷ NoRoom 0 ∷ Collected 0 2 (8 ∷ 8 ∷ []) false ∷ move 0 0 3 0 0 move_done ∷
            tried 3 1 2 0 1 1 (Commit 9) ∷ NoRoom 0 ∷ Collected 0 3 (9 ∷ 8 ∷ []) false ∷ move 0 0 3 1 8 move_done ∷
            tried 5 1 3 3 0 0 (NoSpace 0) ∷ [];
        reads = item 0 3 (Some (40 ∷ [])) ∷ item 0 4 (Some (5 ∷ [])) ∷ item 0 3 (Some (40 ∷ [])) ∷
            item 0 4 (Some (5 ∷ [])) ∷ item 0 3 (Some (40 ∷ [])) ∷ item 0 3 (Some (1 ∷ [])) ∷ item 0 4 (Some (4 ∷ [])) ∷
            item 0 0 None ∷ [];
        locks = lock 0 3 0 0 ∷ lock 0 3 1 8 ∷ [];
        writes = item 0 3 (Some (41 ∷ [])) ∷ item 0 3 (Some (1 ∷ [])) ∷ [];
        snaps = (7 ∷ 7 ∷ []) ∷ (8 ∷ 8 ∷ []) ∷ (8 ∷ 8 ∷ []) ∷ (9 ∷ 8 ∷ []) ∷ (9 ∷ 8 ∷ []) ∷ [];
      } ∷
      record {
        events = tried 1 1 0 3 1 1 (Commit 8) ∷ move 0 0 4 0 0 move_done ∷ tried 4 1 2 3 0 0 ReadOnly ∷ [];
        reads = item 0 4 (Some (5 ∷ [])) ∷ item 0 3 (Some (40 ∷ [])) ∷ item 0 4 (Some (5 ∷ [])) ∷
            item 0 3 (Some (41 ∷ [])) ∷ item 0 4 (Some (4 ∷ [])) ∷ item 0 4 (Some (4 ∷ [])) ∷ [];
        locks = lock 0 4 0 0 ∷ [];
        writes = item 0 4 (Some (4 ∷ [])) ∷ [];
        snaps = (7 ∷ 7 ∷ []) ∷ (8 ∷ 8 ∷ []) ∷ [];
      } ∷
      [];
  audit = row 0 3 (Some (1 ∷ [])) false ∷ row 0 4 (Some (4 ∷ [])) false ∷ [];
}
unfolding of_more_scans_7 stint_workers picked after_workers until_ended settle copies load_from
more_scans_7 = refl

unfoldable of_more_scans_8 : Scenario
of_more_scans_8 = record {
  shape = shape Narrow 2 (table 1 3 1 ∷ []) 1 1 0;
  rows = [];
  policy = record { tries = 2; tidy = true };
  txns = txn 2 (Scan 0 1 3 ∷ []) ∷ txn 1 (Put 0 8 (2 ∷ []) ∷ Scan 0 1 5 ∷ []) ∷ txn 1 (Scan 0 1 3 ∷ []) ∷
      txn 2 (Del 0 0 ∷ Scan 0 0 18446744073709551614 ∷ Scan 0 0 18446744073709551614 ∷ Scan 0 0 18446744073709551614 ∷
      []) ∷ txn 2 (Get 0 8 ∷ []) ∷ [];
  schedule = Stints (stint 2 8 ∷ stint 1 8 ∷ stint 2 5 ∷ stint 1 20 ∷ stint 1 20 ∷ stint 1 8 ∷ stint 1 8 ∷ stint 1 13 ∷
      stint 1 8 ∷ []);
}

more_scans_8 : shown of_more_scans_8 (fuse 17 ∷ up ∷ []) ≡ record {
  logs =
      record {
        events = tried 2 1 0 0 1 0 Cut ∷ [];
        reads = [];
        locks = lock 0 8 0 0 ∷ [];
        writes = [];
        snaps = (0 ∷ 0 ∷ []) ∷ [];
      } ∷
      record {
        events = tried 1 1 0 0 0 0 ReadOnly ∷ tried 4 1 0 0 1 1 (Commit 1) ∷ move 0 0 0 0 0 move_done ∷
            tried 5 1 1 1 0 0 ReadOnly ∷ [];
        reads = item 0 8 None ∷ [];
        locks = lock 0 0 0 0 ∷ [];
        writes = item 0 0 None ∷ [];
        snaps = (0 ∷ 0 ∷ []) ∷ (0 ∷ 0 ∷ []) ∷ (0 ∷ 1 ∷ []) ∷ [];
      } ∷
      [];
  audit = row 0 8 None true ∷ [];
}
unfolding of_more_scans_8 stint_workers picked after_workers until_ended settle copies load_from
more_scans_8 = refl

unfoldable of_more_scans_9 : Scenario
of_more_scans_9 = record {
  shape = shape Narrow 2 (table 1 1 3 ∷ []) 1 1 7;
  rows = loaded 0 2 (0 ∷ []) ∷ [];
  policy = record { tries = 3; tidy = false };
  txns = txn 2 (Need 0 2 1 0 ∷ []) ∷ txn 1 (Guard 0 2 ∷ Del 0 2 ∷ Scan 0 0 3 ∷ Scan 0 2 5 ∷ []) ∷
      txn 2 (Put 0 2 (5 ∷ []) ∷ Scan 0 0 3 ∷ Put 0 2 (1 ∷ []) ∷ []) ∷ txn 1 (Get 0 2 ∷ Add 0 2 1 true 3 ∷ []) ∷
      txn 2 (Scan 0 2 3 ∷ Put 0 2 (4 ∷ []) ∷ Put 0 2 (8 ∷ []) ∷ []) ∷ [];
  schedule = Picks 12448774025145999576 259;
}

more_scans_9 : shown of_more_scans_9 [] ≡ record {
  logs =
      record {
        events = tried 2 1 0 1 0 0 (Newer (lock 0 2 2 8)) ∷ tried 2 2 1 1 0 0 (Newer (lock 0 2 2 9)) ∷
            tried 2 3 2 1 1 1 (Commit 8) ∷ tried 4 1 3 2 1 0 (Full (lock 0 2 0 0)) ∷
            tried 4 2 3 2 1 0 (Full (lock 0 2 0 0)) ∷ tried 4 3 3 2 1 0 (Full (lock 0 2 0 0)) ∷ [];
        reads = item 0 2 (Some (0 ∷ [])) ∷ item 0 2 (Some (1 ∷ [])) ∷ item 0 2 (Some (8 ∷ [])) ∷ item 0 2 None ∷
            item 0 2 None ∷ item 0 2 None ∷ item 0 2 None ∷ item 0 2 None ∷ item 0 2 None ∷ [];
        locks = lock 0 2 2 9 ∷ lock 0 2 1 8 ∷ lock 0 2 1 8 ∷ lock 0 2 1 8 ∷ [];
        writes = item 0 2 None ∷ [];
        snaps = (7 ∷ 7 ∷ []) ∷ (7 ∷ 8 ∷ []) ∷ (7 ∷ 9 ∷ []) ∷ (8 ∷ 9 ∷ []) ∷ (8 ∷ 9 ∷ []) ∷ (8 ∷ 9 ∷ []) ∷ [];
      } ∷
      record {
        events = tried 1 1 0 1 0 0 ReadOnly ∷ tried 3 1 0 1 1 1 (Commit 8) ∷ tried 5 1 1 1 1 1 (Commit 9) ∷ [];
        reads = item 0 2 (Some (0 ∷ [])) ∷ item 0 2 (Some (5 ∷ [])) ∷ item 0 2 (Some (1 ∷ [])) ∷ [];
        locks = lock 0 2 0 0 ∷ lock 0 2 2 8 ∷ [];
        writes = item 0 2 (Some (1 ∷ [])) ∷ item 0 2 (Some (8 ∷ [])) ∷ [];
        snaps = (7 ∷ 7 ∷ []) ∷ (7 ∷ 7 ∷ []) ∷ (7 ∷ 8 ∷ []) ∷ [];
      } ∷
      [];
  audit = [];
}
unfolding of_more_scans_9 stint_workers picked after_workers until_ended settle copies load_from
more_scans_9 = refl

unfoldable of_more_scans_10 : Scenario
of_more_scans_10 = record {
  shape = shape Narrow 1 (table 2 4 1 ∷ []) 2 2 7;
  rows = loaded 0 3 (0 ∷ 5 ∷ []) ∷ loaded 0 1 (1 ∷ 5 ∷ []) ∷ loaded 0 18446744073709551614 (40 ∷ 40 ∷ []) ∷
      loaded 0 8 (18446744073709551614 ∷ 1 ∷ []) ∷ [];
  policy = record { tries = 4; tidy = false };
  txns = txn 1 (Scan 0 0 18446744073709551614 ∷ Scan 0 0 3 ∷ []) ∷ txn 1 (Add 0 3 2 true 3 ∷ Get 0 3 ∷ []) ∷
      txn 1 (Scan 0 1 18446744073709551614 ∷ Need 0 1 2 0 ∷ Add 0 18446744073709551614 2 true 1 ∷ Need 0 1 2 0 ∷ []) ∷
      txn 1 (Put 0 3 (0 ∷ 0 ∷ []) ∷ Put 0 18446744073709551614 (3 ∷ 5 ∷ []) ∷ Guard 0 1 ∷ Put 0 3 (8 ∷ 4 ∷ []) ∷ []) ∷
      txn 1 (Put 0 1 (2 ∷ 1 ∷ []) ∷ []) ∷ txn 1 (Put 0 18446744073709551614 (0 ∷ 9 ∷ []) ∷ []) ∷ [];
  schedule = Picks 3970870166342838651 227;
}

more_scans_10 : shown of_more_scans_10 [] ≡ record {
  logs =
      record {
        events = tried 1 1 0 6 0 0 ReadOnly ∷ tried 2 1 0 2 1 1 (Commit 8) ∷ tried 3 1 1 7 1 1 (Commit 9) ∷
            tried 4 1 2 1 3 0 (Full (lock 0 3 0 0)) ∷ tried 4 2 2 1 3 0 (Full (lock 0 3 0 0)) ∷
            tried 4 3 2 1 3 0 (Full (lock 0 3 0 0)) ∷ tried 4 4 2 1 3 0 (Full (lock 0 3 0 0)) ∷
            tried 5 1 2 0 1 1 (Commit 10) ∷ tried 6 1 3 0 1 0 (Full (lock 0 18446744073709551614 0 0)) ∷
            tried 6 2 3 0 1 0 (Full (lock 0 18446744073709551614 0 0)) ∷
            tried 6 3 3 0 1 0 (Full (lock 0 18446744073709551614 0 0)) ∷
            tried 6 4 3 0 1 0 (Full (lock 0 18446744073709551614 0 0)) ∷ [];
        reads = item 0 1 (Some (1 ∷ 5 ∷ [])) ∷ item 0 3 (Some (0 ∷ 5 ∷ [])) ∷
            item 0 8 (Some (18446744073709551614 ∷ 1 ∷ [])) ∷ item 0 18446744073709551614 (Some (40 ∷ 40 ∷ [])) ∷
            item 0 1 (Some (1 ∷ 5 ∷ [])) ∷ item 0 3 (Some (0 ∷ 5 ∷ [])) ∷ item 0 3 (Some (0 ∷ 5 ∷ [])) ∷
            item 0 3 (Some (0 ∷ 8 ∷ [])) ∷ item 0 1 (Some (1 ∷ 5 ∷ [])) ∷ item 0 3 (Some (0 ∷ 8 ∷ [])) ∷
            item 0 8 (Some (18446744073709551614 ∷ 1 ∷ [])) ∷ item 0 18446744073709551614 (Some (40 ∷ 40 ∷ [])) ∷
            item 0 1 (Some (1 ∷ 5 ∷ [])) ∷ item 0 18446744073709551614 (Some (40 ∷ 40 ∷ [])) ∷
            item 0 1 (Some (1 ∷ 5 ∷ [])) ∷ item 0 1 (Some (1 ∷ 5 ∷ [])) ∷ item 0 1 (Some (1 ∷ 5 ∷ [])) ∷
            item 0 1 (Some (1 ∷ 5 ∷ [])) ∷ item 0 1 (Some (1 ∷ 5 ∷ [])) ∷ [];
        locks = lock 0 3 0 0 ∷ lock 0 18446744073709551614 0 0 ∷ lock 0 3 1 8 ∷ lock 0 18446744073709551614 1 9 ∷
            lock 0 1 0 0 ∷ lock 0 3 1 8 ∷ lock 0 18446744073709551614 1 9 ∷ lock 0 1 0 0 ∷ lock 0 3 1 8 ∷
            lock 0 18446744073709551614 1 9 ∷ lock 0 1 0 0 ∷ lock 0 3 1 8 ∷ lock 0 18446744073709551614 1 9 ∷
            lock 0 1 0 0 ∷ lock 0 1 0 0 ∷ lock 0 18446744073709551614 1 9 ∷ lock 0 18446744073709551614 1 9 ∷
            lock 0 18446744073709551614 1 9 ∷ lock 0 18446744073709551614 1 9 ∷ [];
        writes = item 0 3 (Some (0 ∷ 8 ∷ [])) ∷ item 0 18446744073709551614 (Some (40 ∷ 41 ∷ [])) ∷
            item 0 1 (Some (2 ∷ 1 ∷ [])) ∷ [];
        snaps = (7 ∷ []) ∷ (7 ∷ []) ∷ (8 ∷ []) ∷ (9 ∷ []) ∷ (9 ∷ []) ∷ (9 ∷ []) ∷ (9 ∷ []) ∷ (9 ∷ []) ∷ (10 ∷ []) ∷
            (10 ∷ []) ∷ (10 ∷ []) ∷ (10 ∷ []) ∷ [];
      } ∷
      [];
  audit = row 0 1 (Some (2 ∷ 1 ∷ [])) false ∷ row 0 3 (Some (0 ∷ 8 ∷ [])) false ∷
      row 0 8 (Some (18446744073709551614 ∷ 1 ∷ [])) false ∷ row 0 18446744073709551614 (Some (40 ∷ 41 ∷ [])) false ∷
      [];
}
unfolding of_more_scans_10 stint_workers picked after_workers until_ended settle copies load_from
more_scans_10 = refl

unfoldable of_more_scans_11 : Scenario
of_more_scans_11 = record {
  shape = shape Held 2 (table 2 3 3 ∷ []) 1 2 0;
  rows = loaded 0 2 (0 ∷ 1 ∷ []) ∷ loaded 0 1 (18446744073709551614 ∷ 1 ∷ []) ∷ loaded 0 4 (1 ∷ 0 ∷ []) ∷ [];
  policy = record { tries = 1; tidy = true };
  txns = txn 1 (Add 0 18446744073709551614 1 true 1 ∷ []) ∷ txn 2 (Get 0 2 ∷ Guard 0 2 ∷ Scan 0 0 18446744073709551614 ∷
      Del 0 18446744073709551614 ∷ []) ∷ txn 2 (Add 0 1 1 true 3 ∷ Need 0 18446744073709551614 2 0 ∷ Guard 0 2 ∷
      Scan 0 0 18446744073709551614 ∷ []) ∷ [];
  schedule = Picks 5952517850724646727 58;
}

more_scans_11 : shown of_more_scans_11 [] ≡ record {
  logs =
      record {
        events = tried 1 1 0 1 0 0 (NoSpace 0) ∷ [];
        reads = item 0 18446744073709551614 None ∷ [];
        locks = [];
        writes = [];
        snaps = (0 ∷ 0 ∷ []) ∷ [];
      } ∷
      record {
        events = tried 2 1 0 5 0 0 (NoSpace 0) ∷ tried 3 1 0 1 0 0 (Declined 1) ∷ [];
        reads = item 0 2 (Some (0 ∷ 1 ∷ [])) ∷ item 0 2 (Some (0 ∷ 1 ∷ [])) ∷
            item 0 1 (Some (18446744073709551614 ∷ 1 ∷ [])) ∷ item 0 2 (Some (0 ∷ 1 ∷ [])) ∷
            item 0 4 (Some (1 ∷ 0 ∷ [])) ∷ item 0 1 (Some (18446744073709551614 ∷ 1 ∷ [])) ∷ [];
        locks = [];
        writes = [];
        snaps = (0 ∷ 0 ∷ []) ∷ (0 ∷ 0 ∷ []) ∷ [];
      } ∷
      [];
  audit = row 0 1 (Some (18446744073709551614 ∷ 1 ∷ [])) false ∷ row 0 2 (Some (0 ∷ 1 ∷ [])) false ∷
      row 0 4 (Some (1 ∷ 0 ∷ [])) false ∷ [];
}
unfolding of_more_scans_11 stint_workers picked after_workers until_ended settle copies load_from
more_scans_11 = refl

unfoldable of_more_scans_12 : Scenario
of_more_scans_12 = record {
  shape = shape Narrow 1 (table 2 2 1 ∷ []) 1 2 0;
  rows = loaded 0 3 (18446744073709551614 ∷ 18446744073709551614 ∷ []) ∷ [];
  policy = record { tries = 2; tidy = true };
  txns = txn 1 (Guard 0 0 ∷ []) ∷ txn 1 (Need 0 0 2 0 ∷ Del 0 0 ∷ Scan 0 2 18446744073709551614 ∷ Put 0 3 (4 ∷ 9 ∷ []) ∷
      []) ∷ txn 1 (Add 0 3 2 true 1 ∷ Guard 0 0 ∷ Add 0 0 1 true 0 ∷ []) ∷ txn 1 (Del 0 0 ∷ []) ∷ [];
  schedule = Stints (stint 1 3 ∷ stint 1 2 ∷ stint 1 13 ∷ stint 1 13 ∷ stint 1 2 ∷ stint 1 40 ∷ stint 1 40 ∷ stint 1 1 ∷
      []);
}

more_scans_12 : shown of_more_scans_12 (fuse 8 ∷ []) ≡ record {
  logs =
      record {
        events = tried 1 1 0 1 0 0 ReadOnly ∷ tried 2 1 0 0 0 0 Cut ∷ [];
        reads = item 0 0 None ∷ [];
        locks = [];
        writes = [];
        snaps = (0 ∷ []) ∷ (0 ∷ []) ∷ [];
      } ∷
      [];
  audit = row 0 3 (Some (18446744073709551614 ∷ 18446744073709551614 ∷ [])) false ∷ [];
}
unfolding of_more_scans_12 stint_workers picked after_workers until_ended settle copies load_from
more_scans_12 = refl

unfoldable of_more_scans_13 : Scenario
of_more_scans_13 = record {
  shape = shape Wide 3 (table 1 2 3 ∷ table 2 1 1 ∷ []) 2 1 0;
  rows = loaded 1 1 (5 ∷ 1 ∷ []) ∷ [];
  policy = record { tries = 4; tidy = true };
  txns = txn 3 (Scan 0 2 5 ∷ Del 0 18446744073709551614 ∷ Scan 0 0 18446744073709551614 ∷ []) ∷
      txn 1 (Guard 0 18446744073709551614 ∷ []) ∷ txn 3 (Del 0 18446744073709551614 ∷ []) ∷
      txn 1 (Put 0 18446744073709551614 (7 ∷ []) ∷ []) ∷
      txn 2 (Scan 0 2 18446744073709551614 ∷ Scan 0 2 18446744073709551614 ∷ []) ∷
      txn 1 (Guard 0 18446744073709551614 ∷ Scan 0 0 3 ∷ Guard 0 18446744073709551614 ∷ []) ∷ [];
  schedule = Picks 6090917524182943165 237;
}

more_scans_13 : shown of_more_scans_13 [] ≡ record {
  logs =
      record {
        events = tried 2 1 0 1 0 0 ReadOnly ∷ tried 4 1 0 0 1 1 (Commit 1) ∷ tried 6 1 1 2 0 0 ReadOnly ∷ [];
        reads = item 0 18446744073709551614 None ∷ item 0 18446744073709551614 (Some (7 ∷ [])) ∷
            item 0 18446744073709551614 (Some (7 ∷ [])) ∷ [];
        locks = lock 0 18446744073709551614 0 0 ∷ [];
        writes = item 0 18446744073709551614 (Some (7 ∷ [])) ∷ [];
        snaps = (0 ∷ 0 ∷ 0 ∷ []) ∷ (0 ∷ 0 ∷ 0 ∷ []) ∷ (1 ∷ 0 ∷ 0 ∷ []) ∷ [];
      } ∷
      record {
        events = tried 5 1 0 0 0 0 ReadOnly ∷ [];
        reads = [];
        locks = [];
        writes = [];
        snaps = (0 ∷ 0 ∷ 0 ∷ []) ∷ [];
      } ∷
      record {
        events = tried 1 1 0 0 0 0 (Locked (lock 0 18446744073709551614 0 0)) ∷
            tried 1 2 0 0 0 0 (Newer (lock 0 18446744073709551614 1 1)) ∷ tried 1 3 1 0 1 1 (Commit 1) ∷
            tried 3 1 2 0 1 1 (Commit 2) ∷ move 0 0 18446744073709551614 0 0 move_done ∷ [];
        reads = [];
        locks = lock 0 18446744073709551614 1 1 ∷ lock 0 18446744073709551614 3 1 ∷ [];
        writes = item 0 18446744073709551614 None ∷ item 0 18446744073709551614 None ∷ [];
        snaps = (0 ∷ 0 ∷ 0 ∷ []) ∷ (0 ∷ 0 ∷ 0 ∷ []) ∷ (1 ∷ 0 ∷ 0 ∷ []) ∷ (1 ∷ 0 ∷ 1 ∷ []) ∷ [];
      } ∷
      [];
  audit = row 1 1 (Some (5 ∷ 1 ∷ [])) false ∷ [];
}
unfolding of_more_scans_13 stint_workers picked after_workers until_ended settle copies load_from
more_scans_13 = refl

unfoldable of_more_scans_14 : Scenario
of_more_scans_14 = record {
  shape = shape Narrow 2 (table 1 2 3 ∷ table 1 4 1 ∷ []) 2 1 0;
  rows = loaded 0 18446744073709551614 (0 ∷ []) ∷ loaded 0 8 (40 ∷ []) ∷ [];
  policy = record { tries = 1; tidy = false };
  txns = txn 1 (Scan 1 0 3 ∷ Add 1 2 1 true 1 ∷ Need 1 2 1 0 ∷ []) ∷ txn 2 (Get 1 2 ∷ []) ∷
      txn 2 (Add 1 3 1 false 0 ∷ Need 1 2 1 1 ∷ Scan 1 0 5 ∷ Add 1 2 1 true 3 ∷ []) ∷ txn 1 (Scan 1 2 3 ∷ []) ∷
      txn 2 (Add 1 2 1 false 1 ∷ []) ∷ [];
  schedule = Picks 2024128470744701166 251;
}

more_scans_14 : shown of_more_scans_14 (fuse 49 ∷ up ∷ []) ≡ record {
  logs =
      record {
        events = tried 1 1 0 2 1 1 (Commit 1) ∷ tried 4 1 1 1 0 0 ReadOnly ∷ [];
        reads = item 1 2 None ∷ item 1 2 (Some (1 ∷ [])) ∷ item 1 2 (Some (1 ∷ [])) ∷ [];
        locks = lock 1 2 0 0 ∷ [];
        writes = item 1 2 (Some (1 ∷ [])) ∷ [];
        snaps = (0 ∷ 0 ∷ []) ∷ (1 ∷ 0 ∷ []) ∷ [];
      } ∷
      record {
        events = tried 2 1 0 1 0 0 ReadOnly ∷ tried 3 1 0 2 0 0 (Declined 2) ∷ unbegun 5 1 (Again 1 0 1) ∷ [];
        reads = item 1 2 None ∷ item 1 3 None ∷ item 1 2 None ∷ [];
        locks = [];
        writes = [];
        snaps = (0 ∷ 0 ∷ []) ∷ (0 ∷ 0 ∷ []) ∷ [];
      } ∷
      [];
  audit = row 0 8 (Some (40 ∷ [])) false ∷ row 0 18446744073709551614 (Some (0 ∷ [])) false ∷
      row 1 2 (Some (1 ∷ [])) false ∷ [];
}
unfolding of_more_scans_14 stint_workers picked after_workers until_ended settle copies load_from
more_scans_14 = refl

unfoldable of_more_scans_15 : Scenario
of_more_scans_15 = record {
  shape = shape Narrow 1 (table 2 3 3 ∷ []) 1 3 0;
  rows = loaded 0 18446744073709551614 (1 ∷ 40 ∷ []) ∷ loaded 0 2 (40 ∷ 1 ∷ []) ∷ [];
  policy = record { tries = 1; tidy = true };
  txns = txn 1 (Add 0 4 2 true 1 ∷ Need 0 4 2 0 ∷ Need 0 18446744073709551614 1 0 ∷ []) ∷ txn 1 (Get 0 2 ∷ []) ∷
      txn 1 (Scan 0 0 3 ∷ []) ∷ txn 1 (Scan 0 0 3 ∷ []) ∷ [];
  schedule = Picks 10668774763142200315 41;
}

more_scans_15 : shown of_more_scans_15 [] ≡ record {
  logs =
      record {
        events = tried 1 1 0 3 1 1 (Commit 1) ∷ tried 2 1 1 1 0 0 ReadOnly ∷ tried 3 1 1 1 0 0 ReadOnly ∷
            tried 4 1 1 1 0 0 ReadOnly ∷ [];
        reads = item 0 4 None ∷ item 0 4 (Some (0 ∷ 1 ∷ [])) ∷ item 0 18446744073709551614 (Some (1 ∷ 40 ∷ [])) ∷
            item 0 2 (Some (40 ∷ 1 ∷ [])) ∷ item 0 2 (Some (40 ∷ 1 ∷ [])) ∷ item 0 2 (Some (40 ∷ 1 ∷ [])) ∷ [];
        locks = lock 0 4 0 0 ∷ [];
        writes = item 0 4 (Some (0 ∷ 1 ∷ [])) ∷ [];
        snaps = (0 ∷ []) ∷ (1 ∷ []) ∷ (1 ∷ []) ∷ (1 ∷ []) ∷ [];
      } ∷
      [];
  audit = row 0 2 (Some (40 ∷ 1 ∷ [])) false ∷ row 0 4 (Some (0 ∷ 1 ∷ [])) false ∷
      row 0 18446744073709551614 (Some (1 ∷ 40 ∷ [])) false ∷ [];
}
unfolding of_more_scans_15 stint_workers picked after_workers until_ended settle copies load_from
more_scans_15 = refl
