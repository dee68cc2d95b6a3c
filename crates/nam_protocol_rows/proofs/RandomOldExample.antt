-- Random scripts in which a snapshot gets too old, of a simulator of its own.
use Rattle.std.proofs.Common.{◌≡◌, true, false, [], ◌∷◌, Some, None, refl}
use Rattle.nam_catalog.specs.declared.form.Form.TheVariants.{Narrow, Wide, Held}
use Rattle.si_model.specs.declared.op.Op.TheVariants.{Get, Put, Add, Del, Need, Guard, Scan}
use Rattle.si_model.specs.declared.log.Outcome.TheVariants.{Commit, ReadOnly, Declined, NoSpace, TooOld}
use Rattle.si_model.specs.declared.log.Event.TheVariants.{NoRoom, Collected}
use Rattle.nam_protocol.specs.Schedule.{Scenario, Stints, stint_workers, picked, after_workers, until_ended}
use Rattle.nam_protocol.specs.Session.{settle}
use Rattle.nam_protocol.specs.Opening.{copies, load_from}
use Rattle.nam_protocol.proofs.Shown.{shape, table, loaded, txn, stint, item, row, lock, tried, move, move_done, shown}

unfoldable of_old_1 : Scenario
of_old_1 = record {
  shape = shape Narrow 3 (table 1 1 1 ∷ []) 1 1 0;
  rows = [];
  policy = record { tries = 4; tidy = true };
  txns = txn 2 (Add 0 18446744073709551614 1 false 1 ∷ Add 0 18446744073709551614 1 true 0 ∷
      Add 0 18446744073709551614 1 true 1 ∷ []) ∷
      txn 2 (Del 0 18446744073709551614 ∷ Add 0 18446744073709551614 1 true 0 ∷ []) ∷
      txn 2 (Get 0 18446744073709551614 ∷ Put 0 18446744073709551614 (1 ∷ []) ∷ Need 0 18446744073709551614 1 0 ∷
      Add 0 18446744073709551614 1 true 0 ∷ []) ∷ txn 1 (Scan 0 0 18446744073709551614 ∷ []) ∷ [];
  schedule = Stints (stint 1 6 ∷ stint 2 125 ∷ []);
}

old_1 : shown of_old_1 [] ≡ record {
  logs =
      record {
        events = tried 4 1 0 0 0 0 (TooOld 2 0 2) ∷ tried 4 2 2 1 0 0 ReadOnly ∷ [];
        reads = item 0 18446744073709551614 (Some (1 ∷ [])) ∷ [];
        locks = [];
        writes = [];
        snaps = (0 ∷ 0 ∷ 0 ∷ []) ∷ (0 ∷ 2 ∷ 0 ∷ []) ∷ [];
      } ∷
      record {
        events = tried 1 1 0 1 0 0 (Declined 1) ∷ tried 2 1 0 1 1 1 (Commit 1) ∷
            move 0 0 18446744073709551614 0 0 move_done ∷ tried 3 1 1 3 1 1 (Commit 2) ∷ NoRoom 0 ∷
            Collected 0 2 (0 ∷ 2 ∷ 0 ∷ []) false ∷ move 0 0 18446744073709551614 2 1 move_done ∷ [];
        reads = item 0 18446744073709551614 None ∷ item 0 18446744073709551614 None ∷
            item 0 18446744073709551614 (Some (0 ∷ [])) ∷ item 0 18446744073709551614 (Some (1 ∷ [])) ∷
            item 0 18446744073709551614 (Some (1 ∷ [])) ∷ [];
        locks = lock 0 18446744073709551614 0 0 ∷ lock 0 18446744073709551614 2 1 ∷ [];
        writes = item 0 18446744073709551614 (Some (0 ∷ [])) ∷ item 0 18446744073709551614 (Some (1 ∷ [])) ∷ [];
        snaps = (0 ∷ 0 ∷ 0 ∷ []) ∷ (0 ∷ 0 ∷ 0 ∷ []) ∷ (0 ∷ 1 ∷ 0 ∷ []) ∷ (0 ∷ 2 ∷ 0 ∷ []) ∷ [];
      } ∷
      record {
        events = [];
        reads = [];
        locks = [];
        writes = [];
        snaps = [];
      } ∷
      [];
  audit = row 0 18446744073709551614 (Some (1 ∷ [])) false ∷ [];
}
unfolding of_old_1 stint_workers picked after_workers until_ended settle copies load_from
old_1 = refl

unfoldable of_old_2 : Scenario
of_old_2 = record {
  shape = shape Narrow 2 (table 1 2 1 ∷ []) 1 1 0;
  rows = loaded 0 3 (1 ∷ []) ∷ loaded 0 2 (18446744073709551614 ∷ []) ∷ [];
  policy = record { tries = 2; tidy = true };
  txns = txn 1 (Add 0 1 1 true 0 ∷ Scan 0 2 3 ∷ Get 0 2 ∷ Scan 0 0 18446744073709551614 ∷ []) ∷
      txn 1 (Add 0 2 1 true 0 ∷ []) ∷ txn 1 (Scan 0 1 18446744073709551614 ∷ []) ∷
      txn 1 (Scan 0 0 18446744073709551614 ∷ Scan 0 0 5 ∷ Put 0 2 (9 ∷ []) ∷ []) ∷ txn 1 (Del 0 3 ∷ []) ∷
      txn 1 (Scan 0 2 18446744073709551614 ∷ Scan 0 0 18446744073709551614 ∷ []) ∷
      txn 2 (Scan 0 0 18446744073709551614 ∷ []) ∷ [];
  schedule = Stints (stint 2 5 ∷ stint 1 156 ∷ []);
}

old_2 : shown of_old_2 [] ≡ record {
  logs =
      record {
        events = tried 1 1 0 1 0 0 (NoSpace 0) ∷ tried 2 1 0 1 1 1 (Commit 1) ∷ move 0 0 2 0 0 move_done ∷
            tried 3 1 1 2 0 0 ReadOnly ∷ tried 4 1 1 4 1 1 (Commit 2) ∷ NoRoom 0 ∷ Collected 0 2 (2 ∷ 0 ∷ []) false ∷
            move 0 0 2 1 1 move_done ∷ tried 5 1 2 0 1 1 (Commit 3) ∷ NoRoom 0 ∷ Collected 0 3 (3 ∷ 0 ∷ []) false ∷
            move 0 0 3 0 0 move_done ∷ tried 6 1 3 2 0 0 ReadOnly ∷ [];
        reads = item 0 1 None ∷ item 0 2 (Some (18446744073709551614 ∷ [])) ∷
            item 0 2 (Some (18446744073709551614 ∷ [])) ∷ item 0 3 (Some (1 ∷ [])) ∷
            item 0 2 (Some (18446744073709551614 ∷ [])) ∷ item 0 3 (Some (1 ∷ [])) ∷
            item 0 2 (Some (18446744073709551614 ∷ [])) ∷ item 0 3 (Some (1 ∷ [])) ∷ item 0 2 (Some (9 ∷ [])) ∷
            item 0 2 (Some (9 ∷ [])) ∷ [];
        locks = lock 0 2 0 0 ∷ lock 0 2 1 1 ∷ lock 0 3 0 0 ∷ [];
        writes = item 0 2 (Some (18446744073709551614 ∷ [])) ∷ item 0 2 (Some (9 ∷ [])) ∷ item 0 3 None ∷ [];
        snaps = (0 ∷ 0 ∷ []) ∷ (0 ∷ 0 ∷ []) ∷ (1 ∷ 0 ∷ []) ∷ (1 ∷ 0 ∷ []) ∷ (2 ∷ 0 ∷ []) ∷ (2 ∷ 0 ∷ []) ∷
            (3 ∷ 0 ∷ []) ∷ (3 ∷ 0 ∷ []) ∷ [];
      } ∷
      record {
        events = tried 7 1 0 0 0 0 (TooOld 1 0 3) ∷ tried 7 2 3 1 0 0 ReadOnly ∷ [];
        reads = item 0 2 (Some (9 ∷ [])) ∷ [];
        locks = [];
        writes = [];
        snaps = (0 ∷ 0 ∷ []) ∷ (3 ∷ 0 ∷ []) ∷ [];
      } ∷
      [];
  audit = row 0 2 (Some (9 ∷ [])) false ∷ [];
}
unfolding of_old_2 stint_workers picked after_workers until_ended settle copies load_from
old_2 = refl

unfoldable of_old_3 : Scenario
of_old_3 = record {
  shape = shape Narrow 2 (table 1 2 1 ∷ []) 1 1 0;
  rows = loaded 0 2 (5 ∷ []) ∷ loaded 0 3 (1 ∷ []) ∷ [];
  policy = record { tries = 3; tidy = true };
  txns = txn 1 (Scan 0 0 18446744073709551614 ∷ Scan 0 2 18446744073709551614 ∷ []) ∷
      txn 1 (Scan 0 2 18446744073709551614 ∷ Scan 0 1 3 ∷ Del 0 2 ∷ []) ∷ txn 1 (Add 0 2 1 true 1 ∷ []) ∷
      txn 1 (Scan 0 0 3 ∷ Add 0 3 1 true 1 ∷ Add 0 4 1 false 1 ∷ Del 0 4 ∷ []) ∷ txn 2 (Get 0 2 ∷ []) ∷ [];
  schedule = Stints (stint 2 4 ∷ stint 1 100 ∷ []);
}

old_3 : shown of_old_3 [] ≡ record {
  logs =
      record {
        events = tried 1 1 0 4 0 0 ReadOnly ∷ tried 2 1 0 4 1 1 (Commit 1) ∷ move 0 0 2 0 0 move_done ∷
            tried 3 1 1 1 1 1 (Commit 2) ∷ NoRoom 0 ∷ Collected 0 2 (2 ∷ 0 ∷ []) false ∷ move 0 0 2 1 1 move_done ∷
            tried 4 1 2 4 0 0 (Declined 3) ∷ [];
        reads = item 0 2 (Some (5 ∷ [])) ∷ item 0 3 (Some (1 ∷ [])) ∷ item 0 2 (Some (5 ∷ [])) ∷
            item 0 3 (Some (1 ∷ [])) ∷ item 0 2 (Some (5 ∷ [])) ∷ item 0 3 (Some (1 ∷ [])) ∷ item 0 2 (Some (5 ∷ [])) ∷
            item 0 3 (Some (1 ∷ [])) ∷ item 0 2 None ∷ item 0 2 (Some (1 ∷ [])) ∷ item 0 3 (Some (1 ∷ [])) ∷
            item 0 3 (Some (1 ∷ [])) ∷ item 0 4 None ∷ [];
        locks = lock 0 2 0 0 ∷ lock 0 2 1 1 ∷ [];
        writes = item 0 2 None ∷ item 0 2 (Some (1 ∷ [])) ∷ [];
        snaps = (0 ∷ 0 ∷ []) ∷ (0 ∷ 0 ∷ []) ∷ (1 ∷ 0 ∷ []) ∷ (2 ∷ 0 ∷ []) ∷ (2 ∷ 0 ∷ []) ∷ [];
      } ∷
      record {
        events = tried 5 1 0 0 0 0 (TooOld 1 0 2) ∷ tried 5 2 2 1 0 0 ReadOnly ∷ [];
        reads = item 0 2 (Some (1 ∷ [])) ∷ [];
        locks = [];
        writes = [];
        snaps = (0 ∷ 0 ∷ []) ∷ (2 ∷ 0 ∷ []) ∷ [];
      } ∷
      [];
  audit = row 0 2 (Some (1 ∷ [])) false ∷ row 0 3 (Some (1 ∷ [])) false ∷ [];
}
unfolding of_old_3 stint_workers picked after_workers until_ended settle copies load_from
old_3 = refl

unfoldable of_old_4 : Scenario
of_old_4 = record {
  shape = shape Held 2 (table 1 2 1 ∷ table 2 4 1 ∷ []) 1 1 0;
  rows = loaded 1 5 (40 ∷ 0 ∷ []) ∷ loaded 1 0 (40 ∷ 5 ∷ []) ∷ loaded 1 1 (40 ∷ 18446744073709551614 ∷ []) ∷ [];
  policy = record { tries = 3; tidy = true };
  txns = txn 1 (Del 0 3 ∷ Need 0 0 1 1 ∷ Put 0 0 (5 ∷ []) ∷ []) ∷ txn 1 (Del 0 3 ∷ Add 0 1 1 true 0 ∷ []) ∷
      txn 1 (Put 0 3 (1 ∷ []) ∷ []) ∷ txn 1 (Guard 0 0 ∷ []) ∷ txn 1 (Add 0 0 1 true 1 ∷ Add 0 0 1 false 0 ∷ []) ∷
      txn 1 (Get 0 3 ∷ Get 0 0 ∷ []) ∷ txn 2 (Scan 0 0 18446744073709551614 ∷ []) ∷ [];
  schedule = Stints (stint 2 5 ∷ stint 1 163 ∷ []);
}

old_4 : shown of_old_4 [] ≡ record {
  logs =
      record {
        events = tried 1 1 0 1 0 0 (Declined 2) ∷ tried 2 1 0 1 2 2 (Commit 1) ∷ move 0 0 3 0 0 move_done ∷ NoRoom 0 ∷
            Collected 0 1 (1 ∷ 0 ∷ []) false ∷ move 0 0 1 0 0 move_done ∷ tried 3 1 1 0 1 1 (Commit 2) ∷ NoRoom 0 ∷
            Collected 0 2 (2 ∷ 0 ∷ []) false ∷ move 0 0 3 1 1 move_done ∷ tried 4 1 2 1 0 0 (NoSpace 0) ∷
            tried 5 1 2 1 0 0 (NoSpace 0) ∷ tried 6 1 2 2 0 0 ReadOnly ∷ [];
        reads = item 0 0 None ∷ item 0 1 None ∷ item 0 0 None ∷ item 0 0 None ∷ item 0 3 (Some (1 ∷ [])) ∷
            item 0 0 None ∷ [];
        locks = lock 0 3 0 0 ∷ lock 0 1 0 0 ∷ lock 0 3 1 1 ∷ [];
        writes = item 0 3 None ∷ item 0 1 (Some (0 ∷ [])) ∷ item 0 3 (Some (1 ∷ [])) ∷ [];
        snaps = (0 ∷ 0 ∷ []) ∷ (0 ∷ 0 ∷ []) ∷ (1 ∷ 0 ∷ []) ∷ (1 ∷ 0 ∷ []) ∷ (2 ∷ 0 ∷ []) ∷ (2 ∷ 0 ∷ []) ∷
            (2 ∷ 0 ∷ []) ∷ (2 ∷ 0 ∷ []) ∷ [];
      } ∷
      record {
        events = tried 7 1 0 0 0 0 (TooOld 1 0 2) ∷ tried 7 2 2 2 0 0 ReadOnly ∷ [];
        reads = item 0 1 (Some (0 ∷ [])) ∷ item 0 3 (Some (1 ∷ [])) ∷ [];
        locks = [];
        writes = [];
        snaps = (0 ∷ 0 ∷ []) ∷ (2 ∷ 0 ∷ []) ∷ [];
      } ∷
      [];
  audit = row 0 1 (Some (0 ∷ [])) false ∷ row 0 3 (Some (1 ∷ [])) false ∷ row 1 0 (Some (40 ∷ 5 ∷ [])) false ∷
      row 1 1 (Some (40 ∷ 18446744073709551614 ∷ [])) false ∷ row 1 5 (Some (40 ∷ 0 ∷ [])) false ∷ [];
}
unfolding of_old_4 stint_workers picked after_workers until_ended settle copies load_from
old_4 = refl

unfoldable of_old_5 : Scenario
of_old_5 = record {
  shape = shape Narrow 3 (table 1 4 1 ∷ table 2 4 1 ∷ []) 1 1 0;
  rows = [];
  policy = record { tries = 2; tidy = true };
  txns = txn 1 (Add 0 3 1 false 0 ∷ Get 0 4 ∷ Del 0 4 ∷ []) ∷ txn 1 (Del 0 3 ∷ Need 0 4 1 0 ∷ Add 0 4 1 true 3 ∷ []) ∷
      txn 1 (Add 0 4 1 true 1 ∷ Add 0 5 1 false 1 ∷ Add 1 1 2 false 3 ∷ []) ∷
      txn 3 (Scan 0 0 18446744073709551614 ∷ []) ∷ [];
  schedule = Stints (stint 3 6 ∷ stint 1 95 ∷ []);
}

old_5 : shown of_old_5 [] ≡ record {
  logs =
      record {
        events = tried 1 1 0 2 2 2 (Commit 1) ∷ move 0 0 3 0 0 move_done ∷ NoRoom 0 ∷
            Collected 0 1 (1 ∷ 0 ∷ 0 ∷ []) false ∷ move 0 0 4 0 0 move_done ∷ tried 2 1 1 2 2 2 (Commit 2) ∷ NoRoom 0 ∷
            Collected 0 2 (2 ∷ 0 ∷ 0 ∷ []) false ∷ move 0 0 3 1 1 move_done ∷ NoRoom 0 ∷
            Collected 0 2 (2 ∷ 0 ∷ 0 ∷ []) false ∷ move 0 0 4 1 1 move_done ∷ tried 3 1 2 2 0 0 (Declined 2) ∷ [];
        reads = item 0 3 None ∷ item 0 4 None ∷ item 0 4 None ∷ item 0 4 None ∷ item 0 4 (Some (3 ∷ [])) ∷
            item 0 5 None ∷ [];
        locks = lock 0 3 0 0 ∷ lock 0 4 0 0 ∷ lock 0 3 1 1 ∷ lock 0 4 1 1 ∷ [];
        writes = item 0 3 (Some (0 ∷ [])) ∷ item 0 4 None ∷ item 0 3 None ∷ item 0 4 (Some (3 ∷ [])) ∷ [];
        snaps = (0 ∷ 0 ∷ 0 ∷ []) ∷ (1 ∷ 0 ∷ 0 ∷ []) ∷ (1 ∷ 0 ∷ 0 ∷ []) ∷ (2 ∷ 0 ∷ 0 ∷ []) ∷ (2 ∷ 0 ∷ 0 ∷ []) ∷
            (2 ∷ 0 ∷ 0 ∷ []) ∷ [];
      } ∷
      record {
        events = [];
        reads = [];
        locks = [];
        writes = [];
        snaps = [];
      } ∷
      record {
        events = tried 4 1 0 0 0 0 (TooOld 1 0 1) ∷ tried 4 2 1 1 0 0 ReadOnly ∷ [];
        reads = item 0 3 (Some (0 ∷ [])) ∷ [];
        locks = [];
        writes = [];
        snaps = (0 ∷ 0 ∷ 0 ∷ []) ∷ (1 ∷ 0 ∷ 0 ∷ []) ∷ [];
      } ∷
      [];
  audit = row 0 4 (Some (3 ∷ [])) false ∷ [];
}
unfolding of_old_5 stint_workers picked after_workers until_ended settle copies load_from
old_5 = refl

unfoldable of_old_6 : Scenario
of_old_6 = record {
  shape = shape Wide 2 (table 1 2 1 ∷ []) 1 1 0;
  rows = loaded 0 4 (18446744073709551614 ∷ []) ∷ loaded 0 8 (1 ∷ []) ∷ [];
  policy = record { tries = 4; tidy = true };
  txns = txn 2 (Scan 0 0 3 ∷ []) ∷ txn 2 (Scan 0 0 3 ∷ Add 0 4 1 true 0 ∷ []) ∷ txn 2 (Scan 0 0 3 ∷ []) ∷
      txn 2 (Guard 0 8 ∷ Add 0 1 1 false 1 ∷ []) ∷
      txn 2 (Scan 0 0 18446744073709551614 ∷ Need 0 4 1 0 ∷ Scan 0 1 18446744073709551614 ∷ []) ∷
      txn 2 (Put 0 4 (9 ∷ []) ∷ Add 0 4 1 true 1 ∷ []) ∷ txn 1 (Get 0 4 ∷ []) ∷ [];
  schedule = Stints (stint 1 6 ∷ stint 2 162 ∷ []);
}

old_6 : shown of_old_6 [] ≡ record {
  logs =
      record {
        events = tried 7 1 0 0 0 0 (TooOld 2 0 2) ∷ tried 7 2 2 1 0 0 ReadOnly ∷ [];
        reads = item 0 4 (Some (10 ∷ [])) ∷ [];
        locks = [];
        writes = [];
        snaps = (0 ∷ 0 ∷ []) ∷ (0 ∷ 2 ∷ []) ∷ [];
      } ∷
      record {
        events = tried 1 1 0 0 0 0 ReadOnly ∷ tried 2 1 0 1 1 1 (Commit 1) ∷ move 0 0 4 0 0 move_done ∷
            tried 3 1 1 0 0 0 ReadOnly ∷ tried 4 1 1 2 0 0 (Declined 2) ∷ tried 5 1 1 5 0 0 ReadOnly ∷
            tried 6 1 1 1 1 1 (Commit 2) ∷ NoRoom 0 ∷ Collected 0 2 (0 ∷ 2 ∷ []) false ∷ move 0 0 4 2 1 move_done ∷ [];
        reads = item 0 4 (Some (18446744073709551614 ∷ [])) ∷ item 0 8 (Some (1 ∷ [])) ∷ item 0 1 None ∷
            item 0 4 (Some (18446744073709551614 ∷ [])) ∷ item 0 8 (Some (1 ∷ [])) ∷
            item 0 4 (Some (18446744073709551614 ∷ [])) ∷ item 0 4 (Some (18446744073709551614 ∷ [])) ∷
            item 0 8 (Some (1 ∷ [])) ∷ item 0 4 (Some (9 ∷ [])) ∷ [];
        locks = lock 0 4 0 0 ∷ lock 0 4 2 1 ∷ [];
        writes = item 0 4 (Some (18446744073709551614 ∷ [])) ∷ item 0 4 (Some (10 ∷ [])) ∷ [];
        snaps = (0 ∷ 0 ∷ []) ∷ (0 ∷ 0 ∷ []) ∷ (0 ∷ 1 ∷ []) ∷ (0 ∷ 1 ∷ []) ∷ (0 ∷ 1 ∷ []) ∷ (0 ∷ 1 ∷ []) ∷
            (0 ∷ 2 ∷ []) ∷ [];
      } ∷
      [];
  audit = row 0 4 (Some (10 ∷ [])) false ∷ row 0 8 (Some (1 ∷ [])) false ∷ [];
}
unfolding of_old_6 stint_workers picked after_workers until_ended settle copies load_from
old_6 = refl

unfoldable of_old_7 : Scenario
of_old_7 = record {
  shape = shape Wide 2 (table 2 1 1 ∷ []) 1 1 0;
  rows = loaded 0 0 (5 ∷ 40 ∷ []) ∷ [];
  policy = record { tries = 1; tidy = true };
  txns = txn 1 (Scan 0 2 18446744073709551614 ∷ Scan 0 0 5 ∷ Add 0 0 2 true 1 ∷ []) ∷
      txn 1 (Scan 0 0 18446744073709551614 ∷ Put 0 0 (3 ∷ 5 ∷ []) ∷ Get 0 0 ∷ Guard 0 0 ∷ []) ∷
      txn 1 (Del 0 0 ∷ Get 0 0 ∷ Del 0 0 ∷ Add 0 3 1 true 1 ∷ []) ∷ txn 1 (Del 0 3 ∷ Add 0 3 1 true 1 ∷ []) ∷
      txn 2 (Get 0 0 ∷ []) ∷ [];
  schedule = Stints (stint 2 6 ∷ stint 1 112 ∷ []);
}

old_7 : shown of_old_7 [] ≡ record {
  logs =
      record {
        events = tried 1 1 0 2 1 1 (Commit 1) ∷ move 0 0 0 0 0 move_done ∷ tried 2 1 1 3 1 1 (Commit 2) ∷ NoRoom 0 ∷
            Collected 0 2 (2 ∷ 0 ∷ []) false ∷ move 0 0 0 1 1 move_done ∷ tried 3 1 2 2 0 0 (NoSpace 0) ∷
            tried 4 1 2 0 0 0 (NoSpace 0) ∷ [];
        reads = item 0 0 (Some (5 ∷ 40 ∷ [])) ∷ item 0 0 (Some (5 ∷ 40 ∷ [])) ∷ item 0 0 (Some (5 ∷ 41 ∷ [])) ∷
            item 0 0 (Some (3 ∷ 5 ∷ [])) ∷ item 0 0 (Some (3 ∷ 5 ∷ [])) ∷ item 0 0 None ∷ item 0 3 None ∷ [];
        locks = lock 0 0 0 0 ∷ lock 0 0 1 1 ∷ [];
        writes = item 0 0 (Some (5 ∷ 41 ∷ [])) ∷ item 0 0 (Some (3 ∷ 5 ∷ [])) ∷ [];
        snaps = (0 ∷ 0 ∷ []) ∷ (1 ∷ 0 ∷ []) ∷ (2 ∷ 0 ∷ []) ∷ (2 ∷ 0 ∷ []) ∷ (2 ∷ 0 ∷ []) ∷ [];
      } ∷
      record {
        events = tried 5 1 0 0 0 0 (TooOld 1 0 2) ∷ [];
        reads = [];
        locks = [];
        writes = [];
        snaps = (0 ∷ 0 ∷ []) ∷ [];
      } ∷
      [];
  audit = row 0 0 (Some (3 ∷ 5 ∷ [])) false ∷ [];
}
unfolding of_old_7 stint_workers picked after_workers until_ended settle copies load_from
old_7 = refl

unfoldable of_old_8 : Scenario
of_old_8 = record {
  shape = shape Narrow 2 (table 1 3 1 ∷ []) 1 1 7;
  rows = loaded 0 5 (0 ∷ []) ∷ loaded 0 4 (5 ∷ []) ∷ [];
  policy = record { tries = 1; tidy = true };
  txns = txn 1 (Del 0 5 ∷ []) ∷ txn 1 (Del 0 5 ∷ Add 0 5 1 true 0 ∷ []) ∷ txn 1 (Get 0 5 ∷ []) ∷ txn 2 (Get 0 5 ∷ []) ∷
      [];
  schedule = Stints (stint 2 6 ∷ stint 1 168 ∷ []);
}

old_8 : shown of_old_8 [] ≡ record {
  logs =
      record {
        events = tried 1 1 0 0 1 1 (Commit 8) ∷ move 0 0 5 0 0 move_done ∷ tried 2 1 1 1 1 1 (Commit 9) ∷ NoRoom 0 ∷
            Collected 0 2 (9 ∷ 7 ∷ []) false ∷ move 0 0 5 1 8 move_done ∷ tried 3 1 2 1 0 0 ReadOnly ∷ [];
        reads = item 0 5 None ∷ item 0 5 (Some (0 ∷ [])) ∷ [];
        locks = lock 0 5 0 0 ∷ lock 0 5 1 8 ∷ [];
        writes = item 0 5 None ∷ item 0 5 (Some (0 ∷ [])) ∷ [];
        snaps = (7 ∷ 7 ∷ []) ∷ (8 ∷ 7 ∷ []) ∷ (9 ∷ 7 ∷ []) ∷ (9 ∷ 7 ∷ []) ∷ [];
      } ∷
      record {
        events = tried 4 1 0 0 0 0 (TooOld 1 7 9) ∷ [];
        reads = [];
        locks = [];
        writes = [];
        snaps = (7 ∷ 7 ∷ []) ∷ [];
      } ∷
      [];
  audit = row 0 4 (Some (5 ∷ [])) false ∷ row 0 5 (Some (0 ∷ [])) false ∷ [];
}
unfolding of_old_8 stint_workers picked after_workers until_ended settle copies load_from
old_8 = refl
