-- Random scripts in which rare events come, of a simulator of its own.
use Rattle.std.proofs.Common.{◌≡◌, true, false, [], ◌∷◌, Some, None, refl}
use Rattle.nam_catalog.specs.declared.form.Form.TheVariants.{Narrow, Wide}
use Rattle.si_model.specs.declared.op.Op.TheVariants.{Get, Put, Add, Del, Need, Guard, Scan}
use Rattle.si_model.specs.declared.log.Outcome.TheVariants.{Commit, ReadOnly, Declined, NoSpace, Again, Locked, Newer}
use Rattle.si_model.specs.declared.log.Outcome.TheVariants.{Full, Cut}
use Rattle.si_model.specs.declared.log.Event.TheVariants.{NoRoom, Collected, TidyCut}
use Rattle.nam_protocol.specs.Schedule.{Scenario, Stints, Picks, stint_workers, picked, after_workers, until_ended}
use Rattle.nam_protocol.specs.Session.{settle}
use Rattle.nam_protocol.specs.Opening.{copies, load_from}
use Rattle.nam_protocol.proofs.Shown.{shape, table, loaded, txn, stint, up, fuse, item, row, lock, tried, unbegun, move}
use Rattle.nam_protocol.proofs.Shown.{move_done, move_cut, shown}

unfoldable of_rare_1 : Scenario
of_rare_1 = record {
  shape = shape Narrow 2 (table 1 2 2 ∷ []) 2 1 0;
  rows = [];
  policy = record { tries = 3; tidy = true };
  txns = txn 2 (Guard 0 2 ∷ Scan 0 2 3 ∷ Del 0 4 ∷ []) ∷ txn 2 (Get 0 4 ∷ Guard 0 4 ∷ []) ∷
      txn 2 (Scan 0 0 18446744073709551614 ∷ []) ∷ txn 2 (Add 0 4 1 true 0 ∷ []) ∷
      txn 1 (Add 0 4 1 true 1 ∷ Put 0 4 (9 ∷ []) ∷ Scan 0 0 5 ∷ Scan 0 0 3 ∷ []) ∷
      txn 1 (Del 0 2 ∷ Scan 0 0 3 ∷ Put 0 4 (9 ∷ []) ∷ []) ∷ [];
  schedule = Stints (stint 2 5 ∷ stint 2 3 ∷ stint 1 1 ∷ stint 2 3 ∷ stint 2 13 ∷ []);
}

rare_1 : shown of_rare_1 (fuse 32 ∷ up ∷ []) ≡ record {
  logs =
      record {
        events = tried 5 1 0 2 0 0 (Newer (lock 0 4 2 1)) ∷ tried 5 2 1 1 0 0 Cut ∷ [];
        reads = item 0 4 None ∷ item 0 4 (Some (9 ∷ [])) ∷ item 0 4 None ∷ [];
        locks = [];
        writes = [];
        snaps = (0 ∷ 0 ∷ []) ∷ (0 ∷ 1 ∷ []) ∷ [];
      } ∷
      record {
        events = tried 1 1 0 1 2 1 (Commit 1) ∷ tried 2 1 1 2 0 0 ReadOnly ∷ tried 3 1 1 0 0 0 ReadOnly ∷
            tried 4 1 1 1 1 1 (Commit 2) ∷ move 1 0 4 0 0 move_done ∷ [];
        reads = item 0 2 None ∷ item 0 4 None ∷ item 0 4 None ∷ item 0 4 None ∷ [];
        locks = lock 0 4 0 0 ∷ lock 0 2 0 0 ∷ lock 0 4 2 1 ∷ [];
        writes = item 0 4 None ∷ item 0 4 (Some (0 ∷ [])) ∷ [];
        snaps = (0 ∷ 0 ∷ []) ∷ (0 ∷ 1 ∷ []) ∷ (0 ∷ 1 ∷ []) ∷ (0 ∷ 1 ∷ []) ∷ [];
      } ∷
      [];
  audit = row 0 4 (Some (0 ∷ [])) false ∷ [];
}
unfolding of_rare_1 stint_workers picked after_workers until_ended settle copies load_from
rare_1 = refl

unfoldable of_rare_2 : Scenario
of_rare_2 = record {
  shape = shape Narrow 2 (table 1 3 1 ∷ table 2 1 1 ∷ []) 1 1 0;
  rows = [];
  policy = record { tries = 4; tidy = false };
  txns = txn 1 (Scan 0 0 3 ∷ Scan 0 2 18446744073709551614 ∷ Scan 0 0 18446744073709551614 ∷ []) ∷
      txn 2 (Get 0 0 ∷ Need 0 0 1 0 ∷ Put 0 0 (7 ∷ []) ∷ Scan 0 0 5 ∷ []) ∷
      txn 2 (Add 0 0 1 true 1 ∷ Scan 0 1 5 ∷ Scan 0 2 18446744073709551614 ∷ []) ∷ [];
  schedule = Picks 571154454686808538 105;
}

rare_2 : shown of_rare_2 (up ∷ fuse 66 ∷ []) ≡ record {
  logs =
      record {
        events = tried 1 1 0 0 0 0 ReadOnly ∷ [];
        reads = [];
        locks = [];
        writes = [];
        snaps = (0 ∷ 0 ∷ []) ∷ [];
      } ∷
      record {
        events = tried 2 1 0 3 1 1 (Commit 1) ∷ tried 3 1 1 1 1 0 (Full (lock 0 0 0 0)) ∷
            tried 3 2 1 1 1 0 (Full (lock 0 0 0 0)) ∷ unbegun 3 3 Cut ∷ [];
        reads = item 0 0 None ∷ item 0 0 None ∷ item 0 0 (Some (7 ∷ [])) ∷ item 0 0 (Some (7 ∷ [])) ∷
            item 0 0 (Some (7 ∷ [])) ∷ [];
        locks = lock 0 0 0 0 ∷ lock 0 0 2 1 ∷ lock 0 0 2 1 ∷ [];
        writes = item 0 0 (Some (7 ∷ [])) ∷ [];
        snaps = (0 ∷ 0 ∷ []) ∷ (0 ∷ 1 ∷ []) ∷ (0 ∷ 1 ∷ []) ∷ [];
      } ∷
      [];
  audit = row 0 0 (Some (7 ∷ [])) false ∷ [];
}
unfolding of_rare_2 stint_workers picked after_workers until_ended settle copies load_from
rare_2 = refl

unfoldable of_rare_3 : Scenario
of_rare_3 = record {
  shape = shape Wide 1 (table 1 4 3 ∷ []) 1 1 0;
  rows = [];
  policy = record { tries = 1; tidy = true };
  txns = txn 1 (Scan 0 2 18446744073709551614 ∷ Add 0 2 1 true 3 ∷ []) ∷
      txn 1 (Put 0 4 (4 ∷ []) ∷ Guard 0 18446744073709551614 ∷ []) ∷ [];
  schedule = Stints (stint 1 5 ∷ stint 1 3 ∷ stint 1 8 ∷ stint 1 1 ∷ stint 1 2 ∷ stint 1 1 ∷ stint 1 40 ∷ []);
}

rare_3 : shown of_rare_3 (fuse 21 ∷ []) ≡ record {
  logs =
      record {
        events = tried 1 1 0 1 1 0 Cut ∷ [];
        reads = item 0 2 None ∷ [];
        locks = lock 0 2 0 0 ∷ [];
        writes = [];
        snaps = (0 ∷ []) ∷ [];
      } ∷
      [];
  audit = row 0 2 None true ∷ [];
}
unfolding of_rare_3 stint_workers picked after_workers until_ended settle copies load_from
rare_3 = refl

unfoldable of_rare_4 : Scenario
of_rare_4 = record {
  shape = shape Wide 3 (table 1 3 1 ∷ table 1 2 1 ∷ []) 1 1 35184372088830;
  rows = loaded 0 3 (1 ∷ []) ∷ loaded 0 1 (18446744073709551614 ∷ []) ∷ loaded 0 2 (0 ∷ []) ∷ loaded 1 3 (0 ∷ []) ∷ [];
  policy = record { tries = 1; tidy = true };
  txns = txn 1 (Add 0 1 1 true 1 ∷ []) ∷ txn 2 (Put 0 2 (6 ∷ []) ∷ []) ∷ [];
  schedule = Stints (stint 2 1 ∷ stint 3 5 ∷ stint 1 1 ∷ stint 1 3 ∷ stint 3 5 ∷ stint 3 20 ∷ stint 3 2 ∷ stint 3 1 ∷
      []);
}

rare_4 : shown of_rare_4 (fuse 41 ∷ up ∷ up ∷ []) ≡ record {
  logs =
      record {
        events = tried 1 1 0 1 1 1 (Commit 35184372088831) ∷ NoRoom 0 ∷
            Collected 0 2 (35184372088831 ∷ 35184372088831 ∷ 35184372088830 ∷ []) true ∷ [];
        reads = item 0 1 (Some (18446744073709551614 ∷ [])) ∷ [];
        locks = lock 0 1 0 0 ∷ [];
        writes = item 0 1 (Some (18446744073709551615 ∷ [])) ∷ [];
        snaps = (35184372088830 ∷ 35184372088830 ∷ 35184372088830 ∷ []) ∷
            (35184372088831 ∷ 35184372088831 ∷ 35184372088830 ∷ []) ∷ [];
      } ∷
      record {
        events = tried 2 1 0 0 1 1 (Commit 35184372088831) ∷ move 0 0 2 0 0 move_done ∷ [];
        reads = [];
        locks = lock 0 2 0 0 ∷ [];
        writes = item 0 2 (Some (6 ∷ [])) ∷ [];
        snaps = (35184372088830 ∷ 35184372088830 ∷ 35184372088830 ∷ []) ∷ [];
      } ∷
      record {
        events = [];
        reads = [];
        locks = [];
        writes = [];
        snaps = [];
      } ∷
      [];
  audit = row 0 1 (Some (18446744073709551615 ∷ [])) false ∷ row 0 2 (Some (6 ∷ [])) false ∷
      row 0 3 (Some (1 ∷ [])) false ∷ row 1 3 (Some (0 ∷ [])) false ∷ [];
}
unfolding of_rare_4 stint_workers picked after_workers until_ended settle copies load_from
rare_4 = refl

unfoldable of_rare_5 : Scenario
of_rare_5 = record {
  shape = shape Wide 2 (table 1 1 1 ∷ table 1 2 1 ∷ []) 1 1 0;
  rows = [];
  policy = record { tries = 2; tidy = true };
  txns = txn 1 (Del 0 5 ∷ []) ∷ txn 2 (Scan 0 0 18446744073709551614 ∷ Guard 0 5 ∷ []) ∷
      txn 1 (Add 0 5 1 true 3 ∷ Add 0 5 1 true 3 ∷ []) ∷ txn 2 (Scan 0 0 3 ∷ []) ∷
      txn 1 (Scan 0 0 18446744073709551614 ∷ Scan 0 1 18446744073709551614 ∷ Add 0 5 1 true 0 ∷ Scan 0 0 3 ∷ []) ∷
      txn 2 (Scan 0 0 18446744073709551614 ∷ Put 0 5 (8 ∷ []) ∷ Scan 0 0 18446744073709551614 ∷ Add 0 5 1 true 0 ∷ []) ∷
      [];
  schedule = Picks 2269576960039809263 59;
}

rare_5 : shown of_rare_5 [] ≡ record {
  logs =
      record {
        events = tried 1 1 0 0 1 1 (Commit 1) ∷ move 0 0 5 0 0 move_done ∷ tried 3 1 1 2 0 0 (Locked (lock 0 5 1 1)) ∷
            tried 3 2 1 2 0 0 (Newer (lock 0 5 2 1)) ∷ tried 5 1 2 3 1 0 (Full (lock 0 5 1 1)) ∷
            tried 5 2 2 3 1 1 (Commit 2) ∷ NoRoom 0 ∷ Collected 0 3 (2 ∷ 1 ∷ []) false ∷ move 0 0 5 2 1 move_done ∷ [];
        reads = item 0 5 None ∷ item 0 5 (Some (3 ∷ [])) ∷ item 0 5 None ∷ item 0 5 (Some (3 ∷ [])) ∷
            item 0 5 (Some (8 ∷ [])) ∷ item 0 5 (Some (8 ∷ [])) ∷ item 0 5 (Some (8 ∷ [])) ∷ item 0 5 (Some (8 ∷ [])) ∷
            item 0 5 (Some (8 ∷ [])) ∷ item 0 5 (Some (8 ∷ [])) ∷ [];
        locks = lock 0 5 0 0 ∷ lock 0 5 2 1 ∷ lock 0 5 2 1 ∷ [];
        writes = item 0 5 None ∷ item 0 5 (Some (8 ∷ [])) ∷ [];
        snaps = (0 ∷ 0 ∷ []) ∷ (1 ∷ 0 ∷ []) ∷ (1 ∷ 0 ∷ []) ∷ (1 ∷ 1 ∷ []) ∷ (1 ∷ 1 ∷ []) ∷ (2 ∷ 1 ∷ []) ∷ [];
      } ∷
      record {
        events = tried 2 1 0 1 0 0 ReadOnly ∷ tried 4 1 0 0 0 0 ReadOnly ∷ tried 6 1 0 2 0 0 (Newer (lock 0 5 1 1)) ∷
            tried 6 2 1 2 1 1 (Commit 1) ∷ NoRoom 0 ∷ Collected 0 2 (1 ∷ 1 ∷ []) false ∷ move 0 0 5 1 1 move_done ∷ [];
        reads = item 0 5 None ∷ item 0 5 (Some (8 ∷ [])) ∷ item 0 5 (Some (8 ∷ [])) ∷ item 0 5 (Some (8 ∷ [])) ∷
            item 0 5 (Some (8 ∷ [])) ∷ [];
        locks = lock 0 5 1 1 ∷ [];
        writes = item 0 5 (Some (8 ∷ [])) ∷ [];
        snaps = (0 ∷ 0 ∷ []) ∷ (0 ∷ 0 ∷ []) ∷ (0 ∷ 0 ∷ []) ∷ (1 ∷ 0 ∷ []) ∷ (1 ∷ 1 ∷ []) ∷ [];
      } ∷
      [];
  audit = row 0 5 (Some (8 ∷ [])) false ∷ [];
}
unfolding of_rare_5 stint_workers picked after_workers until_ended settle copies load_from
rare_5 = refl

unfoldable of_rare_6 : Scenario
of_rare_6 = record {
  shape = shape Narrow 2 (table 1 1 1 ∷ []) 1 1 0;
  rows = [];
  policy = record { tries = 4; tidy = true };
  txns = txn 1 (Put 0 1 (0 ∷ []) ∷ Scan 0 0 3 ∷ []) ∷
      txn 2 (Del 0 8 ∷ Scan 0 0 5 ∷ Scan 0 0 18446744073709551614 ∷ Put 0 8 (1 ∷ []) ∷ []) ∷
      txn 2 (Scan 0 0 18446744073709551614 ∷ []) ∷ txn 2 (Del 0 8 ∷ []) ∷
      txn 2 (Scan 0 2 3 ∷ Need 0 1 1 1 ∷ Del 0 1 ∷ Scan 0 0 5 ∷ []) ∷ [];
  schedule = Stints (stint 1 3 ∷ stint 1 1 ∷ stint 1 8 ∷ stint 1 13 ∷ stint 2 5 ∷ stint 2 40 ∷ []);
}

rare_6 : shown of_rare_6 (up ∷ fuse 13 ∷ []) ≡ record {
  logs =
      record {
        events = tried 1 1 0 1 1 1 (Commit 1) ∷ move 0 0 1 0 0 move_done ∷ [];
        reads = item 0 1 (Some (0 ∷ [])) ∷ [];
        locks = lock 0 1 0 0 ∷ [];
        writes = item 0 1 (Some (0 ∷ [])) ∷ [];
        snaps = (0 ∷ 0 ∷ []) ∷ [];
      } ∷
      record {
        events = tried 2 1 1 0 0 0 (NoSpace 0) ∷ tried 3 1 1 0 0 0 Cut ∷ [];
        reads = [];
        locks = [];
        writes = [];
        snaps = (1 ∷ 0 ∷ []) ∷ (1 ∷ 0 ∷ []) ∷ [];
      } ∷
      [];
  audit = row 0 1 (Some (0 ∷ [])) false ∷ [];
}
unfolding of_rare_6 stint_workers picked after_workers until_ended settle copies load_from
rare_6 = refl

unfoldable of_rare_7 : Scenario
of_rare_7 = record {
  shape = shape Wide 2 (table 1 3 1 ∷ []) 1 1 0;
  rows = loaded 0 3 (40 ∷ []) ∷ loaded 0 8 (18446744073709551614 ∷ []) ∷ [];
  policy = record { tries = 4; tidy = true };
  txns = txn 1 (Add 0 3 1 true 0 ∷ []) ∷ txn 2 (Del 0 3 ∷ Add 0 3 1 false 1 ∷ Del 0 3 ∷ Add 0 3 1 true 1 ∷ []) ∷
      txn 1 (Add 0 3 1 true 1 ∷ Need 0 3 1 5 ∷ []) ∷ txn 1 (Add 0 3 1 true 0 ∷ Need 0 3 1 0 ∷ []) ∷
      txn 2 (Add 0 3 1 true 3 ∷ []) ∷ [];
  schedule = Picks 4165109574447177759 98;
}

rare_7 : shown of_rare_7 [] ≡ record {
  logs =
      record {
        events = tried 1 1 0 1 1 1 (Commit 1) ∷ move 0 0 3 0 0 move_done ∷ tried 3 1 1 2 0 0 (Newer (lock 0 3 2 1)) ∷
            tried 3 2 2 2 1 0 (Full (lock 0 3 1 1)) ∷ move 0 0 3 1 1 move_done ∷ tried 3 3 2 2 1 1 (Commit 2) ∷
            NoRoom 0 ∷ Collected 0 3 (2 ∷ 1 ∷ []) false ∷ move 0 0 3 2 1 move_done ∷ tried 4 1 3 2 1 1 (Commit 3) ∷
            NoRoom 0 ∷ Collected 0 4 (3 ∷ 1 ∷ []) false ∷ move 0 0 3 1 2 move_done ∷ [];
        reads = item 0 3 (Some (40 ∷ [])) ∷ item 0 3 (Some (40 ∷ [])) ∷ item 0 3 (Some (41 ∷ [])) ∷
            item 0 3 (Some (43 ∷ [])) ∷ item 0 3 (Some (44 ∷ [])) ∷ item 0 3 (Some (43 ∷ [])) ∷
            item 0 3 (Some (44 ∷ [])) ∷ item 0 3 (Some (44 ∷ [])) ∷ item 0 3 (Some (44 ∷ [])) ∷ [];
        locks = lock 0 3 0 0 ∷ lock 0 3 2 1 ∷ lock 0 3 2 1 ∷ lock 0 3 1 2 ∷ [];
        writes = item 0 3 (Some (40 ∷ [])) ∷ item 0 3 (Some (44 ∷ [])) ∷ item 0 3 (Some (44 ∷ [])) ∷ [];
        snaps = (0 ∷ 0 ∷ []) ∷ (1 ∷ 0 ∷ []) ∷ (1 ∷ 1 ∷ []) ∷ (1 ∷ 1 ∷ []) ∷ (2 ∷ 1 ∷ []) ∷ (2 ∷ 1 ∷ []) ∷
            (3 ∷ 1 ∷ []) ∷ [];
      } ∷
      record {
        events = tried 2 1 0 1 0 0 (Declined 2) ∷ tried 5 1 0 1 0 0 (Locked (lock 0 3 0 0)) ∷
            tried 5 2 0 1 0 0 (Locked (lock 0 3 0 0)) ∷ unbegun 5 3 (Again 1 0 1) ∷ tried 5 4 1 1 1 1 (Commit 1) ∷
            NoRoom 0 ∷ Collected 0 2 (1 ∷ 1 ∷ []) false ∷ NoRoom 0 ∷ [];
        reads = item 0 3 None ∷ item 0 3 (Some (40 ∷ [])) ∷ item 0 3 (Some (40 ∷ [])) ∷ item 0 3 (Some (40 ∷ [])) ∷ [];
        locks = lock 0 3 1 1 ∷ [];
        writes = item 0 3 (Some (43 ∷ [])) ∷ [];
        snaps = (0 ∷ 0 ∷ []) ∷ (0 ∷ 0 ∷ []) ∷ (0 ∷ 0 ∷ []) ∷ (1 ∷ 0 ∷ []) ∷ (1 ∷ 1 ∷ []) ∷ [];
      } ∷
      [];
  audit = row 0 3 (Some (44 ∷ [])) false ∷ row 0 8 (Some (18446744073709551614 ∷ [])) false ∷ [];
}
unfolding of_rare_7 stint_workers picked after_workers until_ended settle copies load_from
rare_7 = refl

unfoldable of_rare_8 : Scenario
of_rare_8 = record {
  shape = shape Narrow 3 (table 1 1 1 ∷ table 1 1 1 ∷ []) 1 1 7;
  rows = loaded 1 18446744073709551614 (1 ∷ []) ∷ [];
  policy = record { tries = 2; tidy = true };
  txns = txn 2 (Del 0 3 ∷ Del 1 18446744073709551614 ∷ []) ∷ txn 1 (Add 0 3 1 true 3 ∷ []) ∷ txn 1 (Del 1 0 ∷ []) ∷
      txn 3 (Del 1 18446744073709551614 ∷ []) ∷ [];
  schedule = Picks 9785422801841256385 188;
}

rare_8 : shown of_rare_8 (fuse 39 ∷ up ∷ up ∷ []) ≡ record {
  logs =
      record {
        events = tried 2 1 0 1 1 1 (Commit 8) ∷ NoRoom 0 ∷ Collected 0 2 (8 ∷ 7 ∷ 8 ∷ []) true ∷ [];
        reads = item 0 3 None ∷ [];
        locks = lock 0 3 0 0 ∷ [];
        writes = item 0 3 (Some (3 ∷ [])) ∷ [];
        snaps = (7 ∷ 7 ∷ 7 ∷ []) ∷ (8 ∷ 7 ∷ 8 ∷ []) ∷ [];
      } ∷
      record {
        events = tried 1 1 0 0 0 0 (Locked (lock 0 3 0 0)) ∷ unbegun 1 2 (Again 3 7 8) ∷ [];
        reads = [];
        locks = [];
        writes = [];
        snaps = (7 ∷ 7 ∷ 7 ∷ []) ∷ [];
      } ∷
      record {
        events = tried 4 1 0 0 1 1 (Commit 8) ∷ move 0 1 18446744073709551614 0 0 move_done ∷ [];
        reads = [];
        locks = lock 1 18446744073709551614 0 0 ∷ [];
        writes = item 1 18446744073709551614 None ∷ [];
        snaps = (7 ∷ 7 ∷ 7 ∷ []) ∷ [];
      } ∷
      [];
  audit = row 0 3 (Some (3 ∷ [])) false ∷ [];
}
unfolding of_rare_8 stint_workers picked after_workers until_ended settle copies load_from
rare_8 = refl

unfoldable of_rare_9 : Scenario
of_rare_9 = record {
  shape = shape Narrow 1 (table 1 2 1 ∷ []) 1 1 0;
  rows = [];
  policy = record { tries = 3; tidy = true };
  txns = txn 1 (Scan 0 1 18446744073709551614 ∷ Put 0 2 (1 ∷ []) ∷ Get 0 2 ∷ Need 0 2 1 0 ∷ []) ∷
      txn 1 (Add 0 2 1 true 0 ∷ []) ∷ txn 1 (Get 0 2 ∷ Del 0 2 ∷ Put 0 2 (1 ∷ []) ∷ Scan 0 2 3 ∷ []) ∷ [];
  schedule = Stints (stint 1 2 ∷ stint 1 5 ∷ stint 1 1 ∷ stint 1 2 ∷ stint 1 8 ∷ stint 1 20 ∷ stint 1 40 ∷ stint 1 5 ∷
      []);
}

rare_9 : shown of_rare_9 (fuse 58 ∷ []) ≡ record {
  logs =
      record {
        events = tried 1 1 0 2 1 1 (Commit 1) ∷ move 0 0 2 0 0 move_done ∷ tried 2 1 1 1 1 1 (Commit 2) ∷ TidyCut 0 2 ∷
            [];
        reads = item 0 2 (Some (1 ∷ [])) ∷ item 0 2 (Some (1 ∷ [])) ∷ item 0 2 (Some (1 ∷ [])) ∷ [];
        locks = lock 0 2 0 0 ∷ lock 0 2 1 1 ∷ [];
        writes = item 0 2 (Some (1 ∷ [])) ∷ item 0 2 (Some (1 ∷ [])) ∷ [];
        snaps = (0 ∷ []) ∷ (1 ∷ []) ∷ [];
      } ∷
      [];
  audit = row 0 2 (Some (1 ∷ [])) false ∷ [];
}
unfolding of_rare_9 stint_workers picked after_workers until_ended settle copies load_from
rare_9 = refl

unfoldable of_rare_10 : Scenario
of_rare_10 = record {
  shape = shape Wide 1 (table 2 4 1 ∷ table 2 3 1 ∷ []) 1 3 0;
  rows = loaded 0 1 (40 ∷ 0 ∷ []) ∷ loaded 0 8 (5 ∷ 1 ∷ []) ∷ loaded 1 2 (5 ∷ 1 ∷ []) ∷
      loaded 1 3 (40 ∷ 18446744073709551614 ∷ []) ∷ [];
  policy = record { tries = 2; tidy = true };
  txns = txn 1 (Scan 0 0 18446744073709551614 ∷ []) ∷ txn 1 (Del 1 3 ∷ Put 0 3 (1 ∷ 1 ∷ []) ∷ []) ∷
      txn 1 (Get 1 2 ∷ []) ∷ txn 1 (Scan 1 2 5 ∷ Add 0 3 2 true 0 ∷ Scan 1 1 5 ∷ []) ∷
      txn 1 (Need 1 2 2 0 ∷ Put 1 2 (5 ∷ 2 ∷ []) ∷ Del 1 3 ∷ Scan 1 0 18446744073709551614 ∷ []) ∷
      txn 1 (Del 1 3 ∷ Need 0 3 1 1 ∷ Scan 1 1 3 ∷ Scan 1 0 3 ∷ []) ∷ [];
  schedule = Stints (stint 1 13 ∷ stint 1 13 ∷ stint 1 5 ∷ stint 1 2 ∷ stint 1 8 ∷ []);
}

rare_10 : shown of_rare_10 (fuse 65 ∷ []) ≡ record {
  logs =
      record {
        events = tried 1 1 0 2 0 0 ReadOnly ∷ tried 2 1 0 0 2 2 (Commit 1) ∷ move 0 1 3 0 0 move_done ∷ TidyCut 0 3 ∷
            [];
        reads = item 0 1 (Some (40 ∷ 0 ∷ [])) ∷ item 0 8 (Some (5 ∷ 1 ∷ [])) ∷ [];
        locks = lock 1 3 0 0 ∷ lock 0 3 0 0 ∷ [];
        writes = item 1 3 None ∷ item 0 3 (Some (1 ∷ 1 ∷ [])) ∷ [];
        snaps = (0 ∷ []) ∷ (0 ∷ []) ∷ [];
      } ∷
      [];
  audit = row 0 1 (Some (40 ∷ 0 ∷ [])) false ∷ row 0 3 (Some (1 ∷ 1 ∷ [])) false ∷ row 0 8 (Some (5 ∷ 1 ∷ [])) false ∷
      row 1 2 (Some (5 ∷ 1 ∷ [])) false ∷ [];
}
unfolding of_rare_10 stint_workers picked after_workers until_ended settle copies load_from
rare_10 = refl

unfoldable of_rare_11 : Scenario
of_rare_11 = record {
  shape = shape Narrow 2 (table 1 3 1 ∷ []) 1 1 0;
  rows = [];
  policy = record { tries = 3; tidy = true };
  txns = txn 2 (Get 0 4 ∷ []) ∷ txn 1 (Add 0 2 1 true 0 ∷ Guard 0 4 ∷ Add 0 2 1 true 0 ∷ Add 0 4 1 false 3 ∷ []) ∷
      txn 2 (Del 0 4 ∷ []) ∷ txn 2 (Add 0 18446744073709551614 1 true 1 ∷ []) ∷
      txn 1 (Need 0 18446744073709551614 1 1 ∷ []) ∷ txn 1 (Add 0 18446744073709551614 1 true 3 ∷ []) ∷ [];
  schedule = Picks 15911485388723223532 256;
}

rare_11 : shown of_rare_11 (fuse 55 ∷ up ∷ []) ≡ record {
  logs =
      record {
        events = tried 2 1 0 4 0 0 (Declined 4) ∷ tried 5 1 0 1 0 0 (Declined 1) ∷ unbegun 6 1 (Again 2 0 1) ∷
            tried 6 2 1 1 1 1 (Commit 1) ∷ NoRoom 0 ∷ Collected 0 2 (1 ∷ 1 ∷ []) true ∷ [];
        reads = item 0 2 None ∷ item 0 4 None ∷ item 0 2 (Some (0 ∷ [])) ∷ item 0 4 None ∷
            item 0 18446744073709551614 None ∷ item 0 18446744073709551614 None ∷ [];
        locks = lock 0 18446744073709551614 0 0 ∷ [];
        writes = item 0 18446744073709551614 (Some (3 ∷ [])) ∷ [];
        snaps = (0 ∷ 0 ∷ []) ∷ (0 ∷ 0 ∷ []) ∷ (0 ∷ 1 ∷ []) ∷ (1 ∷ 1 ∷ []) ∷ [];
      } ∷
      record {
        events = tried 1 1 0 1 0 0 ReadOnly ∷ tried 3 1 0 0 1 1 (Commit 1) ∷ move 0 0 4 0 0 move_done ∷
            tried 4 1 1 1 0 0 (Newer (lock 0 18446744073709551614 1 1)) ∷
            tried 4 2 2 1 1 0 (Full (lock 0 18446744073709551614 0 0)) ∷ NoRoom 0 ∷ Collected 0 2 (1 ∷ 1 ∷ []) false ∷
            move 0 0 18446744073709551614 0 0 move_done ∷ tried 4 3 2 1 1 1 (Commit 2) ∷ NoRoom 0 ∷
            Collected 0 3 (1 ∷ 2 ∷ []) false ∷ move 0 0 18446744073709551614 1 1 move_done ∷ [];
        reads = item 0 4 None ∷ item 0 18446744073709551614 None ∷ item 0 18446744073709551614 (Some (3 ∷ [])) ∷
            item 0 18446744073709551614 (Some (3 ∷ [])) ∷ [];
        locks = lock 0 4 0 0 ∷ lock 0 18446744073709551614 1 1 ∷ lock 0 18446744073709551614 1 1 ∷ [];
        writes = item 0 4 None ∷ item 0 18446744073709551614 (Some (4 ∷ [])) ∷ [];
        snaps = (0 ∷ 0 ∷ []) ∷ (0 ∷ 0 ∷ []) ∷ (0 ∷ 1 ∷ []) ∷ (1 ∷ 1 ∷ []) ∷ (1 ∷ 1 ∷ []) ∷ (1 ∷ 1 ∷ []) ∷
            (1 ∷ 2 ∷ []) ∷ [];
      } ∷
      [];
  audit = row 0 18446744073709551614 (Some (4 ∷ [])) false ∷ [];
}
unfolding of_rare_11 stint_workers picked after_workers until_ended settle copies load_from
rare_11 = refl

unfoldable of_rare_12 : Scenario
of_rare_12 = record {
  shape = shape Narrow 1 (table 1 4 1 ∷ []) 1 1 4294967294;
  rows = [];
  policy = record { tries = 3; tidy = true };
  txns = txn 1 (Need 0 4 1 5 ∷ Get 0 4 ∷ Need 0 4 1 1 ∷ Put 0 4 (4 ∷ []) ∷ []) ∷
      txn 1 (Add 0 4 1 true 0 ∷ Get 0 4 ∷ Put 0 4 (4 ∷ []) ∷ Guard 0 4 ∷ []) ∷
      txn 1 (Add 0 4 1 true 3 ∷ Del 0 4 ∷ Need 0 4 1 0 ∷ Guard 0 4 ∷ []) ∷ [];
  schedule = Picks 16534003031375998125 73;
}

rare_12 : shown of_rare_12 (fuse 30 ∷ []) ≡ record {
  logs =
      record {
        events = tried 1 1 0 1 0 0 (Declined 1) ∷ tried 2 1 0 3 1 1 (Commit 4294967295) ∷ move 0 0 4 0 0 move_cut ∷ [];
        reads = item 0 4 None ∷ item 0 4 None ∷ item 0 4 (Some (0 ∷ [])) ∷ item 0 4 (Some (4 ∷ [])) ∷ [];
        locks = lock 0 4 0 0 ∷ [];
        writes = item 0 4 (Some (4 ∷ [])) ∷ [];
        snaps = (4294967294 ∷ []) ∷ (4294967294 ∷ []) ∷ [];
      } ∷
      [];
  audit = row 0 4 (Some (4 ∷ [])) false ∷ [];
}
unfolding of_rare_12 stint_workers picked after_workers until_ended settle copies load_from
rare_12 = refl

unfoldable of_rare_13 : Scenario
of_rare_13 = record {
  shape = shape Wide 3 (table 1 4 1 ∷ []) 1 1 7;
  rows = loaded 0 8 (1 ∷ []) ∷ loaded 0 4 (1 ∷ []) ∷ loaded 0 18446744073709551614 (40 ∷ []) ∷ loaded 0 2 (0 ∷ []) ∷ [];
  policy = record { tries = 1; tidy = true };
  txns = txn 2 (Need 0 2 1 1 ∷ []) ∷ txn 3 (Scan 0 1 3 ∷ Need 0 18446744073709551614 1 1 ∷
      Guard 0 18446744073709551614 ∷ []) ∷ txn 3 (Del 0 18446744073709551614 ∷ []) ∷
      txn 1 (Scan 0 0 18446744073709551614 ∷ Put 0 18446744073709551614 (3 ∷ []) ∷ Need 0 2 1 0 ∷ []) ∷
      txn 2 (Del 0 2 ∷ Need 0 18446744073709551614 1 5 ∷ Add 0 2 1 true 1 ∷ Guard 0 18446744073709551614 ∷ []) ∷
      txn 3 (Scan 0 1 18446744073709551614 ∷ Add 0 18446744073709551614 1 true 3 ∷ []) ∷ [];
  schedule = Stints (stint 2 2 ∷ stint 1 40 ∷ stint 1 8 ∷ []);
}

rare_13 : shown of_rare_13 (up ∷ up ∷ fuse 66 ∷ []) ≡ record {
  logs =
      record {
        events = tried 4 1 0 5 1 1 (Commit 8) ∷ move 0 0 18446744073709551614 0 0 move_done ∷ [];
        reads = item 0 2 (Some (0 ∷ [])) ∷ item 0 4 (Some (1 ∷ [])) ∷ item 0 8 (Some (1 ∷ [])) ∷
            item 0 18446744073709551614 (Some (40 ∷ [])) ∷ item 0 2 (Some (0 ∷ [])) ∷ [];
        locks = lock 0 18446744073709551614 0 0 ∷ [];
        writes = item 0 18446744073709551614 (Some (3 ∷ [])) ∷ [];
        snaps = (7 ∷ 7 ∷ 7 ∷ []) ∷ [];
      } ∷
      record {
        events = unbegun 1 1 (Again 1 7 8) ∷ tried 5 1 1 1 0 0 (Declined 2) ∷ [];
        reads = item 0 18446744073709551614 (Some (3 ∷ [])) ∷ [];
        locks = [];
        writes = [];
        snaps = (8 ∷ 7 ∷ 7 ∷ []) ∷ [];
      } ∷
      record {
        events = tried 2 1 1 3 0 0 ReadOnly ∷ tried 3 1 1 0 1 1 (Commit 8) ∷ NoRoom 0 ∷
            Collected 0 2 (8 ∷ 7 ∷ 8 ∷ []) false ∷ TidyCut 0 18446744073709551614 ∷ [];
        reads = item 0 2 (Some (0 ∷ [])) ∷ item 0 18446744073709551614 (Some (3 ∷ [])) ∷
            item 0 18446744073709551614 (Some (3 ∷ [])) ∷ [];
        locks = lock 0 18446744073709551614 1 8 ∷ [];
        writes = item 0 18446744073709551614 None ∷ [];
        snaps = (8 ∷ 7 ∷ 7 ∷ []) ∷ (8 ∷ 7 ∷ 7 ∷ []) ∷ (8 ∷ 7 ∷ 8 ∷ []) ∷ [];
      } ∷
      [];
  audit = row 0 2 (Some (0 ∷ [])) false ∷ row 0 4 (Some (1 ∷ [])) false ∷ row 0 8 (Some (1 ∷ [])) false ∷ [];
}
unfolding of_rare_13 stint_workers picked after_workers until_ended settle copies load_from
rare_13 = refl
