-- Random scripts with scans, of a simulator of its own.
use Rattle.std.proofs.Common.{◌≡◌, true, false, [], ◌∷◌, Some, None, refl}
use Rattle.nam_catalog.specs.declared.form.Form.TheVariants.{Narrow, Wide, Held}
use Rattle.si_model.specs.declared.op.Op.TheVariants.{Get, Put, Add, Del, Need, Guard, Scan}
use Rattle.si_model.specs.declared.log.Outcome.TheVariants.{Commit, ReadOnly, Declined, NoSpace, Locked, Newer, Cut}
use Rattle.si_model.specs.declared.log.Event.TheVariants.{NoRoom, Collected}
use Rattle.nam_protocol.specs.Schedule.{Scenario, Picks, stint_workers, picked, after_workers, until_ended}
use Rattle.nam_protocol.specs.Session.{settle}
use Rattle.nam_protocol.specs.Opening.{copies, load_from}
use Rattle.nam_protocol.proofs.Shown.{shape, table, loaded, txn, up, fuse, item, row, lock, tried, move, move_done}
use Rattle.nam_protocol.proofs.Shown.{move_cut, shown}

unfoldable of_scans_1 : Scenario
of_scans_1 = record {
  shape = shape Held 2 (table 1 3 1 ∷ table 1 4 3 ∷ []) 1 1 7;
  rows = loaded 0 0 (18446744073709551614 ∷ []) ∷ loaded 1 1 (0 ∷ []) ∷ loaded 1 2 (40 ∷ []) ∷ loaded 1 0 (1 ∷ []) ∷
      loaded 1 5 (40 ∷ []) ∷ [];
  policy = record { tries = 1; tidy = true };
  txns = txn 2 (Add 1 4 1 true 1 ∷ Get 1 4 ∷ Add 1 4 1 true 1 ∷ []) ∷
      txn 2 (Del 1 4 ∷ Scan 1 1 3 ∷ Guard 1 4 ∷ Scan 1 0 3 ∷ []) ∷
      txn 2 (Scan 1 1 18446744073709551614 ∷ Scan 1 0 18446744073709551614 ∷ Scan 1 0 5 ∷ Add 1 4 1 true 1 ∷ []) ∷ [];
  schedule = Picks 14925996690018349592 152;
}

scans_1 : shown of_scans_1 [] ≡ record {
  logs =
      record {
        events = [];
        reads = [];
        locks = [];
        writes = [];
        snaps = [];
      } ∷
      record {
        events = tried 1 1 0 1 0 0 (NoSpace 1) ∷ tried 2 1 0 0 0 0 (NoSpace 1) ∷ tried 3 1 0 12 0 0 (NoSpace 1) ∷ [];
        reads = item 1 4 None ∷ item 1 1 (Some (0 ∷ [])) ∷ item 1 2 (Some (40 ∷ [])) ∷ item 1 5 (Some (40 ∷ [])) ∷
            item 1 0 (Some (1 ∷ [])) ∷ item 1 1 (Some (0 ∷ [])) ∷ item 1 2 (Some (40 ∷ [])) ∷
            item 1 5 (Some (40 ∷ [])) ∷ item 1 0 (Some (1 ∷ [])) ∷ item 1 1 (Some (0 ∷ [])) ∷
            item 1 2 (Some (40 ∷ [])) ∷ item 1 5 (Some (40 ∷ [])) ∷ item 1 4 None ∷ [];
        locks = [];
        writes = [];
        snaps = (7 ∷ 7 ∷ []) ∷ (7 ∷ 7 ∷ []) ∷ (7 ∷ 7 ∷ []) ∷ [];
      } ∷
      [];
  audit = row 0 0 (Some (18446744073709551614 ∷ [])) false ∷ row 1 0 (Some (1 ∷ [])) false ∷
      row 1 1 (Some (0 ∷ [])) false ∷ row 1 2 (Some (40 ∷ [])) false ∷ row 1 5 (Some (40 ∷ [])) false ∷ [];
}
unfolding of_scans_1 stint_workers picked after_workers until_ended settle copies load_from
scans_1 = refl

unfoldable of_scans_2 : Scenario
of_scans_2 = record {
  shape = shape Narrow 2 (table 1 3 1 ∷ []) 1 1 4294967294;
  rows = loaded 0 2 (18446744073709551614 ∷ []) ∷ loaded 0 3 (1 ∷ []) ∷ loaded 0 5 (18446744073709551614 ∷ []) ∷ [];
  policy = record { tries = 4; tidy = true };
  txns = txn 2 (Get 0 4 ∷ Add 0 5 1 true 0 ∷ []) ∷ txn 1 (Scan 0 0 5 ∷ Scan 0 0 18446744073709551614 ∷ []) ∷
      txn 1 (Add 0 4 1 true 3 ∷ Put 0 4 (6 ∷ []) ∷ Get 0 4 ∷ Del 0 4 ∷ []) ∷
      txn 2 (Scan 0 0 18446744073709551614 ∷ []) ∷ txn 2 (Guard 0 3 ∷ []) ∷
      txn 1 (Put 0 5 (0 ∷ []) ∷ Add 0 5 1 true 1 ∷ Need 0 2 1 1 ∷ Scan 0 1 5 ∷ []) ∷ [];
  schedule = Picks 1350180261812690438 241;
}

scans_2 : shown of_scans_2 [] ≡ record {
  logs =
      record {
        events = tried 2 1 0 6 0 0 ReadOnly ∷ tried 3 1 0 1 0 0 (NoSpace 0) ∷ tried 6 1 1 5 1 1 (Commit 4294967295) ∷
            NoRoom 0 ∷ Collected 0 2 (4294967295 ∷ 4294967295 ∷ []) false ∷ move 0 0 5 2 4294967295 move_done ∷ [];
        reads = item 0 2 (Some (18446744073709551614 ∷ [])) ∷ item 0 3 (Some (1 ∷ [])) ∷
            item 0 5 (Some (18446744073709551614 ∷ [])) ∷ item 0 2 (Some (18446744073709551614 ∷ [])) ∷
            item 0 3 (Some (1 ∷ [])) ∷ item 0 5 (Some (18446744073709551614 ∷ [])) ∷ item 0 4 None ∷
            item 0 5 (Some (0 ∷ [])) ∷ item 0 2 (Some (18446744073709551614 ∷ [])) ∷
            item 0 2 (Some (18446744073709551614 ∷ [])) ∷ item 0 3 (Some (1 ∷ [])) ∷ item 0 5 (Some (1 ∷ [])) ∷ [];
        locks = lock 0 5 2 4294967295 ∷ [];
        writes = item 0 5 (Some (1 ∷ [])) ∷ [];
        snaps = (4294967294 ∷ 4294967294 ∷ []) ∷ (4294967294 ∷ 4294967294 ∷ []) ∷ (4294967294 ∷ 4294967295 ∷ []) ∷
            (4294967295 ∷ 4294967295 ∷ []) ∷ [];
      } ∷
      record {
        events = tried 1 1 0 2 1 1 (Commit 4294967295) ∷ move 0 0 5 0 0 move_done ∷ tried 4 1 1 3 0 0 ReadOnly ∷
            tried 5 1 2 1 0 0 ReadOnly ∷ [];
        reads = item 0 4 None ∷ item 0 5 (Some (18446744073709551614 ∷ [])) ∷
            item 0 2 (Some (18446744073709551614 ∷ [])) ∷ item 0 3 (Some (1 ∷ [])) ∷
            item 0 5 (Some (18446744073709551614 ∷ [])) ∷ item 0 3 (Some (1 ∷ [])) ∷ [];
        locks = lock 0 5 0 0 ∷ [];
        writes = item 0 5 (Some (18446744073709551614 ∷ [])) ∷ [];
        snaps = (4294967294 ∷ 4294967294 ∷ []) ∷ (4294967294 ∷ 4294967295 ∷ []) ∷ (4294967295 ∷ 4294967295 ∷ []) ∷ [];
      } ∷
      [];
  audit = row 0 2 (Some (18446744073709551614 ∷ [])) false ∷ row 0 3 (Some (1 ∷ [])) false ∷
      row 0 5 (Some (1 ∷ [])) false ∷ [];
}
unfolding of_scans_2 stint_workers picked after_workers until_ended settle copies load_from
scans_2 = refl

unfoldable of_scans_3 : Scenario
of_scans_3 = record {
  shape = shape Narrow 2 (table 1 1 3 ∷ []) 2 1 0;
  rows = loaded 0 1 (0 ∷ []) ∷ [];
  policy = record { tries = 3; tidy = true };
  txns = txn 2 (Guard 0 3 ∷ Add 0 3 1 true 3 ∷ Add 0 3 1 true 0 ∷ Scan 0 0 18446744073709551614 ∷ []) ∷ txn 2 (Get 0 3 ∷
      Scan 0 0 18446744073709551614 ∷ []) ∷ [];
  schedule = Picks 8409095698246833504 84;
}

scans_3 : shown of_scans_3 (up ∷ fuse 70 ∷ []) ≡ record {
  logs =
      record {
        events = [];
        reads = [];
        locks = [];
        writes = [];
        snaps = [];
      } ∷
      record {
        events = tried 1 1 0 1 0 0 (NoSpace 0) ∷ tried 2 1 0 2 0 0 ReadOnly ∷ [];
        reads = item 0 3 None ∷ item 0 3 None ∷ item 0 1 (Some (0 ∷ [])) ∷ [];
        locks = [];
        writes = [];
        snaps = (0 ∷ 0 ∷ []) ∷ (0 ∷ 0 ∷ []) ∷ [];
      } ∷
      [];
  audit = row 0 1 (Some (0 ∷ [])) false ∷ [];
}
unfolding of_scans_3 stint_workers picked after_workers until_ended settle copies load_from
scans_3 = refl

unfoldable of_scans_4 : Scenario
of_scans_4 = record {
  shape = shape Narrow 3 (table 1 2 2 ∷ []) 1 2 0;
  rows = loaded 0 4 (1 ∷ []) ∷ [];
  policy = record { tries = 2; tidy = true };
  txns = txn 3 (Del 0 4 ∷ Put 0 8 (9 ∷ []) ∷ Del 0 4 ∷ Scan 0 0 3 ∷ []) ∷ txn 1 (Guard 0 5 ∷ Scan 0 0 3 ∷ []) ∷
      txn 1 (Del 0 5 ∷ Scan 0 2 18446744073709551614 ∷ Guard 0 5 ∷ []) ∷ [];
  schedule = Picks 9535352030959758126 259;
}

scans_4 : shown of_scans_4 [] ≡ record {
  logs =
      record {
        events = tried 2 1 0 1 0 0 (NoSpace 0) ∷ tried 3 1 0 0 0 0 (NoSpace 0) ∷ [];
        reads = item 0 5 None ∷ [];
        locks = [];
        writes = [];
        snaps = (0 ∷ 0 ∷ 0 ∷ []) ∷ (0 ∷ 0 ∷ 0 ∷ []) ∷ [];
      } ∷
      record {
        events = [];
        reads = [];
        locks = [];
        writes = [];
        snaps = [];
      } ∷
      record {
        events = tried 1 1 0 0 2 2 (Commit 1) ∷ [];
        reads = [];
        locks = lock 0 4 0 0 ∷ lock 0 8 0 0 ∷ [];
        writes = item 0 4 None ∷ item 0 8 (Some (9 ∷ [])) ∷ [];
        snaps = (0 ∷ 0 ∷ 0 ∷ []) ∷ [];
      } ∷
      [];
  audit = row 0 8 (Some (9 ∷ [])) false ∷ [];
}
unfolding of_scans_4 stint_workers picked after_workers until_ended settle copies load_from
scans_4 = refl

unfoldable of_scans_5 : Scenario
of_scans_5 = record {
  shape = shape Narrow 2 (table 1 4 1 ∷ table 1 1 3 ∷ []) 1 2 0;
  rows = loaded 0 4 (5 ∷ []) ∷ loaded 0 5 (1 ∷ []) ∷ loaded 0 0 (0 ∷ []) ∷ loaded 1 0 (40 ∷ []) ∷ [];
  policy = record { tries = 4; tidy = false };
  txns = txn 1 (Del 0 5 ∷ []) ∷ txn 2 (Put 0 3 (7 ∷ []) ∷ Add 0 0 1 true 1 ∷ Scan 0 0 5 ∷ Put 0 0 (1 ∷ []) ∷ []) ∷
      txn 2 (Get 0 0 ∷ Scan 0 0 18446744073709551614 ∷ Guard 0 5 ∷ []) ∷ txn 2 (Scan 0 0 5 ∷ []) ∷
      txn 2 (Get 0 0 ∷ Scan 1 1 18446744073709551614 ∷ Add 1 2 1 true 1 ∷ Scan 0 2 5 ∷ []) ∷ [];
  schedule = Picks 6660930529171373754 212;
}

scans_5 : shown of_scans_5 (fuse 15 ∷ up ∷ []) ≡ record {
  logs =
      record {
        events = tried 1 1 0 0 1 0 Cut ∷ [];
        reads = [];
        locks = lock 0 5 0 0 ∷ [];
        writes = [];
        snaps = (0 ∷ 0 ∷ []) ∷ [];
      } ∷
      record {
        events = tried 2 1 0 5 2 2 (Commit 1) ∷ tried 3 1 1 6 0 0 ReadOnly ∷ tried 4 1 1 4 0 0 ReadOnly ∷
            tried 5 1 1 2 0 0 (NoSpace 1) ∷ [];
        reads = item 0 0 (Some (0 ∷ [])) ∷ item 0 0 (Some (1 ∷ [])) ∷ item 0 3 (Some (7 ∷ [])) ∷
            item 0 4 (Some (5 ∷ [])) ∷ item 0 5 (Some (1 ∷ [])) ∷ item 0 0 (Some (1 ∷ [])) ∷ item 0 0 (Some (1 ∷ [])) ∷
            item 0 3 (Some (7 ∷ [])) ∷ item 0 4 (Some (5 ∷ [])) ∷ item 0 5 (Some (1 ∷ [])) ∷ item 0 5 (Some (1 ∷ [])) ∷
            item 0 0 (Some (1 ∷ [])) ∷ item 0 3 (Some (7 ∷ [])) ∷ item 0 4 (Some (5 ∷ [])) ∷ item 0 5 (Some (1 ∷ [])) ∷
            item 0 0 (Some (1 ∷ [])) ∷ item 1 2 None ∷ [];
        locks = lock 0 3 0 0 ∷ lock 0 0 0 0 ∷ [];
        writes = item 0 3 (Some (7 ∷ [])) ∷ item 0 0 (Some (1 ∷ [])) ∷ [];
        snaps = (0 ∷ 0 ∷ []) ∷ (0 ∷ 1 ∷ []) ∷ (0 ∷ 1 ∷ []) ∷ (0 ∷ 1 ∷ []) ∷ [];
      } ∷
      [];
  audit = row 0 0 (Some (1 ∷ [])) false ∷ row 0 3 (Some (7 ∷ [])) false ∷ row 0 4 (Some (5 ∷ [])) false ∷
      row 0 5 (Some (1 ∷ [])) true ∷ row 1 0 (Some (40 ∷ [])) false ∷ [];
}
unfolding of_scans_5 stint_workers picked after_workers until_ended settle copies load_from
scans_5 = refl

unfoldable of_scans_6 : Scenario
of_scans_6 = record {
  shape = shape Wide 2 (table 1 2 3 ∷ []) 1 1 0;
  rows = loaded 0 0 (0 ∷ []) ∷ loaded 0 8 (40 ∷ []) ∷ [];
  policy = record { tries = 1; tidy = true };
  txns = txn 1 (Add 0 1 1 true 1 ∷ []) ∷ txn 1 (Scan 0 2 18446744073709551614 ∷ []) ∷
      txn 2 (Scan 0 2 3 ∷ Get 0 0 ∷ Scan 0 0 18446744073709551614 ∷ []) ∷ txn 1 (Add 0 0 1 true 1 ∷ []) ∷
      txn 1 (Put 0 8 (7 ∷ []) ∷ Get 0 1 ∷ Scan 0 0 3 ∷ Guard 0 0 ∷ []) ∷ txn 2 (Add 0 0 1 true 1 ∷ []) ∷ [];
  schedule = Picks 4527308066931819152 170;
}

scans_6 : shown of_scans_6 [] ≡ record {
  logs =
      record {
        events = tried 1 1 0 1 0 0 (NoSpace 0) ∷ tried 2 1 0 1 0 0 ReadOnly ∷ tried 4 1 0 1 1 1 (Commit 1) ∷
            tried 5 1 1 3 2 1 (Commit 2) ∷ [];
        reads = item 0 1 None ∷ item 0 8 (Some (40 ∷ [])) ∷ item 0 0 (Some (0 ∷ [])) ∷ item 0 1 None ∷
            item 0 0 (Some (1 ∷ [])) ∷ item 0 0 (Some (1 ∷ [])) ∷ [];
        locks = lock 0 0 0 0 ∷ lock 0 8 0 0 ∷ lock 0 0 1 1 ∷ [];
        writes = item 0 0 (Some (1 ∷ [])) ∷ item 0 8 (Some (7 ∷ [])) ∷ [];
        snaps = (0 ∷ 0 ∷ []) ∷ (0 ∷ 0 ∷ []) ∷ (0 ∷ 0 ∷ []) ∷ (1 ∷ 0 ∷ []) ∷ [];
      } ∷
      record {
        events = tried 3 1 0 3 0 0 ReadOnly ∷ tried 6 1 0 1 0 0 (Newer (lock 0 0 1 1)) ∷ [];
        reads = item 0 0 (Some (0 ∷ [])) ∷ item 0 0 (Some (0 ∷ [])) ∷ item 0 8 (Some (40 ∷ [])) ∷
            item 0 0 (Some (0 ∷ [])) ∷ [];
        locks = [];
        writes = [];
        snaps = (0 ∷ 0 ∷ []) ∷ (0 ∷ 0 ∷ []) ∷ [];
      } ∷
      [];
  audit = row 0 0 (Some (1 ∷ [])) false ∷ row 0 8 (Some (7 ∷ [])) false ∷ [];
}
unfolding of_scans_6 stint_workers picked after_workers until_ended settle copies load_from
scans_6 = refl

unfoldable of_scans_7 : Scenario
of_scans_7 = record {
  shape = shape Wide 3 (table 1 4 1 ∷ []) 2 3 35184372088830;
  rows = loaded 0 4 (0 ∷ []) ∷ [];
  policy = record { tries = 4; tidy = false };
  txns = txn 1 (Scan 0 1 18446744073709551614 ∷ []) ∷ txn 3 (Scan 0 0 18446744073709551614 ∷ Get 0 5 ∷ []) ∷
      txn 1 (Need 0 5 1 1 ∷ Get 0 5 ∷ Add 0 5 1 true 0 ∷ Put 0 18446744073709551614 (6 ∷ []) ∷ []) ∷
      txn 2 (Need 0 5 1 5 ∷ Scan 0 2 3 ∷ Add 0 18446744073709551614 1 true 1 ∷ Add 0 5 1 true 1 ∷ []) ∷
      txn 2 (Need 0 5 1 0 ∷ Need 0 5 1 5 ∷ []) ∷ [];
  schedule = Picks 17888769576797991114 228;
}

scans_7 : shown of_scans_7 [] ≡ record {
  logs =
      record {
        events = tried 1 1 0 1 0 0 ReadOnly ∷ tried 3 1 0 1 0 0 (Declined 1) ∷ [];
        reads = item 0 4 (Some (0 ∷ [])) ∷ item 0 5 None ∷ [];
        locks = [];
        writes = [];
        snaps = (35184372088830 ∷ 35184372088830 ∷ 35184372088830 ∷ []) ∷
            (35184372088830 ∷ 35184372088830 ∷ 35184372088830 ∷ []) ∷ [];
      } ∷
      record {
        events = tried 4 1 0 1 0 0 (Declined 1) ∷ tried 5 1 0 2 0 0 (Declined 2) ∷ [];
        reads = item 0 5 None ∷ item 0 5 None ∷ item 0 5 None ∷ [];
        locks = [];
        writes = [];
        snaps = (35184372088830 ∷ 35184372088830 ∷ 35184372088830 ∷ []) ∷
            (35184372088830 ∷ 35184372088830 ∷ 35184372088830 ∷ []) ∷ [];
      } ∷
      record {
        events = tried 2 1 0 2 0 0 ReadOnly ∷ [];
        reads = item 0 4 (Some (0 ∷ [])) ∷ item 0 5 None ∷ [];
        locks = [];
        writes = [];
        snaps = (35184372088830 ∷ 35184372088830 ∷ 35184372088830 ∷ []) ∷ [];
      } ∷
      [];
  audit = row 0 4 (Some (0 ∷ [])) false ∷ [];
}
unfolding of_scans_7 stint_workers picked after_workers until_ended settle copies load_from
scans_7 = refl

unfoldable of_scans_8 : Scenario
of_scans_8 = record {
  shape = shape Wide 2 (table 1 1 3 ∷ []) 1 3 0;
  rows = [];
  policy = record { tries = 1; tidy = true };
  txns = txn 2 (Guard 0 5 ∷ Add 0 5 1 false 3 ∷ []) ∷ txn 2 (Add 0 8 1 true 0 ∷ []) ∷ txn 1 (Guard 0 8 ∷ []) ∷
      txn 2 (Scan 0 0 18446744073709551614 ∷ []) ∷ txn 2 (Scan 0 1 3 ∷ []) ∷
      txn 2 (Add 0 8 1 false 0 ∷ Scan 0 2 18446744073709551614 ∷ []) ∷ [];
  schedule = Picks 8839510137306065175 58;
}

scans_8 : shown of_scans_8 (fuse 26 ∷ up ∷ []) ≡ record {
  logs =
      record {
        events = tried 3 1 0 1 0 0 (NoSpace 0) ∷ [];
        reads = item 0 8 None ∷ [];
        locks = [];
        writes = [];
        snaps = (0 ∷ 0 ∷ []) ∷ [];
      } ∷
      record {
        events = tried 1 1 0 2 0 0 (Declined 2) ∷ tried 2 1 0 1 0 0 (NoSpace 0) ∷ tried 4 1 0 0 0 0 ReadOnly ∷
            tried 5 1 0 0 0 0 ReadOnly ∷ tried 6 1 0 1 0 0 (NoSpace 0) ∷ [];
        reads = item 0 5 None ∷ item 0 5 None ∷ item 0 8 None ∷ item 0 8 None ∷ [];
        locks = [];
        writes = [];
        snaps = (0 ∷ 0 ∷ []) ∷ (0 ∷ 0 ∷ []) ∷ (0 ∷ 0 ∷ []) ∷ (0 ∷ 0 ∷ []) ∷ (0 ∷ 0 ∷ []) ∷ [];
      } ∷
      [];
  audit = [];
}
unfolding of_scans_8 stint_workers picked after_workers until_ended settle copies load_from
scans_8 = refl

unfoldable of_scans_9 : Scenario
of_scans_9 = record {
  shape = shape Narrow 3 (table 1 3 3 ∷ []) 2 2 7;
  rows = loaded 0 5 (5 ∷ []) ∷ loaded 0 18446744073709551614 (0 ∷ []) ∷ loaded 0 2 (1 ∷ []) ∷ [];
  policy = record { tries = 1; tidy = true };
  txns = txn 3 (Guard 0 2 ∷ []) ∷ txn 2 (Scan 0 2 5 ∷ Del 0 2 ∷ Del 0 0 ∷ Need 0 0 1 0 ∷ []) ∷ txn 1 (Scan 0 1 5 ∷ []) ∷
      txn 3 (Add 0 5 1 true 3 ∷ Add 0 2 1 true 1 ∷ Get 0 5 ∷ Put 0 5 (3 ∷ []) ∷ []) ∷ txn 2 (Del 0 5 ∷ []) ∷ [];
  schedule = Picks 9563342525603840202 25;
}

scans_9 : shown of_scans_9 (fuse 45 ∷ up ∷ up ∷ []) ≡ record {
  logs =
      record {
        events = tried 3 1 0 2 0 0 ReadOnly ∷ [];
        reads = item 0 2 (Some (1 ∷ [])) ∷ item 0 5 (Some (5 ∷ [])) ∷ [];
        locks = [];
        writes = [];
        snaps = (7 ∷ 7 ∷ 7 ∷ []) ∷ [];
      } ∷
      record {
        events = tried 2 1 0 2 0 0 (NoSpace 0) ∷ tried 5 1 0 0 1 1 (Commit 8) ∷ [];
        reads = item 0 2 (Some (1 ∷ [])) ∷ item 0 5 (Some (5 ∷ [])) ∷ [];
        locks = lock 0 5 0 0 ∷ [];
        writes = item 0 5 None ∷ [];
        snaps = (7 ∷ 7 ∷ 7 ∷ []) ∷ (7 ∷ 7 ∷ 7 ∷ []) ∷ [];
      } ∷
      record {
        events = tried 1 1 0 1 0 0 ReadOnly ∷ tried 4 1 0 3 0 0 (Locked (lock 0 5 0 0)) ∷ [];
        reads = item 0 2 (Some (1 ∷ [])) ∷ item 0 5 (Some (5 ∷ [])) ∷ item 0 2 (Some (1 ∷ [])) ∷
            item 0 5 (Some (8 ∷ [])) ∷ [];
        locks = [];
        writes = [];
        snaps = (7 ∷ 7 ∷ 7 ∷ []) ∷ (7 ∷ 7 ∷ 7 ∷ []) ∷ [];
      } ∷
      [];
  audit = row 0 2 (Some (1 ∷ [])) false ∷ row 0 18446744073709551614 (Some (0 ∷ [])) false ∷ [];
}
unfolding of_scans_9 stint_workers picked after_workers until_ended settle copies load_from
scans_9 = refl

unfoldable of_scans_10 : Scenario
of_scans_10 = record {
  shape = shape Narrow 1 (table 1 1 2 ∷ []) 1 1 0;
  rows = [];
  policy = record { tries = 3; tidy = true };
  txns = txn 1 (Put 0 0 (5 ∷ []) ∷ Put 0 0 (5 ∷ []) ∷ []) ∷
      txn 1 (Guard 0 2 ∷ Scan 0 1 18446744073709551614 ∷ Scan 0 0 5 ∷ Add 0 0 1 true 3 ∷ []) ∷
      txn 1 (Scan 0 0 18446744073709551614 ∷ Need 0 0 1 1 ∷ Scan 0 0 18446744073709551614 ∷ Put 0 0 (9 ∷ []) ∷ []) ∷
      txn 1 (Need 0 0 1 0 ∷ []) ∷ txn 1 (Put 0 0 (9 ∷ []) ∷ Scan 0 2 3 ∷ Scan 0 0 18446744073709551614 ∷ []) ∷ [];
  schedule = Picks 7789676892254324829 258;
}

scans_10 : shown of_scans_10 (fuse 52 ∷ []) ≡ record {
  logs =
      record {
        events = tried 1 1 0 0 1 1 (Commit 1) ∷ tried 2 1 1 1 0 0 (NoSpace 0) ∷ tried 3 1 1 3 1 0 Cut ∷ [];
        reads = item 0 2 None ∷ item 0 0 (Some (5 ∷ [])) ∷ item 0 0 (Some (5 ∷ [])) ∷ item 0 0 (Some (5 ∷ [])) ∷ [];
        locks = lock 0 0 0 0 ∷ lock 0 0 1 1 ∷ [];
        writes = item 0 0 (Some (5 ∷ [])) ∷ [];
        snaps = (0 ∷ []) ∷ (1 ∷ []) ∷ (1 ∷ []) ∷ [];
      } ∷
      [];
  audit = row 0 0 (Some (5 ∷ [])) false ∷ [];
}
unfolding of_scans_10 stint_workers picked after_workers until_ended settle copies load_from
scans_10 = refl

unfoldable of_scans_11 : Scenario
of_scans_11 = record {
  shape = shape Narrow 2 (table 2 2 3 ∷ []) 1 3 0;
  rows = loaded 0 1 (1 ∷ 1 ∷ []) ∷ [];
  policy = record { tries = 4; tidy = true };
  txns = txn 1 (Add 0 4 2 true 1 ∷ []) ∷ txn 1 (Del 0 1 ∷ []) ∷ txn 1 (Scan 0 1 3 ∷ Guard 0 4 ∷ Add 0 3 2 true 0 ∷ []) ∷
      txn 1 (Scan 0 0 18446744073709551614 ∷ []) ∷ txn 1 (Add 0 3 1 true 3 ∷ []) ∷ [];
  schedule = Picks 7138656046148517865 163;
}

scans_11 : shown of_scans_11 (fuse 62 ∷ up ∷ []) ≡ record {
  logs =
      record {
        events = tried 1 1 0 1 1 1 (Commit 1) ∷ tried 2 1 1 0 1 1 (Commit 2) ∷ tried 3 1 2 1 0 0 Cut ∷ [];
        reads = item 0 4 None ∷ item 0 4 (Some (0 ∷ 1 ∷ [])) ∷ [];
        locks = lock 0 4 0 0 ∷ lock 0 1 0 0 ∷ [];
        writes = item 0 4 (Some (0 ∷ 1 ∷ [])) ∷ item 0 1 None ∷ [];
        snaps = (0 ∷ 0 ∷ []) ∷ (1 ∷ 0 ∷ []) ∷ (2 ∷ 0 ∷ []) ∷ [];
      } ∷
      record {
        events = [];
        reads = [];
        locks = [];
        writes = [];
        snaps = [];
      } ∷
      [];
  audit = row 0 4 (Some (0 ∷ 1 ∷ [])) false ∷ [];
}
unfolding of_scans_11 stint_workers picked after_workers until_ended settle copies load_from
scans_11 = refl

unfoldable of_scans_12 : Scenario
of_scans_12 = record {
  shape = shape Held 3 (table 1 1 2 ∷ []) 1 3 0;
  rows = loaded 0 5 (18446744073709551614 ∷ []) ∷ [];
  policy = record { tries = 2; tidy = false };
  txns = txn 3 (Need 0 8 1 1 ∷ []) ∷ txn 3 (Need 0 5 1 0 ∷ Need 0 8 1 1 ∷ []) ∷
      txn 2 (Del 0 5 ∷ Scan 0 2 5 ∷ Scan 0 0 18446744073709551614 ∷ []) ∷ txn 2 (Add 0 5 1 true 3 ∷ []) ∷
      txn 2 (Scan 0 2 3 ∷ Add 0 8 1 true 3 ∷ Add 0 5 1 true 1 ∷ []) ∷ [];
  schedule = Picks 404018259741169381 224;
}

scans_12 : shown of_scans_12 [] ≡ record {
  logs =
      record {
        events = [];
        reads = [];
        locks = [];
        writes = [];
        snaps = [];
      } ∷
      record {
        events = tried 3 1 0 0 1 1 (Commit 1) ∷ tried 4 1 1 1 1 1 (Commit 2) ∷ tried 5 1 2 1 0 0 (NoSpace 0) ∷ [];
        reads = item 0 5 None ∷ item 0 8 None ∷ [];
        locks = lock 0 5 0 0 ∷ lock 0 5 2 1 ∷ [];
        writes = item 0 5 None ∷ item 0 5 (Some (3 ∷ [])) ∷ [];
        snaps = (0 ∷ 0 ∷ 0 ∷ []) ∷ (0 ∷ 1 ∷ 0 ∷ []) ∷ (0 ∷ 2 ∷ 0 ∷ []) ∷ [];
      } ∷
      record {
        events = tried 1 1 0 1 0 0 (Declined 1) ∷ tried 2 1 0 2 0 0 (Declined 2) ∷ [];
        reads = item 0 8 None ∷ item 0 5 (Some (18446744073709551614 ∷ [])) ∷ item 0 8 None ∷ [];
        locks = [];
        writes = [];
        snaps = (0 ∷ 0 ∷ 0 ∷ []) ∷ (0 ∷ 0 ∷ 0 ∷ []) ∷ [];
      } ∷
      [];
  audit = row 0 5 (Some (3 ∷ [])) false ∷ [];
}
unfolding of_scans_12 stint_workers picked after_workers until_ended settle copies load_from
scans_12 = refl

unfoldable of_scans_13 : Scenario
of_scans_13 = record {
  shape = shape Narrow 1 (table 1 2 2 ∷ table 1 3 1 ∷ []) 2 1 0;
  rows = loaded 1 4 (1 ∷ []) ∷ loaded 1 5 (18446744073709551614 ∷ []) ∷ [];
  policy = record { tries = 4; tidy = true };
  txns = txn 1 (Scan 1 0 3 ∷ Get 1 5 ∷ []) ∷ txn 1 (Scan 1 0 18446744073709551614 ∷ Add 1 5 1 true 0 ∷ []) ∷
      txn 1 (Need 1 5 1 1 ∷ Need 1 5 1 0 ∷ Get 1 5 ∷ []) ∷ txn 1 (Get 0 4 ∷ Scan 1 0 3 ∷ []) ∷ [];
  schedule = Picks 4482936283251634493 149;
}

scans_13 : shown of_scans_13 (fuse 51 ∷ []) ≡ record {
  logs =
      record {
        events = tried 1 1 0 1 0 0 ReadOnly ∷ tried 2 1 0 3 1 1 (Commit 1) ∷ move 0 1 5 0 0 move_cut ∷ [];
        reads = item 1 5 (Some (18446744073709551614 ∷ [])) ∷ item 1 4 (Some (1 ∷ [])) ∷
            item 1 5 (Some (18446744073709551614 ∷ [])) ∷ item 1 5 (Some (18446744073709551614 ∷ [])) ∷ [];
        locks = lock 1 5 0 0 ∷ [];
        writes = item 1 5 (Some (18446744073709551614 ∷ [])) ∷ [];
        snaps = (0 ∷ []) ∷ (0 ∷ []) ∷ [];
      } ∷
      [];
  audit = row 1 4 (Some (1 ∷ [])) false ∷ row 1 5 (Some (18446744073709551614 ∷ [])) false ∷ [];
}
unfolding of_scans_13 stint_workers picked after_workers until_ended settle copies load_from
scans_13 = refl

unfoldable of_scans_14 : Scenario
of_scans_14 = record {
  shape = shape Narrow 2 (table 2 4 3 ∷ []) 2 1 0;
  rows = [];
  policy = record { tries = 3; tidy = true };
  txns = txn 1 (Scan 0 0 18446744073709551614 ∷ Put 0 8 (7 ∷ 1 ∷ []) ∷ []) ∷
      txn 1 (Del 0 18446744073709551614 ∷ Get 0 1 ∷ Scan 0 2 5 ∷ Put 0 1 (3 ∷ 0 ∷ []) ∷ []) ∷
      txn 1 (Put 0 1 (0 ∷ 0 ∷ []) ∷ Need 0 8 1 0 ∷ Add 0 8 2 true 1 ∷ []) ∷ txn 2 (Add 0 1 2 true 1 ∷ []) ∷
      txn 1 (Scan 0 0 5 ∷ []) ∷ [];
  schedule = Picks 2768057371353935172 31;
}

scans_14 : shown of_scans_14 [] ≡ record {
  logs =
      record {
        events = tried 1 1 0 0 1 1 (Commit 1) ∷ tried 2 1 2 1 2 2 (Commit 2) ∷ tried 3 1 3 2 2 2 (Commit 3) ∷
            move 1 0 1 0 0 move_done ∷ tried 5 1 4 1 0 0 ReadOnly ∷ [];
        reads = item 0 1 (Some (0 ∷ 1 ∷ [])) ∷ item 0 8 (Some (7 ∷ 1 ∷ [])) ∷ item 0 8 (Some (7 ∷ 1 ∷ [])) ∷
            item 0 1 (Some (0 ∷ 0 ∷ [])) ∷ [];
        locks = lock 0 8 0 0 ∷ lock 0 18446744073709551614 0 0 ∷ lock 0 1 2 1 ∷ lock 0 1 1 2 ∷ lock 0 8 1 1 ∷ [];
        writes = item 0 8 (Some (7 ∷ 1 ∷ [])) ∷ item 0 18446744073709551614 None ∷ item 0 1 (Some (3 ∷ 0 ∷ [])) ∷
            item 0 1 (Some (0 ∷ 0 ∷ [])) ∷ item 0 8 (Some (7 ∷ 2 ∷ [])) ∷ [];
        snaps = (0 ∷ 0 ∷ []) ∷ (1 ∷ 1 ∷ []) ∷ (2 ∷ 1 ∷ []) ∷ (3 ∷ 1 ∷ []) ∷ [];
      } ∷
      record {
        events = tried 4 1 0 1 1 1 (Commit 1) ∷ [];
        reads = item 0 1 None ∷ [];
        locks = lock 0 1 0 0 ∷ [];
        writes = item 0 1 (Some (0 ∷ 1 ∷ [])) ∷ [];
        snaps = (0 ∷ 0 ∷ []) ∷ [];
      } ∷
      [];
  audit = row 0 1 (Some (0 ∷ 0 ∷ [])) false ∷ row 0 8 (Some (7 ∷ 2 ∷ [])) false ∷ [];
}
unfolding of_scans_14 stint_workers picked after_workers until_ended settle copies load_from
scans_14 = refl

unfoldable of_scans_15 : Scenario
of_scans_15 = record {
  shape = shape Wide 3 (table 1 1 1 ∷ []) 2 1 0;
  rows = [];
  policy = record { tries = 1; tidy = true };
  txns = txn 3 (Scan 0 2 18446744073709551614 ∷ Add 0 1 1 false 1 ∷ Add 0 4 1 true 3 ∷ Need 0 4 1 0 ∷ []) ∷
      txn 3 (Scan 0 0 5 ∷ []) ∷ txn 2 (Scan 0 0 3 ∷ []) ∷
      txn 1 (Scan 0 0 18446744073709551614 ∷ Scan 0 0 3 ∷ Put 0 1 (4 ∷ []) ∷ []) ∷ txn 2 (Need 0 4 1 1 ∷ Del 0 1 ∷ []) ∷
      txn 3 (Add 0 1 1 true 3 ∷ Del 0 4 ∷ Scan 0 0 18446744073709551614 ∷ []) ∷ [];
  schedule = Picks 6488018352895663419 121;
}

scans_15 : shown of_scans_15 (up ∷ fuse 25 ∷ up ∷ []) ≡ record {
  logs =
      record {
        events = tried 4 1 0 0 1 1 (Commit 1) ∷ move 0 0 1 0 0 move_done ∷ [];
        reads = [];
        locks = lock 0 1 0 0 ∷ [];
        writes = item 0 1 (Some (4 ∷ [])) ∷ [];
        snaps = (0 ∷ 0 ∷ 0 ∷ []) ∷ [];
      } ∷
      record {
        events = tried 3 1 0 0 0 0 ReadOnly ∷ tried 5 1 0 1 0 0 (Declined 1) ∷ [];
        reads = item 0 4 None ∷ [];
        locks = [];
        writes = [];
        snaps = (0 ∷ 0 ∷ 0 ∷ []) ∷ (0 ∷ 0 ∷ 0 ∷ []) ∷ [];
      } ∷
      record {
        events = tried 1 1 0 1 0 0 (Declined 2) ∷ tried 2 1 0 0 0 0 ReadOnly ∷ tried 6 1 1 1 0 0 (NoSpace 0) ∷ [];
        reads = item 0 1 None ∷ item 0 1 (Some (4 ∷ [])) ∷ [];
        locks = [];
        writes = [];
        snaps = (0 ∷ 0 ∷ 0 ∷ []) ∷ (0 ∷ 0 ∷ 0 ∷ []) ∷ (1 ∷ 0 ∷ 0 ∷ []) ∷ [];
      } ∷
      [];
  audit = row 0 1 (Some (4 ∷ [])) false ∷ [];
}
unfolding of_scans_15 stint_workers picked after_workers until_ended settle copies load_from
scans_15 = refl
