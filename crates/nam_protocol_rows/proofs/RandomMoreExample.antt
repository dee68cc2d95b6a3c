-- More random scripts of an independent simulator.
use Rattle.std.proofs.Common.{◌≡◌, true, false, [], ◌∷◌, Some, None, refl}
use Rattle.nam_catalog.specs.declared.form.Form.TheVariants.{Narrow, Wide}
use Rattle.si_model.specs.declared.op.Op.TheVariants.{Get, Put, Add, Del, Need, Guard}
use Rattle.si_model.specs.declared.log.Outcome.TheVariants.{Commit, ReadOnly, Declined, NoSpace, Again, Locked, Newer}
use Rattle.si_model.specs.declared.log.Outcome.TheVariants.{Cut}
use Rattle.si_model.specs.declared.log.Event.TheVariants.{TidyCut}
use Rattle.nam_protocol.specs.Schedule.{Scenario, Stints, stint_workers, picked, after_workers, until_ended}
use Rattle.nam_protocol.specs.Session.{settle}
use Rattle.nam_protocol.specs.Opening.{copies, load_from}
use Rattle.nam_protocol.proofs.Shown.{shape, table, loaded, txn, stint, up, fuse, item, row, lock, tried, unbegun, move}
use Rattle.nam_protocol.proofs.Shown.{move_done, move_cut, shown}

unfoldable of_random_14 : Scenario
of_random_14 = record {
  shape = shape Wide 2 (table 2 1 1 ∷ []) 1 1 25452162048807;
  rows = loaded 0 0 (4 ∷ 3 ∷ []) ∷ [];
  policy = record { tries = 16; tidy = true };
  txns = txn 1 (Put 0 0 (0 ∷ 5 ∷ []) ∷ []) ∷ [];
  schedule = Stints (stint 2 1 ∷ stint 2 3 ∷ stint 1 77 ∷ stint 1 53 ∷ stint 1 30 ∷ stint 1 24 ∷ stint 1 86 ∷
      stint 2 19 ∷ []);
}

random_14 : shown of_random_14 (up ∷ fuse 88 ∷ []) ≡ record {
  logs =
      record {
        events = tried 1 1 0 0 1 1 (Commit 25452162048808) ∷ move 0 0 0 0 0 move_done ∷ [];
        reads = [];
        locks = lock 0 0 0 0 ∷ [];
        writes = item 0 0 (Some (0 ∷ 5 ∷ [])) ∷ [];
        snaps = (25452162048807 ∷ 25452162048807 ∷ []) ∷ [];
      } ∷
      record {
        events = [];
        reads = [];
        locks = [];
        writes = [];
        snaps = [];
      } ∷
      [];
  audit = row 0 0 (Some (0 ∷ 5 ∷ [])) false ∷ [];
}
unfolding of_random_14 stint_workers picked after_workers until_ended settle copies load_from
random_14 = refl

unfoldable of_random_15 : Scenario
of_random_15 = record {
  shape = shape Wide 3 (table 2 1 4 ∷ table 1 2 3 ∷ table 2 6 3 ∷ []) 2 1 0;
  rows = loaded 2 5 (6 ∷ 10 ∷ []) ∷ loaded 0 2 (8 ∷ 9 ∷ []) ∷ loaded 2 0 (10 ∷ 11 ∷ []) ∷ loaded 2 1 (11 ∷ 5 ∷ []) ∷
      loaded 2 18446744073709551613 (0 ∷ 19 ∷ []) ∷ loaded 2 2 (0 ∷ 12 ∷ []) ∷ loaded 1 1 (8 ∷ []) ∷ [];
  policy = record { tries = 2; tidy = false };
  txns = txn 3 (Guard 2 18446744073709551613 ∷ Get 0 2 ∷ Guard 1 1 ∷ Put 1 0 (28 ∷ []) ∷ Add 1 0 1 true 1 ∷
      Put 2 1 (43 ∷ 4 ∷ []) ∷ Put 1 0 (18446744073709551613 ∷ []) ∷ Add 1 1 1 false 1 ∷
      Put 0 0 (12 ∷ 18446744073709551615 ∷ []) ∷ Need 2 1 1 2 ∷ []) ∷ txn 1 (Get 2 0 ∷ []) ∷
      txn 2 (Get 2 1 ∷ Add 2 0 1 true 3 ∷ []) ∷ txn 3 (Del 0 1 ∷ Get 0 0 ∷ []) ∷ txn 2 (Guard 1 1 ∷ []) ∷
      txn 2 (Put 2 0 (18446744073709551614 ∷ 61 ∷ []) ∷ Add 0 2 1 false 1 ∷ []) ∷ txn 2 (Put 1 0 (3 ∷ []) ∷ []) ∷ [];
  schedule = Stints (stint 2 22 ∷ stint 3 16 ∷ stint 1 142 ∷ stint 3 1 ∷ stint 1 59 ∷ stint 3 3 ∷ stint 2 57 ∷
      stint 1 200 ∷ stint 2 1 ∷ stint 3 1 ∷ stint 3 16 ∷ stint 1 7 ∷ stint 3 11 ∷ stint 3 1 ∷ stint 2 8 ∷ stint 3 18 ∷
      stint 2 11 ∷ stint 3 37 ∷ stint 3 4 ∷ stint 1 7 ∷ []);
}

random_15 : shown of_random_15 ([]) ≡ record {
  logs =
      record {
        events = tried 2 1 0 1 0 0 ReadOnly ∷ [];
        reads = item 2 0 (Some (10 ∷ 11 ∷ [])) ∷ [];
        locks = [];
        writes = [];
        snaps = (0 ∷ 0 ∷ 0 ∷ []) ∷ [];
      } ∷
      record {
        events = tried 3 1 0 2 1 1 (Commit 1) ∷ tried 5 1 1 1 0 0 ReadOnly ∷ tried 6 1 1 1 2 2 (Commit 2) ∷
            tried 7 1 2 0 1 1 (Commit 3) ∷ [];
        reads = item 2 1 (Some (11 ∷ 5 ∷ [])) ∷ item 2 0 (Some (10 ∷ 11 ∷ [])) ∷ item 1 1 (Some (8 ∷ [])) ∷
            item 0 2 (Some (8 ∷ 9 ∷ [])) ∷ [];
        locks = lock 2 0 0 0 ∷ lock 2 0 2 1 ∷ lock 0 2 0 0 ∷ lock 1 0 0 0 ∷ [];
        writes = item 2 0 (Some (13 ∷ 11 ∷ [])) ∷ item 2 0 (Some (18446744073709551614 ∷ 61 ∷ [])) ∷
            item 0 2 (Some (7 ∷ 9 ∷ [])) ∷ item 1 0 (Some (3 ∷ [])) ∷ [];
        snaps = (0 ∷ 0 ∷ 0 ∷ []) ∷ (0 ∷ 1 ∷ 0 ∷ []) ∷ (0 ∷ 1 ∷ 0 ∷ []) ∷ (0 ∷ 2 ∷ 0 ∷ []) ∷ [];
      } ∷
      record {
        events = tried 1 1 0 5 0 0 (NoSpace 0) ∷ tried 4 1 1 0 0 0 (NoSpace 0) ∷ [];
        reads = item 2 18446744073709551613 (Some (0 ∷ 19 ∷ [])) ∷ item 0 2 (Some (8 ∷ 9 ∷ [])) ∷
            item 1 1 (Some (8 ∷ [])) ∷ item 1 0 (Some (28 ∷ [])) ∷ item 1 1 (Some (8 ∷ [])) ∷ [];
        locks = [];
        writes = [];
        snaps = (0 ∷ 0 ∷ 0 ∷ []) ∷ (0 ∷ 1 ∷ 0 ∷ []) ∷ [];
      } ∷
      [];
  audit = row 0 2 (Some (7 ∷ 9 ∷ [])) false ∷ row 1 0 (Some (3 ∷ [])) false ∷ row 1 1 (Some (8 ∷ [])) false ∷
      row 2 0 (Some (18446744073709551614 ∷ 61 ∷ [])) false ∷ row 2 1 (Some (11 ∷ 5 ∷ [])) false ∷
      row 2 2 (Some (0 ∷ 12 ∷ [])) false ∷ row 2 5 (Some (6 ∷ 10 ∷ [])) false ∷
      row 2 18446744073709551613 (Some (0 ∷ 19 ∷ [])) false ∷ [];
}
unfolding of_random_15 stint_workers picked after_workers until_ended settle copies load_from
random_15 = refl

unfoldable of_random_16 : Scenario
of_random_16 = record {
  shape = shape Narrow 3 (table 2 7 1 ∷ table 3 5 3 ∷ []) 3 4 2865508244;
  rows = loaded 0 5 (8 ∷ 7 ∷ []) ∷ loaded 0 7 (12 ∷ 6 ∷ []) ∷ loaded 0 3 (59 ∷ 9 ∷ []) ∷ loaded 1 1 (9 ∷ 3 ∷ 0 ∷ []) ∷
      loaded 0 2 (18446744073709551613 ∷ 5 ∷ []) ∷ loaded 0 1 (10 ∷ 64 ∷ []) ∷ loaded 0 4 (35 ∷ 65 ∷ []) ∷
      loaded 1 3 (8 ∷ 9 ∷ 7 ∷ []) ∷ loaded 1 4 (18446744073709551613 ∷ 9 ∷ 6 ∷ []) ∷ [];
  policy = record { tries = 3; tidy = true };
  txns = txn 2 (Get 1 18446744073709551613 ∷ []) ∷
      txn 3 (Put 0 2 (6 ∷ 18446744073709551615 ∷ []) ∷ Get 1 1 ∷ Need 1 3 1 0 ∷ Guard 1 3 ∷ []) ∷
      txn 3 (Add 0 6 2 false 4 ∷ Put 1 3 (11 ∷ 18446744073709551615 ∷ 12 ∷ []) ∷ Guard 0 6 ∷ []) ∷ [];
  schedule = Stints (stint 2 61 ∷ stint 2 31 ∷ []);
}

random_16 : shown of_random_16 (up ∷ fuse 85 ∷ up ∷ []) ≡ record {
  logs =
      record {
        events = [];
        reads = [];
        locks = [];
        writes = [];
        snaps = [];
      } ∷
      record {
        events = tried 1 1 0 1 0 0 ReadOnly ∷ [];
        reads = item 1 18446744073709551613 None ∷ [];
        locks = [];
        writes = [];
        snaps = (2865508244 ∷ 2865508244 ∷ 2865508244 ∷ []) ∷ [];
      } ∷
      record {
        events = tried 2 1 0 3 2 1 (Commit 2865508245) ∷ move 2 0 2 0 0 move_done ∷ tried 3 1 1 1 0 0 (Declined 1) ∷ [];
        reads = item 1 1 (Some (9 ∷ 3 ∷ 0 ∷ [])) ∷ item 1 3 (Some (8 ∷ 9 ∷ 7 ∷ [])) ∷ item 1 3 (Some (8 ∷ 9 ∷ 7 ∷ [])) ∷
            item 0 6 None ∷ [];
        locks = lock 0 2 0 0 ∷ lock 1 3 0 0 ∷ [];
        writes = item 0 2 (Some (6 ∷ 18446744073709551615 ∷ [])) ∷ [];
        snaps = (2865508244 ∷ 2865508244 ∷ 2865508244 ∷ []) ∷ (2865508244 ∷ 2865508244 ∷ 2865508245 ∷ []) ∷ [];
      } ∷
      [];
  audit = row 0 1 (Some (10 ∷ 64 ∷ [])) false ∷ row 0 2 (Some (6 ∷ 18446744073709551615 ∷ [])) false ∷
      row 0 3 (Some (59 ∷ 9 ∷ [])) false ∷ row 0 4 (Some (35 ∷ 65 ∷ [])) false ∷ row 0 5 (Some (8 ∷ 7 ∷ [])) false ∷
      row 0 7 (Some (12 ∷ 6 ∷ [])) false ∷ row 1 1 (Some (9 ∷ 3 ∷ 0 ∷ [])) false ∷
      row 1 3 (Some (8 ∷ 9 ∷ 7 ∷ [])) false ∷ row 1 4 (Some (18446744073709551613 ∷ 9 ∷ 6 ∷ [])) false ∷ [];
}
unfolding of_random_16 stint_workers picked after_workers until_ended settle copies load_from
random_16 = refl

unfoldable of_random_17 : Scenario
of_random_17 = record {
  shape = shape Narrow 2 (table 3 2 3 ∷ []) 1 1 0;
  rows = loaded 0 15 (0 ∷ 7 ∷ 0 ∷ []) ∷ [];
  policy = record { tries = 3; tidy = true };
  txns = txn 1 (Add 0 15 1 true 1 ∷ []) ∷ txn 1 (Need 0 2 2 4 ∷ Add 0 15 3 true 67 ∷ []) ∷
      txn 1 (Put 0 2 (7 ∷ 12 ∷ 10 ∷ []) ∷ Add 0 15 1 true 9 ∷ []) ∷ txn 1 (Get 0 15 ∷ Add 0 15 1 true 1 ∷ []) ∷ [];
  schedule = Stints (stint 1 25 ∷ stint 2 6 ∷ stint 1 1 ∷ stint 2 3 ∷ stint 1 35 ∷ stint 1 32 ∷ stint 1 28 ∷ stint 2 8 ∷
      stint 1 20 ∷ stint 2 4 ∷ stint 1 79 ∷ stint 2 2 ∷ stint 1 223 ∷ stint 2 7 ∷ stint 1 126 ∷ stint 2 5 ∷ stint 1 11 ∷
      stint 2 4 ∷ stint 1 374 ∷ stint 2 6 ∷ stint 1 16 ∷ stint 1 102 ∷ stint 2 1 ∷ stint 1 76 ∷ []);
}

random_17 : shown of_random_17 ([]) ≡ record {
  logs =
      record {
        events = tried 1 1 0 1 1 1 (Commit 1) ∷ tried 2 1 1 1 0 0 (Declined 1) ∷ tried 3 1 1 1 2 2 (Commit 2) ∷
            tried 4 1 2 2 1 1 (Commit 3) ∷ move 0 0 15 0 0 move_done ∷ [];
        reads = item 0 15 (Some (0 ∷ 7 ∷ 0 ∷ [])) ∷ item 0 2 None ∷ item 0 15 (Some (1 ∷ 7 ∷ 0 ∷ [])) ∷
            item 0 15 (Some (10 ∷ 7 ∷ 0 ∷ [])) ∷ item 0 15 (Some (10 ∷ 7 ∷ 0 ∷ [])) ∷ [];
        locks = lock 0 15 0 0 ∷ lock 0 2 0 0 ∷ lock 0 15 1 1 ∷ lock 0 15 1 2 ∷ [];
        writes = item 0 15 (Some (1 ∷ 7 ∷ 0 ∷ [])) ∷ item 0 2 (Some (7 ∷ 12 ∷ 10 ∷ [])) ∷
            item 0 15 (Some (10 ∷ 7 ∷ 0 ∷ [])) ∷ item 0 15 (Some (11 ∷ 7 ∷ 0 ∷ [])) ∷ [];
        snaps = (0 ∷ 0 ∷ []) ∷ (1 ∷ 0 ∷ []) ∷ (1 ∷ 0 ∷ []) ∷ (2 ∷ 0 ∷ []) ∷ [];
      } ∷
      record {
        events = [];
        reads = [];
        locks = [];
        writes = [];
        snaps = [];
      } ∷
      [];
  audit = row 0 2 (Some (7 ∷ 12 ∷ 10 ∷ [])) false ∷ row 0 15 (Some (11 ∷ 7 ∷ 0 ∷ [])) false ∷ [];
}
unfolding of_random_17 stint_workers picked after_workers until_ended settle copies load_from
random_17 = refl

unfoldable of_random_18 : Scenario
of_random_18 = record {
  shape = shape Narrow 2 (table 2 2 3 ∷ table 1 1 2 ∷ []) 1 2 0;
  rows = loaded 0 2 (5 ∷ 11 ∷ []) ∷ loaded 0 0 (53 ∷ 9 ∷ []) ∷ loaded 1 1 (10 ∷ []) ∷ [];
  policy = record { tries = 5; tidy = true };
  txns = txn 2 (Need 1 2 1 0 ∷ Del 1 1 ∷ Get 1 0 ∷ []) ∷
      txn 1 (Put 0 18446744073709551613 (75 ∷ 0 ∷ []) ∷ Guard 0 3 ∷ Put 1 3 (9 ∷ []) ∷ []) ∷
      txn 2 (Put 0 2 (11 ∷ 3 ∷ []) ∷ []) ∷ txn 1 (Get 0 18446744073709551613 ∷ []) ∷ txn 1 (Del 1 1 ∷ []) ∷ [];
  schedule = Stints (stint 2 25 ∷ stint 2 6 ∷ stint 1 36 ∷ stint 2 3 ∷ stint 1 194 ∷ stint 1 9 ∷ stint 2 8 ∷
      stint 1 182 ∷ stint 1 17 ∷ stint 1 11 ∷ stint 1 1 ∷ stint 2 19 ∷ stint 2 58 ∷ stint 2 7 ∷ []);
}

random_18 : shown of_random_18 ([]) ≡ record {
  logs =
      record {
        events = tried 2 1 1 0 0 0 (NoSpace 0) ∷ tried 4 1 1 1 0 0 ReadOnly ∷ tried 5 1 1 0 1 1 (Commit 1) ∷
            move 0 1 1 0 0 move_done ∷ [];
        reads = item 0 18446744073709551613 None ∷ [];
        locks = lock 1 1 2 1 ∷ [];
        writes = item 1 1 None ∷ [];
        snaps = (0 ∷ 1 ∷ []) ∷ (0 ∷ 1 ∷ []) ∷ (0 ∷ 1 ∷ []) ∷ [];
      } ∷
      record {
        events = tried 1 1 0 2 1 1 (Commit 1) ∷ tried 3 1 1 0 1 1 (Commit 2) ∷ [];
        reads = item 1 2 None ∷ item 1 0 None ∷ [];
        locks = lock 1 1 0 0 ∷ lock 0 2 0 0 ∷ [];
        writes = item 1 1 None ∷ item 0 2 (Some (11 ∷ 3 ∷ [])) ∷ [];
        snaps = (0 ∷ 0 ∷ []) ∷ (0 ∷ 1 ∷ []) ∷ [];
      } ∷
      [];
  audit = row 0 0 (Some (53 ∷ 9 ∷ [])) false ∷ row 0 2 (Some (11 ∷ 3 ∷ [])) false ∷ [];
}
unfolding of_random_18 stint_workers picked after_workers until_ended settle copies load_from
random_18 = refl

unfoldable of_random_19 : Scenario
of_random_19 = record {
  shape = shape Narrow 4 (table 2 6 2 ∷ table 1 5 4 ∷ []) 1 2 0;
  rows = loaded 1 3 (9 ∷ []) ∷ loaded 1 6 (62 ∷ []) ∷ loaded 0 5 (3 ∷ 8 ∷ []) ∷ loaded 0 4 (4 ∷ 91 ∷ []) ∷
      loaded 0 2 (0 ∷ 97 ∷ []) ∷ loaded 1 1 (8 ∷ []) ∷ loaded 1 2 (53 ∷ []) ∷ loaded 0 1 (61 ∷ 7 ∷ []) ∷
      loaded 1 5 (5 ∷ []) ∷ loaded 0 0 (0 ∷ 18446744073709551614 ∷ []) ∷ loaded 0 3 (37 ∷ 4 ∷ []) ∷ [];
  policy = record { tries = 3; tidy = true };
  txns = txn 1 (Put 0 6 (94 ∷ 12 ∷ []) ∷ Guard 1 0 ∷ Del 1 4 ∷ []) ∷
      txn 2 (Del 0 2 ∷ Add 0 2 2 true 1 ∷ Add 1 4 1 false 1 ∷ []) ∷ txn 3 (Del 0 4 ∷ Guard 0 3 ∷ []) ∷
      txn 1 (Get 1 6 ∷ []) ∷ txn 2 (Need 0 3 1 2 ∷ []) ∷ txn 1 (Del 0 6 ∷ Need 0 7 1 0 ∷ Get 1 1 ∷ []) ∷
      txn 1 (Del 0 7 ∷ Need 0 0 2 0 ∷ Add 1 3 1 false 1 ∷ []) ∷ txn 2 (Guard 1 5 ∷ []) ∷ [];
  schedule = Stints (stint 3 1 ∷ stint 2 1 ∷ stint 4 1 ∷ stint 2 1 ∷ stint 1 1 ∷ stint 3 1 ∷ stint 3 1 ∷ stint 1 1 ∷
      stint 4 1 ∷ stint 2 1 ∷ stint 3 1 ∷ stint 1 1 ∷ stint 3 1 ∷ stint 3 1 ∷ stint 4 1 ∷ stint 1 1 ∷ stint 2 1 ∷
      stint 4 1 ∷ stint 1 1 ∷ stint 1 1 ∷ stint 2 1 ∷ stint 2 1 ∷ stint 1 1 ∷ stint 2 1 ∷ stint 2 1 ∷ stint 2 1 ∷ []);
}

random_19 : shown of_random_19 ([]) ≡ record {
  logs =
      record {
        events = tried 1 1 0 0 0 0 (NoSpace 0) ∷ tried 4 1 0 1 0 0 ReadOnly ∷ unbegun 6 1 (Again 3 0 1) ∷
            tried 6 2 1 0 0 0 (NoSpace 0) ∷ tried 7 1 1 0 0 0 (NoSpace 0) ∷ [];
        reads = item 1 6 (Some (62 ∷ [])) ∷ [];
        locks = [];
        writes = [];
        snaps = (0 ∷ 0 ∷ 0 ∷ 0 ∷ []) ∷ (0 ∷ 0 ∷ 0 ∷ 0 ∷ []) ∷ (0 ∷ 0 ∷ 1 ∷ 0 ∷ []) ∷ (0 ∷ 0 ∷ 1 ∷ 0 ∷ []) ∷ [];
      } ∷
      record {
        events = tried 2 1 0 2 0 0 (Declined 3) ∷ tried 5 1 0 1 0 0 ReadOnly ∷ unbegun 8 1 (Again 3 0 1) ∷
            tried 8 2 1 1 0 0 ReadOnly ∷ [];
        reads = item 0 2 None ∷ item 1 4 None ∷ item 0 3 (Some (37 ∷ 4 ∷ [])) ∷ item 1 5 (Some (5 ∷ [])) ∷ [];
        locks = [];
        writes = [];
        snaps = (0 ∷ 0 ∷ 0 ∷ 0 ∷ []) ∷ (0 ∷ 0 ∷ 0 ∷ 0 ∷ []) ∷ (0 ∷ 0 ∷ 1 ∷ 0 ∷ []) ∷ [];
      } ∷
      record {
        events = tried 3 1 0 1 2 1 (Commit 1) ∷ [];
        reads = item 0 3 (Some (37 ∷ 4 ∷ [])) ∷ [];
        locks = lock 0 4 0 0 ∷ lock 0 3 0 0 ∷ [];
        writes = item 0 4 None ∷ [];
        snaps = (0 ∷ 0 ∷ 0 ∷ 0 ∷ []) ∷ [];
      } ∷
      record {
        events = [];
        reads = [];
        locks = [];
        writes = [];
        snaps = [];
      } ∷
      [];
  audit = row 0 0 (Some (0 ∷ 18446744073709551614 ∷ [])) false ∷ row 0 1 (Some (61 ∷ 7 ∷ [])) false ∷
      row 0 2 (Some (0 ∷ 97 ∷ [])) false ∷ row 0 3 (Some (37 ∷ 4 ∷ [])) false ∷ row 0 5 (Some (3 ∷ 8 ∷ [])) false ∷
      row 1 1 (Some (8 ∷ [])) false ∷ row 1 2 (Some (53 ∷ [])) false ∷ row 1 3 (Some (9 ∷ [])) false ∷
      row 1 5 (Some (5 ∷ [])) false ∷ row 1 6 (Some (62 ∷ [])) false ∷ [];
}
unfolding of_random_19 stint_workers picked after_workers until_ended settle copies load_from
random_19 = refl

unfoldable of_random_20 : Scenario
of_random_20 = record {
  shape = shape Narrow 2 (table 8 2 3 ∷ []) 1 1 0;
  rows = loaded 0 2 (11 ∷ 45 ∷ 18446744073709551613 ∷ 12 ∷ 6 ∷ 70 ∷ 7 ∷ 0 ∷ []) ∷ [];
  policy = record { tries = 16; tidy = true };
  txns = txn 1 (Get 0 0 ∷ Add 0 2 4 false 1 ∷ []) ∷ txn 1 (Get 0 0 ∷ Get 0 2 ∷ Need 0 2 6 0 ∷ Get 0 0 ∷ []) ∷
      txn 1 (Get 0 2 ∷ []) ∷ txn 2 (Add 0 0 8 true 1 ∷ []) ∷
      txn 1 (Get 0 2 ∷ Put 0 2 (10 ∷ 12 ∷ 9 ∷ 0 ∷ 9 ∷ 18446744073709551613 ∷ 16 ∷ 10 ∷ []) ∷ Get 0 0 ∷ Get 0 2 ∷ []) ∷
      txn 1 (Get 0 2 ∷ []) ∷ txn 1 (Get 0 2 ∷ Get 0 0 ∷ []) ∷
      txn 1 (Get 0 0 ∷ Guard 0 0 ∷ Put 0 0 (12 ∷ 18446744073709551615 ∷ 51 ∷ 55 ∷ 75 ∷ 50 ∷ 4 ∷ 28 ∷ []) ∷ Guard 0 0 ∷
      []) ∷ txn 1 (Get 0 0 ∷ []) ∷ txn 1 (Del 0 2 ∷ Get 0 2 ∷ Get 0 2 ∷ []) ∷
      txn 1 (Add 0 0 8 true 1 ∷ Add 0 2 8 true 0 ∷ Guard 0 0 ∷ Add 0 2 5 true 1 ∷ []) ∷
      txn 2 (Guard 0 0 ∷ Del 0 0 ∷ Get 0 2 ∷ Del 0 0 ∷ []) ∷ txn 1 (Get 0 0 ∷ Add 0 0 1 true 2 ∷ []) ∷
      txn 1 (Put 0 0 (4 ∷ 5 ∷ 13 ∷ 92 ∷ 11 ∷ 9 ∷ 69 ∷ 9 ∷ []) ∷ Add 0 2 3 false 1 ∷ Guard 0 0 ∷ []) ∷ [];
  schedule = Stints (stint 1 33 ∷ stint 2 128 ∷ stint 1 15 ∷ stint 2 35 ∷ stint 2 51 ∷ stint 2 13 ∷ stint 2 40 ∷
      stint 1 4 ∷ stint 1 197 ∷ stint 1 19 ∷ []);
}

random_20 : shown of_random_20 (fuse 249 ∷ up ∷ []) ≡ record {
  logs =
      record {
        events = tried 1 1 0 2 1 1 (Commit 1) ∷ tried 2 1 3 4 0 0 ReadOnly ∷ tried 3 1 3 1 0 0 ReadOnly ∷
            tried 5 1 3 3 1 1 (Commit 2) ∷ tried 6 1 4 1 0 0 ReadOnly ∷ tried 7 1 4 2 0 0 ReadOnly ∷
            tried 8 1 4 3 1 1 (Commit 3) ∷ move 0 0 0 0 0 move_cut ∷ [];
        reads = item 0 0 None ∷ item 0 2 (Some (11 ∷ 45 ∷ 18446744073709551613 ∷ 12 ∷ 6 ∷ 70 ∷ 7 ∷ 0 ∷ [])) ∷
            item 0 0 None ∷ item 0 2 (Some (11 ∷ 45 ∷ 18446744073709551613 ∷ 11 ∷ 6 ∷ 70 ∷ 7 ∷ 0 ∷ [])) ∷
            item 0 2 (Some (11 ∷ 45 ∷ 18446744073709551613 ∷ 11 ∷ 6 ∷ 70 ∷ 7 ∷ 0 ∷ [])) ∷ item 0 0 None ∷
            item 0 2 (Some (11 ∷ 45 ∷ 18446744073709551613 ∷ 11 ∷ 6 ∷ 70 ∷ 7 ∷ 0 ∷ [])) ∷
            item 0 2 (Some (11 ∷ 45 ∷ 18446744073709551613 ∷ 11 ∷ 6 ∷ 70 ∷ 7 ∷ 0 ∷ [])) ∷ item 0 0 None ∷
            item 0 2 (Some (10 ∷ 12 ∷ 9 ∷ 0 ∷ 9 ∷ 18446744073709551613 ∷ 16 ∷ 10 ∷ [])) ∷
            item 0 2 (Some (10 ∷ 12 ∷ 9 ∷ 0 ∷ 9 ∷ 18446744073709551613 ∷ 16 ∷ 10 ∷ [])) ∷
            item 0 2 (Some (10 ∷ 12 ∷ 9 ∷ 0 ∷ 9 ∷ 18446744073709551613 ∷ 16 ∷ 10 ∷ [])) ∷ item 0 0 None ∷
            item 0 0 None ∷ item 0 0 None ∷
            item 0 0 (Some (12 ∷ 18446744073709551615 ∷ 51 ∷ 55 ∷ 75 ∷ 50 ∷ 4 ∷ 28 ∷ [])) ∷ [];
        locks = lock 0 2 0 0 ∷ lock 0 2 1 1 ∷ lock 0 0 2 2 ∷ [];
        writes = item 0 2 (Some (11 ∷ 45 ∷ 18446744073709551613 ∷ 11 ∷ 6 ∷ 70 ∷ 7 ∷ 0 ∷ [])) ∷
            item 0 2 (Some (10 ∷ 12 ∷ 9 ∷ 0 ∷ 9 ∷ 18446744073709551613 ∷ 16 ∷ 10 ∷ [])) ∷
            item 0 0 (Some (12 ∷ 18446744073709551615 ∷ 51 ∷ 55 ∷ 75 ∷ 50 ∷ 4 ∷ 28 ∷ [])) ∷ [];
        snaps = (0 ∷ 0 ∷ []) ∷ (1 ∷ 2 ∷ []) ∷ (1 ∷ 2 ∷ []) ∷ (1 ∷ 2 ∷ []) ∷ (2 ∷ 2 ∷ []) ∷ (2 ∷ 2 ∷ []) ∷
            (2 ∷ 2 ∷ []) ∷ [];
      } ∷
      record {
        events = tried 4 1 0 1 1 1 (Commit 1) ∷ tried 12 1 1 2 1 1 (Commit 2) ∷ [];
        reads = item 0 0 None ∷ item 0 0 (Some (0 ∷ 0 ∷ 0 ∷ 0 ∷ 0 ∷ 0 ∷ 0 ∷ 1 ∷ [])) ∷
            item 0 2 (Some (11 ∷ 45 ∷ 18446744073709551613 ∷ 12 ∷ 6 ∷ 70 ∷ 7 ∷ 0 ∷ [])) ∷ [];
        locks = lock 0 0 0 0 ∷ lock 0 0 2 1 ∷ [];
        writes = item 0 0 (Some (0 ∷ 0 ∷ 0 ∷ 0 ∷ 0 ∷ 0 ∷ 0 ∷ 1 ∷ [])) ∷ item 0 0 None ∷ [];
        snaps = (0 ∷ 0 ∷ []) ∷ (0 ∷ 1 ∷ []) ∷ [];
      } ∷
      [];
  audit = row 0 0 (Some (12 ∷ 18446744073709551615 ∷ 51 ∷ 55 ∷ 75 ∷ 50 ∷ 4 ∷ 28 ∷ [])) false ∷
      row 0 2 (Some (10 ∷ 12 ∷ 9 ∷ 0 ∷ 9 ∷ 18446744073709551613 ∷ 16 ∷ 10 ∷ [])) false ∷ [];
}
unfolding of_random_20 stint_workers picked after_workers until_ended settle copies load_from
random_20 = refl

unfoldable of_random_21 : Scenario
of_random_21 = record {
  shape = shape Narrow 2 (table 8 1 4 ∷ table 3 6 2 ∷ []) 2 3 0;
  rows = loaded 1 6 (10 ∷ 38 ∷ 63 ∷ []) ∷ loaded 1 2 (38 ∷ 8 ∷ 7 ∷ []) ∷ loaded 1 5 (0 ∷ 3 ∷ 9 ∷ []) ∷
      loaded 1 3 (9 ∷ 0 ∷ 82 ∷ []) ∷ loaded 1 4 (18446744073709551615 ∷ 4 ∷ 5 ∷ []) ∷ [];
  policy = record { tries = 16; tidy = false };
  txns = txn 2 (Add 0 18446744073709551614 5 false 1 ∷ Add 1 5 1 true 1 ∷ []) ∷
      txn 2 (Guard 0 18446744073709551614 ∷ []) ∷ txn 1 (Need 1 1 3 3 ∷ Get 0 18446744073709551614 ∷ []) ∷ [];
  schedule = Stints (stint 2 24 ∷ stint 1 43 ∷ stint 1 13 ∷ stint 2 167 ∷ stint 2 5 ∷ stint 2 2 ∷ stint 1 60 ∷
      stint 1 46 ∷ stint 2 5 ∷ stint 1 103 ∷ stint 2 9 ∷ stint 2 1 ∷ stint 1 12 ∷ stint 1 15 ∷ stint 2 10 ∷ stint 1 20 ∷
      stint 2 2 ∷ stint 1 38 ∷ stint 2 20 ∷ stint 2 6 ∷ stint 2 1 ∷ stint 1 16 ∷ stint 2 15 ∷ stint 1 18 ∷ stint 1 5 ∷
      stint 2 43 ∷ stint 2 44 ∷ []);
}

random_21 : shown of_random_21 (fuse 227 ∷ fuse 200 ∷ []) ≡ record {
  logs =
      record {
        events = tried 3 1 0 1 0 0 (Declined 1) ∷ [];
        reads = item 1 1 None ∷ [];
        locks = [];
        writes = [];
        snaps = (0 ∷ 0 ∷ []) ∷ [];
      } ∷
      record {
        events = tried 1 1 0 1 0 0 (Declined 1) ∷ tried 2 1 0 1 0 0 ReadOnly ∷ [];
        reads = item 0 18446744073709551614 None ∷ item 0 18446744073709551614 None ∷ [];
        locks = [];
        writes = [];
        snaps = (0 ∷ 0 ∷ []) ∷ (0 ∷ 0 ∷ []) ∷ [];
      } ∷
      [];
  audit = row 1 2 (Some (38 ∷ 8 ∷ 7 ∷ [])) false ∷ row 1 3 (Some (9 ∷ 0 ∷ 82 ∷ [])) false ∷
      row 1 4 (Some (18446744073709551615 ∷ 4 ∷ 5 ∷ [])) false ∷ row 1 5 (Some (0 ∷ 3 ∷ 9 ∷ [])) false ∷
      row 1 6 (Some (10 ∷ 38 ∷ 63 ∷ [])) false ∷ [];
}
unfolding of_random_21 stint_workers picked after_workers until_ended settle copies load_from
random_21 = refl

unfoldable of_random_22 : Scenario
of_random_22 = record {
  shape = shape Narrow 3 (table 1 1 2 ∷ []) 3 3 0;
  rows = loaded 0 1 (32 ∷ []) ∷ [];
  policy = record { tries = 3; tidy = true };
  txns = txn 2 (Del 0 3 ∷ Need 0 4 1 0 ∷ Del 0 0 ∷ Del 0 1 ∷ []) ∷ txn 1 (Put 0 3 (4 ∷ []) ∷ []) ∷
      txn 2 (Add 0 2 1 true 1 ∷ []) ∷ [];
  schedule = Stints (stint 2 2 ∷ stint 2 39 ∷ stint 1 4 ∷ stint 1 2 ∷ stint 3 2 ∷ stint 2 3 ∷ stint 3 1 ∷ stint 3 1 ∷
      stint 2 5 ∷ stint 1 2 ∷ stint 2 5 ∷ stint 1 5 ∷ stint 1 3 ∷ stint 2 5 ∷ []);
}

random_22 : shown of_random_22 (fuse 29 ∷ up ∷ up ∷ []) ≡ record {
  logs =
      record {
        events = tried 2 1 0 0 0 0 (NoSpace 0) ∷ [];
        reads = [];
        locks = [];
        writes = [];
        snaps = (0 ∷ 0 ∷ 0 ∷ []) ∷ [];
      } ∷
      record {
        events = tried 1 1 0 0 0 0 (NoSpace 0) ∷ tried 3 1 0 1 0 0 (NoSpace 0) ∷ [];
        reads = item 0 2 None ∷ [];
        locks = [];
        writes = [];
        snaps = (0 ∷ 0 ∷ 0 ∷ []) ∷ (0 ∷ 0 ∷ 0 ∷ []) ∷ [];
      } ∷
      record {
        events = [];
        reads = [];
        locks = [];
        writes = [];
        snaps = [];
      } ∷
      [];
  audit = row 0 1 (Some (32 ∷ [])) false ∷ [];
}
unfolding of_random_22 stint_workers picked after_workers until_ended settle copies load_from
random_22 = refl

unfoldable of_random_23 : Scenario
of_random_23 = record {
  shape = shape Narrow 5 (table 1 2 1 ∷ []) 1 3 0;
  rows = loaded 0 0 (64 ∷ []) ∷ [];
  policy = record { tries = 2; tidy = true };
  txns = txn 4 (Add 0 0 1 false 1 ∷ Get 0 0 ∷ Add 0 0 1 true 4 ∷ Get 0 0 ∷ Get 0 0 ∷ Put 0 0 (8 ∷ []) ∷ []) ∷
      txn 1 (Get 0 0 ∷ Guard 0 0 ∷ []) ∷ txn 3 (Guard 0 0 ∷ Add 0 0 1 false 1 ∷ Guard 0 0 ∷ []) ∷
      txn 2 (Add 0 0 1 true 2 ∷ Add 0 0 1 true 4 ∷ []) ∷ txn 5 (Guard 0 0 ∷ Del 0 0 ∷ Get 0 0 ∷ Add 0 0 1 true 1 ∷ []) ∷
      txn 3 (Add 0 0 1 true 1 ∷ Del 0 0 ∷ Need 0 0 1 0 ∷ Get 0 0 ∷ Add 0 0 1 false 4 ∷ Add 0 0 1 true 3 ∷ []) ∷
      txn 3 (Guard 0 0 ∷ Del 0 0 ∷ []) ∷ txn 4 (Get 0 0 ∷ []) ∷
      txn 2 (Add 0 0 1 true 1 ∷ Guard 0 0 ∷ Guard 0 0 ∷ Need 0 0 1 3 ∷ []) ∷ txn 4 (Guard 0 0 ∷ []) ∷
      txn 2 (Get 0 0 ∷ []) ∷ txn 2 (Add 0 0 1 true 1 ∷ Get 0 0 ∷ Get 0 0 ∷ Need 0 0 1 0 ∷ []) ∷ [];
  schedule = Stints ([]);
}

random_23 : shown of_random_23 (fuse 30 ∷ fuse 16 ∷ fuse 41 ∷ fuse 212 ∷ up ∷ []) ≡ record {
  logs =
      record {
        events = tried 2 1 0 2 0 0 ReadOnly ∷ [];
        reads = item 0 0 (Some (64 ∷ [])) ∷ item 0 0 (Some (64 ∷ [])) ∷ [];
        locks = [];
        writes = [];
        snaps = (0 ∷ 0 ∷ 0 ∷ 0 ∷ 0 ∷ []) ∷ [];
      } ∷
      record {
        events = tried 4 1 0 2 0 0 Cut ∷ [];
        reads = item 0 0 (Some (64 ∷ [])) ∷ item 0 0 (Some (66 ∷ [])) ∷ [];
        locks = [];
        writes = [];
        snaps = (0 ∷ 0 ∷ 0 ∷ 0 ∷ 0 ∷ []) ∷ [];
      } ∷
      record {
        events = tried 3 1 0 3 0 0 (Locked (lock 0 0 0 0)) ∷ unbegun 3 2 (Again 4 0 1) ∷ unbegun 6 1 Cut ∷ [];
        reads = item 0 0 (Some (64 ∷ [])) ∷ item 0 0 (Some (64 ∷ [])) ∷ item 0 0 (Some (63 ∷ [])) ∷ [];
        locks = [];
        writes = [];
        snaps = (0 ∷ 0 ∷ 0 ∷ 0 ∷ 0 ∷ []) ∷ [];
      } ∷
      record {
        events = tried 1 1 0 5 1 1 (Commit 1) ∷ move 0 0 0 0 0 move_done ∷ tried 8 1 1 1 0 0 ReadOnly ∷
            tried 10 1 1 1 0 0 ReadOnly ∷ [];
        reads = item 0 0 (Some (64 ∷ [])) ∷ item 0 0 (Some (63 ∷ [])) ∷ item 0 0 (Some (63 ∷ [])) ∷
            item 0 0 (Some (67 ∷ [])) ∷ item 0 0 (Some (67 ∷ [])) ∷ item 0 0 (Some (8 ∷ [])) ∷
            item 0 0 (Some (8 ∷ [])) ∷ [];
        locks = lock 0 0 0 0 ∷ [];
        writes = item 0 0 (Some (8 ∷ [])) ∷ [];
        snaps = (0 ∷ 0 ∷ 0 ∷ 0 ∷ 0 ∷ []) ∷ (0 ∷ 0 ∷ 0 ∷ 1 ∷ 0 ∷ []) ∷ (0 ∷ 0 ∷ 0 ∷ 1 ∷ 0 ∷ []) ∷ [];
      } ∷
      record {
        events = tried 5 1 0 3 0 0 (Locked (lock 0 0 0 0)) ∷ tried 5 2 0 3 0 0 (Newer (lock 0 0 4 1)) ∷ [];
        reads = item 0 0 (Some (64 ∷ [])) ∷ item 0 0 None ∷ item 0 0 None ∷ item 0 0 (Some (64 ∷ [])) ∷ item 0 0 None ∷
            item 0 0 None ∷ [];
        locks = [];
        writes = [];
        snaps = (0 ∷ 0 ∷ 0 ∷ 0 ∷ 0 ∷ []) ∷ (0 ∷ 0 ∷ 0 ∷ 0 ∷ 0 ∷ []) ∷ [];
      } ∷
      [];
  audit = row 0 0 (Some (8 ∷ [])) false ∷ [];
}
unfolding of_random_23 stint_workers picked after_workers until_ended settle copies load_from
random_23 = refl

unfoldable of_random_24 : Scenario
of_random_24 = record {
  shape = shape Narrow 2 (table 3 2 1 ∷ []) 1 2 0;
  rows = loaded 0 0 (0 ∷ 18446744073709551615 ∷ 84 ∷ []) ∷ [];
  policy = record { tries = 16; tidy = true };
  txns = txn 1 (Del 0 0 ∷ Get 0 0 ∷ Del 0 0 ∷ []) ∷
      txn 1 (Add 0 0 2 true 3 ∷ Put 0 0 (5 ∷ 74 ∷ 13 ∷ []) ∷ Need 0 0 2 0 ∷ Get 0 0 ∷ []) ∷
      txn 1 (Put 0 0 (7 ∷ 0 ∷ 9 ∷ []) ∷ Add 0 0 3 false 1 ∷ []) ∷
      txn 1 (Add 0 0 1 false 1 ∷ Put 0 0 (7 ∷ 0 ∷ 6 ∷ []) ∷ []) ∷
      txn 1 (Put 0 0 (18446744073709551614 ∷ 11 ∷ 4 ∷ []) ∷ Get 0 0 ∷ Add 0 0 1 true 68 ∷ []) ∷
      txn 1 (Add 0 0 1 true 2 ∷ Add 0 0 3 true 4 ∷ Need 0 0 3 0 ∷ Add 0 0 3 true 1 ∷ []) ∷ [];
  schedule = Stints (stint 2 23 ∷ stint 2 1 ∷ stint 2 5 ∷ stint 1 5 ∷ stint 1 3 ∷ []);
}

random_24 : shown of_random_24 (fuse 8 ∷ up ∷ []) ≡ record {
  logs =
      record {
        events = tried 1 1 0 1 1 0 Cut ∷ [];
        reads = item 0 0 None ∷ [];
        locks = lock 0 0 0 0 ∷ [];
        writes = [];
        snaps = (0 ∷ 0 ∷ []) ∷ [];
      } ∷
      record {
        events = [];
        reads = [];
        locks = [];
        writes = [];
        snaps = [];
      } ∷
      [];
  audit = row 0 0 (Some (0 ∷ 18446744073709551615 ∷ 84 ∷ [])) true ∷ [];
}
unfolding of_random_24 stint_workers picked after_workers until_ended settle copies load_from
random_24 = refl

unfoldable of_random_25 : Scenario
of_random_25 = record {
  shape = shape Narrow 1 (table 2 1 1 ∷ []) 1 1 0;
  rows = [];
  policy = record { tries = 3; tidy = true };
  txns = txn 1 (Get 0 0 ∷ Add 0 0 1 true 1 ∷ []) ∷
      txn 1 (Put 0 0 (8 ∷ 0 ∷ []) ∷ Put 0 0 (54 ∷ 11 ∷ []) ∷ Add 0 0 2 true 1 ∷ Put 0 0 (8 ∷ 9 ∷ []) ∷
      Add 0 0 2 true 1 ∷ Get 0 0 ∷ Guard 0 0 ∷ Add 0 0 2 true 0 ∷ []) ∷
      txn 1 (Add 0 0 1 true 1 ∷ Put 0 0 (10 ∷ 8 ∷ []) ∷ []) ∷
      txn 1 (Add 0 0 1 true 9 ∷ Get 0 0 ∷ Add 0 0 1 true 1 ∷ []) ∷ txn 1 (Add 0 0 2 true 4 ∷ []) ∷
      txn 1 (Put 0 0 (64 ∷ 10 ∷ []) ∷ Add 0 0 1 false 1 ∷ Guard 0 0 ∷ []) ∷ txn 1 (Add 0 0 1 false 44 ∷ []) ∷
      txn 1 (Put 0 0 (0 ∷ 12 ∷ []) ∷ []) ∷ txn 1 (Del 0 0 ∷ Get 0 0 ∷ []) ∷
      txn 1 (Add 0 0 1 true 8 ∷ Add 0 0 2 false 1 ∷ []) ∷ txn 1 (Need 0 0 1 0 ∷ Put 0 0 (8 ∷ 0 ∷ []) ∷ []) ∷
      txn 1 (Add 0 0 2 true 1 ∷ []) ∷ txn 1 (Add 0 0 2 true 2 ∷ []) ∷
      txn 1 (Get 0 0 ∷ Put 0 0 (7 ∷ 4 ∷ []) ∷ Get 0 0 ∷ []) ∷ [];
  schedule = Stints (stint 1 61 ∷ stint 1 33 ∷ stint 1 26 ∷ stint 1 72 ∷ stint 1 8 ∷ stint 1 24 ∷ stint 1 27 ∷
      stint 1 62 ∷ stint 1 71 ∷ stint 1 26 ∷ stint 1 68 ∷ stint 1 50 ∷ stint 1 47 ∷ stint 1 42 ∷ stint 1 40 ∷
      stint 1 75 ∷ stint 1 28 ∷ stint 1 36 ∷ stint 1 111 ∷ stint 1 80 ∷ stint 1 58 ∷ stint 1 22 ∷ stint 1 66 ∷
      stint 1 63 ∷ stint 1 36 ∷ stint 1 66 ∷ stint 1 37 ∷ stint 1 40 ∷ stint 1 55 ∷ stint 1 9 ∷ stint 1 7 ∷ stint 1 97 ∷
      stint 1 43 ∷ stint 1 29 ∷ stint 1 78 ∷ stint 1 5 ∷ stint 1 64 ∷ stint 1 120 ∷ stint 1 57 ∷ stint 1 29 ∷
      stint 1 20 ∷ stint 1 17 ∷ stint 1 77 ∷ stint 1 69 ∷ stint 1 58 ∷ stint 1 40 ∷ stint 1 27 ∷ stint 1 2 ∷
      stint 1 44 ∷ stint 1 58 ∷ stint 1 31 ∷ stint 1 41 ∷ stint 1 28 ∷ stint 1 17 ∷ stint 1 61 ∷ stint 1 67 ∷
      stint 1 40 ∷ stint 1 60 ∷ stint 1 5 ∷ stint 1 28 ∷ stint 1 48 ∷ stint 1 34 ∷ stint 1 27 ∷ []);
}

random_25 : shown of_random_25 (fuse 28 ∷ []) ≡ record {
  logs =
      record {
        events = tried 1 1 0 2 1 1 (Commit 1) ∷ TidyCut 0 0 ∷ [];
        reads = item 0 0 None ∷ item 0 0 None ∷ [];
        locks = lock 0 0 0 0 ∷ [];
        writes = item 0 0 (Some (1 ∷ 0 ∷ [])) ∷ [];
        snaps = (0 ∷ []) ∷ [];
      } ∷
      [];
  audit = row 0 0 (Some (1 ∷ 0 ∷ [])) false ∷ [];
}
unfolding of_random_25 stint_workers picked after_workers until_ended settle copies load_from
random_25 = refl

unfoldable of_random_26 : Scenario
of_random_26 = record {
  shape = shape Wide 2 (table 8 7 4 ∷ []) 1 1 13154278942517;
  rows = loaded 0 1 (18446744073709551614 ∷ 0 ∷ 76 ∷ 0 ∷ 74 ∷ 10 ∷ 10 ∷ 9 ∷ []) ∷
      loaded 0 3 (18446744073709551615 ∷ 41 ∷ 18446744073709551613 ∷ 91 ∷ 99 ∷ 12 ∷ 4 ∷ 3 ∷ []) ∷
      loaded 0 2 (0 ∷ 6 ∷ 10 ∷ 5 ∷ 8 ∷ 6 ∷ 4 ∷ 0 ∷ []) ∷
      loaded 0 6 (14 ∷ 10 ∷ 18446744073709551613 ∷ 5 ∷ 28 ∷ 0 ∷ 6 ∷ 7 ∷ []) ∷ [];
  policy = record { tries = 3; tidy = true };
  txns = txn 1 (Guard 0 4 ∷ Get 0 1 ∷ Put 0 5 (7 ∷ 32 ∷ 44 ∷ 43 ∷ 18446744073709551615 ∷ 4 ∷ 10 ∷ 10 ∷ []) ∷ Guard 0 2 ∷
      []) ∷ txn 1 (Put 0 6 (99 ∷ 9 ∷ 4 ∷ 62 ∷ 80 ∷ 3 ∷ 9 ∷ 24 ∷ []) ∷ Need 0 5 8 0 ∷ Guard 0 5 ∷ []) ∷
      txn 2 (Guard 0 0 ∷ []) ∷ txn 1 (Guard 0 3 ∷ Add 0 3 6 true 0 ∷ []) ∷
      txn 1 (Guard 0 2 ∷ Need 0 1 3 0 ∷ Guard 0 1 ∷ Need 0 0 2 0 ∷ []) ∷ txn 1 (Add 0 3 7 true 0 ∷ Need 0 5 8 0 ∷ []) ∷
      txn 2 (Guard 0 6 ∷ Need 0 6 6 0 ∷ Put 0 3 (11 ∷ 10 ∷ 8 ∷ 0 ∷ 7 ∷ 5 ∷ 67 ∷ 5 ∷ []) ∷ Guard 0 3 ∷ []) ∷ [];
  schedule = Stints (stint 1 35 ∷ stint 1 10 ∷ stint 1 104 ∷ stint 2 10 ∷ stint 1 9 ∷ stint 2 11 ∷ stint 1 12 ∷
      stint 2 5 ∷ stint 1 9 ∷ stint 1 10 ∷ stint 2 1 ∷ stint 1 120 ∷ []);
}

random_26 : shown of_random_26 (fuse 5 ∷ fuse 86 ∷ []) ≡ record {
  logs =
      record {
        events = tried 1 1 0 0 0 0 Cut ∷ [];
        reads = [];
        locks = [];
        writes = [];
        snaps = (13154278942517 ∷ 13154278942517 ∷ []) ∷ [];
      } ∷
      record {
        events = tried 3 1 0 1 0 0 ReadOnly ∷ tried 7 1 0 3 2 1 (Commit 13154278942518) ∷ [];
        reads = item 0 0 None ∷ item 0 6 (Some (14 ∷ 10 ∷ 18446744073709551613 ∷ 5 ∷ 28 ∷ 0 ∷ 6 ∷ 7 ∷ [])) ∷
            item 0 6 (Some (14 ∷ 10 ∷ 18446744073709551613 ∷ 5 ∷ 28 ∷ 0 ∷ 6 ∷ 7 ∷ [])) ∷
            item 0 3 (Some (11 ∷ 10 ∷ 8 ∷ 0 ∷ 7 ∷ 5 ∷ 67 ∷ 5 ∷ [])) ∷ [];
        locks = lock 0 3 0 0 ∷ lock 0 6 0 0 ∷ [];
        writes = item 0 3 (Some (11 ∷ 10 ∷ 8 ∷ 0 ∷ 7 ∷ 5 ∷ 67 ∷ 5 ∷ [])) ∷ [];
        snaps = (13154278942517 ∷ 13154278942517 ∷ []) ∷ (13154278942517 ∷ 13154278942517 ∷ []) ∷ [];
      } ∷
      [];
  audit = row 0 1 (Some (18446744073709551614 ∷ 0 ∷ 76 ∷ 0 ∷ 74 ∷ 10 ∷ 10 ∷ 9 ∷ [])) false ∷
      row 0 2 (Some (0 ∷ 6 ∷ 10 ∷ 5 ∷ 8 ∷ 6 ∷ 4 ∷ 0 ∷ [])) false ∷
      row 0 3 (Some (11 ∷ 10 ∷ 8 ∷ 0 ∷ 7 ∷ 5 ∷ 67 ∷ 5 ∷ [])) false ∷
      row 0 6 (Some (14 ∷ 10 ∷ 18446744073709551613 ∷ 5 ∷ 28 ∷ 0 ∷ 6 ∷ 7 ∷ [])) false ∷ [];
}
unfolding of_random_26 stint_workers picked after_workers until_ended settle copies load_from
random_26 = refl
