-- A third part of random scripts of an independent simulator.
use Rattle.std.proofs.Common.{◌≡◌, true, false, [], ◌∷◌, Some, None, refl}
use Rattle.nam_catalog.specs.declared.form.Form.TheVariants.{Narrow, Wide}
use Rattle.si_model.specs.declared.op.Op.TheVariants.{Get, Put, Add, Del, Need, Guard}
use Rattle.si_model.specs.declared.log.Outcome.TheVariants.{Commit, ReadOnly, Declined, NoSpace, Spent, Again, Locked}
use Rattle.si_model.specs.declared.log.Outcome.TheVariants.{Full, Cut}
use Rattle.si_model.specs.declared.log.Event.TheVariants.{NoRoom, Collected}
use Rattle.nam_protocol.specs.Schedule.{Scenario, Stints, stint_workers, picked, after_workers, until_ended}
use Rattle.nam_protocol.specs.Session.{settle}
use Rattle.nam_protocol.specs.Opening.{copies, load_from}
use Rattle.nam_protocol.proofs.Shown.{shape, table, loaded, txn, stint, up, fuse, item, row, lock, tried, unbegun, move}
use Rattle.nam_protocol.proofs.Shown.{move_done, shown}

unfoldable of_random_27 : Scenario
of_random_27 = record {
  shape = shape Narrow 3 (table 1 5 2 ∷ []) 2 4 0;
  rows = loaded 0 5 (11 ∷ []) ∷ [];
  policy = record { tries = 2; tidy = false };
  txns = txn 2 (Add 0 3 1 true 1 ∷ []) ∷ txn 3 (Add 0 4 1 true 1 ∷ Get 0 5 ∷ []) ∷
      txn 2 (Del 0 5 ∷ Need 0 4 1 0 ∷ Add 0 1 1 false 12 ∷ []) ∷
      txn 2 (Put 0 3 (3 ∷ []) ∷ Need 0 5 1 0 ∷ Add 0 0 1 true 4 ∷ Get 0 0 ∷ Del 0 4 ∷ Del 0 5 ∷ Get 0 1 ∷
      Add 0 4 1 true 4 ∷ Add 0 0 1 true 1 ∷ Guard 0 3 ∷ []) ∷ txn 2 (Get 0 5 ∷ Guard 0 3 ∷ []) ∷
      txn 3 (Put 0 0 (52 ∷ []) ∷ Add 0 3 1 false 3 ∷ []) ∷ txn 2 (Get 0 0 ∷ Guard 0 5 ∷ Get 0 4 ∷ Get 0 1 ∷ []) ∷
      txn 3 (Guard 0 1 ∷ Add 0 5 1 true 2 ∷ []) ∷ [];
  schedule = Stints (stint 3 48 ∷ stint 3 54 ∷ stint 3 7 ∷ stint 2 93 ∷ stint 3 26 ∷ stint 3 50 ∷ stint 3 59 ∷
      stint 1 55 ∷ stint 1 34 ∷ stint 3 20 ∷ stint 2 64 ∷ stint 2 68 ∷ stint 2 26 ∷ stint 1 69 ∷ stint 3 79 ∷
      stint 2 12 ∷ stint 2 51 ∷ stint 1 59 ∷ stint 2 22 ∷ stint 1 87 ∷ stint 2 18 ∷ stint 3 29 ∷ stint 2 109 ∷
      stint 2 55 ∷ stint 2 37 ∷ stint 3 25 ∷ stint 2 63 ∷ stint 1 70 ∷ stint 3 43 ∷ stint 2 24 ∷ stint 3 56 ∷
      stint 3 10 ∷ stint 2 15 ∷ stint 1 13 ∷ stint 2 53 ∷ stint 3 43 ∷ stint 2 38 ∷ stint 3 56 ∷ stint 3 51 ∷
      stint 3 47 ∷ stint 1 42 ∷ stint 2 46 ∷ stint 3 25 ∷ stint 1 76 ∷ stint 1 21 ∷ stint 3 37 ∷ stint 3 33 ∷
      stint 1 63 ∷ stint 2 75 ∷ stint 2 119 ∷ stint 3 33 ∷ stint 1 57 ∷ stint 2 34 ∷ stint 3 40 ∷ stint 1 14 ∷
      stint 1 30 ∷ stint 3 74 ∷ stint 1 41 ∷ stint 3 57 ∷ stint 3 84 ∷ stint 3 51 ∷ stint 1 10 ∷ stint 2 75 ∷
      stint 3 25 ∷ stint 2 18 ∷ stint 3 70 ∷ stint 3 29 ∷ stint 3 5 ∷ stint 3 44 ∷ stint 2 73 ∷ stint 2 41 ∷
      stint 2 44 ∷ stint 2 8 ∷ stint 3 79 ∷ stint 3 47 ∷ stint 2 43 ∷ stint 3 43 ∷ stint 3 8 ∷ stint 2 77 ∷ stint 3 47 ∷
      stint 1 14 ∷ stint 3 116 ∷ stint 1 101 ∷ stint 2 106 ∷ stint 2 18 ∷ stint 1 24 ∷ stint 1 4 ∷ []);
}

random_27 : shown of_random_27 (up ∷ fuse 107 ∷ fuse 87 ∷ []) ≡ record {
  logs =
      record {
        events = [];
        reads = [];
        locks = [];
        writes = [];
        snaps = [];
      } ∷
      record {
        events = tried 1 1 2 1 1 1 (Commit 1) ∷ tried 3 1 3 2 0 0 (Declined 3) ∷ tried 4 1 3 7 4 4 (Commit 2) ∷
            unbegun 5 1 Cut ∷ [];
        reads = item 0 3 None ∷ item 0 4 (Some (1 ∷ [])) ∷ item 0 1 None ∷ item 0 5 (Some (13 ∷ [])) ∷ item 0 0 None ∷
            item 0 0 (Some (4 ∷ [])) ∷ item 0 1 None ∷ item 0 4 None ∷ item 0 0 (Some (4 ∷ [])) ∷
            item 0 3 (Some (3 ∷ [])) ∷ [];
        locks = lock 0 3 0 0 ∷ lock 0 3 2 1 ∷ lock 0 0 0 0 ∷ lock 0 4 3 1 ∷ lock 0 5 3 2 ∷ [];
        writes = item 0 3 (Some (1 ∷ [])) ∷ item 0 3 (Some (3 ∷ [])) ∷ item 0 0 (Some (5 ∷ [])) ∷
            item 0 4 (Some (4 ∷ [])) ∷ item 0 5 None ∷ [];
        snaps = (0 ∷ 0 ∷ 2 ∷ []) ∷ (0 ∷ 1 ∷ 2 ∷ []) ∷ (0 ∷ 1 ∷ 2 ∷ []) ∷ [];
      } ∷
      record {
        events = tried 2 1 0 2 1 1 (Commit 1) ∷ tried 6 1 1 1 0 0 (Declined 2) ∷ tried 8 1 1 2 2 1 (Commit 2) ∷ [];
        reads = item 0 4 None ∷ item 0 5 (Some (11 ∷ [])) ∷ item 0 3 None ∷ item 0 1 None ∷ item 0 5 (Some (11 ∷ [])) ∷
            [];
        locks = lock 0 4 0 0 ∷ lock 0 5 0 0 ∷ lock 0 1 0 0 ∷ [];
        writes = item 0 4 (Some (1 ∷ [])) ∷ item 0 5 (Some (13 ∷ [])) ∷ [];
        snaps = (0 ∷ 0 ∷ 0 ∷ []) ∷ (0 ∷ 0 ∷ 1 ∷ []) ∷ (0 ∷ 0 ∷ 1 ∷ []) ∷ [];
      } ∷
      [];
  audit = row 0 0 (Some (5 ∷ [])) false ∷ row 0 3 (Some (3 ∷ [])) false ∷ row 0 4 (Some (4 ∷ [])) false ∷ [];
}
unfolding of_random_27 stint_workers picked after_workers until_ended settle copies load_from
random_27 = refl

unfoldable of_random_28 : Scenario
of_random_28 = record {
  shape = shape Narrow 1 (table 1 3 3 ∷ []) 3 3 0;
  rows = loaded 0 1 (7 ∷ []) ∷ [];
  policy = record { tries = 3; tidy = false };
  txns = txn 1 (Put 0 1 (18446744073709551614 ∷ []) ∷ []) ∷ [];
  schedule = Stints (stint 1 70 ∷ stint 1 21 ∷ stint 1 110 ∷ stint 1 14 ∷ stint 1 7 ∷ stint 1 70 ∷ stint 1 31 ∷
      stint 1 38 ∷ stint 1 66 ∷ stint 1 51 ∷ stint 1 79 ∷ stint 1 9 ∷ stint 1 75 ∷ stint 1 11 ∷ stint 1 54 ∷
      stint 1 53 ∷ stint 1 2 ∷ stint 1 5 ∷ stint 1 70 ∷ stint 1 8 ∷ stint 1 46 ∷ stint 1 7 ∷ stint 1 50 ∷ stint 1 12 ∷
      stint 1 78 ∷ stint 1 17 ∷ stint 1 74 ∷ stint 1 3 ∷ stint 1 25 ∷ stint 1 89 ∷ stint 1 52 ∷ stint 1 108 ∷
      stint 1 10 ∷ stint 1 22 ∷ stint 1 14 ∷ stint 1 18 ∷ stint 1 38 ∷ stint 1 35 ∷ stint 1 47 ∷ stint 1 49 ∷
      stint 1 60 ∷ stint 1 82 ∷ stint 1 57 ∷ stint 1 18 ∷ stint 1 18 ∷ stint 1 19 ∷ []);
}

random_28 : shown of_random_28 ([]) ≡ record {
  logs =
      record {
        events = tried 1 1 0 0 1 1 (Commit 1) ∷ [];
        reads = [];
        locks = lock 0 1 0 0 ∷ [];
        writes = item 0 1 (Some (18446744073709551614 ∷ [])) ∷ [];
        snaps = (0 ∷ []) ∷ [];
      } ∷
      [];
  audit = row 0 1 (Some (18446744073709551614 ∷ [])) false ∷ [];
}
unfolding of_random_28 stint_workers picked after_workers until_ended settle copies load_from
random_28 = refl

unfoldable of_random_29 : Scenario
of_random_29 = record {
  shape = shape Narrow 4 (table 1 3 1 ∷ []) 3 2 0;
  rows = loaded 0 2 (3 ∷ []) ∷ loaded 0 5 (18446744073709551613 ∷ []) ∷ loaded 0 3 (32 ∷ []) ∷ [];
  policy = record { tries = 3; tidy = false };
  txns = txn 1 (Get 0 4 ∷ Put 0 4 (5 ∷ []) ∷ Del 0 3 ∷ []) ∷ txn 2 (Get 0 0 ∷ []) ∷
      txn 3 (Del 0 6 ∷ Get 0 2 ∷ Put 0 1 (0 ∷ []) ∷ Put 0 5 (4 ∷ []) ∷ []) ∷ [];
  schedule = Stints (stint 2 10 ∷ stint 1 15 ∷ stint 4 118 ∷ stint 1 146 ∷ stint 1 59 ∷ stint 4 40 ∷ stint 4 20 ∷
      stint 1 6 ∷ stint 2 11 ∷ stint 2 18 ∷ stint 4 15 ∷ stint 1 133 ∷ stint 1 5 ∷ stint 3 169 ∷ stint 2 5 ∷
      stint 4 12 ∷ []);
}

random_29 : shown of_random_29 ([]) ≡ record {
  logs =
      record {
        events = tried 1 1 0 1 0 0 (NoSpace 0) ∷ [];
        reads = item 0 4 None ∷ [];
        locks = [];
        writes = [];
        snaps = (0 ∷ 0 ∷ 0 ∷ 0 ∷ []) ∷ [];
      } ∷
      record {
        events = tried 2 1 0 1 0 0 ReadOnly ∷ [];
        reads = item 0 0 None ∷ [];
        locks = [];
        writes = [];
        snaps = (0 ∷ 0 ∷ 0 ∷ 0 ∷ []) ∷ [];
      } ∷
      record {
        events = tried 3 1 0 0 0 0 (NoSpace 0) ∷ [];
        reads = [];
        locks = [];
        writes = [];
        snaps = (0 ∷ 0 ∷ 0 ∷ 0 ∷ []) ∷ [];
      } ∷
      record {
        events = [];
        reads = [];
        locks = [];
        writes = [];
        snaps = [];
      } ∷
      [];
  audit = row 0 2 (Some (3 ∷ [])) false ∷ row 0 3 (Some (32 ∷ [])) false ∷
      row 0 5 (Some (18446744073709551613 ∷ [])) false ∷ [];
}
unfolding of_random_29 stint_workers picked after_workers until_ended settle copies load_from
random_29 = refl

unfoldable of_random_30 : Scenario
of_random_30 = record {
  shape = shape Narrow 2 (table 3 2 2 ∷ []) 1 1 0;
  rows = loaded 0 0 (6 ∷ 4 ∷ 84 ∷ []) ∷ [];
  policy = record { tries = 3; tidy = true };
  txns = txn 1 (Get 0 0 ∷ Put 0 0 (18446744073709551614 ∷ 10 ∷ 0 ∷ []) ∷ []) ∷ [];
  schedule = Stints (stint 2 1 ∷ stint 2 53 ∷ stint 2 40 ∷ stint 1 30 ∷ stint 1 24 ∷ stint 1 7 ∷ stint 2 29 ∷
      stint 1 6 ∷ stint 1 14 ∷ []);
}

random_30 : shown of_random_30 ([]) ≡ record {
  logs =
      record {
        events = tried 1 1 0 1 1 1 (Commit 1) ∷ [];
        reads = item 0 0 (Some (6 ∷ 4 ∷ 84 ∷ [])) ∷ [];
        locks = lock 0 0 0 0 ∷ [];
        writes = item 0 0 (Some (18446744073709551614 ∷ 10 ∷ 0 ∷ [])) ∷ [];
        snaps = (0 ∷ 0 ∷ []) ∷ [];
      } ∷
      record {
        events = [];
        reads = [];
        locks = [];
        writes = [];
        snaps = [];
      } ∷
      [];
  audit = row 0 0 (Some (18446744073709551614 ∷ 10 ∷ 0 ∷ [])) false ∷ [];
}
unfolding of_random_30 stint_workers picked after_workers until_ended settle copies load_from
random_30 = refl

unfoldable of_random_31 : Scenario
of_random_31 = record {
  shape = shape Narrow 3 (table 1 2 4 ∷ table 3 4 3 ∷ table 2 1 4 ∷ []) 2 4 4294967292;
  rows = loaded 0 1 (6 ∷ []) ∷ loaded 0 18446744073709551613 (6 ∷ []) ∷ loaded 1 0 (66 ∷ 0 ∷ 4 ∷ []) ∷
      loaded 2 1 (10 ∷ 2 ∷ []) ∷ [];
  policy = record { tries = 2; tidy = false };
  txns = txn 2 (Add 2 0 1 true 0 ∷ Guard 1 1 ∷ Guard 0 1 ∷ []) ∷ txn 3 (Guard 1 18446744073709551613 ∷ Need 2 2 1 0 ∷
      Put 0 18446744073709551613 (11 ∷ []) ∷ []) ∷ txn 2 (Add 1 1 2 true 1 ∷ Del 2 1 ∷ []) ∷ txn 3 (Guard 2 2 ∷
      Put 1 18446744073709551613 (6 ∷ 4 ∷ 11 ∷ []) ∷ []) ∷ [];
  schedule = Stints (stint 3 2 ∷ stint 1 113 ∷ stint 2 2 ∷ stint 1 2 ∷ stint 2 1 ∷ stint 2 1 ∷ stint 2 2 ∷ stint 3 51 ∷
      stint 2 1 ∷ stint 3 2 ∷ stint 2 2 ∷ stint 3 43 ∷ stint 2 2 ∷ stint 2 1 ∷ stint 1 1 ∷ stint 3 2 ∷ stint 3 101 ∷
      stint 3 1 ∷ stint 3 69 ∷ stint 3 2 ∷ stint 2 2 ∷ stint 3 93 ∷ stint 3 1 ∷ stint 1 2 ∷ stint 2 2 ∷ stint 3 1 ∷
      stint 2 2 ∷ stint 3 2 ∷ stint 1 2 ∷ stint 2 1 ∷ stint 2 1 ∷ stint 2 115 ∷ stint 1 2 ∷ stint 3 2 ∷ stint 3 1 ∷
      stint 1 26 ∷ stint 1 1 ∷ stint 3 1 ∷ stint 2 2 ∷ stint 1 2 ∷ stint 3 2 ∷ stint 1 2 ∷ stint 2 1 ∷ stint 1 2 ∷
      stint 3 2 ∷ stint 1 2 ∷ stint 2 2 ∷ stint 2 2 ∷ stint 3 21 ∷ stint 3 88 ∷ stint 2 2 ∷ stint 2 13 ∷ stint 3 21 ∷
      stint 2 1 ∷ stint 1 1 ∷ stint 2 1 ∷ stint 3 1 ∷ stint 2 1 ∷ stint 3 42 ∷ stint 2 2 ∷ stint 1 109 ∷ stint 1 1 ∷
      stint 2 2 ∷ stint 3 1 ∷ stint 2 1 ∷ []);
}

random_31 : shown of_random_31 (fuse 222 ∷ up ∷ fuse 5 ∷ []) ≡ record {
  logs =
      record {
        events = [];
        reads = [];
        locks = [];
        writes = [];
        snaps = [];
      } ∷
      record {
        events = tried 1 1 0 1 0 0 (NoSpace 2) ∷ tried 3 1 0 1 2 2 (Commit 4294967293) ∷ [];
        reads = item 2 0 None ∷ item 1 1 None ∷ [];
        locks = lock 1 1 0 0 ∷ lock 2 1 0 0 ∷ [];
        writes = item 1 1 (Some (0 ∷ 1 ∷ 0 ∷ [])) ∷ item 2 1 None ∷ [];
        snaps = (4294967292 ∷ 4294967292 ∷ 4294967292 ∷ []) ∷ (4294967292 ∷ 4294967292 ∷ 4294967292 ∷ []) ∷ [];
      } ∷
      record {
        events = unbegun 2 1 Cut ∷ [];
        reads = [];
        locks = [];
        writes = [];
        snaps = [];
      } ∷
      [];
  audit = row 0 1 (Some (6 ∷ [])) false ∷ row 0 18446744073709551613 (Some (6 ∷ [])) false ∷
      row 1 0 (Some (66 ∷ 0 ∷ 4 ∷ [])) false ∷ row 1 1 (Some (0 ∷ 1 ∷ 0 ∷ [])) false ∷ [];
}
unfolding of_random_31 stint_workers picked after_workers until_ended settle copies load_from
random_31 = refl

unfoldable of_random_32 : Scenario
of_random_32 = record {
  shape = shape Narrow 3 (table 1 1 3 ∷ []) 1 1 2117330346;
  rows = [];
  policy = record { tries = 3; tidy = false };
  txns = txn 1 (Add 0 0 1 true 1 ∷ Add 0 1 1 true 1 ∷ Put 0 1 (9 ∷ []) ∷ Add 0 0 1 true 1 ∷ []) ∷
      txn 1 (Add 0 1 1 true 1 ∷ []) ∷ txn 1 (Get 0 0 ∷ Del 0 0 ∷ Del 0 8 ∷ Add 0 8 1 true 1 ∷ []) ∷
      txn 1 (Del 0 8 ∷ Get 0 0 ∷ Get 0 0 ∷ []) ∷ txn 3 (Get 0 8 ∷ []) ∷ [];
  schedule = Stints (stint 1 33 ∷ stint 3 32 ∷ stint 1 76 ∷ stint 3 2 ∷ stint 1 51 ∷ stint 1 10 ∷ stint 2 10 ∷
      stint 1 7 ∷ []);
}

random_32 : shown of_random_32 (up ∷ fuse 244 ∷ fuse 243 ∷ []) ≡ record {
  logs =
      record {
        events = tried 1 1 0 2 0 0 (NoSpace 0) ∷ tried 2 1 0 1 0 0 (NoSpace 0) ∷ tried 3 1 0 1 0 0 (NoSpace 0) ∷
            tried 4 1 0 0 0 0 (NoSpace 0) ∷ [];
        reads = item 0 0 None ∷ item 0 1 None ∷ item 0 1 None ∷ item 0 0 None ∷ [];
        locks = [];
        writes = [];
        snaps = (2117330346 ∷ 2117330346 ∷ 2117330346 ∷ []) ∷ (2117330346 ∷ 2117330346 ∷ 2117330346 ∷ []) ∷
            (2117330346 ∷ 2117330346 ∷ 2117330346 ∷ []) ∷ (2117330346 ∷ 2117330346 ∷ 2117330346 ∷ []) ∷ [];
      } ∷
      record {
        events = [];
        reads = [];
        locks = [];
        writes = [];
        snaps = [];
      } ∷
      record {
        events = tried 5 1 0 1 0 0 ReadOnly ∷ [];
        reads = item 0 8 None ∷ [];
        locks = [];
        writes = [];
        snaps = (2117330346 ∷ 2117330346 ∷ 2117330346 ∷ []) ∷ [];
      } ∷
      [];
  audit = [];
}
unfolding of_random_32 stint_workers picked after_workers until_ended settle copies load_from
random_32 = refl

unfoldable of_random_33 : Scenario
of_random_33 = record {
  shape = shape Narrow 2 (table 2 7 1 ∷ []) 1 3 0;
  rows = loaded 0 8 (39 ∷ 11 ∷ []) ∷ loaded 0 0 (10 ∷ 18446744073709551614 ∷ []) ∷ loaded 0 2 (12 ∷ 0 ∷ []) ∷ [];
  policy = record { tries = 2; tidy = false };
  txns = txn 1 (Guard 0 18446744073709551613 ∷ Get 0 0 ∷ Guard 0 8 ∷ Del 0 5 ∷ Add 0 1 1 true 1 ∷ Need 0 3 2 9 ∷
      Need 0 2 1 0 ∷ Del 0 4 ∷ Get 0 8 ∷ Add 0 0 1 false 3 ∷ []) ∷ [];
  schedule = Stints (stint 2 114 ∷ stint 2 36 ∷ stint 1 38 ∷ stint 2 79 ∷ stint 1 38 ∷ stint 1 73 ∷ stint 2 8 ∷
      stint 1 8 ∷ stint 2 49 ∷ stint 1 4 ∷ stint 1 44 ∷ stint 2 4 ∷ stint 2 69 ∷ stint 1 2 ∷ stint 2 7 ∷ stint 1 68 ∷
      stint 1 51 ∷ stint 2 75 ∷ stint 1 62 ∷ stint 1 36 ∷ stint 2 75 ∷ stint 1 65 ∷ stint 2 55 ∷ stint 2 64 ∷
      stint 1 13 ∷ stint 1 21 ∷ stint 1 39 ∷ stint 1 13 ∷ stint 1 30 ∷ stint 2 48 ∷ stint 1 15 ∷ stint 2 64 ∷
      stint 1 20 ∷ stint 2 31 ∷ stint 2 62 ∷ stint 2 14 ∷ stint 2 79 ∷ stint 1 65 ∷ stint 1 17 ∷ stint 1 41 ∷
      stint 2 58 ∷ stint 1 45 ∷ stint 1 70 ∷ stint 1 13 ∷ stint 2 79 ∷ stint 2 113 ∷ stint 2 26 ∷ stint 1 70 ∷
      stint 1 24 ∷ stint 1 34 ∷ stint 1 16 ∷ stint 2 76 ∷ stint 2 5 ∷ stint 1 4 ∷ []);
}

random_33 : shown of_random_33 ([]) ≡ record {
  logs =
      record {
        events = tried 1 1 0 5 0 0 (Declined 6) ∷ [];
        reads = item 0 18446744073709551613 None ∷ item 0 0 (Some (10 ∷ 18446744073709551614 ∷ [])) ∷
            item 0 8 (Some (39 ∷ 11 ∷ [])) ∷ item 0 1 None ∷ item 0 3 None ∷ [];
        locks = [];
        writes = [];
        snaps = (0 ∷ 0 ∷ []) ∷ [];
      } ∷
      record {
        events = [];
        reads = [];
        locks = [];
        writes = [];
        snaps = [];
      } ∷
      [];
  audit = row 0 0 (Some (10 ∷ 18446744073709551614 ∷ [])) false ∷ row 0 2 (Some (12 ∷ 0 ∷ [])) false ∷
      row 0 8 (Some (39 ∷ 11 ∷ [])) false ∷ [];
}
unfolding of_random_33 stint_workers picked after_workers until_ended settle copies load_from
random_33 = refl

unfoldable of_random_34 : Scenario
of_random_34 = record {
  shape = shape Narrow 2 (table 2 1 2 ∷ []) 1 2 0;
  rows = loaded 0 0 (24 ∷ 0 ∷ []) ∷ [];
  policy = record { tries = 3; tidy = true };
  txns = txn 2 (Get 0 4 ∷ []) ∷ txn 1 (Put 0 3 (10 ∷ 18446744073709551615 ∷ []) ∷ Del 0 3 ∷ Del 0 0 ∷
      Put 0 2 (75 ∷ 10 ∷ []) ∷ []) ∷ txn 1 (Put 0 4 (0 ∷ 8 ∷ []) ∷ Put 0 3 (18446744073709551614 ∷ 9 ∷ []) ∷ []) ∷
      txn 1 (Add 0 0 2 true 1 ∷ Del 0 2 ∷ []) ∷
      txn 1 (Put 0 1 (7 ∷ 8 ∷ []) ∷ Get 0 3 ∷ Guard 0 3 ∷ Put 0 1 (3 ∷ 18446744073709551615 ∷ []) ∷ []) ∷
      txn 2 (Put 0 3 (11 ∷ 7 ∷ []) ∷ []) ∷ [];
  schedule = Stints (stint 2 4 ∷ stint 1 41 ∷ stint 1 5 ∷ stint 1 3 ∷ stint 2 12 ∷ stint 2 27 ∷ stint 1 12 ∷
      stint 2 28 ∷ stint 2 14 ∷ stint 1 6 ∷ stint 2 6 ∷ stint 1 3 ∷ stint 2 47 ∷ stint 2 41 ∷ stint 2 2 ∷ stint 2 94 ∷
      stint 2 4 ∷ stint 1 97 ∷ stint 2 33 ∷ stint 1 8 ∷ stint 1 10 ∷ stint 2 15 ∷ stint 1 9 ∷ stint 2 36 ∷ []);
}

random_34 : shown of_random_34 (fuse 14 ∷ up ∷ []) ≡ record {
  logs =
      record {
        events = tried 2 1 0 0 0 0 (NoSpace 0) ∷ tried 3 1 0 0 0 0 (NoSpace 0) ∷ unbegun 4 1 Cut ∷ [];
        reads = [];
        locks = [];
        writes = [];
        snaps = (0 ∷ 0 ∷ []) ∷ (0 ∷ 0 ∷ []) ∷ [];
      } ∷
      record {
        events = tried 1 1 0 1 0 0 ReadOnly ∷ tried 6 1 0 0 0 0 (NoSpace 0) ∷ [];
        reads = item 0 4 None ∷ [];
        locks = [];
        writes = [];
        snaps = (0 ∷ 0 ∷ []) ∷ (0 ∷ 0 ∷ []) ∷ [];
      } ∷
      [];
  audit = row 0 0 (Some (24 ∷ 0 ∷ [])) false ∷ [];
}
unfolding of_random_34 stint_workers picked after_workers until_ended settle copies load_from
random_34 = refl

unfoldable of_random_35 : Scenario
of_random_35 = record {
  shape = shape Narrow 3 (table 1 4 4 ∷ []) 3 4 4294967292;
  rows = loaded 0 1 (77 ∷ []) ∷ loaded 0 3 (12 ∷ []) ∷ loaded 0 0 (5 ∷ []) ∷ [];
  policy = record { tries = 5; tidy = false };
  txns = txn 2 (Add 0 3 1 false 4 ∷ Del 0 0 ∷ []) ∷ txn 2 (Get 0 0 ∷ Get 0 3 ∷ []) ∷
      txn 2 (Add 0 4 1 true 1 ∷ Need 0 1 1 2 ∷ Need 0 0 1 0 ∷ Add 0 0 1 true 1 ∷ Put 0 4 (9 ∷ []) ∷ Del 0 3 ∷
      Need 0 2 1 0 ∷ Add 0 4 1 false 1 ∷ Add 0 0 1 true 1 ∷ []) ∷ txn 3 (Del 0 4 ∷ []) ∷ [];
  schedule = Stints (stint 3 1 ∷ stint 1 13 ∷ stint 2 2 ∷ stint 1 2 ∷ stint 1 99 ∷ stint 1 42 ∷ stint 3 2 ∷
      stint 1 112 ∷ stint 2 5 ∷ stint 3 24 ∷ stint 2 3 ∷ stint 2 8 ∷ stint 1 50 ∷ stint 3 5 ∷ stint 3 2 ∷ stint 2 13 ∷
      stint 1 40 ∷ stint 1 1 ∷ stint 3 4 ∷ stint 3 58 ∷ stint 1 21 ∷ stint 2 11 ∷ stint 3 53 ∷ stint 2 66 ∷ []);
}

random_35 : shown of_random_35 (up ∷ up ∷ fuse 20 ∷ []) ≡ record {
  logs =
      record {
        events = [];
        reads = [];
        locks = [];
        writes = [];
        snaps = [];
      } ∷
      record {
        events = tried 1 1 0 1 2 2 (Commit 4294967293) ∷ tried 2 1 1 2 0 0 ReadOnly ∷
            tried 3 1 1 7 0 0 (Locked (lock 0 4 0 0)) ∷ tried 3 2 1 7 0 0 (Locked (lock 0 4 0 0)) ∷
            tried 3 3 1 7 0 0 (Locked (lock 0 4 0 0)) ∷ tried 3 4 1 7 0 0 (Locked (lock 0 4 0 0)) ∷
            tried 3 5 1 7 0 0 (Locked (lock 0 4 0 0)) ∷ [];
        reads = item 0 3 (Some (12 ∷ [])) ∷ item 0 0 None ∷ item 0 3 (Some (8 ∷ [])) ∷ item 0 4 None ∷
            item 0 1 (Some (77 ∷ [])) ∷ item 0 0 None ∷ item 0 0 None ∷ item 0 2 None ∷ item 0 4 (Some (9 ∷ [])) ∷
            item 0 0 (Some (1 ∷ [])) ∷ item 0 4 None ∷ item 0 1 (Some (77 ∷ [])) ∷ item 0 0 None ∷ item 0 0 None ∷
            item 0 2 None ∷ item 0 4 (Some (9 ∷ [])) ∷ item 0 0 (Some (1 ∷ [])) ∷ item 0 4 None ∷
            item 0 1 (Some (77 ∷ [])) ∷ item 0 0 None ∷ item 0 0 None ∷ item 0 2 None ∷ item 0 4 (Some (9 ∷ [])) ∷
            item 0 0 (Some (1 ∷ [])) ∷ item 0 4 None ∷ item 0 1 (Some (77 ∷ [])) ∷ item 0 0 None ∷ item 0 0 None ∷
            item 0 2 None ∷ item 0 4 (Some (9 ∷ [])) ∷ item 0 0 (Some (1 ∷ [])) ∷ item 0 4 None ∷
            item 0 1 (Some (77 ∷ [])) ∷ item 0 0 None ∷ item 0 0 None ∷ item 0 2 None ∷ item 0 4 (Some (9 ∷ [])) ∷
            item 0 0 (Some (1 ∷ [])) ∷ [];
        locks = lock 0 3 0 0 ∷ lock 0 0 0 0 ∷ [];
        writes = item 0 3 (Some (8 ∷ [])) ∷ item 0 0 None ∷ [];
        snaps = (4294967292 ∷ 4294967292 ∷ 4294967292 ∷ []) ∷ (4294967292 ∷ 4294967293 ∷ 4294967292 ∷ []) ∷
            (4294967292 ∷ 4294967293 ∷ 4294967292 ∷ []) ∷ (4294967292 ∷ 4294967293 ∷ 4294967292 ∷ []) ∷
            (4294967292 ∷ 4294967293 ∷ 4294967292 ∷ []) ∷ (4294967292 ∷ 4294967293 ∷ 4294967292 ∷ []) ∷
            (4294967292 ∷ 4294967293 ∷ 4294967292 ∷ []) ∷ [];
      } ∷
      record {
        events = tried 4 1 0 0 1 0 Cut ∷ [];
        reads = [];
        locks = lock 0 4 0 0 ∷ [];
        writes = [];
        snaps = (4294967292 ∷ 4294967292 ∷ 4294967292 ∷ []) ∷ [];
      } ∷
      [];
  audit = row 0 1 (Some (77 ∷ [])) false ∷ row 0 3 (Some (8 ∷ [])) false ∷ row 0 4 None true ∷ [];
}
unfolding of_random_35 stint_workers picked after_workers until_ended settle copies load_from
random_35 = refl

unfoldable of_random_36 : Scenario
of_random_36 = record {
  shape = shape Wide 3 (table 1 4 1 ∷ []) 3 1 0;
  rows = loaded 0 4 (96 ∷ []) ∷ loaded 0 2 (7 ∷ []) ∷ loaded 0 3 (91 ∷ []) ∷ loaded 0 0 (1 ∷ []) ∷ [];
  policy = record { tries = 1; tidy = true };
  txns = txn 2 (Get 0 2 ∷ []) ∷ txn 2 (Get 0 2 ∷ Put 0 2 (9 ∷ []) ∷ []) ∷ txn 3 (Need 0 2 1 3 ∷ []) ∷
      txn 1 (Get 0 1 ∷ []) ∷ txn 2 (Get 0 0 ∷ Put 0 3 (3 ∷ []) ∷ Add 0 0 1 false 2 ∷ Add 0 2 1 true 7 ∷ []) ∷
      txn 3 (Put 0 5 (5 ∷ []) ∷ Add 0 4 1 true 4 ∷ Guard 0 5 ∷ []) ∷ txn 3 (Add 0 2 1 false 1 ∷ []) ∷
      txn 2 (Put 0 4 (3 ∷ []) ∷ []) ∷ [];
  schedule = Stints (stint 1 14 ∷ stint 2 143 ∷ stint 3 5 ∷ stint 1 43 ∷ stint 1 2 ∷ stint 2 54 ∷ stint 3 32 ∷
      stint 3 6 ∷ stint 2 16 ∷ stint 3 2 ∷ stint 2 10 ∷ stint 1 3 ∷ []);
}

random_36 : shown of_random_36 ([]) ≡ record {
  logs =
      record {
        events = tried 4 1 0 1 0 0 ReadOnly ∷ [];
        reads = item 0 1 None ∷ [];
        locks = [];
        writes = [];
        snaps = (0 ∷ 0 ∷ 0 ∷ []) ∷ [];
      } ∷
      record {
        events = tried 1 1 0 1 0 0 ReadOnly ∷ tried 2 1 0 1 1 1 (Commit 1) ∷ move 2 0 2 0 0 move_done ∷
            tried 5 1 1 2 0 0 (Declined 3) ∷ tried 8 1 1 0 1 1 (Commit 2) ∷ move 0 0 4 0 0 move_done ∷ [];
        reads = item 0 2 (Some (7 ∷ [])) ∷ item 0 2 (Some (7 ∷ [])) ∷ item 0 0 (Some (1 ∷ [])) ∷
            item 0 0 (Some (1 ∷ [])) ∷ [];
        locks = lock 0 2 0 0 ∷ lock 0 4 0 0 ∷ [];
        writes = item 0 2 (Some (9 ∷ [])) ∷ item 0 4 (Some (3 ∷ [])) ∷ [];
        snaps = (0 ∷ 0 ∷ 0 ∷ []) ∷ (0 ∷ 0 ∷ 0 ∷ []) ∷ (0 ∷ 1 ∷ 0 ∷ []) ∷ (0 ∷ 1 ∷ 0 ∷ []) ∷ [];
      } ∷
      record {
        events = tried 3 1 2 1 0 0 ReadOnly ∷ tried 6 1 2 0 0 0 (NoSpace 0) ∷ tried 7 1 2 1 1 1 (Commit 1) ∷ NoRoom 2 ∷
            Collected 2 3 (0 ∷ 2 ∷ 1 ∷ []) false ∷ move 2 0 2 2 1 move_done ∷ [];
        reads = item 0 2 (Some (9 ∷ [])) ∷ item 0 2 (Some (9 ∷ [])) ∷ [];
        locks = lock 0 2 2 1 ∷ [];
        writes = item 0 2 (Some (8 ∷ [])) ∷ [];
        snaps = (0 ∷ 2 ∷ 0 ∷ []) ∷ (0 ∷ 2 ∷ 0 ∷ []) ∷ (0 ∷ 2 ∷ 0 ∷ []) ∷ (0 ∷ 2 ∷ 1 ∷ []) ∷ [];
      } ∷
      [];
  audit = row 0 0 (Some (1 ∷ [])) false ∷ row 0 2 (Some (8 ∷ [])) false ∷ row 0 3 (Some (91 ∷ [])) false ∷
      row 0 4 (Some (3 ∷ [])) false ∷ [];
}
unfolding of_random_36 stint_workers picked after_workers until_ended settle copies load_from
random_36 = refl

unfoldable of_random_37 : Scenario
of_random_37 = record {
  shape = shape Wide 4 (table 1 6 2 ∷ table 8 1 3 ∷ table 2 3 4 ∷ []) 1 2 0;
  rows = loaded 0 1 (7 ∷ []) ∷ loaded 0 4 (7 ∷ []) ∷
      loaded 1 18446744073709551614 (3 ∷ 44 ∷ 31 ∷ 7 ∷ 36 ∷ 18446744073709551614 ∷ 94 ∷ 0 ∷ []) ∷
      loaded 2 18446744073709551612 (10 ∷ 66 ∷ []) ∷ loaded 2 0 (12 ∷ 9 ∷ []) ∷ loaded 0 2 (5 ∷ []) ∷
      loaded 0 18446744073709551612 (49 ∷ []) ∷ loaded 2 1 (4 ∷ 87 ∷ []) ∷ [];
  policy = record { tries = 5; tidy = false };
  txns = txn 1 (Get 2 0 ∷ []) ∷ txn 1 (Get 2 0 ∷ Del 2 18446744073709551612 ∷ Get 1 18446744073709551614 ∷ Guard 2 1 ∷
      []) ∷ txn 3 (Guard 1 0 ∷ Del 2 0 ∷ Guard 0 1 ∷ Add 0 0 1 true 1 ∷ Get 0 18446744073709551612 ∷
      Put 0 18446744073709551612 (3 ∷ []) ∷ Guard 1 0 ∷ Guard 1 18446744073709551614 ∷
      Add 0 18446744073709551612 1 true 3 ∷ []) ∷
      txn 4 (Put 1 18446744073709551614 (71 ∷ 74 ∷ 1 ∷ 8 ∷ 6 ∷ 4 ∷ 10 ∷ 86 ∷ []) ∷ []) ∷ [];
  schedule = Stints ([]);
}

random_37 : shown of_random_37 (up ∷ up ∷ fuse 62 ∷ fuse 3 ∷ []) ≡ record {
  logs =
      record {
        events = tried 1 1 0 1 0 0 ReadOnly ∷ tried 2 1 0 3 2 1 (Commit 1) ∷ [];
        reads = item 2 0 (Some (12 ∷ 9 ∷ [])) ∷ item 2 0 (Some (12 ∷ 9 ∷ [])) ∷
            item 1 18446744073709551614 (Some (3 ∷ 44 ∷ 31 ∷ 7 ∷ 36 ∷ 18446744073709551614 ∷ 94 ∷ 0 ∷ [])) ∷
            item 2 1 (Some (4 ∷ 87 ∷ [])) ∷ [];
        locks = lock 2 18446744073709551612 0 0 ∷ lock 2 1 0 0 ∷ [];
        writes = item 2 18446744073709551612 None ∷ [];
        snaps = (0 ∷ 0 ∷ 0 ∷ 0 ∷ []) ∷ (0 ∷ 0 ∷ 0 ∷ 0 ∷ []) ∷ [];
      } ∷
      record {
        events = [];
        reads = [];
        locks = [];
        writes = [];
        snaps = [];
      } ∷
      record {
        events = tried 3 1 0 1 0 0 (NoSpace 1) ∷ [];
        reads = item 1 0 None ∷ [];
        locks = [];
        writes = [];
        snaps = (0 ∷ 0 ∷ 0 ∷ 0 ∷ []) ∷ [];
      } ∷
      record {
        events = unbegun 4 1 Cut ∷ [];
        reads = [];
        locks = [];
        writes = [];
        snaps = [];
      } ∷
      [];
  audit = row 0 1 (Some (7 ∷ [])) false ∷ row 0 2 (Some (5 ∷ [])) false ∷ row 0 4 (Some (7 ∷ [])) false ∷
      row 0 18446744073709551612 (Some (49 ∷ [])) false ∷
      row 1 18446744073709551614 (Some (3 ∷ 44 ∷ 31 ∷ 7 ∷ 36 ∷ 18446744073709551614 ∷ 94 ∷ 0 ∷ [])) false ∷
      row 2 0 (Some (12 ∷ 9 ∷ [])) false ∷ row 2 1 (Some (4 ∷ 87 ∷ [])) false ∷ [];
}
unfolding of_random_37 stint_workers picked after_workers until_ended settle copies load_from
random_37 = refl

unfoldable of_random_38 : Scenario
of_random_38 = record {
  shape = shape Wide 3 (table 1 1 4 ∷ table 8 1 3 ∷ []) 2 2 35184372088830;
  rows = [];
  policy = record { tries = 5; tidy = false };
  txns = txn 1 (Need 0 18446744073709551614 1 1 ∷ Need 0 18446744073709551614 1 0 ∷
      Put 0 18446744073709551614 (4 ∷ []) ∷ []) ∷ txn 1 (Need 1 0 3 0 ∷ Del 0 18446744073709551614 ∷ []) ∷
      txn 2 (Guard 1 0 ∷ []) ∷ txn 1 (Add 1 0 4 false 1 ∷ Guard 0 18446744073709551614 ∷ []) ∷
      txn 1 (Get 0 18446744073709551614 ∷ Put 1 0 (43 ∷ 13 ∷ 3 ∷ 70 ∷ 65 ∷ 18446744073709551613 ∷ 0 ∷
      18446744073709551615 ∷ []) ∷ Need 1 0 2 0 ∷ []) ∷ txn 3 (Get 1 0 ∷ Add 1 0 5 false 9 ∷ Get 1 0 ∷ Guard 1 0 ∷ []) ∷
      txn 3 (Need 1 0 7 0 ∷ Put 0 18446744073709551614 (55 ∷ []) ∷ Get 0 18446744073709551614 ∷ []) ∷ [];
  schedule = Stints (stint 3 107 ∷ stint 2 22 ∷ stint 2 20 ∷ stint 2 16 ∷ stint 2 3 ∷ stint 3 15 ∷ stint 1 9 ∷
      stint 2 2 ∷ stint 3 7 ∷ stint 3 13 ∷ stint 2 22 ∷ stint 1 18 ∷ stint 1 26 ∷ stint 3 13 ∷ stint 3 11 ∷ stint 1 30 ∷
      stint 2 20 ∷ stint 3 29 ∷ stint 1 11 ∷ stint 2 23 ∷ stint 2 11 ∷ stint 1 14 ∷ stint 1 29 ∷ stint 3 56 ∷
      stint 3 13 ∷ stint 3 8 ∷ stint 1 27 ∷ stint 3 13 ∷ stint 2 23 ∷ stint 3 3 ∷ stint 1 17 ∷ stint 3 21 ∷ stint 2 12 ∷
      stint 2 26 ∷ stint 3 19 ∷ stint 1 2 ∷ stint 3 4 ∷ stint 3 119 ∷ stint 3 11 ∷ stint 2 12 ∷ stint 1 11 ∷
      stint 2 28 ∷ stint 2 16 ∷ stint 2 20 ∷ stint 3 21 ∷ stint 1 90 ∷ stint 3 25 ∷ stint 3 3 ∷ stint 2 11 ∷
      stint 3 14 ∷ stint 2 17 ∷ stint 1 23 ∷ stint 2 14 ∷ stint 2 24 ∷ stint 2 1 ∷ stint 1 13 ∷ stint 3 25 ∷
      stint 3 20 ∷ stint 3 11 ∷ stint 2 113 ∷ stint 1 1 ∷ stint 1 8 ∷ stint 2 30 ∷ stint 1 3 ∷ stint 2 29 ∷ stint 1 19 ∷
      stint 1 23 ∷ stint 3 81 ∷ stint 1 12 ∷ stint 1 4 ∷ stint 2 13 ∷ stint 1 14 ∷ stint 1 2 ∷ stint 1 4 ∷ stint 2 27 ∷
      stint 3 20 ∷ []);
}

random_38 : shown of_random_38 (up ∷ fuse 166 ∷ fuse 71 ∷ []) ≡ record {
  logs =
      record {
        events = tried 1 1 1 2 1 1 (Commit 35184372088831) ∷ tried 2 1 2 1 0 0 Spent ∷ tried 4 1 2 1 0 0 (Declined 1) ∷
            tried 5 1 2 2 0 0 Spent ∷ [];
        reads = item 0 18446744073709551614 (Some (55 ∷ [])) ∷ item 0 18446744073709551614 (Some (55 ∷ [])) ∷
            item 1 0 None ∷ item 1 0 None ∷ item 0 18446744073709551614 (Some (4 ∷ [])) ∷
            item 1 0 (Some (43 ∷ 13 ∷ 3 ∷ 70 ∷ 65 ∷ 18446744073709551613 ∷ 0 ∷ 18446744073709551615 ∷ [])) ∷ [];
        locks = lock 0 18446744073709551614 3 35184372088831 ∷ [];
        writes = item 0 18446744073709551614 (Some (4 ∷ [])) ∷ [];
        snaps = (35184372088830 ∷ 35184372088830 ∷ 35184372088831 ∷ []) ∷
            (35184372088831 ∷ 35184372088830 ∷ 35184372088831 ∷ []) ∷
            (35184372088831 ∷ 35184372088830 ∷ 35184372088831 ∷ []) ∷
            (35184372088831 ∷ 35184372088830 ∷ 35184372088831 ∷ []) ∷ [];
      } ∷
      record {
        events = tried 3 1 1 1 0 0 ReadOnly ∷ [];
        reads = item 1 0 None ∷ [];
        locks = [];
        writes = [];
        snaps = (35184372088830 ∷ 35184372088830 ∷ 35184372088831 ∷ []) ∷ [];
      } ∷
      record {
        events = tried 6 1 0 2 0 0 (Declined 2) ∷ tried 7 1 0 2 1 1 (Commit 35184372088831) ∷ [];
        reads = item 1 0 None ∷ item 1 0 None ∷ item 1 0 None ∷ item 0 18446744073709551614 (Some (55 ∷ [])) ∷ [];
        locks = lock 0 18446744073709551614 0 0 ∷ [];
        writes = item 0 18446744073709551614 (Some (55 ∷ [])) ∷ [];
        snaps = (35184372088830 ∷ 35184372088830 ∷ 35184372088830 ∷ []) ∷
            (35184372088830 ∷ 35184372088830 ∷ 35184372088830 ∷ []) ∷ [];
      } ∷
      [];
  audit = row 0 18446744073709551614 (Some (4 ∷ [])) false ∷ [];
}
unfolding of_random_38 stint_workers picked after_workers until_ended settle copies load_from
random_38 = refl

unfoldable of_random_39 : Scenario
of_random_39 = record {
  shape = shape Narrow 2 (table 1 1 2 ∷ table 1 2 1 ∷ []) 2 1 0;
  rows = loaded 1 0 (3 ∷ []) ∷ loaded 0 0 (0 ∷ []) ∷ [];
  policy = record { tries = 5; tidy = true };
  txns = txn 2 (Guard 0 0 ∷ Get 0 0 ∷ []) ∷ txn 2 (Get 1 1 ∷ Get 0 0 ∷ []) ∷ txn 2 (Add 1 0 1 true 1 ∷ []) ∷
      txn 1 (Add 0 0 1 false 1 ∷ Del 1 1 ∷ []) ∷ txn 1 (Del 0 0 ∷ Put 1 0 (25 ∷ []) ∷ Get 1 1 ∷ []) ∷
      txn 1 (Get 0 0 ∷ Del 0 0 ∷ Get 0 0 ∷ Del 1 0 ∷ []) ∷ txn 2 (Add 1 0 1 true 8 ∷ []) ∷
      txn 2 (Need 0 0 1 0 ∷ Put 1 0 (78 ∷ []) ∷ Need 0 0 1 0 ∷ Add 1 1 1 false 1 ∷ []) ∷
      txn 2 (Put 1 0 (62 ∷ []) ∷ Add 0 0 1 true 1 ∷ Add 0 0 1 true 1 ∷ Put 1 1 (6 ∷ []) ∷ Add 0 0 1 true 1 ∷ Guard 0 0 ∷
      Add 1 1 1 true 3 ∷ Need 1 0 1 0 ∷ Guard 0 0 ∷ Add 0 0 1 true 0 ∷ []) ∷ [];
  schedule = Stints ([]);
}

random_39 : shown of_random_39 (up ∷ fuse 76 ∷ []) ≡ record {
  logs =
      record {
        events = tried 4 1 0 1 0 0 (Declined 1) ∷ tried 5 1 0 1 2 2 (Commit 1) ∷ move 1 1 0 0 0 move_done ∷
            tried 6 1 1 2 2 2 (Commit 2) ∷ move 0 0 0 0 0 move_done ∷ NoRoom 1 ∷ Collected 1 2 (2 ∷ 0 ∷ []) false ∷
            move 1 1 0 1 1 move_done ∷ [];
        reads = item 0 0 (Some (0 ∷ [])) ∷ item 1 1 None ∷ item 0 0 None ∷ item 0 0 None ∷ [];
        locks = lock 0 0 0 0 ∷ lock 1 0 0 0 ∷ lock 0 0 1 1 ∷ lock 1 0 1 1 ∷ [];
        writes = item 0 0 None ∷ item 1 0 (Some (25 ∷ [])) ∷ item 0 0 None ∷ item 1 0 None ∷ [];
        snaps = (0 ∷ 0 ∷ []) ∷ (0 ∷ 0 ∷ []) ∷ (1 ∷ 0 ∷ []) ∷ (2 ∷ 0 ∷ []) ∷ [];
      } ∷
      record {
        events = tried 1 1 0 2 0 0 ReadOnly ∷ tried 2 1 0 2 0 0 ReadOnly ∷ tried 3 1 0 1 0 0 (Locked (lock 1 0 0 0)) ∷
            unbegun 3 2 (Again 1 0 1) ∷ tried 3 3 1 1 1 0 (Full (lock 1 0 0 0)) ∷
            tried 3 4 1 1 0 0 (Locked (lock 1 0 1 1)) ∷ tried 3 5 1 0 0 0 Cut ∷ [];
        reads = item 0 0 (Some (0 ∷ [])) ∷ item 0 0 (Some (0 ∷ [])) ∷ item 1 1 None ∷ item 0 0 (Some (0 ∷ [])) ∷
            item 1 0 (Some (3 ∷ [])) ∷ item 1 0 (Some (25 ∷ [])) ∷ item 1 0 (Some (25 ∷ [])) ∷ [];
        locks = lock 1 0 1 1 ∷ [];
        writes = [];
        snaps = (0 ∷ 0 ∷ []) ∷ (0 ∷ 0 ∷ []) ∷ (0 ∷ 0 ∷ []) ∷ (1 ∷ 0 ∷ []) ∷ (1 ∷ 0 ∷ []) ∷ (1 ∷ 0 ∷ []) ∷ [];
      } ∷
      [];
  audit = [];
}
unfolding of_random_39 stint_workers picked after_workers until_ended settle copies load_from
random_39 = refl
