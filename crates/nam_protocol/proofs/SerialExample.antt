-- One worker alone, simulated.
use Rattle.std.proofs.Common.{◌≡◌, true, false, [], ◌∷◌, Some, None, refl}
use Rattle.si_model.specs.declared.op.Op.TheVariants.{Get, Put, Add, Del, Need}
use Rattle.si_model.specs.declared.log.Outcome.TheVariants.{Commit, ReadOnly, Declined, NoSpace, Spent}
use Rattle.nam_catalog.specs.declared.form.Form.TheVariants.{Narrow, Wide}
use Rattle.nam_protocol.specs.Schedule.{Scenario, Stints, stint_workers, picked, after_workers, until_ended}
use Rattle.nam_protocol.specs.Session.{settle}
use Rattle.nam_protocol.specs.Opening.{copies, load_from}
use Rattle.nam_protocol.proofs.Shown.{shape, table, loaded, txn, item, row, lock, tried, shown}

unfoldable of_transfer : Scenario
of_transfer = record {
  shape = shape Narrow 1 (table 1 2 1 ∷ []) 1 1 0;
  rows = loaded 0 0 (100 ∷ []) ∷ loaded 0 1 (0 ∷ []) ∷ [];
  policy = record { tries = 1; tidy = false };
  txns = txn 1 (Need 0 0 1 10 ∷ Add 0 0 1 false 10 ∷ Add 0 1 1 true 10 ∷ []) ∷ [];
  schedule = Stints ([]);
}

-- an amount from one account to another
transfer : shown of_transfer [] ≡ record {
  logs =
      record {
        events = tried 1 1 0 3 2 2 (Commit 1) ∷ [];
        reads = item 0 0 (Some (100 ∷ [])) ∷ item 0 0 (Some (100 ∷ [])) ∷ item 0 1 (Some (0 ∷ [])) ∷ [];
        locks = lock 0 0 0 0 ∷ lock 0 1 0 0 ∷ [];
        writes = item 0 0 (Some (90 ∷ [])) ∷ item 0 1 (Some (10 ∷ [])) ∷ [];
        snaps = (0 ∷ []) ∷ [];
      } ∷
      [];
  audit = row 0 0 (Some (90 ∷ [])) false ∷ row 0 1 (Some (10 ∷ [])) false ∷ [];
}
unfolding of_transfer stint_workers picked after_workers until_ended settle copies load_from
transfer = refl

unfoldable of_one_row : Scenario
of_one_row = record {
  shape = shape Narrow 1 (table 1 1 1 ∷ []) 1 1 0;
  rows = loaded 0 0 (7 ∷ []) ∷ [];
  policy = record { tries = 1; tidy = false };
  txns = [];
  schedule = Stints ([]);
}

-- no transaction
one_row : shown of_one_row [] ≡ record {
  logs =
      record {
        events = [];
        reads = [];
        locks = [];
        writes = [];
        snaps = [];
      } ∷
      [];
  audit = row 0 0 (Some (7 ∷ [])) false ∷ [];
}
unfolding of_one_row stint_workers picked after_workers until_ended settle copies load_from
one_row = refl

unfoldable of_absent_key : Scenario
of_absent_key = record {
  shape = shape Narrow 1 (table 1 1 1 ∷ []) 1 1 0;
  rows = loaded 0 0 (7 ∷ []) ∷ [];
  policy = record { tries = 1; tidy = false };
  txns = txn 1 (Get 0 0 ∷ Get 0 5 ∷ []) ∷ [];
  schedule = Stints ([]);
}

-- a get of a key that is not there
absent_key : shown of_absent_key [] ≡ record {
  logs =
      record {
        events = tried 1 1 0 2 0 0 ReadOnly ∷ [];
        reads = item 0 0 (Some (7 ∷ [])) ∷ item 0 5 None ∷ [];
        locks = [];
        writes = [];
        snaps = (0 ∷ []) ∷ [];
      } ∷
      [];
  audit = row 0 0 (Some (7 ∷ [])) false ∷ [];
}
unfolding of_absent_key stint_workers picked after_workers until_ended settle copies load_from
absent_key = refl

unfoldable of_numbers_are_spent : Scenario
of_numbers_are_spent = record {
  shape = shape Narrow 1 (table 1 1 1 ∷ []) 1 1 4294967294;
  rows = loaded 0 0 (1 ∷ []) ∷ [];
  policy = record { tries = 1; tidy = false };
  txns = txn 1 (Put 0 0 (2 ∷ []) ∷ []) ∷ txn 1 (Put 0 0 (3 ∷ []) ∷ []) ∷ txn 1 (Get 0 0 ∷ []) ∷ [];
  schedule = Stints ([]);
}

-- the greatest commit number is reached
numbers_are_spent : shown of_numbers_are_spent [] ≡ record {
  logs =
      record {
        events = tried 1 1 0 0 1 1 (Commit 4294967295) ∷ tried 2 1 1 0 0 0 Spent ∷ tried 3 1 1 1 0 0 ReadOnly ∷ [];
        reads = item 0 0 (Some (2 ∷ [])) ∷ [];
        locks = lock 0 0 0 0 ∷ [];
        writes = item 0 0 (Some (2 ∷ [])) ∷ [];
        snaps = (4294967294 ∷ []) ∷ (4294967295 ∷ []) ∷ (4294967295 ∷ []) ∷ [];
      } ∷
      [];
  audit = row 0 0 (Some (2 ∷ [])) false ∷ [];
}
unfolding of_numbers_are_spent stint_workers picked after_workers until_ended settle copies load_from
numbers_are_spent = refl

unfoldable of_delete_and_put : Scenario
of_delete_and_put = record {
  shape = shape Narrow 1 (table 2 2 4 ∷ []) 1 1 0;
  rows = loaded 0 0 (1 ∷ 2 ∷ []) ∷ [];
  policy = record { tries = 1; tidy = false };
  txns = txn 1 (Del 0 0 ∷ Get 0 0 ∷ []) ∷ txn 1
      (Get 0 0 ∷ Put 0 0 (3 ∷ 4 ∷ []) ∷ Put 0 0 (5 ∷ 6 ∷ []) ∷ Get 0 0 ∷ []) ∷ [];
  schedule = Stints ([]);
}

-- a deletion, and a put of the deleted key
delete_and_put : shown of_delete_and_put [] ≡ record {
  logs =
      record {
        events = tried 1 1 0 1 1 1 (Commit 1) ∷ tried 2 1 1 2 1 1 (Commit 2) ∷ [];
        reads = item 0 0 None ∷ item 0 0 None ∷ item 0 0 (Some (5 ∷ 6 ∷ [])) ∷ [];
        locks = lock 0 0 0 0 ∷ lock 0 0 1 1 ∷ [];
        writes = item 0 0 None ∷ item 0 0 (Some (5 ∷ 6 ∷ [])) ∷ [];
        snaps = (0 ∷ []) ∷ (1 ∷ []) ∷ [];
      } ∷
      [];
  audit = row 0 0 (Some (5 ∷ 6 ∷ [])) false ∷ [];
}
unfolding of_delete_and_put stint_workers picked after_workers until_ended settle copies load_from
delete_and_put = refl

unfoldable of_table_has_no_space : Scenario
of_table_has_no_space = record {
  shape = shape Narrow 1 (table 1 2 1 ∷ []) 1 1 0;
  rows = loaded 0 0 (1 ∷ []) ∷ loaded 0 1 (1 ∷ []) ∷ [];
  policy = record { tries = 1; tidy = false };
  txns = txn 1 (Get 0 2 ∷ Put 0 2 (9 ∷ []) ∷ []) ∷ [];
  schedule = Stints ([]);
}

-- every position bears another key
table_has_no_space : shown of_table_has_no_space [] ≡ record {
  logs =
      record {
        events = tried 1 1 0 1 0 0 (NoSpace 0) ∷ [];
        reads = item 0 2 None ∷ [];
        locks = [];
        writes = [];
        snaps = (0 ∷ []) ∷ [];
      } ∷
      [];
  audit = row 0 0 (Some (1 ∷ [])) false ∷ row 0 1 (Some (1 ∷ [])) false ∷ [];
}
unfolding of_table_has_no_space stint_workers picked after_workers until_ended settle copies load_from
table_has_no_space = refl

unfoldable of_declined : Scenario
of_declined = record {
  shape = shape Narrow 1 (table 1 1 1 ∷ []) 1 1 0;
  rows = loaded 0 0 (5 ∷ []) ∷ [];
  policy = record { tries = 1; tidy = false };
  txns = txn 1 (Need 0 0 1 6 ∷ []) ∷ txn 1 (Add 0 0 1 true 18446744073709551615 ∷ []) ∷ txn 1
      (Add 0 0 1 false 6 ∷ []) ∷ [];
  schedule = Stints ([]);
}

-- a need that is not met, and changes beyond the limits
declined : shown of_declined [] ≡ record {
  logs =
      record {
        events = tried 1 1 0 1 0 0 (Declined 1) ∷ tried 2 1 0 1 0 0 (Declined 1) ∷ tried 3 1 0 1 0 0 (Declined 1) ∷ [];
        reads = item 0 0 (Some (5 ∷ [])) ∷ item 0 0 (Some (5 ∷ [])) ∷ item 0 0 (Some (5 ∷ [])) ∷ [];
        locks = [];
        writes = [];
        snaps = (0 ∷ []) ∷ (0 ∷ []) ∷ (0 ∷ []) ∷ [];
      } ∷
      [];
  audit = row 0 0 (Some (5 ∷ [])) false ∷ [];
}
unfolding of_declined stint_workers picked after_workers until_ended settle copies load_from
declined = refl

unfoldable of_wide_numbers : Scenario
of_wide_numbers = record {
  shape = shape Wide 1 (table 1 1 1 ∷ []) 1 1 35184372088830;
  rows = loaded 0 0 (1 ∷ []) ∷ [];
  policy = record { tries = 1; tidy = false };
  txns = txn 1 (Put 0 0 (2 ∷ []) ∷ []) ∷ txn 1 (Put 0 0 (3 ∷ []) ∷ []) ∷ txn 1 (Get 0 0 ∷ []) ∷ [];
  schedule = Stints ([]);
}

-- the greatest commit number of the form Wide
wide_numbers : shown of_wide_numbers [] ≡ record {
  logs =
      record {
        events = tried 1 1 0 0 1 1 (Commit 35184372088831) ∷ tried 2 1 1 0 0 0 Spent ∷ tried 3 1 1 1 0 0 ReadOnly ∷ [];
        reads = item 0 0 (Some (2 ∷ [])) ∷ [];
        locks = lock 0 0 0 0 ∷ [];
        writes = item 0 0 (Some (2 ∷ [])) ∷ [];
        snaps = (35184372088830 ∷ []) ∷ (35184372088831 ∷ []) ∷ (35184372088831 ∷ []) ∷ [];
      } ∷
      [];
  audit = row 0 0 (Some (2 ∷ [])) false ∷ [];
}
unfolding of_wide_numbers stint_workers picked after_workers until_ended settle copies load_from
wide_numbers = refl
