-- Guards and held headers, simulated.
use Rattle.std.proofs.Common.{◌≡◌, true, false, [], ◌∷◌, Some, refl}
use Rattle.si_model.specs.declared.op.Op.TheVariants.{Put, Add, Need, Guard}
use Rattle.si_model.specs.declared.log.Outcome.TheVariants.{Commit, Newer}
use Rattle.nam_catalog.specs.declared.form.Form.TheVariants.{Narrow, Held}
use Rattle.nam_protocol.specs.Schedule.{Scenario, Stints, stint_workers, picked, after_workers, until_ended}
use Rattle.nam_protocol.specs.Session.{settle}
use Rattle.nam_protocol.specs.Opening.{copies, load_from}
use Rattle.nam_protocol.proofs.Shown.{shape, table, loaded, txn, stint, item, row, lock, tried, shown}

unfoldable of_held_headers : Scenario
of_held_headers = record {
  shape = shape Held 2 (table 1 4 2 ∷ []) 1 1 0;
  rows = loaded 0 0 (100 ∷ []) ∷ [];
  policy = record { tries = 2; tidy = false };
  txns = txn 1 (Add 0 0 1 true 5 ∷ []) ∷ txn 2 (Add 0 0 1 true 7 ∷ []) ∷ [];
  schedule = Stints (stint 1 4 ∷ stint 2 4 ∷ stint 1 18 ∷ []);
}

-- headers that name who holds a lock
held_headers : shown of_held_headers [] ≡ record {
  logs =
      record {
        events = tried 1 1 0 1 1 1 (Commit 1) ∷ [];
        reads = item 0 0 (Some (100 ∷ [])) ∷ [];
        locks = lock 0 0 0 0 ∷ [];
        writes = item 0 0 (Some (105 ∷ [])) ∷ [];
        snaps = (0 ∷ 0 ∷ []) ∷ [];
      } ∷
      record {
        events = tried 2 1 0 1 0 0 (Newer (lock 0 0 1 1)) ∷ tried 2 2 1 1 1 1 (Commit 1) ∷ [];
        reads = item 0 0 (Some (100 ∷ [])) ∷ item 0 0 (Some (105 ∷ [])) ∷ [];
        locks = lock 0 0 1 1 ∷ [];
        writes = item 0 0 (Some (112 ∷ [])) ∷ [];
        snaps = (0 ∷ 0 ∷ []) ∷ (1 ∷ 0 ∷ []) ∷ [];
      } ∷
      [];
  audit = row 0 0 (Some (112 ∷ [])) false ∷ [];
}
unfolding of_held_headers stint_workers picked after_workers until_ended settle copies load_from
held_headers = refl

unfoldable of_guards_forbid_skew : Scenario
of_guards_forbid_skew = record {
  shape = shape Narrow 2 (table 1 4 2 ∷ []) 1 1 0;
  rows = loaded 0 0 (60 ∷ []) ∷ loaded 0 1 (60 ∷ []) ∷ [];
  policy = record { tries = 1; tidy = false };
  txns = txn 1 (Need 0 0 1 60 ∷ Need 0 1 1 60 ∷ Guard 0 1 ∷ Add 0 0 1 false 60 ∷ []) ∷ txn 2
      (Need 0 0 1 60 ∷ Need 0 1 1 60 ∷ Guard 0 0 ∷
      Add 0 1 1 false 60 ∷ []) ∷ [];
  schedule = Stints (stint 1 4 ∷ stint 2 4 ∷ stint 1 34 ∷ []);
}

-- each guards what the other writes
guards_forbid_skew : shown of_guards_forbid_skew [] ≡ record {
  logs =
      record {
        events = tried 1 1 0 4 2 1 (Commit 1) ∷ [];
        reads = item 0 0 (Some (60 ∷ [])) ∷ item 0 1 (Some (60 ∷ [])) ∷ item 0 1 (Some (60 ∷ [])) ∷ item 0 0
            (Some (60 ∷ [])) ∷ [];
        locks = lock 0 0 0 0 ∷ lock 0 1 0 0 ∷ [];
        writes = item 0 0 (Some (0 ∷ [])) ∷ [];
        snaps = (0 ∷ 0 ∷ []) ∷ [];
      } ∷
      record {
        events = tried 2 1 0 4 1 0 (Newer (lock 0 0 1 1)) ∷ [];
        reads = item 0 0 (Some (60 ∷ [])) ∷ item 0 1 (Some (60 ∷ [])) ∷ item 0 0 (Some (60 ∷ [])) ∷ item 0 1
            (Some (60 ∷ [])) ∷ [];
        locks = lock 0 1 0 0 ∷ [];
        writes = [];
        snaps = (0 ∷ 0 ∷ []) ∷ [];
      } ∷
      [];
  audit = row 0 0 (Some (0 ∷ [])) false ∷ row 0 1 (Some (60 ∷ [])) false ∷ [];
}
unfolding of_guards_forbid_skew stint_workers picked after_workers until_ended settle copies load_from
guards_forbid_skew = refl

unfoldable of_order_under_guards : Scenario
of_order_under_guards = record {
  shape = shape Narrow 2 (table 1 4 2 ∷ []) 1 1 0;
  rows = loaded 0 0 (60 ∷ []) ∷ loaded 0 1 (60 ∷ []) ∷ [];
  policy = record { tries = 1; tidy = false };
  txns = txn 2 (Guard 0 0 ∷ Put 0 1 (1 ∷ []) ∷ []) ∷ txn 1 (Put 0 0 (9 ∷ []) ∷ []) ∷ [];
  schedule = Stints (stint 1 4 ∷ stint 2 26 ∷ []);
}

-- a guard of a key that the other then writes
order_under_guards : shown of_order_under_guards [] ≡ record {
  logs =
      record {
        events = tried 2 1 0 0 1 1 (Commit 1) ∷ [];
        reads = [];
        locks = lock 0 0 0 0 ∷ [];
        writes = item 0 0 (Some (9 ∷ [])) ∷ [];
        snaps = (0 ∷ 0 ∷ []) ∷ [];
      } ∷
      record {
        events = tried 1 1 0 1 2 1 (Commit 1) ∷ [];
        reads = item 0 0 (Some (60 ∷ [])) ∷ [];
        locks = lock 0 1 0 0 ∷ lock 0 0 0 0 ∷ [];
        writes = item 0 1 (Some (1 ∷ [])) ∷ [];
        snaps = (0 ∷ 0 ∷ []) ∷ [];
      } ∷
      [];
  audit = row 0 0 (Some (9 ∷ [])) false ∷ row 0 1 (Some (1 ∷ [])) false ∷ [];
}
unfolding of_order_under_guards stint_workers picked after_workers until_ended settle copies load_from
order_under_guards = refl
