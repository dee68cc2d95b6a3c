-- Random scripts of an independent simulator.
use Rattle.std.proofs.Common.{◌≡◌, true, false, [], ◌∷◌, Some, None, refl}
use Rattle.nam_catalog.specs.declared.form.Form.TheVariants.{Narrow, Wide}
use Rattle.si_model.specs.declared.op.Op.TheVariants.{Get, Put, Add, Del, Need, Guard}
use Rattle.si_model.specs.declared.log.Outcome.TheVariants.{Commit, ReadOnly, Declined, NoSpace, Spent, Locked, Newer}
use Rattle.si_model.specs.declared.log.Outcome.TheVariants.{Full, Cut}
use Rattle.si_model.specs.declared.log.Event.TheVariants.{NoRoom, Collected, TidyCut}
use Rattle.nam_protocol.specs.Schedule.{Scenario, Stints, stint_workers, picked, after_workers, until_ended}
use Rattle.nam_protocol.specs.Session.{settle}
use Rattle.nam_protocol.specs.Opening.{copies, load_from}
use Rattle.nam_protocol.proofs.Shown.{shape, table, loaded, txn, stint, up, fuse, item, row, lock, tried, unbegun, move}
use Rattle.nam_protocol.proofs.Shown.{move_done, move_back, shown}

unfoldable of_random_1 : Scenario
of_random_1 = record {
  shape = shape Narrow 2 (table 2 1 2 ∷ table 1 5 4 ∷ []) 1 3 0;
  rows = loaded 0 0 (8 ∷ 5 ∷ []) ∷ loaded 1 3 (20 ∷ []) ∷ loaded 1 2 (0 ∷ []) ∷ loaded 1 0 (6 ∷ []) ∷ [];
  policy = record { tries = 5; tidy = true };
  txns = txn 1 (Guard 0 0 ∷ Add 1 0 1 true 4 ∷ Del 1 3 ∷ Del 0 0 ∷ []) ∷ txn 1 (Del 1 18446744073709551613 ∷ []) ∷
      txn 2 (Add 1 2 1 true 1 ∷ Del 1 4 ∷ Add 0 0 1 true 1 ∷ []) ∷ [];
  schedule = Stints (stint 1 89 ∷ stint 2 75 ∷ stint 1 33 ∷ stint 1 2 ∷ stint 1 71 ∷ stint 1 55 ∷ stint 1 2 ∷
      stint 1 36 ∷ []);
}

random_1 : shown of_random_1 (up ∷ fuse 56 ∷ []) ≡ record {
  logs =
      record {
        events = tried 1 1 0 2 3 3 (Commit 1) ∷ tried 2 1 1 0 1 1 (Commit 2) ∷ [];
        reads = item 0 0 (Some (8 ∷ 5 ∷ [])) ∷ item 1 0 (Some (6 ∷ [])) ∷ [];
        locks = lock 1 0 0 0 ∷ lock 1 3 0 0 ∷ lock 0 0 0 0 ∷ lock 1 18446744073709551613 0 0 ∷ [];
        writes = item 1 0 (Some (10 ∷ [])) ∷ item 1 3 None ∷ item 0 0 None ∷ item 1 18446744073709551613 None ∷ [];
        snaps = (0 ∷ 0 ∷ []) ∷ (1 ∷ 0 ∷ []) ∷ [];
      } ∷
      record {
        events = tried 3 1 2 2 3 3 (Commit 1) ∷ TidyCut 1 2 ∷ [];
        reads = item 1 2 (Some (0 ∷ [])) ∷ item 0 0 None ∷ [];
        locks = lock 1 2 0 0 ∷ lock 1 4 0 0 ∷ lock 0 0 1 1 ∷ [];
        writes = item 1 2 (Some (1 ∷ [])) ∷ item 1 4 None ∷ item 0 0 (Some (1 ∷ 0 ∷ [])) ∷ [];
        snaps = (2 ∷ 0 ∷ []) ∷ [];
      } ∷
      [];
  audit = row 0 0 (Some (1 ∷ 0 ∷ [])) false ∷ row 1 0 (Some (10 ∷ [])) false ∷ row 1 2 (Some (1 ∷ [])) false ∷ [];
}
unfolding of_random_1 stint_workers picked after_workers until_ended settle copies load_from
random_1 = refl

unfoldable of_random_2 : Scenario
of_random_2 = record {
  shape = shape Narrow 3 (table 2 2 1 ∷ []) 1 1 0;
  rows = loaded 0 15 (3 ∷ 44 ∷ []) ∷ loaded 0 2 (18446744073709551613 ∷ 5 ∷ []) ∷ [];
  policy = record { tries = 5; tidy = true };
  txns = txn 1 (Add 0 0 2 false 1 ∷ Get 0 15 ∷ []) ∷
      txn 3 (Get 0 0 ∷ Get 0 15 ∷ Get 0 0 ∷ Add 0 0 1 true 0 ∷ Put 0 15 (4 ∷ 92 ∷ []) ∷ Guard 0 15 ∷ Add 0 2 1 true 1 ∷
      []) ∷ txn 1 (Put 0 0 (5 ∷ 9 ∷ []) ∷ Guard 0 2 ∷ []) ∷ txn 1 (Get 0 2 ∷ Get 0 2 ∷ []) ∷ [];
  schedule = Stints (stint 1 1 ∷ stint 1 1 ∷ stint 1 1 ∷ stint 2 1 ∷ stint 2 1 ∷ stint 2 1 ∷ stint 1 1 ∷ stint 1 1 ∷
      stint 1 1 ∷ stint 1 1 ∷ stint 2 1 ∷ stint 2 1 ∷ stint 3 1 ∷ stint 2 1 ∷ stint 1 1 ∷ stint 2 1 ∷ stint 1 1 ∷
      stint 2 1 ∷ stint 3 1 ∷ stint 1 1 ∷ stint 2 1 ∷ stint 2 1 ∷ stint 2 1 ∷ stint 1 1 ∷ stint 3 1 ∷ stint 3 1 ∷
      stint 3 1 ∷ stint 2 1 ∷ stint 3 1 ∷ stint 1 1 ∷ stint 3 1 ∷ stint 3 1 ∷ stint 1 1 ∷ stint 1 1 ∷ stint 3 1 ∷
      stint 2 1 ∷ stint 2 1 ∷ stint 3 1 ∷ stint 1 1 ∷ stint 2 1 ∷ stint 3 1 ∷ stint 1 1 ∷ stint 1 1 ∷ stint 2 1 ∷
      stint 3 1 ∷ stint 2 1 ∷ stint 2 1 ∷ stint 1 1 ∷ stint 3 1 ∷ stint 3 1 ∷ stint 3 1 ∷ stint 1 1 ∷ stint 3 1 ∷
      stint 3 1 ∷ stint 2 1 ∷ stint 1 1 ∷ stint 1 1 ∷ stint 1 1 ∷ stint 3 1 ∷ stint 3 1 ∷ stint 1 1 ∷ stint 3 1 ∷
      stint 3 1 ∷ stint 1 1 ∷ stint 2 1 ∷ stint 3 1 ∷ stint 1 1 ∷ stint 3 1 ∷ stint 1 1 ∷ stint 3 1 ∷ stint 1 1 ∷
      stint 3 1 ∷ stint 2 1 ∷ stint 1 1 ∷ stint 2 1 ∷ stint 1 1 ∷ stint 2 1 ∷ stint 3 1 ∷ stint 2 1 ∷ stint 2 1 ∷
      stint 2 1 ∷ stint 2 1 ∷ stint 3 1 ∷ stint 1 1 ∷ stint 1 1 ∷ stint 1 1 ∷ stint 3 1 ∷ stint 3 1 ∷ stint 1 1 ∷
      stint 3 1 ∷ stint 3 1 ∷ stint 2 1 ∷ stint 3 1 ∷ stint 3 1 ∷ stint 1 1 ∷ stint 1 1 ∷ stint 1 1 ∷ stint 3 1 ∷
      stint 2 1 ∷ stint 2 1 ∷ stint 3 1 ∷ stint 2 1 ∷ stint 2 1 ∷ stint 1 1 ∷ stint 3 1 ∷ stint 2 1 ∷ stint 2 1 ∷
      stint 3 1 ∷ stint 2 1 ∷ stint 1 1 ∷ stint 1 1 ∷ stint 2 1 ∷ stint 1 1 ∷ stint 1 1 ∷ stint 2 1 ∷ stint 2 1 ∷
      stint 2 1 ∷ stint 3 1 ∷ stint 2 1 ∷ stint 2 1 ∷ stint 3 1 ∷ stint 2 1 ∷ stint 3 1 ∷ stint 1 1 ∷ stint 2 1 ∷
      stint 2 1 ∷ stint 3 1 ∷ stint 3 1 ∷ stint 3 1 ∷ stint 3 1 ∷ stint 2 1 ∷ stint 2 1 ∷ stint 2 1 ∷ stint 2 1 ∷
      stint 2 1 ∷ stint 3 1 ∷ stint 3 1 ∷ stint 3 1 ∷ stint 1 1 ∷ stint 2 1 ∷ stint 3 1 ∷ stint 1 1 ∷ stint 2 1 ∷
      stint 2 1 ∷ stint 2 1 ∷ stint 1 1 ∷ stint 3 1 ∷ stint 3 1 ∷ stint 3 1 ∷ stint 2 1 ∷ stint 2 1 ∷ stint 1 1 ∷
      stint 1 1 ∷ stint 3 1 ∷ stint 1 1 ∷ stint 2 1 ∷ stint 1 1 ∷ stint 1 1 ∷ stint 3 1 ∷ stint 3 1 ∷ stint 1 1 ∷
      stint 2 1 ∷ stint 1 1 ∷ stint 3 1 ∷ stint 3 1 ∷ stint 3 1 ∷ stint 1 1 ∷ stint 2 1 ∷ stint 2 1 ∷ stint 2 1 ∷
      stint 1 1 ∷ stint 1 1 ∷ stint 2 1 ∷ stint 1 1 ∷ stint 2 1 ∷ stint 1 1 ∷ stint 1 1 ∷ stint 1 1 ∷ stint 3 1 ∷
      stint 1 1 ∷ stint 2 1 ∷ stint 1 1 ∷ stint 3 1 ∷ stint 2 1 ∷ stint 2 1 ∷ stint 2 1 ∷ stint 3 1 ∷ stint 1 1 ∷
      stint 1 1 ∷ stint 1 1 ∷ stint 2 1 ∷ stint 3 1 ∷ stint 2 1 ∷ stint 3 1 ∷ stint 1 1 ∷ stint 1 1 ∷ stint 1 1 ∷
      stint 2 1 ∷ stint 1 1 ∷ stint 1 1 ∷ stint 2 1 ∷ stint 3 1 ∷ stint 2 1 ∷ stint 3 1 ∷ stint 2 1 ∷ stint 3 1 ∷
      stint 2 1 ∷ stint 2 1 ∷ stint 3 1 ∷ stint 1 1 ∷ stint 1 1 ∷ stint 3 1 ∷ stint 1 1 ∷ stint 2 1 ∷ stint 3 1 ∷
      stint 3 1 ∷ stint 3 1 ∷ stint 1 1 ∷ stint 3 1 ∷ stint 3 1 ∷ stint 1 1 ∷ stint 1 1 ∷ stint 1 1 ∷ stint 2 1 ∷
      stint 1 1 ∷ stint 1 1 ∷ stint 2 1 ∷ stint 3 1 ∷ stint 1 1 ∷ stint 3 1 ∷ stint 1 1 ∷ stint 1 1 ∷ stint 3 1 ∷
      stint 1 1 ∷ stint 1 1 ∷ stint 3 1 ∷ stint 1 1 ∷ stint 3 1 ∷ stint 1 1 ∷ stint 3 1 ∷ stint 3 1 ∷ stint 2 1 ∷
      stint 2 1 ∷ stint 3 1 ∷ stint 1 1 ∷ stint 1 1 ∷ stint 3 1 ∷ stint 1 1 ∷ stint 3 1 ∷ stint 2 1 ∷ stint 1 1 ∷
      stint 2 1 ∷ stint 3 1 ∷ stint 1 1 ∷ stint 2 1 ∷ stint 3 1 ∷ stint 2 1 ∷ stint 3 1 ∷ stint 1 1 ∷ stint 3 1 ∷
      stint 3 1 ∷ stint 2 1 ∷ stint 3 1 ∷ stint 1 1 ∷ stint 3 1 ∷ stint 1 1 ∷ stint 1 1 ∷ stint 1 1 ∷ stint 2 1 ∷
      stint 1 1 ∷ stint 1 1 ∷ stint 2 1 ∷ stint 1 1 ∷ stint 2 1 ∷ stint 3 1 ∷ stint 3 1 ∷ stint 3 1 ∷ stint 3 1 ∷
      stint 1 1 ∷ stint 3 1 ∷ stint 3 1 ∷ stint 3 1 ∷ stint 3 1 ∷ stint 2 1 ∷ stint 2 1 ∷ stint 2 1 ∷ stint 2 1 ∷
      stint 3 1 ∷ stint 2 1 ∷ stint 1 1 ∷ stint 1 1 ∷ stint 3 1 ∷ stint 3 1 ∷ stint 1 1 ∷ stint 3 1 ∷ stint 2 1 ∷
      stint 3 1 ∷ stint 3 1 ∷ stint 2 1 ∷ stint 3 1 ∷ stint 2 1 ∷ stint 2 1 ∷ stint 1 1 ∷ stint 2 1 ∷ stint 3 1 ∷
      stint 2 1 ∷ stint 2 1 ∷ stint 3 1 ∷ stint 2 1 ∷ stint 2 1 ∷ stint 1 1 ∷ stint 2 1 ∷ stint 3 1 ∷ stint 3 1 ∷
      stint 1 1 ∷ stint 1 1 ∷ stint 1 1 ∷ stint 2 1 ∷ stint 2 1 ∷ stint 3 1 ∷ stint 3 1 ∷ stint 1 1 ∷ stint 3 1 ∷
      stint 1 1 ∷ stint 1 1 ∷ stint 2 1 ∷ stint 3 1 ∷ stint 2 1 ∷ stint 2 1 ∷ stint 2 1 ∷ stint 3 1 ∷ stint 2 1 ∷
      stint 1 1 ∷ stint 1 1 ∷ stint 1 1 ∷ stint 2 1 ∷ stint 3 1 ∷ stint 3 1 ∷ stint 1 1 ∷ stint 1 1 ∷ stint 3 1 ∷
      stint 3 1 ∷ stint 1 1 ∷ stint 2 1 ∷ stint 2 1 ∷ stint 2 1 ∷ stint 2 1 ∷ stint 2 1 ∷ stint 2 1 ∷ stint 3 1 ∷
      stint 1 1 ∷ stint 3 1 ∷ stint 1 1 ∷ stint 1 1 ∷ stint 1 1 ∷ stint 1 1 ∷ stint 1 1 ∷ stint 1 1 ∷ stint 2 1 ∷
      stint 1 1 ∷ stint 2 1 ∷ stint 2 1 ∷ stint 2 1 ∷ stint 2 1 ∷ stint 1 1 ∷ stint 1 1 ∷ stint 2 1 ∷ stint 1 1 ∷
      stint 1 1 ∷ stint 2 1 ∷ stint 3 1 ∷ stint 3 1 ∷ stint 3 1 ∷ stint 2 1 ∷ stint 3 1 ∷ stint 2 1 ∷ stint 1 1 ∷
      stint 3 1 ∷ stint 2 1 ∷ stint 3 1 ∷ stint 3 1 ∷ stint 1 1 ∷ stint 2 1 ∷ stint 3 1 ∷ stint 3 1 ∷ stint 3 1 ∷
      stint 2 1 ∷ stint 1 1 ∷ stint 3 1 ∷ stint 1 1 ∷ stint 2 1 ∷ stint 2 1 ∷ stint 2 1 ∷ stint 1 1 ∷ stint 2 1 ∷
      stint 2 1 ∷ stint 1 1 ∷ stint 2 1 ∷ stint 1 1 ∷ stint 2 1 ∷ stint 3 1 ∷ stint 2 1 ∷ stint 1 1 ∷ stint 1 1 ∷
      stint 3 1 ∷ stint 2 1 ∷ stint 3 1 ∷ stint 2 1 ∷ stint 3 1 ∷ stint 3 1 ∷ stint 3 1 ∷ stint 1 1 ∷ stint 3 1 ∷
      stint 1 1 ∷ stint 3 1 ∷ stint 1 1 ∷ stint 3 1 ∷ stint 1 1 ∷ stint 3 1 ∷ stint 2 1 ∷ stint 1 1 ∷ stint 1 1 ∷
      stint 1 1 ∷ stint 1 1 ∷ stint 1 1 ∷ stint 3 1 ∷ stint 3 1 ∷ stint 3 1 ∷ stint 3 1 ∷ stint 2 1 ∷ stint 3 1 ∷
      stint 3 1 ∷ stint 3 1 ∷ stint 1 1 ∷ stint 3 1 ∷ stint 1 1 ∷ stint 2 1 ∷ stint 3 1 ∷ stint 3 1 ∷ stint 2 1 ∷
      stint 1 1 ∷ stint 3 1 ∷ stint 2 1 ∷ stint 1 1 ∷ stint 3 1 ∷ stint 2 1 ∷ stint 3 1 ∷ stint 3 1 ∷ stint 2 1 ∷
      stint 1 1 ∷ stint 3 1 ∷ stint 1 1 ∷ stint 1 1 ∷ stint 3 1 ∷ stint 1 1 ∷ stint 3 1 ∷ stint 1 1 ∷ stint 2 1 ∷
      stint 2 1 ∷ stint 3 1 ∷ stint 2 1 ∷ stint 3 1 ∷ stint 1 1 ∷ stint 2 1 ∷ stint 3 1 ∷ stint 3 1 ∷ stint 2 1 ∷
      stint 3 1 ∷ stint 1 1 ∷ stint 3 1 ∷ stint 3 1 ∷ stint 2 1 ∷ stint 1 1 ∷ stint 1 1 ∷ stint 2 1 ∷ stint 1 1 ∷
      stint 2 1 ∷ stint 1 1 ∷ stint 2 1 ∷ stint 1 1 ∷ stint 2 1 ∷ stint 2 1 ∷ stint 3 1 ∷ stint 3 1 ∷ stint 3 1 ∷
      stint 1 1 ∷ stint 2 1 ∷ stint 2 1 ∷ stint 3 1 ∷ stint 3 1 ∷ stint 2 1 ∷ stint 3 1 ∷ stint 1 1 ∷ stint 1 1 ∷
      stint 2 1 ∷ stint 3 1 ∷ stint 2 1 ∷ stint 3 1 ∷ stint 1 1 ∷ stint 2 1 ∷ stint 3 1 ∷ stint 3 1 ∷ stint 3 1 ∷
      stint 2 1 ∷ stint 1 1 ∷ stint 2 1 ∷ stint 2 1 ∷ stint 2 1 ∷ stint 1 1 ∷ stint 1 1 ∷ stint 1 1 ∷ stint 1 1 ∷
      stint 1 1 ∷ stint 1 1 ∷ stint 2 1 ∷ stint 1 1 ∷ stint 2 1 ∷ stint 1 1 ∷ stint 1 1 ∷ stint 2 1 ∷ stint 1 1 ∷
      stint 1 1 ∷ stint 3 1 ∷ stint 1 1 ∷ stint 1 1 ∷ stint 1 1 ∷ stint 1 1 ∷ stint 1 1 ∷ stint 1 1 ∷ stint 1 1 ∷
      stint 2 1 ∷ stint 2 1 ∷ stint 3 1 ∷ stint 3 1 ∷ stint 1 1 ∷ stint 3 1 ∷ stint 2 1 ∷ stint 1 1 ∷ stint 1 1 ∷
      stint 3 1 ∷ stint 2 1 ∷ stint 1 1 ∷ stint 3 1 ∷ stint 1 1 ∷ stint 1 1 ∷ stint 3 1 ∷ stint 2 1 ∷ stint 1 1 ∷
      stint 3 1 ∷ stint 1 1 ∷ stint 3 1 ∷ stint 1 1 ∷ stint 3 1 ∷ stint 2 1 ∷ stint 3 1 ∷ stint 3 1 ∷ stint 2 1 ∷
      stint 2 1 ∷ stint 2 1 ∷ stint 2 1 ∷ stint 1 1 ∷ stint 3 1 ∷ stint 3 1 ∷ stint 1 1 ∷ stint 3 1 ∷ stint 3 1 ∷
      stint 1 1 ∷ stint 1 1 ∷ stint 2 1 ∷ stint 2 1 ∷ stint 1 1 ∷ stint 2 1 ∷ stint 2 1 ∷ stint 3 1 ∷ stint 3 1 ∷
      stint 2 1 ∷ stint 3 1 ∷ stint 3 1 ∷ stint 1 1 ∷ stint 1 1 ∷ stint 1 1 ∷ stint 1 1 ∷ stint 1 1 ∷ stint 3 1 ∷
      stint 3 1 ∷ stint 1 1 ∷ stint 1 1 ∷ stint 2 1 ∷ stint 2 1 ∷ stint 3 1 ∷ stint 2 1 ∷ stint 3 1 ∷ stint 3 1 ∷
      stint 3 1 ∷ stint 1 1 ∷ stint 2 1 ∷ stint 1 1 ∷ stint 3 1 ∷ stint 2 1 ∷ stint 3 1 ∷ stint 1 1 ∷ stint 2 1 ∷
      stint 2 1 ∷ stint 3 1 ∷ stint 1 1 ∷ stint 2 1 ∷ stint 2 1 ∷ stint 1 1 ∷ stint 2 1 ∷ stint 3 1 ∷ stint 3 1 ∷
      stint 1 1 ∷ stint 2 1 ∷ stint 3 1 ∷ stint 2 1 ∷ stint 3 1 ∷ stint 2 1 ∷ stint 3 1 ∷ stint 1 1 ∷ stint 2 1 ∷
      stint 3 1 ∷ stint 2 1 ∷ stint 1 1 ∷ stint 3 1 ∷ stint 1 1 ∷ stint 2 1 ∷ stint 3 1 ∷ stint 3 1 ∷ stint 1 1 ∷
      stint 2 1 ∷ stint 1 1 ∷ stint 3 1 ∷ stint 2 1 ∷ stint 2 1 ∷ stint 1 1 ∷ stint 3 1 ∷ stint 2 1 ∷ stint 1 1 ∷
      stint 3 1 ∷ stint 2 1 ∷ stint 3 1 ∷ stint 1 1 ∷ stint 1 1 ∷ stint 1 1 ∷ stint 1 1 ∷ stint 3 1 ∷ stint 2 1 ∷
      stint 1 1 ∷ stint 1 1 ∷ stint 2 1 ∷ stint 3 1 ∷ stint 3 1 ∷ stint 2 1 ∷ stint 1 1 ∷ stint 1 1 ∷ stint 1 1 ∷
      stint 1 1 ∷ stint 2 1 ∷ stint 3 1 ∷ stint 3 1 ∷ stint 1 1 ∷ stint 2 1 ∷ stint 3 1 ∷ stint 3 1 ∷ stint 1 1 ∷
      stint 1 1 ∷ stint 2 1 ∷ stint 3 1 ∷ stint 2 1 ∷ stint 1 1 ∷ stint 3 1 ∷ stint 2 1 ∷ stint 1 1 ∷ stint 3 1 ∷
      stint 1 1 ∷ stint 3 1 ∷ stint 1 1 ∷ stint 3 1 ∷ stint 3 1 ∷ stint 3 1 ∷ stint 3 1 ∷ stint 2 1 ∷ stint 2 1 ∷
      stint 3 1 ∷ stint 3 1 ∷ stint 2 1 ∷ stint 3 1 ∷ stint 1 1 ∷ stint 1 1 ∷ stint 2 1 ∷ stint 3 1 ∷ stint 1 1 ∷
      stint 2 1 ∷ stint 1 1 ∷ stint 3 1 ∷ stint 2 1 ∷ stint 1 1 ∷ stint 3 1 ∷ stint 3 1 ∷ stint 1 1 ∷ stint 3 1 ∷
      stint 2 1 ∷ stint 3 1 ∷ stint 2 1 ∷ stint 3 1 ∷ stint 2 1 ∷ stint 3 1 ∷ stint 2 1 ∷ stint 1 1 ∷ stint 2 1 ∷
      stint 3 1 ∷ stint 1 1 ∷ stint 1 1 ∷ stint 3 1 ∷ stint 2 1 ∷ stint 3 1 ∷ stint 2 1 ∷ stint 1 1 ∷ stint 1 1 ∷
      stint 1 1 ∷ stint 1 1 ∷ stint 2 1 ∷ stint 2 1 ∷ stint 2 1 ∷ stint 1 1 ∷ stint 1 1 ∷ stint 2 1 ∷ stint 3 1 ∷
      stint 3 1 ∷ stint 3 1 ∷ stint 1 1 ∷ stint 3 1 ∷ stint 2 1 ∷ stint 1 1 ∷ stint 1 1 ∷ stint 2 1 ∷ stint 3 1 ∷
      stint 3 1 ∷ stint 2 1 ∷ stint 3 1 ∷ stint 3 1 ∷ stint 3 1 ∷ stint 1 1 ∷ stint 2 1 ∷ stint 3 1 ∷ stint 3 1 ∷
      stint 1 1 ∷ stint 1 1 ∷ stint 1 1 ∷ stint 2 1 ∷ stint 2 1 ∷ stint 3 1 ∷ stint 1 1 ∷ stint 1 1 ∷ stint 3 1 ∷
      stint 3 1 ∷ stint 2 1 ∷ stint 3 1 ∷ stint 2 1 ∷ stint 1 1 ∷ stint 2 1 ∷ stint 3 1 ∷ stint 2 1 ∷ stint 2 1 ∷
      stint 3 1 ∷ stint 3 1 ∷ stint 3 1 ∷ stint 1 1 ∷ stint 1 1 ∷ stint 3 1 ∷ stint 2 1 ∷ stint 1 1 ∷ stint 2 1 ∷
      stint 1 1 ∷ stint 2 1 ∷ stint 3 1 ∷ stint 2 1 ∷ stint 2 1 ∷ stint 1 1 ∷ stint 2 1 ∷ stint 1 1 ∷ stint 3 1 ∷
      stint 2 1 ∷ stint 1 1 ∷ stint 3 1 ∷ stint 1 1 ∷ stint 1 1 ∷ stint 1 1 ∷ stint 3 1 ∷ stint 1 1 ∷ stint 2 1 ∷
      stint 2 1 ∷ stint 3 1 ∷ stint 2 1 ∷ stint 1 1 ∷ stint 3 1 ∷ stint 1 1 ∷ stint 2 1 ∷ stint 1 1 ∷ stint 3 1 ∷
      stint 1 1 ∷ stint 1 1 ∷ stint 2 1 ∷ stint 3 1 ∷ stint 3 1 ∷ stint 2 1 ∷ stint 1 1 ∷ stint 1 1 ∷ stint 3 1 ∷
      stint 1 1 ∷ stint 1 1 ∷ stint 3 1 ∷ stint 2 1 ∷ stint 2 1 ∷ stint 1 1 ∷ stint 1 1 ∷ stint 1 1 ∷ stint 1 1 ∷
      stint 3 1 ∷ stint 2 1 ∷ stint 3 1 ∷ stint 3 1 ∷ stint 1 1 ∷ stint 3 1 ∷ stint 1 1 ∷ stint 3 1 ∷ stint 1 1 ∷
      stint 1 1 ∷ stint 3 1 ∷ stint 3 1 ∷ stint 3 1 ∷ stint 3 1 ∷ stint 2 1 ∷ stint 2 1 ∷ stint 3 1 ∷ stint 1 1 ∷
      stint 2 1 ∷ stint 1 1 ∷ stint 3 1 ∷ stint 3 1 ∷ stint 2 1 ∷ stint 2 1 ∷ stint 1 1 ∷ stint 2 1 ∷ stint 1 1 ∷
      stint 1 1 ∷ stint 2 1 ∷ stint 2 1 ∷ stint 1 1 ∷ stint 3 1 ∷ stint 1 1 ∷ stint 3 1 ∷ stint 2 1 ∷ stint 1 1 ∷
      stint 2 1 ∷ stint 2 1 ∷ stint 2 1 ∷ stint 2 1 ∷ stint 2 1 ∷ stint 2 1 ∷ stint 2 1 ∷ stint 1 1 ∷ stint 2 1 ∷
      stint 1 1 ∷ stint 1 1 ∷ stint 3 1 ∷ stint 3 1 ∷ stint 1 1 ∷ stint 2 1 ∷ stint 3 1 ∷ stint 1 1 ∷ stint 2 1 ∷
      stint 1 1 ∷ stint 1 1 ∷ stint 3 1 ∷ stint 2 1 ∷ stint 3 1 ∷ stint 1 1 ∷ stint 1 1 ∷ stint 3 1 ∷ stint 3 1 ∷
      stint 2 1 ∷ stint 1 1 ∷ stint 1 1 ∷ stint 1 1 ∷ stint 1 1 ∷ stint 3 1 ∷ stint 3 1 ∷ stint 2 1 ∷ stint 3 1 ∷
      stint 2 1 ∷ stint 2 1 ∷ stint 2 1 ∷ stint 2 1 ∷ stint 3 1 ∷ stint 2 1 ∷ stint 2 1 ∷ stint 1 1 ∷ stint 1 1 ∷
      stint 2 1 ∷ stint 2 1 ∷ stint 3 1 ∷ stint 1 1 ∷ stint 2 1 ∷ stint 2 1 ∷ stint 2 1 ∷ stint 1 1 ∷ stint 1 1 ∷
      stint 1 1 ∷ stint 2 1 ∷ stint 2 1 ∷ stint 2 1 ∷ stint 1 1 ∷ stint 1 1 ∷ stint 2 1 ∷ stint 1 1 ∷ stint 2 1 ∷
      stint 1 1 ∷ stint 1 1 ∷ stint 3 1 ∷ stint 1 1 ∷ stint 3 1 ∷ stint 2 1 ∷ stint 3 1 ∷ stint 3 1 ∷ stint 1 1 ∷
      stint 2 1 ∷ stint 3 1 ∷ stint 2 1 ∷ stint 1 1 ∷ stint 3 1 ∷ stint 2 1 ∷ stint 1 1 ∷ stint 2 1 ∷ stint 1 1 ∷
      stint 1 1 ∷ stint 3 1 ∷ stint 1 1 ∷ stint 2 1 ∷ stint 1 1 ∷ stint 3 1 ∷ stint 1 1 ∷ stint 1 1 ∷ stint 3 1 ∷
      stint 3 1 ∷ stint 3 1 ∷ stint 3 1 ∷ stint 3 1 ∷ stint 2 1 ∷ stint 1 1 ∷ stint 3 1 ∷ stint 2 1 ∷ stint 3 1 ∷
      stint 2 1 ∷ stint 1 1 ∷ stint 1 1 ∷ stint 2 1 ∷ stint 2 1 ∷ stint 2 1 ∷ stint 3 1 ∷ stint 2 1 ∷ stint 2 1 ∷
      stint 2 1 ∷ stint 2 1 ∷ stint 2 1 ∷ stint 1 1 ∷ stint 3 1 ∷ stint 2 1 ∷ stint 3 1 ∷ stint 3 1 ∷ stint 1 1 ∷
      stint 1 1 ∷ stint 3 1 ∷ stint 3 1 ∷ stint 3 1 ∷ stint 2 1 ∷ stint 1 1 ∷ stint 2 1 ∷ stint 2 1 ∷ stint 3 1 ∷
      stint 3 1 ∷ stint 3 1 ∷ stint 3 1 ∷ stint 1 1 ∷ stint 2 1 ∷ stint 2 1 ∷ stint 1 1 ∷ stint 3 1 ∷ stint 3 1 ∷
      stint 1 1 ∷ stint 3 1 ∷ stint 1 1 ∷ stint 2 1 ∷ stint 3 1 ∷ stint 3 1 ∷ stint 3 1 ∷ stint 1 1 ∷ stint 1 1 ∷ []);
}

random_2 : shown of_random_2 ([]) ≡ record {
  logs =
      record {
        events = tried 1 1 0 1 0 0 (Declined 1) ∷ tried 3 1 0 0 0 0 (NoSpace 0) ∷ tried 4 1 0 2 0 0 ReadOnly ∷ [];
        reads = item 0 0 None ∷ item 0 2 (Some (18446744073709551613 ∷ 5 ∷ [])) ∷
            item 0 2 (Some (18446744073709551613 ∷ 5 ∷ [])) ∷ [];
        locks = [];
        writes = [];
        snaps = (0 ∷ 0 ∷ 0 ∷ []) ∷ (0 ∷ 0 ∷ 0 ∷ []) ∷ (0 ∷ 0 ∷ 0 ∷ []) ∷ [];
      } ∷
      record {
        events = [];
        reads = [];
        locks = [];
        writes = [];
        snaps = [];
      } ∷
      record {
        events = tried 2 1 0 4 0 0 (NoSpace 0) ∷ [];
        reads = item 0 0 None ∷ item 0 15 (Some (3 ∷ 44 ∷ [])) ∷ item 0 0 None ∷ item 0 0 None ∷ [];
        locks = [];
        writes = [];
        snaps = (0 ∷ 0 ∷ 0 ∷ []) ∷ [];
      } ∷
      [];
  audit = row 0 2 (Some (18446744073709551613 ∷ 5 ∷ [])) false ∷ row 0 15 (Some (3 ∷ 44 ∷ [])) false ∷ [];
}
unfolding of_random_2 stint_workers picked after_workers until_ended settle copies load_from
random_2 = refl

unfoldable of_random_3 : Scenario
of_random_3 = record {
  shape = shape Narrow 2 (table 1 3 1 ∷ table 3 5 3 ∷ []) 3 4 0;
  rows = loaded 0 0 (77 ∷ []) ∷ loaded 1 18446744073709551612 (0 ∷ 5 ∷ 12 ∷ []) ∷ loaded 1 1 (11 ∷ 10 ∷ 6 ∷ []) ∷
      loaded 0 1 (4 ∷ []) ∷ loaded 0 2 (37 ∷ []) ∷ [];
  policy = record { tries = 3; tidy = true };
  txns = txn 2 (Get 1 5 ∷ Get 0 0 ∷ Need 1 4 2 8 ∷ Put 1 2 (18446744073709551615 ∷ 7 ∷ 18446744073709551614 ∷ []) ∷
      []) ∷ txn 1 (Guard 1 18446744073709551612 ∷ Get 0 1 ∷
      Put 1 4 (18446744073709551613 ∷ 18446744073709551615 ∷ 30 ∷ []) ∷ Get 0 1 ∷ []) ∷
      txn 2 (Del 1 1 ∷ Get 0 0 ∷ Put 0 0 (6 ∷ []) ∷ Add 1 4 2 true 1 ∷ []) ∷
      txn 2 (Get 1 5 ∷ Get 1 18446744073709551612 ∷ Del 0 2 ∷ []) ∷ [];
  schedule = Stints (stint 2 61 ∷ stint 2 71 ∷ stint 1 13 ∷ stint 1 98 ∷ stint 1 20 ∷ stint 2 39 ∷ stint 2 26 ∷
      stint 2 1 ∷ stint 1 78 ∷ stint 2 19 ∷ stint 2 12 ∷ stint 1 21 ∷ stint 1 10 ∷ stint 2 12 ∷ stint 2 42 ∷
      stint 1 109 ∷ stint 1 33 ∷ stint 2 89 ∷ stint 2 46 ∷ stint 1 25 ∷ stint 1 66 ∷ stint 1 62 ∷ stint 1 61 ∷
      stint 2 17 ∷ stint 2 25 ∷ stint 1 69 ∷ stint 1 74 ∷ stint 1 32 ∷ stint 1 52 ∷ stint 1 27 ∷ stint 1 7 ∷
      stint 1 14 ∷ stint 1 74 ∷ stint 1 65 ∷ stint 1 75 ∷ stint 2 64 ∷ stint 2 80 ∷ stint 1 104 ∷ stint 1 48 ∷
      stint 2 3 ∷ stint 2 37 ∷ stint 2 17 ∷ stint 1 28 ∷ stint 2 79 ∷ stint 1 39 ∷ stint 2 54 ∷ stint 1 60 ∷
      stint 2 86 ∷ stint 2 29 ∷ stint 1 18 ∷ stint 2 16 ∷ stint 1 62 ∷ stint 1 104 ∷ stint 1 70 ∷ stint 2 43 ∷
      stint 2 9 ∷ stint 1 61 ∷ stint 1 67 ∷ stint 1 28 ∷ stint 1 7 ∷ stint 2 6 ∷ stint 1 20 ∷ stint 1 39 ∷ stint 1 6 ∷
      stint 1 72 ∷ stint 1 53 ∷ stint 2 47 ∷ stint 2 35 ∷ stint 2 78 ∷ stint 1 30 ∷ stint 2 41 ∷ stint 1 22 ∷
      stint 1 3 ∷ stint 1 3 ∷ stint 1 64 ∷ stint 2 73 ∷ stint 1 99 ∷ stint 2 4 ∷ stint 2 29 ∷ stint 2 58 ∷ stint 1 80 ∷
      stint 1 19 ∷ stint 2 11 ∷ stint 1 62 ∷ stint 2 24 ∷ stint 1 35 ∷ stint 1 30 ∷ stint 2 16 ∷ stint 1 70 ∷
      stint 2 14 ∷ stint 2 35 ∷ stint 2 47 ∷ stint 2 49 ∷ stint 2 5 ∷ stint 2 73 ∷ stint 2 13 ∷ stint 1 44 ∷
      stint 2 43 ∷ stint 2 55 ∷ stint 1 57 ∷ stint 2 34 ∷ stint 2 64 ∷ stint 1 62 ∷ stint 2 31 ∷ stint 2 40 ∷
      stint 2 34 ∷ stint 2 65 ∷ stint 1 69 ∷ stint 1 13 ∷ stint 1 58 ∷ []);
}

random_3 : shown of_random_3 ([]) ≡ record {
  logs =
      record {
        events = tried 2 1 2 3 2 1 (Commit 1) ∷ [];
        reads = item 1 18446744073709551612 (Some (0 ∷ 5 ∷ 12 ∷ [])) ∷ item 0 1 (Some (4 ∷ [])) ∷
            item 0 1 (Some (4 ∷ [])) ∷ [];
        locks = lock 1 4 2 1 ∷ lock 1 18446744073709551612 0 0 ∷ [];
        writes = item 1 4 (Some (18446744073709551613 ∷ 18446744073709551615 ∷ 30 ∷ [])) ∷ [];
        snaps = (0 ∷ 2 ∷ []) ∷ [];
      } ∷
      record {
        events = tried 1 1 0 3 0 0 (Declined 3) ∷ tried 3 1 0 2 3 3 (Commit 1) ∷ move 0 0 0 0 0 move_done ∷
            tried 4 1 1 2 1 1 (Commit 2) ∷ move 2 0 2 0 0 move_done ∷ [];
        reads = item 1 5 None ∷ item 0 0 (Some (77 ∷ [])) ∷ item 1 4 None ∷ item 0 0 (Some (77 ∷ [])) ∷ item 1 4 None ∷
            item 1 5 None ∷ item 1 18446744073709551612 (Some (0 ∷ 5 ∷ 12 ∷ [])) ∷ [];
        locks = lock 1 1 0 0 ∷ lock 0 0 0 0 ∷ lock 1 4 0 0 ∷ lock 0 2 0 0 ∷ [];
        writes = item 1 1 None ∷ item 0 0 (Some (6 ∷ [])) ∷ item 1 4 (Some (0 ∷ 1 ∷ 0 ∷ [])) ∷ item 0 2 None ∷ [];
        snaps = (0 ∷ 0 ∷ []) ∷ (0 ∷ 0 ∷ []) ∷ (0 ∷ 1 ∷ []) ∷ [];
      } ∷
      [];
  audit = row 0 0 (Some (6 ∷ [])) false ∷ row 0 1 (Some (4 ∷ [])) false ∷
      row 1 4 (Some (18446744073709551613 ∷ 18446744073709551615 ∷ 30 ∷ [])) false ∷
      row 1 18446744073709551612 (Some (0 ∷ 5 ∷ 12 ∷ [])) false ∷ [];
}
unfolding of_random_3 stint_workers picked after_workers until_ended settle copies load_from
random_3 = refl

unfoldable of_random_4 : Scenario
of_random_4 = record {
  shape = shape Narrow 4 (table 2 1 1 ∷ []) 1 3 0;
  rows = [];
  policy = record { tries = 3; tidy = true };
  txns = txn 3 (Guard 0 1 ∷ Add 0 1 1 true 0 ∷ Get 0 1 ∷ []) ∷
      txn 1 (Del 0 1 ∷ Get 0 1 ∷ Get 0 1 ∷ Put 0 1 (3 ∷ 7 ∷ []) ∷ Del 0 1 ∷ []) ∷
      txn 1 (Get 0 0 ∷ Add 0 0 1 true 0 ∷ []) ∷ txn 3 (Get 0 1 ∷ Need 0 1 1 0 ∷ []) ∷
      txn 3 (Put 0 1 (19 ∷ 50 ∷ []) ∷ []) ∷ [];
  schedule = Stints (stint 2 4 ∷ stint 3 23 ∷ stint 3 20 ∷ stint 1 95 ∷ stint 3 12 ∷ stint 4 2 ∷ stint 3 73 ∷
      stint 2 53 ∷ stint 3 23 ∷ stint 2 123 ∷ stint 2 162 ∷ stint 1 43 ∷ stint 3 2 ∷ stint 1 25 ∷ stint 1 3 ∷
      stint 3 7 ∷ stint 4 8 ∷ stint 1 29 ∷ stint 4 7 ∷ stint 1 3 ∷ stint 4 16 ∷ stint 4 1 ∷ stint 3 16 ∷ stint 4 1 ∷
      stint 1 49 ∷ stint 1 10 ∷ stint 4 1 ∷ stint 2 56 ∷ stint 1 13 ∷ stint 1 15 ∷ stint 2 36 ∷ stint 3 15 ∷ stint 4 4 ∷
      stint 1 58 ∷ []);
}

random_4 : shown of_random_4 ([]) ≡ record {
  logs =
      record {
        events = tried 2 1 1 2 1 0 (Full (lock 0 1 0 0)) ∷ move 0 0 1 0 0 move_done ∷ tried 2 2 1 2 1 1 (Commit 1) ∷
            move 0 0 1 3 1 move_done ∷ tried 3 1 2 2 0 0 (NoSpace 0) ∷ [];
        reads = item 0 1 None ∷ item 0 1 None ∷ item 0 1 None ∷ item 0 1 None ∷ item 0 0 None ∷ item 0 0 None ∷ [];
        locks = lock 0 1 3 1 ∷ lock 0 1 3 1 ∷ [];
        writes = item 0 1 None ∷ [];
        snaps = (0 ∷ 0 ∷ 1 ∷ 0 ∷ []) ∷ (0 ∷ 0 ∷ 1 ∷ 0 ∷ []) ∷ (1 ∷ 0 ∷ 1 ∷ 0 ∷ []) ∷ [];
      } ∷
      record {
        events = [];
        reads = [];
        locks = [];
        writes = [];
        snaps = [];
      } ∷
      record {
        events = tried 1 1 0 3 1 1 (Commit 1) ∷ move 0 0 1 0 0 move_back ∷ tried 4 1 2 2 0 0 ReadOnly ∷
            tried 5 1 2 0 1 1 (Commit 2) ∷ move 0 0 1 1 1 move_done ∷ [];
        reads = item 0 1 None ∷ item 0 1 None ∷ item 0 1 (Some (0 ∷ 0 ∷ [])) ∷ item 0 1 None ∷ item 0 1 None ∷ [];
        locks = lock 0 1 0 0 ∷ lock 0 1 1 1 ∷ [];
        writes = item 0 1 (Some (0 ∷ 0 ∷ [])) ∷ item 0 1 (Some (19 ∷ 50 ∷ [])) ∷ [];
        snaps = (0 ∷ 0 ∷ 0 ∷ 0 ∷ []) ∷ (1 ∷ 0 ∷ 1 ∷ 0 ∷ []) ∷ (1 ∷ 0 ∷ 1 ∷ 0 ∷ []) ∷ [];
      } ∷
      record {
        events = [];
        reads = [];
        locks = [];
        writes = [];
        snaps = [];
      } ∷
      [];
  audit = row 0 1 (Some (19 ∷ 50 ∷ [])) false ∷ [];
}
unfolding of_random_4 stint_workers picked after_workers until_ended settle copies load_from
random_4 = refl

unfoldable of_random_5 : Scenario
of_random_5 = record {
  shape = shape Narrow 2 (table 2 2 2 ∷ []) 3 3 0;
  rows = loaded 0 1 (9 ∷ 7 ∷ []) ∷ [];
  policy = record { tries = 1; tidy = false };
  txns = txn 1 (Get 0 0 ∷ Add 0 0 2 false 1 ∷ []) ∷ [];
  schedule = Stints (stint 1 71 ∷ stint 2 96 ∷ stint 1 1 ∷ stint 2 16 ∷ stint 1 2 ∷ stint 1 1 ∷ stint 2 2 ∷ stint 2 2 ∷
      stint 1 1 ∷ stint 2 2 ∷ stint 1 3 ∷ stint 1 3 ∷ stint 1 4 ∷ stint 2 4 ∷ stint 2 1 ∷ stint 2 109 ∷ stint 2 3 ∷
      stint 2 5 ∷ stint 2 36 ∷ stint 1 4 ∷ stint 1 2 ∷ stint 1 4 ∷ stint 2 3 ∷ stint 1 5 ∷ stint 1 3 ∷ stint 2 1 ∷
      stint 2 55 ∷ stint 2 105 ∷ stint 2 5 ∷ stint 1 3 ∷ stint 1 4 ∷ stint 1 4 ∷ stint 2 5 ∷ stint 1 80 ∷ stint 2 58 ∷
      stint 2 45 ∷ stint 2 1 ∷ stint 2 3 ∷ stint 1 4 ∷ stint 2 33 ∷ stint 1 118 ∷ stint 2 1 ∷ stint 2 1 ∷ stint 2 4 ∷
      stint 1 78 ∷ stint 1 5 ∷ stint 1 3 ∷ stint 1 4 ∷ stint 2 3 ∷ stint 1 81 ∷ stint 1 2 ∷ stint 2 5 ∷ stint 2 3 ∷
      stint 2 5 ∷ stint 1 2 ∷ []);
}

random_5 : shown of_random_5 ([]) ≡ record {
  logs =
      record {
        events = tried 1 1 0 2 0 0 (Declined 2) ∷ [];
        reads = item 0 0 None ∷ item 0 0 None ∷ [];
        locks = [];
        writes = [];
        snaps = (0 ∷ 0 ∷ []) ∷ [];
      } ∷
      record {
        events = [];
        reads = [];
        locks = [];
        writes = [];
        snaps = [];
      } ∷
      [];
  audit = row 0 1 (Some (9 ∷ 7 ∷ [])) false ∷ [];
}
unfolding of_random_5 stint_workers picked after_workers until_ended settle copies load_from
random_5 = refl

unfoldable of_random_6 : Scenario
of_random_6 = record {
  shape = shape Narrow 3 (table 2 2 1 ∷ table 2 4 4 ∷ []) 1 4 0;
  rows = loaded 1 0 (4 ∷ 17 ∷ []) ∷ loaded 0 2 (12 ∷ 10 ∷ []) ∷ loaded 1 1 (11 ∷ 8 ∷ []) ∷ loaded 1 3 (6 ∷ 54 ∷ []) ∷
      [];
  policy = record { tries = 16; tidy = false };
  txns = txn 2 (Get 1 1 ∷ Del 0 0 ∷ Add 1 1 2 true 0 ∷ []) ∷ txn 1 (Need 0 18446744073709551613 2 0 ∷ []) ∷
      txn 2 (Need 0 2 2 0 ∷ Get 0 0 ∷ Put 1 2 (74 ∷ 8 ∷ []) ∷ []) ∷ [];
  schedule = Stints (stint 1 19 ∷ stint 2 145 ∷ stint 1 42 ∷ stint 3 5 ∷ stint 3 1 ∷ stint 2 18 ∷ stint 2 135 ∷
      stint 1 10 ∷ stint 1 12 ∷ stint 1 23 ∷ stint 3 1 ∷ stint 1 10 ∷ []);
}

random_6 : shown of_random_6 (fuse 86 ∷ up ∷ up ∷ []) ≡ record {
  logs =
      record {
        events = tried 2 1 0 1 0 0 ReadOnly ∷ [];
        reads = item 0 18446744073709551613 None ∷ [];
        locks = [];
        writes = [];
        snaps = (0 ∷ 0 ∷ 0 ∷ []) ∷ [];
      } ∷
      record {
        events = tried 1 1 0 2 2 2 (Commit 1) ∷ tried 3 1 1 2 1 1 (Commit 2) ∷ [];
        reads = item 1 1 (Some (11 ∷ 8 ∷ [])) ∷ item 1 1 (Some (11 ∷ 8 ∷ [])) ∷ item 0 2 (Some (12 ∷ 10 ∷ [])) ∷
            item 0 0 None ∷ [];
        locks = lock 0 0 0 0 ∷ lock 1 1 0 0 ∷ lock 1 2 0 0 ∷ [];
        writes = item 0 0 None ∷ item 1 1 (Some (11 ∷ 8 ∷ [])) ∷ item 1 2 (Some (74 ∷ 8 ∷ [])) ∷ [];
        snaps = (0 ∷ 0 ∷ 0 ∷ []) ∷ (0 ∷ 1 ∷ 0 ∷ []) ∷ [];
      } ∷
      record {
        events = [];
        reads = [];
        locks = [];
        writes = [];
        snaps = [];
      } ∷
      [];
  audit = row 0 2 (Some (12 ∷ 10 ∷ [])) false ∷ row 1 0 (Some (4 ∷ 17 ∷ [])) false ∷
      row 1 1 (Some (11 ∷ 8 ∷ [])) false ∷ row 1 2 (Some (74 ∷ 8 ∷ [])) false ∷ row 1 3 (Some (6 ∷ 54 ∷ [])) false ∷ [];
}
unfolding of_random_6 stint_workers picked after_workers until_ended settle copies load_from
random_6 = refl

unfoldable of_random_7 : Scenario
of_random_7 = record {
  shape = shape Wide 2 (table 2 7 2 ∷ table 1 2 1 ∷ []) 3 2 35184372088830;
  rows = loaded 0 4 (11 ∷ 9 ∷ []) ∷ loaded 0 2 (10 ∷ 46 ∷ []) ∷ loaded 0 5 (18446744073709551613 ∷ 5 ∷ []) ∷
      loaded 0 6 (10 ∷ 8 ∷ []) ∷ loaded 0 0 (3 ∷ 36 ∷ []) ∷ loaded 0 7 (9 ∷ 7 ∷ []) ∷ loaded 1 1 (7 ∷ []) ∷ [];
  policy = record { tries = 3; tidy = false };
  txns = txn 2 (Add 1 0 1 true 4 ∷ []) ∷ txn 1 (Del 0 0 ∷ Add 0 5 2 true 1 ∷ []) ∷ txn 1 (Del 0 7 ∷ []) ∷
      txn 2 (Add 1 1 1 true 2 ∷ []) ∷ txn 1 (Add 1 1 1 true 3 ∷ Put 0 2 (0 ∷ 97 ∷ []) ∷ []) ∷
      txn 1 (Need 0 3 2 0 ∷ Add 0 6 1 true 3 ∷ Need 1 0 1 0 ∷ Put 0 0 (71 ∷ 5 ∷ []) ∷ []) ∷ [];
  schedule = Stints (stint 2 59 ∷ stint 1 15 ∷ stint 2 3 ∷ stint 1 3 ∷ stint 1 42 ∷ stint 1 12 ∷ stint 2 18 ∷
      stint 2 20 ∷ stint 2 48 ∷ stint 1 8 ∷ stint 1 6 ∷ stint 2 159 ∷ stint 1 32 ∷ stint 2 2 ∷ stint 1 53 ∷ stint 1 18 ∷
      stint 1 3 ∷ stint 2 58 ∷ stint 2 61 ∷ stint 1 3 ∷ stint 2 63 ∷ stint 2 25 ∷ stint 1 2 ∷ []);
}

random_7 : shown of_random_7 (fuse 10 ∷ up ∷ []) ≡ record {
  logs =
      record {
        events = tried 2 1 1 0 0 0 Cut ∷ [];
        reads = [];
        locks = [];
        writes = [];
        snaps = (35184372088830 ∷ 35184372088831 ∷ []) ∷ [];
      } ∷
      record {
        events = tried 1 1 0 1 1 1 (Commit 35184372088831) ∷ tried 4 1 1 1 0 0 Spent ∷ [];
        reads = item 1 0 None ∷ item 1 1 (Some (7 ∷ [])) ∷ [];
        locks = lock 1 0 0 0 ∷ [];
        writes = item 1 0 (Some (4 ∷ [])) ∷ [];
        snaps = (35184372088830 ∷ 35184372088830 ∷ []) ∷ (35184372088830 ∷ 35184372088831 ∷ []) ∷ [];
      } ∷
      [];
  audit = row 0 0 (Some (3 ∷ 36 ∷ [])) false ∷ row 0 2 (Some (10 ∷ 46 ∷ [])) false ∷
      row 0 4 (Some (11 ∷ 9 ∷ [])) false ∷ row 0 5 (Some (18446744073709551613 ∷ 5 ∷ [])) false ∷
      row 0 6 (Some (10 ∷ 8 ∷ [])) false ∷ row 0 7 (Some (9 ∷ 7 ∷ [])) false ∷ row 1 0 (Some (4 ∷ [])) false ∷
      row 1 1 (Some (7 ∷ [])) false ∷ [];
}
unfolding of_random_7 stint_workers picked after_workers until_ended settle copies load_from
random_7 = refl

unfoldable of_random_8 : Scenario
of_random_8 = record {
  shape = shape Narrow 2 (table 1 1 2 ∷ []) 1 2 0;
  rows = [];
  policy = record { tries = 1; tidy = false };
  txns = txn 2 (Add 0 0 1 true 26 ∷ []) ∷ txn 1 (Add 0 0 1 true 1 ∷ Add 0 0 1 true 2 ∷ Add 0 0 1 false 1 ∷ []) ∷
      txn 1 (Del 0 0 ∷ []) ∷ [];
  schedule = Stints (stint 2 1 ∷ stint 2 1 ∷ stint 1 1 ∷ stint 2 1 ∷ stint 2 1 ∷ stint 2 1 ∷ stint 1 1 ∷ stint 2 1 ∷
      stint 1 1 ∷ stint 1 1 ∷ stint 1 1 ∷ []);
}

random_8 : shown of_random_8 (fuse 2 ∷ fuse 31 ∷ []) ≡ record {
  logs =
      record {
        events = unbegun 2 1 Cut ∷ [];
        reads = [];
        locks = [];
        writes = [];
        snaps = [];
      } ∷
      record {
        events = tried 1 1 0 1 1 1 (Commit 1) ∷ [];
        reads = item 0 0 None ∷ [];
        locks = lock 0 0 0 0 ∷ [];
        writes = item 0 0 (Some (26 ∷ [])) ∷ [];
        snaps = (0 ∷ 0 ∷ []) ∷ [];
      } ∷
      [];
  audit = row 0 0 (Some (26 ∷ [])) false ∷ [];
}
unfolding of_random_8 stint_workers picked after_workers until_ended settle copies load_from
random_8 = refl

unfoldable of_random_9 : Scenario
of_random_9 = record {
  shape = shape Wide 2 (table 1 5 3 ∷ table 2 3 1 ∷ []) 2 1 35184372088830;
  rows = loaded 0 1 (57 ∷ []) ∷ loaded 0 5 (18446744073709551613 ∷ []) ∷ loaded 1 2 (0 ∷ 0 ∷ []) ∷
      loaded 1 3 (18446744073709551614 ∷ 34 ∷ []) ∷ loaded 0 6 (18446744073709551615 ∷ []) ∷ loaded 0 2 (3 ∷ []) ∷
      loaded 1 0 (10 ∷ 10 ∷ []) ∷ loaded 0 0 (12 ∷ []) ∷ [];
  policy = record { tries = 2; tidy = true };
  txns = txn 2 (Add 0 3 1 true 1 ∷ Get 0 1 ∷ []) ∷ txn 2 (Del 0 5 ∷ Add 1 0 1 true 1 ∷ Get 1 0 ∷ []) ∷
      txn 2 (Add 1 0 1 false 1 ∷ Get 0 5 ∷ []) ∷ [];
  schedule = Stints (stint 2 22 ∷ stint 1 32 ∷ stint 1 35 ∷ stint 1 9 ∷ stint 1 22 ∷ stint 1 57 ∷ stint 2 33 ∷ []);
}

random_9 : shown of_random_9 (fuse 17 ∷ up ∷ []) ≡ record {
  logs =
      record {
        events = [];
        reads = [];
        locks = [];
        writes = [];
        snaps = [];
      } ∷
      record {
        events = tried 1 1 0 1 0 0 (NoSpace 0) ∷ tried 2 1 0 2 2 2 (Commit 35184372088831) ∷ move 0 1 0 0 0 move_done ∷
            tried 3 1 1 2 0 0 Spent ∷ [];
        reads = item 0 3 None ∷ item 1 0 (Some (10 ∷ 10 ∷ [])) ∷ item 1 0 (Some (11 ∷ 10 ∷ [])) ∷
            item 1 0 (Some (11 ∷ 10 ∷ [])) ∷ item 0 5 None ∷ [];
        locks = lock 0 5 0 0 ∷ lock 1 0 0 0 ∷ [];
        writes = item 0 5 None ∷ item 1 0 (Some (11 ∷ 10 ∷ [])) ∷ [];
        snaps = (35184372088830 ∷ 35184372088830 ∷ []) ∷ (35184372088830 ∷ 35184372088830 ∷ []) ∷
            (35184372088830 ∷ 35184372088831 ∷ []) ∷ [];
      } ∷
      [];
  audit = row 0 0 (Some (12 ∷ [])) false ∷ row 0 1 (Some (57 ∷ [])) false ∷ row 0 2 (Some (3 ∷ [])) false ∷
      row 0 6 (Some (18446744073709551615 ∷ [])) false ∷ row 1 0 (Some (11 ∷ 10 ∷ [])) false ∷
      row 1 2 (Some (0 ∷ 0 ∷ [])) false ∷ row 1 3 (Some (18446744073709551614 ∷ 34 ∷ [])) false ∷ [];
}
unfolding of_random_9 stint_workers picked after_workers until_ended settle copies load_from
random_9 = refl

unfoldable of_random_10 : Scenario
of_random_10 = record {
  shape = shape Narrow 3 (table 1 3 1 ∷ []) 1 1 0;
  rows = loaded 0 0 (28 ∷ []) ∷ [];
  policy = record { tries = 3; tidy = false };
  txns = txn 2 (Put 0 0 (0 ∷ []) ∷ Get 0 3 ∷ []) ∷ txn 2 (Del 0 3 ∷ Del 0 0 ∷ Get 0 0 ∷ []) ∷
      txn 2 (Put 0 0 (8 ∷ []) ∷ Del 0 3 ∷ []) ∷ txn 3 (Add 0 0 1 true 0 ∷ []) ∷
      txn 2 (Need 0 0 1 0 ∷ Add 0 0 1 true 1 ∷ Del 0 0 ∷ []) ∷ [];
  schedule = Stints (stint 2 1 ∷ stint 1 1 ∷ stint 3 44 ∷ stint 3 1 ∷ stint 2 1 ∷ stint 2 2 ∷ stint 3 2 ∷ stint 2 1 ∷
      stint 2 1 ∷ stint 3 2 ∷ stint 3 1 ∷ stint 2 1 ∷ stint 3 2 ∷ stint 1 2 ∷ stint 2 1 ∷ stint 3 1 ∷ stint 2 5 ∷
      stint 3 2 ∷ stint 1 2 ∷ stint 3 28 ∷ stint 3 1 ∷ stint 2 1 ∷ stint 1 77 ∷ stint 2 2 ∷ stint 1 96 ∷ stint 3 60 ∷
      stint 2 1 ∷ stint 2 98 ∷ stint 1 97 ∷ stint 3 1 ∷ stint 3 1 ∷ stint 2 1 ∷ stint 3 2 ∷ stint 3 1 ∷ stint 2 2 ∷
      stint 3 2 ∷ stint 2 2 ∷ stint 2 1 ∷ stint 1 2 ∷ stint 1 41 ∷ stint 3 51 ∷ stint 3 2 ∷ stint 3 2 ∷ stint 2 2 ∷
      stint 3 2 ∷ stint 1 59 ∷ stint 2 72 ∷ stint 3 2 ∷ stint 2 2 ∷ stint 2 2 ∷ stint 2 2 ∷ stint 1 2 ∷ stint 2 1 ∷
      stint 2 2 ∷ stint 2 1 ∷ stint 2 2 ∷ stint 2 2 ∷ stint 1 1 ∷ stint 3 2 ∷ stint 2 1 ∷ stint 1 1 ∷ stint 1 1 ∷
      stint 1 53 ∷ stint 3 1 ∷ stint 1 1 ∷ stint 3 49 ∷ stint 1 2 ∷ stint 2 1 ∷ stint 1 11 ∷ stint 3 41 ∷ stint 1 2 ∷
      stint 2 1 ∷ stint 1 1 ∷ stint 1 2 ∷ stint 2 2 ∷ stint 2 30 ∷ stint 1 2 ∷ stint 2 1 ∷ stint 1 2 ∷ stint 2 111 ∷
      stint 2 118 ∷ stint 3 2 ∷ stint 1 1 ∷ stint 3 52 ∷ stint 2 34 ∷ stint 2 1 ∷ stint 3 2 ∷ stint 3 116 ∷ stint 1 1 ∷
      stint 1 2 ∷ stint 1 38 ∷ stint 2 17 ∷ stint 2 2 ∷ stint 3 2 ∷ stint 1 108 ∷ stint 3 1 ∷ stint 3 2 ∷ stint 2 1 ∷
      stint 2 2 ∷ stint 2 2 ∷ stint 1 1 ∷ stint 2 1 ∷ stint 1 1 ∷ stint 3 2 ∷ stint 2 1 ∷ stint 3 2 ∷ stint 3 1 ∷
      stint 2 2 ∷ stint 1 2 ∷ stint 1 100 ∷ stint 2 1 ∷ stint 1 1 ∷ stint 1 2 ∷ stint 3 1 ∷ stint 1 57 ∷ stint 3 1 ∷
      stint 1 1 ∷ stint 3 1 ∷ stint 2 16 ∷ stint 2 2 ∷ stint 2 2 ∷ stint 1 1 ∷ stint 2 2 ∷ stint 2 1 ∷ stint 2 2 ∷
      stint 2 1 ∷ stint 3 1 ∷ stint 3 1 ∷ stint 3 1 ∷ []);
}

random_10 : shown of_random_10 (fuse 10 ∷ up ∷ up ∷ []) ≡ record {
  logs =
      record {
        events = [];
        reads = [];
        locks = [];
        writes = [];
        snaps = [];
      } ∷
      record {
        events = tried 1 1 1 1 1 0 (Full (lock 0 0 0 0)) ∷ tried 1 2 1 1 1 0 (Full (lock 0 0 0 0)) ∷
            tried 1 3 1 1 1 0 (Full (lock 0 0 0 0)) ∷ tried 2 1 1 1 2 0 (Full (lock 0 0 0 0)) ∷
            tried 2 2 1 1 2 0 (Full (lock 0 0 0 0)) ∷ tried 2 3 1 1 2 0 (Full (lock 0 0 0 0)) ∷
            tried 3 1 1 0 2 0 (Full (lock 0 0 0 0)) ∷ tried 3 2 1 0 2 0 (Full (lock 0 0 0 0)) ∷
            tried 3 3 1 0 2 0 (Full (lock 0 0 0 0)) ∷ tried 5 1 1 2 1 0 (Full (lock 0 0 0 0)) ∷
            tried 5 2 1 2 1 0 (Full (lock 0 0 0 0)) ∷ tried 5 3 1 2 1 0 (Full (lock 0 0 0 0)) ∷ [];
        reads = item 0 3 None ∷ item 0 3 None ∷ item 0 3 None ∷ item 0 0 None ∷ item 0 0 None ∷ item 0 0 None ∷
            item 0 0 (Some (28 ∷ [])) ∷ item 0 0 (Some (28 ∷ [])) ∷ item 0 0 (Some (28 ∷ [])) ∷
            item 0 0 (Some (28 ∷ [])) ∷ item 0 0 (Some (28 ∷ [])) ∷ item 0 0 (Some (28 ∷ [])) ∷ [];
        locks = lock 0 0 3 1 ∷ lock 0 0 3 1 ∷ lock 0 0 3 1 ∷ lock 0 3 0 0 ∷ lock 0 0 3 1 ∷ lock 0 3 0 0 ∷ lock 0 0 3 1 ∷
            lock 0 3 0 0 ∷ lock 0 0 3 1 ∷ lock 0 0 3 1 ∷ lock 0 3 0 0 ∷ lock 0 0 3 1 ∷ lock 0 3 0 0 ∷ lock 0 0 3 1 ∷
            lock 0 3 0 0 ∷ lock 0 0 3 1 ∷ lock 0 0 3 1 ∷ lock 0 0 3 1 ∷ [];
        writes = [];
        snaps = (0 ∷ 0 ∷ 1 ∷ []) ∷ (0 ∷ 0 ∷ 1 ∷ []) ∷ (0 ∷ 0 ∷ 1 ∷ []) ∷ (0 ∷ 0 ∷ 1 ∷ []) ∷ (0 ∷ 0 ∷ 1 ∷ []) ∷
            (0 ∷ 0 ∷ 1 ∷ []) ∷ (0 ∷ 0 ∷ 1 ∷ []) ∷ (0 ∷ 0 ∷ 1 ∷ []) ∷ (0 ∷ 0 ∷ 1 ∷ []) ∷ (0 ∷ 0 ∷ 1 ∷ []) ∷
            (0 ∷ 0 ∷ 1 ∷ []) ∷ (0 ∷ 0 ∷ 1 ∷ []) ∷ [];
      } ∷
      record {
        events = tried 4 1 0 1 1 1 (Commit 1) ∷ [];
        reads = item 0 0 (Some (28 ∷ [])) ∷ [];
        locks = lock 0 0 0 0 ∷ [];
        writes = item 0 0 (Some (28 ∷ [])) ∷ [];
        snaps = (0 ∷ 0 ∷ 0 ∷ []) ∷ [];
      } ∷
      [];
  audit = row 0 0 (Some (28 ∷ [])) false ∷ [];
}
unfolding of_random_10 stint_workers picked after_workers until_ended settle copies load_from
random_10 = refl

unfoldable of_random_11 : Scenario
of_random_11 = record {
  shape = shape Narrow 4 (table 1 3 1 ∷ []) 1 2 0;
  rows = loaded 0 0 (48 ∷ []) ∷ loaded 0 22 (0 ∷ []) ∷ [];
  policy = record { tries = 3; tidy = true };
  txns = txn 1 (Add 0 22 1 false 1 ∷ Get 0 0 ∷ []) ∷
      txn 1 (Get 0 3 ∷ Guard 0 22 ∷ Get 0 3 ∷ Put 0 3 (1 ∷ []) ∷ Add 0 3 1 true 1 ∷ Get 0 22 ∷ Del 0 22 ∷ []) ∷
      txn 1 (Put 0 22 (7 ∷ []) ∷ []) ∷ txn 1 (Put 0 0 (42 ∷ []) ∷ Put 0 22 (0 ∷ []) ∷ Guard 0 0 ∷ []) ∷
      txn 1 (Get 0 0 ∷ Add 0 22 1 true 3 ∷ Get 0 22 ∷ []) ∷ txn 1 (Add 0 0 1 false 1 ∷ Add 0 22 1 false 2 ∷ []) ∷
      txn 1 (Get 0 3 ∷ Add 0 0 1 true 1 ∷ Get 0 22 ∷ Get 0 3 ∷ []) ∷
      txn 1 (Need 0 0 1 0 ∷ Get 0 3 ∷ Guard 0 0 ∷ Need 0 22 1 12 ∷ Add 0 22 1 true 1 ∷ Put 0 22 (65 ∷ []) ∷ Guard 0 22 ∷
      []) ∷ txn 1 (Get 0 0 ∷ []) ∷ txn 1 (Get 0 0 ∷ Add 0 0 1 true 1 ∷ []) ∷ txn 1 (Get 0 0 ∷ Put 0 22 (3 ∷ []) ∷ []) ∷
      txn 1 (Get 0 22 ∷ Get 0 0 ∷ Get 0 0 ∷ Add 0 0 1 true 0 ∷ []) ∷ txn 1 (Put 0 0 (4 ∷ []) ∷ []) ∷
      txn 1 (Guard 0 0 ∷ Put 0 22 (7 ∷ []) ∷ Get 0 22 ∷ Add 0 0 1 true 4 ∷ []) ∷ txn 1 (Get 0 22 ∷ []) ∷
      txn 1 (Put 0 0 (9 ∷ []) ∷ Guard 0 22 ∷ []) ∷ [];
  schedule = Stints (stint 1 1 ∷ stint 1 1 ∷ stint 1 2 ∷ stint 3 119 ∷ stint 1 1 ∷ stint 2 76 ∷ stint 1 2 ∷ stint 1 2 ∷
      stint 1 2 ∷ stint 1 1 ∷ stint 2 1 ∷ stint 4 1 ∷ stint 1 26 ∷ stint 1 1 ∷ stint 1 56 ∷ stint 4 2 ∷ stint 4 9 ∷
      stint 1 1 ∷ stint 1 1 ∷ stint 2 2 ∷ stint 1 1 ∷ stint 1 2 ∷ stint 1 2 ∷ stint 1 2 ∷ stint 1 1 ∷ stint 1 2 ∷
      stint 2 2 ∷ stint 1 2 ∷ stint 1 1 ∷ stint 2 2 ∷ stint 1 1 ∷ stint 2 1 ∷ stint 1 1 ∷ stint 1 114 ∷ stint 1 1 ∷
      stint 1 2 ∷ stint 1 20 ∷ stint 2 2 ∷ stint 4 2 ∷ stint 1 2 ∷ stint 1 1 ∷ stint 4 4 ∷ stint 1 2 ∷ stint 2 2 ∷
      stint 1 2 ∷ stint 2 2 ∷ stint 1 1 ∷ stint 1 27 ∷ stint 1 2 ∷ stint 1 99 ∷ stint 1 1 ∷ stint 2 11 ∷ stint 3 1 ∷
      stint 1 2 ∷ stint 1 2 ∷ stint 3 2 ∷ stint 1 2 ∷ stint 1 2 ∷ stint 1 68 ∷ stint 3 1 ∷ stint 1 2 ∷ stint 1 1 ∷
      stint 2 2 ∷ stint 1 1 ∷ stint 1 1 ∷ stint 1 1 ∷ stint 2 1 ∷ stint 1 2 ∷ stint 3 1 ∷ stint 4 45 ∷ stint 1 20 ∷
      stint 4 2 ∷ stint 1 1 ∷ stint 2 87 ∷ stint 1 2 ∷ stint 1 1 ∷ stint 1 2 ∷ stint 2 1 ∷ stint 1 2 ∷ stint 1 2 ∷
      stint 4 101 ∷ stint 2 1 ∷ stint 1 116 ∷ stint 1 1 ∷ stint 1 2 ∷ stint 1 1 ∷ stint 1 2 ∷ stint 1 2 ∷ stint 1 1 ∷
      stint 3 1 ∷ stint 1 2 ∷ stint 4 2 ∷ stint 1 1 ∷ stint 1 1 ∷ stint 1 2 ∷ stint 1 2 ∷ stint 1 107 ∷ stint 1 2 ∷
      stint 1 1 ∷ stint 1 13 ∷ stint 1 2 ∷ stint 3 2 ∷ stint 1 1 ∷ stint 1 1 ∷ stint 4 2 ∷ stint 1 1 ∷ stint 1 26 ∷
      stint 1 8 ∷ stint 1 1 ∷ stint 1 1 ∷ stint 1 1 ∷ stint 1 2 ∷ stint 1 1 ∷ stint 1 1 ∷ stint 2 2 ∷ stint 1 93 ∷
      stint 1 2 ∷ stint 2 2 ∷ stint 1 1 ∷ stint 2 1 ∷ stint 1 2 ∷ stint 1 2 ∷ stint 1 35 ∷ stint 4 1 ∷ stint 1 1 ∷
      stint 1 2 ∷ stint 4 2 ∷ stint 2 2 ∷ stint 1 2 ∷ stint 1 3 ∷ stint 1 87 ∷ stint 3 1 ∷ stint 1 2 ∷ stint 1 1 ∷
      stint 1 1 ∷ stint 1 2 ∷ stint 1 2 ∷ stint 1 2 ∷ stint 1 1 ∷ stint 1 1 ∷ []);
}

random_11 : shown of_random_11 ([]) ≡ record {
  logs =
      record {
        events = tried 1 1 0 1 0 0 (Declined 1) ∷ tried 2 1 0 5 2 2 (Commit 1) ∷ move 0 0 3 0 0 move_done ∷
            move 0 0 22 0 0 move_done ∷ tried 3 1 1 0 1 1 (Commit 2) ∷ NoRoom 0 ∷
            Collected 0 2 (2 ∷ 0 ∷ 0 ∷ 0 ∷ []) false ∷ move 0 0 22 1 1 move_done ∷ tried 4 1 2 1 2 2 (Commit 3) ∷
            move 0 0 0 0 0 move_done ∷ NoRoom 0 ∷ Collected 0 3 (3 ∷ 0 ∷ 0 ∷ 0 ∷ []) false ∷ move 0 0 22 1 2 move_done ∷
            tried 5 1 3 3 1 1 (Commit 4) ∷ move 0 0 22 1 3 move_done ∷ tried 6 1 4 2 2 2 (Commit 5) ∷ NoRoom 0 ∷
            Collected 0 5 (5 ∷ 0 ∷ 0 ∷ 0 ∷ []) false ∷ move 0 0 0 1 3 move_done ∷ move 0 0 22 1 4 move_done ∷
            tried 7 1 5 4 1 1 (Commit 6) ∷ NoRoom 0 ∷ Collected 0 6 (6 ∷ 0 ∷ 0 ∷ 0 ∷ []) false ∷
            move 0 0 0 1 5 move_done ∷ tried 8 1 6 4 0 0 (Declined 4) ∷ tried 9 1 6 1 0 0 ReadOnly ∷
            tried 10 1 6 2 1 1 (Commit 7) ∷ move 0 0 0 1 6 move_done ∷ tried 11 1 7 1 1 1 (Commit 8) ∷ NoRoom 0 ∷
            Collected 0 8 (8 ∷ 0 ∷ 0 ∷ 0 ∷ []) false ∷ move 0 0 22 1 5 move_done ∷ tried 12 1 8 4 1 1 (Commit 9) ∷
            move 0 0 0 1 7 move_done ∷ tried 13 1 9 0 1 1 (Commit 10) ∷ NoRoom 0 ∷
            Collected 0 10 (10 ∷ 0 ∷ 0 ∷ 0 ∷ []) false ∷ move 0 0 0 1 9 move_done ∷ tried 14 1 10 3 2 2 (Commit 11) ∷
            move 0 0 22 1 8 move_done ∷ NoRoom 0 ∷ Collected 0 11 (11 ∷ 0 ∷ 0 ∷ 0 ∷ []) false ∷
            move 0 0 0 1 10 move_done ∷ tried 15 1 11 1 0 0 ReadOnly ∷ tried 16 1 11 1 2 1 (Commit 12) ∷
            move 0 0 0 1 11 move_done ∷ [];
        reads = item 0 22 (Some (0 ∷ [])) ∷ item 0 3 None ∷ item 0 22 (Some (0 ∷ [])) ∷ item 0 3 None ∷
            item 0 3 (Some (1 ∷ [])) ∷ item 0 22 (Some (0 ∷ [])) ∷ item 0 0 (Some (42 ∷ [])) ∷
            item 0 0 (Some (42 ∷ [])) ∷ item 0 22 (Some (0 ∷ [])) ∷ item 0 22 (Some (3 ∷ [])) ∷
            item 0 0 (Some (42 ∷ [])) ∷ item 0 22 (Some (3 ∷ [])) ∷ item 0 3 (Some (2 ∷ [])) ∷
            item 0 0 (Some (41 ∷ [])) ∷ item 0 22 (Some (1 ∷ [])) ∷ item 0 3 (Some (2 ∷ [])) ∷
            item 0 0 (Some (42 ∷ [])) ∷ item 0 3 (Some (2 ∷ [])) ∷ item 0 0 (Some (42 ∷ [])) ∷
            item 0 22 (Some (1 ∷ [])) ∷ item 0 0 (Some (42 ∷ [])) ∷ item 0 0 (Some (42 ∷ [])) ∷
            item 0 0 (Some (42 ∷ [])) ∷ item 0 0 (Some (43 ∷ [])) ∷ item 0 22 (Some (3 ∷ [])) ∷
            item 0 0 (Some (43 ∷ [])) ∷ item 0 0 (Some (43 ∷ [])) ∷ item 0 0 (Some (43 ∷ [])) ∷
            item 0 0 (Some (4 ∷ [])) ∷ item 0 22 (Some (7 ∷ [])) ∷ item 0 0 (Some (4 ∷ [])) ∷
            item 0 22 (Some (7 ∷ [])) ∷ item 0 22 (Some (7 ∷ [])) ∷ [];
        locks = lock 0 3 0 0 ∷ lock 0 22 0 0 ∷ lock 0 22 1 1 ∷ lock 0 0 0 0 ∷ lock 0 22 1 2 ∷ lock 0 22 1 3 ∷
            lock 0 0 1 3 ∷ lock 0 22 1 4 ∷ lock 0 0 1 5 ∷ lock 0 0 1 6 ∷ lock 0 22 1 5 ∷ lock 0 0 1 7 ∷ lock 0 0 1 9 ∷
            lock 0 22 1 8 ∷ lock 0 0 1 10 ∷ lock 0 0 1 11 ∷ lock 0 22 1 11 ∷ [];
        writes = item 0 3 (Some (2 ∷ [])) ∷ item 0 22 None ∷ item 0 22 (Some (7 ∷ [])) ∷ item 0 0 (Some (42 ∷ [])) ∷
            item 0 22 (Some (0 ∷ [])) ∷ item 0 22 (Some (3 ∷ [])) ∷ item 0 0 (Some (41 ∷ [])) ∷
            item 0 22 (Some (1 ∷ [])) ∷ item 0 0 (Some (42 ∷ [])) ∷ item 0 0 (Some (43 ∷ [])) ∷
            item 0 22 (Some (3 ∷ [])) ∷ item 0 0 (Some (43 ∷ [])) ∷ item 0 0 (Some (4 ∷ [])) ∷
            item 0 22 (Some (7 ∷ [])) ∷ item 0 0 (Some (8 ∷ [])) ∷ item 0 0 (Some (9 ∷ [])) ∷ [];
        snaps = (0 ∷ 0 ∷ 0 ∷ 0 ∷ []) ∷ (0 ∷ 0 ∷ 0 ∷ 0 ∷ []) ∷ (1 ∷ 0 ∷ 0 ∷ 0 ∷ []) ∷ (2 ∷ 0 ∷ 0 ∷ 0 ∷ []) ∷
            (2 ∷ 0 ∷ 0 ∷ 0 ∷ []) ∷ (3 ∷ 0 ∷ 0 ∷ 0 ∷ []) ∷ (3 ∷ 0 ∷ 0 ∷ 0 ∷ []) ∷ (4 ∷ 0 ∷ 0 ∷ 0 ∷ []) ∷
            (5 ∷ 0 ∷ 0 ∷ 0 ∷ []) ∷ (5 ∷ 0 ∷ 0 ∷ 0 ∷ []) ∷ (6 ∷ 0 ∷ 0 ∷ 0 ∷ []) ∷ (6 ∷ 0 ∷ 0 ∷ 0 ∷ []) ∷
            (6 ∷ 0 ∷ 0 ∷ 0 ∷ []) ∷ (6 ∷ 0 ∷ 0 ∷ 0 ∷ []) ∷ (7 ∷ 0 ∷ 0 ∷ 0 ∷ []) ∷ (8 ∷ 0 ∷ 0 ∷ 0 ∷ []) ∷
            (8 ∷ 0 ∷ 0 ∷ 0 ∷ []) ∷ (9 ∷ 0 ∷ 0 ∷ 0 ∷ []) ∷ (10 ∷ 0 ∷ 0 ∷ 0 ∷ []) ∷ (10 ∷ 0 ∷ 0 ∷ 0 ∷ []) ∷
            (11 ∷ 0 ∷ 0 ∷ 0 ∷ []) ∷ (11 ∷ 0 ∷ 0 ∷ 0 ∷ []) ∷ (11 ∷ 0 ∷ 0 ∷ 0 ∷ []) ∷ [];
      } ∷
      record {
        events = [];
        reads = [];
        locks = [];
        writes = [];
        snaps = [];
      } ∷
      record {
        events = [];
        reads = [];
        locks = [];
        writes = [];
        snaps = [];
      } ∷
      record {
        events = [];
        reads = [];
        locks = [];
        writes = [];
        snaps = [];
      } ∷
      [];
  audit = row 0 0 (Some (9 ∷ [])) false ∷ row 0 3 (Some (2 ∷ [])) false ∷ row 0 22 (Some (7 ∷ [])) false ∷ [];
}
unfolding of_random_11 stint_workers picked after_workers until_ended settle copies load_from
random_11 = refl

unfoldable of_random_12 : Scenario
of_random_12 = record {
  shape = shape Wide 4 (table 1 2 1 ∷ table 2 1 4 ∷ []) 1 2 0;
  rows = loaded 0 1 (12 ∷ []) ∷ loaded 1 0 (6 ∷ 18446744073709551614 ∷ []) ∷ [];
  policy = record { tries = 2; tidy = false };
  txns = txn 3 (Add 0 0 1 false 3 ∷ []) ∷ txn 4 (Put 0 0 (0 ∷ []) ∷ Put 0 0 (92 ∷ []) ∷ Guard 1 0 ∷ []) ∷
      txn 3 (Get 1 2 ∷ Get 1 2 ∷ Get 0 0 ∷ Guard 0 1 ∷ []) ∷
      txn 2 (Put 1 18446744073709551614 (64 ∷ 18446744073709551613 ∷ []) ∷ Need 1 2 1 0 ∷ Get 0 1 ∷ Need 0 1 1 0 ∷ []) ∷
      txn 1 (Put 0 0 (83 ∷ []) ∷ Put 0 1 (5 ∷ []) ∷ []) ∷ [];
  schedule = Stints ([]);
}

random_12 : shown of_random_12 ([]) ≡ record {
  logs =
      record {
        events = tried 5 1 0 0 2 2 (Commit 1) ∷ [];
        reads = [];
        locks = lock 0 0 0 0 ∷ lock 0 1 0 0 ∷ [];
        writes = item 0 0 (Some (83 ∷ [])) ∷ item 0 1 (Some (5 ∷ [])) ∷ [];
        snaps = (0 ∷ 0 ∷ 0 ∷ 0 ∷ []) ∷ [];
      } ∷
      record {
        events = tried 4 1 0 0 0 0 (NoSpace 1) ∷ [];
        reads = [];
        locks = [];
        writes = [];
        snaps = (0 ∷ 0 ∷ 0 ∷ 0 ∷ []) ∷ [];
      } ∷
      record {
        events = tried 1 1 0 1 0 0 (Declined 1) ∷ tried 3 1 0 4 0 0 ReadOnly ∷ [];
        reads = item 0 0 None ∷ item 1 2 None ∷ item 1 2 None ∷ item 0 0 None ∷ item 0 1 (Some (12 ∷ [])) ∷ [];
        locks = [];
        writes = [];
        snaps = (0 ∷ 0 ∷ 0 ∷ 0 ∷ []) ∷ (0 ∷ 0 ∷ 0 ∷ 0 ∷ []) ∷ [];
      } ∷
      record {
        events = tried 2 1 0 1 0 0 (Locked (lock 0 0 0 0)) ∷ tried 2 2 0 1 0 0 (Newer (lock 0 0 1 1)) ∷ [];
        reads = item 1 0 (Some (6 ∷ 18446744073709551614 ∷ [])) ∷ item 1 0 (Some (6 ∷ 18446744073709551614 ∷ [])) ∷ [];
        locks = [];
        writes = [];
        snaps = (0 ∷ 0 ∷ 0 ∷ 0 ∷ []) ∷ (0 ∷ 0 ∷ 0 ∷ 0 ∷ []) ∷ [];
      } ∷
      [];
  audit = row 0 0 (Some (83 ∷ [])) false ∷ row 0 1 (Some (5 ∷ [])) false ∷
      row 1 0 (Some (6 ∷ 18446744073709551614 ∷ [])) false ∷ [];
}
unfolding of_random_12 stint_workers picked after_workers until_ended settle copies load_from
random_12 = refl

unfoldable of_random_13 : Scenario
of_random_13 = record {
  shape = shape Wide 2 (table 8 1 2 ∷ table 1 6 3 ∷ table 1 4 2 ∷ []) 2 3 0;
  rows = loaded 0 0 (12 ∷ 11 ∷ 0 ∷ 0 ∷ 0 ∷ 0 ∷ 8 ∷ 3 ∷ []) ∷ loaded 1 0 (9 ∷ []) ∷ loaded 1 2 (11 ∷ []) ∷
      loaded 1 3 (12 ∷ []) ∷ loaded 1 5 (0 ∷ []) ∷ loaded 1 6 (18446744073709551613 ∷ []) ∷ loaded 2 1 (11 ∷ []) ∷ [];
  policy = record { tries = 5; tidy = false };
  txns = txn 1 (Get 1 2 ∷ Add 1 5 1 true 0 ∷ Put 2 0 (8 ∷ []) ∷ Add 2 3 1 true 1 ∷ []) ∷
      txn 1 (Need 2 0 1 2 ∷ Put 2 3 (4 ∷ []) ∷ []) ∷ txn 2 (Get 1 4 ∷ Get 1 3 ∷ []) ∷
      txn 1 (Del 1 2 ∷ Add 1 4 1 false 2 ∷ Need 0 0 2 0 ∷ Get 2 2 ∷ []) ∷
      txn 1 (Need 1 4 1 0 ∷ Del 1 4 ∷ Put 1 5 (62 ∷ []) ∷ Add 2 2 1 true 10 ∷ []) ∷ txn 2 (Need 2 0 1 76 ∷ []) ∷
      txn 2 (Get 1 0 ∷ []) ∷ [];
  schedule = Stints (stint 2 17 ∷ stint 1 44 ∷ stint 2 38 ∷ stint 1 5 ∷ stint 2 58 ∷ stint 2 62 ∷ stint 1 67 ∷
      stint 2 7 ∷ []);
}

random_13 : shown of_random_13 (fuse 194 ∷ fuse 6 ∷ []) ≡ record {
  logs =
      record {
        events = tried 1 1 0 3 3 3 (Commit 1) ∷ tried 2 1 1 1 1 1 (Commit 2) ∷ tried 4 1 2 1 0 0 (Declined 2) ∷
            tried 5 1 2 2 3 3 (Commit 3) ∷ [];
        reads = item 1 2 (Some (11 ∷ [])) ∷ item 1 5 (Some (0 ∷ [])) ∷ item 2 3 None ∷ item 2 0 (Some (8 ∷ [])) ∷
            item 1 4 None ∷ item 1 4 None ∷ item 2 2 None ∷ [];
        locks = lock 1 5 0 0 ∷ lock 2 0 0 0 ∷ lock 2 3 0 0 ∷ lock 2 3 1 1 ∷ lock 1 4 0 0 ∷ lock 1 5 1 1 ∷ lock 2 2 0 0 ∷
            [];
        writes = item 1 5 (Some (0 ∷ [])) ∷ item 2 0 (Some (8 ∷ [])) ∷ item 2 3 (Some (1 ∷ [])) ∷
            item 2 3 (Some (4 ∷ [])) ∷ item 1 4 None ∷ item 1 5 (Some (62 ∷ [])) ∷ item 2 2 (Some (10 ∷ [])) ∷ [];
        snaps = (0 ∷ 0 ∷ []) ∷ (1 ∷ 0 ∷ []) ∷ (2 ∷ 0 ∷ []) ∷ (2 ∷ 0 ∷ []) ∷ [];
      } ∷
      record {
        events = tried 3 1 0 1 0 0 Cut ∷ [];
        reads = item 1 4 None ∷ [];
        locks = [];
        writes = [];
        snaps = (0 ∷ 0 ∷ []) ∷ [];
      } ∷
      [];
  audit = row 0 0 (Some (12 ∷ 11 ∷ 0 ∷ 0 ∷ 0 ∷ 0 ∷ 8 ∷ 3 ∷ [])) false ∷ row 1 0 (Some (9 ∷ [])) false ∷
      row 1 2 (Some (11 ∷ [])) false ∷ row 1 3 (Some (12 ∷ [])) false ∷ row 1 5 (Some (62 ∷ [])) false ∷
      row 1 6 (Some (18446744073709551613 ∷ [])) false ∷ row 2 0 (Some (8 ∷ [])) false ∷
      row 2 1 (Some (11 ∷ [])) false ∷ row 2 2 (Some (10 ∷ [])) false ∷ row 2 3 (Some (4 ∷ [])) false ∷ [];
}
unfolding of_random_13 stint_workers picked after_workers until_ended settle copies load_from
random_13 = refl
