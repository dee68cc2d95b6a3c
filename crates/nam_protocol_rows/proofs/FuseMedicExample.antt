-- A commit of two puts in form Held whose line fails at each verb in turn: its medic finishes it, and a worker that gets
-- both keys finds both writes or none.
use Rattle.std.proofs.Common.{◌≡◌, false, [], ◌∷◌, Some, refl}
use Rattle.si_model.specs.declared.log.Event.TheVariants.{Finished}
use Rattle.si_model.specs.declared.log.Finish.TheVariants.{Clean, Undone, RolledOn}
use Rattle.si_model.specs.declared.log.Outcome.TheVariants.{Commit, Cut, ReadOnly}
use Rattle.si_model.specs.declared.op.Op.TheVariants.{Get, Put}
use Rattle.nam_catalog.specs.declared.form.Form.TheVariants.{Held}
use Rattle.nam_protocol.specs.Schedule.{Scenario, Stints, stint_workers, picked, after_workers, until_ended}
use Rattle.nam_protocol.specs.Session.{settle}
use Rattle.nam_protocol.specs.Opening.{copies, load_from}
use Rattle.nam_protocol.proofs.Shown.{shape, table, loaded, txn, stint, up, fuse, item, row, lock, tried, unbegun}
use Rattle.nam_protocol.proofs.Shown.{shown}

unfoldable two_puts_and_two_gets : Scenario
two_puts_and_two_gets = record {
  shape = shape Held 2 (table 1 2 2 ∷ []) 1 1 0;
  rows = loaded 0 0 (0 ∷ []) ∷ loaded 0 1 (0 ∷ []) ∷ [];
  policy = record { tries = 1; tidy = false };
  txns = txn 1 (Put 0 0 (1 ∷ []) ∷ Put 0 1 (1 ∷ []) ∷ []) ∷ txn 2 (Get 0 0 ∷ Get 0 1 ∷ []) ∷ [];
  schedule = Stints (stint 1 100 ∷ []);
}

medic_of_fuse_1 : shown two_puts_and_two_gets (fuse 1 ∷ up ∷ []) ≡ record {
  logs =
      record {
        events = unbegun 1 1 Cut ∷ Finished Clean ∷ [];
        reads = [];
        locks = [];
        writes = [];
        snaps = [];
      } ∷
      record {
        events = tried 2 1 0 2 0 0 ReadOnly ∷ [];
        reads = item 0 0 (Some (0 ∷ [])) ∷ item 0 1 (Some (0 ∷ [])) ∷ [];
        locks = [];
        writes = [];
        snaps = (0 ∷ 0 ∷ []) ∷ [];
      } ∷
      [];
  audit = row 0 0 (Some (0 ∷ [])) false ∷ row 0 1 (Some (0 ∷ [])) false ∷ [];
}
unfolding two_puts_and_two_gets stint_workers picked after_workers until_ended settle copies load_from
medic_of_fuse_1 = refl

medic_of_fuse_2 : shown two_puts_and_two_gets (fuse 2 ∷ up ∷ []) ≡ record {
  logs =
      record {
        events = unbegun 1 1 Cut ∷ Finished Clean ∷ [];
        reads = [];
        locks = [];
        writes = [];
        snaps = [];
      } ∷
      record {
        events = tried 2 1 0 2 0 0 ReadOnly ∷ [];
        reads = item 0 0 (Some (0 ∷ [])) ∷ item 0 1 (Some (0 ∷ [])) ∷ [];
        locks = [];
        writes = [];
        snaps = (0 ∷ 0 ∷ []) ∷ [];
      } ∷
      [];
  audit = row 0 0 (Some (0 ∷ [])) false ∷ row 0 1 (Some (0 ∷ [])) false ∷ [];
}
unfolding two_puts_and_two_gets stint_workers picked after_workers until_ended settle copies load_from
medic_of_fuse_2 = refl

medic_of_fuse_3 : shown two_puts_and_two_gets (fuse 3 ∷ up ∷ []) ≡ record {
  logs =
      record {
        events = unbegun 1 1 Cut ∷ Finished Clean ∷ [];
        reads = [];
        locks = [];
        writes = [];
        snaps = [];
      } ∷
      record {
        events = tried 2 1 0 2 0 0 ReadOnly ∷ [];
        reads = item 0 0 (Some (0 ∷ [])) ∷ item 0 1 (Some (0 ∷ [])) ∷ [];
        locks = [];
        writes = [];
        snaps = (0 ∷ 0 ∷ []) ∷ [];
      } ∷
      [];
  audit = row 0 0 (Some (0 ∷ [])) false ∷ row 0 1 (Some (0 ∷ [])) false ∷ [];
}
unfolding two_puts_and_two_gets stint_workers picked after_workers until_ended settle copies load_from
medic_of_fuse_3 = refl

medic_of_fuse_4 : shown two_puts_and_two_gets (fuse 4 ∷ up ∷ []) ≡ record {
  logs =
      record {
        events = unbegun 1 1 Cut ∷ Finished Clean ∷ [];
        reads = [];
        locks = [];
        writes = [];
        snaps = [];
      } ∷
      record {
        events = tried 2 1 0 2 0 0 ReadOnly ∷ [];
        reads = item 0 0 (Some (0 ∷ [])) ∷ item 0 1 (Some (0 ∷ [])) ∷ [];
        locks = [];
        writes = [];
        snaps = (0 ∷ 0 ∷ []) ∷ [];
      } ∷
      [];
  audit = row 0 0 (Some (0 ∷ [])) false ∷ row 0 1 (Some (0 ∷ [])) false ∷ [];
}
unfolding two_puts_and_two_gets stint_workers picked after_workers until_ended settle copies load_from
medic_of_fuse_4 = refl

medic_of_fuse_5 : shown two_puts_and_two_gets (fuse 5 ∷ up ∷ []) ≡ record {
  logs =
      record {
        events = tried 1 1 0 0 0 0 Cut ∷ Finished Clean ∷ [];
        reads = [];
        locks = [];
        writes = [];
        snaps = (0 ∷ 0 ∷ []) ∷ [];
      } ∷
      record {
        events = tried 2 1 0 2 0 0 ReadOnly ∷ [];
        reads = item 0 0 (Some (0 ∷ [])) ∷ item 0 1 (Some (0 ∷ [])) ∷ [];
        locks = [];
        writes = [];
        snaps = (0 ∷ 0 ∷ []) ∷ [];
      } ∷
      [];
  audit = row 0 0 (Some (0 ∷ [])) false ∷ row 0 1 (Some (0 ∷ [])) false ∷ [];
}
unfolding two_puts_and_two_gets stint_workers picked after_workers until_ended settle copies load_from
medic_of_fuse_5 = refl

medic_of_fuse_6 : shown two_puts_and_two_gets (fuse 6 ∷ up ∷ []) ≡ record {
  logs =
      record {
        events = tried 1 1 0 0 0 0 Cut ∷ Finished Clean ∷ [];
        reads = [];
        locks = [];
        writes = [];
        snaps = (0 ∷ 0 ∷ []) ∷ [];
      } ∷
      record {
        events = tried 2 1 0 2 0 0 ReadOnly ∷ [];
        reads = item 0 0 (Some (0 ∷ [])) ∷ item 0 1 (Some (0 ∷ [])) ∷ [];
        locks = [];
        writes = [];
        snaps = (0 ∷ 0 ∷ []) ∷ [];
      } ∷
      [];
  audit = row 0 0 (Some (0 ∷ [])) false ∷ row 0 1 (Some (0 ∷ [])) false ∷ [];
}
unfolding two_puts_and_two_gets stint_workers picked after_workers until_ended settle copies load_from
medic_of_fuse_6 = refl

medic_of_fuse_7 : shown two_puts_and_two_gets (fuse 7 ∷ up ∷ []) ≡ record {
  logs =
      record {
        events = tried 1 1 0 0 0 0 Cut ∷ Finished Clean ∷ [];
        reads = [];
        locks = [];
        writes = [];
        snaps = (0 ∷ 0 ∷ []) ∷ [];
      } ∷
      record {
        events = tried 2 1 0 2 0 0 ReadOnly ∷ [];
        reads = item 0 0 (Some (0 ∷ [])) ∷ item 0 1 (Some (0 ∷ [])) ∷ [];
        locks = [];
        writes = [];
        snaps = (0 ∷ 0 ∷ []) ∷ [];
      } ∷
      [];
  audit = row 0 0 (Some (0 ∷ [])) false ∷ row 0 1 (Some (0 ∷ [])) false ∷ [];
}
unfolding two_puts_and_two_gets stint_workers picked after_workers until_ended settle copies load_from
medic_of_fuse_7 = refl

medic_of_fuse_8 : shown two_puts_and_two_gets (fuse 8 ∷ up ∷ []) ≡ record {
  logs =
      record {
        events = tried 1 1 0 0 0 0 Cut ∷ Finished Clean ∷ [];
        reads = [];
        locks = [];
        writes = [];
        snaps = (0 ∷ 0 ∷ []) ∷ [];
      } ∷
      record {
        events = tried 2 1 0 2 0 0 ReadOnly ∷ [];
        reads = item 0 0 (Some (0 ∷ [])) ∷ item 0 1 (Some (0 ∷ [])) ∷ [];
        locks = [];
        writes = [];
        snaps = (0 ∷ 0 ∷ []) ∷ [];
      } ∷
      [];
  audit = row 0 0 (Some (0 ∷ [])) false ∷ row 0 1 (Some (0 ∷ [])) false ∷ [];
}
unfolding two_puts_and_two_gets stint_workers picked after_workers until_ended settle copies load_from
medic_of_fuse_8 = refl

medic_of_fuse_9 : shown two_puts_and_two_gets (fuse 9 ∷ up ∷ []) ≡ record {
  logs =
      record {
        events = tried 1 1 0 0 0 0 Cut ∷ Finished Clean ∷ [];
        reads = [];
        locks = [];
        writes = [];
        snaps = (0 ∷ 0 ∷ []) ∷ [];
      } ∷
      record {
        events = tried 2 1 0 2 0 0 ReadOnly ∷ [];
        reads = item 0 0 (Some (0 ∷ [])) ∷ item 0 1 (Some (0 ∷ [])) ∷ [];
        locks = [];
        writes = [];
        snaps = (0 ∷ 0 ∷ []) ∷ [];
      } ∷
      [];
  audit = row 0 0 (Some (0 ∷ [])) false ∷ row 0 1 (Some (0 ∷ [])) false ∷ [];
}
unfolding two_puts_and_two_gets stint_workers picked after_workers until_ended settle copies load_from
medic_of_fuse_9 = refl

medic_of_fuse_10 : shown two_puts_and_two_gets (fuse 10 ∷ up ∷ []) ≡ record {
  logs =
      record {
        events = tried 1 1 0 0 0 0 Cut ∷ Finished Clean ∷ [];
        reads = [];
        locks = [];
        writes = [];
        snaps = (0 ∷ 0 ∷ []) ∷ [];
      } ∷
      record {
        events = tried 2 1 0 2 0 0 ReadOnly ∷ [];
        reads = item 0 0 (Some (0 ∷ [])) ∷ item 0 1 (Some (0 ∷ [])) ∷ [];
        locks = [];
        writes = [];
        snaps = (0 ∷ 0 ∷ []) ∷ [];
      } ∷
      [];
  audit = row 0 0 (Some (0 ∷ [])) false ∷ row 0 1 (Some (0 ∷ [])) false ∷ [];
}
unfolding two_puts_and_two_gets stint_workers picked after_workers until_ended settle copies load_from
medic_of_fuse_10 = refl

medic_of_fuse_11 : shown two_puts_and_two_gets (fuse 11 ∷ up ∷ []) ≡ record {
  logs =
      record {
        events = tried 1 1 0 0 0 0 Cut ∷ Finished Clean ∷ [];
        reads = [];
        locks = [];
        writes = [];
        snaps = (0 ∷ 0 ∷ []) ∷ [];
      } ∷
      record {
        events = tried 2 1 0 2 0 0 ReadOnly ∷ [];
        reads = item 0 0 (Some (0 ∷ [])) ∷ item 0 1 (Some (0 ∷ [])) ∷ [];
        locks = [];
        writes = [];
        snaps = (0 ∷ 0 ∷ []) ∷ [];
      } ∷
      [];
  audit = row 0 0 (Some (0 ∷ [])) false ∷ row 0 1 (Some (0 ∷ [])) false ∷ [];
}
unfolding two_puts_and_two_gets stint_workers picked after_workers until_ended settle copies load_from
medic_of_fuse_11 = refl

medic_of_fuse_12 : shown two_puts_and_two_gets (fuse 12 ∷ up ∷ []) ≡ record {
  logs =
      record {
        events = tried 1 1 0 0 0 0 Cut ∷ Finished Clean ∷ [];
        reads = [];
        locks = [];
        writes = [];
        snaps = (0 ∷ 0 ∷ []) ∷ [];
      } ∷
      record {
        events = tried 2 1 0 2 0 0 ReadOnly ∷ [];
        reads = item 0 0 (Some (0 ∷ [])) ∷ item 0 1 (Some (0 ∷ [])) ∷ [];
        locks = [];
        writes = [];
        snaps = (0 ∷ 0 ∷ []) ∷ [];
      } ∷
      [];
  audit = row 0 0 (Some (0 ∷ [])) false ∷ row 0 1 (Some (0 ∷ [])) false ∷ [];
}
unfolding two_puts_and_two_gets stint_workers picked after_workers until_ended settle copies load_from
medic_of_fuse_12 = refl

medic_of_fuse_13 : shown two_puts_and_two_gets (fuse 13 ∷ up ∷ []) ≡ record {
  logs =
      record {
        events = tried 1 1 0 0 0 0 Cut ∷ Finished Clean ∷ [];
        reads = [];
        locks = [];
        writes = [];
        snaps = (0 ∷ 0 ∷ []) ∷ [];
      } ∷
      record {
        events = tried 2 1 0 2 0 0 ReadOnly ∷ [];
        reads = item 0 0 (Some (0 ∷ [])) ∷ item 0 1 (Some (0 ∷ [])) ∷ [];
        locks = [];
        writes = [];
        snaps = (0 ∷ 0 ∷ []) ∷ [];
      } ∷
      [];
  audit = row 0 0 (Some (0 ∷ [])) false ∷ row 0 1 (Some (0 ∷ [])) false ∷ [];
}
unfolding two_puts_and_two_gets stint_workers picked after_workers until_ended settle copies load_from
medic_of_fuse_13 = refl

medic_of_fuse_14 : shown two_puts_and_two_gets (fuse 14 ∷ up ∷ []) ≡ record {
  logs =
      record {
        events = tried 1 1 0 0 0 0 Cut ∷ Finished Clean ∷ [];
        reads = [];
        locks = [];
        writes = [];
        snaps = (0 ∷ 0 ∷ []) ∷ [];
      } ∷
      record {
        events = tried 2 1 0 2 0 0 ReadOnly ∷ [];
        reads = item 0 0 (Some (0 ∷ [])) ∷ item 0 1 (Some (0 ∷ [])) ∷ [];
        locks = [];
        writes = [];
        snaps = (0 ∷ 0 ∷ []) ∷ [];
      } ∷
      [];
  audit = row 0 0 (Some (0 ∷ [])) false ∷ row 0 1 (Some (0 ∷ [])) false ∷ [];
}
unfolding two_puts_and_two_gets stint_workers picked after_workers until_ended settle copies load_from
medic_of_fuse_14 = refl

medic_of_fuse_15 : shown two_puts_and_two_gets (fuse 15 ∷ up ∷ []) ≡ record {
  logs =
      record {
        events = tried 1 1 0 0 0 0 Cut ∷ Finished Undone ∷ [];
        reads = [];
        locks = [];
        writes = [];
        snaps = (0 ∷ 0 ∷ []) ∷ [];
      } ∷
      record {
        events = tried 2 1 0 2 0 0 ReadOnly ∷ [];
        reads = item 0 0 (Some (0 ∷ [])) ∷ item 0 1 (Some (0 ∷ [])) ∷ [];
        locks = [];
        writes = [];
        snaps = (0 ∷ 0 ∷ []) ∷ [];
      } ∷
      [];
  audit = row 0 0 (Some (0 ∷ [])) false ∷ row 0 1 (Some (0 ∷ [])) false ∷ [];
}
unfolding two_puts_and_two_gets stint_workers picked after_workers until_ended settle copies load_from
medic_of_fuse_15 = refl

medic_of_fuse_16 : shown two_puts_and_two_gets (fuse 16 ∷ up ∷ []) ≡ record {
  logs =
      record {
        events = tried 1 1 0 0 0 0 Cut ∷ Finished Undone ∷ [];
        reads = [];
        locks = [];
        writes = [];
        snaps = (0 ∷ 0 ∷ []) ∷ [];
      } ∷
      record {
        events = tried 2 1 0 2 0 0 ReadOnly ∷ [];
        reads = item 0 0 (Some (0 ∷ [])) ∷ item 0 1 (Some (0 ∷ [])) ∷ [];
        locks = [];
        writes = [];
        snaps = (0 ∷ 0 ∷ []) ∷ [];
      } ∷
      [];
  audit = row 0 0 (Some (0 ∷ [])) false ∷ row 0 1 (Some (0 ∷ [])) false ∷ [];
}
unfolding two_puts_and_two_gets stint_workers picked after_workers until_ended settle copies load_from
medic_of_fuse_16 = refl

medic_of_fuse_17 : shown two_puts_and_two_gets (fuse 17 ∷ up ∷ []) ≡ record {
  logs =
      record {
        events = tried 1 1 0 0 1 0 Cut ∷ Finished Undone ∷ [];
        reads = [];
        locks = lock 0 0 0 0 ∷ [];
        writes = [];
        snaps = (0 ∷ 0 ∷ []) ∷ [];
      } ∷
      record {
        events = tried 2 1 0 2 0 0 ReadOnly ∷ [];
        reads = item 0 0 (Some (0 ∷ [])) ∷ item 0 1 (Some (0 ∷ [])) ∷ [];
        locks = [];
        writes = [];
        snaps = (0 ∷ 0 ∷ []) ∷ [];
      } ∷
      [];
  audit = row 0 0 (Some (0 ∷ [])) false ∷ row 0 1 (Some (0 ∷ [])) false ∷ [];
}
unfolding two_puts_and_two_gets stint_workers picked after_workers until_ended settle copies load_from
medic_of_fuse_17 = refl

medic_of_fuse_18 : shown two_puts_and_two_gets (fuse 18 ∷ up ∷ []) ≡ record {
  logs =
      record {
        events = tried 1 1 0 0 1 0 Cut ∷ Finished Undone ∷ [];
        reads = [];
        locks = lock 0 0 0 0 ∷ [];
        writes = [];
        snaps = (0 ∷ 0 ∷ []) ∷ [];
      } ∷
      record {
        events = tried 2 1 0 2 0 0 ReadOnly ∷ [];
        reads = item 0 0 (Some (0 ∷ [])) ∷ item 0 1 (Some (0 ∷ [])) ∷ [];
        locks = [];
        writes = [];
        snaps = (0 ∷ 0 ∷ []) ∷ [];
      } ∷
      [];
  audit = row 0 0 (Some (0 ∷ [])) false ∷ row 0 1 (Some (0 ∷ [])) false ∷ [];
}
unfolding two_puts_and_two_gets stint_workers picked after_workers until_ended settle copies load_from
medic_of_fuse_18 = refl

medic_of_fuse_19 : shown two_puts_and_two_gets (fuse 19 ∷ up ∷ []) ≡ record {
  logs =
      record {
        events = tried 1 1 0 0 2 0 Cut ∷ Finished Undone ∷ [];
        reads = [];
        locks = lock 0 0 0 0 ∷ lock 0 1 0 0 ∷ [];
        writes = [];
        snaps = (0 ∷ 0 ∷ []) ∷ [];
      } ∷
      record {
        events = tried 2 1 0 2 0 0 ReadOnly ∷ [];
        reads = item 0 0 (Some (0 ∷ [])) ∷ item 0 1 (Some (0 ∷ [])) ∷ [];
        locks = [];
        writes = [];
        snaps = (0 ∷ 0 ∷ []) ∷ [];
      } ∷
      [];
  audit = row 0 0 (Some (0 ∷ [])) false ∷ row 0 1 (Some (0 ∷ [])) false ∷ [];
}
unfolding two_puts_and_two_gets stint_workers picked after_workers until_ended settle copies load_from
medic_of_fuse_19 = refl

medic_of_fuse_20 : shown two_puts_and_two_gets (fuse 20 ∷ up ∷ []) ≡ record {
  logs =
      record {
        events = tried 1 1 0 0 2 0 Cut ∷ Finished Undone ∷ [];
        reads = [];
        locks = lock 0 0 0 0 ∷ lock 0 1 0 0 ∷ [];
        writes = [];
        snaps = (0 ∷ 0 ∷ []) ∷ [];
      } ∷
      record {
        events = tried 2 1 0 2 0 0 ReadOnly ∷ [];
        reads = item 0 0 (Some (0 ∷ [])) ∷ item 0 1 (Some (0 ∷ [])) ∷ [];
        locks = [];
        writes = [];
        snaps = (0 ∷ 0 ∷ []) ∷ [];
      } ∷
      [];
  audit = row 0 0 (Some (0 ∷ [])) false ∷ row 0 1 (Some (0 ∷ [])) false ∷ [];
}
unfolding two_puts_and_two_gets stint_workers picked after_workers until_ended settle copies load_from
medic_of_fuse_20 = refl

medic_of_fuse_21 : shown two_puts_and_two_gets (fuse 21 ∷ up ∷ []) ≡ record {
  logs =
      record {
        events = tried 1 1 0 0 2 0 Cut ∷ Finished Undone ∷ [];
        reads = [];
        locks = lock 0 0 0 0 ∷ lock 0 1 0 0 ∷ [];
        writes = [];
        snaps = (0 ∷ 0 ∷ []) ∷ [];
      } ∷
      record {
        events = tried 2 1 0 2 0 0 ReadOnly ∷ [];
        reads = item 0 0 (Some (0 ∷ [])) ∷ item 0 1 (Some (0 ∷ [])) ∷ [];
        locks = [];
        writes = [];
        snaps = (0 ∷ 0 ∷ []) ∷ [];
      } ∷
      [];
  audit = row 0 0 (Some (0 ∷ [])) false ∷ row 0 1 (Some (0 ∷ [])) false ∷ [];
}
unfolding two_puts_and_two_gets stint_workers picked after_workers until_ended settle copies load_from
medic_of_fuse_21 = refl

medic_of_fuse_22 : shown two_puts_and_two_gets (fuse 22 ∷ up ∷ []) ≡ record {
  logs =
      record {
        events = tried 1 1 0 0 2 0 Cut ∷ Finished Undone ∷ [];
        reads = [];
        locks = lock 0 0 0 0 ∷ lock 0 1 0 0 ∷ [];
        writes = [];
        snaps = (0 ∷ 0 ∷ []) ∷ [];
      } ∷
      record {
        events = tried 2 1 0 2 0 0 ReadOnly ∷ [];
        reads = item 0 0 (Some (0 ∷ [])) ∷ item 0 1 (Some (0 ∷ [])) ∷ [];
        locks = [];
        writes = [];
        snaps = (0 ∷ 0 ∷ []) ∷ [];
      } ∷
      [];
  audit = row 0 0 (Some (0 ∷ [])) false ∷ row 0 1 (Some (0 ∷ [])) false ∷ [];
}
unfolding two_puts_and_two_gets stint_workers picked after_workers until_ended settle copies load_from
medic_of_fuse_22 = refl

medic_of_fuse_23 : shown two_puts_and_two_gets (fuse 23 ∷ up ∷ []) ≡ record {
  logs =
      record {
        events = tried 1 1 0 0 2 0 Cut ∷ Finished Undone ∷ [];
        reads = [];
        locks = lock 0 0 0 0 ∷ lock 0 1 0 0 ∷ [];
        writes = [];
        snaps = (0 ∷ 0 ∷ []) ∷ [];
      } ∷
      record {
        events = tried 2 1 0 2 0 0 ReadOnly ∷ [];
        reads = item 0 0 (Some (0 ∷ [])) ∷ item 0 1 (Some (0 ∷ [])) ∷ [];
        locks = [];
        writes = [];
        snaps = (0 ∷ 0 ∷ []) ∷ [];
      } ∷
      [];
  audit = row 0 0 (Some (0 ∷ [])) false ∷ row 0 1 (Some (0 ∷ [])) false ∷ [];
}
unfolding two_puts_and_two_gets stint_workers picked after_workers until_ended settle copies load_from
medic_of_fuse_23 = refl

medic_of_fuse_24 : shown two_puts_and_two_gets (fuse 24 ∷ up ∷ []) ≡ record {
  logs =
      record {
        events = tried 1 1 0 0 2 0 Cut ∷ Finished Undone ∷ [];
        reads = [];
        locks = lock 0 0 0 0 ∷ lock 0 1 0 0 ∷ [];
        writes = [];
        snaps = (0 ∷ 0 ∷ []) ∷ [];
      } ∷
      record {
        events = tried 2 1 0 2 0 0 ReadOnly ∷ [];
        reads = item 0 0 (Some (0 ∷ [])) ∷ item 0 1 (Some (0 ∷ [])) ∷ [];
        locks = [];
        writes = [];
        snaps = (0 ∷ 0 ∷ []) ∷ [];
      } ∷
      [];
  audit = row 0 0 (Some (0 ∷ [])) false ∷ row 0 1 (Some (0 ∷ [])) false ∷ [];
}
unfolding two_puts_and_two_gets stint_workers picked after_workers until_ended settle copies load_from
medic_of_fuse_24 = refl

medic_of_fuse_25 : shown two_puts_and_two_gets (fuse 25 ∷ up ∷ []) ≡ record {
  logs =
      record {
        events = tried 1 1 0 0 2 0 Cut ∷ Finished Undone ∷ [];
        reads = [];
        locks = lock 0 0 0 0 ∷ lock 0 1 0 0 ∷ [];
        writes = [];
        snaps = (0 ∷ 0 ∷ []) ∷ [];
      } ∷
      record {
        events = tried 2 1 0 2 0 0 ReadOnly ∷ [];
        reads = item 0 0 (Some (0 ∷ [])) ∷ item 0 1 (Some (0 ∷ [])) ∷ [];
        locks = [];
        writes = [];
        snaps = (0 ∷ 0 ∷ []) ∷ [];
      } ∷
      [];
  audit = row 0 0 (Some (0 ∷ [])) false ∷ row 0 1 (Some (0 ∷ [])) false ∷ [];
}
unfolding two_puts_and_two_gets stint_workers picked after_workers until_ended settle copies load_from
medic_of_fuse_25 = refl

medic_of_fuse_26 : shown two_puts_and_two_gets (fuse 26 ∷ up ∷ []) ≡ record {
  logs =
      record {
        events = tried 1 1 0 0 2 2 (Commit 1) ∷ Finished RolledOn ∷ [];
        reads = [];
        locks = lock 0 0 0 0 ∷ lock 0 1 0 0 ∷ [];
        writes = item 0 0 (Some (1 ∷ [])) ∷ item 0 1 (Some (1 ∷ [])) ∷ [];
        snaps = (0 ∷ 0 ∷ []) ∷ [];
      } ∷
      record {
        events = tried 2 1 1 2 0 0 ReadOnly ∷ [];
        reads = item 0 0 (Some (1 ∷ [])) ∷ item 0 1 (Some (1 ∷ [])) ∷ [];
        locks = [];
        writes = [];
        snaps = (1 ∷ 0 ∷ []) ∷ [];
      } ∷
      [];
  audit = row 0 0 (Some (1 ∷ [])) false ∷ row 0 1 (Some (1 ∷ [])) false ∷ [];
}
unfolding two_puts_and_two_gets stint_workers picked after_workers until_ended settle copies load_from
medic_of_fuse_26 = refl

medic_of_fuse_27 : shown two_puts_and_two_gets (fuse 27 ∷ up ∷ []) ≡ record {
  logs =
      record {
        events = tried 1 1 0 0 2 2 (Commit 1) ∷ Finished RolledOn ∷ [];
        reads = [];
        locks = lock 0 0 0 0 ∷ lock 0 1 0 0 ∷ [];
        writes = item 0 0 (Some (1 ∷ [])) ∷ item 0 1 (Some (1 ∷ [])) ∷ [];
        snaps = (0 ∷ 0 ∷ []) ∷ [];
      } ∷
      record {
        events = tried 2 1 1 2 0 0 ReadOnly ∷ [];
        reads = item 0 0 (Some (1 ∷ [])) ∷ item 0 1 (Some (1 ∷ [])) ∷ [];
        locks = [];
        writes = [];
        snaps = (1 ∷ 0 ∷ []) ∷ [];
      } ∷
      [];
  audit = row 0 0 (Some (1 ∷ [])) false ∷ row 0 1 (Some (1 ∷ [])) false ∷ [];
}
unfolding two_puts_and_two_gets stint_workers picked after_workers until_ended settle copies load_from
medic_of_fuse_27 = refl

medic_of_fuse_28 : shown two_puts_and_two_gets (fuse 28 ∷ up ∷ []) ≡ record {
  logs =
      record {
        events = tried 1 1 0 0 2 2 (Commit 1) ∷ Finished RolledOn ∷ [];
        reads = [];
        locks = lock 0 0 0 0 ∷ lock 0 1 0 0 ∷ [];
        writes = item 0 0 (Some (1 ∷ [])) ∷ item 0 1 (Some (1 ∷ [])) ∷ [];
        snaps = (0 ∷ 0 ∷ []) ∷ [];
      } ∷
      record {
        events = tried 2 1 1 2 0 0 ReadOnly ∷ [];
        reads = item 0 0 (Some (1 ∷ [])) ∷ item 0 1 (Some (1 ∷ [])) ∷ [];
        locks = [];
        writes = [];
        snaps = (1 ∷ 0 ∷ []) ∷ [];
      } ∷
      [];
  audit = row 0 0 (Some (1 ∷ [])) false ∷ row 0 1 (Some (1 ∷ [])) false ∷ [];
}
unfolding two_puts_and_two_gets stint_workers picked after_workers until_ended settle copies load_from
medic_of_fuse_28 = refl

medic_of_fuse_29 : shown two_puts_and_two_gets (fuse 29 ∷ up ∷ []) ≡ record {
  logs =
      record {
        events = tried 1 1 0 0 2 2 (Commit 1) ∷ Finished RolledOn ∷ [];
        reads = [];
        locks = lock 0 0 0 0 ∷ lock 0 1 0 0 ∷ [];
        writes = item 0 0 (Some (1 ∷ [])) ∷ item 0 1 (Some (1 ∷ [])) ∷ [];
        snaps = (0 ∷ 0 ∷ []) ∷ [];
      } ∷
      record {
        events = tried 2 1 1 2 0 0 ReadOnly ∷ [];
        reads = item 0 0 (Some (1 ∷ [])) ∷ item 0 1 (Some (1 ∷ [])) ∷ [];
        locks = [];
        writes = [];
        snaps = (1 ∷ 0 ∷ []) ∷ [];
      } ∷
      [];
  audit = row 0 0 (Some (1 ∷ [])) false ∷ row 0 1 (Some (1 ∷ [])) false ∷ [];
}
unfolding two_puts_and_two_gets stint_workers picked after_workers until_ended settle copies load_from
medic_of_fuse_29 = refl

medic_of_fuse_30 : shown two_puts_and_two_gets (fuse 30 ∷ up ∷ []) ≡ record {
  logs =
      record {
        events = tried 1 1 0 0 2 2 (Commit 1) ∷ Finished RolledOn ∷ [];
        reads = [];
        locks = lock 0 0 0 0 ∷ lock 0 1 0 0 ∷ [];
        writes = item 0 0 (Some (1 ∷ [])) ∷ item 0 1 (Some (1 ∷ [])) ∷ [];
        snaps = (0 ∷ 0 ∷ []) ∷ [];
      } ∷
      record {
        events = tried 2 1 1 2 0 0 ReadOnly ∷ [];
        reads = item 0 0 (Some (1 ∷ [])) ∷ item 0 1 (Some (1 ∷ [])) ∷ [];
        locks = [];
        writes = [];
        snaps = (1 ∷ 0 ∷ []) ∷ [];
      } ∷
      [];
  audit = row 0 0 (Some (1 ∷ [])) false ∷ row 0 1 (Some (1 ∷ [])) false ∷ [];
}
unfolding two_puts_and_two_gets stint_workers picked after_workers until_ended settle copies load_from
medic_of_fuse_30 = refl

medic_of_fuse_31 : shown two_puts_and_two_gets (fuse 31 ∷ up ∷ []) ≡ record {
  logs =
      record {
        events = tried 1 1 0 0 2 2 (Commit 1) ∷ Finished RolledOn ∷ [];
        reads = [];
        locks = lock 0 0 0 0 ∷ lock 0 1 0 0 ∷ [];
        writes = item 0 0 (Some (1 ∷ [])) ∷ item 0 1 (Some (1 ∷ [])) ∷ [];
        snaps = (0 ∷ 0 ∷ []) ∷ [];
      } ∷
      record {
        events = tried 2 1 1 2 0 0 ReadOnly ∷ [];
        reads = item 0 0 (Some (1 ∷ [])) ∷ item 0 1 (Some (1 ∷ [])) ∷ [];
        locks = [];
        writes = [];
        snaps = (1 ∷ 0 ∷ []) ∷ [];
      } ∷
      [];
  audit = row 0 0 (Some (1 ∷ [])) false ∷ row 0 1 (Some (1 ∷ [])) false ∷ [];
}
unfolding two_puts_and_two_gets stint_workers picked after_workers until_ended settle copies load_from
medic_of_fuse_31 = refl

medic_of_fuse_32 : shown two_puts_and_two_gets (fuse 32 ∷ up ∷ []) ≡ record {
  logs =
      record {
        events = tried 1 1 0 0 2 2 (Commit 1) ∷ Finished RolledOn ∷ [];
        reads = [];
        locks = lock 0 0 0 0 ∷ lock 0 1 0 0 ∷ [];
        writes = item 0 0 (Some (1 ∷ [])) ∷ item 0 1 (Some (1 ∷ [])) ∷ [];
        snaps = (0 ∷ 0 ∷ []) ∷ [];
      } ∷
      record {
        events = tried 2 1 1 2 0 0 ReadOnly ∷ [];
        reads = item 0 0 (Some (1 ∷ [])) ∷ item 0 1 (Some (1 ∷ [])) ∷ [];
        locks = [];
        writes = [];
        snaps = (1 ∷ 0 ∷ []) ∷ [];
      } ∷
      [];
  audit = row 0 0 (Some (1 ∷ [])) false ∷ row 0 1 (Some (1 ∷ [])) false ∷ [];
}
unfolding two_puts_and_two_gets stint_workers picked after_workers until_ended settle copies load_from
medic_of_fuse_32 = refl

medic_of_fuse_33 : shown two_puts_and_two_gets (fuse 33 ∷ up ∷ []) ≡ record {
  logs =
      record {
        events = tried 1 1 0 0 2 2 (Commit 1) ∷ Finished RolledOn ∷ [];
        reads = [];
        locks = lock 0 0 0 0 ∷ lock 0 1 0 0 ∷ [];
        writes = item 0 0 (Some (1 ∷ [])) ∷ item 0 1 (Some (1 ∷ [])) ∷ [];
        snaps = (0 ∷ 0 ∷ []) ∷ [];
      } ∷
      record {
        events = tried 2 1 1 2 0 0 ReadOnly ∷ [];
        reads = item 0 0 (Some (1 ∷ [])) ∷ item 0 1 (Some (1 ∷ [])) ∷ [];
        locks = [];
        writes = [];
        snaps = (1 ∷ 0 ∷ []) ∷ [];
      } ∷
      [];
  audit = row 0 0 (Some (1 ∷ [])) false ∷ row 0 1 (Some (1 ∷ [])) false ∷ [];
}
unfolding two_puts_and_two_gets stint_workers picked after_workers until_ended settle copies load_from
medic_of_fuse_33 = refl

medic_of_fuse_34 : shown two_puts_and_two_gets (fuse 34 ∷ up ∷ []) ≡ record {
  logs =
      record {
        events = tried 1 1 0 0 2 2 (Commit 1) ∷ Finished RolledOn ∷ [];
        reads = [];
        locks = lock 0 0 0 0 ∷ lock 0 1 0 0 ∷ [];
        writes = item 0 0 (Some (1 ∷ [])) ∷ item 0 1 (Some (1 ∷ [])) ∷ [];
        snaps = (0 ∷ 0 ∷ []) ∷ [];
      } ∷
      record {
        events = tried 2 1 1 2 0 0 ReadOnly ∷ [];
        reads = item 0 0 (Some (1 ∷ [])) ∷ item 0 1 (Some (1 ∷ [])) ∷ [];
        locks = [];
        writes = [];
        snaps = (1 ∷ 0 ∷ []) ∷ [];
      } ∷
      [];
  audit = row 0 0 (Some (1 ∷ [])) false ∷ row 0 1 (Some (1 ∷ [])) false ∷ [];
}
unfolding two_puts_and_two_gets stint_workers picked after_workers until_ended settle copies load_from
medic_of_fuse_34 = refl

medic_of_fuse_35 : shown two_puts_and_two_gets (fuse 35 ∷ up ∷ []) ≡ record {
  logs =
      record {
        events = tried 1 1 0 0 2 2 (Commit 1) ∷ Finished RolledOn ∷ [];
        reads = [];
        locks = lock 0 0 0 0 ∷ lock 0 1 0 0 ∷ [];
        writes = item 0 0 (Some (1 ∷ [])) ∷ item 0 1 (Some (1 ∷ [])) ∷ [];
        snaps = (0 ∷ 0 ∷ []) ∷ [];
      } ∷
      record {
        events = tried 2 1 1 2 0 0 ReadOnly ∷ [];
        reads = item 0 0 (Some (1 ∷ [])) ∷ item 0 1 (Some (1 ∷ [])) ∷ [];
        locks = [];
        writes = [];
        snaps = (1 ∷ 0 ∷ []) ∷ [];
      } ∷
      [];
  audit = row 0 0 (Some (1 ∷ [])) false ∷ row 0 1 (Some (1 ∷ [])) false ∷ [];
}
unfolding two_puts_and_two_gets stint_workers picked after_workers until_ended settle copies load_from
medic_of_fuse_35 = refl

medic_of_fuse_36 : shown two_puts_and_two_gets (fuse 36 ∷ up ∷ []) ≡ record {
  logs =
      record {
        events = tried 1 1 0 0 2 2 (Commit 1) ∷ Finished RolledOn ∷ [];
        reads = [];
        locks = lock 0 0 0 0 ∷ lock 0 1 0 0 ∷ [];
        writes = item 0 0 (Some (1 ∷ [])) ∷ item 0 1 (Some (1 ∷ [])) ∷ [];
        snaps = (0 ∷ 0 ∷ []) ∷ [];
      } ∷
      record {
        events = tried 2 1 1 2 0 0 ReadOnly ∷ [];
        reads = item 0 0 (Some (1 ∷ [])) ∷ item 0 1 (Some (1 ∷ [])) ∷ [];
        locks = [];
        writes = [];
        snaps = (1 ∷ 0 ∷ []) ∷ [];
      } ∷
      [];
  audit = row 0 0 (Some (1 ∷ [])) false ∷ row 0 1 (Some (1 ∷ [])) false ∷ [];
}
unfolding two_puts_and_two_gets stint_workers picked after_workers until_ended settle copies load_from
medic_of_fuse_36 = refl

medic_of_fuse_37 : shown two_puts_and_two_gets (fuse 37 ∷ up ∷ []) ≡ record {
  logs =
      record {
        events = tried 1 1 0 0 2 2 (Commit 1) ∷ Finished RolledOn ∷ [];
        reads = [];
        locks = lock 0 0 0 0 ∷ lock 0 1 0 0 ∷ [];
        writes = item 0 0 (Some (1 ∷ [])) ∷ item 0 1 (Some (1 ∷ [])) ∷ [];
        snaps = (0 ∷ 0 ∷ []) ∷ [];
      } ∷
      record {
        events = tried 2 1 1 2 0 0 ReadOnly ∷ [];
        reads = item 0 0 (Some (1 ∷ [])) ∷ item 0 1 (Some (1 ∷ [])) ∷ [];
        locks = [];
        writes = [];
        snaps = (1 ∷ 0 ∷ []) ∷ [];
      } ∷
      [];
  audit = row 0 0 (Some (1 ∷ [])) false ∷ row 0 1 (Some (1 ∷ [])) false ∷ [];
}
unfolding two_puts_and_two_gets stint_workers picked after_workers until_ended settle copies load_from
medic_of_fuse_37 = refl

medic_of_fuse_38 : shown two_puts_and_two_gets (fuse 38 ∷ up ∷ []) ≡ record {
  logs =
      record {
        events = tried 1 1 0 0 2 2 (Commit 1) ∷ Finished RolledOn ∷ [];
        reads = [];
        locks = lock 0 0 0 0 ∷ lock 0 1 0 0 ∷ [];
        writes = item 0 0 (Some (1 ∷ [])) ∷ item 0 1 (Some (1 ∷ [])) ∷ [];
        snaps = (0 ∷ 0 ∷ []) ∷ [];
      } ∷
      record {
        events = tried 2 1 1 2 0 0 ReadOnly ∷ [];
        reads = item 0 0 (Some (1 ∷ [])) ∷ item 0 1 (Some (1 ∷ [])) ∷ [];
        locks = [];
        writes = [];
        snaps = (1 ∷ 0 ∷ []) ∷ [];
      } ∷
      [];
  audit = row 0 0 (Some (1 ∷ [])) false ∷ row 0 1 (Some (1 ∷ [])) false ∷ [];
}
unfolding two_puts_and_two_gets stint_workers picked after_workers until_ended settle copies load_from
medic_of_fuse_38 = refl

medic_of_fuse_39 : shown two_puts_and_two_gets (fuse 39 ∷ up ∷ []) ≡ record {
  logs =
      record {
        events = tried 1 1 0 0 2 2 (Commit 1) ∷ Finished RolledOn ∷ [];
        reads = [];
        locks = lock 0 0 0 0 ∷ lock 0 1 0 0 ∷ [];
        writes = item 0 0 (Some (1 ∷ [])) ∷ item 0 1 (Some (1 ∷ [])) ∷ [];
        snaps = (0 ∷ 0 ∷ []) ∷ [];
      } ∷
      record {
        events = tried 2 1 1 2 0 0 ReadOnly ∷ [];
        reads = item 0 0 (Some (1 ∷ [])) ∷ item 0 1 (Some (1 ∷ [])) ∷ [];
        locks = [];
        writes = [];
        snaps = (1 ∷ 0 ∷ []) ∷ [];
      } ∷
      [];
  audit = row 0 0 (Some (1 ∷ [])) false ∷ row 0 1 (Some (1 ∷ [])) false ∷ [];
}
unfolding two_puts_and_two_gets stint_workers picked after_workers until_ended settle copies load_from
medic_of_fuse_39 = refl

medic_of_fuse_40 : shown two_puts_and_two_gets (fuse 40 ∷ up ∷ []) ≡ record {
  logs =
      record {
        events = tried 1 1 0 0 2 2 (Commit 1) ∷ Finished RolledOn ∷ [];
        reads = [];
        locks = lock 0 0 0 0 ∷ lock 0 1 0 0 ∷ [];
        writes = item 0 0 (Some (1 ∷ [])) ∷ item 0 1 (Some (1 ∷ [])) ∷ [];
        snaps = (0 ∷ 0 ∷ []) ∷ [];
      } ∷
      record {
        events = tried 2 1 1 2 0 0 ReadOnly ∷ [];
        reads = item 0 0 (Some (1 ∷ [])) ∷ item 0 1 (Some (1 ∷ [])) ∷ [];
        locks = [];
        writes = [];
        snaps = (1 ∷ 0 ∷ []) ∷ [];
      } ∷
      [];
  audit = row 0 0 (Some (1 ∷ [])) false ∷ row 0 1 (Some (1 ∷ [])) false ∷ [];
}
unfolding two_puts_and_two_gets stint_workers picked after_workers until_ended settle copies load_from
medic_of_fuse_40 = refl

medic_of_fuse_41 : shown two_puts_and_two_gets (fuse 41 ∷ up ∷ []) ≡ record {
  logs =
      record {
        events = tried 1 1 0 0 2 2 (Commit 1) ∷ Finished RolledOn ∷ [];
        reads = [];
        locks = lock 0 0 0 0 ∷ lock 0 1 0 0 ∷ [];
        writes = item 0 0 (Some (1 ∷ [])) ∷ item 0 1 (Some (1 ∷ [])) ∷ [];
        snaps = (0 ∷ 0 ∷ []) ∷ [];
      } ∷
      record {
        events = tried 2 1 1 2 0 0 ReadOnly ∷ [];
        reads = item 0 0 (Some (1 ∷ [])) ∷ item 0 1 (Some (1 ∷ [])) ∷ [];
        locks = [];
        writes = [];
        snaps = (1 ∷ 0 ∷ []) ∷ [];
      } ∷
      [];
  audit = row 0 0 (Some (1 ∷ [])) false ∷ row 0 1 (Some (1 ∷ [])) false ∷ [];
}
unfolding two_puts_and_two_gets stint_workers picked after_workers until_ended settle copies load_from
medic_of_fuse_41 = refl

medic_of_fuse_42 : shown two_puts_and_two_gets (fuse 42 ∷ up ∷ []) ≡ record {
  logs =
      record {
        events = tried 1 1 0 0 2 2 (Commit 1) ∷ Finished RolledOn ∷ [];
        reads = [];
        locks = lock 0 0 0 0 ∷ lock 0 1 0 0 ∷ [];
        writes = item 0 0 (Some (1 ∷ [])) ∷ item 0 1 (Some (1 ∷ [])) ∷ [];
        snaps = (0 ∷ 0 ∷ []) ∷ [];
      } ∷
      record {
        events = tried 2 1 1 2 0 0 ReadOnly ∷ [];
        reads = item 0 0 (Some (1 ∷ [])) ∷ item 0 1 (Some (1 ∷ [])) ∷ [];
        locks = [];
        writes = [];
        snaps = (1 ∷ 0 ∷ []) ∷ [];
      } ∷
      [];
  audit = row 0 0 (Some (1 ∷ [])) false ∷ row 0 1 (Some (1 ∷ [])) false ∷ [];
}
unfolding two_puts_and_two_gets stint_workers picked after_workers until_ended settle copies load_from
medic_of_fuse_42 = refl

medic_of_fuse_43 : shown two_puts_and_two_gets (fuse 43 ∷ up ∷ []) ≡ record {
  logs =
      record {
        events = tried 1 1 0 0 2 2 (Commit 1) ∷ Finished RolledOn ∷ [];
        reads = [];
        locks = lock 0 0 0 0 ∷ lock 0 1 0 0 ∷ [];
        writes = item 0 0 (Some (1 ∷ [])) ∷ item 0 1 (Some (1 ∷ [])) ∷ [];
        snaps = (0 ∷ 0 ∷ []) ∷ [];
      } ∷
      record {
        events = tried 2 1 1 2 0 0 ReadOnly ∷ [];
        reads = item 0 0 (Some (1 ∷ [])) ∷ item 0 1 (Some (1 ∷ [])) ∷ [];
        locks = [];
        writes = [];
        snaps = (1 ∷ 0 ∷ []) ∷ [];
      } ∷
      [];
  audit = row 0 0 (Some (1 ∷ [])) false ∷ row 0 1 (Some (1 ∷ [])) false ∷ [];
}
unfolding two_puts_and_two_gets stint_workers picked after_workers until_ended settle copies load_from
medic_of_fuse_43 = refl

medic_of_fuse_44 : shown two_puts_and_two_gets (fuse 44 ∷ up ∷ []) ≡ record {
  logs =
      record {
        events = tried 1 1 0 0 2 2 (Commit 1) ∷ [];
        reads = [];
        locks = lock 0 0 0 0 ∷ lock 0 1 0 0 ∷ [];
        writes = item 0 0 (Some (1 ∷ [])) ∷ item 0 1 (Some (1 ∷ [])) ∷ [];
        snaps = (0 ∷ 0 ∷ []) ∷ [];
      } ∷
      record {
        events = tried 2 1 1 2 0 0 ReadOnly ∷ [];
        reads = item 0 0 (Some (1 ∷ [])) ∷ item 0 1 (Some (1 ∷ [])) ∷ [];
        locks = [];
        writes = [];
        snaps = (1 ∷ 0 ∷ []) ∷ [];
      } ∷
      [];
  audit = row 0 0 (Some (1 ∷ [])) false ∷ row 0 1 (Some (1 ∷ [])) false ∷ [];
}
unfolding two_puts_and_two_gets stint_workers picked after_workers until_ended settle copies load_from
medic_of_fuse_44 = refl
