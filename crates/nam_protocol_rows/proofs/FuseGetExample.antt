-- A commit of two puts whose line fails at each verb in turn, and a worker that gets both keys.
use Rattle.std.proofs.Common.{◌≡◌, true, false, [], ◌∷◌, Some, refl}
use Rattle.nam_catalog.specs.declared.form.Form.TheVariants.{Narrow}
use Rattle.si_model.specs.declared.op.Op.TheVariants.{Get, Put}
use Rattle.si_model.specs.declared.log.Outcome.TheVariants.{Commit, ReadOnly, Cut}
use Rattle.nam_protocol.specs.Schedule.{Scenario, Stints, stint_workers, picked, after_workers, until_ended}
use Rattle.nam_protocol.specs.Session.{settle}
use Rattle.nam_protocol.specs.Opening.{copies, load_from}
use Rattle.nam_protocol.proofs.Shown.{shape, table, loaded, txn, stint, up, fuse, item, row, lock, tried, unbegun}
use Rattle.nam_protocol.proofs.Shown.{shown}

unfoldable two_puts_and_gets : Scenario
two_puts_and_gets = record {
  shape = shape Narrow 2 (table 1 2 2 ∷ []) 1 1 0;
  rows = loaded 0 0 (0 ∷ []) ∷ loaded 0 1 (0 ∷ []) ∷ [];
  policy = record { tries = 1; tidy = false };
  txns = txn 1 (Put 0 0 (1 ∷ []) ∷ Put 0 1 (1 ∷ []) ∷ []) ∷ txn 2 (Get 0 0 ∷ Get 0 1 ∷ []) ∷ [];
  schedule = Stints (stint 1 31 ∷ []);
}

get_beside_fuse_1 : shown two_puts_and_gets (fuse 1 ∷ up ∷ []) ≡ record {
  logs =
      record {
        events = unbegun 1 1 Cut ∷ [];
        reads = [];
        locks = [];
        writes = [];
        snaps = [];
      } ∷
      record {
        events = tried 2 1 0 2 0 0 ReadOnly ∷ [];
        reads = item 0 0 (Some (0 ∷ [])) ∷ item 0 1 (Some (0 ∷ [])) ∷ [];
        locks = [];
        writes = [];
        snaps = (0 ∷ 0 ∷ []) ∷ [];
      } ∷
      [];
  audit = row 0 0 (Some (0 ∷ [])) false ∷ row 0 1 (Some (0 ∷ [])) false ∷ [];
}
unfolding two_puts_and_gets stint_workers picked after_workers until_ended settle copies load_from
get_beside_fuse_1 = refl

get_beside_fuse_2 : shown two_puts_and_gets (fuse 2 ∷ up ∷ []) ≡ record {
  logs =
      record {
        events = unbegun 1 1 Cut ∷ [];
        reads = [];
        locks = [];
        writes = [];
        snaps = [];
      } ∷
      record {
        events = tried 2 1 0 2 0 0 ReadOnly ∷ [];
        reads = item 0 0 (Some (0 ∷ [])) ∷ item 0 1 (Some (0 ∷ [])) ∷ [];
        locks = [];
        writes = [];
        snaps = (0 ∷ 0 ∷ []) ∷ [];
      } ∷
      [];
  audit = row 0 0 (Some (0 ∷ [])) false ∷ row 0 1 (Some (0 ∷ [])) false ∷ [];
}
unfolding two_puts_and_gets stint_workers picked after_workers until_ended settle copies load_from
get_beside_fuse_2 = refl

get_beside_fuse_3 : shown two_puts_and_gets (fuse 3 ∷ up ∷ []) ≡ record {
  logs =
      record {
        events = unbegun 1 1 Cut ∷ [];
        reads = [];
        locks = [];
        writes = [];
        snaps = [];
      } ∷
      record {
        events = tried 2 1 0 2 0 0 ReadOnly ∷ [];
        reads = item 0 0 (Some (0 ∷ [])) ∷ item 0 1 (Some (0 ∷ [])) ∷ [];
        locks = [];
        writes = [];
        snaps = (0 ∷ 0 ∷ []) ∷ [];
      } ∷
      [];
  audit = row 0 0 (Some (0 ∷ [])) false ∷ row 0 1 (Some (0 ∷ [])) false ∷ [];
}
unfolding two_puts_and_gets stint_workers picked after_workers until_ended settle copies load_from
get_beside_fuse_3 = refl

get_beside_fuse_4 : shown two_puts_and_gets (fuse 4 ∷ up ∷ []) ≡ record {
  logs =
      record {
        events = unbegun 1 1 Cut ∷ [];
        reads = [];
        locks = [];
        writes = [];
        snaps = [];
      } ∷
      record {
        events = tried 2 1 0 2 0 0 ReadOnly ∷ [];
        reads = item 0 0 (Some (0 ∷ [])) ∷ item 0 1 (Some (0 ∷ [])) ∷ [];
        locks = [];
        writes = [];
        snaps = (0 ∷ 0 ∷ []) ∷ [];
      } ∷
      [];
  audit = row 0 0 (Some (0 ∷ [])) false ∷ row 0 1 (Some (0 ∷ [])) false ∷ [];
}
unfolding two_puts_and_gets stint_workers picked after_workers until_ended settle copies load_from
get_beside_fuse_4 = refl

get_beside_fuse_5 : shown two_puts_and_gets (fuse 5 ∷ up ∷ []) ≡ record {
  logs =
      record {
        events = tried 1 1 0 0 0 0 Cut ∷ [];
        reads = [];
        locks = [];
        writes = [];
        snaps = (0 ∷ 0 ∷ []) ∷ [];
      } ∷
      record {
        events = tried 2 1 0 2 0 0 ReadOnly ∷ [];
        reads = item 0 0 (Some (0 ∷ [])) ∷ item 0 1 (Some (0 ∷ [])) ∷ [];
        locks = [];
        writes = [];
        snaps = (0 ∷ 0 ∷ []) ∷ [];
      } ∷
      [];
  audit = row 0 0 (Some (0 ∷ [])) false ∷ row 0 1 (Some (0 ∷ [])) false ∷ [];
}
unfolding two_puts_and_gets stint_workers picked after_workers until_ended settle copies load_from
get_beside_fuse_5 = refl

get_beside_fuse_6 : shown two_puts_and_gets (fuse 6 ∷ up ∷ []) ≡ record {
  logs =
      record {
        events = tried 1 1 0 0 0 0 Cut ∷ [];
        reads = [];
        locks = [];
        writes = [];
        snaps = (0 ∷ 0 ∷ []) ∷ [];
      } ∷
      record {
        events = tried 2 1 0 2 0 0 ReadOnly ∷ [];
        reads = item 0 0 (Some (0 ∷ [])) ∷ item 0 1 (Some (0 ∷ [])) ∷ [];
        locks = [];
        writes = [];
        snaps = (0 ∷ 0 ∷ []) ∷ [];
      } ∷
      [];
  audit = row 0 0 (Some (0 ∷ [])) false ∷ row 0 1 (Some (0 ∷ [])) false ∷ [];
}
unfolding two_puts_and_gets stint_workers picked after_workers until_ended settle copies load_from
get_beside_fuse_6 = refl

get_beside_fuse_7 : shown two_puts_and_gets (fuse 7 ∷ up ∷ []) ≡ record {
  logs =
      record {
        events = tried 1 1 0 0 0 0 Cut ∷ [];
        reads = [];
        locks = [];
        writes = [];
        snaps = (0 ∷ 0 ∷ []) ∷ [];
      } ∷
      record {
        events = tried 2 1 0 2 0 0 ReadOnly ∷ [];
        reads = item 0 0 (Some (0 ∷ [])) ∷ item 0 1 (Some (0 ∷ [])) ∷ [];
        locks = [];
        writes = [];
        snaps = (0 ∷ 0 ∷ []) ∷ [];
      } ∷
      [];
  audit = row 0 0 (Some (0 ∷ [])) false ∷ row 0 1 (Some (0 ∷ [])) false ∷ [];
}
unfolding two_puts_and_gets stint_workers picked after_workers until_ended settle copies load_from
get_beside_fuse_7 = refl

get_beside_fuse_8 : shown two_puts_and_gets (fuse 8 ∷ up ∷ []) ≡ record {
  logs =
      record {
        events = tried 1 1 0 0 0 0 Cut ∷ [];
        reads = [];
        locks = [];
        writes = [];
        snaps = (0 ∷ 0 ∷ []) ∷ [];
      } ∷
      record {
        events = tried 2 1 0 2 0 0 ReadOnly ∷ [];
        reads = item 0 0 (Some (0 ∷ [])) ∷ item 0 1 (Some (0 ∷ [])) ∷ [];
        locks = [];
        writes = [];
        snaps = (0 ∷ 0 ∷ []) ∷ [];
      } ∷
      [];
  audit = row 0 0 (Some (0 ∷ [])) false ∷ row 0 1 (Some (0 ∷ [])) false ∷ [];
}
unfolding two_puts_and_gets stint_workers picked after_workers until_ended settle copies load_from
get_beside_fuse_8 = refl

get_beside_fuse_9 : shown two_puts_and_gets (fuse 9 ∷ up ∷ []) ≡ record {
  logs =
      record {
        events = tried 1 1 0 0 1 0 Cut ∷ [];
        reads = [];
        locks = lock 0 0 0 0 ∷ [];
        writes = [];
        snaps = (0 ∷ 0 ∷ []) ∷ [];
      } ∷
      record {
        events = tried 2 1 0 2 0 0 ReadOnly ∷ [];
        reads = item 0 0 (Some (0 ∷ [])) ∷ item 0 1 (Some (0 ∷ [])) ∷ [];
        locks = [];
        writes = [];
        snaps = (0 ∷ 0 ∷ []) ∷ [];
      } ∷
      [];
  audit = row 0 0 (Some (0 ∷ [])) true ∷ row 0 1 (Some (0 ∷ [])) false ∷ [];
}
unfolding two_puts_and_gets stint_workers picked after_workers until_ended settle copies load_from
get_beside_fuse_9 = refl

get_beside_fuse_10 : shown two_puts_and_gets (fuse 10 ∷ up ∷ []) ≡ record {
  logs =
      record {
        events = tried 1 1 0 0 1 0 Cut ∷ [];
        reads = [];
        locks = lock 0 0 0 0 ∷ [];
        writes = [];
        snaps = (0 ∷ 0 ∷ []) ∷ [];
      } ∷
      record {
        events = tried 2 1 0 2 0 0 ReadOnly ∷ [];
        reads = item 0 0 (Some (0 ∷ [])) ∷ item 0 1 (Some (0 ∷ [])) ∷ [];
        locks = [];
        writes = [];
        snaps = (0 ∷ 0 ∷ []) ∷ [];
      } ∷
      [];
  audit = row 0 0 (Some (0 ∷ [])) true ∷ row 0 1 (Some (0 ∷ [])) false ∷ [];
}
unfolding two_puts_and_gets stint_workers picked after_workers until_ended settle copies load_from
get_beside_fuse_10 = refl

get_beside_fuse_11 : shown two_puts_and_gets (fuse 11 ∷ up ∷ []) ≡ record {
  logs =
      record {
        events = tried 1 1 0 0 2 0 Cut ∷ [];
        reads = [];
        locks = lock 0 0 0 0 ∷ lock 0 1 0 0 ∷ [];
        writes = [];
        snaps = (0 ∷ 0 ∷ []) ∷ [];
      } ∷
      record {
        events = tried 2 1 0 2 0 0 ReadOnly ∷ [];
        reads = item 0 0 (Some (0 ∷ [])) ∷ item 0 1 (Some (0 ∷ [])) ∷ [];
        locks = [];
        writes = [];
        snaps = (0 ∷ 0 ∷ []) ∷ [];
      } ∷
      [];
  audit = row 0 0 (Some (0 ∷ [])) true ∷ row 0 1 (Some (0 ∷ [])) true ∷ [];
}
unfolding two_puts_and_gets stint_workers picked after_workers until_ended settle copies load_from
get_beside_fuse_11 = refl

get_beside_fuse_12 : shown two_puts_and_gets (fuse 12 ∷ up ∷ []) ≡ record {
  logs =
      record {
        events = tried 1 1 0 0 2 0 Cut ∷ [];
        reads = [];
        locks = lock 0 0 0 0 ∷ lock 0 1 0 0 ∷ [];
        writes = [];
        snaps = (0 ∷ 0 ∷ []) ∷ [];
      } ∷
      record {
        events = tried 2 1 0 2 0 0 ReadOnly ∷ [];
        reads = item 0 0 (Some (0 ∷ [])) ∷ item 0 1 (Some (0 ∷ [])) ∷ [];
        locks = [];
        writes = [];
        snaps = (0 ∷ 0 ∷ []) ∷ [];
      } ∷
      [];
  audit = row 0 0 (Some (0 ∷ [])) true ∷ row 0 1 (Some (0 ∷ [])) true ∷ [];
}
unfolding two_puts_and_gets stint_workers picked after_workers until_ended settle copies load_from
get_beside_fuse_12 = refl

get_beside_fuse_13 : shown two_puts_and_gets (fuse 13 ∷ up ∷ []) ≡ record {
  logs =
      record {
        events = tried 1 1 0 0 2 0 Cut ∷ [];
        reads = [];
        locks = lock 0 0 0 0 ∷ lock 0 1 0 0 ∷ [];
        writes = [];
        snaps = (0 ∷ 0 ∷ []) ∷ [];
      } ∷
      record {
        events = tried 2 1 0 2 0 0 ReadOnly ∷ [];
        reads = item 0 0 (Some (0 ∷ [])) ∷ item 0 1 (Some (0 ∷ [])) ∷ [];
        locks = [];
        writes = [];
        snaps = (0 ∷ 0 ∷ []) ∷ [];
      } ∷
      [];
  audit = row 0 0 (Some (0 ∷ [])) true ∷ row 0 1 (Some (0 ∷ [])) true ∷ [];
}
unfolding two_puts_and_gets stint_workers picked after_workers until_ended settle copies load_from
get_beside_fuse_13 = refl

get_beside_fuse_14 : shown two_puts_and_gets (fuse 14 ∷ up ∷ []) ≡ record {
  logs =
      record {
        events = tried 1 1 0 0 2 0 Cut ∷ [];
        reads = [];
        locks = lock 0 0 0 0 ∷ lock 0 1 0 0 ∷ [];
        writes = [];
        snaps = (0 ∷ 0 ∷ []) ∷ [];
      } ∷
      record {
        events = tried 2 1 0 2 0 0 ReadOnly ∷ [];
        reads = item 0 0 (Some (0 ∷ [])) ∷ item 0 1 (Some (0 ∷ [])) ∷ [];
        locks = [];
        writes = [];
        snaps = (0 ∷ 0 ∷ []) ∷ [];
      } ∷
      [];
  audit = row 0 0 (Some (0 ∷ [])) true ∷ row 0 1 (Some (0 ∷ [])) true ∷ [];
}
unfolding two_puts_and_gets stint_workers picked after_workers until_ended settle copies load_from
get_beside_fuse_14 = refl

get_beside_fuse_15 : shown two_puts_and_gets (fuse 15 ∷ up ∷ []) ≡ record {
  logs =
      record {
        events = tried 1 1 0 0 2 0 Cut ∷ [];
        reads = [];
        locks = lock 0 0 0 0 ∷ lock 0 1 0 0 ∷ [];
        writes = [];
        snaps = (0 ∷ 0 ∷ []) ∷ [];
      } ∷
      record {
        events = tried 2 1 0 2 0 0 ReadOnly ∷ [];
        reads = item 0 0 (Some (0 ∷ [])) ∷ item 0 1 (Some (0 ∷ [])) ∷ [];
        locks = [];
        writes = [];
        snaps = (0 ∷ 0 ∷ []) ∷ [];
      } ∷
      [];
  audit = row 0 0 (Some (0 ∷ [])) true ∷ row 0 1 (Some (0 ∷ [])) true ∷ [];
}
unfolding two_puts_and_gets stint_workers picked after_workers until_ended settle copies load_from
get_beside_fuse_15 = refl

get_beside_fuse_16 : shown two_puts_and_gets (fuse 16 ∷ up ∷ []) ≡ record {
  logs =
      record {
        events = tried 1 1 0 0 2 0 Cut ∷ [];
        reads = [];
        locks = lock 0 0 0 0 ∷ lock 0 1 0 0 ∷ [];
        writes = [];
        snaps = (0 ∷ 0 ∷ []) ∷ [];
      } ∷
      record {
        events = tried 2 1 0 2 0 0 ReadOnly ∷ [];
        reads = item 0 0 (Some (0 ∷ [])) ∷ item 0 1 (Some (0 ∷ [])) ∷ [];
        locks = [];
        writes = [];
        snaps = (0 ∷ 0 ∷ []) ∷ [];
      } ∷
      [];
  audit = row 0 0 (Some (0 ∷ [])) true ∷ row 0 1 (Some (0 ∷ [])) true ∷ [];
}
unfolding two_puts_and_gets stint_workers picked after_workers until_ended settle copies load_from
get_beside_fuse_16 = refl

get_beside_fuse_17 : shown two_puts_and_gets (fuse 17 ∷ up ∷ []) ≡ record {
  logs =
      record {
        events = tried 1 1 0 0 2 0 Cut ∷ [];
        reads = [];
        locks = lock 0 0 0 0 ∷ lock 0 1 0 0 ∷ [];
        writes = [];
        snaps = (0 ∷ 0 ∷ []) ∷ [];
      } ∷
      record {
        events = tried 2 1 0 2 0 0 ReadOnly ∷ [];
        reads = item 0 0 (Some (0 ∷ [])) ∷ item 0 1 (Some (0 ∷ [])) ∷ [];
        locks = [];
        writes = [];
        snaps = (0 ∷ 0 ∷ []) ∷ [];
      } ∷
      [];
  audit = row 0 0 (Some (0 ∷ [])) true ∷ row 0 1 (Some (0 ∷ [])) true ∷ [];
}
unfolding two_puts_and_gets stint_workers picked after_workers until_ended settle copies load_from
get_beside_fuse_17 = refl

get_beside_fuse_18 : shown two_puts_and_gets (fuse 18 ∷ up ∷ []) ≡ record {
  logs =
      record {
        events = tried 1 1 0 0 2 0 Cut ∷ [];
        reads = [];
        locks = lock 0 0 0 0 ∷ lock 0 1 0 0 ∷ [];
        writes = [];
        snaps = (0 ∷ 0 ∷ []) ∷ [];
      } ∷
      record {
        events = tried 2 1 0 2 0 0 ReadOnly ∷ [];
        reads = item 0 0 (Some (0 ∷ [])) ∷ item 0 1 (Some (0 ∷ [])) ∷ [];
        locks = [];
        writes = [];
        snaps = (0 ∷ 0 ∷ []) ∷ [];
      } ∷
      [];
  audit = row 0 0 (Some (0 ∷ [])) true ∷ row 0 1 (Some (0 ∷ [])) true ∷ [];
}
unfolding two_puts_and_gets stint_workers picked after_workers until_ended settle copies load_from
get_beside_fuse_18 = refl

get_beside_fuse_19 : shown two_puts_and_gets (fuse 19 ∷ up ∷ []) ≡ record {
  logs =
      record {
        events = tried 1 1 0 0 2 0 Cut ∷ [];
        reads = [];
        locks = lock 0 0 0 0 ∷ lock 0 1 0 0 ∷ [];
        writes = [];
        snaps = (0 ∷ 0 ∷ []) ∷ [];
      } ∷
      record {
        events = tried 2 1 0 2 0 0 ReadOnly ∷ [];
        reads = item 0 0 (Some (0 ∷ [])) ∷ item 0 1 (Some (0 ∷ [])) ∷ [];
        locks = [];
        writes = [];
        snaps = (0 ∷ 0 ∷ []) ∷ [];
      } ∷
      [];
  audit = row 0 0 (Some (0 ∷ [])) true ∷ row 0 1 (Some (0 ∷ [])) true ∷ [];
}
unfolding two_puts_and_gets stint_workers picked after_workers until_ended settle copies load_from
get_beside_fuse_19 = refl

get_beside_fuse_20 : shown two_puts_and_gets (fuse 20 ∷ up ∷ []) ≡ record {
  logs =
      record {
        events = tried 1 1 0 0 2 0 Cut ∷ [];
        reads = [];
        locks = lock 0 0 0 0 ∷ lock 0 1 0 0 ∷ [];
        writes = [];
        snaps = (0 ∷ 0 ∷ []) ∷ [];
      } ∷
      record {
        events = tried 2 1 0 2 0 0 ReadOnly ∷ [];
        reads = item 0 0 (Some (0 ∷ [])) ∷ item 0 1 (Some (0 ∷ [])) ∷ [];
        locks = [];
        writes = [];
        snaps = (0 ∷ 0 ∷ []) ∷ [];
      } ∷
      [];
  audit = row 0 0 (Some (0 ∷ [])) true ∷ row 0 1 (Some (0 ∷ [])) true ∷ [];
}
unfolding two_puts_and_gets stint_workers picked after_workers until_ended settle copies load_from
get_beside_fuse_20 = refl

get_beside_fuse_21 : shown two_puts_and_gets (fuse 21 ∷ up ∷ []) ≡ record {
  logs =
      record {
        events = tried 1 1 0 0 2 0 Cut ∷ [];
        reads = [];
        locks = lock 0 0 0 0 ∷ lock 0 1 0 0 ∷ [];
        writes = [];
        snaps = (0 ∷ 0 ∷ []) ∷ [];
      } ∷
      record {
        events = tried 2 1 0 2 0 0 ReadOnly ∷ [];
        reads = item 0 0 (Some (0 ∷ [])) ∷ item 0 1 (Some (0 ∷ [])) ∷ [];
        locks = [];
        writes = [];
        snaps = (0 ∷ 0 ∷ []) ∷ [];
      } ∷
      [];
  audit = row 0 0 (Some (0 ∷ [])) true ∷ row 0 1 (Some (0 ∷ [])) true ∷ [];
}
unfolding two_puts_and_gets stint_workers picked after_workers until_ended settle copies load_from
get_beside_fuse_21 = refl

get_beside_fuse_22 : shown two_puts_and_gets (fuse 22 ∷ up ∷ []) ≡ record {
  logs =
      record {
        events = tried 1 1 0 0 2 0 Cut ∷ [];
        reads = [];
        locks = lock 0 0 0 0 ∷ lock 0 1 0 0 ∷ [];
        writes = [];
        snaps = (0 ∷ 0 ∷ []) ∷ [];
      } ∷
      record {
        events = tried 2 1 0 2 0 0 ReadOnly ∷ [];
        reads = item 0 0 (Some (0 ∷ [])) ∷ item 0 1 (Some (0 ∷ [])) ∷ [];
        locks = [];
        writes = [];
        snaps = (0 ∷ 0 ∷ []) ∷ [];
      } ∷
      [];
  audit = row 0 0 (Some (0 ∷ [])) true ∷ row 0 1 (Some (0 ∷ [])) true ∷ [];
}
unfolding two_puts_and_gets stint_workers picked after_workers until_ended settle copies load_from
get_beside_fuse_22 = refl

get_beside_fuse_23 : shown two_puts_and_gets (fuse 23 ∷ up ∷ []) ≡ record {
  logs =
      record {
        events = tried 1 1 0 0 2 0 Cut ∷ [];
        reads = [];
        locks = lock 0 0 0 0 ∷ lock 0 1 0 0 ∷ [];
        writes = [];
        snaps = (0 ∷ 0 ∷ []) ∷ [];
      } ∷
      record {
        events = tried 2 1 0 2 0 0 ReadOnly ∷ [];
        reads = item 0 0 (Some (0 ∷ [])) ∷ item 0 1 (Some (0 ∷ [])) ∷ [];
        locks = [];
        writes = [];
        snaps = (0 ∷ 0 ∷ []) ∷ [];
      } ∷
      [];
  audit = row 0 0 (Some (0 ∷ [])) false ∷ row 0 1 (Some (0 ∷ [])) true ∷ [];
}
unfolding two_puts_and_gets stint_workers picked after_workers until_ended settle copies load_from
get_beside_fuse_23 = refl

get_beside_fuse_24 : shown two_puts_and_gets (fuse 24 ∷ up ∷ []) ≡ record {
  logs =
      record {
        events = tried 1 1 0 0 2 0 Cut ∷ [];
        reads = [];
        locks = lock 0 0 0 0 ∷ lock 0 1 0 0 ∷ [];
        writes = [];
        snaps = (0 ∷ 0 ∷ []) ∷ [];
      } ∷
      record {
        events = tried 2 1 0 2 0 0 ReadOnly ∷ [];
        reads = item 0 0 (Some (0 ∷ [])) ∷ item 0 1 (Some (0 ∷ [])) ∷ [];
        locks = [];
        writes = [];
        snaps = (0 ∷ 0 ∷ []) ∷ [];
      } ∷
      [];
  audit = row 0 0 (Some (0 ∷ [])) false ∷ row 0 1 (Some (0 ∷ [])) true ∷ [];
}
unfolding two_puts_and_gets stint_workers picked after_workers until_ended settle copies load_from
get_beside_fuse_24 = refl

get_beside_fuse_25 : shown two_puts_and_gets (fuse 25 ∷ up ∷ []) ≡ record {
  logs =
      record {
        events = tried 1 1 0 0 2 0 Cut ∷ [];
        reads = [];
        locks = lock 0 0 0 0 ∷ lock 0 1 0 0 ∷ [];
        writes = [];
        snaps = (0 ∷ 0 ∷ []) ∷ [];
      } ∷
      record {
        events = tried 2 1 0 2 0 0 ReadOnly ∷ [];
        reads = item 0 0 (Some (0 ∷ [])) ∷ item 0 1 (Some (0 ∷ [])) ∷ [];
        locks = [];
        writes = [];
        snaps = (0 ∷ 0 ∷ []) ∷ [];
      } ∷
      [];
  audit = row 0 0 (Some (0 ∷ [])) false ∷ row 0 1 (Some (0 ∷ [])) true ∷ [];
}
unfolding two_puts_and_gets stint_workers picked after_workers until_ended settle copies load_from
get_beside_fuse_25 = refl

get_beside_fuse_26 : shown two_puts_and_gets (fuse 26 ∷ up ∷ []) ≡ record {
  logs =
      record {
        events = tried 1 1 0 0 2 0 Cut ∷ [];
        reads = [];
        locks = lock 0 0 0 0 ∷ lock 0 1 0 0 ∷ [];
        writes = [];
        snaps = (0 ∷ 0 ∷ []) ∷ [];
      } ∷
      record {
        events = tried 2 1 0 2 0 0 ReadOnly ∷ [];
        reads = item 0 0 (Some (0 ∷ [])) ∷ item 0 1 (Some (0 ∷ [])) ∷ [];
        locks = [];
        writes = [];
        snaps = (0 ∷ 0 ∷ []) ∷ [];
      } ∷
      [];
  audit = row 0 0 (Some (0 ∷ [])) false ∷ row 0 1 (Some (0 ∷ [])) true ∷ [];
}
unfolding two_puts_and_gets stint_workers picked after_workers until_ended settle copies load_from
get_beside_fuse_26 = refl

get_beside_fuse_27 : shown two_puts_and_gets (fuse 27 ∷ up ∷ []) ≡ record {
  logs =
      record {
        events = tried 1 1 0 0 2 0 Cut ∷ [];
        reads = [];
        locks = lock 0 0 0 0 ∷ lock 0 1 0 0 ∷ [];
        writes = [];
        snaps = (0 ∷ 0 ∷ []) ∷ [];
      } ∷
      record {
        events = tried 2 1 0 2 0 0 ReadOnly ∷ [];
        reads = item 0 0 (Some (0 ∷ [])) ∷ item 0 1 (Some (0 ∷ [])) ∷ [];
        locks = [];
        writes = [];
        snaps = (0 ∷ 0 ∷ []) ∷ [];
      } ∷
      [];
  audit = row 0 0 (Some (0 ∷ [])) false ∷ row 0 1 (Some (0 ∷ [])) true ∷ [];
}
unfolding two_puts_and_gets stint_workers picked after_workers until_ended settle copies load_from
get_beside_fuse_27 = refl

get_beside_fuse_28 : shown two_puts_and_gets (fuse 28 ∷ up ∷ []) ≡ record {
  logs =
      record {
        events = tried 1 1 0 0 2 0 Cut ∷ [];
        reads = [];
        locks = lock 0 0 0 0 ∷ lock 0 1 0 0 ∷ [];
        writes = [];
        snaps = (0 ∷ 0 ∷ []) ∷ [];
      } ∷
      record {
        events = tried 2 1 0 2 0 0 ReadOnly ∷ [];
        reads = item 0 0 (Some (0 ∷ [])) ∷ item 0 1 (Some (0 ∷ [])) ∷ [];
        locks = [];
        writes = [];
        snaps = (0 ∷ 0 ∷ []) ∷ [];
      } ∷
      [];
  audit = row 0 0 (Some (0 ∷ [])) false ∷ row 0 1 (Some (0 ∷ [])) true ∷ [];
}
unfolding two_puts_and_gets stint_workers picked after_workers until_ended settle copies load_from
get_beside_fuse_28 = refl

get_beside_fuse_29 : shown two_puts_and_gets (fuse 29 ∷ up ∷ []) ≡ record {
  logs =
      record {
        events = tried 1 1 0 0 2 0 Cut ∷ [];
        reads = [];
        locks = lock 0 0 0 0 ∷ lock 0 1 0 0 ∷ [];
        writes = [];
        snaps = (0 ∷ 0 ∷ []) ∷ [];
      } ∷
      record {
        events = tried 2 1 0 2 0 0 ReadOnly ∷ [];
        reads = item 0 0 (Some (0 ∷ [])) ∷ item 0 1 (Some (0 ∷ [])) ∷ [];
        locks = [];
        writes = [];
        snaps = (0 ∷ 0 ∷ []) ∷ [];
      } ∷
      [];
  audit = row 0 0 (Some (0 ∷ [])) false ∷ row 0 1 (Some (0 ∷ [])) true ∷ [];
}
unfolding two_puts_and_gets stint_workers picked after_workers until_ended settle copies load_from
get_beside_fuse_29 = refl

get_beside_fuse_30 : shown two_puts_and_gets (fuse 30 ∷ up ∷ []) ≡ record {
  logs =
      record {
        events = tried 1 1 0 0 2 0 Cut ∷ [];
        reads = [];
        locks = lock 0 0 0 0 ∷ lock 0 1 0 0 ∷ [];
        writes = [];
        snaps = (0 ∷ 0 ∷ []) ∷ [];
      } ∷
      record {
        events = tried 2 1 0 2 0 0 ReadOnly ∷ [];
        reads = item 0 0 (Some (0 ∷ [])) ∷ item 0 1 (Some (0 ∷ [])) ∷ [];
        locks = [];
        writes = [];
        snaps = (0 ∷ 0 ∷ []) ∷ [];
      } ∷
      [];
  audit = row 0 0 (Some (0 ∷ [])) false ∷ row 0 1 (Some (0 ∷ [])) true ∷ [];
}
unfolding two_puts_and_gets stint_workers picked after_workers until_ended settle copies load_from
get_beside_fuse_30 = refl

get_beside_fuse_31 : shown two_puts_and_gets (fuse 31 ∷ up ∷ []) ≡ record {
  logs =
      record {
        events = tried 1 1 0 0 2 0 Cut ∷ [];
        reads = [];
        locks = lock 0 0 0 0 ∷ lock 0 1 0 0 ∷ [];
        writes = [];
        snaps = (0 ∷ 0 ∷ []) ∷ [];
      } ∷
      record {
        events = tried 2 1 0 2 0 0 ReadOnly ∷ [];
        reads = item 0 0 (Some (0 ∷ [])) ∷ item 0 1 (Some (0 ∷ [])) ∷ [];
        locks = [];
        writes = [];
        snaps = (0 ∷ 0 ∷ []) ∷ [];
      } ∷
      [];
  audit = row 0 0 (Some (0 ∷ [])) false ∷ row 0 1 (Some (0 ∷ [])) false ∷ [];
}
unfolding two_puts_and_gets stint_workers picked after_workers until_ended settle copies load_from
get_beside_fuse_31 = refl

get_beside_fuse_32 : shown two_puts_and_gets (fuse 32 ∷ up ∷ []) ≡ record {
  logs =
      record {
        events = tried 1 1 0 0 2 2 (Commit 1) ∷ [];
        reads = [];
        locks = lock 0 0 0 0 ∷ lock 0 1 0 0 ∷ [];
        writes = item 0 0 (Some (1 ∷ [])) ∷ item 0 1 (Some (1 ∷ [])) ∷ [];
        snaps = (0 ∷ 0 ∷ []) ∷ [];
      } ∷
      record {
        events = tried 2 1 1 2 0 0 ReadOnly ∷ [];
        reads = item 0 0 (Some (1 ∷ [])) ∷ item 0 1 (Some (1 ∷ [])) ∷ [];
        locks = [];
        writes = [];
        snaps = (1 ∷ 0 ∷ []) ∷ [];
      } ∷
      [];
  audit = row 0 0 (Some (1 ∷ [])) false ∷ row 0 1 (Some (1 ∷ [])) false ∷ [];
}
unfolding two_puts_and_gets stint_workers picked after_workers until_ended settle copies load_from
get_beside_fuse_32 = refl
