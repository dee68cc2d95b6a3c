-- Workers whose lines fail, simulated.
use Rattle.std.proofs.Common.{◌≡◌, true, false, [], ◌∷◌, Some, refl}
use Rattle.si_model.specs.declared.op.Op.TheVariants.{Put, Add, Need}
use Rattle.si_model.specs.declared.log.Outcome.TheVariants.{Commit, Locked, Newer, Cut}
use Rattle.nam_catalog.specs.declared.form.Form.TheVariants.{Narrow}
use Rattle.nam_protocol.specs.Schedule.{Scenario, Stints, stint_workers, picked, after_workers, until_ended}
use Rattle.nam_protocol.specs.Session.{settle}
use Rattle.nam_protocol.specs.Opening.{copies, load_from}
use Rattle.nam_protocol.proofs.Shown.{shape, table, loaded, txn, stint, up, fuse, item, row, lock, tried, shown}

unfoldable of_fuse_at_the_last_verb : Scenario
of_fuse_at_the_last_verb = record {
  shape = shape Narrow 1 (table 1 2 1 ∷ []) 1 1 0;
  rows = loaded 0 0 (100 ∷ []) ∷ loaded 0 1 (0 ∷ []) ∷ [];
  policy = record { tries = 1; tidy = false };
  txns = txn 1 (Need 0 0 1 10 ∷ Add 0 0 1 false 10 ∷ Add 0 1 1 true 10 ∷ []) ∷ [];
  schedule = Stints ([]);
}

-- the verb that would publish is refused
fuse_at_the_last_verb : shown of_fuse_at_the_last_verb (fuse 41 ∷ []) ≡ record {
  logs =
      record {
        events = tried 1 1 0 3 2 0 Cut ∷ [];
        reads = item 0 0 (Some (100 ∷ [])) ∷ item 0 0 (Some (100 ∷ [])) ∷ item 0 1 (Some (0 ∷ [])) ∷ [];
        locks = lock 0 0 0 0 ∷ lock 0 1 0 0 ∷ [];
        writes = [];
        snaps = (0 ∷ []) ∷ [];
      } ∷
      [];
  audit = row 0 0 (Some (100 ∷ [])) false ∷ row 0 1 (Some (0 ∷ [])) false ∷ [];
}
unfolding of_fuse_at_the_last_verb stint_workers picked after_workers until_ended settle copies load_from
fuse_at_the_last_verb = refl

unfoldable of_fuse_after_the_last_verb : Scenario
of_fuse_after_the_last_verb = record {
  shape = shape Narrow 1 (table 1 2 1 ∷ []) 1 1 0;
  rows = loaded 0 0 (100 ∷ []) ∷ loaded 0 1 (0 ∷ []) ∷ [];
  policy = record { tries = 1; tidy = false };
  txns = txn 1 (Need 0 0 1 10 ∷ Add 0 0 1 false 10 ∷ Add 0 1 1 true 10 ∷ []) ∷ [];
  schedule = Stints ([]);
}

-- all verbs of the attempt have passed
fuse_after_the_last_verb : shown of_fuse_after_the_last_verb (fuse 42 ∷ []) ≡ record {
  logs =
      record {
        events = tried 1 1 0 3 2 2 (Commit 1) ∷ [];
        reads = item 0 0 (Some (100 ∷ [])) ∷ item 0 0 (Some (100 ∷ [])) ∷ item 0 1 (Some (0 ∷ [])) ∷ [];
        locks = lock 0 0 0 0 ∷ lock 0 1 0 0 ∷ [];
        writes = item 0 0 (Some (90 ∷ [])) ∷ item 0 1 (Some (10 ∷ [])) ∷ [];
        snaps = (0 ∷ []) ∷ [];
      } ∷
      [];
  audit = row 0 0 (Some (90 ∷ [])) false ∷ row 0 1 (Some (10 ∷ [])) false ∷ [];
}
unfolding of_fuse_after_the_last_verb stint_workers picked after_workers until_ended settle copies load_from
fuse_after_the_last_verb = refl

unfoldable of_stints_of_whole_attempts : Scenario
of_stints_of_whole_attempts = record {
  shape = shape Narrow 2 (table 1 4 2 ∷ []) 1 1 0;
  rows = loaded 0 0 (100 ∷ []) ∷ [];
  policy = record { tries = 2; tidy = false };
  txns = txn 1 (Add 0 0 1 true 5 ∷ []) ∷ txn 2 (Add 0 0 1 true 7 ∷ []) ∷ [];
  schedule = Stints (stint 2 22 ∷ stint 1 22 ∷ []);
}

-- one worker after the other
stints_of_whole_attempts : shown of_stints_of_whole_attempts [] ≡ record {
  logs =
      record {
        events = tried 1 1 1 1 1 1 (Commit 1) ∷ [];
        reads = item 0 0 (Some (107 ∷ [])) ∷ [];
        locks = lock 0 0 2 1 ∷ [];
        writes = item 0 0 (Some (112 ∷ [])) ∷ [];
        snaps = (0 ∷ 1 ∷ []) ∷ [];
      } ∷
      record {
        events = tried 2 1 0 1 1 1 (Commit 1) ∷ [];
        reads = item 0 0 (Some (100 ∷ [])) ∷ [];
        locks = lock 0 0 0 0 ∷ [];
        writes = item 0 0 (Some (107 ∷ [])) ∷ [];
        snaps = (0 ∷ 0 ∷ []) ∷ [];
      } ∷
      [];
  audit = row 0 0 (Some (112 ∷ [])) false ∷ [];
}
unfolding of_stints_of_whole_attempts stint_workers picked after_workers until_ended settle copies load_from
stints_of_whole_attempts = refl

unfoldable of_cut_under_all_locks : Scenario
of_cut_under_all_locks = record {
  shape = shape Narrow 2 (table 1 2 2 ∷ []) 1 1 0;
  rows = loaded 0 0 (0 ∷ []) ∷ loaded 0 1 (0 ∷ []) ∷ [];
  policy = record { tries = 1; tidy = false };
  txns = txn 1 (Put 0 0 (1 ∷ []) ∷ Put 0 1 (1 ∷ []) ∷ []) ∷ txn 2 (Put 0 0 (7 ∷ []) ∷ []) ∷ [];
  schedule = Stints (stint 1 31 ∷ []);
}

-- the last verb before the first record is installed is refused, and a put finds its lock
cut_under_all_locks : shown of_cut_under_all_locks (fuse 22 ∷ up ∷ []) ≡ record {
  logs =
      record {
        events = tried 1 1 0 0 2 0 Cut ∷ [];
        reads = [];
        locks = lock 0 0 0 0 ∷ lock 0 1 0 0 ∷ [];
        writes = [];
        snaps = (0 ∷ 0 ∷ []) ∷ [];
      } ∷
      record {
        events = tried 2 1 0 0 0 0 (Locked (lock 0 0 0 0)) ∷ [];
        reads = [];
        locks = [];
        writes = [];
        snaps = (0 ∷ 0 ∷ []) ∷ [];
      } ∷
      [];
  audit = row 0 0 (Some (0 ∷ [])) true ∷ row 0 1 (Some (0 ∷ [])) true ∷ [];
}
unfolding of_cut_under_all_locks stint_workers picked after_workers until_ended settle copies load_from
cut_under_all_locks = refl

unfoldable of_cut_after_one_install : Scenario
of_cut_after_one_install = record {
  shape = shape Narrow 2 (table 1 2 2 ∷ []) 1 1 0;
  rows = loaded 0 0 (0 ∷ []) ∷ loaded 0 1 (0 ∷ []) ∷ [];
  policy = record { tries = 1; tidy = false };
  txns = txn 1 (Put 0 0 (1 ∷ []) ∷ Put 0 1 (1 ∷ []) ∷ []) ∷ txn 2 (Put 0 0 (7 ∷ []) ∷ []) ∷ [];
  schedule = Stints (stint 1 31 ∷ []);
}

-- a put finds the installed version, which is not published
cut_after_one_install : shown of_cut_after_one_install (fuse 23 ∷ up ∷ []) ≡ record {
  logs =
      record {
        events = tried 1 1 0 0 2 0 Cut ∷ [];
        reads = [];
        locks = lock 0 0 0 0 ∷ lock 0 1 0 0 ∷ [];
        writes = [];
        snaps = (0 ∷ 0 ∷ []) ∷ [];
      } ∷
      record {
        events = tried 2 1 0 0 0 0 (Newer (lock 0 0 1 1)) ∷ [];
        reads = [];
        locks = [];
        writes = [];
        snaps = (0 ∷ 0 ∷ []) ∷ [];
      } ∷
      [];
  audit = row 0 0 (Some (0 ∷ [])) false ∷ row 0 1 (Some (0 ∷ [])) true ∷ [];
}
unfolding of_cut_after_one_install stint_workers picked after_workers until_ended settle copies load_from
cut_after_one_install = refl
