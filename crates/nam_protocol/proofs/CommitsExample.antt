-- Commits beside each other, simulated.
use Rattle.std.proofs.Common.{◌≡◌, true, false, [], ◌∷◌, Some, refl}
use Rattle.si_model.specs.declared.op.Op.TheVariants.{Get, Put, Add, Need}
use Rattle.si_model.specs.declared.log.Outcome.TheVariants.{Commit, ReadOnly, Again, Locked, Newer}
use Rattle.nam_catalog.specs.declared.form.Form.TheVariants.{Narrow}
use Rattle.nam_protocol.specs.Schedule.{Scenario, Stints, stint_workers, picked, after_workers, until_ended}
use Rattle.nam_protocol.specs.Session.{settle}
use Rattle.nam_protocol.specs.Opening.{copies, load_from}
use Rattle.nam_protocol.proofs.Shown.{shape, table, loaded, txn, stint, item, row, lock, tried, unbegun, shown}

unfoldable of_first_committer_wins : Scenario
of_first_committer_wins = record {
  shape = shape Narrow 2 (table 1 4 2 ∷ []) 1 1 0;
  rows = loaded 0 0 (100 ∷ []) ∷ [];
  policy = record { tries = 2; tidy = false };
  txns = txn 1 (Add 0 0 1 true 5 ∷ []) ∷ txn 2 (Add 0 0 1 true 7 ∷ []) ∷ [];
  schedule = Stints (stint 1 4 ∷ stint 2 4 ∷ stint 1 18 ∷ []);
}

-- the later of two adds finds a newer version, and is tried again
first_committer_wins : shown of_first_committer_wins [] ≡ record {
  logs =
      record {
        events = tried 1 1 0 1 1 1 (Commit 1) ∷ [];
        reads = item 0 0 (Some (100 ∷ [])) ∷ [];
        locks = lock 0 0 0 0 ∷ [];
        writes = item 0 0 (Some (105 ∷ [])) ∷ [];
        snaps = (0 ∷ 0 ∷ []) ∷ [];
      } ∷
      record {
        events = tried 2 1 0 1 0 0 (Newer (lock 0 0 1 1)) ∷ tried 2 2 1 1 1 1 (Commit 1) ∷ [];
        reads = item 0 0 (Some (100 ∷ [])) ∷ item 0 0 (Some (105 ∷ [])) ∷ [];
        locks = lock 0 0 1 1 ∷ [];
        writes = item 0 0 (Some (112 ∷ [])) ∷ [];
        snaps = (0 ∷ 0 ∷ []) ∷ (1 ∷ 0 ∷ []) ∷ [];
      } ∷
      [];
  audit = row 0 0 (Some (112 ∷ [])) false ∷ [];
}
unfolding of_first_committer_wins stint_workers picked after_workers until_ended settle copies load_from
first_committer_wins = refl

unfoldable of_write_skew : Scenario
of_write_skew = record {
  shape = shape Narrow 2 (table 1 4 2 ∷ []) 1 1 0;
  rows = loaded 0 0 (60 ∷ []) ∷ loaded 0 1 (60 ∷ []) ∷ [];
  policy = record { tries = 1; tidy = false };
  txns = txn 1 (Need 0 0 1 60 ∷ Need 0 1 1 60 ∷ Add 0 0 1 false 60 ∷ []) ∷ txn 2
      (Need 0 0 1 60 ∷ Need 0 1 1 60 ∷ Add 0 1 1 false 60 ∷
      []) ∷ [];
  schedule = Stints (stint 1 4 ∷ stint 2 4 ∷ []);
}

-- both commit, since neither writes what the other writes
write_skew : shown of_write_skew [] ≡ record {
  logs =
      record {
        events = tried 1 1 0 3 1 1 (Commit 1) ∷ [];
        reads = item 0 0 (Some (60 ∷ [])) ∷ item 0 1 (Some (60 ∷ [])) ∷ item 0 0 (Some (60 ∷ [])) ∷ [];
        locks = lock 0 0 0 0 ∷ [];
        writes = item 0 0 (Some (0 ∷ [])) ∷ [];
        snaps = (0 ∷ 0 ∷ []) ∷ [];
      } ∷
      record {
        events = tried 2 1 0 3 1 1 (Commit 1) ∷ [];
        reads = item 0 0 (Some (60 ∷ [])) ∷ item 0 1 (Some (60 ∷ [])) ∷ item 0 1 (Some (60 ∷ [])) ∷ [];
        locks = lock 0 1 0 0 ∷ [];
        writes = item 0 1 (Some (0 ∷ [])) ∷ [];
        snaps = (0 ∷ 0 ∷ []) ∷ [];
      } ∷
      [];
  audit = row 0 0 (Some (0 ∷ [])) false ∷ row 0 1 (Some (0 ∷ [])) false ∷ [];
}
unfolding of_write_skew stint_workers picked after_workers until_ended settle copies load_from
write_skew = refl

unfoldable of_snapshot_again : Scenario
of_snapshot_again = record {
  shape = shape Narrow 2 (table 1 4 2 ∷ []) 1 1 0;
  rows = loaded 0 0 (100 ∷ []) ∷ [];
  policy = record { tries = 2; tidy = false };
  txns = txn 1 (Get 0 0 ∷ []) ∷ txn 2 (Add 0 0 1 true 1 ∷ []) ∷ [];
  schedule = Stints (stint 1 2 ∷ stint 2 22 ∷ []);
}

-- an entry that rises between the two passes of a snapshot
snapshot_again : shown of_snapshot_again [] ≡ record {
  logs =
      record {
        events = unbegun 1 1 (Again 2 0 1) ∷ tried 1 2 1 1 0 0 ReadOnly ∷ [];
        reads = item 0 0 (Some (101 ∷ [])) ∷ [];
        locks = [];
        writes = [];
        snaps = (0 ∷ 1 ∷ []) ∷ [];
      } ∷
      record {
        events = tried 2 1 0 1 1 1 (Commit 1) ∷ [];
        reads = item 0 0 (Some (100 ∷ [])) ∷ [];
        locks = lock 0 0 0 0 ∷ [];
        writes = item 0 0 (Some (101 ∷ [])) ∷ [];
        snaps = (0 ∷ 0 ∷ []) ∷ [];
      } ∷
      [];
  audit = row 0 0 (Some (101 ∷ [])) false ∷ [];
}
unfolding of_snapshot_again stint_workers picked after_workers until_ended settle copies load_from
snapshot_again = refl

unfoldable of_cause_before_effect : Scenario
of_cause_before_effect = record {
  shape = shape Narrow 3 (table 1 4 2 ∷ []) 1 1 0;
  rows = loaded 0 0 (100 ∷ []) ∷ loaded 0 1 (0 ∷ []) ∷ [];
  policy = record { tries = 2; tidy = false };
  txns = txn 1 (Add 0 0 1 true 1 ∷ []) ∷ txn 2 (Get 0 0 ∷ Put 0 1 (9 ∷ []) ∷ []) ∷ txn 3 (Get 0 0 ∷ Get 0 1 ∷ []) ∷ [];
  schedule = Stints (stint 3 1 ∷ stint 1 24 ∷ stint 2 24 ∷ []);
}

-- a snapshot that one pass would take sees an effect without its cause
cause_before_effect : shown of_cause_before_effect [] ≡ record {
  logs =
      record {
        events = tried 1 1 0 1 1 1 (Commit 1) ∷ [];
        reads = item 0 0 (Some (100 ∷ [])) ∷ [];
        locks = lock 0 0 0 0 ∷ [];
        writes = item 0 0 (Some (101 ∷ [])) ∷ [];
        snaps = (0 ∷ 0 ∷ 0 ∷ []) ∷ [];
      } ∷
      record {
        events = tried 2 1 1 1 1 1 (Commit 1) ∷ [];
        reads = item 0 0 (Some (101 ∷ [])) ∷ [];
        locks = lock 0 1 0 0 ∷ [];
        writes = item 0 1 (Some (9 ∷ [])) ∷ [];
        snaps = (1 ∷ 0 ∷ 0 ∷ []) ∷ [];
      } ∷
      record {
        events = unbegun 3 1 (Again 1 0 1) ∷ tried 3 2 2 2 0 0 ReadOnly ∷ [];
        reads = item 0 0 (Some (101 ∷ [])) ∷ item 0 1 (Some (9 ∷ [])) ∷ [];
        locks = [];
        writes = [];
        snaps = (1 ∷ 1 ∷ 0 ∷ []) ∷ [];
      } ∷
      [];
  audit = row 0 0 (Some (101 ∷ [])) false ∷ row 0 1 (Some (9 ∷ [])) false ∷ [];
}
unfolding of_cause_before_effect stint_workers picked after_workers until_ended settle copies load_from
cause_before_effect = refl

unfoldable of_writer_meets_lock : Scenario
of_writer_meets_lock = record {
  shape = shape Narrow 2 (table 1 4 2 ∷ []) 1 1 0;
  rows = loaded 0 0 (100 ∷ []) ∷ [];
  policy = record { tries = 1; tidy = false };
  txns = txn 1 (Add 0 0 1 true 5 ∷ []) ∷ txn 2 (Put 0 0 (9 ∷ []) ∷ []) ∷ [];
  schedule = Stints (stint 1 11 ∷ stint 2 6 ∷ []);
}

-- a put finds the lock of a commit
writer_meets_lock : shown of_writer_meets_lock [] ≡ record {
  logs =
      record {
        events = tried 1 1 0 1 1 1 (Commit 1) ∷ [];
        reads = item 0 0 (Some (100 ∷ [])) ∷ [];
        locks = lock 0 0 0 0 ∷ [];
        writes = item 0 0 (Some (105 ∷ [])) ∷ [];
        snaps = (0 ∷ 0 ∷ []) ∷ [];
      } ∷
      record {
        events = tried 2 1 0 0 0 0 (Locked (lock 0 0 0 0)) ∷ [];
        reads = [];
        locks = [];
        writes = [];
        snaps = (0 ∷ 0 ∷ []) ∷ [];
      } ∷
      [];
  audit = row 0 0 (Some (105 ∷ [])) false ∷ [];
}
unfolding of_writer_meets_lock stint_workers picked after_workers until_ended settle copies load_from
writer_meets_lock = refl

unfoldable of_reader_passes_lock : Scenario
of_reader_passes_lock = record {
  shape = shape Narrow 2 (table 1 4 2 ∷ []) 1 1 0;
  rows = loaded 0 0 (100 ∷ []) ∷ [];
  policy = record { tries = 1; tidy = false };
  txns = txn 1 (Add 0 0 1 true 5 ∷ []) ∷ txn 2 (Get 0 0 ∷ []) ∷ [];
  schedule = Stints (stint 1 11 ∷ stint 2 11 ∷ []);
}

-- a get reads on under the lock of a commit
reader_passes_lock : shown of_reader_passes_lock [] ≡ record {
  logs =
      record {
        events = tried 1 1 0 1 1 1 (Commit 1) ∷ [];
        reads = item 0 0 (Some (100 ∷ [])) ∷ [];
        locks = lock 0 0 0 0 ∷ [];
        writes = item 0 0 (Some (105 ∷ [])) ∷ [];
        snaps = (0 ∷ 0 ∷ []) ∷ [];
      } ∷
      record {
        events = tried 2 1 0 1 0 0 ReadOnly ∷ [];
        reads = item 0 0 (Some (100 ∷ [])) ∷ [];
        locks = [];
        writes = [];
        snaps = (0 ∷ 0 ∷ []) ∷ [];
      } ∷
      [];
  audit = row 0 0 (Some (105 ∷ [])) false ∷ [];
}
unfolding of_reader_passes_lock stint_workers picked after_workers until_ended settle copies load_from
reader_passes_lock = refl
