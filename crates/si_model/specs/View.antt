-- What the entries that an event's snapshot holds say. Answers, causes and knowledge stand over a view, so that they
-- serve a report with its history and logs alone.
use Rattle.std.specs.Prelude.{ℕ, Bool, List, length, map, take}
use Rattle.si_model.specs.declared.row.Key.{Key}
use Rattle.si_model.specs.declared.log.Stamp.{Stamp}
use Rattle.si_model.specs.declared.report.CommitLine.{CommitLine}
use Rattle.si_model.specs.Rows.{Rows}
use Rattle.si_model.specs.State.{state_at}
use Rattle.si_model.specs.History.{entries_at, newest_writer, has_stamp, versions_after}
use Rattle.si_model.specs.Tells.{Tell, prefix_of}
use Rattle.si_model.specs.Commits.{Published, entry_of}
use Rattle.si_model.specs.Snapshots.{inside, newest_in, stamp_or_loader, rows_in, later_in}

pub record View : Type 0 where
  -- all entries that there are
  pub all : List CommitLine
  -- the rows after the first entries
  pub value : Tell → Rows
  -- the stamp of the last of them that writes the key
  pub newest : Tell → Key → Stamp
  -- the published number of each worker after them
  pub entries : Tell → List ℕ
  -- is the stamp of one of them
  pub has : Tell → Stamp → Bool
  -- how many of them write the key after the version; none where it is not a version among them
  pub later : Tell → Key → Stamp → ℕ

-- by a history: the first entries are as many as the prefix says
abbrev pub by_history : Rows → ℕ → ℕ → List CommitLine → View
by_history rows workers start history = record {
  all = history;
  value = λ t. state_at rows (take (prefix_of t) history);
  newest = λ t key. newest_writer key (take (prefix_of t) history);
  entries = λ t. entries_at workers start (take (prefix_of t) history);
  has = λ t s. has_stamp (take (prefix_of t) history) s;
  later = λ t key s. length (versions_after key s (take (prefix_of t) history));
}

-- by the snapshots alone: the first entries are the commits that the event's snapshot contains
abbrev pub by_snapshots : Rows → List Published → View
by_snapshots rows cs = record {
  all = map entry_of cs;
  value = λ t. rows_in rows cs t.snap;
  newest = λ t key. stamp_or_loader (newest_in key (inside t.snap cs));
  entries = λ t. t.snap;
  has = λ t s. has_stamp (map entry_of (inside t.snap cs)) s;
  later = λ t key s. later_in cs key s (inside t.snap cs);
}
