-- Logs of worked examples, without their reads and locks, for tests.
use Rattle.std.specs.Prelude.{ℕ, zero, suc, ◌≡◌, ◌<◌, ◌^◌, List, [], ◌∷◌, length, replicate, Option, Some, None}
use Rattle.std.specs.List.{AllByRecursion}
use Rattle.si_model.specs.declared.row.Item.{Item}
use Rattle.si_model.specs.declared.log.Outcome.{Outcome}
use Rattle.si_model.specs.declared.log.Outcome.TheVariants.{Commit, ReadOnly, Again, Newer}
use Rattle.si_model.specs.declared.log.Event.{Event}
use Rattle.si_model.specs.declared.log.Event.TheVariants.{Tried}
use Rattle.si_model.specs.declared.log.Log.{Log}
use Rattle.si_model.specs.History.{stamp_at}
use Rattle.si_model.specs.Tells.{CountsFit}

-- what arranging asks of logs
pub record AreReady (logs : List Log) : Type 0 where
  pub few : length logs < 2 ^ 31
  pub counts : AllByRecursion CountsFit logs

abbrev pub attempt : ℕ → ℕ → Option ℕ → ℕ → Outcome → Event
attempt txn nth prefix writes outcome =
    Tried (record { txn = txn; nth = nth; prefix = prefix; reads = 0; locks = 0; writes = writes; outcome = outcome })

-- a commit that writes one key
abbrev pub commit : ℕ → ℕ → ℕ → ℕ → Event
commit txn nth prefix number = attempt txn nth (Some prefix) 1 (Commit number)

abbrev pub item : ℕ → ℕ → Item
item key word = record { table = 0; key = key; value = Some (word ∷ []) }

abbrev pub log : List Event → List Item → List (List ℕ) → Log
log events writes snaps = record { events = events; reads = []; locks = []; writes = writes; snaps = snaps }

abbrev pub first_committer_logs : List Log
first_committer_logs =
    log (commit 1 1 0 1 ∷ []) (item 0 105 ∷ []) ((0 ∷ 0 ∷ []) ∷ [])
    ∷ log (attempt 2 1 (Some 0) 0 (Newer (record { table = 0; key = 0; stamp = stamp_at 1 1 })) ∷ commit 2 2 1 1 ∷ [])
    (item 0 112 ∷ []) ((0 ∷ 0 ∷ []) ∷ (1 ∷ 0 ∷ []) ∷ [])
    ∷ []

abbrev pub write_skew_logs : List Log
write_skew_logs = log (commit 1 1 0 1 ∷ []) (item 0 0 ∷ []) ((0 ∷ 0 ∷ []) ∷ [])
    ∷ log (commit 2 1 0 1 ∷ []) (item 1 0 ∷ []) ((0 ∷ 0 ∷ []) ∷ []) ∷ []

abbrev pub again_logs : List Log
again_logs =
    log (attempt 1 1 None 0 (Again 2 0 1) ∷ attempt 1 2 (Some 1) 0 ReadOnly ∷ []) [] ((0 ∷ 1 ∷ []) ∷ [])
    ∷ log (commit 2 1 0 1 ∷ []) (item 0 101 ∷ []) ((0 ∷ 0 ∷ []) ∷ [])
    ∷ []

abbrev pub cause_logs : List Log
cause_logs =
    log (commit 1 1 0 1 ∷ []) (item 0 101 ∷ []) ((0 ∷ 0 ∷ 0 ∷ []) ∷ [])
    ∷ log (commit 2 1 1 1 ∷ []) (item 1 9 ∷ []) ((1 ∷ 0 ∷ 0 ∷ []) ∷ [])
    ∷ log (attempt 3 1 None 0 (Again 1 0 1) ∷ attempt 3 2 (Some 2) 0 ReadOnly ∷ []) [] ((1 ∷ 1 ∷ 0 ∷ []) ∷ [])
    ∷ []

abbrev pub guard_logs : List Log
guard_logs = log (commit 2 1 0 1 ∷ []) (item 0 9 ∷ []) ((0 ∷ 0 ∷ []) ∷ [])
    ∷ log (commit 1 1 0 1 ∷ []) (item 1 1 ∷ []) ((0 ∷ 0 ∷ []) ∷ []) ∷ []

-- neither snapshot is at most the other
abbrev pub unordered_logs : List Log
unordered_logs = log (commit 1 1 2 1 ∷ []) (item 0 1 ∷ []) ((0 ∷ 2 ∷ []) ∷ [])
    ∷ log (commit 1 1 1 1 ∷ []) (item 1 1 ∷ []) ((1 ∷ 0 ∷ []) ∷ []) ∷ []

-- two commits of one number
abbrev pub tied_logs : List Log
tied_logs = log (commit 2 1 0 1 ∷ commit 1 1 0 1 ∷ []) (item 5 1 ∷ item 3 1 ∷ []) ((0 ∷ []) ∷ (0 ∷ []) ∷ []) ∷ []

-- so many commits, with numbers from a + 1 on, all on the loaded state
abbrev pub sized_events : ℕ → ℕ → List Event
sized_events a zero = []
sized_events a (suc n) = commit 1 1 0 (suc a) ∷ sized_events (suc a) n

-- the log of one of so many workers, with so many commits on the loaded state
pub record IsSized (workers commits : ℕ) (l : Log) : Type 0 where
  pub events : l.events ≡ sized_events 0 commits
  pub reads : l.reads ≡ []
  pub locks : l.locks ≡ []
  pub writes : length l.writes ≡ commits
  pub snaps : l.snaps ≡ replicate commits (replicate workers 0)
