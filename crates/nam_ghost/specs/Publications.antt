-- What was published: a commit that the vector has reached has installed all its records.
use Rattle.nam_catalog.specs.declared.shape.Shape.{Shape}
use Rattle.nam_ghost.specs.Holders.{record_row}
use Rattle.nam_ghost.specs.Moments.{Observer, observer_of}
use Rattle.nam_ghost.specs.Versions.{Chain, IsVersion, Version}
use Rattle.nam_protocol.specs.Commit.{own_stamp, value_at}
use Rattle.nam_protocol.specs.declared.txn.TxnState.{TxnState}
use Rattle.nam_store.specs.Everyone.{Everyone}
use Rattle.nam_store.specs.Store.{Store}
use Rattle.si_model.specs.Lists.{Listed}
use Rattle.si_model.specs.declared.log.Stamp.{Stamp}
use Rattle.std.specs.Prelude.{List, Option, Some, length, map, slice_get, ℕ, ◌+◌, ◌<◌, ◌≡◌}

-- a commit that was published: its stamp, its snapshot, how many records it wrote and how many it locked, which are the
-- written ones and then those that it only guarded, and their rows and values
pub record Publication : Type 0 where
  pub stamp : Stamp
  pub seen : List ℕ
  pub records : ℕ
  pub locked : ℕ
  pub row : ℕ → ℕ
  pub value : ℕ → Option (List ℕ)

abbrev pub publication_of : TxnState → Publication
publication_of state = record {
  stamp = own_stamp state;
  seen = state.seen;
  records = length state.writes;
  locked = length state.records;
  row = record_row state;
  value = value_at state;
}

-- the version that it gave its record of this number
abbrev pub published_version : Publication → ℕ → Version
published_version commit p = record { stamp = commit.stamp; value = commit.value p; seen = commit.seen }

abbrev pub IsInstalled : (ℕ → Chain) → Publication → Type 0
IsInstalled chains commit =
    (p : ℕ) → p < commit.records → IsVersion (chains (commit.row p)) (published_version commit p)

-- Of the nth client, whose publications are listed oldest first: they are numbered from the start on, as many as its
-- entry says; and each has installed all its records, since the entry is written after the last header.
pub record PublicationsOk (start : ℕ) (chains : ℕ → Chain) (published : ℕ → List Publication) (nth : ℕ)
    (observer : Observer) : Type 0 where
  pub all : start + length (published nth) ≡ observer.number
  pub stamped : (k : ℕ) (commit : Publication) → slice_get (published nth) k ≡ Some commit
      → commit.stamp ≡ record { thread = nth + 1; number = start + k + 1 }
  pub installed : (commit : Publication) → Listed commit (published nth) → IsInstalled chains commit

abbrev pub PublishedOk : Shape → Store → (ℕ → Chain) → (ℕ → List Publication) → Type 0
PublishedOk shape store chains published =
    Everyone (PublicationsOk shape.start chains published) (map observer_of store.clients)
