-- Where versions come from: each is the write of one commit, which was published or is in flight; and what was
-- published is listed by its client.
use Rattle.nam_calls.specs.Memory.{memory}
use Rattle.nam_calls.specs.Words.{key_word}
use Rattle.nam_catalog.specs.declared.shape.Shape.{Shape}
use Rattle.nam_ghost.specs.Holders.{Holder, holder_of, version_of}
use Rattle.nam_ghost.specs.Moments.{has_published}
use Rattle.nam_ghost.specs.Publications.{Publication, publication_of, published_version}
use Rattle.nam_ghost.specs.Versions.{Chain, IsNth, Version}
use Rattle.nam_header.specs.Header.{flag}
use Rattle.nam_layout.specs.Address.{IsRow}
use Rattle.nam_layout.specs.Rows.{table_of}
use Rattle.nam_layout.specs.declared.field.Field.{Field}
use Rattle.nam_layout.specs.declared.field.Field.TheVariants.{Key}
use Rattle.nam_protocol.specs.declared.client.ClientState.{ClientState}
use Rattle.nam_protocol.specs.declared.client.Open.{Open}
use Rattle.nam_store.specs.Everyone.{Everyone, Someone}
use Rattle.nam_store.specs.Store.{Store}
use Rattle.si_model.specs.Commits.{Published, published_of}
use Rattle.si_model.specs.History.{stamp_of}
use Rattle.si_model.specs.Lists.{Listed, last_of}
use Rattle.si_model.specs.Tells.{tells_with}
use Rattle.si_model.specs.declared.row.Item.{Item}
use Rattle.std.specs.Prelude.{List, Some, [], length, slice_get, true, ℕ, ◌+◌, ◌<◌, ◌≡◌, ◌⊎◌}

-- 1. Versions

-- the version is what the published commit gave one of its records, at this row
abbrev pub IsPublishedAs : Publication → ℕ → Version → Type 0
IsPublishedAs commit row version =
    (p : ℕ) × (p < commit.records) × (commit.row p ≡ row) × (version ≡ published_version commit p)

-- or what a commit in flight has given a record that is done
abbrev pub IsDoneAs : Holder → ℕ → Version → Type 0
IsDoneAs holder row version =
    (p : ℕ) × (p < holder.done) × (holder.row p ≡ row) × (version ≡ version_of holder p)

abbrev pub HasOrigin : (ℕ → List Publication) → ℕ → Version → ℕ → ClientState → Type 0
HasOrigin published row version nth client =
    ((commit : Publication) × Listed commit (published nth) × IsPublishedAs commit row version)
    ⊎ IsDoneAs (holder_of client) row version

-- Each version but the loader's has such an origin, with its stamp, its value and its writer's snapshot. A commit that
-- has installed a record can't be refused any more; so it is in flight until it is published, or its client is stopped
-- there.
abbrev pub HaveOrigins : Shape → Store → (ℕ → Chain) → (ℕ → List Publication) → Type 0
HaveOrigins shape store chains published = (row : ℕ) → IsRow shape row → (number : ℕ) → (version : Version)
    → IsNth (chains row) (number + 1) version → Someone (HasOrigin published row version) store.clients

-- 2. Lists

-- the commits that a client's log lists, oldest first; their operations are left out
abbrev pub listed_commits : ClientState → List Published
listed_commits client = published_of client.worker (tells_with [] client.log)

-- the same stamp and snapshot, and write by write the key that its row bears, and its value
pub record IsListedAs (shape : Shape) (m : Field → ℕ) (commit : Publication) (listed : Published) : Type 0 where
  pub stamp_is : stamp_of listed.line ≡ commit.stamp
  pub seen_is : listed.snap ≡ commit.seen
  pub writes_are : length listed.line.writes ≡ commit.records
  pub each : (p : ℕ) (item : Item) → slice_get listed.line.writes p ≡ Some item
      → (table_of shape.tables (commit.row p) ≡ item.table) × (m (Key (commit.row p)) ≡ key_word item.key)
      × (commit.value p ≡ item.value)

-- a commit that has published, and frees its guards or clears its intent, is the last of its client's publications
abbrev pub IsStanding : (ℕ → List Publication) → ℕ → ClientState → Type 0
IsStanding published nth client =
    (attempt : Open) → has_published client.call ≡ true → client.txn ≡ Some attempt
    → last_of (published nth) ≡ Some (publication_of attempt.state)

-- The publications of a client are its listed commits, in order; but the last of them isn't listed yet while its commit
-- frees the guards or clears the intent.
pub record AreListed (shape : Shape) (m : Field → ℕ) (published : ℕ → List Publication) (nth : ℕ)
    (client : ClientState) : Type 0 where
  pub count : length (listed_commits client) + flag (has_published client.call) ≡ length (published nth)
  pub each : (k : ℕ) (commit : Publication) (listed : Published) → slice_get (published nth) k ≡ Some commit
      → slice_get (listed_commits client) k ≡ Some listed → IsListedAs shape m commit listed

-- what a commit shows of itself: each version has an origin, and a commit that frees its guards is the last published
pub record OriginsOk (shape : Shape) (store : Store) (chains : ℕ → Chain) (published : ℕ → List Publication)
    : Type 0 where
  pub versions_are : HaveOrigins shape store chains published
  pub standing : Everyone (IsStanding published) store.clients

-- what logs show of it: the keys of the written records stand, and they are listed
abbrev pub ListedOk : Shape → Store → (ℕ → List Publication) → Type 0
ListedOk shape store published = Everyone (AreListed shape (memory shape store.words) published) store.clients
