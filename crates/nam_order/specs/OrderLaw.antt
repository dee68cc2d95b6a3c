-- How the commits and snapshots that logs list stand to one another, were each client cut now: they have an order; of
-- two commits that write one key one is in the other's snapshot; each snapshot keeps the guards; and overtaking goes in
-- no circle.
use Rattle.nam_calls.specs.Memory.{memory}
use Rattle.nam_calls.specs.Words.{key_word}
use Rattle.nam_catalog.specs.declared.shape.Shape.{Shape}
use Rattle.nam_ghost.specs.Chains.{ChainsOk}
use Rattle.nam_ghost.specs.Ghost.{Ghost}
use Rattle.nam_ghost.specs.Moments.{MomentsOk}
use Rattle.nam_ghost.specs.Publications.{Publication, PublishedOk}
use Rattle.nam_ghost.specs.Since.{SinceOk}
use Rattle.nam_layout.specs.Address.{IsRow}
use Rattle.nam_layout.specs.Rows.{table_of}
use Rattle.nam_layout.specs.declared.field.Field.{Field}
use Rattle.nam_layout.specs.declared.field.Field.TheVariants as field
use Rattle.nam_store.specs.Base.{BaseOk}
use Rattle.nam_protocol.specs.declared.client.ClientState.{ClientState}
use Rattle.nam_store.specs.Everyone.{Someone}
use Rattle.nam_store.specs.LoadedLaw.{KeysStand}
use Rattle.nam_store.specs.Store.{Store}
use Rattle.nam_tells.specs.Teller.{Teller}
use Rattle.nam_told.specs.Commits.{AreCommits, commits_of}
use Rattle.nam_tells.specs.Logs.{logs_cut}
use Rattle.si_model.specs.Causes.{tells_by}
use Rattle.si_model.specs.Commits.{Published, published_by, snaps_by}
use Rattle.si_model.specs.Consistency.{FirstWins, HaveNoCircle, HaveOrder, KeepsGuards, OwnsSnapshot, is_overtaking}
use Rattle.si_model.specs.Evaluation.{guard_keys}
use Rattle.si_model.specs.Lists.{Listed}
use Rattle.si_model.specs.Rows.{writes_key}
use Rattle.si_model.specs.declared.row.Key.{Key}
use Rattle.std.specs.List.{AllByRecursion}
use Rattle.std.specs.Prelude.{List, Some, false, slice_get, suc, ℕ, ◌<◌, ◌≡◌, ◌≤◌}

module _ (shape : Shape) (m : Field → ℕ) where
  -- the row bears the key
  abbrev pub RowBears : ℕ → Key → Type 0
  RowBears row key = (table_of shape.tables row ≡ key.table) × (m (field.Key row) ≡ key_word key.key)

  -- what a commit guards it doesn't write, and its publication has locked it
  abbrev pub HasGuards : Publication → Published → Type 0
  HasGuards commit listed = (key : Key) → Listed key (guard_keys listed.ops)
      → (writes_key listed.line.writes key ≡ false)
      × ((p : ℕ) × ((p < commit.locked) × RowBears (commit.row p) key))

-- What is known of a store with its ghost, and of what its clients would tell: the groups of the law of words; that
-- the rows of publications are rows, and those that are written are locked; that the listed commits are the
-- publications, with their guards; and that a snapshot that is told was taken.
pub record RestsOn (shape : Shape) (store : Store) (ghost : Ghost) (tellers : ℕ → Teller) : Type 0 where
  pub base : BaseOk shape store
  pub moments : MomentsOk shape store
  pub chains : ChainsOk shape store ghost.chains
  pub published : PublishedOk shape store ghost.chains ghost.published
  pub since : SinceOk shape store ghost.published ghost.order
  pub keys : KeysStand shape store.words
  pub rows : (nth : ℕ) → nth < shape.workers → (commit : Publication) → Listed commit (ghost.published nth) → (p : ℕ)
      → p < commit.locked → IsRow shape (commit.row p)
  pub few : (nth : ℕ) → nth < shape.workers → (commit : Publication) → Listed commit (ghost.published nth)
      → commit.records ≤ commit.locked
  pub commits : AreCommits shape (memory shape store.words) ghost.published (logs_cut shape tellers store)
  pub guards : (nth k : ℕ) → nth < shape.workers → (commit : Publication) (listed : Published)
      → slice_get (ghost.published nth) k ≡ Some commit
      → slice_get (commits_of (logs_cut shape tellers store) nth) k ≡ Some listed
      → HasGuards shape (memory shape store.words) commit listed
  pub taken : (snap : List ℕ) → Listed snap (snaps_by (logs_cut shape tellers store))
      → Someone (λ _ (client : ClientState). Listed snap client.log.snaps) store.clients

module _ (shape : Shape) (store : Store) (tellers : ℕ → Teller) where
  abbrev pub commits : List Published
  commits = published_by (logs_cut shape tellers store)

  -- the snapshots of the events
  abbrev pub IsTold : List ℕ → Type 0
  IsTold snap = Listed snap (snaps_by (logs_cut shape tellers store))

  -- each event's prefix is its snapshot's
  abbrev pub OwnSnapshots : Type 0
  OwnSnapshots = (nth : ℕ) → nth < shape.workers
      → AllByRecursion (OwnsSnapshot shape.start) (tells_by (suc nth) (logs_cut shape tellers store))

-- numbers follow one another, snapshots are of what is published, and any two of them are ordered
abbrev pub OrderLaw : Type 0
OrderLaw = (shape : Shape) (store : Store) (tellers : ℕ → Teller) (ghost : Ghost) → RestsOn shape store ghost tellers
    → OwnSnapshots shape store tellers → HaveOrder shape.start (logs_cut shape tellers store)

-- of two commits that write one key one is in the other's snapshot, since the versions of a key stand in one chain
abbrev pub WinsLaw : Type 0
WinsLaw = (shape : Shape) (store : Store) (tellers : ℕ → Teller) (ghost : Ghost) → RestsOn shape store ghost tellers
    → FirstWins (commits shape store tellers)

-- a snapshot that contains a commit contains those that it overtakes
abbrev pub GuardsLaw : Type 0
GuardsLaw = (shape : Shape) (store : Store) (tellers : ℕ → Teller) (ghost : Ghost) → RestsOn shape store ghost tellers
    → (snap : List ℕ) → IsTold shape store tellers snap → KeepsGuards (commits shape store tellers) snap

-- overtaking follows the order of publication
abbrev pub CircleLaw : Type 0
CircleLaw = (shape : Shape) (store : Store) (tellers : ℕ → Teller) (ghost : Ghost) → RestsOn shape store ghost tellers
    → HaveNoCircle is_overtaking (commits shape store tellers)
