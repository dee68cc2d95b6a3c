-- What a step makes of key words, and what a word on a key's path tells of the key.
use Rattle.std.specs.Prelude.{List, ℕ, ◌+◌, ◌<◌, ◌≡◌, ◌⊎◌}
use Rattle.nam_calls.specs.Index.{nth_position}
use Rattle.nam_calls.specs.Words.{capacity_of, key_word, path_of}
use Rattle.nam_calls.specs.declared.index.ClaimKeyEnd.{ClaimKeyEnd}
use Rattle.nam_calls.specs.declared.index.ClaimKeyPoint.{ClaimKeyPoint}
use Rattle.nam_calls.specs.declared.index.FindEnd.{FindEnd}
use Rattle.nam_catalog.specs.declared.shape.Shape.{Shape}
use Rattle.nam_ghost.specs.Keys.{AreAtKeys, Bears, IsPast, KeyView, LooksFor, NoKey, ViewOk, claim_view, txn_view}
use Rattle.nam_layout.specs.Address.{IsRow}
use Rattle.nam_layout.specs.Rows.{row_of}
use Rattle.nam_layout.specs.declared.field.Field.{Field}
use Rattle.nam_layout.specs.declared.field.Field.TheVariants.{Key}
use Rattle.nam_protocol.specs.Txn.{Stepped}
use Rattle.nam_protocol.specs.declared.client.Scanned.{Scanned}
use Rattle.nam_protocol.specs.declared.txn.TxnAnswer.{TxnAnswer}
use Rattle.nam_protocol.specs.declared.txn.TxnPoint.{TxnPoint}
use Rattle.nam_verbs.specs.declared.now.Now.{Now}
use Rattle.nam_verbs.specs.declared.now.Now.TheVariants.{At, Over}
use Rattle.si_model.specs.Lists.{Listed}
use Rattle.nam_calls.specs.declared.index.ClaimKeyEnd.TheVariants as claimed_key
use Rattle.nam_calls.specs.declared.index.FindEnd.TheVariants as found_key
use Rattle.si_model.specs.declared.row.Key as row_key

-- 1. Key words after a client's step, by what the client knew of keys before it

module _ (shape : Shape) (m now : Field → ℕ) (view : KeyView) where
  -- the client has claimed the row, which bore no key, for the key that it looked for
  pub record IsClaimed (row : ℕ) : Type 0 where
    pub table : ℕ
    pub key : ℕ
    pub passed : ℕ
    pub looks : view ≡ LooksFor table key passed
    pub row_is : row_of shape.tables table 0 + nth_position (path_of shape table key) passed ≡ row
    pub free : m (Key row) ≡ 0
    pub here : now (Key row) ≡ key_word key

  -- each key word is what it was, or its row was claimed
  abbrev pub KeysGo : Type 0
  KeysGo = (row : ℕ) → IsRow shape row → (now (Key row) ≡ m (Key row)) ⊎ IsClaimed row

-- 2. A word on a key's path

module _ (shape : Shape) (m : Field → ℕ) (key : row_key.Key) where
  abbrev pub FindTells : Now ℕ FindEnd → Type 0
  FindTells (At passed) = IsPast shape m key.table key.key passed
  FindTells (Over (found_key.At position)) = Bears shape m key.table key.key position
  FindTells (Over found_key.Absent) = Unit {0}

  -- where a claim finds no space all positions bear other keys
  abbrev pub ClaimTells : Now ClaimKeyPoint ClaimKeyEnd → Type 0
  ClaimTells (At at) = ViewOk shape m (claim_view key at)
  ClaimTells (Over (claimed_key.At position)) = Bears shape m key.table key.key position
  ClaimTells (Over claimed_key.NoSpace) = IsPast shape m key.table key.key (capacity_of shape key.table)

-- 3. What is known, in parts

abbrev pub now_view : Now TxnPoint TxnAnswer → KeyView
now_view (At at) = txn_view at
now_view (Over answer) = NoKey

module _ (shape : Shape) (m : Field → ℕ) where
  -- the rows that were found before this position
  abbrev pub AreBefore : ℕ → ℕ → List Scanned → Type 0
  AreBefore table position rows =
      (row : Scanned) → Listed row rows → (row.position < position) × Bears shape m table row.key row.position

  -- a transaction that has stepped
  abbrev pub StepTells : Stepped → Type 0
  StepTells step = AreAtKeys shape m step.state.claims × ViewOk shape m (now_view step.call)
