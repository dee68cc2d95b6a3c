-- Locks: a locked header has one holder, which lists it; the words of a position are those of its current version, but
-- for what its holder has written.
use Rattle.std.specs.Prelude.{List, Some, false, length, map, slice_index, true, ℕ, ◌+◌, ◌<◌, ◌≡◌, ◌≢◌, ◌≤◌}
use Rattle.nam_calls.specs.Memory.{memory}
use Rattle.nam_calls.specs.Record.{word_in}
use Rattle.nam_calls.specs.Words.{wrapped}
use Rattle.nam_catalog.specs.declared.form.Form.{Form}
use Rattle.nam_catalog.specs.declared.shape.Shape.{Shape}
use Rattle.nam_ghost.specs.Holders.{Holder, Holds, HoldsRow, from_at, holder_of, record_row, version_of}
use Rattle.nam_ghost.specs.Versions.{Chain, HasData, IsVersion, RecordImage, Version, current_number, current_word}
use Rattle.nam_ghost.specs.Versions.{record_image}
use Rattle.nam_header.specs.Header.{flag}
use Rattle.nam_header.specs.Stamp.{FitsStamp}
use Rattle.nam_header.specs.Visible.{is_visible}
use Rattle.nam_layout.specs.Address.{IsRow}
use Rattle.nam_layout.specs.Rows.{width_at}
use Rattle.nam_layout.specs.declared.field.Field.{Field}
use Rattle.nam_layout.specs.declared.field.Field.TheVariants.{Header, Word}
use Rattle.nam_protocol.specs.declared.client.CallPoint.TheVariants.{InTxn}
use Rattle.nam_protocol.specs.declared.client.ClientState.{ClientState}
use Rattle.nam_protocol.specs.declared.client.Open.{Open}
use Rattle.nam_protocol.specs.declared.txn.CommitPoint.{CommitPoint}
use Rattle.nam_protocol.specs.declared.txn.TxnPoint.TheVariants.{Committing}
use Rattle.nam_store.specs.Everyone.{Everyone}
use Rattle.nam_store.specs.Store.{Store}
use Rattle.nam_verbs.specs.declared.now.Now.TheVariants.{At}

-- 1. A position's words

-- Its header bears the current version, the last that was installed, and the lock, with the holder's name in form Held;
-- its count is that version's number, and one more once the holder has written it; its data are that version's until
-- the holder writes the first data word. Only a holder writes them, and the write of a header ends both marks.
pub record RecordOk (form : Form) (workers width : ℕ) (image : RecordImage) (chain : Chain) : Type 0 where
  pub header_is : image.header ≡ current_word form chain.holder chain.now
  pub fits : FitsStamp form chain.now.stamp
  pub count_is : image.count ≡ wrapped (current_number chain + flag chain.counted)
  pub data_is : chain.dirty ≡ false → HasData width image.body chain.now.value
  pub free : chain.holder ≡ 0 → (chain.dirty ≡ false) × (chain.counted ≡ false)
  pub worker : chain.holder ≤ workers

-- 2. A holder

-- A record that it holds: the chain names it; the header that it has kept is the current version's, without the lock,
-- so that writing it back frees the lock and nothing else; its snapshot sees that version, since only such a header is
-- exchanged; and the number that it has found is that version's.
pub record HeldOk (form : Form) (holder : Holder) (p : ℕ) (chain : Chain) : Type 0 where
  pub holder_is : chain.holder ≡ holder.stamp.thread
  pub header_is : slice_index holder.held p ≡ current_word form 0 chain.now
  pub sees : is_visible chain.now.stamp holder.seen ≡ true
  pub count_is : p < length holder.counts → slice_index holder.counts p ≡ wrapped (current_number chain)

-- what it has written at the record that it works on
pub record WrittenOk (holder : Holder) (body : ℕ → ℕ) (chain : Chain) : Type 0 where
  pub dirty : chain.dirty ≡ holder.dirty
  pub counted : chain.counted ≡ holder.counted
  pub words : (nth : ℕ) → nth < holder.words → body nth ≡ word_in (holder.value holder.from) nth

-- nothing was written
pub record CleanOk (chain : Chain) : Type 0 where
  pub dirty : chain.dirty ≡ false
  pub counted : chain.counted ≡ false

module _ (shape : Shape) where
  -- The nth client as a holder. Its records are rows, each another one; each that it holds is so, and only at the first
  -- of them it has written; a row whose chain names its worker is one that it holds; and its records that are done have
  -- their version.
  pub record HolderOk (m : Field → ℕ) (chains : ℕ → Chain) (nth : ℕ) (holder : Holder) : Type 0 where
    pub worker : holder.stamp.thread ≡ nth + 1
    pub inside : (p : ℕ) → Holds holder p → IsRow shape (holder.row p)
    pub held : (p : ℕ) → Holds holder p → HeldOk shape.form holder p (chains (holder.row p))
    pub written : let row = holder.row holder.from in
        Holds holder holder.from → WrittenOk holder (λ word. m (Word row word)) (chains row)
    pub narrow : Holds holder holder.from → holder.words ≤ width_at shape.tables (holder.row holder.from)
    pub clean : (p : ℕ) → Holds holder p → p ≢ holder.from → CleanOk (chains (holder.row p))
    pub apart : (p q : ℕ) → Holds holder p → Holds holder q → p ≢ q → holder.row p ≢ holder.row q
    pub owns : (row : ℕ) → IsRow shape row → (chains row).holder ≡ nth + 1 → HoldsRow holder row
    pub installed : (p : ℕ) → p < holder.done → IsVersion (chains (holder.row p)) (version_of holder p)

  abbrev pub RowOk : (Field → ℕ) → (ℕ → Chain) → ℕ → Type 0
  RowOk m chains row =
      RecordOk shape.form shape.workers (width_at shape.tables row) (record_image m row) (chains row)

  pub record AreHeld (m : Field → ℕ) (chains : ℕ → Chain) (holders : List Holder) : Type 0 where
    pub all : length holders ≡ shape.workers
    pub rows : (row : ℕ) → IsRow shape row → RowOk m chains row
    pub each : Everyone (HolderOk m chains) holders

  -- What a step owes each other client, the nth: versions stay; the rows that it holds, with their data words, are what
  -- they were; and it holds no row more. Holders rely on this alone.
  pub record Spared (m now : Field → ℕ) (chains later : ℕ → Chain) (nth : ℕ) : Type 0 where
    pub grows : (row : ℕ) (version : Version) → IsVersion (chains row) version → IsVersion (later row) version
    pub same : (row : ℕ) → IsRow shape row → (chains row).holder ≡ nth + 1
        → (later row ≡ chains row)
        × ((word : ℕ) → word < width_at shape.tables row → now (Word row word) ≡ m (Word row word))
    pub none_new : (row : ℕ) → IsRow shape row → (later row).holder ≡ nth + 1 → (chains row).holder ≡ nth + 1

abbrev pub LocksOk : Shape → Store → (ℕ → Chain) → Type 0
LocksOk shape store chains = AreHeld shape (memory shape store.words) chains (map holder_of store.clients)

-- 3. In words of clients and headers alone

-- the client runs a commit that has locked the row's record, and has neither given the lock back nor written the new
-- header
pub record Lists (row : ℕ) (client : ClientState) : Type 0 where
  pub at : CommitPoint
  pub attempt : Open
  pub runs : client.call ≡ Some (At (InTxn (Committing at)))
  pub opened : client.txn ≡ Some attempt
  pub number : ℕ
  pub begins : from_at attempt.state at ≤ number
  pub ends : number < length attempt.state.held
  pub row_is : record_row attempt.state number ≡ row

abbrev pub header_at : Shape → Store → ℕ → ℕ
header_at shape store row = memory shape store.words (Header row)
