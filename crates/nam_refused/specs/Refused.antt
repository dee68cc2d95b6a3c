-- What is claimed of a commit that is refused: the row of the record that it couldn't lock has the version that was
-- found there, and where the header was unlocked the commit's snapshot doesn't see it. Versions stay, so this does.
use Rattle.std.specs.Prelude.{List, false, length, ℕ, ◌<◌, ◌≡◌, ◌⊎◌}
use Rattle.nam_calls.specs.declared.lock.LockPoint.TheVariants.{GiveBack, Seize}
use Rattle.nam_catalog.specs.declared.shape.Shape.{Shape}
use Rattle.nam_ghost.specs.Holders.{record_row}
use Rattle.nam_ghost.specs.Versions.{Chain, IsVersion, Version, current_word}
use Rattle.nam_header.specs.Stamp.{is_locked, stamp_in}
use Rattle.nam_header.specs.Visible.{is_visible}
use Rattle.nam_layout.specs.Address.{IsRow}
use Rattle.nam_protocol.specs.Commit.{record_at}
use Rattle.nam_protocol.specs.declared.client.ClientState.{ClientState}
use Rattle.nam_protocol.specs.declared.txn.CommitPoint.{CommitPoint}
use Rattle.nam_protocol.specs.declared.txn.CommitPoint.TheVariants.{Clearing, Locking}
use Rattle.nam_protocol.specs.declared.txn.Refusal.{Refusal}
use Rattle.nam_protocol.specs.declared.txn.TxnAnswer.{TxnAnswer}
use Rattle.nam_protocol.specs.declared.txn.TxnState.{TxnState}
use Rattle.nam_refused.specs.Views.{InCall}
use Rattle.nam_store.specs.Everyone.{Everyone}
use Rattle.nam_store.specs.Store.{Store}
use Rattle.si_model.specs.declared.log.Lock.{Lock}
use Rattle.si_model.specs.declared.log.Stamp.{Stamp}
use Rattle.nam_protocol.specs.declared.txn.Refusal.TheVariants as refusal
use Rattle.nam_protocol.specs.declared.txn.TxnAnswer.TheVariants as txn_answer

-- the commit's snapshot doesn't see the stamp
abbrev pub IsUnseen : TxnState → Stamp → Type 0
IsUnseen state stamp = is_visible stamp state.seen ≡ false

module _ (shape : Shape) (chains : ℕ → Chain) where
  -- 1. What was found

  -- the row of the commit's record of this number has a version with the stamp
  pub record HasStamp (state : TxnState) (number : ℕ) (stamp : Stamp) : Type 0 where
    pub within : number < length state.records
    pub version : Version
    pub there : IsVersion (chains (record_row state number)) version
    pub stamp_is : version.stamp ≡ stamp

  -- The header that stood in the way of the next lock bears such a version; and one that the snapshot doesn't see,
  -- unless the header was locked.
  pub record LostOk (state : TxnState) (found : ℕ) : Type 0 where
    pub has : HasStamp state (length state.held) (stamp_in shape.form found)
    pub newer : is_locked shape.form found ≡ false → IsUnseen state (stamp_in shape.form found)

  -- The header that is to be exchanged is the current version's, without a lock; or another one was installed
  -- meanwhile, which the snapshot doesn't see. So where the exchange finds another word, that is locked or newer.
  abbrev pub SeizeOk : TxnState → ℕ → Type 0
  SeizeOk state header = let now = (chains (record_row state (length state.held))).now in
      (current_word shape.form 0 now ≡ header) ⊎ IsUnseen state now.stamp

  -- a record of the commit bears the key, and its row has a version with the stamp that the lock says
  pub record IsFound (state : TxnState) (lock : Lock) : Type 0 where
    pub number : ℕ
    pub table : (record_at state number).key.table ≡ lock.table
    pub key : (record_at state number).key.key ≡ lock.key
    pub has : HasStamp state number lock.stamp

  -- and the snapshot doesn't see it
  pub record IsNewer (state : TxnState) (lock : Lock) : Type 0 where
    pub found : IsFound state lock
    pub unseen : IsUnseen state lock.stamp

  -- 2. A commit at its point, and its answers

  abbrev pub RefusalOk : TxnState → Refusal → Type 0
  RefusalOk state (refusal.Locked lock) = IsFound state lock
  RefusalOk state (refusal.Newer lock) = IsNewer state lock
  RefusalOk state (refusal.Full lock) = Unit {0}

  abbrev pub PointOk : TxnState → CommitPoint → Type 0
  PointOk state (Locking (Seize header)) = SeizeOk state header
  PointOk state (Locking (GiveBack given found)) = LostOk state found
  PointOk state (Clearing refusal) = RefusalOk state refusal
  PointOk state _ = Unit {0}

  abbrev pub AnswerOk : TxnState → TxnAnswer → Type 0
  AnswerOk state (txn_answer.Locked lock) = IsFound state lock
  AnswerOk state (txn_answer.Newer lock) = IsNewer state lock
  AnswerOk state _ = Unit {0}

abbrev pub RefusedOk : Shape → Store → (ℕ → Chain) → Type 0
RefusedOk shape store chains =
    Everyone (λ nth (client : ClientState). InCall (PointOk shape chains) client.call client.txn) store.clients

-- 3. What one step may make of a chain, as a snapshot sees it: versions stay, and the current one stays too or is one
-- that the snapshot doesn't see. All commits rely on this alone.

pub record ChainGoes (seen : List ℕ) (chain later : Chain) : Type 0 where
  pub stays : (version : Version) → IsVersion chain version → IsVersion later version
  pub current : (later.now ≡ chain.now) ⊎ (is_visible later.now.stamp seen ≡ false)

abbrev pub ChainsGo : Shape → List ℕ → (ℕ → Chain) → (ℕ → Chain) → Type 0
ChainsGo shape seen chains later = (row : ℕ) → IsRow shape row → ChainGoes seen (chains row) (later row)
