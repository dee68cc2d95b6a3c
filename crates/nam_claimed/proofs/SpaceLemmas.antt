-- A claim that finds no space: as many other keys as positions stand in the table, each loaded or asked for.
use Rattle.std.proofs.Common.{List, None, Option, Some, [], ap, arith, length, refl, subst, suc, sym, zero, ℕ}
use Rattle.std.proofs.Common.{◌-◌, ◌<◌, ◌∙◌, ◌∷◌, ◌≡◌, ◌≢◌}
use Rattle.std.specs.Prelude.{slice_index}
use Rattle.std.specs.List.{AllByRecursion}
use Rattle.si_model.specs.Evaluation.{op_key}
use Rattle.si_model.specs.Lists.{Listed, Pairwise}
use Rattle.si_model.specs.Rows.{key_at}
use Rattle.si_model.specs.Setting.{Asked, Setting, claimed_keys}
use Rattle.si_model.specs.declared.op.Op.{Op}
use Rattle.si_model.specs.declared.op.Op.TheVariants as op
use Rattle.si_model.specs.declared.row.Key.{Key}
use Rattle.si_model.specs.declared.row.Row.{Row}
use Rattle.nam_verbs.specs.declared.now.Now.{Now}
use Rattle.nam_verbs.specs.declared.now.Now.TheVariants.{At, Over}
use Rattle.nam_catalog.specs.declared.shape.Shape.{Shape}
use Rattle.nam_layout.specs.declared.field.Field.{Field}
use Rattle.nam_calls.specs.Index.{claim_key_after}
use Rattle.nam_calls.specs.Memory.{memory}
use Rattle.nam_calls.specs.Words.{capacity_of, key_word}
use Rattle.nam_calls.specs.declared.index.ClaimKeyEnd.{ClaimKeyEnd}
use Rattle.nam_calls.specs.declared.index.ClaimKeyPoint.{ClaimKeyPoint}
use Rattle.nam_protocol.specs.Client.{after_call, take_txn}
use Rattle.nam_protocol.specs.ClientFits.{NowFits, OpenPointFits}
use Rattle.nam_protocol.specs.Operations.{answer_of, op_path, value_in}
use Rattle.nam_protocol.specs.Telling.{stepped}
use Rattle.nam_protocol.specs.Txn.{on_claim}
use Rattle.nam_protocol.specs.declared.client.Answer.{Answer}
use Rattle.nam_protocol.specs.declared.client.Call.{Call}
use Rattle.nam_protocol.specs.declared.client.CallPoint.{CallPoint}
use Rattle.nam_protocol.specs.declared.client.ClientState.{ClientState}
use Rattle.nam_protocol.specs.declared.client.Open.{Open}
use Rattle.nam_protocol.specs.declared.txn.TxnAnswer.{TxnAnswer}
use Rattle.nam_protocol.specs.declared.txn.TxnPoint.TheVariants.{Claiming}
use Rattle.nam_store.specs.Store.{Store, found_word}
use Rattle.nam_store.proofs.RowsStand.{key_once}
use Rattle.nam_ghost.specs.Keys.{IsPast, KeysNext, KeysOk}
use Rattle.nam_ghost.specs.Versions.{Chain}
use Rattle.nam_claimed.specs.Claimed.{ClaimedOk}
use Rattle.nam_claimed.specs.EndsLaw.{LacksSpace, ListsAsked, NoSpaceLaw}
use Rattle.nam_claimed.specs.Home.{word_at}
use Rattle.nam_claimed.proofs.EndLemmas.{claim_full}
use Rattle.nam_claimed.proofs.HomeLemmas.{table_within}
use Rattle.nam_claimed.proofs.ModelLemmas.{known_claimed}
use Rattle.nam_claimed.proofs.PathLemmas.{on_path, past_none, past_stays}
use Rattle.nam_calls.specs.declared.index.ClaimKeyEnd.TheVariants as claimed_key
use Rattle.nam_protocol.specs.declared.client.Answer.TheVariants as client_answer
use Rattle.nam_protocol.specs.declared.txn.TxnAnswer.TheVariants as txn_answer

-- 1. The keys of a table's first positions

module _ (words : ℕ → ℕ) (table : ℕ) where
  -- the key whose word the position bears
  abbrev key_there : ℕ → Key
  key_there position = key_at table (words position - 1)

  abbrev keys_there : ℕ → List Key
  keys_there zero = []
  keys_there (suc n) = key_there n ∷ keys_there n

  keys_many : (n : ℕ) → length (keys_there n) ≡ n
  keys_many zero = refl
  keys_many (suc n) = ap suc (keys_many n)

  all_there : (P : Key → Type 0) (n : ℕ) → ((position : ℕ) → position < n → P (key_there position))
      → AllByRecursion P (keys_there n)
  all_there P zero each = tt
  all_there P (suc n) each =
      (each n (omega arith), all_there P n (λ position less. each position (omega arith)))

  apart_there : (n : ℕ) → ((a b : ℕ) → b < a → a < n → key_there a ≢ key_there b)
      → Pairwise (λ a b. a ≢ b) (keys_there n)
  apart_there zero apart = tt
  apart_there (suc n) apart = (
    all_there (λ k. key_there n ≢ k) n (λ b less. apart n b less (omega arith)),
    apart_there n (λ a b less within. apart a b less (omega arith)),
  )

-- 2. A table all of whose positions bear other keys

module _ (shape : Shape) (rows : List Row) (store : Store) (chains : ℕ → Chain) (calls : ℕ → List Call)
    (ok : KeysOk shape store chains) (known : ClaimedOk shape rows store calls) (key : Key)
    (past : IsPast shape (memory shape store.words) key.table key.key (capacity_of shape key.table)) where
  abbrev m : Field → ℕ
  m = memory shape store.words

  abbrev words : ℕ → ℕ
  words = word_at shape m key.table

  -- each bears another key
  bears_other : (position : ℕ) → position < capacity_of shape key.table
      → (words position ≢ 0) × (words position ≢ key_word key.key)
  bears_other position less =
      let p = on_path shape m key.table key.key position less in
      let other = past p.0 p.1 in
      ((λ none. other.0 (p.2 ∙ none)), (λ same. other.1 (p.2 ∙ same)))

  -- no two bear one
  apart_keys : (a b : ℕ) → b < a → a < capacity_of shape key.table
      → key_there words key.table a ≢ key_there words key.table b
  apart_keys a b less within same =
      let one = (bears_other a within).0 in
      let other = (bears_other b (omega arith)).0 in
      let k : words a - 1 ≡ words b - 1 = ap (λ (q : Key). q.key) same in
      let once = key_once shape store.words ok.paths key.table (table_within shape key.table a within) (words a - 1) a b
      within (omega arith) (omega arith) (omega arith) in
      omega arith

  module _ (s : Setting) (asked : Asked) (lists : ListsAsked shape rows calls s asked) where
    abbrev IsOther : Key → Type 0
    IsOther k = (k.table ≡ key.table) × (k ≢ key) × Listed k (claimed_keys s asked)

    is_other : (position : ℕ) → position < capacity_of shape key.table → IsOther (key_there words key.table position)
    is_other position less =
        let bears = bears_other position less in
        let some = bears.0 in (
          refl,
          (λ same. bears.1 (let k : words position - 1 ≡ key.key = ap (λ (q : Key). q.key) same in omega arith)),
          known_claimed shape rows calls s asked lists (key_there words key.table position)
              (known key.table (words position - 1) position less (omega arith)),
        )

    pub lacks_space : (later : Store) → KeysNext shape m (memory shape later.words)
        → LacksSpace shape (memory shape later.words) s asked key
    lacks_space later next = record {
      unplaced = past_none shape (memory shape later.words) key.table key.key
          (past_stays shape m (memory shape later.words) next key.table key.key (capacity_of shape key.table)
          (omega arith) past);
      keys = keys_there words key.table (capacity_of shape key.table);
      apart = apart_there words key.table (capacity_of shape key.table) apart_keys;
      many =
          let capacity = ap (λ (those : List ℕ). slice_index those key.table) lists.capacities in
          let count = keys_many words key.table (capacity_of shape key.table) in
          omega arith;
      others = all_there words key.table IsOther (capacity_of shape key.table) is_other;
    }

-- 3. The answer

-- an operation that passes doesn't answer so
silent : (op : Op) (value : Option (List ℕ)) (table : ℕ) → answer_of op value ≢ txn_answer.NoSpace table
silent (op.Get t k) value table e = absurd (cc)
silent (op.Put t k v) value table e = absurd (cc)
silent (op.Add t k f up by) value table e = absurd (cc)
silent (op.Del t k) value table e = absurd (cc)
silent (op.Need t k f least) value table e = absurd (cc)
silent (op.Guard t k) value table e = absurd (cc)
silent (op.Scan t low high) value table e = absurd (cc)

abbrev answer_in : Option (Now CallPoint Answer) → TxnAnswer
answer_in (Some (Over (client_answer.Txn answer))) = answer
answer_in _ = txn_answer.Written

abbrev table_in : TxnAnswer → ℕ
table_in (txn_answer.NoSpace table) = table
table_in _ = 0

module _ (shape : Shape) (client : ClientState) (op : Op) (table : ℕ) where
  -- the claim has ended for want of space, in the operation's table
  abbrev HasEnded : Now ClaimKeyPoint ClaimKeyEnd → Type 0
  HasEnded now = (now ≡ Over claimed_key.NoSpace) × (table ≡ (op_key op).table)

  answers_full : (attempt : Open) (now : Now ClaimKeyPoint ClaimKeyEnd)
      → (stepped client attempt 0 (on_claim shape attempt.state op now)).call
      ≡ Some (Over (client_answer.Txn (txn_answer.NoSpace table))) → HasEnded now
  answers_full attempt (At next) e = absurd (cc)
  answers_full attempt (Over claimed_key.NoSpace) e = (refl, ap (λ call. table_in (answer_in call)) (sym e))
  answers_full attempt (Over (claimed_key.At position)) e =
      absurd (silent op (value_in attempt.state.read) table (ap answer_in e))

  call_full : (at : ClaimKeyPoint) (found : ℕ) (opened : Option Open) → OpenPointFits shape opened (Claiming op at)
      → (take_txn shape client (Claiming op at) opened found).call
      ≡ Some (Over (client_answer.Txn (txn_answer.NoSpace table)))
      → HasEnded (claim_key_after (op_path shape op) at found)
  call_full at found None fits e = absurd fits
  call_full at found (Some attempt) fits e = answers_full attempt (claim_key_after (op_path shape op) at found) e

pub no_space_holds : NoSpaceLaw
no_space_holds shape rows store chains calls base ok known nth client op table full s asked lists =
    let found = found_word shape store client in
    let fits = subst (NowFits shape client.txn) full.runs (base.clients nth client full.here).fits.2 in
    let ended = call_full shape client op table full.at found client.txn fits
    (ap (λ (call : Option (Now CallPoint Answer)). (after_call shape client call found).call) (sym full.runs)
    ∙ full.answers) in (
      ended.1,
      lacks_space shape rows store chains calls ok known (op_key op)
          (claim_full shape store chains base ok nth client full.here op full.at full.runs ended.0) s asked lists,
    )
