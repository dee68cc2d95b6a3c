-- The opening's keys are the loaded rows', and each step keeps what is claimed of the keys that stand.
use Rattle.std.proofs.Common.{List, None, Option, Some, ap, arith, inl, inr, subst, sym, true, ℕ, ◌∙◌}
use Rattle.std.proofs.Common.{◌≡◌}
use Rattle.std.specs.List.{AllByRecursion}
use Rattle.si_model.specs.Evaluation.{op_key}
use Rattle.si_model.specs.Lists.{Listed}
use Rattle.si_model.specs.Operations.{op_claims}
use Rattle.si_model.specs.Rows.{key_at}
use Rattle.si_model.specs.declared.op.Op.{Op}
use Rattle.si_model.specs.declared.row.Key.{Key}
use Rattle.si_model.specs.declared.row.Row.{Row}
use Rattle.si_model.proofs.ListLemmas.{All-listed}
use Rattle.nam_verbs.specs.declared.now.Now.{Now}
use Rattle.nam_verbs.specs.declared.now.Now.TheVariants.{At}
use Rattle.nam_catalog.specs.declared.shape.Shape.{Shape}
use Rattle.nam_layout.specs.Rows.{row_of, table_of}
use Rattle.nam_layout.proofs.PositionLemmas.{position_is_row}
use Rattle.nam_calls.specs.declared.index.ClaimKeyPoint.{ClaimKeyPoint}
use Rattle.nam_calls.specs.declared.index.ClaimKeyPoint.TheVariants.{KeyTake}
use Rattle.nam_calls.proofs.FieldLemmas.{row_within}
use Rattle.nam_protocol.specs.ClientFits.{NowFits, OpenPointFits}
use Rattle.nam_protocol.specs.OpeningLaw.{IsOfTable}
use Rattle.nam_protocol.specs.declared.client.Answer.{Answer}
use Rattle.nam_protocol.specs.declared.client.Call.{Call}
use Rattle.nam_protocol.specs.declared.client.CallPoint.{CallPoint}
use Rattle.nam_protocol.specs.declared.client.CallPoint.TheVariants.{InTxn}
use Rattle.nam_protocol.specs.declared.client.ClientState.{ClientState}
use Rattle.nam_protocol.specs.declared.client.Open.{Open}
use Rattle.nam_protocol.specs.declared.txn.TxnPoint.TheVariants.{Claiming}
use Rattle.nam_protocol.proofs.OpeningLemmas.{opening_law}
use Rattle.nam_store.specs.Everyone.{Everyone}
use Rattle.nam_store.specs.Reached.{Opened, calls_after}
use Rattle.nam_store.specs.Store.{Abandons, Asks, Cuts, StepsTo, Store, Takes, client_at, step}
use Rattle.nam_store.proofs.BaseLemmas.{client_within}
use Rattle.nam_store.proofs.ReachedLemmas.{reached_holds}
use Rattle.nam_tells.specs.AskedLaw.{Tales, no_tales, tales_next}
use Rattle.nam_tells.specs.Teller.{running}
use Rattle.nam_tells.proofs.AskedStores.{HasTale, all_tales, tales_step}
use Rattle.nam_claimed.specs.Claimed.{ClaimedOk, FromOp, FromRow, IsLoadedOrAsked, ops_asked}
use Rattle.nam_claimed.specs.ClaimedLaw.{KeepsLaw, OpensLaw, ReachedLaw, RestsOn}
use Rattle.nam_claimed.proofs.AskedLemmas.{asked_stays, tale_asked}
use Rattle.nam_claimed.proofs.HomeLemmas.{keys_meet, table_within}
use Rattle.nam_claimed.proofs.WriteLemmas.{claims_key, claims_key_at, key_goes}

-- 1. The opening

pub claimed_opens : OpensLaw
claimed_opens shape rows loaded table key position less bears =
    let is = table_within shape table position less in
    elim ((opening_law shape rows loaded.of_tables).positions (row_of shape.tables table position)
    (row_within shape table position is less)) [
      | inl free ↦ let none = free.key in absurd (omega arith)
      | inr (row, listed, has) ↦
          let of_table = All-listed (IsOfTable shape) rows row loaded.of_tables listed in
          let here = position_is_row shape.tables table position (is, less) in
          let there = position_is_row shape.tables row.table has.position (of_table.table_is, has.within) in
          let same : row.table ≡ table =
          sym there.table_is ∙ ap (table_of shape.tables) (sym has.at_is) ∙ here.table_is in
          let word = has.key in
          FromRow row listed (keys_meet row.table table row.key key same (omega arith))
    ]

-- 2. A word

module _ (shape : Shape) (rows : List Row) (store : Store) (calls : ℕ → List Call) (rests : RestsOn shape store calls)
    (nth : ℕ) (client : ClientState) (here : client_at store nth ≡ Some client) where
  -- the operation that claims was asked, and claims its key
  claims_asked : (op : Op) (at : ClaimKeyPoint) → client.call ≡ Some (At (InTxn (Claiming op at)))
      → IsLoadedOrAsked shape rows calls (op_key op)
  claims_asked op at runs =
      FromOp nth op (client_within shape store rests.base nth client here) listed
      (claims_key op
      (by client.txn (subst (NowFits shape client.txn) runs (rests.base.clients nth client here).fits.2)))
    where
      listed : Listed op (ops_asked (calls nth))
      listed =
          (subst (λ (call : Option (Now CallPoint Answer)).
          AllByRecursion (λ op. Listed op (ops_asked (calls nth))) (running call)) runs
          (rests.asked nth client here)).0

      by : (opened : Option Open) → OpenPointFits shape opened (Claiming op at) → op_claims op ≡ true
      by None fits = absurd fits
      by (Some attempt) fits = fits.3

  claimed_word : (place : CallPoint) → client.call ≡ Some (At place) → ClaimedOk shape rows store calls
      → ClaimedOk shape rows (step shape store nth client) calls
  claimed_word place at ok table key position less bears =
      let row = row_of shape.tables table position in
      elim (key_goes shape store rests.base nth client here place at row
      (row_within shape table position (table_within shape table position less) less)) [
        | inl same ↦ ok table key position less (sym same ∙ bears)
        | inr claims ↦
            subst (IsLoadedOrAsked shape rows calls)
            (claims_key_at shape store rests.base nth client here table key position less claims bears)
            (claims_asked claims.op (KeyTake claims.passed) claims.runs)
      ]

-- 3. A step, and each store

-- what is loaded or asked stays so
pub known_stays : (shape : Shape) (rows : List Row) (before after : Store) (goes : StepsTo shape before after)
    (calls : ℕ → List Call) (key : Key) → IsLoadedOrAsked shape rows calls key
    → IsLoadedOrAsked shape rows (calls_after shape before after goes calls) key
known_stays shape rows before after goes calls key (FromRow row listed is) = FromRow row listed is
known_stays shape rows before after goes calls key (FromOp nth op within listed claims) =
    FromOp nth op within (asked_stays shape before after goes calls nth op listed) claims

pub claimed_keeps : KeepsLaw
claimed_keeps shape rows before _ (Takes nth client place here runs at) calls rests ok =
    claimed_word shape rows before calls rests nth client here place at ok
claimed_keeps shape rows before _ (Asks nth client asked here may words) calls rests ok =
    λ table key position less bears.
    known_stays shape rows before _ (Asks nth client asked here may words) calls (key_at table key)
    (ok table key position less bears)
claimed_keeps shape rows before _ (Abandons nth client here rests_now) calls rests ok = ok
claimed_keeps shape rows before _ (Cuts nth client here) calls rests ok = ok

-- each client has its tale
abbrev HaveTales : Store → Tales → Type 0
HaveTales store tales =
    Everyone (λ nth client. HasTale (tales.calls nth) client (tales.tellers nth)) store.clients

pub claimed_reached : ReachedLaw
claimed_reached shape limits rows loaded store tales reached =
    (reached_holds shape rows no_tales (tales_next shape) limits loaded
    (λ store tales. HaveTales store tales × ClaimedOk shape rows store tales.calls)
    (all_tales shape rows _ no_tales Opened, claimed_opens shape rows loaded)
    (λ before after tales goes base was. (
      tales_step shape before after tales goes was.0,
      claimed_keeps shape rows before after goes tales.calls
          (record {
            base = base;
            asked = λ nth client here.
                tale_asked (tales.calls nth) client (tales.tellers nth) (was.0 nth client here);
          })
          was.1,
    ))
    store tales reached).1
