use Rattle.std.proofs.Common.{◌≡◌, ◌∙◌, sym, ap, subst, Some, None}
use Rattle.std.specs.Prelude.{if◌then◌else◌}
use Rattle.si_model.specs.Rows.{key_at, writes_key}
use Rattle.nam_protocol.specs.Operations.{own_value}
use Rattle.nam_txn.specs.Txn.{Transacting}
use Rattle.nam_txn.proofs.OwnLemmas.{own_some, own_none}
use Rattle.nam_txn.proofs.txn.Txn.own.Goals as goal

pub returns-in-Some : goal.returns-in-Some
returns-in-Some c =
    let ws = c.self.inside.registers.state.writes in
    let key = key_at c.args.table c.args.key in
    let some = rw (c.as_slice.ensures.value, c.in-Some.is) at c.place_written.ensures.place in
    subst (λ (v : Transacting). Some c.copy_value.result
    ≡ (if writes_key v.state.writes key then Some (own_value v.state.writes key) else None)) c.self.view_is
    (ap Some c.copy_value.ensures ∙ own_some ws key c.in-Some.place c.at.result.now (sym some) c.at.ensures)

pub returns-in-None : goal.returns-in-None
returns-in-None c =
    let ws = c.self.inside.registers.state.writes in
    let key = key_at c.args.table c.args.key in
    let none = rw (c.as_slice.ensures.value, c.in-None.is) at c.place_written.ensures.place in
    subst (λ (v : Transacting). None
    ≡ (if writes_key v.state.writes key then Some (own_value v.state.writes key) else None)) c.self.view_is
    (own_none ws key (sym none))
