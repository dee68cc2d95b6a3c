use Rattle.std.proofs.Common.{◌∙◌, sym, arith}
use Rattle.si_model.proofs.WriteLemmas.{guarded_has, guarded_new}
use Rattle.nam_txn.proofs.KeyLemmas.{guard_room}
use Rattle.nam_txn.proofs.keys.note_guard.Goals as goal

pub push-requires : goal.push-requires
push-requires c =
    let new = rw (c.as_slice.ensures.value, c.if-not-is_guarded.true) at c.is_guarded.ensures in
    (omega arith, guard_room c.args.guards.now c.args.key 16 (sym new) c.requires.room)

pub returns-then-not-is_guarded : goal.returns-then-not-is_guarded
returns-then-not-is_guarded c =
    let new = rw (c.as_slice.ensures.value, c.if-not-is_guarded.true) at c.is_guarded.ensures in
    c.push.ensures ∙ sym (guarded_new c.args.guards.now c.args.key (sym new))

pub returns-else-not-is_guarded : goal.returns-else-not-is_guarded
returns-else-not-is_guarded c =
    let there = rw (c.as_slice.ensures.value, c.if-not-is_guarded.false) at c.is_guarded.ensures in
    sym (guarded_has c.args.guards.now c.args.key (sym there))
