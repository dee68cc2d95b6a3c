use Rattle.std.proofs.Common.{◌∙◌, sym, arith}
use Rattle.si_model.proofs.PlaceLemmas.{wrote_again, wrote_first}
use Rattle.nam_txn.proofs.KeyLemmas.{write_room}
use Rattle.nam_txn.proofs.keys.note_write.Goals as goal

pub push-requires : goal.push-requires
push-requires c =
    let none = rw (c.as_slice.ensures.value, c.key.ensures, c.in-None.is) at c.place_written.ensures.place in
    (omega arith, write_room c.args.writes.now c.args.item 16 (sym none) c.requires.room)

pub returns-in-Some : goal.returns-in-Some
returns-in-Some c =
    let some = rw (c.as_slice.ensures.value, c.key.ensures, c.in-Some.is) at c.place_written.ensures.place in
    c.set.ensures ∙ (wrote_again c.args.writes.now c.args.item c.in-Some.place (sym some)).0

pub returns-in-None : goal.returns-in-None
returns-in-None c =
    let none = rw (c.as_slice.ensures.value, c.key.ensures, c.in-None.is) at c.place_written.ensures.place in
    c.push.ensures ∙ wrote_first c.args.writes.now c.args.item (sym none)
