use Rattle.nam_txn.proofs.RunLemmas.{claims_room, writes_room, guards_room}
use Rattle.nam_txn.proofs.registers.Registers.claim.Goals as goal

pub note_claim-requires : goal.note_claim-requires
note_claim-requires c =
    record {
      room = rw (c.place-place.ensures.value, c.key-key.ensures)
          (claims_room c.args.layout.now c.args.self.now c.requires.runs c.requires.claims);
    }

pub change-requires-clause-writes : goal.change-requires-clause-writes
change-requires-clause-writes c = writes_room c.args.layout.now c.args.self.now c.requires.runs c.requires.claims

pub change-requires-clause-guards : goal.change-requires-clause-guards
change-requires-clause-guards c = guards_room c.args.layout.now c.args.self.now c.requires.runs c.requires.claims
