use Rattle.std.proofs.Common.{◌∙◌, sym, arith}
use Rattle.nam_txn.proofs.KeyLemmas.{claim_same, claim_last, claim_room, claimed_any}
use Rattle.nam_txn.proofs.keys.note_claim.Goals as goal

pub push-requires : goal.push-requires
push-requires c =
    let new = rw (c.as_slice.ensures.value, c.if-not-is_claimed.true) at c.is_claimed.ensures in
    let none = sym (claimed_any c.args.claims.now c.args.claim.key) ∙ sym new in
    (omega arith, claim_room c.args.claims.now c.args.claim 16 none c.requires.room)

pub returns-then-not-is_claimed : goal.returns-then-not-is_claimed
returns-then-not-is_claimed c =
    let new = rw (c.as_slice.ensures.value, c.if-not-is_claimed.true) at c.is_claimed.ensures in
    let none = sym (claimed_any c.args.claims.now c.args.claim.key) ∙ sym new in
    c.push.ensures ∙ sym (claim_last c.args.claims.now c.args.claim none)

pub returns-else-not-is_claimed : goal.returns-else-not-is_claimed
returns-else-not-is_claimed c =
    let there = rw (c.as_slice.ensures.value, c.if-not-is_claimed.false) at c.is_claimed.ensures in
    let some = sym (claimed_any c.args.claims.now c.args.claim.key) ∙ sym there in
    sym (claim_same c.args.claims.now c.args.claim some)
