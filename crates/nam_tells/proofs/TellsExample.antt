-- A client with an open attempt that has read a row and holds a lock: what its teller has, and what the log tells were
-- the client cut now, before the commit publishes and after it.
use Rattle.std.proofs.Common.{List, None, Some, [], refl, suc, true, zero, ℕ, ◌∷◌, ◌≡◌}
use Rattle.si_model.specs.Tells.{ListsTells, Tell, tells_with}
use Rattle.si_model.specs.declared.log.Event.TheVariants.{TailCut}
use Rattle.si_model.specs.declared.log.Log.{Log}
use Rattle.si_model.specs.declared.log.Outcome.TheVariants as outcome
use Rattle.si_model.specs.declared.op.Op.TheVariants as op
use Rattle.si_model.specs.declared.op.Op.{Op}
use Rattle.nam_verbs.specs.Verb.{after_verb, found_by}
use Rattle.nam_verbs.specs.VerbAt.{VerbAt}
use Rattle.nam_catalog.specs.declared.form.Form.TheVariants.{Narrow}
use Rattle.nam_catalog.specs.declared.shape.Shape.{Shape}
use Rattle.nam_layout.specs.declared.field.Field.{Field}
use Rattle.nam_calls.specs.Memory.{verb_there}
use Rattle.nam_protocol.proofs.Shown.{item, loaded, lock, shape, table, tried}
use Rattle.nam_protocol.specs.Client.{client_after, client_ask, client_verb}
use Rattle.nam_protocol.specs.CutClient.{client_cut, into_log}
use Rattle.nam_protocol.specs.Opening.{copies, load_from, opening_words}
use Rattle.nam_protocol.specs.Telling.{new_client}
use Rattle.nam_protocol.specs.declared.client.Call.TheVariants.{Begin, Tidy, Txn}
use Rattle.nam_protocol.specs.declared.client.Call.{Call}
use Rattle.nam_protocol.specs.declared.client.ClientState.{ClientState}
use Rattle.nam_protocol.specs.declared.txn.TxnCall.TheVariants.{Add, Commit, Guard}
use Rattle.nam_tells.specs.AskedLaw.{attempts_asked}
use Rattle.nam_tells.specs.Steps.{told_abandoned, told_after, told_asked}
use Rattle.nam_tells.specs.Teller.{Teller, bare_tell, end_of, new_teller}

-- 1. One client on the words, with its teller

record Alone : Type 0 where
  words : List ℕ
  client : ClientState
  teller : Teller

-- one worker, two keys in a table of two positions with a ring of one slot each, and one cell
abbrev small : Shape
small = shape Narrow 1 (table 1 2 1 ∷ []) 1 1 0

abbrev verb_done : Alone → VerbAt Field → Alone
verb_done alone verb =
    let found = found_by alone.words (verb_there small verb) in
    record {
      words = after_verb alone.words (verb_there small verb);
      client = client_after small alone.client found;
      teller = told_after small alone.client found alone.teller;
    }

-- no more than so many verbs of the call that runs
unfoldable after_verbs : ℕ → Alone → Alone
after_verbs zero alone = alone
after_verbs (suc verbs) alone = elim (client_verb small alone.client) [
  | None ↦ alone
  | Some verb ↦ after_verbs verbs (verb_done alone verb)
]

abbrev called : ℕ → Alone → Call → Alone
called verbs alone call =
    after_verbs verbs (record alone {
      client = client_ask small alone.client call;
      teller = told_asked small alone.client call alone.teller;
    })

abbrev opened : Alone
opened = record {
  words = opening_words small (loaded 0 0 (5 ∷ []) ∷ loaded 0 1 (6 ∷ []) ∷ []);
  client = new_client 1 0;
  teller = new_teller;
}

-- a guard and an add, and so many verbs of the commit
abbrev asked : Alone
asked = called 1000 (called 1000 (called 1000 opened (Begin 1 1)) (Txn (Guard 0 0))) (Txn (Add 0 1 1 true 3))

abbrev committing : ℕ → Alone
committing verbs = called verbs asked (Txn Commit)

abbrev two_ops : List Op
two_ops = op.Guard 0 0 ∷ op.Add 0 1 1 true 3 ∷ []

-- 2. The lock is taken

after_lock : (committing 2).teller
    ≡ record {
      front = [];
      ops = two_ops;
      passed = two_ops;
      reads = item 0 0 (Some (5 ∷ [])) ∷ item 0 1 (Some (6 ∷ [])) ∷ [];
      locks = lock 0 1 0 0 ∷ [];
    }
unfolding after_verbs copies load_from
after_lock = refl

abbrev cut_tell : Tell
cut_tell = record {
  event = tried 1 1 0 2 1 0 outcome.Cut;
  ops = two_ops;
  reads = item 0 0 (Some (5 ∷ [])) ∷ item 0 1 (Some (6 ∷ [])) ∷ [];
  locks = lock 0 1 0 0 ∷ [];
  writes = [];
  snap = 0 ∷ [];
}

end_after_lock : end_of small (committing 2).teller (client_cut (committing 2).client) ≡ cut_tell ∷ []
unfolding after_verbs copies load_from
end_after_lock = refl

log_after_lock : tells_with (two_ops ∷ []) (into_log small (client_cut (committing 2).client)) ≡ cut_tell ∷ []
unfolding after_verbs copies load_from
log_after_lock = refl

-- as the client's log has it: no event, what was read, the lock, and the snapshot
abbrev log_of : Log
log_of = record {
  events = [];
  reads = item 0 0 (Some (5 ∷ [])) ∷ item 0 1 (Some (6 ∷ [])) ∷ [];
  locks = lock 0 1 0 0 ∷ [];
  writes = [];
  snaps = (0 ∷ []) ∷ [];
}

log_is : (committing 2).client.log ≡ log_of
unfolding after_verbs copies load_from
log_is = refl

lists_after_lock : ListsTells log_of [] log_of.reads log_of.locks [] ((0 ∷ []) ∷ [])
lists_after_lock = record { events = refl; reads = refl; locks = refl; writes = refl; snaps = refl; owned = tt }

-- 3. It has published, and the guard's lock stands

abbrev commit_tell : Tell
commit_tell = record {
  event = tried 1 1 0 2 2 1 (outcome.Commit 1);
  ops = two_ops;
  reads = item 0 0 (Some (5 ∷ [])) ∷ item 0 1 (Some (6 ∷ [])) ∷ [];
  locks = lock 0 1 0 0 ∷ lock 0 0 0 0 ∷ [];
  writes = item 0 1 (Some (9 ∷ [])) ∷ [];
  snap = 0 ∷ [];
}

end_published : end_of small (committing 15).teller (client_cut (committing 15).client)
    ≡ commit_tell ∷ bare_tell TailCut [] ∷ []
unfolding after_verbs copies load_from
end_published = refl

log_published : tells_with (two_ops ∷ []) (into_log small (client_cut (committing 15).client))
    ≡ commit_tell ∷ bare_tell TailCut [] ∷ []
unfolding after_verbs copies load_from
log_published = refl

-- 4. It is over: the attempt is told once, and nothing is left

over : (committing 100).teller ≡ record { front = commit_tell ∷ []; ops = []; passed = []; reads = []; locks = [] }
unfolding after_verbs copies load_from
over = refl

end_over : end_of small (committing 100).teller (client_cut (committing 100).client) ≡ []
unfolding after_verbs copies load_from
end_over = refl

-- 5. It is given up before its commit: what was left is told as left

left : told_abandoned asked.client asked.teller
    ≡ record {
      front = record cut_tell { event = tried 1 1 0 2 0 0 outcome.Left; locks = [] } ∷ [];
      ops = [];
      passed = [];
      reads = [];
      locks = [];
    }
unfolding after_verbs copies load_from
left = refl

-- 6. Over the calls: the operations of the attempt, and none of one that has just begun

abbrev calls : List Call
calls = Begin 1 1 ∷ Txn (Guard 0 0) ∷ Txn (Add 0 1 1 true 3) ∷ Txn Commit ∷ Tidy 0 1 ∷ Begin 2 1 ∷ []

calls_asked : attempts_asked calls ≡ two_ops ∷ [] ∷ []
calls_asked = refl
