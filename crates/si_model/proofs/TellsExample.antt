-- What a log tells over the calls: an attempt has the operations that were asked for in it, also without a snapshot;
-- and how far a worker has come in the policy.
use Rattle.std.proofs.Common.{◌≡◌, true, false, [], ◌∷◌, refl, Some, None}
use Rattle.si_model.specs.declared.op.Op.TheVariants.{Add, Get}
use Rattle.si_model.specs.declared.log.Log.{Log}
use Rattle.si_model.specs.declared.log.Outcome.TheVariants.{Again, ReadOnly}
use Rattle.si_model.specs.declared.log.Event.TheVariants.{NoRoom}
use Rattle.si_model.specs.Rows.{key_at}
use Rattle.si_model.specs.Tells.{Tell, tells_with, tells_of}
use Rattle.si_model.specs.Tries.{attempted, tidied, owes_all, owed_along, may_be_at_hand, next_owed}
use Rattle.si_model.specs.Tries.Stage.{going, committed}
use Rattle.si_model.proofs.ExampleWords.{item, lock, tried, commits, collected, moved, whole_log}

-- an attempt that got no snapshot, a tidying that found no room, and a transaction of two reads
abbrev three : Log
three = whole_log (tried 1 1 None 0 0 (Again 2 0 1) ∷ NoRoom 0 ∷ tried 1 2 (Some 1) 2 0 ReadOnly ∷ [])
    (item 0 0 5 ∷ item 0 1 6 ∷ []) [] [] ((0 ∷ 1 ∷ []) ∷ [])

tells_asked : tells_with ((Get 0 7 ∷ []) ∷ (Get 0 0 ∷ Get 0 1 ∷ []) ∷ []) three
    ≡ record {
      event = tried 1 1 None 0 0 (Again 2 0 1);
      ops = Get 0 7 ∷ [];
      reads = [];
      locks = [];
      writes = [];
      snap = [];
    }
    ∷ record { event = NoRoom 0; ops = []; reads = []; locks = []; writes = []; snap = [] }
    ∷ record {
      event = tried 1 2 (Some 1) 2 0 ReadOnly;
      ops = Get 0 0 ∷ Get 0 1 ∷ [];
      reads = item 0 0 5 ∷ item 0 1 6 ∷ [];
      locks = [];
      writes = [];
      snap = 0 ∷ 1 ∷ [];
    } ∷ []
tells_asked = refl

-- by the jobs both attempts have their transaction's
same_by_jobs : tells_of ((Get 0 0 ∷ Get 0 1 ∷ []) ∷ []) three
    ≡ tells_with ((Get 0 0 ∷ Get 0 1 ∷ []) ∷ (Get 0 0 ∷ Get 0 1 ∷ []) ∷ []) three
same_by_jobs = refl

-- a commit of transaction 1, and then the first events of a tidying of its key
abbrev commit : Tell
commit = record {
  event = commits 1 1 0 1 1 1 1;
  ops = Add 0 0 1 true 1 ∷ [];
  reads = item 0 0 0 ∷ [];
  locks = lock 0 0 0 0 ∷ [];
  writes = item 0 0 1 ∷ [];
  snap = 0 ∷ [];
}

abbrev bare : Rattle.si_model.specs.declared.log.Event.Event → Tell
bare event = record { event = event; ops = []; reads = []; locks = []; writes = []; snap = [] }

-- after the commit its key is to be tidied, and then transaction 2 is to be tried
owed_after_commit : owed_along (record { tries = 1; tidy = true }) (owes_all (1 ∷ 2 ∷ [])) (attempted commit ∷ [])
    ≡ Some (next_owed (key_at 0 0 ∷ []) (2 ∷ []) committed)
owed_after_commit = refl

-- no part is made of the first noroom, nor of the noroom and the collect behind it, while these may be at hand
at_noroom : may_be_at_hand (next_owed (key_at 0 0 ∷ []) (2 ∷ []) committed) (bare (NoRoom 0) ∷ []) ≡ true
at_noroom = refl

at_collect : may_be_at_hand (next_owed (key_at 0 0 ∷ []) (2 ∷ []) committed)
    (bare (NoRoom 0) ∷ bare (collected 0 1 (1 ∷ [])) ∷ []) ≡ true
at_collect = refl

-- a collect of another bucket doesn't go on from it, nor is a key tidied where none is owed
other_bucket : may_be_at_hand (next_owed (key_at 0 0 ∷ []) (2 ∷ []) committed)
    (bare (NoRoom 0) ∷ bare (collected 1 1 (1 ∷ [])) ∷ []) ≡ false
other_bucket = refl

nothing_owed : may_be_at_hand (next_owed [] (2 ∷ []) committed) (bare (NoRoom 0) ∷ []) ≡ false
nothing_owed = refl

-- the move ends the tidying
after_move : owed_along (record { tries = 1; tidy = true }) (owes_all (1 ∷ 2 ∷ []))
    (attempted commit
    ∷ tidied (key_at 0 0) (bare (NoRoom 0) ∷ bare (collected 0 1 (1 ∷ [])) ∷ bare (moved 0 0 0 0 0) ∷ []) ∷ [])
    ≡ Some (next_owed [] (2 ∷ []) going)
after_move = refl
