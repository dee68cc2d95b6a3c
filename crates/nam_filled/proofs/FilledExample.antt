-- Two old versions of one row moved into the two cells of a bucket, and collected: which moves have claimed them, and
-- what is claimed of a cell that is written, of one that is full, and of one that is free again.
use Rattle.std.proofs.Common.{Bool, List, None, Option, Some, [], false, map, arith, refl, suc}
use Rattle.std.proofs.Common.{zero, ℕ, ◌∷◌, ◌≡◌}
use Rattle.nam_verbs.specs.declared.now.Now.TheVariants.{At}
use Rattle.nam_verbs.specs.declared.now.Now.{Now}
use Rattle.nam_filled.specs.Filled.{CollectorAt, IsPassed, Scene, claims_of, scene_of}
use Rattle.nam_filled.specs.Holders.{Holders, Mover, call_holders, mover_of, no_holders}
use Rattle.nam_filled.specs.Moves.{FillsIn, Move, events_now, move_in, running_move}
use Rattle.nam_ghost.proofs.MoveExample.{narrow_shape, put_deeds}
use Rattle.nam_ghost.proofs.Runs.{Calls, Deed, Seen, Stops, Turns, asked_of, client_of, opened, stamp, stopped_of}
use Rattle.nam_ghost.proofs.Runs.{word_taken}
use Rattle.nam_layout.specs.declared.field.Field.TheVariants.{Tag}
use Rattle.nam_protocol.proofs.Shown.{loaded}
use Rattle.nam_protocol.specs.Opening.{copies, load_from}
use Rattle.nam_protocol.specs.declared.client.Answer.{Answer}
use Rattle.nam_protocol.specs.declared.client.Call.TheVariants.{Begin, Collect, Tidy, Txn}
use Rattle.nam_protocol.specs.declared.txn.TxnCall.TheVariants.{Commit, Put}
use Rattle.nam_calls.specs.declared.horizon.CollectPoint.TheVariants.{CollectEnding, CollectTag}
use Rattle.std.specs.Prelude.{if◌then◌else◌, slice_index, ◌==◌, ◌<◌, ◌≤◌}
use Rattle.nam_protocol.specs.declared.client.CallPoint.{CallPoint}
use Rattle.nam_protocol.specs.declared.client.ClientState.{ClientState}
use Rattle.nam_store.specs.Store.{client_at, found_word}
use Rattle.nam_ghost.specs.Versions.{number_by}

-- 1. A store with what is known of it, and the holders of its cells

pub record Watched : Type 0 where
  pub seen : Seen
  pub holders : Holders

abbrev word_at : Watched → ℕ → ClientState → Bool → Option (Now CallPoint Answer) → Watched
word_at w nth client false (Some (At place)) = record {
  seen = word_taken narrow_shape w.seen nth client place;
  holders = call_holders narrow_shape (mover_of nth client) place
      (found_word narrow_shape w.seen.store client) w.holders;
}
word_at w nth client cut call = w

abbrev word_of : Watched → ℕ → Option ClientState → Watched
word_of w nth None = w
word_of w nth (Some client) = word_at w nth client client.cut client.call

words : ℕ → ℕ → Watched → Watched
words nth zero w = w
words nth (suc verbs) w = words nth verbs (word_of w nth (client_at w.seen.store nth))

abbrev done_by : Watched → Deed → Watched
done_by w (Turns nth verbs) = words nth verbs w
done_by w (Calls nth call) =
    record w { seen = asked_of narrow_shape w.seen nth call (client_at w.seen.store nth) }
done_by w (Stops nth) = record w { seen = stopped_of narrow_shape w.seen nth (client_at w.seen.store nth) }

abbrev after : Watched → List Deed → Watched
after w [] = w
after w (deed ∷ deeds) = after (done_by w deed) deeds

abbrev scene_at : Watched → Scene
scene_at w = scene_of narrow_shape w.seen.store w.seen.ghost w.holders

abbrev first_put : Watched
first_put = after record { seen = opened narrow_shape (loaded 0 0 (5 ∷ []) ∷ []); holders = no_holders }
    (Calls 1 (Begin 9 1) ∷ Turns 1 4 ∷ put_deeds 0 6)

-- the first worker tidies
abbrev tidies : ℕ → Watched
tidies verbs = after first_put (Calls 0 (Tidy 0 0) ∷ Turns 0 verbs ∷ [])

abbrev mover : ℕ → ℕ → Mover
mover worker place = record { worker = worker; place = place }

-- 2. The claim, which is the second event that the worker tells

unclaimed : (tidies 5).holders 0 0 ≡ []
unfolding words copies load_from number_by
unclaimed = refl

claimed : (tidies 6).holders 0 0 ≡ mover 1 1 ∷ []
unfolding words copies load_from number_by
claimed = refl

beside : (tidies 6).holders 0 1 ≡ []
unfolding words copies load_from number_by
beside = refl

tag_counts : map (λ verbs. claims_of ((scene_at (tidies verbs)).m (Tag 0 0))) (5 ∷ 6 ∷ 13 ∷ []) ≡ 0 ∷ 1 ∷ 1 ∷ []
unfolding words copies load_from number_by
tag_counts = refl

-- were the client cut now, it would tell the move as its second event, from the claim on
abbrev told_moves : Watched → List (Option Move)
told_moves w = map move_in (events_now narrow_shape (client_of w.seen 0))

abbrev move : ℕ → Option Move
move number = Some record { bucket = 0; table = 0; key = 0; stamp = stamp (if number == 0 then 0 else 1) number }

nothing_told : told_moves (tidies 5) ≡ None ∷ []
unfolding words copies load_from number_by
nothing_told = refl

told_at_claim : told_moves (tidies 6) ≡ None ∷ move 0 ∷ []
unfolding words copies load_from number_by
told_at_claim = refl

fills_the_cell : FillsIn narrow_shape (client_of (tidies 6).seen 0).call 0 0
unfolding words copies load_from number_by
fills_the_cell = (refl, refl)

-- 3. Once it has ended

told_when_done : told_moves (tidies 14) ≡ None ∷ move 0 ∷ []
unfolding words copies load_from number_by
told_when_done = refl

runs_no_more : running_move narrow_shape (client_of (tidies 14).seen 0).call ≡ []
unfolding words copies load_from number_by
runs_no_more = refl

-- 4. The next version, its move into the second cell, and a collection of the same worker

abbrev collects : ℕ → Watched
collects verbs = after (tidies 14)
    (Calls 0 (Begin 2 1) ∷ Turns 0 4 ∷ Calls 0 (Txn (Put 0 0 (7 ∷ []))) ∷ Turns 0 1 ∷ Calls 0 (Txn Commit) ∷
    Turns 0 13 ∷ Calls 0 (Tidy 0 0) ∷ Turns 0 15 ∷ Calls 0 (Collect 0) ∷ Turns 0 verbs ∷ [])

both_claimed : map ((collects 4).holders 0) (0 ∷ 1 ∷ []) ≡ (mover 1 1 ∷ []) ∷ (mover 1 3 ∷ []) ∷ []
unfolding words copies load_from number_by
both_claimed = refl

within_two : (a : ℕ) → a < 2 → slice_index (2 ∷ 0 ∷ []) a ≤ slice_index (2 ∷ 0 ∷ []) a
within_two a less = omega arith

-- it has raised the horizon, so it knows its own snapshot's entries, and has found the first cell full
collector_knows : CollectorAt narrow_shape (scene_at (collects 8)) 0 0 (2 ∷ 0 ∷ [])
    (CollectEnding (2 ∷ 0 ∷ []) 0 2)
unfolding words copies load_from number_by
collector_knows = (within_two, λ cell less. absurd (omega arith), (refl, refl))

-- the first cell is passed by the second; it is free by then, and its tag still counts one claim
collector_passes : CollectorAt narrow_shape (scene_at (collects 10)) 0 0 (2 ∷ 0 ∷ []) (CollectTag (2 ∷ 0 ∷ []) 1)
unfolding words copies load_from number_by
collector_passes = (within_two, first)
  where
    first : (cell : ℕ) → cell < 1 → IsPassed narrow_shape (scene_at (collects 10)) 0 0 (2 ∷ 0 ∷ []) cell
        ((scene_at (collects 10)).cells 0 cell)
    first zero less = tt
    first (suc cell) less = absurd (omega arith)

freed_counts : map (λ cell. claims_of ((scene_at (collects 13)).m (Tag 0 cell))) (0 ∷ 1 ∷ []) ≡ 1 ∷ 1 ∷ []
unfolding words copies load_from number_by
freed_counts = refl

still_held : map ((collects 13).holders 0) (0 ∷ 1 ∷ []) ≡ (mover 1 1 ∷ []) ∷ (mover 1 3 ∷ []) ∷ []
unfolding words copies load_from number_by
still_held = refl

-- the worker tells two moves, each of the version that it has moved, and then the collection that has freed both
told_in_the_end : told_moves (collects 13) ≡ None ∷ move 0 ∷ None ∷ move 1 ∷ None ∷ []
unfolding words copies load_from number_by
told_in_the_end = refl
