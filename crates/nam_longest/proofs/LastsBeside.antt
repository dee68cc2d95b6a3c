-- Words that make a begin, a tidying and a collection of a client last as long as their bounds.
use Rattle.std.proofs.Common.{◌≡◌, ℕ, ◌+◌, ◌-◌, ◌*◌, ◌<◌, List, [], length, refl, sym, subst, arith, false}
use Rattle.nam_verbs.specs.declared.now.Now.{Now}
use Rattle.nam_verbs.specs.declared.now.Now.TheVariants.{At, Over}
use Rattle.nam_catalog.specs.declared.shape.Shape.{Shape}
use Rattle.nam_catalog.specs.Fits.{FitsLimits}
use Rattle.nam_layout.specs.Place.{place_of, cells_of, bucket_of, cells_by}
use Rattle.nam_layout.proofs.LimitLemmas.{cells_within_limits}
use Rattle.nam_vector.specs.Snap.{snap_begin, snap_after}
use Rattle.nam_calls.specs.declared.horizon.CollectPoint.{CollectPoint}
use Rattle.nam_calls.specs.declared.mover.MovePoint.{MovePoint}
use Rattle.nam_calls.specs.declared.mover.MoveAnswer.{MoveAnswer}
use Rattle.nam_calls.specs.declared.mover.MoveAnswer.TheVariants.{Moved, Back, Nothing, NoRoom}
use Rattle.nam_calls.specs.Holds.{IsWord}
use Rattle.nam_calls.specs.Words.{capacity_of, key_word, path_of}
use Rattle.nam_calls.specs.Index.{find_begin, find_after, nth_position}
use Rattle.nam_calls.specs.Mover.{move_begin, move_after}
use Rattle.nam_calls.specs.Horizon.{collect_begin, collect_after}
use Rattle.nam_calls.specs.Fits.{IsTableOf}
use Rattle.nam_calls.proofs.FallsTables.{has_capacity, place_fits, width_is, bucket_within}
use Rattle.nam_protocol.specs.declared.client.CallPoint.{CallPoint}
use Rattle.nam_protocol.specs.declared.client.CallPoint.TheVariants.{Beginning, Seeking, Moving, Snapping, Collecting}
use Rattle.nam_protocol.specs.declared.client.ClientState.{ClientState}
use Rattle.nam_protocol.specs.Log.{with_snap, prefix_of}
use Rattle.nam_protocol.specs.Telling.{go}
use Rattle.nam_protocol.specs.Client.{on_begin, on_seek, on_move, on_snap, on_collect, call_after}
use Rattle.nam_protocol.specs.Bound.{tidy_bound, collect_bound}
use Rattle.nam_longest.specs.LongestLaw.{LastsWords}
use Rattle.nam_longest.proofs.LastsMachines.{AreAll, LastsMore, find_lasts}
use Rattle.nam_longest.proofs.LastsUpkeep.{snap_lasts, collect_lasts, move_lasts}
use Rattle.nam_longest.proofs.LastsTxn.{word_first}

module _ (shape : Shape) where
  -- each client whose call has stepped so lasts as long
  abbrev CallLasts : {P E : Type 0} → (ClientState → Now P E → ClientState) → Now P E → ℕ → Type 0
  CallLasts on now n = (client : ClientState) → client.cut ≡ false → LastsWords shape (on client now) n

  -- a call at its points goes on as its machine
  call_more : {P E : Type 0} (on : ClientState → Now P E → ClientState) (place : P → CallPoint)
      (after : P → ℕ → Now P E)
      → ((client : ClientState) (at : P) → on client (At at) ≡ go client (place at))
      → ((client : ClientState) (at : P) (found : ℕ)
      → call_after shape (go client (place at)) (place at) found ≡ on (go client (place at)) (after at found))
      → LastsMore (CallLasts on) after
  call_more on place after goes takes at found n m is e h client runs =
      let there = go client (place at) in
      subst (λ (c : ClientState). LastsWords shape c m) (sym (goes client at))
      (word_first shape there found n m is e (rw runs refl)
      (subst (λ (c : ClientState). LastsWords shape c n) (sym (takes client at found)) (h there runs)))

module _ (shape : Shape) (limits : FitsLimits shape) where
  -- 1. A begin

  pub begin_lasts : (txn nth : ℕ)
      → CallLasts shape (λ client now. on_begin shape client txn nth now) (At snap_begin) (2 * shape.workers)
  begin_lasts txn nth =
      snap_lasts shape.workers limits.least_workers 0 (omega arith)
      (CallLasts shape (λ client now. on_begin shape client txn nth now))
      (call_more shape (λ client now. on_begin shape client txn nth now) (Beginning txn nth) (snap_after shape.workers)
      (λ client at. refl) (λ client at found. refl))
      0 (2 * shape.workers) (omega arith) (λ seen whole all client runs. ([], tt, tt, refl))

  -- 2. A tidying

  moved_lasts : (table key position : ℕ) → IsTableOf shape table → (l : position < capacity_of shape table)
      → CallLasts shape (λ client now. on_move shape client table key position
      (bucket_of shape (place_of shape table position).row) now) (At move_begin)
      (2 * shape.cells + 2 * (place_of shape table position).width + 9)
  moved_lasts table key position is l =
      let place = place_of shape table position in
      let on = λ (client : ClientState) (now : Now MovePoint MoveAnswer).
      on_move shape client table key position (bucket_of shape place.row) now in
      move_lasts place (cells_by shape place) (place_fits shape limits table position is l)
      (cells_within_limits shape (bucket_of shape place.row) limits (bucket_within shape limits table position is l))
      (CallLasts shape on)
      (call_more shape on (Moving table key position) (move_after place (cells_by shape place)) (λ client at. refl)
      (λ client at found. refl))
      0 _ (omega arith) ended
    where
      ended : (end : MoveAnswer) → CallLasts shape (λ client now. on_move shape client table key position
          (bucket_of shape (place_of shape table position).row) now) (Over end) 0
      ended (Moved stamp) client runs = ([], tt, tt, refl)
      ended (Back stamp) client runs = ([], tt, tt, refl)
      ended Nothing client runs = ([], tt, tt, refl)
      ended (NoRoom full) client runs = ([], tt, tt, refl)

  pub tidy_lasts : (table key : ℕ) → IsTableOf shape table → IsWord (key_word key)
      → CallLasts shape (λ client now. on_seek shape client table key now) (At find_begin) (tidy_bound shape table)
  tidy_lasts table key is word =
      let c = has_capacity shape limits table is in
      let path = path_of shape table key in
      find_lasts path word (CallLasts shape (λ client now. on_seek shape client table key now))
      (call_more shape (λ client now. on_seek shape client table key now) (Seeking table key) (find_after path)
      (λ client at. refl) (λ client at found. refl))
      (capacity_of shape table - 1) 0 (tidy_bound shape table - capacity_of shape table) _ (omega arith) (omega arith)
      (λ last l client runs.
      let position = nth_position path last in
      let within : position < capacity_of shape table = omega arith in
      let w = width_is shape limits table position is within in
      let same : 2 * shape.cells + 2 * (place_of shape table position).width + 9
      ≡ tidy_bound shape table - capacity_of shape table = omega arith in
      subst (LastsWords shape (go client (Moving table key position move_begin))) same
      (moved_lasts table key position is within client runs))

  -- 3. A collection

  collected_lasts : (bucket prefix : ℕ) (seen : List ℕ) → bucket < shape.buckets → length seen ≡ shape.workers
      → AreAll 1 seen
      → CallLasts shape (λ client now. on_collect shape client bucket prefix seen now) (At collect_begin)
      (2 * shape.workers + 3 * shape.cells)
  collected_lasts bucket prefix seen is whole ones =
      let on = λ (client : ClientState) (now : Now CollectPoint (List ℕ)).
      on_collect shape client bucket prefix seen now in
      collect_lasts (cells_of shape bucket) (cells_within_limits shape bucket limits is) shape.workers
      limits.least_workers seen ones whole (CallLasts shape on)
      (call_more shape on (Collecting bucket prefix seen)
      (collect_after (cells_of shape bucket) shape.workers seen) (λ client at. refl) (λ client at found. refl))
      0 _ (omega arith) (λ known client runs. ([], tt, tt, refl))

  pub collection_lasts : (bucket : ℕ) → bucket < shape.buckets
      → CallLasts shape (λ client now. on_snap shape client bucket now) (At snap_begin) (collect_bound shape)
  collection_lasts bucket is =
      snap_lasts shape.workers limits.least_workers 1 (omega arith)
      (CallLasts shape (λ client now. on_snap shape client bucket now))
      (call_more shape (λ client now. on_snap shape client bucket now) (Snapping bucket) (snap_after shape.workers)
      (λ client at. refl) (λ client at found. refl))
      (2 * shape.workers + 3 * shape.cells) (collect_bound shape) (omega arith)
      (λ seen whole all client runs.
      collected_lasts bucket (prefix_of client.start seen) seen is whole all
      (record client { log = with_snap client.log seen }) runs)
