-- Each collection that a step tells has the entries of its snapshot.
use Rattle.std.proofs.Common.{List, None, Option, Some, [], refl, subst, sym, ℕ, ◌++◌, ◌∷◌, ◌≡◌}
use Rattle.std.specs.List.{AllByRecursion}
use Rattle.si_model.proofs.ListLemmas.{All-append}
use Rattle.si_model.specs.Tells.{Tell}
use Rattle.nam_verbs.specs.declared.now.Now.{Now}
use Rattle.nam_verbs.specs.declared.now.Now.TheVariants.{At, Over}
use Rattle.nam_catalog.specs.declared.shape.Shape.{Shape}
use Rattle.nam_layout.specs.Place.{bucket_of, cells_by, cells_of, place_of}
use Rattle.nam_calls.specs.Horizon.{collect_after}
use Rattle.nam_calls.specs.Mover.{move_after}
use Rattle.nam_calls.specs.declared.horizon.CollectPoint.{CollectPoint}
use Rattle.nam_calls.specs.declared.mover.MoveAnswer.{MoveAnswer}
use Rattle.nam_calls.specs.declared.mover.MovePoint.{MovePoint}
use Rattle.nam_protocol.specs.Client.{client_after, client_ask}
use Rattle.nam_protocol.specs.Own.{MayAsk}
use Rattle.nam_protocol.specs.declared.client.Answer.{Answer}
use Rattle.nam_protocol.specs.declared.client.Call.{Call}
use Rattle.nam_protocol.specs.declared.client.CallPoint.{CallPoint}
use Rattle.nam_protocol.specs.declared.client.CallPoint.TheVariants.{Beginning, Collecting, InTxn, Moving, Scanning}
use Rattle.nam_protocol.specs.declared.client.CallPoint.TheVariants.{Seeking, Snapping}
use Rattle.nam_protocol.specs.declared.client.ClientState.{ClientState}
use Rattle.nam_protocol.specs.declared.client.Open.{Open}
use Rattle.nam_vector.specs.Snap.{snap_after}
use Rattle.nam_vector.specs.declared.snap.SnapEnd.{SnapEnd}
use Rattle.nam_vector.specs.declared.snap.SnapPoint.{SnapPoint}
use Rattle.nam_tells.specs.EndsLaw.{AttemptGoes}
use Rattle.nam_tells.specs.Steps.{asking, call_ops, told_after, told_asked, told_begin, told_collect, told_left}
use Rattle.nam_tells.specs.Steps.{told_move, told_now, told_place, told_scanning, told_snap, told_txn}
use Rattle.nam_tells.specs.Teller.{IsTold, Teller}
use Rattle.nam_tells.proofs.EndWords.{ask_law, idle_law, word_law}
use Rattle.nam_raised.specs.Raised.{OfEntries, ShowsSnap}
use Rattle.nam_calls.specs.declared.mover.MoveAnswer.TheVariants as move_end
use Rattle.nam_vector.specs.declared.snap.SnapEnd.TheVariants as snap_end

abbrev pub Shows : Teller → Type 0
Shows teller = AllByRecursion ShowsSnap teller.front

-- 1. One more event is told, or none

same_shows : (before now : Teller) → now.front ≡ before.front → Shows before → Shows now
same_shows before now same shows = subst (AllByRecursion ShowsSnap) (sym same) shows

more_shows : (before now : Teller) (t : Tell) → now.front ≡ before.front ++ t ∷ [] → ShowsSnap t → Shows before
    → Shows now
more_shows before now t more is shows =
    subst (AllByRecursion ShowsSnap) (sym more) (All-append ShowsSnap before.front (t ∷ []) shows (is, tt))

-- of an attempt: it is no collection
goes_shows : (before now : Teller) (attempt : Open) (opened : Option Open) (call : Option (Now CallPoint Answer))
    → AttemptGoes before now attempt opened call → Shows before → Shows now
goes_shows before now attempt (Some later) call stays shows = same_shows before now stays.front shows
goes_shows before now attempt None call over shows =
    more_shows before now over.tell over.front
    (subst (OfEntries (λ entries. entries ≡ over.tell.snap)) (sym over.event) tt) shows

-- 2. A word is taken where no transaction is open

module _ (teller : Teller) (shows : Shows teller) where
  begin_shows : (txn nth : ℕ) (now : Now SnapPoint SnapEnd) → Shows (told_begin teller txn nth now)
  begin_shows txn nth (At place) = shows
  begin_shows txn nth (Over (snap_end.Done seen)) = shows
  begin_shows txn nth (Over (snap_end.Again worker first second)) =
      All-append ShowsSnap teller.front _ shows (tt, tt)

  move_shows : (table key bucket : ℕ) (now : Now MovePoint MoveAnswer)
      → Shows (told_move teller table key bucket now)
  move_shows table key bucket (At place) = shows
  move_shows table key bucket (Over (move_end.Moved stamp)) = All-append ShowsSnap teller.front _ shows (tt, tt)
  move_shows table key bucket (Over (move_end.Back stamp)) = All-append ShowsSnap teller.front _ shows (tt, tt)
  move_shows table key bucket (Over move_end.Nothing) = shows
  move_shows table key bucket (Over (move_end.NoRoom full)) = All-append ShowsSnap teller.front _ shows (tt, tt)

  snap_shows : (bucket : ℕ) (now : Now SnapPoint SnapEnd) → Shows (told_snap teller bucket now)
  snap_shows bucket (At place) = shows
  snap_shows bucket (Over (snap_end.Done seen)) = shows
  snap_shows bucket (Over (snap_end.Again worker first second)) = All-append ShowsSnap teller.front _ shows (tt, tt)

  collect_shows : (bucket prefix : ℕ) (seen : List ℕ) (now : Now CollectPoint (List ℕ))
      → Shows (told_collect teller bucket prefix seen now)
  collect_shows bucket prefix seen (At place) = shows
  collect_shows bucket prefix seen (Over known) = All-append ShowsSnap teller.front _ shows (refl, tt)

  idle_shows : (shape : Shape) (client : ClientState) (found : ℕ) (place : CallPoint) → client.txn ≡ None
      → Shows (told_place shape client place found teller)
  idle_shows shape client found (Beginning txn nth at) none = begin_shows txn nth (snap_after shape.workers at found)
  idle_shows shape client found (InTxn at) none =
      subst (λ (opened : Option Open). Shows (told_txn shape teller at opened found)) (sym none) shows
  idle_shows shape client found (Scanning table low high at) none =
      subst (λ (opened : Option Open). Shows (told_scanning shape teller client table low high at opened found))
      (sym none) shows
  idle_shows shape client found (Seeking table key passed) none = shows
  idle_shows shape client found (Moving table key position at) none =
      let place = place_of shape table position in
      move_shows table key (bucket_of shape place.row) (move_after place (cells_by shape place) at found)
  idle_shows shape client found (Snapping bucket at) none = snap_shows bucket (snap_after shape.workers at found)
  idle_shows shape client found (Collecting bucket prefix seen at) none =
      collect_shows bucket prefix seen (collect_after (cells_of shape bucket) shape.workers seen at found)

  now_shows : (shape : Shape) (client : ClientState) (found : ℕ) → client.txn ≡ None
      → (call : Option (Now CallPoint Answer)) → Shows (told_now shape client call found teller)
  now_shows shape client found none None = shows
  now_shows shape client found none (Some (Over answer)) = shows
  now_shows shape client found none (Some (At place)) = idle_shows shape client found place none

-- 3. Each step of a client

module _ (shape : Shape) (client : ClientState) (teller : Teller) (told : IsTold client teller) (shows : Shows teller)
  where
    pub word_shows : (found : ℕ) → Shows (told_after shape client found teller)
    word_shows found = by client.txn refl
      where
        by : (opened : Option Open) → client.txn ≡ opened → Shows (told_after shape client found teller)
        by None e = now_shows teller shows shape client found e client.call
        by (Some attempt) e =
            let after = client_after shape client found in
            goes_shows teller (told_after shape client found teller) attempt after.txn after.call
            (word_law shape client teller attempt found told e) shows

    pub ask_shows : (asked : Call) → MayAsk shape client asked → Shows (told_asked shape client asked teller)
    ask_shows asked may = by client.txn refl
      where
        by : (opened : Option Open) → client.txn ≡ opened → Shows (told_asked shape client asked teller)
        by None e =
            subst Shows (sym ((idle_law shape client teller told e).1 asked may)) shows
        by (Some attempt) e =
            let after = client_ask shape client asked in
            goes_shows (asking teller (call_ops asked)) (told_asked shape client asked teller) attempt after.txn
            after.call (ask_law shape client teller attempt asked may e) shows

pub leave_shows : (teller : Teller) (opened : Option Open) → Shows teller → Shows (told_left opened teller)
leave_shows teller None shows = shows
leave_shows teller (Some attempt) shows = All-append ShowsSnap teller.front _ shows (tt, tt)
