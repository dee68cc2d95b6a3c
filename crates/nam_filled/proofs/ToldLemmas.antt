-- Moves and collections of a log, as they would be told, were the client cut now.
use Rattle.std.proofs.Common.{List, None, Option, Some, [], ap, append_assoc, arith, inl, inr, map, refl}
use Rattle.std.proofs.Common.{slice_get, suc, sym, true, zero, ℕ, ◌+◌, ◌++◌, ◌∙◌, ◌∷◌, ◌≡◌}
use Rattle.std.specs.List.{list_any}
use Rattle.std.specs.Prelude.{drop}
use Rattle.std.proofs.lemmas.List.{map-append}
use Rattle.std.proofs.lemmas.Option.{none-some, same_Some}
use Rattle.si_model.proofs.ListLemmas.{any_listed, listed_any, listed_append_left, listed_append_right}
use Rattle.si_model.specs.Causes.{has_collected}
use Rattle.si_model.specs.Lists.{StandsAt}
use Rattle.si_model.specs.Tells.{Tell}
use Rattle.si_model.specs.declared.log.Event.TheVariants.{Finished, Moved}
use Rattle.si_model.specs.declared.log.Event.{Event}
use Rattle.si_model.specs.declared.log.Finish.{Finish}
use Rattle.si_model.specs.declared.log.MoveEnd.{MoveEnd}
use Rattle.si_model.specs.declared.log.Stamp.{Stamp}
use Rattle.nam_verbs.specs.declared.now.Now.TheVariants.{At, Over}
use Rattle.nam_verbs.specs.declared.now.Now.{Now}
use Rattle.nam_calls.specs.Mover.{move_claimed}
use Rattle.nam_catalog.specs.declared.shape.Shape.{Shape}
use Rattle.nam_filled.proofs.ListLemmas.{get_front, get_listed, listed_get}
use Rattle.nam_filled.specs.Moves.{HasCollected, IsCollecting, Move, MovesAt, cut_move, events_now, move_in}
use Rattle.nam_filled.specs.Moves.{running_move}
use Rattle.nam_layout.specs.Place.{bucket_of, place_of}
use Rattle.nam_protocol.specs.CutClient.{client_cut, finish_of}
use Rattle.nam_protocol.specs.declared.client.Answer.{Answer}
use Rattle.nam_protocol.specs.declared.client.CallPoint.TheVariants.{Beginning, Collecting, InTxn, Moving, Scanning}
use Rattle.nam_protocol.specs.declared.client.CallPoint.TheVariants.{Seeking, Snapping}
use Rattle.nam_protocol.specs.declared.client.CallPoint.{CallPoint}
use Rattle.nam_protocol.specs.declared.client.ClientState.{ClientState}
use Rattle.nam_protocol.specs.declared.client.Open.{Open}
use Rattle.nam_tells.specs.Teller.{IsTold, Teller, bare_tell, end_of, move_end, now_end}
use Rattle.nam_tells.specs.TellsLaw.{tells_now}

-- 1. Lists

pub get_stands : {A : Type 0} (xs : List A) (n : ℕ) (x : A) → slice_get xs n ≡ Some x → StandsAt n x xs
get_stands [] n x e = absurd (none-some x e)
get_stands (y ∷ xs) zero x e = (xs, ap (λ z. z ∷ xs) (same_Some y x e))
get_stands (y ∷ xs) (suc n) x e = get_stands xs n x e

pub get_drop : {A : Type 0} (xs : List A) (n j : ℕ) → slice_get (drop n xs) j ≡ slice_get xs (n + j)
get_drop xs zero j = let e : j ≡ 0 + j = omega arith in ap (slice_get xs) e
get_drop [] (suc n) j = refl
get_drop (y ∷ xs) (suc n) j =
    let e : suc (n + j) ≡ suc n + j = omega arith in get_drop xs n j ∙ ap (slice_get (y ∷ xs)) e

events_of : List Tell → List Event
events_of ts = map (λ (t : Tell). t.event) ts

-- an event of the list is one of an element
pub get_told : (ts : List Tell) (n : ℕ) (event : Event) → slice_get (map (λ (t : Tell). t.event) ts) n ≡ Some event
    → (tell : Tell) × (slice_get ts n ≡ Some tell) × (tell.event ≡ event)
get_told [] n event e = absurd (none-some event e)
get_told (t ∷ ts) zero event e = (t, refl, same_Some t.event event e)
get_told (t ∷ ts) (suc n) event e = get_told ts n event e

moved_is : (event : Event) (move : Move) → move_in event ≡ Some move
    → (how : MoveEnd) × (event ≡ Moved move.bucket move.table move.key move.stamp how)
moved_is (Moved bucket table key stamp how) move e =
    let same = same_Some record { bucket = bucket; table = table; key = key; stamp = stamp } move e in
    (how, λ k. Moved (same k).bucket (same k).table (same k).key (same k).stamp how)
moved_is event move e = absurd (none-some move e)

-- 2. All that would be told: the log's events, the move that runs, and more

module _ (shape : Shape) (teller : Teller) where
  ends_with : (finish : Option Finish) (opened : Option Open) (call : Option (Now CallPoint Answer))
      → (rest : List Event) × (map (λ (t : Tell). t.event) (now_end shape teller true finish opened call)
      ≡ running_move shape call ++ rest)
  ends_with finish opened None = (_, refl)
  ends_with finish opened (Some (Over answer)) = (_, refl)
  ends_with None opened (Some (At (Moving table key position at))) =
      by (bucket_of shape (place_of shape table position).row) (move_claimed (place_of shape table position) at)
    where
      by : (bucket : ℕ) (stamp : Option Stamp) → (rest : List Event) × (map (λ (t : Tell). t.event)
          (move_end shape teller table key bucket stamp) ≡ cut_move bucket table key stamp ++ rest)
      by bucket None = (_, refl)
      by bucket (Some stamp) = ([], refl)
  ends_with (Some how) opened (Some (At (Moving table key position at))) =
      by (bucket_of shape (place_of shape table position).row) (move_claimed (place_of shape table position) at)
    where
      by : (bucket : ℕ) (stamp : Option Stamp) → (rest : List Event) × (map (λ (t : Tell). t.event)
          (move_end shape teller table key bucket stamp ++ bare_tell (Finished how) [] ∷ [])
          ≡ cut_move bucket table key stamp ++ rest)
      by bucket None = (_, refl)
      by bucket (Some stamp) = (_, refl)
  ends_with finish opened (Some (At (Beginning txn nth at))) = (_, refl)
  ends_with finish opened (Some (At (InTxn at))) = (_, refl)
  ends_with finish opened (Some (At (Scanning table low high at))) = (_, refl)
  ends_with finish opened (Some (At (Seeking table key passed))) = (_, refl)
  ends_with finish opened (Some (At (Snapping bucket at))) = (_, refl)
  ends_with finish opened (Some (At (Collecting bucket prefix seen at))) = (_, refl)

  -- a collection that runs is told with its snapshot
  runs_collect : (finish : Option Finish) (opened : Option Open) (call : Option (Now CallPoint Answer))
      → IsCollecting call → list_any (λ (t : Tell). has_collected t.event)
      (now_end shape teller true finish opened call)
      ≡ true
  runs_collect None opened (Some (At (Collecting bucket prefix seen at))) runs = refl
  runs_collect (Some how) opened (Some (At (Collecting bucket prefix seen at))) runs = refl
  runs_collect finish opened call runs = absurd runs

  module _ (client : ClientState) (told : IsTold client teller) where
    -- an event of the log is told
    pub front_told : (n : ℕ) (event : Event) → slice_get client.log.events n ≡ Some event
        → (tell : Tell) × (slice_get teller.front n ≡ Some tell) × (tell.event ≡ event)
    front_told n event e = get_told teller.front n event (ap (λ es. slice_get es n) (sym told.lists.events) ∙ e)

    abbrev ts : List Tell
    ts = tells_now shape teller (client_cut client)

    told_events : (rest : List Event) × (map (λ (t : Tell). t.event) (tells_now shape teller (client_cut client))
        ≡ events_now shape client ++ rest)
    told_events =
        let ends = ends_with (finish_of client.medic) client.txn client.call in (
          ends.0,
          map-append (λ (t : Tell). t.event) teller.front (end_of shape teller (client_cut client))
              ∙ (λ k. sym told.lists.events k ++ ends.1 k)
              ∙ sym (append_assoc client.log.events (running_move shape client.call) ends.0),
        )

    -- so is what the log tells now
    pub now_told : (n : ℕ) (event : Event) → slice_get (events_now shape client) n ≡ Some event
        → (tell : Tell) × (slice_get (tells_now shape teller (client_cut client)) n ≡ Some tell) × (tell.event ≡ event)
    now_told n event e =
        let more = told_events in
        get_told (tells_now shape teller (client_cut client)) n event
        (ap (λ es. slice_get es n) more.1 ∙ get_front (events_now shape client) more.0 n event e)

    pub move_told : (n : ℕ) (move : Move) → MovesAt shape client n move
        → (tell : Tell) × (how : MoveEnd) × (slice_get (tells_now shape teller (client_cut client)) n ≡ Some tell)
        × (tell.event ≡ Moved move.bucket move.table move.key move.stamp how)
    move_told n move (event, at, is) =
        let t = now_told n event at in
        let m = moved_is event move is in
        (t.0, m.0, t.1, t.2 ∙ m.1)

    pub collected_told : HasCollected client
        → list_any (λ (t : Tell). has_collected t.event) (tells_now shape teller (client_cut client)) ≡ true
    collected_told (inl (event, listed, is)) =
        let place = listed_get client.log.events event listed in
        let t = front_told place.0 event place.1 in
        listed_any (λ (t : Tell). has_collected t.event) (tells_now shape teller (client_cut client)) t.0
        (listed_append_left teller.front (end_of shape teller (client_cut client)) t.0
        (get_listed teller.front place.0 t.0 t.1)) (ap has_collected t.2 ∙ is)
    collected_told (inr runs) =
        let t = any_listed (λ (t : Tell). has_collected t.event) (end_of shape teller (client_cut client))
        (runs_collect (finish_of client.medic) client.txn client.call runs) in
        listed_any (λ (t : Tell). has_collected t.event) (tells_now shape teller (client_cut client)) t.0
        (listed_append_right teller.front (end_of shape teller (client_cut client)) t.0 t.1) t.2
