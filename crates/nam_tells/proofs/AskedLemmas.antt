-- The operations of a client's attempts are those that were asked in them, after each step.
use Rattle.std.proofs.Common.{List, None, Option, Some, [], append-nil, ap, refl, sym, ℕ, ◌++◌, ◌∙◌}
use Rattle.std.proofs.Common.{false, ◌∷◌, ◌≡◌}
use Rattle.std.proofs.lemmas.Grind.{flat_map-append}
use Rattle.std.specs.List.{flat_map}
use Rattle.si_model.specs.Tells.{Tell, own_ops}
use Rattle.si_model.specs.declared.log.Event.TheVariants as event
use Rattle.si_model.specs.declared.log.Event.{Event}
use Rattle.si_model.specs.declared.log.MoveEnd.TheVariants as moved
use Rattle.si_model.specs.declared.log.Outcome.TheVariants as outcome
use Rattle.si_model.specs.declared.op.Op.{Op}
use Rattle.nam_verbs.specs.declared.now.Now.TheVariants.{At, Over}
use Rattle.nam_verbs.specs.declared.now.Now.{Now}
use Rattle.nam_catalog.specs.declared.shape.Shape.{Shape}
use Rattle.nam_layout.specs.Place.{bucket_of, cells_by, cells_of, place_of}
use Rattle.nam_vector.specs.Snap.{snap_after}
use Rattle.nam_vector.specs.declared.snap.SnapEnd.TheVariants as snap_end
use Rattle.nam_vector.specs.declared.snap.SnapEnd.{SnapEnd}
use Rattle.nam_vector.specs.declared.snap.SnapPoint.{SnapPoint}
use Rattle.nam_calls.specs.Horizon.{collect_after}
use Rattle.nam_calls.specs.Index.{find_after}
use Rattle.nam_calls.specs.Mover.{move_after}
use Rattle.nam_calls.specs.Words.{path_of}
use Rattle.nam_calls.specs.declared.horizon.CollectPoint.{CollectPoint}
use Rattle.nam_calls.specs.declared.index.FindEnd.TheVariants as found_key
use Rattle.nam_calls.specs.declared.index.FindEnd.{FindEnd}
use Rattle.nam_calls.specs.declared.mover.MoveAnswer.TheVariants as move_end_as
use Rattle.nam_calls.specs.declared.mover.MoveAnswer.{MoveAnswer}
use Rattle.nam_calls.specs.declared.mover.MovePoint.{MovePoint}
use Rattle.nam_protocol.specs.Client.{after_call, on_begin, on_collect, on_move}
use Rattle.nam_protocol.specs.Client.{on_seek, on_snap}
use Rattle.nam_protocol.specs.Log.{unbegun}
use Rattle.nam_protocol.specs.Own.{IsOpenNow, Rests}
use Rattle.nam_protocol.specs.declared.client.Answer.{Answer}
use Rattle.nam_protocol.specs.declared.client.Call.{Call}
use Rattle.nam_protocol.specs.declared.client.CallPoint.TheVariants.{Beginning, Collecting, InTxn, Moving, Scanning}
use Rattle.nam_protocol.specs.declared.client.CallPoint.TheVariants.{Seeking, Snapping}
use Rattle.nam_protocol.specs.declared.client.CallPoint.{CallPoint}
use Rattle.nam_protocol.specs.declared.client.ClientState.{ClientState}
use Rattle.nam_protocol.specs.declared.client.Open.{Open}
use Rattle.nam_tells.specs.AskedLaw.{asked_from, asked_on, attempts_asked, with_asked}
use Rattle.nam_tells.specs.EndsLaw.{AttemptGoes}
use Rattle.nam_tells.specs.Steps.{told_begin, told_collect}
use Rattle.nam_tells.specs.Steps.{told_move, told_now, told_snap}
use Rattle.nam_tells.specs.Teller.{IsBlank, Teller, bare_tell}

-- 1. Lists

pub asked_more : (attempts : List (List Op)) (calls : List Call) (asked : Call)
    → asked_from attempts (calls ++ asked ∷ []) ≡ asked_on (asked_from attempts calls) asked
asked_more attempts [] asked = refl
asked_more attempts (c ∷ calls) asked = asked_more (asked_on attempts c) calls asked

pub with_last : (front : List (List Op)) (ops more : List Op)
    → with_asked (front ++ ops ∷ []) more ≡ front ++ (ops ++ more) ∷ []
with_last [] ops more = refl
with_last (x ∷ []) ops more = refl
with_last (x ∷ y ∷ front) ops more = ap (λ xs. x ∷ xs) (with_last (y ∷ front) ops more)

-- the operations of these events
abbrev pub ops_of : List Tell → List (List Op)
ops_of ts = flat_map own_ops ts

pub ops_more : (front : List Tell) (t : Tell) → ops_of (front ++ t ∷ []) ≡ ops_of front ++ own_ops t
ops_more front t = flat_map-append own_ops front (t ∷ []) ∙ ap (λ xs. ops_of front ++ xs) (append-nil (own_ops t))

-- 2. The attempt that is open, or that has begun

abbrev pub asked_now : Teller → Option Open → Option (Now CallPoint Answer) → List (List Op)
asked_now teller (Some attempt) call = teller.ops ∷ []
asked_now teller None (Some (At (Beginning txn nth at))) = [] ∷ []
asked_now teller None call = []

-- all that was asked is in the events that have ended, and in that attempt
abbrev pub IsAsked : List Call → ClientState → Teller → Type 0
IsAsked calls client teller = attempts_asked calls ≡ ops_of teller.front ++ asked_now teller client.txn client.call

pub none_now : (teller : Teller) (call : Option (Now CallPoint Answer)) → Rests call → asked_now teller None call ≡ []
none_now teller None rests = refl
none_now teller (Some (Over end)) rests = refl
none_now teller (Some (At place)) rests = absurd rests

-- an attempt that goes on, or is told
module _ (before now : Teller) (attempt : Open) (attempts : List (List Op))
    (was : attempts ≡ ops_of before.front ++ before.ops ∷ []) where
  pub goes_asked : (opened : Option Open) (call : Option (Now CallPoint Answer))
      → AttemptGoes before now attempt opened call → attempts ≡ ops_of now.front ++ asked_now now opened call
  goes_asked (Some later) call stays =
      was ∙ ap (λ (ts : List Tell). ops_of ts ++ before.ops ∷ []) (sym stays.front)
      ∙ ap (λ (ops : List Op). ops_of now.front ++ ops ∷ []) (sym stays.ops)
  goes_asked None call over =
      let own : own_ops over.tell ≡ before.ops ∷ [] = rw over.event (ap (λ (ops : List Op). ops ∷ []) over.ops) in
      was ∙ ap (λ xs. ops_of before.front ++ xs) (sym own) ∙ sym (ops_more before.front over.tell)
      ∙ ap (λ (ts : List Tell). ops_of ts) (sym over.front) ∙ sym (append-nil (ops_of now.front))
      ∙ ap (λ xs. ops_of now.front ++ xs) (sym (none_now now call over.answered))

-- 3. A word, where none is open

module _ (shape : Shape) (client : ClientState) (teller : Teller) (blank : IsBlank teller) (attempts : List (List Op))
  where
    abbrev none : ClientState
    none = record client { txn = None }

    -- of a client and its teller
    abbrev Has : ClientState → Teller → Type 0
    Has after now = attempts ≡ ops_of now.front ++ asked_now now after.txn after.call

    module _ (is : attempts ≡ ops_of teller.front ++ []) where
      listed : (e : Event) (snap : List ℕ) → own_ops (bare_tell e snap) ≡ []
          → attempts ≡ ops_of (teller.front ++ bare_tell e snap ∷ []) ++ []
      listed e snap own =
          is ∙ ap (λ xs. ops_of teller.front ++ xs) (sym own) ∙ sym (ops_more teller.front (bare_tell e snap))
          ∙ sym (append-nil (ops_of (teller.front ++ bare_tell e snap ∷ [])))

      seek_asked : (table key : ℕ) (now : Now ℕ FindEnd) → Has (on_seek shape none table key now) teller
      seek_asked table key (At passed) = is
      seek_asked table key (Over (found_key.At position)) = is
      seek_asked table key (Over found_key.Absent) = is

      move_asked : (table key position bucket : ℕ) (now : Now MovePoint MoveAnswer)
          → Has (on_move shape none table key position bucket now) (told_move teller table key bucket now)
      move_asked table key position bucket (At at) = is
      move_asked table key position bucket (Over (move_end_as.Moved stamp)) =
          listed (event.Moved bucket table key stamp moved.Done) [] refl
      move_asked table key position bucket (Over (move_end_as.Back stamp)) =
          listed (event.Moved bucket table key stamp moved.Back) [] refl
      move_asked table key position bucket (Over move_end_as.Nothing) = is
      move_asked table key position bucket (Over (move_end_as.NoRoom full)) = listed (event.NoRoom full) [] refl

      snap_asked : (bucket : ℕ) (now : Now SnapPoint SnapEnd)
          → Has (on_snap shape none bucket now) (told_snap teller bucket now)
      snap_asked bucket (At at) = is
      snap_asked bucket (Over (snap_end.Done seen)) = is
      snap_asked bucket (Over (snap_end.Again worker first second)) =
          listed (event.CollectAgain bucket worker first second) [] refl

      collect_asked : (bucket prefix : ℕ) (seen : List ℕ) (now : Now CollectPoint (List ℕ))
          → Has (on_collect shape none bucket prefix seen now) (told_collect teller bucket prefix seen now)
      collect_asked bucket prefix seen (At at) = is
      collect_asked bucket prefix seen (Over known) = listed (event.Collected bucket prefix seen false) seen refl

    begin_asked : (txn nth : ℕ) (now : Now SnapPoint SnapEnd) → attempts ≡ ops_of teller.front ++ [] ∷ []
        → Has (on_begin shape none txn nth now) (told_begin teller txn nth now)
    begin_asked txn nth (At at) is = is
    begin_asked txn nth (Over (snap_end.Done seen)) is =
        is ∙ ap (λ (ops : List Op). ops_of teller.front ++ ops ∷ []) (sym blank.ops_none)
    begin_asked txn nth (Over (snap_end.Again worker first second)) is =
        let t = bare_tell (unbegun txn nth (outcome.Again worker first second)) [] in
        is ∙ sym (ops_more teller.front t) ∙ sym (append-nil (ops_of (teller.front ++ t ∷ [])))

module _ (shape : Shape) (client : ClientState) (teller : Teller) (found : ℕ) (blank : IsBlank teller)
    (attempts : List (List Op)) where
  abbrev at_call : Option (Now CallPoint Answer) → ClientState
  at_call now = record client { txn = None; call = now }

  pub none_at : (now : Option (Now CallPoint Answer)) → IsOpenNow None now
      → attempts ≡ ops_of teller.front ++ asked_now teller None now
      → Has shape client teller blank attempts (after_call shape (at_call now) now found)
      (told_now shape (at_call now) now found teller)
  none_at None opens is = is
  none_at (Some (Over end)) opens is = is
  none_at (Some (At (Beginning txn nth at))) opens is =
      begin_asked shape (at_call (Some (At (Beginning txn nth at)))) teller blank attempts txn nth
      (snap_after shape.workers at found) is
  none_at (Some (At (InTxn at))) opens is = absurd (cc)
  none_at (Some (At (Scanning table low high at))) opens is = absurd (cc)
  none_at (Some (At (Seeking table key passed))) opens is =
      seek_asked shape (at_call (Some (At (Seeking table key passed)))) teller blank attempts is table key
      (find_after (path_of shape table key) passed found)
  none_at (Some (At (Moving table key position at))) opens is =
      let place = place_of shape table position in
      move_asked shape (at_call (Some (At (Moving table key position at)))) teller blank attempts is table key position
      (bucket_of shape place.row) (move_after place (cells_by shape place) at found)
  none_at (Some (At (Snapping bucket at))) opens is =
      snap_asked shape (at_call (Some (At (Snapping bucket at)))) teller blank attempts is bucket
      (snap_after shape.workers at found)
  none_at (Some (At (Collecting bucket prefix seen at))) opens is =
      collect_asked shape (at_call (Some (At (Collecting bucket prefix seen at)))) teller blank attempts is bucket
      prefix seen (collect_after (cells_of shape bucket) shape.workers seen at found)
