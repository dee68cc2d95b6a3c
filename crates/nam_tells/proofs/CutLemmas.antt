-- The log that a client leaves tells what was told before its running call, and what that call has still to tell.
use Rattle.std.proofs.Common.{Bool, List, None, Option, Some, [], append-nil, append_assoc, false, refl, subst, sym}
use Rattle.std.proofs.Common.{true, ℕ, ◌+◌, ◌++◌, ◌∷◌, ◌≡◌}
use Rattle.std.specs.List.{flat_map}
use Rattle.si_model.proofs.TellsLemmas.{listed_tells}
use Rattle.si_model.specs.Tells.{ListsTells, OwnsItems, Tell, own_ops, own_snaps, tells_with}
use Rattle.si_model.specs.declared.log.Event.TheVariants.{CollectCut, Collected, Finished, Moved, TailCut, TidyCut}
use Rattle.si_model.specs.declared.log.Event.{Event}
use Rattle.si_model.specs.declared.log.Finish.{Finish}
use Rattle.si_model.specs.declared.log.Lock.{Lock}
use Rattle.si_model.specs.declared.log.Log.{Log}
use Rattle.si_model.specs.declared.log.MoveEnd.TheVariants as moved
use Rattle.si_model.specs.declared.log.Outcome.TheVariants as outcome
use Rattle.si_model.specs.declared.log.Outcome.{Outcome}
use Rattle.si_model.specs.declared.log.Stamp.{Stamp}
use Rattle.si_model.specs.declared.op.Op.{Op}
use Rattle.si_model.specs.declared.row.Item.{Item}
use Rattle.nam_verbs.specs.declared.now.Now.TheVariants.{At, Over}
use Rattle.nam_verbs.specs.declared.now.Now.{Now}
use Rattle.nam_catalog.specs.declared.shape.Shape.{Shape}
use Rattle.nam_layout.specs.Place.{bucket_of, place_of}
use Rattle.nam_calls.specs.Mover.{move_claimed}
use Rattle.nam_protocol.specs.CutClient.{client_cut, closed_call, closed_client, cut_in_txn, cut_move, cut_tail}
use Rattle.nam_protocol.specs.CutClient.{finish_of}
use Rattle.nam_protocol.specs.CutClient.{finished_call, finished_in_txn, has_committed, into_log, left_open}
use Rattle.nam_protocol.specs.Log.{unbegun, with_event}
use Rattle.nam_protocol.specs.Own.{IsOpenNow}
use Rattle.nam_protocol.specs.Telling.{with_commit, with_end}
use Rattle.nam_protocol.specs.declared.client.Answer.{Answer}
use Rattle.nam_protocol.specs.declared.client.CallPoint.TheVariants.{Beginning, Collecting, InTxn, Moving, Scanning}
use Rattle.nam_protocol.specs.declared.client.CallPoint.TheVariants.{Seeking, Snapping}
use Rattle.nam_protocol.specs.declared.client.CallPoint.{CallPoint}
use Rattle.nam_protocol.specs.declared.client.ClientState.{ClientState}
use Rattle.nam_protocol.specs.declared.client.Open.{Open}
use Rattle.nam_protocol.specs.declared.txn.CommitPoint.TheVariants.{Ending, Freeing}
use Rattle.nam_protocol.specs.declared.txn.CommitPoint.{CommitPoint}
use Rattle.nam_protocol.specs.declared.txn.TxnPoint.TheVariants.{Committing}
use Rattle.nam_protocol.specs.declared.txn.TxnPoint.{TxnPoint}
use Rattle.nam_tells.proofs.EventLemmas.{bare_owns, lists_attempt, lists_bare, lists_commit, none_blank}
use Rattle.nam_tells.specs.Teller.{IsBlank, IsCounted, IsTold, OpenTold, Teller, bare_tell, call_end, commit_tell}
use Rattle.nam_tells.specs.Teller.{end_of, left_how, move_end, now_end, open_end, open_snaps, running, snaps_pending}
use Rattle.nam_tells.specs.Teller.{tail_end, treated_end, treated_txn_end, txn_end}

-- a log that lists just these
abbrev pub ListsAll : Log → List Tell → Type 0
ListsAll log ts = ListsTells log ts [] [] [] []

-- 1. A log that lists no more than what was told, and then one that owns nothing

one_more : (log : Log) (front end : List Tell) (event : Event)
    → OwnsItems (bare_tell event []) → own_snaps (bare_tell event []) ≡ []
    → ListsAll log (front ++ end) → ListsAll (with_event log event) (front ++ (end ++ bare_tell event [] ∷ []))
one_more log front end event owns silent lists =
    let all = front ++ end in
    subst (λ (ts : List Tell). ListsAll (with_event log event) ts) (append_assoc front end (bare_tell event [] ∷ []))
    (lists_bare log (record { front = all; ops = []; passed = []; reads = []; locks = [] }) event [] owns
    (none_blank all)
    (subst (λ (ss : List (List ℕ)). ListsTells log all [] [] [] ss) (sym silent) lists))

module _ (shape : Shape) (client : ClientState) (teller : Teller) where
  -- the client with this transaction, at this call
  abbrev with : Option Open → Option (Now CallPoint Answer) → ClientState
  with opened call = record client { txn = opened; call = call }

  abbrev Lists : List (List ℕ) → Type 0
  Lists snaps = ListsTells client.log teller.front teller.reads teller.locks [] snaps

  -- this client's log lists all that was told, and this
  abbrev Leaves : ClientState → List Tell → Type 0
  Leaves after end = ListsAll after.log (teller.front ++ end)

  -- 2. An open attempt

  module _ (attempt : Open) (ops : List Op) (lists : Lists (attempt.state.seen ∷ []))
      (counted : IsCounted teller ops attempt) (call : Option (Now CallPoint Answer)) where
    abbrev here : ClientState
    here = with (Some attempt) call

    attempt_left : (how : Outcome) → Leaves (with_end here attempt how) (open_end shape teller how (Some attempt))
    attempt_left how = lists_attempt teller attempt counted.reads_count counted.locks_count client.log lists how

    committed : Leaves (with_commit here attempt (attempt.state.last + 1))
        (commit_tell teller attempt (attempt.state.last + 1) ∷ [])
    committed =
        lists_commit teller attempt counted.reads_count counted.locks_count client.log lists (attempt.state.last + 1)
        attempt.state.writes

    tail_left : Leaves (cut_tail here attempt) (tail_end shape teller attempt)
    tail_left =
        one_more (with_commit here attempt (attempt.state.last + 1)).log teller.front
        (commit_tell teller attempt (attempt.state.last + 1) ∷ []) TailCut (bare_owns TailCut refl refl refl) refl
        committed

    commit_left : (place : CommitPoint)
        → Leaves (cut_in_txn here attempt (Committing place)) (txn_end shape teller attempt (Committing place))
    commit_left (Freeing nth) = tail_left
    commit_left Ending = tail_left
    commit_left _ = attempt_left outcome.Cut

    txn_left : (place : TxnPoint) → Leaves (cut_in_txn here attempt place) (txn_end shape teller attempt place)
    txn_left (Committing place) = commit_left place
    txn_left _ = attempt_left outcome.Cut

    -- a medic has finished it
    treated_left : (how : Finish) (place : TxnPoint) (b : Bool) → has_committed place how ≡ b
        → Leaves (finished_in_txn here place how (Some attempt)) (treated_txn_end shape teller how place (Some attempt))
    treated_left how place true e = rw e committed
    treated_left how place false e = rw e (attempt_left outcome.Cut)

  -- 3. No attempt is open

  module _ (blank : IsBlank teller) (lists : Lists []) where
    nothing_left : (call : Option (Now CallPoint Answer)) → Leaves (with None call) []
    nothing_left call =
        subst (λ (ts : List Tell). ListsAll client.log ts) (sym (append-nil teller.front))
        (subst (λ (rs : List Item). ListsTells client.log teller.front rs [] [] []) blank.reads_none
        (subst (λ (ls : List Lock). ListsTells client.log teller.front teller.reads ls [] []) blank.locks_none lists))

    -- an event that owns nothing
    bare_left : (event : Event) → OwnsItems (bare_tell event [])
        → own_snaps (bare_tell event []) ≡ []
        → ListsAll (with_event client.log event) (teller.front ++ bare_tell event [] ∷ [])
    bare_left event owns silent =
        lists_bare client.log teller event [] owns blank
        (subst (λ (ss : List (List ℕ)). Lists ss) (sym silent) lists)

    move_left : (call : Option (Now CallPoint Answer)) (table key bucket : ℕ) (claimed : Option Stamp)
        → Leaves (cut_move (with None call) table key bucket claimed) (move_end shape teller table key bucket claimed)
    move_left call table key bucket None =
        bare_left (TidyCut table key) (bare_owns (TidyCut table key) refl refl refl) refl
    move_left call table key bucket (Some stamp) =
        let event = Moved bucket table key stamp moved.Cut in bare_left event (bare_owns event refl refl refl) refl

  -- 4. At any call

  abbrev Closes : Option Open → Option (Now CallPoint Answer) → Type 0
  Closes opened call = IsOpenNow opened call → Lists (snaps_pending opened call) → OpenTold teller (running call) opened
      → Leaves (closed_call shape (with opened call) call) (call_end shape teller client.cut opened call)

  open_closes : (opened : Option Open) (call : Option (Now CallPoint Answer)) (ops : List Op)
      → Lists (open_snaps opened) → OpenTold teller ops opened
      → Leaves (left_open (with opened call) opened) (open_end shape teller (left_how client.cut) opened)
  open_closes None call ops lists told = nothing_left told lists call
  open_closes (Some attempt) call ops lists told = attempt_left attempt ops lists told call (left_how client.cut)

  place_closes : (opened : Option Open) (place : CallPoint) → Closes opened (Some (At place))
  place_closes None (Beginning txn nth at) is lists told =
      let event = unbegun txn nth outcome.Cut in bare_left told lists event (bare_owns event refl refl refl) refl
  place_closes (Some attempt) (Beginning txn nth at) is lists told = absurd (cc)
  place_closes None (InTxn at) is lists told = absurd (cc)
  place_closes (Some attempt) (InTxn at) is lists told = txn_left attempt _ lists told _ at
  place_closes opened (Scanning table low high at) is lists told = open_closes opened _ _ lists told
  place_closes None (Seeking table key passed) is lists told =
      let event = TidyCut table key in bare_left told lists event (bare_owns event refl refl refl) refl
  place_closes (Some attempt) (Seeking table key passed) is lists told = absurd (cc)
  place_closes None (Moving table key position at) is lists told =
      let place = place_of shape table position in
      move_left told lists (Some (At (Moving table key position at))) table key (bucket_of shape place.row)
      (move_claimed place at)
  place_closes (Some attempt) (Moving table key position at) is lists told = absurd (cc)
  place_closes None (Snapping bucket at) is lists told =
      let event = CollectCut bucket in bare_left told lists event (bare_owns event refl refl refl) refl
  place_closes (Some attempt) (Snapping bucket at) is lists told = absurd (cc)
  place_closes None (Collecting bucket prefix seen at) is lists told =
      lists_bare client.log teller (Collected bucket prefix seen true) seen
      (record { reads = refl; locks = refl; writes = refl; snap = λ e. absurd (cc); ops = λ e. refl }) told lists
  place_closes (Some attempt) (Collecting bucket prefix seen at) is lists told = absurd (cc)

  call_closes : (opened : Option Open) (call : Option (Now CallPoint Answer)) → Closes opened call
  call_closes opened None is lists told = open_closes opened None [] lists told
  call_closes opened (Some (Over answer)) is lists told = open_closes opened (Some (Over answer)) [] lists told
  call_closes opened (Some (At place)) is lists told = place_closes opened place is lists told

  -- 5. A medic has finished it, or not

  abbrev Finishes : Finish → Option Open → Option (Now CallPoint Answer) → Type 0
  Finishes how opened call = IsOpenNow opened call → Lists (snaps_pending opened call)
      → OpenTold teller (running call) opened
      → Leaves (finished_call shape (with opened call) how call) (treated_end shape teller client.cut how opened call)

  place_finishes : (how : Finish) (opened : Option Open) (place : CallPoint) → Finishes how opened (Some (At place))
  place_finishes how None (InTxn at) is lists told = absurd (cc)
  place_finishes how (Some attempt) (InTxn at) is lists told =
      treated_left attempt _ lists told _ how at (has_committed at how) refl
  place_finishes how opened place is lists told = place_closes opened place is lists told

  call_finishes : (how : Finish) (opened : Option Open) (call : Option (Now CallPoint Answer))
      → Finishes how opened call
  call_finishes how opened (Some (At place)) is lists told = place_finishes how opened place is lists told
  call_finishes how opened None is lists told = call_closes opened None is lists told
  call_finishes how opened (Some (Over answer)) is lists told = call_closes opened (Some (Over answer)) is lists told

  closes : (finish : Option Finish) (opened : Option Open) (call : Option (Now CallPoint Answer))
      → IsOpenNow opened call → Lists (snaps_pending opened call) → OpenTold teller (running call) opened
      → Leaves (closed_client shape (with opened call) finish call)
      (now_end shape teller client.cut finish opened call)
  closes None opened call is lists told = call_closes opened call is lists told
  closes (Some how) opened call is lists told =
      one_more (finished_call shape (with opened call) how call).log teller.front
      (treated_end shape teller client.cut how opened call) (Finished how)
      (bare_owns (Finished how) refl refl refl) refl (call_finishes how opened call is lists told)

  module _ (told : IsTold client teller) where
    -- whether it is cut or not, and treated or not
    pub log_lists : ListsAll (into_log shape client) (teller.front ++ end_of shape teller client)
    log_lists = closes (finish_of client.medic) client.txn client.call told.opens told.lists told.opened

    pub log_tells : let ts = teller.front ++ end_of shape teller client in
        tells_with (flat_map own_ops ts) (into_log shape client) ≡ ts
    log_tells =
        listed_tells (into_log shape client) (teller.front ++ end_of shape teller client) [] [] [] [] log_lists

-- 6. It is cut, and treated

pub told_cut : (client : ClientState) (teller : Teller) → IsTold client teller → IsTold (client_cut client) teller
told_cut client teller told =
    record { opens = told.opens; lists = told.lists; number = told.number; opened = told.opened }
