-- A word is taken. What is told then is right.
use Rattle.std.proofs.Common.{List, None, Option, Some, [], ap, append_assoc, false, inl, inr, length, refl, sym, ℕ}
use Rattle.std.proofs.Common.{◌++◌}
use Rattle.std.proofs.Common.{◌∙◌, ◌∷◌, ◌≡◌}
use Rattle.std.proofs.lemmas.Bool.{cases_Bool}
use Rattle.std.specs.List.{flat_map}
use Rattle.si_model.specs.Rows.{key_at, writes_key}
use Rattle.si_model.specs.Tells.{ListsTells, OwnsItems, commit_in, last_number, own_snaps}
use Rattle.si_model.specs.declared.log.Event.TheVariants as event
use Rattle.si_model.specs.declared.log.Event.{Event}
use Rattle.si_model.specs.declared.log.Lock.{Lock}
use Rattle.si_model.specs.declared.log.MoveEnd.TheVariants as moved
use Rattle.si_model.specs.declared.log.Outcome.TheVariants as outcome
use Rattle.si_model.specs.declared.op.Op.TheVariants as op
use Rattle.si_model.specs.declared.op.Op.{Op}
use Rattle.si_model.specs.declared.row.Item.{Item}
use Rattle.nam_verbs.specs.declared.now.Now.TheVariants.{At, Over}
use Rattle.nam_verbs.specs.declared.now.Now.{Now}
use Rattle.nam_catalog.specs.declared.shape.Shape.{Shape}
use Rattle.nam_layout.specs.Place.{bucket_of, cells_by, cells_of, place_of}
use Rattle.nam_vector.specs.Snap.{snap_after}
use Rattle.nam_vector.specs.declared.snap.SnapEnd.TheVariants as snap_end
use Rattle.nam_vector.specs.declared.snap.SnapEnd.{SnapEnd}
use Rattle.nam_vector.specs.declared.snap.SnapPoint.{SnapPoint}
use Rattle.nam_calls.specs.Horizon.{collect_after}
use Rattle.nam_calls.specs.Index.{find_after}
use Rattle.nam_calls.specs.Mover.{move_after}
use Rattle.nam_calls.specs.Words.{path_of}
use Rattle.nam_calls.specs.declared.horizon.CollectPoint.{CollectPoint}
use Rattle.nam_calls.specs.declared.index.FindEnd.TheVariants as found_key
use Rattle.nam_calls.specs.declared.index.FindEnd.{FindEnd}
use Rattle.nam_calls.specs.declared.mover.MoveAnswer.TheVariants as move_end
use Rattle.nam_calls.specs.declared.mover.MoveAnswer.{MoveAnswer}
use Rattle.nam_calls.specs.declared.mover.MovePoint.{MovePoint}
use Rattle.nam_protocol.specs.Client.{after_call, client_after, on_begin, on_collect, on_move, on_seek, on_snap}
use Rattle.nam_protocol.specs.Log.{unbegun, with_event, with_reads, with_snap}
use Rattle.nam_protocol.specs.Operations.{own_value}
use Rattle.nam_protocol.specs.Own.{IsOpenNow}
use Rattle.nam_protocol.specs.Scan.{position_of, scan_after, scan_read, scan_skip}
use Rattle.nam_protocol.specs.ScanCall.{on_key, on_scan, on_skip, scan_listed, scanned_items, with_gathered}
use Rattle.nam_protocol.specs.Telling.{with_read}
use Rattle.nam_protocol.specs.TxnCalls.{taken_at, txn_after}
use Rattle.nam_protocol.specs.declared.client.Answer.{Answer}
use Rattle.nam_protocol.specs.declared.client.Answer.TheVariants as client_answer
use Rattle.nam_protocol.specs.declared.client.CallPoint.TheVariants.{Beginning, Collecting, InTxn, Moving, Scanning}
use Rattle.nam_protocol.specs.declared.client.CallPoint.TheVariants.{Seeking, Snapping}
use Rattle.nam_protocol.specs.declared.client.CallPoint.{CallPoint}
use Rattle.nam_protocol.specs.declared.client.ClientState.{ClientState}
use Rattle.nam_protocol.specs.declared.client.Open.{Open}
use Rattle.nam_protocol.specs.declared.scan.ScanAnswer.TheVariants as scan_answer
use Rattle.nam_protocol.specs.declared.scan.ScanAnswer.{ScanAnswer}
use Rattle.nam_protocol.specs.declared.scan.ScanPoint.{ScanPoint}
use Rattle.nam_protocol.specs.declared.txn.TxnAnswer.TheVariants.{Astray, TooOld}
use Rattle.nam_tells.proofs.EventLemmas.{bare_owns, lists_bare, none_blank, number_same}
use Rattle.nam_tells.proofs.StepLemmas.{Ongoing, ends_on, passes_on, reads_on, stepped_told, word_of}
use Rattle.nam_tells.specs.Steps.{ended, reading, told_after, told_begin, told_collect, told_key, told_move}
use Rattle.nam_tells.specs.Steps.{told_now, told_scan, told_skip, told_snap}
use Rattle.nam_tells.specs.Teller.{IsBlank, IsTold, OpenTold, Teller, bare_tell, running, snaps_pending}

-- 1. A scan

module _ (shape : Shape) (teller : Teller) (attempt : Open) (table low high : ℕ) where
  abbrev scan : List Op
  scan = op.Scan table low high ∷ []

  -- a client of this attempt
  abbrev of : ClientState → ClientState
  of client = record client { txn = Some attempt }

  abbrev On : ClientState → Type 0
  On client = Ongoing (of client) teller scan attempt

  at_place : (client : ClientState) → On client → (at : ScanPoint)
      → IsTold (record (of client) { call = Some (At (Scanning table low high at)) }) teller
  at_place client on at = record { opens = refl; lists = on.lists; number = on.number; opened = on.counted }

  listed_told : (client : ClientState) → On client
      → IsTold (scan_listed (of client) attempt table) (told_skip teller (of client) table (Over scan_answer.Done))
  listed_told client on =
      let items = scanned_items table client.scanned in
      passes_on (record (of client) { log = with_reads client.log items })
      (reading teller items) scan (with_read attempt items)
      (reads_on (of client) teller scan attempt on items) (client_answer.Scanned (length items)) []

  skip_told : (client : ClientState) → On client → (now : Now ScanPoint ScanAnswer)
      → IsTold (on_skip (of client) attempt table low high now) (told_skip teller (of client) table now)
  skip_told client on (At at) = at_place client on at
  skip_told client on (Over end) = listed_told client on

  -- with what its key holds, where that is present
  gathered_told : (client : ClientState) → On client → (position key : ℕ) (value : Option (List ℕ))
      (now : Now ScanPoint ScanAnswer)
      → IsTold (on_skip (with_gathered (of client) position key value) attempt table low high now)
      (told_skip teller (with_gathered (of client) position key value) table now)
  gathered_told client on position key None now = skip_told client on now
  gathered_told client on position key (Some value) now =
      let rows = client.scanned ++ record { position = position; key = key; value = value } ∷ [] in
      skip_told (record client { scanned = rows })
      (record { lists = on.lists; number = on.number; counted = on.counted }) now

  key_told : (client : ClientState) → On client → (position key : ℕ)
      → IsTold (on_key shape (of client) attempt table low high position key)
      (told_key shape teller (of client) attempt table position key)
  key_told client on position key =
      let own = key_at table key in
      elim (cases_Bool (writes_key attempt.state.writes own)) [
        | inl e ↦
            rw e
            (gathered_told client on position key (own_value attempt.state.writes own) (scan_skip shape table position))
        | inr e ↦ rw e (skip_told client on (scan_read position key))
      ]

  pub scan_told : (client : ClientState) → On client → (position : ℕ) (now : Now ScanPoint ScanAnswer)
      → IsTold (on_scan shape (of client) attempt table low high position now)
      (told_scan shape teller (of client) attempt table position now)
  scan_told client on position (At at) = at_place client on at
  scan_told client on position (Over (scan_answer.Key key)) = key_told client on position key
  scan_told client on position (Over (scan_answer.Row item)) =
      gathered_told client on position item.key item.value (scan_skip shape table position)
  scan_told client on position (Over scan_answer.Done) = listed_told client on
  scan_told client on position (Over (scan_answer.TooOld worker entry horizon)) =
      ends_on (record (of client) { scanned = [] }) teller scan attempt
      (record { lists = on.lists; number = on.number; counted = on.counted }) (outcome.TooOld worker entry horizon) refl
      (Some (Over (client_answer.Txn (TooOld worker entry horizon)))) tt
  scan_told client on position (Over scan_answer.Astray) =
      ends_on (record (of client) { scanned = [] }) teller scan attempt
      (record { lists = on.lists; number = on.number; counted = on.counted }) outcome.Left refl
      (Some (Over (client_answer.Txn Astray))) tt

-- 2. No transaction is open

module _ (shape : Shape) (client : ClientState) (teller : Teller) (blank : IsBlank teller)
    (number : client.last ≡ last_number client.start teller.front) where
  abbrev Lists : List (List ℕ) → Type 0
  Lists snaps = ListsTells client.log teller.front teller.reads teller.locks [] snaps

  abbrev none : ClientState
  none = record client { txn = None }

  -- an event that owns nothing but, where it has one, a snapshot
  listed : (e : Event) (snap : List ℕ) → OwnsItems (bare_tell e snap) → commit_in e ≡ None
      → Lists (own_snaps (bare_tell e snap)) → (end : Answer)
      → IsTold (record none { log = with_event client.log e; call = Some (Over end) })
      (ended teller (bare_tell e snap))
  listed e snap owns silent lists end = record {
    opens = tt;
    lists = lists_bare client.log teller e snap owns blank lists;
    number = number_same client.start client.last teller.front (bare_tell e snap) number silent;
    opened = none_blank (teller.front ++ bare_tell e snap ∷ []);
  }

  -- a snapshot is listed
  snapped : Lists [] → (seen : List ℕ)
      → ListsTells (with_snap client.log seen) teller.front teller.reads teller.locks [] (seen ∷ [])
  snapped lists seen = record {
    events = lists.events;
    reads = lists.reads;
    locks = lists.locks;
    writes = lists.writes;
    snaps = ap (λ (ss : List (List ℕ)). ss ++ seen ∷ []) lists.snaps
        ∙ append_assoc (flat_map own_snaps teller.front) [] (seen ∷ []);
    owned = lists.owned;
  }

  module _ (lists : Lists []) where
    begin_told : (txn nth : ℕ) (now : Now SnapPoint SnapEnd)
        → IsTold (on_begin shape none txn nth now) (told_begin teller txn nth now)
    begin_told txn nth (At at) = record { opens = refl; lists = lists; number = number; opened = blank }
    begin_told txn nth (Over (snap_end.Done seen)) = record {
      opens = tt;
      lists = snapped lists seen;
      number = number;
      opened = record {
        ops_count = ap (λ (ops : List Op). length ops) (sym blank.ops_none);
        reads_count = ap (λ (xs : List Item). length xs) (sym blank.reads_none);
        locks_count = ap (λ (xs : List Lock). length xs) (sym blank.locks_none);
        asked = blank.ops_none ∙ ap (λ (ops : List Op). ops ++ []) (sym blank.passed_none);
      };
    }
    begin_told txn nth (Over (snap_end.Again worker first second)) =
        let e = unbegun txn nth (outcome.Again worker first second) in
        listed e [] (bare_owns e refl refl refl) refl lists (client_answer.Again worker first second)

    seek_told : (table key : ℕ) (now : Now ℕ FindEnd) → IsTold (on_seek shape none table key now) teller
    seek_told table key (At passed) = record { opens = refl; lists = lists; number = number; opened = blank }
    seek_told table key (Over (found_key.At position)) =
        record { opens = refl; lists = lists; number = number; opened = blank }
    seek_told table key (Over found_key.Absent) =
        record { opens = tt; lists = lists; number = number; opened = blank }

    move_told : (table key position bucket : ℕ) (now : Now MovePoint MoveAnswer)
        → IsTold (on_move shape none table key position bucket now) (told_move teller table key bucket now)
    move_told table key position bucket (At at) =
        record { opens = refl; lists = lists; number = number; opened = blank }
    move_told table key position bucket (Over (move_end.Moved stamp)) =
        let e = event.Moved bucket table key stamp moved.Done in
        listed e [] (bare_owns e refl refl refl) refl lists client_answer.Moved
    move_told table key position bucket (Over (move_end.Back stamp)) =
        let e = event.Moved bucket table key stamp moved.Back in
        listed e [] (bare_owns e refl refl refl) refl lists client_answer.Back
    move_told table key position bucket (Over move_end.Nothing) =
        record { opens = tt; lists = lists; number = number; opened = blank }
    move_told table key position bucket (Over (move_end.NoRoom full)) =
        let e = event.NoRoom full in
        listed e [] (bare_owns e refl refl refl) refl lists (client_answer.NoRoom full)

    snap_told : (bucket : ℕ) (now : Now SnapPoint SnapEnd)
        → IsTold (on_snap shape none bucket now) (told_snap teller bucket now)
    snap_told bucket (At at) = record { opens = refl; lists = lists; number = number; opened = blank }
    snap_told bucket (Over (snap_end.Done seen)) =
        record { opens = refl; lists = snapped lists seen; number = number; opened = blank }
    snap_told bucket (Over (snap_end.Again worker first second)) =
        let e = event.CollectAgain bucket worker first second in
        listed e [] (bare_owns e refl refl refl) refl lists (client_answer.Again worker first second)

  collect_told : (bucket prefix : ℕ) (seen : List ℕ) → Lists (seen ∷ []) → (now : Now CollectPoint (List ℕ))
      → IsTold (on_collect shape none bucket prefix seen now) (told_collect teller bucket prefix seen now)
  collect_told bucket prefix seen lists (At at) =
      record { opens = refl; lists = lists; number = number; opened = blank }
  collect_told bucket prefix seen lists (Over known) =
      listed (event.Collected bucket prefix seen false) seen
      (record { reads = refl; locks = refl; writes = refl; snap = λ e. absurd (cc); ops = λ e. refl }) refl lists
      (client_answer.Collected known)

-- 3. Any call

module _ (shape : Shape) (client : ClientState) (teller : Teller)
    (number : client.last ≡ last_number client.start teller.front) (found : ℕ) where
  abbrev with : Option Open → Option (Now CallPoint Answer) → ClientState
  with opened now = record client { txn = opened; call = now }

  abbrev Takes : Option Open → Option (Now CallPoint Answer) → Type 0
  Takes opened now = IsOpenNow opened now
      → ListsTells client.log teller.front teller.reads teller.locks [] (snaps_pending opened now)
      → OpenTold teller (running now) opened
      → IsTold (after_call shape (with opened now) now found) (told_now shape (with opened now) now found teller)

  place_told : (opened : Option Open) (place : CallPoint) → Takes opened (Some (At place))
  place_told None (Beginning txn nth at) is lists told =
      begin_told shape (with None (Some (At (Beginning txn nth at)))) teller told number lists txn nth
      (snap_after shape.workers at found)
  place_told (Some attempt) (Beginning txn nth at) is lists told = absurd (cc)
  place_told None (InTxn at) is lists told = absurd (cc)
  place_told (Some attempt) (InTxn at) is lists told =
      stepped_told (with (Some attempt) (Some (At (InTxn at)))) teller _ attempt
      (record { lists = lists; number = number; counted = told }) (length (taken_at attempt.state at))
      (txn_after shape attempt.state at found) (word_of shape attempt.state at found)
  place_told None (Scanning table low high at) is lists told = absurd (cc)
  place_told (Some attempt) (Scanning table low high at) is lists told =
      scan_told shape teller attempt table low high (with (Some attempt) (Some (At (Scanning table low high at))))
      (record { lists = lists; number = number; counted = told }) (position_of at)
      (scan_after shape table low high attempt.state.seen at found)
  place_told None (Seeking table key passed) is lists told =
      seek_told shape (with None (Some (At (Seeking table key passed)))) teller told number lists table key
      (find_after (path_of shape table key) passed found)
  place_told (Some attempt) (Seeking table key passed) is lists told = absurd (cc)
  place_told None (Moving table key position at) is lists told =
      let place = place_of shape table position in
      move_told shape (with None (Some (At (Moving table key position at)))) teller told number lists table key position
      (bucket_of shape place.row) (move_after place (cells_by shape place) at found)
  place_told (Some attempt) (Moving table key position at) is lists told = absurd (cc)
  place_told None (Snapping bucket at) is lists told =
      snap_told shape (with None (Some (At (Snapping bucket at)))) teller told number lists bucket
      (snap_after shape.workers at found)
  place_told (Some attempt) (Snapping bucket at) is lists told = absurd (cc)
  place_told None (Collecting bucket prefix seen at) is lists told =
      collect_told shape (with None (Some (At (Collecting bucket prefix seen at)))) teller told number bucket prefix
      seen lists (collect_after (cells_of shape bucket) shape.workers seen at found)
  place_told (Some attempt) (Collecting bucket prefix seen at) is lists told = absurd (cc)

  -- a client at rest takes no word
  now_told : (opened : Option Open) (now : Option (Now CallPoint Answer)) → Takes opened now
  now_told opened (Some (At place)) is lists told = place_told opened place is lists told
  now_told opened None is lists told = record { opens = is; lists = lists; number = number; opened = told }
  now_told opened (Some (Over end)) is lists told = record { opens = is; lists = lists; number = number; opened = told }

pub told_by_word : (shape : Shape) (client : ClientState) (teller : Teller) (found : ℕ) → IsTold client teller
    → IsTold (client_after shape client found) (told_after shape client found teller)
told_by_word shape client teller found told =
    now_told shape client teller told.number found client.txn client.call told.opens told.lists told.opened
