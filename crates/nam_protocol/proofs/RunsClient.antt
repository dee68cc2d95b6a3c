-- What a client does for its driver: the call that runs stays the one that was asked, and what its answer says.
use Rattle.std.proofs.Common.{◌≡◌, ℕ, zero, suc, ◌+◌, ◌<◌, List, [], ◌∷◌, ◌++◌, length, take, refl, sym, ap}
use Rattle.std.proofs.Common.{subst, Bool, true, false, Option, Some, None}
use Rattle.std.proofs.Math.Numerals.{add-one}
use Rattle.std.specs.Prelude.{◌==◌, slice_get}
use Rattle.std.proofs.lemmas.Option.{slice_get_within}
use Rattle.si_model.specs.declared.row.Key.{Key}
use Rattle.si_model.specs.declared.op.Op.{Op}
use Rattle.si_model.specs.declared.op.Op.TheVariants.{Scan}
use Rattle.si_model.specs.Rows.{key_at, writes_key}
use Rattle.si_model.specs.Evaluation.{written_keys}
use Rattle.nam_verbs.specs.declared.now.Now.{Now}
use Rattle.nam_verbs.specs.declared.now.Now.TheVariants.{At, Over}
use Rattle.nam_catalog.specs.declared.shape.Shape.{Shape}
use Rattle.nam_catalog.specs.Fits.{FitsLimits}
use Rattle.nam_layout.specs.declared.field.Place.{Place}
use Rattle.nam_layout.specs.declared.field.Cells.{Cells}
use Rattle.nam_layout.specs.Place.{place_of, cells_of, cells_by}
use Rattle.nam_vector.specs.declared.snap.SnapPoint.{SnapPoint}
use Rattle.nam_vector.specs.declared.snap.SnapEnd.{SnapEnd}
use Rattle.nam_vector.specs.Snap.{snap_after}
use Rattle.nam_vector.specs.declared.snap.SnapEnd.TheVariants as snap_end
use Rattle.nam_calls.specs.declared.index.FindEnd.{FindEnd}
use Rattle.nam_calls.specs.declared.overflow.ClaimPoint.{ClaimPoint}
use Rattle.nam_calls.specs.declared.overflow.ClaimEnd.{ClaimEnd}
use Rattle.nam_calls.specs.declared.overflow.ClaimEnd.TheVariants.{Claimed, NoRoom}
use Rattle.nam_calls.specs.declared.overflow.Version.{Version}
use Rattle.nam_calls.specs.declared.overflow.FillPoint.{FillPoint}
use Rattle.nam_calls.specs.declared.horizon.CollectPoint.{CollectPoint}
use Rattle.nam_calls.specs.declared.mover.MovePoint.{MovePoint}
use Rattle.nam_calls.specs.declared.mover.MovePoint.TheVariants.{MoveCount, MoveHead, MoveEnding, MoveClaim}
use Rattle.nam_calls.specs.declared.mover.MovePoint.TheVariants.{MoveWords}
use Rattle.nam_calls.specs.declared.mover.MovePoint.TheVariants.{MoveFill, MoveAgain, MoveFull, MoveFlag, MoveBack}
use Rattle.nam_calls.specs.declared.mover.MoveAnswer.{MoveAnswer}
use Rattle.nam_calls.specs.Words.{path_of}
use Rattle.nam_calls.specs.Index.{find_after}
use Rattle.nam_calls.specs.Overflow.{claim_after, fill_after}
use Rattle.nam_calls.specs.Mover.{on_claim, on_fill, move_after}
use Rattle.nam_calls.specs.Horizon.{collect_after}
use Rattle.nam_calls.proofs.FallsTests.{either}
use Rattle.nam_calls.proofs.FallsTables.{bucket_within}
use Rattle.nam_calls.specs.declared.index.FindEnd.TheVariants as found_key
use Rattle.nam_calls.specs.declared.mover.MoveAnswer.TheVariants as move_end
use Rattle.nam_header.specs.Stamp.{is_moved}
use Rattle.nam_protocol.specs.declared.txn.TxnPoint.{TxnPoint}
use Rattle.nam_protocol.specs.declared.txn.TxnPoint.TheVariants.{Finding, Reading, Claiming, Committing}
use Rattle.nam_protocol.specs.declared.txn.TxnAnswer.{TxnAnswer}
use Rattle.nam_protocol.specs.Txn.{Stepped}
use Rattle.nam_protocol.specs.declared.scan.ScanPoint.{ScanPoint}
use Rattle.nam_protocol.specs.declared.scan.ScanAnswer.{ScanAnswer}
use Rattle.nam_protocol.specs.declared.client.Answer.{Answer}
use Rattle.nam_protocol.specs.declared.client.Answer.TheVariants as answer
use Rattle.nam_protocol.specs.declared.client.CallPoint.{CallPoint}
use Rattle.nam_protocol.specs.declared.client.CallPoint.TheVariants.{Beginning, InTxn, Scanning, Seeking, Moving}
use Rattle.nam_protocol.specs.declared.client.CallPoint.TheVariants.{Snapping, Collecting}
use Rattle.nam_protocol.specs.declared.client.Open.{Open}
use Rattle.nam_protocol.specs.declared.client.ClientState.{ClientState}
use Rattle.nam_protocol.specs.declared.session.DriverPoint.{DriverPoint}
use Rattle.nam_protocol.specs.declared.session.DriverPoint.TheVariants.{ToBegin, ToAsk, ToTidy, ToCollect}
use Rattle.nam_protocol.specs.Operations.{own_value}
use Rattle.nam_protocol.specs.TxnCalls.{txn_after, taken_at, taken_now}
use Rattle.nam_protocol.specs.Log.{with_locks}
use Rattle.nam_protocol.specs.Scan.{scan_skip, scan_read, scan_after, position_of}
use Rattle.nam_protocol.specs.Telling.{new_locks, on_call, stepped}
use Rattle.nam_protocol.specs.ScanCall.{with_gathered, on_skip, on_scan}
use Rattle.nam_protocol.specs.Client.{on_begin, on_seek, on_move, on_snap, on_collect, take_txn, take_scan, call_after}
use Rattle.nam_protocol.specs.AttemptLaw.{HasAsked, has_passed, NowAsks, Asks}
use Rattle.nam_protocol.specs.TxnFits.{StateFits, TxnPointFits}
use Rattle.nam_protocol.specs.ClientFits.{OpenFits, OpenPointFits, CallPointFits}
use Rattle.nam_protocol.specs.SessionFits.{OpenAsked, OpenRuns, PlaceRuns}
use Rattle.nam_protocol.proofs.FallsAttempt.{unclaimed, take_asks}
use Rattle.nam_protocol.proofs.FallsClient.{gathered_keeps}
use Rattle.nam_protocol.proofs.RunsTxn.{OfOp, FullFits, CommitRuns, CommitStands, take_of, commit_runs}
use Rattle.nam_protocol.specs.declared.txn.TxnAnswer.TheVariants as txn_answer
use Rattle.nam_protocol.specs.declared.scan.ScanAnswer.TheVariants as scan_answer

-- 1. Lists

-- one more of the operations
pub take_more : {A : Type 0} (xs : List A) (nth : ℕ) (x : A) → slice_get xs nth ≡ Some x
    → take (nth + 1) xs ≡ take nth xs ++ x ∷ []
take_more [] nth x e = absurd (cc)
take_more (y ∷ ys) zero x e = ap (λ z. z ∷ []) (cc)
take_more (y ∷ ys) (suc nth) x e =
    let more = rw add-one at (take_more ys nth x e) in rw add-one (ap (λ zs. y ∷ zs) more)

pub take_past : {A : Type 0} (xs : List A) (nth : ℕ) → slice_get xs nth ≡ None → take nth xs ≡ xs
take_past [] zero e = refl
take_past [] (suc nth) e = refl
take_past (y ∷ ys) zero e = absurd (cc)
take_past (y ∷ ys) (suc nth) e = ap (λ zs. y ∷ zs) (take_past ys nth e)

-- 2. What a call's answer says

module _ (shape : Shape) where
  -- the operation has passed, and the next is asked
  abbrev pub HasPassed : List Op → ℕ → Option Open → Type 0
  HasPassed ops nth txn = (nth < length ops) × OpenAsked txn (take (nth + 1) ops)

  abbrev pub TxnAnswered : List Op → ℕ → Option Open → TxnAnswer → Bool → Type 0
  TxnAnswered ops nth txn end true = HasPassed ops nth txn
  TxnAnswered ops nth txn end false = FullFits shape (written_keys ops) end

  abbrev pub AskAnswered : List Op → ℕ → Option Open → Answer → Type 0
  AskAnswered ops nth txn (answer.Txn end) = TxnAnswered ops nth txn end (has_passed end)
  AskAnswered ops nth txn (answer.Scanned items) = HasPassed ops nth txn
  AskAnswered ops nth txn _ = ⊥

  abbrev pub BeginAnswered : Option Open → Answer → Type 0
  BeginAnswered txn (answer.Begun prefix) = OpenAsked txn []
  BeginAnswered txn (answer.Again worker first second) = Unit {0}
  BeginAnswered txn _ = ⊥

  abbrev pub TidyAnswered : Answer → Type 0
  TidyAnswered (answer.NoRoom bucket) = bucket < shape.buckets
  TidyAnswered answer.Moved = Unit {0}
  TidyAnswered answer.Back = Unit {0}
  TidyAnswered answer.Nothing = Unit {0}
  TidyAnswered _ = ⊥

  abbrev pub CollectAnswered : Answer → Type 0
  CollectAnswered (answer.Again worker first second) = Unit {0}
  CollectAnswered (answer.Collected known) = Unit {0}
  CollectAnswered _ = ⊥

  abbrev pub IsAnswered : DriverPoint → List Op → Option Open → Answer → Type 0
  IsAnswered ToBegin ops txn end = BeginAnswered txn end
  IsAnswered (ToAsk nth) ops txn end = AskAnswered ops nth txn end
  IsAnswered (ToTidy keys nth again retry) ops txn end = TidyAnswered end
  IsAnswered (ToCollect bucket keys nth retry) ops txn end = CollectAnswered end

  -- the call that the driver asked runs, or was answered
  abbrev pub NowDoes : DriverPoint → List Op → Option Open → Option (Now CallPoint Answer) → Type 0
  NowDoes place ops txn None = ⊥
  NowDoes place ops txn (Some (At at)) = PlaceRuns place ops txn at
  NowDoes place ops txn (Some (Over end)) = IsAnswered place ops txn end

  abbrev pub ClientDoes : DriverPoint → List Op → ClientState → Type 0
  ClientDoes place ops client = NowDoes place ops client.txn client.call

  -- 3. Calls of the open transaction

  module _ (ops : List Op) (nth : ℕ) where
    abbrev Does : ClientState → Type 0
    Does client = ClientDoes (ToAsk nth) ops client

    -- an operation
    module _ (op : Op) (here : slice_get ops nth ≡ Some op) where
      has_passed_here : (attempt : Open) → HasAsked attempt.state (take nth ops ++ op ∷ [])
          → HasPassed ops nth (Some attempt)
      has_passed_here attempt asked =
          (slice_get_within ops nth op here, subst (HasAsked attempt.state) (sym (take_more ops nth op here)) asked)

      on_call_does : (client : ClientState) (attempt : Open) (now : Now TxnPoint TxnAnswer)
          → NowAsks attempt.state (take nth ops) op now
          → OfOp op now
          → Does (on_call client attempt now)
      on_call_does client attempt (At place) asked of =
          (asked, subst (λ o. OpenRuns (Some attempt) o place) (sym here) of)
      on_call_does client attempt (Over (txn_answer.Value value)) asked of = has_passed_here attempt asked
      on_call_does client attempt (Over txn_answer.Written) asked of = has_passed_here attempt asked
      on_call_does client attempt (Over (txn_answer.Added n)) asked of = has_passed_here attempt asked
      on_call_does client attempt (Over txn_answer.Met) asked of = has_passed_here attempt asked
      on_call_does client attempt (Over (txn_answer.Committed number)) asked of = tt
      on_call_does client attempt (Over txn_answer.ReadOnly) asked of = tt
      on_call_does client attempt (Over (txn_answer.TooOld worker entry horizon)) asked of = tt
      on_call_does client attempt (Over (txn_answer.NoSpace table)) asked of = tt
      on_call_does client attempt (Over txn_answer.Declined) asked of = tt
      on_call_does client attempt (Over txn_answer.Spent) asked of = tt
      on_call_does client attempt (Over (txn_answer.Locked lock)) asked of = tt
      on_call_does client attempt (Over (txn_answer.Newer lock)) asked of = tt
      on_call_does client attempt (Over (txn_answer.Full lock)) asked of = absurd of
      on_call_does client attempt (Over txn_answer.Astray) asked of = tt

      pub stepped_does : (client : ClientState) (attempt : Open) (before : ℕ) (step : Stepped)
          → Asks (take nth ops) op step
          → OfOp op step.call
          → Does (stepped client attempt before step)
      stepped_does client attempt before step asked of =
          let locks = new_locks step.state before (taken_now step.state step.call) in
          on_call_does (record client { log = with_locks client.log locks })
          (record attempt { locks = attempt.locks + length locks; state = step.state }) step.call asked of

    -- the commit
    module _ (here : slice_get ops nth ≡ None) where
      on_commit_does : (client : ClientState) (attempt : Open) (now : Now TxnPoint TxnAnswer)
          → HasAsked attempt.state ops
          → CommitRuns shape ops attempt.state now
          → Does (on_call client attempt now)
      on_commit_does client attempt (At (Committing at)) asked runs = (
        subst (HasAsked attempt.state) (sym (take_past ops nth here)) asked,
        subst (λ o. OpenRuns (Some attempt) o (Committing at)) (sym here) runs,
      )
      on_commit_does client attempt (At (Finding op passed)) asked runs = absurd runs
      on_commit_does client attempt (At (Reading op position at)) asked runs = absurd runs
      on_commit_does client attempt (At (Claiming op at)) asked runs = absurd runs
      on_commit_does client attempt (Over end) asked runs =
          subst (TxnAnswered ops nth _ end) (sym runs.0) runs.1

      pub commit_does : (client : ClientState) (attempt : Open) (before : ℕ) (step : Stepped)
          → CommitStands shape ops step
          → Does (stepped client attempt before step)
      commit_does client attempt before step stands =
          let locks = new_locks step.state before (taken_now step.state step.call) in
          on_commit_does (record client { log = with_locks client.log locks })
          (record attempt { locks = attempt.locks + length locks; state = step.state }) step.call stands.0 stands.1

    -- a word of either is taken
    take_does : (client : ClientState) (attempt : Open) (at : TxnPoint) (found : ℕ) (o : Option Op)
        → slice_get ops nth ≡ o
        → StateFits shape attempt.state → TxnPointFits shape attempt.state at
        → HasAsked attempt.state (take nth ops)
        → OpenRuns (Some attempt) o at
        → Does (take_txn shape client at (Some attempt) found)
    take_does client attempt at found (Some op) here f p asked runs =
        stepped_does op here client attempt (length (taken_at attempt.state at))
        (txn_after shape attempt.state at found)
        (take_asks shape attempt.state (take nth ops) op at found asked runs)
        (take_of shape attempt.state op at found runs)
    take_does client attempt (Committing at) found None here f p asked runs =
        commit_does here client attempt (length (taken_at attempt.state (Committing at)))
        (txn_after shape attempt.state (Committing at) found)
        (commit_runs shape ops attempt.state
        (subst (HasAsked attempt.state) (take_past ops nth here) asked) at found f p
        runs)
    take_does client attempt (Finding op passed) found None here f p asked runs = absurd runs
    take_does client attempt (Reading op position at) found None here f p asked runs = absurd runs
    take_does client attempt (Claiming op at) found None here f p asked runs = absurd runs

    take_txn_does : (client : ClientState) (opened : Option Open) (at : TxnPoint) (found : ℕ) → OpenFits shape opened
        → OpenPointFits shape opened at
        → OpenAsked opened (take nth ops) → OpenRuns opened (slice_get ops nth) at
        → Does (take_txn shape client at opened found)
    take_txn_does client None at found f p asked runs = absurd p
    take_txn_does client (Some attempt) at found f p asked runs =
        take_does client attempt at found (slice_get ops nth) refl f p asked runs

    -- a scan
    module _ (limits : FitsLimits shape) (table low high : ℕ) (here : slice_get ops nth ≡ Some (Scan table low high))
        (attempt : Open) (asked : HasAsked attempt.state (take nth ops)) where
      abbrev Asked : ℕ → ℕ → Option Open → Type 0
      Asked worker last txn = OpenAsked txn (take nth ops)

      all_scanned : HasPassed ops nth (Some attempt)
      all_scanned =
          has_passed_here (Scan table low high) here attempt
          (unclaimed attempt.state.writes attempt.state.guards (take nth ops) asked (Scan table low high) refl)

      on_skip_does : (client : ClientState) (now : Now ScanPoint ScanAnswer) → OpenAsked client.txn (take nth ops)
          → Does (on_skip client attempt table low high now)
      on_skip_does client (At place) o = (o, here)
      on_skip_does client (Over end) o = all_scanned

      skipped_does : (client : ClientState) (position key : ℕ) (value : Option (List ℕ))
          → OpenAsked client.txn (take nth ops)
          → Does (on_skip (with_gathered client position key value) attempt table low high
          (scan_skip shape table position))
      skipped_does client position key value o =
          on_skip_does (with_gathered client position key value) (scan_skip shape table position)
          (gathered_keeps shape limits Asked client position key value o)

      on_scan_does : (client : ClientState) (position : ℕ) (now : Now ScanPoint ScanAnswer)
          → OpenAsked client.txn (take nth ops)
          → Does (on_scan shape client attempt table low high position now)
      on_scan_does client position (At place) o = (o, here)
      on_scan_does client position (Over (scan_answer.Key key)) o =
          let own = key_at table key in
          either Does (writes_key attempt.state.writes own)
          (on_skip (with_gathered client position key (own_value attempt.state.writes own)) attempt table low high
          (scan_skip shape table position))
          (on_skip client attempt table low high (scan_read position key))
          (skipped_does client position key (own_value attempt.state.writes own) o)
          (on_skip_does client (scan_read position key) o)
      on_scan_does client position (Over (scan_answer.Row item)) o = skipped_does client position item.key item.value o
      on_scan_does client position (Over scan_answer.Done) o = all_scanned
      on_scan_does client position (Over (scan_answer.TooOld worker entry horizon)) o = tt
      on_scan_does client position (Over scan_answer.Astray) o = tt

    take_scan_does : (limits : FitsLimits shape) (table low high : ℕ) → slice_get ops nth ≡ Some (Scan table low high)
        → (client : ClientState) (opened : Option Open) (at : ScanPoint) (found : ℕ)
        → OpenAsked client.txn (take nth ops)
        → OpenAsked opened (take nth ops)
        → Does (take_scan shape client table low high at opened found)
    take_scan_does limits table low high here client None at found o p = absurd p
    take_scan_does limits table low high here client (Some attempt) at found o p =
        on_scan_does limits table low high here attempt p client (position_of at)
        (scan_after shape table low high attempt.state.seen at found) o

  -- 4. The other calls

  on_begin_does : (ops : List Op) (client : ClientState) (txn nth : ℕ) (now : Now SnapPoint SnapEnd)
      → ClientDoes ToBegin ops (on_begin shape client txn nth now)
  on_begin_does ops client txn nth (At place) = tt
  on_begin_does ops client txn nth (Over (snap_end.Done seen)) = record { written = refl; guarded = refl }
  on_begin_does ops client txn nth (Over (snap_end.Again worker first second)) = tt

  -- a move that finds no room names the bucket of its cells
  abbrev RoomIn : Cells → Now MovePoint MoveAnswer → Type 0
  RoomIn cells (Over (move_end.NoRoom bucket)) = cells.bucket ≡ bucket
  RoomIn cells _ = Unit {0}

  on_claim_room : (cells : Cells) (slot header ending : ℕ) (now : Now ClaimPoint ClaimEnd)
      → RoomIn cells (on_claim cells slot header ending now)
  on_claim_room cells slot header ending (At at) = tt
  on_claim_room cells slot header ending (Over (Claimed cell tag)) = tt
  on_claim_room cells slot header ending (Over NoRoom) = refl

  on_fill_room : (cells : Cells) (slot header cell tag : ℕ) (version : Version) (now : Now FillPoint (Unit {0}))
      → RoomIn cells (on_fill slot header cell tag version now)
  on_fill_room cells slot header cell tag version (At at) = tt
  on_fill_room cells slot header cell tag version (Over done) = tt

  move_room : (place : Place) (cells : Cells) (at : MovePoint) (found : ℕ)
      → RoomIn cells (move_after place cells at found)
  move_room place cells MoveCount found = tt
  move_room place cells (MoveHead slot) found =
      either (RoomIn cells) (is_moved place.form found) (Over move_end.Nothing) (At (MoveEnding slot found)) tt tt
  move_room place cells (MoveEnding slot header) found = tt
  move_room place cells (MoveClaim slot header ending at) found =
      on_claim_room cells slot header ending (claim_after cells at found)
  move_room place cells (MoveWords slot header ending cell tag got) found = tt
  move_room place cells (MoveFill slot header cell tag version at) found =
      on_fill_room cells slot header cell tag version (fill_after place.width at)
  move_room place cells (MoveAgain slot header cell tag) found =
      either (RoomIn cells) (found == header) (At (MoveFull slot header cell tag)) (At (MoveBack header cell tag)) tt tt
  move_room place cells (MoveFull slot header cell tag) found = tt
  move_room place cells (MoveFlag slot header) found = tt
  move_room place cells (MoveBack header cell tag) found = tt

  module _ (keys : List Key) (nth : ℕ) (again retry : Bool) (ops : List Op) where
    abbrev Tidies : ClientState → Type 0
    Tidies client = ClientDoes (ToTidy keys nth again retry) ops client

    on_seek_does : (client : ClientState) (table key : ℕ) (now : Now ℕ FindEnd)
        → Tidies (on_seek shape client table key now)
    on_seek_does client table key (At passed) = tt
    on_seek_does client table key (Over (found_key.At position)) = tt
    on_seek_does client table key (Over found_key.Absent) = tt

    on_move_does : (client : ClientState) (table key position : ℕ) (cells : Cells) (now : Now MovePoint MoveAnswer)
        → cells.bucket < shape.buckets → RoomIn cells now
        → Tidies (on_move shape client table key position cells.bucket now)
    on_move_does client table key position cells (At place) l r = tt
    on_move_does client table key position cells (Over (move_end.Moved stamp)) l r = tt
    on_move_does client table key position cells (Over (move_end.Back stamp)) l r = tt
    on_move_does client table key position cells (Over move_end.Nothing) l r = tt
    on_move_does client table key position cells (Over (move_end.NoRoom bucket)) l r =
        subst (λ b. b < shape.buckets) r l

  module _ (bucket : ℕ) (keys : List Key) (nth : ℕ) (retry : Bool) (ops : List Op) where
    abbrev Collects : ClientState → Type 0
    Collects client = ClientDoes (ToCollect bucket keys nth retry) ops client

    on_snap_does : (client : ClientState) (b : ℕ) (now : Now SnapPoint SnapEnd) → Collects (on_snap shape client b now)
    on_snap_does client b (At place) = tt
    on_snap_does client b (Over (snap_end.Done seen)) = tt
    on_snap_does client b (Over (snap_end.Again worker first second)) = tt

    on_collect_does : (client : ClientState) (b prefix : ℕ) (seen : List ℕ) (now : Now CollectPoint (List ℕ))
        → Collects (on_collect shape client b prefix seen now)
    on_collect_does client b prefix seen (At place) = tt
    on_collect_does client b prefix seen (Over known) = tt

  -- 5. A word is taken

  module _ (limits : FitsLimits shape) (ops : List Op) (client : ClientState) (fits : OpenFits shape client.txn)
      (found : ℕ) where
    abbrev DoesAfter : DriverPoint → CallPoint → Type 0
    DoesAfter place at = CallPointFits shape client.txn at → PlaceRuns place ops client.txn at
        → ClientDoes place ops (call_after shape client at found)

    begin_word : (at : CallPoint) → DoesAfter ToBegin at
    begin_word (Beginning txn nth at) p r = on_begin_does ops client txn nth (snap_after shape.workers at found)
    begin_word _ p r = absurd r

    ask_word : (nth : ℕ) (at : CallPoint) → DoesAfter (ToAsk nth) at
    ask_word nth (InTxn at) p r = take_txn_does ops nth client client.txn at found fits p r.0 r.1
    ask_word nth (Scanning table low high at) p r =
        take_scan_does ops nth limits table low high r.1 client client.txn at found r.0 r.0
    ask_word nth _ p r = absurd r

    tidy_word : (keys : List Key) (nth : ℕ) (again retry : Bool) (at : CallPoint)
        → DoesAfter (ToTidy keys nth again retry) at
    tidy_word keys nth again retry (Seeking table key passed) p r =
        on_seek_does keys nth again retry ops client table key (find_after (path_of shape table key) passed found)
    tidy_word keys nth again retry (Moving table key position at) p r =
        let place = place_of shape table position in
        on_move_does keys nth again retry ops client table key position (cells_by shape place)
        (move_after place (cells_by shape place) at found)
        (bucket_within shape limits table position p.0 p.1) (move_room place (cells_by shape place) at found)
    tidy_word keys nth again retry _ p r = absurd r

    collect_word : (bucket : ℕ) (keys : List Key) (nth : ℕ) (retry : Bool) (at : CallPoint)
        → DoesAfter (ToCollect bucket keys nth retry) at
    collect_word bucket keys nth retry (Snapping b at) p r =
        on_snap_does bucket keys nth retry ops client b (snap_after shape.workers at found)
    collect_word bucket keys nth retry (Collecting b prefix seen at) p r =
        on_collect_does bucket keys nth retry ops client b prefix seen
        (collect_after (cells_of shape b) shape.workers seen at found)
    collect_word bucket keys nth retry _ p r = absurd r

    pub word_does : (place : DriverPoint) (at : CallPoint) → DoesAfter place at
    word_does ToBegin at p r = begin_word at p r
    word_does (ToAsk nth) at p r = ask_word nth at p r
    word_does (ToTidy keys nth again retry) at p r = tidy_word keys nth again retry at p r
    word_does (ToCollect bucket keys nth retry) at p r = collect_word bucket keys nth retry at p r
