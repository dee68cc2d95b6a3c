-- Each word that a client takes, and each call that it is asked, keeps what the client carries, and its answer tells.
use Rattle.std.specs.Prelude.{IsSome, slice_index}
use Rattle.std.proofs.Common.{◌≡◌, ◌≢◌, ℕ, ◌+◌, ◌<◌, true, List, [], Option, Some, None}
use Rattle.std.proofs.Common.{refl, sym, subst, arith}
use Rattle.si_model.specs.declared.log.Lock.{Lock}
use Rattle.si_model.specs.declared.log.Event.{Event}
use Rattle.si_model.specs.declared.op.Op.TheVariants as op
use Rattle.si_model.specs.declared.log.Finish.{Finish}
use Rattle.nam_verbs.specs.declared.now.Now.{Now}
use Rattle.nam_calls.specs.declared.medic.MedicPoint.{MedicPoint}
use Rattle.nam_verbs.specs.declared.now.Now.TheVariants.{At, Over}
use Rattle.nam_verbs.proofs.TestLemmas.{by_equal, by_test}
use Rattle.nam_catalog.specs.declared.shape.Shape.{Shape}
use Rattle.nam_header.specs.Stamp.{is_moved}
use Rattle.nam_layout.specs.declared.field.Cells.{Cells}
use Rattle.nam_layout.specs.declared.field.Place.{Place}
use Rattle.nam_layout.specs.Place.{cells_by, place_of}
use Rattle.nam_vector.specs.declared.snap.SnapEnd.{SnapEnd}
use Rattle.nam_vector.specs.declared.snap.SnapPoint.{SnapPoint}
use Rattle.nam_vector.specs.declared.snap.SnapPoint.TheVariants.{First, Second}
use Rattle.nam_vector.specs.Snap.{snap_after, snap_begin}
use Rattle.nam_vector.specs.declared.snap.SnapEnd.TheVariants as snap_end
use Rattle.nam_calls.specs.declared.horizon.CollectPoint.{CollectPoint}
use Rattle.nam_calls.specs.declared.mover.MoveAnswer.{MoveAnswer}
use Rattle.nam_calls.specs.declared.mover.MovePoint.{MovePoint}
use Rattle.nam_calls.specs.declared.mover.MovePoint.TheVariants.{MoveAgain, MoveBack, MoveClaim, MoveCount, MoveEnding}
use Rattle.nam_calls.specs.declared.mover.MovePoint.TheVariants.{MoveFill, MoveFlag, MoveFull, MoveHead, MoveWords}
use Rattle.nam_calls.specs.Index.{find_begin}
use Rattle.nam_calls.specs.Words.{capacity_of}
use Rattle.nam_calls.specs.Mover.{move_after, move_begin, move_claimed}
use Rattle.nam_calls.specs.declared.mover.MoveAnswer.TheVariants as move_end
use Rattle.nam_protocol.specs.declared.client.Answer.{Answer}
use Rattle.nam_protocol.specs.declared.client.Call.{Call}
use Rattle.nam_protocol.specs.declared.client.CallPoint.{CallPoint}
use Rattle.nam_protocol.specs.declared.client.CallPoint.TheVariants.{Beginning, Collecting, InTxn, Moving, Scanning}
use Rattle.nam_protocol.specs.declared.client.CallPoint.TheVariants.{Seeking, Snapping}
use Rattle.nam_protocol.specs.declared.client.ClientState.{ClientState}
use Rattle.nam_protocol.specs.declared.client.Open.{Open}
use Rattle.nam_protocol.specs.declared.scan.ScanPoint.{ScanPoint}
use Rattle.nam_protocol.specs.declared.scan.ScanPoint.TheVariants.{ScanKey, ScanRead}
use Rattle.nam_protocol.specs.declared.txn.TxnCall.{TxnCall}
use Rattle.nam_protocol.specs.declared.txn.TxnCall.TheVariants.{Add, Commit, Del, Get, Guard, Need, Put}
use Rattle.nam_protocol.specs.declared.txn.TxnPoint.{TxnPoint}
use Rattle.nam_protocol.specs.declared.txn.TxnPoint.TheVariants.{Claiming, Committing, Finding, Reading}
use Rattle.nam_protocol.specs.declared.txn.TxnState.{TxnState}
use Rattle.nam_protocol.specs.AnswersLaw.{AnswerTells, AnswersLaw, AskTells, CarriesLaw, OpenAskTells, ScanTells}
use Rattle.nam_protocol.specs.AnswersLaw.{TxnTells}
use Rattle.nam_protocol.specs.Carries.{AttemptCarries, Carries, CollectCarries, NowCarries, OpenCarries, ScanCarries}
use Rattle.nam_protocol.specs.Carries.{Took}
use Rattle.nam_protocol.specs.Carries.{HeldIn}
use Rattle.nam_protocol.specs.Client.{abandon_open, after_call, ask_scan, ask_txn, call_after, client_abandon}
use Rattle.nam_protocol.specs.Client.{client_after, client_ask, take_scan, take_txn, with_call}
use Rattle.nam_protocol.specs.ClientFits.{CallPointFits, ClientFits, NowFits, OpenCallFits, OpenPointFits}
use Rattle.nam_protocol.specs.CutClient.{client_cut, client_treated}
use Rattle.nam_protocol.specs.Own.{MayAsk, Rests}
use Rattle.nam_protocol.specs.Scan.{position_of}
use Rattle.nam_protocol.specs.Session.{answer_now}
use Rattle.nam_protocol.specs.Telling.{go, new_client}
use Rattle.nam_protocol.specs.TxnFits.{ScanFits}
use Rattle.nam_protocol.proofs.AnswersCommit.{commit_asked, commit_good}
use Rattle.nam_protocol.proofs.AnswersOps.{Good, TakesNone, TellsNow, asked_good, claiming_good, finding_good}
use Rattle.nam_protocol.proofs.AnswersOps.{no_locks, none_took, reading_good}
use Rattle.nam_protocol.proofs.AnswersScan.{after_says, scan_good}
use Rattle.nam_protocol.proofs.GoesClient.{begin_goes, collect_goes, move_goes, seek_goes, snap_goes}
use Rattle.nam_protocol.proofs.GoesParts.{claim_cell_goes, fill_goes}
use Rattle.nam_protocol.specs.declared.client.Answer.TheVariants as answer
use Rattle.nam_protocol.specs.declared.client.Call.TheVariants as call

-- 1. An open transaction beside a call that isn't its

abbrev IsBeside : Option (Now CallPoint Answer) → Type 0
IsBeside (Some (At (InTxn at))) = ⊥
IsBeside _ = Unit {0}

-- it holds no lock
none_beside : (now : Option (Now CallPoint Answer)) → IsBeside now → (held : List ℕ) → HeldIn now held → held ≡ []
none_beside None is held h = h
none_beside (Some (Over end)) is held h = h
none_beside (Some (At (InTxn at))) is held h = absurd is
none_beside (Some (At (Beginning txn nth at))) is held h = h
none_beside (Some (At (Scanning table low high at))) is held h = h
none_beside (Some (At (Seeking table key passed))) is held h = h
none_beside (Some (At (Moving table key position at))) is held h = h
none_beside (Some (At (Snapping bucket at))) is held h = h
none_beside (Some (At (Collecting bucket prefix seen at))) is held h = h

held_beside : (now : Option (Now CallPoint Answer)) → IsBeside now → (held : List ℕ) → held ≡ [] → HeldIn now held
held_beside None is held h = h
held_beside (Some (Over end)) is held h = h
held_beside (Some (At (InTxn at))) is held h = absurd is
held_beside (Some (At (Beginning txn nth at))) is held h = h
held_beside (Some (At (Scanning table low high at))) is held h = h
held_beside (Some (At (Seeking table key passed))) is held h = h
held_beside (Some (At (Moving table key position at))) is held h = h
held_beside (Some (At (Snapping bucket at))) is held h = h
held_beside (Some (At (Collecting bucket prefix seen at))) is held h = h

beside_now : (now : Option (Now CallPoint Answer)) → IsBeside now → (s : TxnState) → NowCarries s now
beside_now None is s = tt
beside_now (Some (Over end)) is s = tt
beside_now (Some (At (InTxn at))) is s = absurd is
beside_now (Some (At (Beginning txn nth at))) is s = tt
beside_now (Some (At (Scanning table low high at))) is s = tt
beside_now (Some (At (Seeking table key passed))) is s = tt
beside_now (Some (At (Moving table key position at))) is s = tt
beside_now (Some (At (Snapping bucket at))) is s = tt
beside_now (Some (At (Collecting bucket prefix seen at))) is s = tt

rests_beside : (now : Option (Now CallPoint Answer)) → Rests now → IsBeside now
rests_beside None rests = tt
rests_beside (Some (Over end)) rests = tt
rests_beside (Some (At place)) rests = absurd rests

beside : (last : ℕ) (locks : List Lock) (now later : Option (Now CallPoint Answer)) → IsBeside now → IsBeside later
    → (opened : Option Open) → OpenCarries last locks now opened → OpenCarries last locks later opened
beside last locks now later is stays None carries = tt
beside last locks now later is stays (Some attempt) carries = record {
  last_is = carries.last_is;
  took = carries.took;
  held = held_beside later stays attempt.state.held (none_beside now is attempt.state.held carries.held);
  point = beside_now later stays attempt.state;
}

takes_none_at : (client : ClientState) (attempt : Open) → attempt.state.last ≡ client.last
    → Took client.log.locks attempt → attempt.state.held ≡ [] → TakesNone client attempt
takes_none_at client attempt last took none =
    record { last_is = last; locks = no_locks client.log.locks attempt took none; held = none }

takes_none : (client : ClientState) (attempt : Open) (now : Option (Now CallPoint Answer)) → IsBeside now
    → AttemptCarries client.last client.log.locks now attempt → TakesNone client attempt
takes_none client attempt now is carries =
    takes_none_at client attempt carries.last_is carries.took
    (none_beside now is attempt.state.held carries.held)

-- 2. What words of a snapshot and of a move say

abbrev Differs : ℕ → Now SnapPoint SnapEnd → Type 0
Differs word (Over (snap_end.Again worker first second)) = (second ≡ word) × (first ≢ second)
Differs word _ = Unit {0}

snap_differs : (workers : ℕ) (at : SnapPoint) (word : ℕ) → Differs word (snap_after workers at word)
snap_differs workers (First got) word = tt
snap_differs workers (Second seen at) word =
    by_equal (Differs word) word (slice_index seen at) _ _
    (λ e. by_equal (Differs word) (at + 1) workers _ _ (λ f. tt) (λ f. tt)) (λ differ. (refl, λ e. differ (sym e)))

differs_in : (workers : ℕ) (at : SnapPoint) (word worker first second : ℕ)
    → snap_after workers at word ≡ Over (snap_end.Again worker first second) → (second ≡ word) × (first ≢ second)
differs_in workers at word worker first second e = subst (Differs word) e (snap_differs workers at word)

module _ (place : Place) (cells : Cells) (at : MovePoint) (word : ℕ) where
  abbrev MoveSays : Now MovePoint MoveAnswer → Type 0
  MoveSays (Over (move_end.Moved stamp)) = move_claimed place at ≡ Some stamp
  MoveSays (Over (move_end.Back stamp)) = move_claimed place at ≡ Some stamp
  MoveSays (Over move_end.Nothing) = is_moved place.form word ≡ true
  MoveSays (Over (move_end.NoRoom bucket)) = bucket ≡ cells.bucket
  MoveSays _ = Unit {0}

move_says : (place : Place) (cells : Cells) (at : MovePoint) (word : ℕ)
    → MoveSays place cells at word (move_after place cells at word)
move_says place cells MoveCount word = tt
move_says place cells (MoveHead slot) word =
    by_test (MoveSays place cells (MoveHead slot) word) (is_moved place.form word) _ _ (λ e. e) (λ e. tt)
move_says place cells (MoveEnding slot header) word = tt
move_says place cells (MoveClaim slot header ending at) word =
    claim_cell_goes (MoveSays place cells (MoveClaim slot header ending at) word) cells slot header ending _
    (λ next e. tt) (λ cell tag e. tt) (λ e. refl)
move_says place cells (MoveWords slot header ending cell tag got) word = tt
move_says place cells (MoveFill slot header cell tag version at) word =
    fill_goes (MoveSays place cells (MoveFill slot header cell tag version at) word) slot header cell tag version _
    (λ next e. tt) (λ e. tt)
move_says place cells (MoveAgain slot header cell tag) word =
    by_equal (MoveSays place cells (MoveAgain slot header cell tag) word) word header _ _ (λ e. tt) (λ e. tt)
move_says place cells (MoveFull slot header cell tag) word = tt
move_says place cells (MoveFlag slot header) word = refl
move_says place cells (MoveBack header cell tag) word = refl

module _ (shape : Shape) (word : ℕ) where
  abbrev GoodAt : ClientState → CallPoint → ClientState → Type 0
  GoodAt before place after = Good (λ later end. AnswerTells shape word before later place end) after

  -- 3. A word of a call beside a transaction

  module _ (client : ClientState) where
    -- it goes on, or is answered and listed or not; the transaction, if one is open, is the same
    stays : (place : CallPoint) (events : List Event) (later : Option (Now CallPoint Answer))
        → IsBeside (Some (At place)) → IsBeside later → ScanCarries client.scanned later
        → CollectCarries client.start client.log.snaps later
        → Carries (go client place)
        → Carries (record client { log = record client.log { events = events }; call = later })
    stays place events later is next scanned collected carries = record {
      opened = beside client.last client.log.locks (Some (At place)) later is next client.txn carries.opened;
      scanned = scanned;
      collected = collected;
    }

    begin_good : (txn nth : ℕ) (at : SnapPoint) → let place = Beginning txn nth at in Carries (go client place)
        → GoodAt (go client place) place (call_after shape (go client place) place word)
    begin_good txn nth at carries =
        let place = Beginning txn nth at in
        begin_goes (GoodAt (go client place) place) shape (go client place) txn nth _
        (λ next e. (stays place client.log.events (Some (At (Beginning txn nth next))) tt tt tt tt carries, tt))
        (λ seen e. (
          record {
            opened = record {
              last_is = refl;
              took = none_took _ _ refl refl;
              held = refl;
              point = tt;
            };
            scanned = tt;
            collected = tt;
          },
          record { seen = seen; snapshot = e; prefix_is = refl; log = refl; opened = refl },
        ))
        (λ worker first second e. let d = differs_in shape.workers at word worker first second e in (
          stays place _ (Some (Over (answer.Again worker first second))) tt tt tt tt carries,
          (record { again = e; second_is = d.0; differ = d.1 }, refl),
        ))

    seek_good : (table key passed : ℕ) → let place = Seeking table key passed in Carries (go client place)
        → GoodAt (go client place) place (call_after shape (go client place) place word)
    seek_good table key passed carries =
        let place = Seeking table key passed in
        seek_goes (GoodAt (go client place) place) shape (go client place) table key _
        (λ next e. (stays place client.log.events (Some (At (Seeking table key next))) tt tt tt tt carries, tt))
        (λ position e.
        (stays place client.log.events (Some (At (Moving table key position move_begin))) tt tt tt tt carries, tt))
        (λ e. (stays place client.log.events (Some (Over answer.Nothing)) tt tt tt tt carries, (e, refl)))

    move_good : (table key position : ℕ) (at : MovePoint)
        → let place = Moving table key position at in Carries (go client place)
        → GoodAt (go client place) place (call_after shape (go client place) place word)
    move_good table key position at carries =
        let place = Moving table key position at in
        let there = place_of shape table position in
        let Says = MoveSays there (cells_by shape there) at word in
        let says = move_says there (cells_by shape there) at word in
        move_goes (GoodAt (go client place) place) shape (go client place) table key position _ _
        (λ next e. (stays place client.log.events (Some (At (Moving table key position next))) tt tt tt tt carries, tt))
        (λ stamp e. (
          stays place _ (Some (Over answer.Moved)) tt tt tt tt carries,
          record { stamp = stamp; claimed = subst Says e says; log = refl },
        ))
        (λ stamp e. (
          stays place _ (Some (Over answer.Back)) tt tt tt tt carries,
          record { stamp = stamp; claimed = subst Says e says; log = refl },
        ))
        (λ e. (
          stays place client.log.events (Some (Over answer.Nothing)) tt tt tt tt carries,
          (subst Says e says, refl),
        ))
        (λ full e. (
          stays place _ (Some (Over (answer.NoRoom full))) tt tt tt tt carries,
          (subst Says e says, refl),
        ))

    snap_good : (bucket : ℕ) (at : SnapPoint) → let place = Snapping bucket at in Carries (go client place)
        → GoodAt (go client place) place (call_after shape (go client place) place word)
    snap_good bucket at carries =
        let place = Snapping bucket at in
        snap_goes (GoodAt (go client place) place) shape (go client place) bucket _
        (λ next e. (stays place client.log.events (Some (At (Snapping bucket next))) tt tt tt tt carries, tt))
        (λ seen e. (
          record {
            opened = beside client.last client.log.locks (Some (At place)) _ tt tt client.txn carries.opened;
            scanned = tt;
            collected = (refl, (client.log.snaps, refl));
          },
          tt,
        ))
        (λ worker first second e. let d = differs_in shape.workers at word worker first second e in (
          stays place _ (Some (Over (answer.Again worker first second))) tt tt tt tt carries,
          (record { again = e; second_is = d.0; differ = d.1 }, refl),
        ))

    collect_good : (bucket prefix : ℕ) (seen : List ℕ) (at : CollectPoint)
        → let place = Collecting bucket prefix seen at in Carries (go client place)
        → GoodAt (go client place) place (call_after shape (go client place) place word)
    collect_good bucket prefix seen at carries =
        let place = Collecting bucket prefix seen at in
        collect_goes (GoodAt (go client place) place) shape (go client place) bucket prefix seen _
        (λ next e. (
          stays place client.log.events (Some (At (Collecting bucket prefix seen next))) tt tt tt
              carries.collected carries,
          tt,
        ))
        (λ known e. (
          stays place _ (Some (Over (answer.Collected known))) tt tt tt tt carries,
          record {
            prefix_is = carries.collected.0;
            earlier = carries.collected.1.0;
            snaps = carries.collected.1.1;
            log = refl;
          },
        ))

  -- 4. A word of a transaction's call

  txn_good : (client : ClientState) (at : TxnPoint) (opened : Option Open)
      → let c = record client { call = Some (At (InTxn at)); txn = opened } in
      Carries c → OpenPointFits shape opened at
      → Good (λ (after : ClientState) (end : Answer). TxnTells shape word c after opened at end)
      (take_txn shape c at opened word)
  txn_good client at None carries fits = absurd fits
  txn_good client (Finding op passed) (Some attempt) carries fits =
      let c = record client { call = Some (At (InTxn (Finding op passed))); txn = Some attempt } in
      let Tells = λ (after : ClientState) (end : Answer).
      TxnTells shape word c after (Some attempt) (Finding op passed) end in
      let o = carries.opened in
      finding_good shape c attempt (takes_none_at c attempt o.last_is o.took o.held) Tells op
      fits.0.1 passed word (λ after end told. told)
  txn_good client (Reading op position at) (Some attempt) carries fits =
      let c = record client { call = Some (At (InTxn (Reading op position at))); txn = Some attempt } in
      let Tells = λ (after : ClientState) (end : Answer).
      TxnTells shape word c after (Some attempt) (Reading op position at) end in
      let o = carries.opened in
      reading_good shape c attempt (takes_none_at c attempt o.last_is o.took o.held) Tells op
      fits.0.1 position at word (λ after end told. told)
  txn_good client (Claiming op at) (Some attempt) carries fits =
      let c = record client { call = Some (At (InTxn (Claiming op at))); txn = Some attempt } in
      let Tells = λ (after : ClientState) (end : Answer).
      TxnTells shape word c after (Some attempt) (Claiming op at) end in
      let o = carries.opened in
      claiming_good shape c attempt (takes_none_at c attempt o.last_is o.took o.held) Tells op
      fits.0.1 at word o.point (λ after end told. told)
  txn_good client (Committing at) (Some attempt) carries fits =
      let c = record client { call = Some (At (InTxn (Committing at))); txn = Some attempt } in
      let Tells = λ (after : ClientState) (end : Answer).
      TxnTells shape word c after (Some attempt) (Committing at) end in
      let o = carries.opened in
      commit_good shape c attempt word Tells at record {
        last_is = o.last_is;
        took = o.took;
        carries = o.point;
        fits = fits;
        tells = λ after end told. told;
      }

  scan_within : (table : ℕ) (at : ScanPoint) → ScanFits shape table at → position_of at < capacity_of shape table
  scan_within table (ScanKey position) fits = fits
  scan_within table (ScanRead position key at) fits = fits.0

  scan_word_good : (client : ClientState) (table low high : ℕ) (at : ScanPoint) (opened : Option Open)
      → let c = record client { call = Some (At (Scanning table low high at)); txn = opened } in
      Carries c → IsSome opened → ScanFits shape table at
      → Good (λ after end. ScanTells shape word c after opened table low high end)
      (take_scan shape c table low high at opened word)
  scan_word_good client table low high at None carries some fits = absurd (cc)
  scan_word_good client table low high at (Some attempt) carries some fits =
      let c = record client { call = Some (At (Scanning table low high at)); txn = Some attempt } in
      let o = carries.opened in
      scan_good shape attempt table low high word c c refl
      (takes_none_at c attempt o.last_is o.took o.held) carries.scanned.0 (position_of at)
      carries.scanned.2 (scan_within table at fits) _
      (after_says shape table low high attempt.state.seen word at carries.scanned.1)

  -- 5. Any word

  word_good : (client : ClientState) (place : CallPoint) → Carries (go client place)
      → CallPointFits shape client.txn place
      → GoodAt (go client place) place (call_after shape (go client place) place word)
  word_good client (Beginning txn nth at) carries fits = begin_good client txn nth at carries
  word_good client (InTxn at) carries fits = txn_good client at client.txn carries fits
  word_good client (Scanning table low high at) carries fits =
      scan_word_good client table low high at client.txn carries fits.0 fits.2
  word_good client (Seeking table key passed) carries fits = seek_good client table key passed carries
  word_good client (Moving table key position at) carries fits = move_good client table key position at carries
  word_good client (Snapping bucket at) carries fits = snap_good client bucket at carries
  word_good client (Collecting bucket prefix seen at) carries fits =
      collect_good client bucket prefix seen at carries

-- 6. A call is asked

module _ (shape : Shape) where
  -- a call beside a transaction begins
  begins : (client : ClientState) (place : CallPoint) → Rests client.call → IsBeside (Some (At place))
      → ScanCarries client.scanned (Some (At place))
      → CollectCarries client.start client.log.snaps (Some (At place)) → Carries client → Carries (go client place)
  begins client place rests is scanned collected carries = record {
    opened =
        beside client.last client.log.locks client.call (Some (At place)) (rests_beside client.call rests) is client.txn
        carries.opened;
    scanned = scanned;
    collected = collected;
  }

  txn_asked : (client : ClientState) (asked : TxnCall) (opened : Option Open) → Rests client.call
      → OpenCarries client.last client.log.locks client.call opened → OpenCallFits shape opened asked
      → Good (λ after end. OpenAskTells shape client after asked opened end) (ask_txn shape client asked opened)
  txn_asked client asked None rests carries fits = absurd fits
  txn_asked client (Get t k) (Some attempt) rests carries fits =
      let rest = takes_none client attempt client.call (rests_beside client.call rests) carries in
      asked_good shape client (with_call attempt (Get t k))
      record { last_is = rest.last_is; locks = rest.locks; held = rest.held }
      (λ after end. OpenAskTells shape client after (Get t k) (Some attempt) end) (op.Get t k) refl
      (λ writes after end told. (writes, told))
  txn_asked client (Put t k v) (Some attempt) rests carries fits =
      let rest = takes_none client attempt client.call (rests_beside client.call rests) carries in
      asked_good shape client (with_call attempt (Put t k v))
      record { last_is = rest.last_is; locks = rest.locks; held = rest.held }
      (λ after end. OpenAskTells shape client after (Put t k v) (Some attempt) end) (op.Put t k v) refl
      (λ writes after end told. (writes, told))
  txn_asked client (Add t k f up by) (Some attempt) rests carries fits =
      let rest = takes_none client attempt client.call (rests_beside client.call rests) carries in
      asked_good shape client (with_call attempt (Add t k f up by))
      record { last_is = rest.last_is; locks = rest.locks; held = rest.held }
      (λ after end. OpenAskTells shape client after (Add t k f up by) (Some attempt) end) (op.Add t k f up by) refl
      (λ writes after end told. (writes, told))
  txn_asked client (Del t k) (Some attempt) rests carries fits =
      let rest = takes_none client attempt client.call (rests_beside client.call rests) carries in
      asked_good shape client (with_call attempt (Del t k))
      record { last_is = rest.last_is; locks = rest.locks; held = rest.held }
      (λ after end. OpenAskTells shape client after (Del t k) (Some attempt) end) (op.Del t k) refl
      (λ writes after end told. (writes, told))
  txn_asked client (Need t k f least) (Some attempt) rests carries fits =
      let rest = takes_none client attempt client.call (rests_beside client.call rests) carries in
      asked_good shape client (with_call attempt (Need t k f least))
      record { last_is = rest.last_is; locks = rest.locks; held = rest.held }
      (λ after end. OpenAskTells shape client after (Need t k f least) (Some attempt) end) (op.Need t k f least) refl
      (λ writes after end told. (writes, told))
  txn_asked client (Guard t k) (Some attempt) rests carries fits =
      let rest = takes_none client attempt client.call (rests_beside client.call rests) carries in
      asked_good shape client (with_call attempt (Guard t k))
      record { last_is = rest.last_is; locks = rest.locks; held = rest.held }
      (λ after end. OpenAskTells shape client after (Guard t k) (Some attempt) end) (op.Guard t k) refl
      (λ writes after end told. (writes, told))
  txn_asked client Commit (Some attempt) rests carries fits =
      let rest = takes_none client attempt client.call (rests_beside client.call rests) carries in
      commit_asked shape client attempt 0 (λ after end. OpenAskTells shape client after Commit (Some attempt) end)
      rest (λ after end told. told)

  scan_asked : (client : ClientState) (table low high : ℕ) (opened : Option Open) → Rests client.call
      → OpenCarries client.last client.log.locks client.call opened → IsSome opened
      → Good (λ after end. ⊥) (ask_scan shape client table low high opened)
  scan_asked client table low high None rests carries some = absurd (cc)
  scan_asked client table low high (Some attempt) rests carries some =
      let rest = takes_none client attempt client.call (rests_beside client.call rests) carries in (
        record {
          opened = record {
            last_is = rest.last_is;
            took = none_took _ _ rest.held rest.locks;
            held = rest.held;
            point = tt;
          };
          scanned = (tt, tt, omega arith);
          collected = tt;
        },
        tt,
      )

  ask_good : (client : ClientState) (asked : Call) → MayAsk shape client asked → Carries client
      → Good (λ after end. AskTells shape client after asked end) (client_ask shape client asked)
  ask_good client (call.Begin txn nth) may carries =
      (begins client (Beginning txn nth snap_begin) may.rests tt tt tt carries, tt)
  ask_good client (call.Txn asked) may carries =
      txn_asked client asked client.txn may.rests carries.opened may.fits
  ask_good client (call.Scan table low high) may carries =
      scan_asked client table low high client.txn may.rests carries.opened may.fits.0
  ask_good client (call.Tidy table key) may carries =
      (begins client (Seeking table key find_begin) may.rests tt tt tt carries, tt)
  ask_good client (call.Collect bucket) may carries =
      (begins client (Snapping bucket snap_begin) may.rests tt tt tt carries, tt)

-- 7. The laws

module _ (shape : Shape) where
  -- a client at rest takes no word
  pub word_carries : (client : ClientState) (found : ℕ) → ClientFits shape client → Carries client
      → Carries (client_after shape client found)
  word_carries client found fits carries = carries_at client.call fits.2 carries
    where
      carries_at : (now : Option (Now CallPoint Answer)) → NowFits shape client.txn now
          → Carries (record client { call = now }) → Carries (after_call shape (record client { call = now }) now found)
      carries_at None fits carries = carries
      carries_at (Some (Over end)) fits carries = carries
      carries_at (Some (At place)) fits carries = (word_good shape found client place carries fits).0

  pub asked_carries : (client : ClientState) (asked : Call) → MayAsk shape client asked → Carries client
      → Carries (client_ask shape client asked)
  asked_carries client asked may carries = (ask_good shape client asked may carries).0

pub abandoned_carries : (client : ClientState) → Carries client → Carries (client_abandon client)
abandoned_carries client carries = abandoned client.txn
  where
    abandoned : (opened : Option Open) → Carries (abandon_open client opened)
    abandoned None = carries
    abandoned (Some attempt) = record { opened = tt; scanned = carries.scanned; collected = carries.collected }

pub cut_carries : (client : ClientState) → Carries client → Carries (client_cut client)
cut_carries client carries =
    record { opened = carries.opened; scanned = carries.scanned; collected = carries.collected }

pub treated_carries : (client : ClientState) (medic : Now MedicPoint Finish) → Carries client
    → Carries (client_treated client medic)
treated_carries client medic carries =
    record { opened = carries.opened; scanned = carries.scanned; collected = carries.collected }

pub new_carries : (worker start : ℕ) → Carries (new_client worker start)
new_carries worker start = record { opened = tt; scanned = tt; collected = tt }

pub carries_kept : CarriesLaw
carries_kept shape = record {
  new = new_carries;
  word = word_carries shape;
  asked = asked_carries shape;
  abandoned = abandoned_carries;
  cut = cut_carries;
}

-- what is told where it is answered is told of the answer
told_now : (Tells : Answer → Type 0) (now : Option (Now CallPoint Answer)) (end : Answer) → TellsNow Tells now
    → answer_now now ≡ Some end → Tells end
told_now Tells None end told e = absurd (cc)
told_now Tells (Some (At place)) end told e = absurd (cc)
told_now Tells (Some (Over other)) end told e = subst Tells (some_is e) told
  where
    some_is : Some other ≡ Some end → other ≡ end
    some_is f = cc

pub answers_tell : AnswersLaw
answers_tell shape = record {
  word = λ client place found end fits carries e ends.
      told_now (AnswerTells shape found client (client_after shape client found) place)
      (client_after shape client found).call end
      (subst (λ (now : Option (Now CallPoint Answer)).
      let c = record client { call = now } in
      NowFits shape client.txn now → Carries c
      → TellsNow (AnswerTells shape found c (after_call shape c now found) place) (after_call shape c now found).call)
      (sym e) (λ fit carry. (word_good shape found client place carry fit).1) fits.2 carries)
      ends;
  asked = λ client asked end may carries ends.
      told_now (AskTells shape client (client_ask shape client asked) asked) (client_ask shape client asked).call end
      (ask_good shape client asked may carries).1 ends;
}
