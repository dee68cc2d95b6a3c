-- What each word of a client, and each call that it is asked, leaves: no cut is listed, and a snapshot is listed once
-- each entry was read twice.
use Rattle.std.proofs.Common.{◌≡◌, ℕ, ◌+◌, ◌*◌, ◌≤◌, List, [], ◌∷◌, ◌++◌, length, refl, ap}
use Rattle.std.proofs.Common.{subst, ◌∙◌, arith, false, Option, Some, None}
use Rattle.std.proofs.Math.Nat.{mul-suc}
use Rattle.std.proofs.Math.Numerals.{add-one}
use Rattle.std.proofs.lemmas.List.{length_push}
use Rattle.std.specs.Prelude.{◌==◌, slice_index}
use Rattle.std.specs.List.{AllByRecursion}
use Rattle.si_model.specs.declared.log.Event.{Event}
use Rattle.si_model.specs.declared.log.Outcome.{Outcome}
use Rattle.si_model.specs.declared.log.Outcome.TheVariants as outcome
use Rattle.si_model.specs.Tells.{is_cut}
use Rattle.si_model.proofs.ListLemmas.{All-append}
use Rattle.nam_verbs.specs.declared.now.Now.{Now}
use Rattle.nam_verbs.specs.declared.now.Now.TheVariants.{At, Over}
use Rattle.nam_verbs.proofs.TestLemmas.{by_equal}
use Rattle.nam_catalog.specs.declared.shape.Shape.{Shape}
use Rattle.nam_vector.specs.declared.snap.SnapPoint.{SnapPoint}
use Rattle.nam_vector.specs.declared.snap.SnapPoint.TheVariants.{First, Second}
use Rattle.nam_vector.specs.declared.snap.SnapEnd.{SnapEnd}
use Rattle.nam_vector.specs.declared.snap.SnapEnd.TheVariants.{Done, Again}
use Rattle.nam_vector.specs.Snap.{snap_after}
use Rattle.nam_calls.proofs.FallsTests.{either}
use Rattle.nam_protocol.specs.declared.client.Answer.{Answer}
use Rattle.nam_protocol.specs.declared.client.Call.{Call}
use Rattle.nam_protocol.specs.declared.client.Call.TheVariants as call
use Rattle.nam_protocol.specs.declared.client.CallPoint.{CallPoint}
use Rattle.nam_protocol.specs.declared.client.CallPoint.TheVariants.{Beginning, InTxn, Scanning, Seeking, Moving}
use Rattle.nam_protocol.specs.declared.client.CallPoint.TheVariants.{Snapping, Collecting}
use Rattle.nam_protocol.specs.declared.client.ClientState.{ClientState}
use Rattle.nam_protocol.specs.declared.client.Open.{Open}
use Rattle.nam_protocol.specs.declared.scan.ScanPoint.{ScanPoint}
use Rattle.nam_protocol.specs.declared.txn.TxnAnswer.{TxnAnswer}
use Rattle.nam_protocol.specs.declared.txn.TxnAnswer.TheVariants as txn_answer
use Rattle.nam_protocol.specs.declared.txn.TxnCall.{TxnCall}
use Rattle.nam_protocol.specs.declared.txn.TxnPoint.{TxnPoint}
use Rattle.nam_protocol.specs.Client.{after_call, ask_scan, ask_txn, call_after, client_after, client_ask, take_scan}
use Rattle.nam_protocol.specs.Client.{take_txn, with_call}
use Rattle.nam_protocol.specs.Telling.{stepped}
use Rattle.nam_protocol.specs.Txn.{Stepped}
use Rattle.nam_protocol.proofs.GoesClient.{begin_goes, collect_goes, move_goes, on_answer_goes, scan_goes, seek_goes}
use Rattle.nam_protocol.proofs.GoesClient.{outcome_of, snap_goes, step_lists, step_opens, stepped_goes}
use Rattle.nam_protocol.proofs.StaysLemmas.{asked_stays, word_stays}
use Rattle.nam_cuts.specs.Cuts.{tells_cut, TellsNoCut}

-- 1. No answer ends an attempt as cut

abbrev pub TellsOf : Event → Type 0
TellsOf event = tells_cut event ≡ false

pub one_more : (events : List Event) (event : Event) → AllByRecursion TellsOf events → TellsOf event
    → AllByRecursion TellsOf (events ++ event ∷ [])
one_more events event all is = All-append TellsOf events (event ∷ []) all (is, tt)

same_outcome : (this that : Outcome) → Some this ≡ Some that → is_cut this ≡ false
    → is_cut that ≡ false
same_outcome this that e is =
    let same : this ≡ that = cc in subst (λ how. is_cut how ≡ false) same is

uncut_outcome : (attempt : Open) (answer : TxnAnswer) (how : Outcome) → outcome_of attempt answer ≡ Some how
    → is_cut how ≡ false
uncut_outcome attempt (txn_answer.Value value) how e = absurd (cc)
uncut_outcome attempt txn_answer.Written how e = absurd (cc)
uncut_outcome attempt (txn_answer.Added n) how e = absurd (cc)
uncut_outcome attempt txn_answer.Met how e = absurd (cc)
uncut_outcome attempt (txn_answer.Committed number) how e = same_outcome (outcome.Commit number) how e refl
uncut_outcome attempt txn_answer.ReadOnly how e = same_outcome outcome.ReadOnly how e refl
uncut_outcome attempt (txn_answer.TooOld worker entry horizon) how e =
    same_outcome (outcome.TooOld worker entry horizon) how e refl
uncut_outcome attempt (txn_answer.NoSpace table) how e = same_outcome (outcome.NoSpace table) how e refl
uncut_outcome attempt txn_answer.Declined how e = same_outcome (outcome.Declined attempt.ops) how e refl
uncut_outcome attempt txn_answer.Spent how e = same_outcome outcome.Spent how e refl
uncut_outcome attempt (txn_answer.Locked lock) how e = same_outcome (outcome.Locked lock) how e refl
uncut_outcome attempt (txn_answer.Newer lock) how e = same_outcome (outcome.Newer lock) how e refl
uncut_outcome attempt (txn_answer.Full lock) how e = same_outcome (outcome.Full lock) how e refl
uncut_outcome attempt txn_answer.Astray how e = same_outcome outcome.Left how e refl

-- 2. Words and calls list no cut

abbrev NoCut : ClientState → Type 0
NoCut client = TellsNoCut client.log

module _ (shape : Shape) where
  stepped_tells : (client : ClientState) (attempt : Open) (before : ℕ) (step : Stepped) → NoCut client
      → NoCut (stepped client attempt before step)
  stepped_tells client attempt before step h =
      stepped_goes NoCut client attempt before step (λ place e. h)
      (λ end e. on_answer_goes NoCut (step_lists client before step) (step_opens attempt before step) end (λ f. h)
      (λ how f. one_more client.log.events _ h (uncut_outcome (step_opens attempt before step) end how f))
      (λ how f. one_more client.log.events _ h (uncut_outcome (step_opens attempt before step) end how f))
      (λ number f. one_more client.log.events _ h refl))

  take_txn_tells : (client : ClientState) (at : TxnPoint) (opened : Option Open) (found : ℕ) → NoCut client
      → NoCut (take_txn shape client at opened found)
  take_txn_tells client at None found h = h
  take_txn_tells client at (Some attempt) found h = stepped_tells client attempt _ _ h

  take_scan_tells : (client : ClientState) (table low high : ℕ) (at : ScanPoint) (opened : Option Open) (found : ℕ)
      → NoCut client → NoCut (take_scan shape client table low high at opened found)
  take_scan_tells client table low high at None found h = h
  take_scan_tells client table low high at (Some attempt) found h =
      scan_goes NoCut shape client attempt table low high _ _ (λ next e. h) (λ key e. h) (λ rows e. h) (λ rows. h)
      (λ how end e. one_more client.log.events _ h (uncut_outcome attempt end how e))

  call_tells : (client : ClientState) (place : CallPoint) (found : ℕ) → NoCut client
      → NoCut (call_after shape client place found)
  call_tells client (Beginning txn nth at) found h =
      begin_goes NoCut shape client txn nth _ (λ next e. h) (λ seen e. h)
      (λ worker first second e. one_more client.log.events _ h refl)
  call_tells client (InTxn at) found h = take_txn_tells client at client.txn found h
  call_tells client (Scanning table low high at) found h =
      take_scan_tells client table low high at client.txn found h
  call_tells client (Seeking table key passed) found h =
      seek_goes NoCut shape client table key _ (λ next e. h) (λ position e. h) (λ e. h)
  call_tells client (Moving table key position at) found h =
      move_goes NoCut shape client table key position _ _ (λ next e. h)
      (λ stamp e. one_more client.log.events _ h refl) (λ stamp e. one_more client.log.events _ h refl) (λ e. h)
      (λ full e. one_more client.log.events _ h refl)
  call_tells client (Snapping bucket at) found h =
      snap_goes NoCut shape client bucket _ (λ next e. h) (λ seen e. h)
      (λ worker first second e. one_more client.log.events _ h refl)
  call_tells client (Collecting bucket prefix seen at) found h =
      collect_goes NoCut shape client bucket prefix seen _ (λ next e. h)
      (λ known e. one_more client.log.events _ h refl)

  word_tells : (client : ClientState) (found : ℕ) → NoCut client → NoCut (client_after shape client found)
  word_tells client found h = word_at client.call
    where
      word_at : (now : Option (Now CallPoint Answer)) → NoCut (after_call shape client now found)
      word_at None = h
      word_at (Some (At place)) = call_tells client place found h
      word_at (Some (Over end)) = h

  ask_txn_tells : (client : ClientState) (asked : TxnCall) (opened : Option Open) → NoCut client
      → NoCut (ask_txn shape client asked opened)
  ask_txn_tells client asked None h = h
  ask_txn_tells client asked (Some attempt) h = stepped_tells client (with_call attempt asked) 0 _ h

  ask_scan_tells : (client : ClientState) (table low high : ℕ) (opened : Option Open) → NoCut client
      → NoCut (ask_scan shape client table low high opened)
  ask_scan_tells client table low high None h = h
  ask_scan_tells client table low high (Some attempt) h = h

  asked_tells : (client : ClientState) (asked : Call) → NoCut client → NoCut (client_ask shape client asked)
  asked_tells client (call.Begin txn nth) h = h
  asked_tells client (call.Txn asked) h = ask_txn_tells client asked client.txn h
  asked_tells client (call.Scan table low high) h = ask_scan_tells client table low high client.txn h
  asked_tells client (call.Tidy table key) h = h
  asked_tells client (call.Collect bucket) h = h

-- 3. How many verbs the snapshots took

module _ (shape : Shape) where
  -- the verbs of the snapshot that is under way
  abbrev snap_done : SnapPoint → ℕ
  snap_done (First got) = length got
  snap_done (Second seen at) = shape.workers + at

  abbrev under_way : Option (Now CallPoint Answer) → ℕ
  under_way (Some (At (Beginning txn nth at))) = snap_done at
  under_way (Some (At (Snapping bucket at))) = snap_done at
  under_way _ = 0

  -- those of the snapshots that are listed
  abbrev pub listed_spent : ClientState → ℕ
  listed_spent client = 2 * shape.workers * length client.log.snaps

  abbrev pub snaps_spent : ClientState → ℕ
  snaps_spent client = listed_spent client + under_way client.call

  -- a snapshot's word is one of its verbs, and the last is that of the last entry read twice
  abbrev SnapSteps : SnapPoint → Now SnapPoint SnapEnd → Type 0
  SnapSteps at (At next) = snap_done next ≤ snap_done at + 1
  SnapSteps at (Over (Done seen)) = 2 * shape.workers ≤ snap_done at + 1
  SnapSteps at (Over (Again worker first second)) = Unit {0}

  snap_steps : (at : SnapPoint) (found : ℕ) → SnapSteps at (snap_after shape.workers at found)
  snap_steps (First got) found =
      let l = length_push got found in
      by_equal (λ p. snap_done p ≤ length got + 1) (length (got ++ found ∷ [])) shape.workers
      (Second (got ++ found ∷ []) 0) (First (got ++ found ∷ [])) (λ same. omega (arith, l, same))
      (λ other. omega (arith, l))
  snap_steps (Second seen at) found =
      either (SnapSteps (Second seen at)) (found == slice_index seen at) _ (Over (Again (at + 1) _ found))
      (by_equal (SnapSteps (Second seen at)) (at + 1) shape.workers (Over (Done seen)) (At (Second seen (at + 1)))
      (λ same. omega (arith, same)) (λ other. omega arith))
      tt

  one_snap_more : (snaps : List (List ℕ)) (seen : List ℕ)
      → 2 * shape.workers * length (snaps ++ seen ∷ []) ≡ 2 * shape.workers * length snaps + 2 * shape.workers
  one_snap_more snaps seen =
      ap (λ n. 2 * shape.workers * n) (length_push snaps seen ∙ add-one (length snaps))
      ∙ mul-suc (2 * shape.workers) (length snaps)

  module _ (most : ℕ) where
    abbrev Within : ClientState → Type 0
    Within client = snaps_spent client ≤ most

    module _ (client : ClientState) (listed : listed_spent client ≤ most) where
      rests : listed_spent client + 0 ≤ most
      rests = omega (arith, listed)

      stepped_spent : (attempt : Open) (before : ℕ) (step : Stepped) → Within (stepped client attempt before step)
      stepped_spent attempt before step =
          stepped_goes Within client attempt before step (λ place e. rests)
          (λ end e. on_answer_goes (λ c. listed_spent c + 0 ≤ most) (step_lists client before step)
          (step_opens attempt before step) end (λ f. rests) (λ how f. rests) (λ how f. rests) (λ number f. rests))

      take_txn_spent : (at : TxnPoint) (opened : Option Open) (found : ℕ) → Within client
          → Within (take_txn shape client at opened found)
      take_txn_spent at None found w = w
      take_txn_spent at (Some attempt) found w = stepped_spent attempt _ _

      take_scan_spent : (table low high : ℕ) (at : ScanPoint) (opened : Option Open) (found : ℕ) → Within client
          → Within (take_scan shape client table low high at opened found)
      take_scan_spent table low high at None found w = w
      take_scan_spent table low high at (Some attempt) found w =
          scan_goes Within shape client attempt table low high _ _ (λ next e. rests) (λ key e. rests)
          (λ rows e. rests) (λ rows. rests) (λ how end e. rests)

      -- a snapshot goes on, is listed or is taken again
      goes_on : (at next : SnapPoint) (found : ℕ) → listed_spent client + snap_done at + 1 ≤ most
          → snap_after shape.workers at found ≡ At next → listed_spent client + snap_done next ≤ most
      goes_on at next found room e =
          let s : snap_done next ≤ snap_done at + 1 = subst (SnapSteps at) e (snap_steps at found) in
          omega (arith, s, room)

      is_listed : (at : SnapPoint) (seen : List ℕ) (found : ℕ) → listed_spent client + snap_done at + 1 ≤ most
          → snap_after shape.workers at found ≡ Over (Done seen)
          → 2 * shape.workers * length (client.log.snaps ++ seen ∷ []) + 0 ≤ most
      is_listed at seen found room e =
          let s : 2 * shape.workers ≤ snap_done at + 1 = subst (SnapSteps at) e (snap_steps at found) in
          let m = one_snap_more client.log.snaps seen in
          omega (arith, s, m, room)

      call_spent : (place : CallPoint) (found : ℕ) → listed_spent client + under_way (Some (At place)) + 1 ≤ most
          → Within client → Within (call_after shape client place found)
      call_spent (Beginning txn nth at) found room w =
          begin_goes Within shape client txn nth _ (λ next e. goes_on at next found room e)
          (λ seen e. is_listed at seen found room e) (λ worker first second e. rests)
      call_spent (InTxn at) found room w = take_txn_spent at client.txn found w
      call_spent (Scanning table low high at) found room w =
          take_scan_spent table low high at client.txn found w
      call_spent (Seeking table key passed) found room w =
          seek_goes Within shape client table key _ (λ next e. rests) (λ position e. rests) (λ e. rests)
      call_spent (Moving table key position at) found room w =
          move_goes Within shape client table key position _ _ (λ next e. rests) (λ stamp e. rests) (λ stamp e. rests)
          (λ e. rests) (λ full e. rests)
      call_spent (Snapping bucket at) found room w =
          snap_goes Within shape client bucket _ (λ next e. goes_on at next found room e)
          (λ seen e. is_listed at seen found room e) (λ worker first second e. rests)
      call_spent (Collecting bucket prefix seen at) found room w =
          collect_goes Within shape client bucket prefix seen _ (λ next e. rests) (λ known e. rests)

      ask_txn_spent : (asked : TxnCall) (opened : Option Open) → Within client
          → Within (ask_txn shape client asked opened)
      ask_txn_spent asked None w = w
      ask_txn_spent asked (Some attempt) w = stepped_spent (with_call attempt asked) 0 _

      ask_scan_spent : (table low high : ℕ) (opened : Option Open) → Within client
          → Within (ask_scan shape client table low high opened)
      ask_scan_spent table low high None w = w
      ask_scan_spent table low high (Some attempt) w = rests

      ask_spent : (asked : Call) → Within client → Within (client_ask shape client asked)
      ask_spent (call.Begin txn nth) w = rests
      ask_spent (call.Txn asked) w = ask_txn_spent asked client.txn w
      ask_spent (call.Scan table low high) w = ask_scan_spent table low high client.txn w
      ask_spent (call.Tidy table key) w = rests
      ask_spent (call.Collect bucket) w = rests

  word_spent : (client : ClientState) (found : ℕ)
      → snaps_spent (client_after shape client found) ≤ snaps_spent client + 1
  word_spent client found = word_at client.call refl
    where
      word_at : (now : Option (Now CallPoint Answer)) → client.call ≡ now
          → snaps_spent (after_call shape client now found) ≤ snaps_spent client + 1
      word_at None e = omega arith
      word_at (Some (At place)) e =
          let same = ap under_way e in
          call_spent (snaps_spent client + 1) client (omega arith) place found (omega (arith, same)) (omega arith)
      word_at (Some (Over end)) e = omega arith

  asked_spent : (client : ClientState) (asked : Call)
      → snaps_spent (client_ask shape client asked) ≤ snaps_spent client
  asked_spent client asked = ask_spent (snaps_spent client) client (omega arith) asked (omega arith)

  -- 4. Together

  -- from one client to another, with so many verbs between
  pub record ClientGoes (verbs : ℕ) (before after : ClientState) : Type 0 where
    pub cut : after.cut ≡ before.cut
    pub tells : TellsNoCut before.log → TellsNoCut after.log
    pub spent : snaps_spent after ≤ snaps_spent before + verbs

  pub word_goes : (client : ClientState) (found : ℕ) → ClientGoes 1 client (client_after shape client found)
  word_goes client found = record {
    cut = (word_stays shape client found).0;
    tells = word_tells shape client found;
    spent = word_spent client found;
  }

  pub asked_goes : (client : ClientState) (asked : Call) → ClientGoes 0 client (client_ask shape client asked)
  asked_goes client asked = record {
    cut = (asked_stays shape client asked).0;
    tells = asked_tells shape client asked;
    spent = (let l = asked_spent client asked in omega arith);
  }
