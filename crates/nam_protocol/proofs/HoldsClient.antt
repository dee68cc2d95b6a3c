-- What a client may still write is below 2^64 after each word below 2^64, and after each call that is asked.
use Rattle.std.proofs.Common.{List, None, Option, Some, subst, ℕ, ◌≤◌}
use Rattle.nam_verbs.specs.declared.now.Now.{Now}
use Rattle.nam_verbs.specs.declared.now.Now.TheVariants.{At, Over}
use Rattle.nam_verbs.specs.Falls.{Any}
use Rattle.nam_catalog.specs.declared.shape.Shape.{Shape}
use Rattle.nam_catalog.specs.Greatest.{greatest_number}
use Rattle.nam_layout.specs.Place.{cells_by, cells_of, place_of}
use Rattle.nam_vector.specs.declared.snap.SnapEnd.{SnapEnd}
use Rattle.nam_vector.specs.declared.snap.SnapPoint.{SnapPoint}
use Rattle.nam_calls.specs.declared.horizon.CollectPoint.{CollectPoint}
use Rattle.nam_calls.specs.declared.index.FindEnd.{FindEnd}
use Rattle.nam_calls.specs.declared.mover.MoveAnswer.{MoveAnswer}
use Rattle.nam_calls.specs.declared.mover.MovePoint.{MovePoint}
use Rattle.nam_calls.specs.Holds.{AreWords, CollectHolds, MoveHolds, SnapEndHolds, SnapHolds, IsWord, HoldsNow}
use Rattle.nam_calls.proofs.HoldsCalls.{collect_holds, move_holds, snap_holds}
use Rattle.nam_protocol.specs.declared.client.Answer.{Answer}
use Rattle.nam_protocol.specs.declared.client.Call.{Call}
use Rattle.nam_protocol.specs.declared.client.CallPoint.{CallPoint}
use Rattle.nam_protocol.specs.declared.client.CallPoint.TheVariants.{Beginning, InTxn, Scanning, Seeking, Moving}
use Rattle.nam_protocol.specs.declared.client.CallPoint.TheVariants.{Snapping, Collecting}
use Rattle.nam_protocol.specs.declared.client.ClientState.{ClientState}
use Rattle.nam_protocol.specs.declared.client.Open.{Open}
use Rattle.nam_protocol.specs.declared.scan.ScanPoint.{ScanPoint}
use Rattle.nam_protocol.specs.declared.txn.TxnAnswer.{TxnAnswer}
use Rattle.nam_protocol.specs.declared.txn.TxnCall.{TxnCall}
use Rattle.nam_protocol.specs.declared.txn.TxnPoint.{TxnPoint}
use Rattle.nam_protocol.specs.Client.{abandon_open, after_call, ask_scan, ask_txn, call_after, client_after, client_ask}
use Rattle.nam_protocol.specs.Client.{with_call, take_scan, take_txn, on_begin, on_move, on_snap, on_seek, on_collect}
use Rattle.nam_protocol.specs.CutClient.{client_cut}
use Rattle.nam_protocol.specs.HoldsWords.{CallHolds, CallPlaceHolds, OpenHolds, OpenPlaceHolds, RunHolds, StateHolds}
use Rattle.nam_protocol.specs.HoldsWords.{HoldsWords, StepHolds, TxnCallHolds, TxnPlaceHolds}
use Rattle.nam_protocol.specs.Telling.{with_answer, stepped, on_answer}
use Rattle.nam_protocol.specs.Txn.{Stepped}
use Rattle.nam_protocol.specs.TxnFits.{AnswerFits}
use Rattle.nam_protocol.specs.WordsLaw.{ClientKeepsWords}
use Rattle.nam_protocol.proofs.GoesClient.{begin_goes, seek_goes, move_goes, snap_goes, collect_goes, scan_goes}
use Rattle.nam_protocol.proofs.GoesClient.{on_answer_goes, step_lists, step_opens, stepped_goes}
use Rattle.nam_protocol.proofs.HoldsTxn.{txn_ask_holds, txn_holds}
use Rattle.nam_protocol.specs.declared.client.Answer.TheVariants as client_answer
use Rattle.nam_protocol.specs.declared.client.Call.TheVariants as call

module _ (shape : Shape) where
  abbrev Holds : ClientState → Type 0
  Holds = HoldsWords shape

  -- 1. A transaction has stepped

  answered_holds : (client : ClientState) (attempt : Open) (answer : TxnAnswer)
      → client.last ≤ greatest_number shape.form → StateHolds shape.form attempt.state
      → AnswerFits shape.form answer
      → Holds (with_answer (on_answer client attempt answer) (client_answer.Txn answer))
  answered_holds client attempt answer last state ends =
      on_answer_goes (λ c. Holds (with_answer c (client_answer.Txn answer))) client attempt answer
      (λ e. record {
        last_is = last;
        opened = record { last_is = state.last_is; written = state.written; found = tt; headers = state.headers; counted = state.counted };
        running = tt;
      })
      (λ outcome e. record { last_is = last; opened = tt; running = tt })
      (λ outcome e. record { last_is = last; opened = tt; running = tt })
      (λ number e. record { last_is = subst (AnswerFits shape.form) e ends; opened = tt; running = tt })

  pub stepped_holds : (client : ClientState) (attempt : Open) (before : ℕ) (step : Stepped)
      → client.last ≤ greatest_number shape.form → StepHolds shape.form step
      → Holds (stepped client attempt before step)
  stepped_holds client attempt before step last h =
      stepped_goes Holds client attempt before step
      (λ place e. record {
        last_is = last;
        opened = h.0;
        running = subst (HoldsNow (TxnPlaceHolds shape.form step.state) (AnswerFits shape.form)) e h.1;
      })
      (λ answer e. answered_holds (step_lists client before step) (step_opens attempt before step) answer last h.0
      (subst (HoldsNow (TxnPlaceHolds shape.form step.state) (AnswerFits shape.form)) e h.1))

  -- 2. A word is taken

  take_txn_holds : (client : ClientState) (at : TxnPoint) (opened : Option Open) (found : ℕ) → Holds client
      → OpenHolds shape.form opened → OpenPlaceHolds shape.form opened at → IsWord found
      → Holds (take_txn shape client at opened found)
  take_txn_holds client at None found h o p is = h
  take_txn_holds client at (Some attempt) found h o p is =
      stepped_holds client attempt _ _ h.last_is (txn_holds shape attempt.state o at found p is)

  take_scan_holds : (client : ClientState) (table low high : ℕ) (at : ScanPoint) (opened : Option Open) (found : ℕ)
      → Holds client → OpenHolds shape.form opened → Holds (take_scan shape client table low high at opened found)
  take_scan_holds client table low high at None found h o = h
  take_scan_holds client table low high at (Some attempt) found h o =
      scan_goes Holds shape client attempt table low high _ _
      (λ next e. record { last_is = h.last_is; opened = h.opened; running = tt })
      (λ key e. record { last_is = h.last_is; opened = h.opened; running = tt })
      (λ rows e. record { last_is = h.last_is; opened = h.opened; running = tt })
      (λ rows. record { last_is = h.last_is; opened = o; running = tt })
      (λ outcome end e. record { last_is = h.last_is; opened = tt; running = tt })

  module _ (client : ClientState) (h : Holds client) where
    begin_holds : (txn nth : ℕ) (now : Now SnapPoint SnapEnd) → Holds (on_begin shape client txn nth now)
    begin_holds txn nth now =
        begin_goes Holds shape client txn nth now
        (λ next e. record { last_is = h.last_is; opened = h.opened; running = tt })
        (λ seen e. record {
          last_is = h.last_is;
          opened = record { last_is = h.last_is; written = tt; found = tt; headers = tt; counted = tt };
          running = tt;
        })
        (λ worker first second e. record { last_is = h.last_is; opened = h.opened; running = tt })

    seek_holds : (table key : ℕ) (now : Now ℕ FindEnd) → Holds (on_seek shape client table key now)
    seek_holds table key now =
        seek_goes Holds shape client table key now
        (λ next e. record { last_is = h.last_is; opened = h.opened; running = tt })
        (λ position e. record { last_is = h.last_is; opened = h.opened; running = tt })
        (λ e. record { last_is = h.last_is; opened = h.opened; running = tt })

    on_move_holds : (table key position bucket : ℕ) (now : Now MovePoint MoveAnswer) → HoldsNow MoveHolds Any now
        → Holds (on_move shape client table key position bucket now)
    on_move_holds table key position bucket now n =
        move_goes Holds shape client table key position bucket now
        (λ next e. record { last_is = h.last_is; opened = h.opened; running = subst (HoldsNow MoveHolds Any) e n })
        (λ stamp e. record { last_is = h.last_is; opened = h.opened; running = tt })
        (λ stamp e. record { last_is = h.last_is; opened = h.opened; running = tt })
        (λ e. record { last_is = h.last_is; opened = h.opened; running = tt })
        (λ full e. record { last_is = h.last_is; opened = h.opened; running = tt })

    on_snap_holds : (bucket : ℕ) (now : Now SnapPoint SnapEnd) → HoldsNow SnapHolds SnapEndHolds now
        → Holds (on_snap shape client bucket now)
    on_snap_holds bucket now n =
        snap_goes Holds shape client bucket now
        (λ next e. record {
          last_is = h.last_is;
          opened = h.opened;
          running = subst (HoldsNow SnapHolds SnapEndHolds) e n;
        })
        (λ seen e. record {
          last_is = h.last_is;
          opened = h.opened;
          running = (subst (HoldsNow SnapHolds SnapEndHolds) e n, tt);
        })
        (λ worker first second e. record { last_is = h.last_is; opened = h.opened; running = tt })

    on_collect_holds : (bucket prefix : ℕ) (seen : List ℕ) (now : Now CollectPoint (List ℕ)) → AreWords seen
        → HoldsNow CollectHolds Any now → Holds (on_collect shape client bucket prefix seen now)
    on_collect_holds bucket prefix seen now s n =
        collect_goes Holds shape client bucket prefix seen now
        (λ next e. record {
          last_is = h.last_is;
          opened = h.opened;
          running = (s, subst (HoldsNow CollectHolds Any) e n);
        })
        (λ known e. record { last_is = h.last_is; opened = h.opened; running = tt })

    call_holds : (place : CallPoint) (found : ℕ) → CallPlaceHolds shape.form client.txn place → IsWord found
        → Holds (call_after shape client place found)
    call_holds (Beginning txn nth at) found p is = begin_holds txn nth _
    call_holds (InTxn at) found p is = take_txn_holds client at client.txn found h h.opened p is
    call_holds (Scanning table low high at) found p is =
        take_scan_holds client table low high at client.txn found h h.opened
    call_holds (Seeking table key passed) found p is = seek_holds table key _
    call_holds (Moving table key position at) found p is =
        let place = place_of shape table position in
        on_move_holds table key position _ _ (move_holds place (cells_by shape place) at found p is)
    call_holds (Snapping bucket at) found p is = on_snap_holds bucket _ (snap_holds shape.workers at found p is)
    call_holds (Collecting bucket prefix seen at) found p is =
        on_collect_holds bucket prefix seen _ p.0
        (collect_holds (cells_of shape bucket) seen shape.workers at found p.1 is)

    now_holds : (call : Option (Now CallPoint Answer)) (found : ℕ) → RunHolds shape.form client.txn call → IsWord found
        → Holds (after_call shape client call found)
    now_holds None found r is = h
    now_holds (Some (At place)) found r is = call_holds place found r is
    now_holds (Some (Over answer)) found r is = h

    pub word_holds : (found : ℕ) → IsWord found → Holds (client_after shape client found)
    word_holds found is = now_holds client.call found h.running is

    -- 3. A call is asked, the transaction given up, the client stopped

    ask_txn_holds : (asked : TxnCall) (opened : Option Open) → OpenHolds shape.form opened → TxnCallHolds asked
        → Holds (ask_txn shape client asked opened)
    ask_txn_holds asked None o c = h
    ask_txn_holds asked (Some attempt) o c =
        stepped_holds client (with_call attempt asked) 0 _ h.last_is (txn_ask_holds shape attempt.state o asked c)

    ask_scan_holds : (table low high : ℕ) (opened : Option Open) → OpenHolds shape.form opened
        → Holds (ask_scan shape client table low high opened)
    ask_scan_holds table low high None o = h
    ask_scan_holds table low high (Some attempt) o = record { last_is = h.last_is; opened = o; running = tt }

    pub ask_holds : (asked : Call) → CallHolds asked → Holds (client_ask shape client asked)
    ask_holds (call.Begin txn nth) c = record { last_is = h.last_is; opened = h.opened; running = tt }
    ask_holds (call.Txn asked) c = ask_txn_holds asked client.txn h.opened c
    ask_holds (call.Scan table low high) c = ask_scan_holds table low high client.txn h.opened
    ask_holds (call.Tidy table key) c = record { last_is = h.last_is; opened = h.opened; running = tt }
    ask_holds (call.Collect bucket) c = record { last_is = h.last_is; opened = h.opened; running = tt }

    -- a point of the transaction that is no longer open writes nothing
    left_running : (call : Option (Now CallPoint Answer)) → RunHolds shape.form client.txn call
        → RunHolds shape.form None call
    left_running None r = tt
    left_running (Some (Over answer)) r = tt
    left_running (Some (At (Beginning txn nth at))) r = tt
    left_running (Some (At (InTxn at))) r = tt
    left_running (Some (At (Scanning table low high at))) r = tt
    left_running (Some (At (Seeking table key passed))) r = tt
    left_running (Some (At (Moving table key position at))) r = r
    left_running (Some (At (Snapping bucket at))) r = r
    left_running (Some (At (Collecting bucket prefix seen at))) r = r

    abandon_holds : (opened : Option Open) → Holds (abandon_open client opened)
    abandon_holds None = h
    abandon_holds (Some attempt) =
        record { last_is = h.last_is; opened = tt; running = left_running client.call h.running }

    pub cut_holds : Holds (client_cut client)
    cut_holds = record { last_is = h.last_is; opened = h.opened; running = h.running }

  pub client_keeps : ClientKeepsWords shape
  client_keeps = record {
    new = λ worker start l. record { last_is = l; opened = tt; running = tt };
    asked = λ client asked h c. ask_holds client h asked c;
    word = λ client found h is. word_holds client h found is;
    abandoned = λ client h. abandon_holds client h client.txn;
    cut = λ client h. cut_holds client h;
  }
