-- Each word and each call that may be asked keep a client whose log fits.
use Rattle.nam_calls.specs.Fits.{IsTableOf}
use Rattle.nam_calls.specs.Words.{width_of}
use Rattle.nam_catalog.specs.Fits.{FitsLimits}
use Rattle.nam_catalog.specs.Tables.{widths_of}
use Rattle.nam_catalog.specs.declared.shape.Shape.{Shape}
use Rattle.nam_protocol.proofs.AnswersClient.{answers_tell, asked_carries, cut_carries, new_carries, treated_carries}
use Rattle.nam_protocol.proofs.AnswersClient.{word_carries}
use Rattle.nam_protocol.proofs.EventsClient.{ask_lists, word_lists}
use Rattle.nam_protocol.proofs.FallsClient.{client_falls, some_open}
use Rattle.nam_protocol.proofs.FallsScan.{scan_falls}
use Rattle.nam_protocol.proofs.GoesClient.{begin_goes, collect_goes, move_goes, seek_goes, snap_goes, stepped_goes}
use Rattle.nam_protocol.proofs.OpenLemmas.{open_asked, open_cut, open_new, open_word}
use Rattle.nam_protocol.proofs.OwnLemmas.{fits_asked}
use Rattle.nam_protocol.specs.Carries.{Carries}
use Rattle.nam_protocol.specs.Client.{after_call, ask_scan, ask_txn, call_after, client_after, client_ask, take_scan}
use Rattle.nam_protocol.specs.Client.{take_txn, with_call}
use Rattle.nam_protocol.specs.ClientEvents.{NeedsOpen, NowLists}
use Rattle.nam_protocol.specs.ClientFits.{CallFits, ClientFits, OpenFits}
use Rattle.nam_protocol.specs.Own.{IsOpenAt, MayAsk, OpenClient, Rests}
use Rattle.nam_protocol.specs.Scan.{position_of, scan_after, scan_left}
use Rattle.nam_protocol.specs.Session.{answer_now}
use Rattle.nam_protocol.specs.SessionKeeps.{ClientKeeps}
use Rattle.nam_protocol.specs.Telling.{go, new_client, stepped}
use Rattle.nam_protocol.specs.Txn.{Stepped}
use Rattle.nam_protocol.specs.TxnCalls.{taken_now}
use Rattle.nam_protocol.specs.TxnFits.{ScanFits, StateFits, TxnPointFits}
use Rattle.nam_protocol.specs.declared.client.Answer.{Answer}
use Rattle.nam_protocol.specs.declared.client.Call.{Call}
use Rattle.nam_protocol.specs.declared.client.Call.TheVariants.{Begin, Collect, Tidy, Txn}
use Rattle.nam_protocol.specs.declared.client.CallPoint.{CallPoint}
use Rattle.nam_protocol.specs.declared.client.CallPoint.TheVariants.{Beginning, Collecting, InTxn, Moving, Scanning}
use Rattle.nam_protocol.specs.declared.client.CallPoint.TheVariants.{Seeking, Snapping}
use Rattle.nam_protocol.specs.declared.client.ClientState.{ClientState}
use Rattle.nam_protocol.specs.declared.client.Open.{Open}
use Rattle.nam_protocol.specs.declared.scan.ScanPoint.{ScanPoint}
use Rattle.nam_protocol.specs.declared.txn.TxnCall.{TxnCall}
use Rattle.nam_protocol.specs.declared.txn.TxnCall.TheVariants.{Commit}
use Rattle.nam_protocol.specs.declared.txn.TxnPoint.{TxnPoint}
use Rattle.nam_protocol.specs.declared.txn.TxnPoint.TheVariants.{Claiming, Committing, Finding, Reading}
use Rattle.nam_protocol.specs.declared.txn.TxnState.{TxnState}
use Rattle.nam_simulated.proofs.AnswersKept.{answer_kept, ask_kept}
use Rattle.nam_simulated.proofs.ClientSo.{AreOfWidth, ClientSo, NowSo, OpenSo, ScanWide, open_before}
use Rattle.nam_simulated.proofs.ItemsFit.{no_locks_fit}
use Rattle.nam_simulated.proofs.LogGrows.{LogSo, locks_so, snap_so}
use Rattle.nam_verbs.specs.declared.now.Now.{Now}
use Rattle.nam_verbs.specs.declared.now.Now.TheVariants.{At, Over}
use Rattle.si_model.specs.declared.log.Log.{Log}
use Rattle.std.proofs.Common.{Bool, None, Option, Some, ap, arith, false, length, refl, subst, sym, ℕ, ◌≡◌}
use Rattle.std.specs.List.{AllByRecursion}
use Rattle.nam_protocol.specs.declared.txn.TxnCall.TheVariants.{Get, Put, Add, Del, Need, Guard}
use Rattle.nam_simulated.proofs.ItemsFit.{locks_fit, no_locks_fit}
use Rattle.nam_protocol.specs.Telling.{new_locks}
use Rattle.nam_report.specs.Fits.{LockFits}
use Rattle.nam_protocol.specs.TxnCalls.{taken_at}
use Rattle.std.proofs.Common.{drop}
use Rattle.nam_simulated.proofs.ScanKept.{scan_kept}
use Rattle.nam_simulated.proofs.ClientSo.{IsNoScan}
use Rattle.std.specs.Prelude.{IsSome, is_some}
use Rattle.nam_protocol.specs.declared.client.Call.TheVariants as call

-- what holds where the call goes on
abbrev pub NowGoes : Shape → ClientState → Option (Now CallPoint Answer) → Type 0
NowGoes shape client (Some (At place)) = ClientSo shape client
NowGoes shape client _ = Unit {0}

abbrev pub Goes : Shape → ClientState → Type 0
Goes shape client = NowGoes shape client client.call

-- the call was answered
abbrev pub Answered : Shape → ClientState → Option (Now CallPoint Answer) → Type 0
Answered shape client (Some (Over end)) = OpenSo shape client.log client.txn
Answered shape client _ = Unit {0}

module _ (shape : Shape) where
  -- 1. A call that goes on

  -- the locks that a step lists
  step_locks : FitsLimits shape → (state : TxnState) (before : ℕ) (place : TxnPoint) → StateFits shape state
      → TxnPointFits shape state place
      → AllByRecursion (LockFits (widths_of shape.tables)) (new_locks state before (taken_at state place))
  step_locks limits state before (Committing at) fits stands =
      locks_fit shape limits state fits stands.0 before (drop before state.held)
  step_locks limits state before (Finding op passed) fits stands = no_locks_fit shape state before
  step_locks limits state before (Reading op position at) fits stands = no_locks_fit shape state before
  step_locks limits state before (Claiming op at) fits stands = no_locks_fit shape state before

  -- it has listed its new locks, where it fits
  stepped_so : FitsLimits shape → (client : ClientState) (attempt again : Open) (before : ℕ) (step : Stepped)
      → LogSo shape client.log attempt.reads attempt.locks 1 → again.reads ≡ attempt.reads
      → again.locks ≡ attempt.locks → ClientFits shape (stepped client again before step)
      → Goes shape (stepped client again before step)
  stepped_so limits client attempt again before step so reads locks =
      stepped_goes (λ after. ClientFits shape after → Goes shape after) client again before step
      (λ place e fits.
      let new = new_locks step.state before (taken_now step.state step.call) in
      let here : LogSo shape client.log again.reads again.locks 1 =
      subst (λ r. LogSo shape client.log r again.locks 1) (sym reads)
      (subst (λ l. LogSo shape client.log attempt.reads l 1) (sym locks) so) in
      record {
        so =
            locks_so shape client.log new again.reads again.locks 1 here
            (subst (λ call. AllByRecursion (LockFits (widths_of shape.tables))
            (new_locks step.state before (taken_now step.state call))) (sym e)
            (step_locks limits step.state before place fits.1 fits.2));
        scanned = tt;
      })
      (λ end e fits. tt)

  take_txn_so : FitsLimits shape → (client : ClientState) (at : TxnPoint) (opened : Option Open) (found : ℕ)
      → IsSome opened → OpenSo shape client.log opened → ClientFits shape (take_txn shape client at opened found)
      → Goes shape (take_txn shape client at opened found)
  take_txn_so limits client at None found some so fits = absurd (cc)
  take_txn_so limits client at (Some attempt) found some so fits =
      stepped_so limits client attempt attempt _ _ so refl refl fits

  word_goes : FitsLimits shape → (client : ClientState) (place : CallPoint) (found : ℕ) → IsNoScan place
      → IsOpenAt client.txn place → NowSo shape client.log client.txn (Some (At place))
      → ClientFits shape (call_after shape (go client place) place found)
      → Goes shape (call_after shape (go client place) place found)
  word_goes limits client (Beginning txn nth at) found other open_ so fits =
      begin_goes (Goes shape) shape (go client (Beginning txn nth at)) txn nth _
      (λ next e. record { so = so; scanned = tt }) (λ seen e. tt) (λ worker first second e. tt)
  word_goes limits client (InTxn at) found other open_ so fits =
      take_txn_so limits (go client (InTxn at)) at client.txn found open_ so fits
  word_goes limits client (Scanning table low high at) found other open_ so fits = absurd other
  word_goes limits client (Seeking table key passed) found other open_ so fits =
      seek_goes (Goes shape) shape (go client (Seeking table key passed)) table key _
      (λ next e. record { so = so; scanned = tt }) (λ position e. record { so = so; scanned = tt }) (λ e. tt)
  word_goes limits client (Moving table key position at) found other open_ so fits =
      move_goes (Goes shape) shape (go client (Moving table key position at)) table key position _ _
      (λ next e. record { so = so; scanned = tt }) (λ stamp e. tt) (λ stamp e. tt) (λ e. tt) (λ full e. tt)
  word_goes limits client (Snapping bucket at) found other open_ so fits =
      snap_goes (Goes shape) shape (go client (Snapping bucket at)) bucket _
      (λ next e. record { so = so; scanned = tt })
      (λ seen e. record {
        so = snap_so shape client.log seen 0 0 0 (open_before shape client.txn client.log open_ so);
        scanned = tt;
      })
      (λ worker first second e. tt)
  word_goes limits client (Collecting bucket prefix seen at) found other open_ so fits =
      collect_goes (Goes shape) shape (go client (Collecting bucket prefix seen at)) bucket prefix seen _
      (λ next e. record { so = so; scanned = tt }) (λ known e. tt)

  -- 2. By what the call has come to

  by_call : (n : ℕ) (was : Bool) (client : ClientState) (now : Option (Now CallPoint Answer)) → client.call ≡ now
      → NowLists n was client.log.events client.txn now → NowGoes shape client now → Answered shape client now
      → ClientSo shape client
  by_call n was client None e lists goes answered = absurd lists
  by_call n was client (Some (At place)) e lists goes answered = goes
  by_call n was client (Some (Over end)) e lists goes answered = record {
    so = subst (NowSo shape client.log client.txn) (sym e) answered;
    scanned = subst (ScanWide shape client.scanned) (sym e) tt;
  }

  -- 3. A word

  take_scan_so : (limits : FitsLimits shape) (client : ClientState) (table low high : ℕ) (at : ScanPoint)
      (is : IsTableOf shape table) → ScanFits shape table at → (opened : Option Open) (found : ℕ)
      → client.txn ≡ opened → IsSome opened → OpenFits shape opened → OpenSo shape client.log opened
      → AreOfWidth (width_of shape table) client.scanned
      → ClientSo shape (take_scan shape client table low high at opened found)
  take_scan_so limits client table low high at is stands None found e some fits so rows = absurd (cc)
  take_scan_so limits client table low high at is stands (Some attempt) found e some fits so rows =
      scan_kept shape limits table is client attempt e so low high (position_of at)
      (scan_after shape table low high attempt.state.seen at found) (scan_left shape table at) fits rows
      (scan_falls shape limits table is low high attempt.state.seen at found stands)

  module _ (limits : FitsLimits shape) (client : ClientState) (place : CallPoint) (found : ℕ) where
    told : (now : Option (Now CallPoint Answer)) → (call_after shape (go client place) place found).call ≡ now
        → IsNoScan place → ClientFits shape (go client place) → Carries (go client place)
        → IsOpenAt client.txn place → NowSo shape client.log client.txn (Some (At place))
        → NowLists (length client.log.events) (is_some client.txn)
        (call_after shape (go client place) place found).log.events
        (call_after shape (go client place) place found).txn now
        → Answered shape (call_after shape (go client place) place found) now
    told None e other fits carries open_ so lists = tt
    told (Some (At next)) e other fits carries open_ so lists = tt
    told (Some (Over end)) e other fits carries open_ so lists =
        answer_kept shape found (go client place) (call_after shape (go client place) place found) limits place end
        other fits.1 fits.2 open_ so
        ((answers_tell shape).word (go client place) place found end fits carries refl (ap answer_now e)) lists.1

    unscanned : IsNoScan place → ClientFits shape (go client place) → client.cut ≡ false → Carries (go client place)
        → IsOpenAt client.txn place → NowSo shape client.log client.txn (Some (At place))
        → ClientSo shape (call_after shape (go client place) place found)
    unscanned other fits uncut carries open_ so =
        let after = call_after shape (go client place) place found in
        let lists = word_lists (length client.log.events) shape (go client place) (omega arith) place found fits.2 in
        by_call (length client.log.events) (is_some client.txn) after after.call refl lists
        (word_goes limits client place found other open_ so
        (client_falls shape limits (go client place) place found fits uncut refl).0)
        (told after.call refl other fits carries open_ so lists)

  word_at : FitsLimits shape → (client : ClientState) (place : CallPoint) (found : ℕ)
      → ClientFits shape (go client place) → client.cut ≡ false → Carries (go client place)
      → IsOpenAt client.txn place → ClientSo shape (go client place)
      → ClientSo shape (call_after shape (go client place) place found)
  word_at limits client (Scanning table low high at) found fits uncut carries open_ kept =
      take_scan_so limits (go client (Scanning table low high at)) table low high at fits.2.1 fits.2.2 client.txn found
      refl open_ fits.1 kept.so kept.scanned
  word_at limits client (Beginning txn nth at) found fits uncut carries open_ kept =
      unscanned limits client (Beginning txn nth at) found tt fits uncut carries open_ kept.so
  word_at limits client (InTxn at) found fits uncut carries open_ kept =
      unscanned limits client (InTxn at) found tt fits uncut carries open_ kept.so
  word_at limits client (Seeking table key passed) found fits uncut carries open_ kept =
      unscanned limits client (Seeking table key passed) found tt fits uncut carries open_ kept.so
  word_at limits client (Moving table key position at) found fits uncut carries open_ kept =
      unscanned limits client (Moving table key position at) found tt fits uncut carries open_ kept.so
  word_at limits client (Snapping bucket at) found fits uncut carries open_ kept =
      unscanned limits client (Snapping bucket at) found tt fits uncut carries open_ kept.so
  word_at limits client (Collecting bucket prefix seen at) found fits uncut carries open_ kept =
      unscanned limits client (Collecting bucket prefix seen at) found tt fits uncut carries open_ kept.so

  -- 4. A call is asked

  rests_so : (log : Log) (opened : Option Open) (now : Option (Now CallPoint Answer)) → Rests now
      → NowSo shape log opened now → OpenSo shape log opened
  rests_so log opened None rests so = so
  rests_so log opened (Some (Over end)) rests so = so
  rests_so log opened (Some (At place)) rests so = absurd rests

  ask_txn_so : FitsLimits shape → (client : ClientState) (asked : TxnCall) (opened : Option Open) → IsSome opened
      → OpenSo shape client.log opened → ClientFits shape (ask_txn shape client asked opened)
      → Goes shape (ask_txn shape client asked opened)
  ask_txn_so limits client asked None some so fits = absurd (cc)
  ask_txn_so limits client (Get t k) (Some attempt) some so fits =
      stepped_so limits client attempt (with_call attempt (Get t k)) 0 _ so refl refl fits
  ask_txn_so limits client (Put t k v) (Some attempt) some so fits =
      stepped_so limits client attempt (with_call attempt (Put t k v)) 0 _ so refl refl fits
  ask_txn_so limits client (Add t k f up by) (Some attempt) some so fits =
      stepped_so limits client attempt (with_call attempt (Add t k f up by)) 0 _ so refl refl fits
  ask_txn_so limits client (Del t k) (Some attempt) some so fits =
      stepped_so limits client attempt (with_call attempt (Del t k)) 0 _ so refl refl fits
  ask_txn_so limits client (Need t k f least) (Some attempt) some so fits =
      stepped_so limits client attempt (with_call attempt (Need t k f least)) 0 _ so refl refl fits
  ask_txn_so limits client (Guard t k) (Some attempt) some so fits =
      stepped_so limits client attempt (with_call attempt (Guard t k)) 0 _ so refl refl fits
  ask_txn_so limits client Commit (Some attempt) some so fits =
      stepped_so limits client attempt attempt 0 _ so refl refl fits

  ask_scan_so : (client : ClientState) (table low high : ℕ) (opened : Option Open) → IsSome opened
      → OpenSo shape client.log opened → Goes shape (ask_scan shape client table low high opened)
  ask_scan_so client table low high None some so = absurd (cc)
  ask_scan_so client table low high (Some attempt) some so = record { so = so; scanned = tt }

  ask_goes : FitsLimits shape → (client : ClientState) (asked : Call) → CallFits shape client.txn asked
      → OpenSo shape client.log client.txn → ClientFits shape (client_ask shape client asked)
      → Goes shape (client_ask shape client asked)
  ask_goes limits client (call.Begin txn nth) may so fits = record { so = so; scanned = tt }
  ask_goes limits client (call.Txn asked) may so fits =
      ask_txn_so limits client asked client.txn (some_open shape client.txn asked may) so fits
  ask_goes limits client (call.Scan table low high) may so fits =
      ask_scan_so client table low high client.txn may.0 so
  ask_goes limits client (call.Tidy table key) may so fits = record { so = so; scanned = tt }
  ask_goes limits client (call.Collect bucket) may so fits = record { so = so; scanned = tt }

  needs : (client : ClientState) (asked : Call) → CallFits shape client.txn asked → NeedsOpen client asked
  needs client (call.Begin txn nth) may = tt
  needs client (call.Txn asked) may = some_open shape client.txn asked may
  needs client (call.Scan table low high) may = may.0
  needs client (call.Tidy table key) may = tt
  needs client (call.Collect bucket) may = tt

  ask_told : (client : ClientState) (asked : Call) (now : Option (Now CallPoint Answer))
      → (client_ask shape client asked).call ≡ now → ClientFits shape client → MayAsk shape client asked
      → Carries client → OpenSo shape client.log client.txn
      → NowLists (length client.log.events) (is_some client.txn) (client_ask shape client asked).log.events
      (client_ask shape client asked).txn now
      → Answered shape (client_ask shape client asked) now
  ask_told client asked None e fits may carries so lists = tt
  ask_told client asked (Some (At next)) e fits may carries so lists = tt
  ask_told client asked (Some (Over end)) e fits may carries so lists =
      ask_kept shape client (client_ask shape client asked) asked end fits.1 may.fits so
      ((answers_tell shape).asked client asked end may carries (ap answer_now e)) lists.1

  ask_so : FitsLimits shape → (client : ClientState) (asked : Call) → ClientFits shape client
      → MayAsk shape client asked → Carries client → ClientSo shape client
      → ClientSo shape (client_ask shape client asked)
  ask_so limits client asked fits may carries kept =
      let so = rests_so client.log client.txn client.call may.rests kept.so in
      let lists = ask_lists (length client.log.events) shape client (omega arith) asked (needs client asked may.fits) in
      let after = client_ask shape client asked in
      by_call (length client.log.events) (is_some client.txn) after after.call refl lists
      (ask_goes limits client asked may.fits so (fits_asked shape limits client asked may fits))
      (ask_told client asked after.call refl fits may carries so lists)

  -- 5. A client

  pub record Keeps (client : ClientState) : Type 0 where
    pub carries : Carries client
    pub opens : OpenClient client
    pub listed : ClientSo shape client

  word_so : FitsLimits shape → (client : ClientState) (place : CallPoint) (found : ℕ) → ClientFits shape client
      → client.cut ≡ false → client.call ≡ Some (At place) → Keeps client
      → ClientSo shape (client_after shape client found)
  word_so limits client place found fits uncut e kept =
      subst (λ (now : Option (Now CallPoint Answer)). ClientFits shape (record client { call = now })
      → Carries (record client { call = now }) → OpenClient (record client { call = now })
      → ClientSo shape (record client { call = now })
      → ClientSo shape (after_call shape (record client { call = now }) now found)) (sym e)
      (λ f c o k. word_at limits client place found f uncut c o k) fits kept.carries kept.opens kept.listed

  pub client_keeps : FitsLimits shape → ClientKeeps shape Keeps
  client_keeps limits = record {
    word = λ client place found fits uncut e kept. record {
      carries = word_carries shape client found fits kept.carries;
      opens = open_word shape client found kept.opens;
      listed = word_so limits client place found fits uncut e kept;
    };
    asked = λ client asked fits may kept. record {
      carries = asked_carries shape client asked may kept.carries;
      opens = open_asked shape client asked may;
      listed = ask_so limits client asked fits may kept.carries kept.listed;
    };
    cut = λ client kept. record {
      carries = cut_carries client kept.carries;
      opens = open_cut client kept.opens;
      listed = record { so = kept.listed.so; scanned = kept.listed.scanned };
    };
    treated = λ client medic kept. record {
      carries = treated_carries client medic kept.carries;
      opens = kept.opens;
      listed = record { so = kept.listed.so; scanned = kept.listed.scanned };
    };
  }

  pub new_keeps : (worker start : ℕ) → Keeps (new_client worker start)
  new_keeps worker start = record {
    carries = new_carries worker start;
    opens = open_new worker start;
    listed = record {
      so = record {
        events = tt;
        reads_fit = tt;
        locks_fit = tt;
        writes_fit = tt;
        reads_owned = refl;
        locks_owned = refl;
        writes_owned = refl;
        snaps_owned = refl;
      };
      scanned = tt;
    };
  }
