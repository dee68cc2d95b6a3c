-- Each list of a session's log is within the room for its jobs.
use Rattle.std.proofs.Common.{◌≡◌, ℕ, ◌+◌, ◌*◌, ◌≤◌, Bool, true, false, List, ◌++◌, map, length, take}
use Rattle.std.proofs.Common.{Option, Some, None, refl, sym, ap, subst, ◌∙◌, length-append, arith}
use Rattle.std.proofs.Math.Nat.{mul-le-mul_right, suc-mul}
use Rattle.std.proofs.Math.Numerals.{add-one}
use Rattle.std.proofs.lemmas.Bool.{false≢true}
use Rattle.std.proofs.lemmas.List.{length-map}
use Rattle.std.specs.Prelude.{is_some, slice_get}
use Rattle.si_model.specs.declared.op.Op.{Op}
use Rattle.si_model.specs.Evaluation.{guard_keys, unwritten, written_keys}
use Rattle.si_model.specs.Rows.{item_key}
use Rattle.nam_verbs.specs.declared.now.Now.{Now}
use Rattle.nam_verbs.specs.declared.now.Now.TheVariants.{At, Over}
use Rattle.nam_catalog.specs.declared.shape.Shape.{Shape}
use Rattle.nam_protocol.specs.declared.client.Answer.{Answer}
use Rattle.nam_protocol.specs.declared.client.Call.{Call}
use Rattle.nam_protocol.specs.declared.client.CallPoint.{CallPoint}
use Rattle.nam_protocol.specs.declared.client.CallPoint.TheVariants.{Beginning, Collecting, InTxn, Moving, Scanning}
use Rattle.nam_protocol.specs.declared.client.CallPoint.TheVariants.{Seeking, Snapping}
use Rattle.nam_protocol.specs.declared.client.ClientState.{ClientState}
use Rattle.nam_protocol.specs.declared.client.Open.{Open}
use Rattle.nam_protocol.specs.declared.session.DriverPoint.{DriverPoint}
use Rattle.nam_protocol.specs.declared.session.DriverPoint.TheVariants.{ToAsk, ToBegin, ToCollect, ToTidy}
use Rattle.nam_protocol.specs.declared.session.Job.{Job}
use Rattle.nam_protocol.specs.declared.session.SessionState.{SessionState}
use Rattle.nam_protocol.specs.declared.txn.CommitPoint.{CommitPoint}
use Rattle.nam_protocol.specs.declared.txn.TxnState.{TxnState}
use Rattle.nam_protocol.specs.declared.txn.TxnPoint.TheVariants.{Claiming, Committing, Finding, Reading}
use Rattle.nam_protocol.specs.AttemptLaw.{HasAsked}
use Rattle.nam_protocol.specs.Carries.{Carries, OpenCarries}
use Rattle.nam_protocol.specs.ClientFits.{CallPointFits, NowFits}
use Rattle.nam_protocol.specs.Commit.{record_in}
use Rattle.nam_protocol.specs.Own.{Rests}
use Rattle.si_model.specs.declared.log.Lock.{Lock}
use Rattle.nam_protocol.specs.ListsLaw.{KeysWithin, ListsLaw, ListsWithin}
use Rattle.nam_protocol.specs.SessionFits.{NowRuns, OpenRuns, PlaceRuns, SessionFits, is_running, ops_of}
use Rattle.nam_protocol.specs.CutClient.{closed_client, finish_of}
use Rattle.nam_protocol.specs.TxnFits.{CommitFits, CommitPointFits}
use Rattle.nam_protocol.specs.declared.txn.CommitPoint.TheVariants.{Checking, Copying, Freeing, Installing, Locking}
use Rattle.nam_protocol.specs.declared.txn.CommitPoint.TheVariants.{Publishing, Returning, Saving}
use Rattle.nam_protocol.specs.declared.txn.CommitPoint.TheVariants.{Listing, Counting, Deciding, Clearing, Ending}
use Rattle.nam_protocol.proofs.FallsCommit.{held_within}
use Rattle.nam_protocol.proofs.FallsAttempt.{guards_as_asked}
use Rattle.nam_protocol.proofs.ListsClient.{WritesWithin, ended, open_locks}
use Rattle.nam_protocol.proofs.RunsClient.{IsAnswered, NowDoes, take_past}
use Rattle.nam_protocol.proofs.ListsClient.{KeepsLocks, Listed, NowSame, Same, answer_lists, answer_locks}
use Rattle.nam_protocol.proofs.ListsClient.{ask_same, asked_lists, asked_locks, begins_snap}
use Rattle.nam_protocol.proofs.ListsClient.{log_lists}
use Rattle.nam_protocol.proofs.ListsClient.{collects_snap}
use Rattle.nam_protocol.proofs.ListsClient.{closing_writes, rests_snap, word_same}
use Rattle.nam_protocol.proofs.AskedSession.{AsksSo, NowOf, job_is, session_asks}
use Rattle.nam_protocol.proofs.AnswersOps.{no_locks}
use Rattle.nam_protocol.proofs.AnswersClient.{treated_carries, answers_tell, asked_carries, cut_carries, new_carries}
use Rattle.nam_protocol.proofs.AnswersClient.{word_carries}
use Rattle.nam_protocol.proofs.EndsSession.{IsReady, nth_holds}
use Rattle.nam_protocol.proofs.OpensDriver.{asks_after, one, one_at_most}
use Rattle.nam_protocol.proofs.GoesSession.{NextHolds, SessionKeeps, Steps, reached_kept}
use Rattle.nam_protocol.proofs.KeptSession.{may_ask}
use Rattle.nam_protocol.proofs.OpenLemmas.{open_asked, open_new, open_word}
use Rattle.nam_protocol.proofs.RoomDriver.{room_suffices}
use Rattle.nam_protocol.specs.AskedLaw.{call_at}
use Rattle.nam_protocol.specs.Client.{after_call, client_after, client_ask}
use Rattle.nam_protocol.specs.ClientEvents.{is_open_after}
use Rattle.nam_protocol.specs.Driver.{driver_take, job_call, new_driver, place_call}
use Rattle.nam_protocol.specs.Left.{Room, room_for}
use Rattle.nam_protocol.specs.Own.{IsOpenAt, IsOpenNow, OpenClient}
use Rattle.nam_protocol.specs.RoomLaw.{DriverCounts, call_room, room_left}
use Rattle.nam_protocol.specs.Session.{answer_now}
use Rattle.nam_protocol.specs.SessionKeeps.{is_asking}
use Rattle.nam_protocol.specs.declared.client.Answer.TheVariants as answer

-- 1. A commit's keys are those of its operations

module _ (state : TxnState) (ops : List Op) (asked : HasAsked state ops) (keys : ℕ)
    (few : length (written_keys ops) + length (guard_keys ops) ≤ keys) where
  writes_few : length state.writes ≤ keys
  writes_few =
      let m = length-map state.writes item_key in
      let w = ap length asked.written in
      omega arith

  records_few : (shape : Shape) (at : CommitPoint) → CommitFits shape state at → length state.records ≤ keys
  records_few shape at fits =
      let r = ap length fits.0 in
      let all = map item_key state.writes ++ unwritten state.writes state.guards in
      let n = length-append (map item_key state.writes) (unwritten state.writes state.guards) in
      let w = ap length asked.written in
      let g = ap length (guards_as_asked state ops asked) in
      let m = length-map all (record_in state.claims) in
      omega arith

taken_within : (shape : Shape) (state : TxnState) (at : CommitPoint) → CommitPointFits shape state at
    → length state.held ≤ length state.records
taken_within shape state (Locking at) fits = held_within (length state.records) state.held at fits.0
taken_within shape state (Listing at) fits = let l = fits.0 in omega arith
taken_within shape state (Checking at) fits = let l = fits.0 in omega arith
taken_within shape state (Returning given full) fits = let l = fits.0 in omega arith
taken_within shape state (Counting nth) fits = let l = fits.0 in omega arith
taken_within shape state Deciding fits = let l = fits.0 in omega arith
taken_within shape state (Saving nth got) fits = let l = fits.0 in omega arith
taken_within shape state (Copying nth old at) fits = let l = fits.0 in omega arith
taken_within shape state (Installing nth at) fits = let l = fits.0 in omega arith
taken_within shape state Publishing fits = let l = fits.0 in omega arith
taken_within shape state (Freeing nth) fits = let l = fits.0 in omega arith
taken_within shape state (Clearing refusal) fits = let l = fits.0 in omega arith
taken_within shape state Ending fits = let l = fits.0 in omega arith

-- a commit runs only after all operations
all_asked : (ops : List Op) (nth : ℕ) (attempt : Open) (at : CommitPoint) (o : Option Op) → slice_get ops nth ≡ o
    → OpenRuns (Some attempt) o (Committing at) → HasAsked attempt.state (take nth ops) → HasAsked attempt.state ops
all_asked ops nth attempt at None here runs asked = subst (HasAsked attempt.state) (take_past ops nth here) asked
all_asked ops nth attempt at (Some op) here runs asked = absurd runs

commit_asked : (place : DriverPoint) (ops : List Op) (attempt : Open) (at : CommitPoint)
    → PlaceRuns place ops (Some attempt) (InTxn (Committing at)) → HasAsked attempt.state ops
commit_asked ToBegin ops attempt at runs = absurd runs
commit_asked (ToAsk nth) ops attempt at runs = all_asked ops nth attempt at (slice_get ops nth) refl runs.1 runs.0
commit_asked (ToTidy keys nth again retry) ops attempt at runs = absurd runs
commit_asked (ToCollect bucket keys nth retry) ops attempt at runs = absurd runs

module _ (shape : Shape) (ops : List Op) (keys : ℕ)
    (few : length (written_keys ops) + length (guard_keys ops) ≤ keys) where
  -- so many writes, and so many locks
  writes_within : (at : DriverPoint) (opened : Option Open) (place : CallPoint) → PlaceRuns at ops opened place
      → WritesWithin keys opened place
  writes_within at None place runs = tt
  writes_within at (Some attempt) (InTxn (Committing commit)) runs =
      writes_few attempt.state ops (commit_asked at ops attempt commit runs) keys few
  writes_within at (Some attempt) (InTxn (Finding op passed)) runs = tt
  writes_within at (Some attempt) (InTxn (Reading op position reads)) runs = tt
  writes_within at (Some attempt) (InTxn (Claiming op claims)) runs = tt
  writes_within at (Some attempt) (Beginning txn nth snap) runs = tt
  writes_within at (Some attempt) (Scanning table low high scan) runs = tt
  writes_within at (Some attempt) (Seeking table key passed) runs = tt
  writes_within at (Some attempt) (Moving table key position move) runs = tt
  writes_within at (Some attempt) (Snapping bucket snap) runs = tt
  writes_within at (Some attempt) (Collecting bucket prefix seen collect) runs = tt

  locks_within : (last : ℕ) (locks : List Lock) (at : DriverPoint) (opened : Option Open) (place : CallPoint)
      → OpenCarries last locks (Some (At place)) opened → PlaceRuns at ops opened place
      → CallPointFits shape opened place → open_locks opened ≤ keys
  locks_within last locks at None place carries runs fits = omega arith
  locks_within last locks at (Some attempt) (InTxn (Committing commit)) carries runs fits =
      let n = carries.took.number in
      let t = taken_within shape attempt.state commit fits.2 in
      let r = records_few attempt.state ops (commit_asked at ops attempt commit runs) keys few shape commit fits in
      omega arith
  locks_within last locks at (Some attempt) (InTxn (Finding op passed)) carries runs fits =
      let n = no_locks locks attempt carries.took carries.held in omega arith
  locks_within last locks at (Some attempt) (InTxn (Reading op position reads)) carries runs fits =
      let n = no_locks locks attempt carries.took carries.held in omega arith
  locks_within last locks at (Some attempt) (InTxn (Claiming op claims)) carries runs fits =
      let n = no_locks locks attempt carries.took carries.held in omega arith
  locks_within last locks at (Some attempt) (Beginning txn nth snap) carries runs fits =
      let n = no_locks locks attempt carries.took carries.held in omega arith
  locks_within last locks at (Some attempt) (Scanning table low high scan) carries runs fits =
      let n = no_locks locks attempt carries.took carries.held in omega arith
  locks_within last locks at (Some attempt) (Seeking table key passed) carries runs fits =
      let n = no_locks locks attempt carries.took carries.held in omega arith
  locks_within last locks at (Some attempt) (Moving table key position move) carries runs fits =
      let n = no_locks locks attempt carries.took carries.held in omega arith
  locks_within last locks at (Some attempt) (Snapping bucket snap) carries runs fits =
      let n = no_locks locks attempt carries.took carries.held in omega arith
  locks_within last locks at (Some attempt) (Collecting bucket prefix seen collect) carries runs fits =
      let n = no_locks locks attempt carries.took carries.held in omega arith

-- a transaction at rest has none
rests_locks : (last : ℕ) (locks : List Lock) (now : Option (Now CallPoint Answer)) (opened : Option Open) → Rests now
    → OpenCarries last locks now opened → open_locks opened ≡ 0
rests_locks last locks now None rests carries = refl
rests_locks last locks None (Some attempt) rests carries = no_locks locks attempt carries.took carries.held
rests_locks last locks (Some (Over end)) (Some attempt) rests carries = no_locks locks attempt carries.took carries.held
rests_locks last locks (Some (At place)) (Some attempt) rests carries = absurd rests

-- 2. Attempts

one_more : (a k : ℕ) → (a + 1) * k ≡ a * k + k
one_more a k = ap (λ n. n * k) (add-one a) ∙ suc-mul a k

-- an attempt less pays for what it has listed
pub writes_paid : (b c : Bool) (left later all keys more listed : ℕ) → later + one c ≤ left + one b → later ≤ left
    → more ≤ listed + ended keys b c → listed + (left + one b) * keys ≤ all
    → more + (later + one c) * keys ≤ all
writes_paid true false left later all keys more listed least less m l =
    let k = mul-le-mul_right keys less in
    let o = one_more left keys in
    let z : (later + 0) * keys ≡ later * keys = ap (λ n. n * keys) (omega arith) in
    omega arith
writes_paid true true left later all keys more listed least less m l =
    let k = mul-le-mul_right keys least in omega arith
writes_paid false c left later all keys more listed least less m l =
    let k = mul-le-mul_right keys least in omega arith

locks_paid : (b c : Bool) (left later all keys listed mine then_mine : ℕ) → later + one c ≤ left + one b
    → later ≤ left → mine ≤ keys → (b ≡ false → mine ≡ 0) → (b ≡ true → c ≡ true → mine ≤ then_mine)
    → listed + (left + one b) * keys ≤ all + mine → listed + (later + one c) * keys ≤ all + then_mine
locks_paid true false left later all keys listed mine then_mine least less few none kept l =
    let k = mul-le-mul_right keys less in
    let o = one_more left keys in
    let z : (later + 0) * keys ≡ later * keys = ap (λ n. n * keys) (omega arith) in
    omega arith
locks_paid true true left later all keys listed mine then_mine least less few none kept l =
    let k = mul-le-mul_right keys least in
    let m = kept refl refl in
    omega arith
locks_paid false c left later all keys listed mine then_mine least less few none kept l =
    let k = mul-le-mul_right keys least in
    let n = none refl in
    omega arith

mine_paid : (b : Bool) (left keys mine : ℕ) → mine ≤ keys → (b ≡ false → mine ≡ 0) → mine ≤ (left + one b) * keys
mine_paid true left keys mine few none = let o = one_more left keys in omega arith
mine_paid false left keys mine few none = let n = none refl in omega arith

none_locks : (opened : Option Open) → is_some opened ≡ false → open_locks opened ≡ 0
none_locks None e = refl
none_locks (Some attempt) e = absurd (false≢true (sym e))

module _ (shape : Shape) where
  -- the attempt that is open after an answer was open, or the call's room pays for it
  attempt_paid : (job : Job) (try : ℕ) (place : DriverPoint) (txn : Option Open) (end : Answer)
      → IsAnswered shape place job.ops txn end
      → one (is_open_after (is_asking place) end)
      ≤ (call_room shape (place_call job try place)).attempts + one (is_asking place)
  attempt_paid job try ToBegin txn end a = one_at_most (is_open_after false end)
  attempt_paid job try (ToAsk nth) txn end a = let l = one_at_most (is_open_after true end) in omega arith
  attempt_paid job try (ToTidy keys nth again retry) txn (answer.NoRoom bucket) a = omega arith
  attempt_paid job try (ToTidy keys nth again retry) txn answer.Moved a = omega arith
  attempt_paid job try (ToTidy keys nth again retry) txn answer.Back a = omega arith
  attempt_paid job try (ToTidy keys nth again retry) txn answer.Nothing a = omega arith
  attempt_paid job try (ToTidy keys nth again retry) txn _ a = absurd a
  attempt_paid job try (ToCollect bucket keys nth retry) txn (answer.Again worker first second) a = omega arith
  attempt_paid job try (ToCollect bucket keys nth retry) txn (answer.Collected known) a = omega arith
  attempt_paid job try (ToCollect bucket keys nth retry) txn _ a = absurd a

  -- the room of a call pays for its snapshot
  snap_paid : (place : CallPoint)
      → begins_snap place + collects_snap (Some (At place))
      ≤ (call_room shape (call_at place)).attempts + (call_room shape (call_at place)).tidies
  snap_paid (Beginning txn nth at) = omega arith
  snap_paid (InTxn at) = omega arith
  snap_paid (Scanning table low high at) = omega arith
  snap_paid (Seeking table key passed) = omega arith
  snap_paid (Moving table key position at) = omega arith
  snap_paid (Snapping bucket at) = omega arith
  snap_paid (Collecting bucket prefix seen at) = omega arith

-- 3. A session

module _ (shape : Shape) (whole : Room) (keys : ℕ) where
  -- what it has listed and what its calls to come and its open attempt may list is within the whole
  pub record ListsSo (session : SessionState) : Type 0 where
    pub asks : AsksSo session
    pub carries : Carries session.client
    pub opens : OpenClient session.client
    pub counts : DriverCounts session.driver
    pub few : KeysWithin keys session.jobs
    pub reads : length session.client.log.reads + (room_left shape session.jobs session.driver).ops ≤ whole.ops
    pub writes : length session.client.log.writes
        + ((room_left shape session.jobs session.driver).attempts + one (is_asking session.driver.place)) * keys
        ≤ whole.attempts * keys
    pub locks : length session.client.log.locks
        + ((room_left shape session.jobs session.driver).attempts + one (is_asking session.driver.place)) * keys
        ≤ whole.attempts * keys + open_locks session.client.txn
    pub snaps : length session.client.log.snaps + (room_left shape session.jobs session.driver).attempts
        + (room_left shape session.jobs session.driver).tidies
        ≤ whole.attempts + whole.tidies + collects_snap session.client.call

  module _ (session : SessionState) (job : Job) (p : ListsSo session) (after : ClientState)
      (s : Steps shape session job after) (carries : Carries after) (opens : OpenClient after)
      (mine : open_locks session.client.txn ≤ keys) (more_snaps : ℕ) where
    abbrev asked : Call
    asked = place_call job session.driver.nth session.driver.place

    abbrev was_open : Bool
    was_open = is_some session.client.txn

    next_lists : (now : Option (Now CallPoint Answer)) → after.call ≡ now → NextHolds shape AsksSo session after now
        → NowSame session.client after now
        → ((end : Answer) → now ≡ Some (Over end)
        → Listed (call_room shape asked).ops (ended keys was_open (is_open_after was_open end)) more_snaps
        session.client.log after.log)
        → ((end : Answer) → now ≡ Some (Over end) → was_open ≡ true → is_open_after was_open end ≡ true
        → KeepsLocks session.client.txn after.txn)
        → more_snaps + collects_snap session.client.call
        ≤ (call_room shape asked).attempts + (call_room shape asked).tidies
        → NowDoes shape session.driver.place job.ops after.txn now → NextHolds shape ListsSo session after now
    next_lists None e asks same over kept paid does = tt
    next_lists (Some (At at)) e asks same over kept paid does = record {
      asks = asks;
      carries = carries;
      opens = opens;
      counts = p.counts;
      few = p.few;
      reads = (let l = p.reads in let r = ap length same.reads in omega arith);
      writes = (let l = p.writes in let w = ap length same.writes in omega arith);
      locks = (let l = p.locks in let m = same.locks in omega arith);
      snaps = (let l = p.snaps in let m = same.snaps in omega arith);
    }
    next_lists (Some (Over end)) e asks same over kept paid does =
        let driver = session.driver in
        let next = driver_take session.jobs driver end in
        let r = (room_suffices shape).1 session.jobs driver asked end p.counts (ap (job_call driver) s.here) in
        let left = room_left shape session.jobs driver in
        let later = room_left shape session.jobs next in
        let b = is_asking driver.place in
        let c = is_open_after b end in
        let ra = r.1.attempts in
        let rt = r.1.tidies in
        let ro = r.1.ops in
        let goes : is_asking next.place ≡ c =
        asks_after shape session.jobs driver job.ops after.txn driver.place end does in
        let l : Listed (call_room shape asked).ops (ended keys b c) more_snaps session.client.log after.log =
        subst (λ x. Listed (call_room shape asked).ops (ended keys x (is_open_after x end)) more_snaps
        session.client.log after.log) p.asks.opened (over end refl) in
        let ap_ = attempt_paid shape job driver.nth driver.place after.txn end does in
        let least : later.attempts + one c ≤ left.attempts + one b = omega arith in
        let less : later.attempts ≤ left.attempts = omega arith in
        record {
          asks = asks;
          carries = carries;
          opens = opens;
          counts = r.0;
          few = p.few;
          reads = (let h = p.reads in let m = l.reads in omega arith);
          writes =
              subst (λ x. length after.log.writes + (later.attempts + one x) * keys ≤ whole.attempts * keys) (sym goes)
              (writes_paid b c left.attempts later.attempts (whole.attempts * keys) keys (length after.log.writes)
              (length session.client.log.writes) least less l.writes p.writes);
          locks =
              subst (λ x. length after.log.locks + (later.attempts + one x) * keys
              ≤ whole.attempts * keys + open_locks after.txn) (sym goes)
              (subst (λ listed. length listed + (later.attempts + one c) * keys
              ≤ whole.attempts * keys + open_locks after.txn) (sym l.locks)
              (locks_paid b c left.attempts later.attempts (whole.attempts * keys) keys
              (length session.client.log.locks) (open_locks session.client.txn) (open_locks after.txn) least less mine
              (λ f. none_locks session.client.txn (p.asks.opened ∙ f))
              (λ f g. kept end refl (p.asks.opened ∙ f) (ap (λ x. is_open_after x end) p.asks.opened ∙ g)) p.locks));
          snaps = (let h = p.snaps in let m = l.snaps in omega arith);
        }

-- 4. A word and a call

module _ (shape : Shape) (whole : Room) (keys : ℕ) where
  -- what is known of the call that runs
  pub record Runs (session : SessionState) (place : CallPoint) (job : Job) : Type 0 where
    pub asked : call_at place ≡ place_call job session.driver.nth session.driver.place
    pub stands : IsOpenAt session.client.txn place
    pub fits : CallPointFits shape session.client.txn place
    pub writes : WritesWithin keys session.client.txn place
    pub mine : open_locks session.client.txn ≤ keys

  runs_of : (session : SessionState) (place : CallPoint) (job : Job) → SessionFits shape session
      → session.client.call ≡ Some (At place) → slice_get session.jobs session.driver.job ≡ Some job
      → ListsSo shape whole keys session → Runs session place job
  runs_of session place job fits e here p =
      let driver = session.driver in
      let client = session.client in
      let runs = subst (λ o. NowRuns driver.place (ops_of o) client.txn (Some (At place))) here
      (subst (NowRuns driver.place (ops_of (slice_get session.jobs driver.job)) client.txn) e fits.runs) in
      let few = nth_holds (λ (j : Job). length (written_keys j.ops) + length (guard_keys j.ops) ≤ keys) session.jobs
      driver.job job p.few here in
      let stands = subst (NowFits shape client.txn) e fits.client.2 in
      record {
        asked = subst (NowOf (place_call job driver.nth driver.place)) e (p.asks.call job here);
        stands = subst (IsOpenNow client.txn) e p.opens;
        fits = stands;
        writes = writes_within shape job.ops keys few driver.place client.txn place runs;
        mine = locks_within shape job.ops keys few client.last client.log.locks driver.place client.txn place
            (subst (λ now. OpenCarries client.last client.log.locks now client.txn) e p.carries.opened) runs stands;
      }

  word_lists : (session : SessionState) (place : CallPoint) (found : ℕ) (job : Job) → SessionFits shape session
      → session.client.cut ≡ false → session.client.call ≡ Some (At place) → ListsSo shape whole keys session
      → let after = client_after shape session.client found in Steps shape session job after
      → NextHolds shape (ListsSo shape whole keys) session after after.call
  word_lists session place found job fits uncut e p s =
      let client = session.client in
      let after = client_after shape client found in
      let r = runs_of session place job fits e s.here p in
      let asked = place_call job session.driver.nth session.driver.place in
      let told = λ (end : Answer) (f : after.call ≡ Some (Over end)).
      (answers_tell shape).word client place found end fits.client p.carries e (ap answer_now f) in
      next_lists shape whole keys session job p after s (word_carries shape client found fits.client p.carries)
      (open_word shape client found p.opens) r.mine (begins_snap place) after.call refl
      ((session_asks shape).word session place found job fits uncut e p.asks s)
      (subst (λ (now : Option (Now CallPoint Answer)).
      Same (record client { call = now }) (after_call shape (record client { call = now }) now found)) (sym e)
      (word_same shape found client place r.stands))
      (λ end f. subst (λ c. Listed (call_room shape c).ops
      (ended keys (is_some client.txn) (is_open_after (is_some client.txn) end)) (begins_snap place) client.log
      after.log)
      r.asked (answer_lists shape found keys client after place end r.fits r.writes (told end f)))
      (λ end f. answer_locks shape found client after place end r.stands (told end f))
      (subst (λ c. begins_snap place + collects_snap client.call
      ≤ (call_room shape c).attempts + (call_room shape c).tidies) r.asked
      (subst (λ now. begins_snap place + collects_snap now
      ≤ (call_room shape (call_at place)).attempts + (call_room shape (call_at place)).tidies) (sym e)
      (snap_paid shape place)))
      s.does

  call_lists : (session : SessionState) (job : Job) → IsReady shape session → session.client.cut ≡ false
      → ListsSo shape whole keys session
      → let after = client_ask shape session.client (place_call job session.driver.nth session.driver.place) in
      Steps shape session job after → NextHolds shape (ListsSo shape whole keys) session after after.call
  call_lists session job ready uncut p s =
      let client = session.client in
      let asked = place_call job session.driver.nth session.driver.place in
      let after = client_ask shape client asked in
      let may = may_ask shape session job ready uncut p.asks.opened s.here in
      let told = λ (end : Answer) (f : after.call ≡ Some (Over end)).
      (answers_tell shape).asked client asked end may p.carries (ap answer_now f) in
      let mine = rests_locks client.last client.log.locks client.call client.txn may.rests p.carries.opened in
      let none = rests_snap client.call may.rests in
      next_lists shape whole keys session job p after s (asked_carries shape client asked may p.carries)
      (open_asked shape client asked may) (omega arith) 0 after.call refl
      ((session_asks shape).asked session job ready uncut p.asks s)
      (ask_same shape client asked may.rests may.fits)
      (λ end f. asked_lists shape keys client after asked end (told end f))
      (λ end f. asked_locks shape keys client after asked end (told end f))
      (omega arith) s.does

  session_lists : SessionKeeps shape (ListsSo shape whole keys)
  session_lists = record {
    word = word_lists;
    asked = call_lists;
    cut = λ session p. record {
      asks = (session_asks shape).cut session p.asks;
      carries = cut_carries session.client p.carries;
      opens = p.opens;
      counts = p.counts;
      few = p.few;
      reads = p.reads;
      writes = p.writes;
      locks = p.locks;
      snaps = p.snaps;
    };
    treated = λ session medic p. record {
      asks = (session_asks shape).treated session medic p.asks;
      carries = treated_carries session.client medic p.carries;
      opens = p.opens;
      counts = p.counts;
      few = p.few;
      reads = p.reads;
      writes = p.writes;
      locks = p.locks;
      snaps = p.snaps;
    };
  }

  -- 5. The log at the end

  closing_paid : (left : ℕ) (b : Bool) (place : CallPoint) (opened : Option Open) → IsOpenAt opened place
      → is_some opened ≡ b → closing_writes keys (Some (At place)) ≤ (left + one b) * keys
  closing_paid left b (InTxn (Committing at)) opened stands e =
      mine_paid b left keys keys (omega arith) (λ f. absurd (false≢true (sym f ∙ sym e ∙ stands)))
  closing_paid left b (InTxn (Finding op passed)) opened stands e = omega arith
  closing_paid left b (InTxn (Reading op position at)) opened stands e = omega arith
  closing_paid left b (InTxn (Claiming op at)) opened stands e = omega arith
  closing_paid left b (Beginning txn nth at) opened stands e = omega arith
  closing_paid left b (Scanning table low high at) opened stands e = omega arith
  closing_paid left b (Seeking table key passed) opened stands e = omega arith
  closing_paid left b (Moving table key position at) opened stands e = omega arith
  closing_paid left b (Snapping bucket at) opened stands e = omega arith
  closing_paid left b (Collecting bucket prefix seen at) opened stands e = omega arith

  log_rests : (session : SessionState) (now : Option (Now CallPoint Answer)) → session.client.call ≡ now → Rests now
      → ListsSo shape whole keys session
      → ListsWithin whole keys (closed_client shape session.client (finish_of session.client.medic) now).log
  log_rests session None e rests p =
      let l = log_lists shape keys session.client (finish_of session.client.medic) None tt in
      let m = rests_locks session.client.last session.client.log.locks None session.client.txn rests
      (subst (λ now. OpenCarries session.client.last session.client.log.locks now session.client.txn) e
      p.carries.opened)
      in
      let c = ap collects_snap e in
      record {
        reads = (let a = l.reads in let b = p.reads in omega arith);
        locks = (let a = ap length l.locks in let b = p.locks in omega arith);
        writes = (let a = l.writes in let b = p.writes in omega arith);
        snaps = (let a = l.snaps in let b = p.snaps in omega arith);
      }
  log_rests session (Some (Over end)) e rests p =
      let l = log_lists shape keys session.client (finish_of session.client.medic) (Some (Over end)) tt in
      let m = rests_locks session.client.last session.client.log.locks (Some (Over end)) session.client.txn rests
      (subst (λ now. OpenCarries session.client.last session.client.log.locks now session.client.txn) e
      p.carries.opened)
      in
      let c = ap collects_snap e in
      record {
        reads = (let a = l.reads in let b = p.reads in omega arith);
        locks = (let a = ap length l.locks in let b = p.locks in omega arith);
        writes = (let a = l.writes in let b = p.writes in omega arith);
        snaps = (let a = l.snaps in let b = p.snaps in omega arith);
      }
  log_rests session (Some (At place)) e rests p = absurd rests

  log_runs : (session : SessionState) (place : CallPoint) (job : Job) → SessionFits shape session
      → session.client.call ≡ Some (At place) → slice_get session.jobs session.driver.job ≡ Some job
      → ListsSo shape whole keys session
      → ListsWithin whole keys
      (closed_client shape session.client (finish_of session.client.medic) (Some (At place))).log
  log_runs session place job fits e here p =
      let driver = session.driver in
      let r = runs_of session place job fits e here p in
      let asked = place_call job driver.nth driver.place in
      let l = log_lists shape keys session.client (finish_of session.client.medic) (Some (At place)) r.writes in
      let left = room_left shape session.jobs driver in
      let b = is_asking driver.place in
      let m = mine_paid b left.attempts keys (open_locks session.client.txn) r.mine
      (λ f. none_locks session.client.txn (p.asks.opened ∙ f)) in
      let w = closing_paid left.attempts b place session.client.txn r.stands p.asks.opened in
      let room = (room_suffices shape).1 session.jobs driver asked answer.Nothing p.counts
      (ap (job_call driver) here) in
      let paid = subst (λ c. begins_snap place + collects_snap (Some (At place))
      ≤ (call_room shape c).attempts + (call_room shape c).tidies) r.asked (snap_paid shape place) in
      let c = ap collects_snap e in
      let ra = room.1.attempts in
      let rt = room.1.tidies in
      record {
        reads = (let a = l.reads in let h = p.reads in omega arith);
        locks = (let a = ap length l.locks in let h = p.locks in omega arith);
        writes = (let a = l.writes in let h = p.writes in omega arith);
        snaps = (let a = l.snaps in let h = p.snaps in omega arith);
      }

  log_within : (session : SessionState) → SessionFits shape session → ListsSo shape whole keys session
      → (now : Option (Now CallPoint Answer)) → session.client.call ≡ now
      → ListsWithin whole keys (closed_client shape session.client (finish_of session.client.medic) now).log
  log_within session fits p None e = log_rests session None e tt p
  log_within session fits p (Some (Over end)) e = log_rests session (Some (Over end)) e tt p
  log_within session fits p (Some (At place)) e =
      let job = job_is (slice_get session.jobs session.driver.job) (sym fits.stands ∙ ap is_running e) in
      log_runs session place job.0 fits e job.1 p

pub lists_within : ListsLaw
lists_within shape limits worker start jobs policy is number fit least keys few session reached =
    let whole = room_for shape policy jobs in
    let room = (room_suffices shape).0 policy jobs least in
    let ra = room.1.attempts in
    let rt = room.1.tidies in
    let ro = room.1.ops in
    let none = (room_left shape jobs (new_driver policy)).attempts + 0 in
    let m : none * keys ≤ whole.attempts * keys = mul-le-mul_right keys (omega arith) in
    let s = reached_kept shape limits (ListsSo shape whole keys) (session_lists shape whole keys) worker start jobs
    policy is number fit least record {
      asks = record { opened = refl; attempt = λ job h. tt; call = λ job h. tt };
      carries = new_carries worker start;
      opens = open_new worker start;
      counts = room.0;
      few = few;
      reads = omega arith;
      writes = omega arith;
      locks = omega arith;
      snaps = omega arith;
    } session reached in
    log_within shape whole keys session s.0 s.1 session.client.call refl
