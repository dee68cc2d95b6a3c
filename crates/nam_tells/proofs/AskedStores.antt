-- So it is of each client of each store that comes about: its log tells over the calls that it was asked.
use Rattle.std.proofs.Common.{Bool, List, None, Option, Some, [], append-nil, ap, false, refl, subst, sym}
use Rattle.std.proofs.Common.{suc, true, zero, ℕ, ◌+◌, ◌++◌, ◌∙◌, ◌∷◌, ◌≡◌, ◌≢◌}
use Rattle.std.specs.Prelude.{slice_set}
use Rattle.std.proofs.lemmas.Grind.{flat_map-append}
use Rattle.std.proofs.lemmas.Option.{same_Some}
use Rattle.si_model.specs.Tells.{own_ops, tells_with}
use Rattle.si_model.specs.declared.log.Event.TheVariants.{Finished}
use Rattle.si_model.specs.declared.log.Finish.{Finish}
use Rattle.si_model.specs.declared.log.Outcome.TheVariants as outcome
use Rattle.si_model.specs.declared.log.Stamp.{Stamp}
use Rattle.si_model.specs.declared.op.Op.{Op}
use Rattle.si_model.specs.declared.row.Row.{Row}
use Rattle.nam_verbs.specs.declared.now.Now.TheVariants.{At, Over}
use Rattle.nam_verbs.specs.declared.now.Now.{Now}
use Rattle.nam_catalog.specs.declared.shape.Shape.{Shape}
use Rattle.nam_layout.specs.Place.{bucket_of, place_of}
use Rattle.nam_calls.specs.Mover.{move_claimed}
use Rattle.nam_protocol.specs.Client.{abandon_open, after_call, client_abandon, client_after, client_ask}
use Rattle.nam_protocol.specs.ClientFits.{CallFits}
use Rattle.nam_protocol.specs.CutClient.{client_cut, finish_of, has_committed, into_log}
use Rattle.nam_protocol.specs.Own.{IsOpenNow, MayAsk, Rests}
use Rattle.nam_protocol.specs.Telling.{new_client}
use Rattle.nam_protocol.specs.declared.client.Answer.{Answer}
use Rattle.nam_protocol.specs.declared.client.Call.TheVariants.{Begin, Collect, Scan, Tidy, Txn}
use Rattle.nam_protocol.specs.declared.client.Call.{Call}
use Rattle.nam_protocol.specs.declared.client.CallPoint.TheVariants.{Beginning, Collecting, InTxn, Moving, Scanning}
use Rattle.nam_protocol.specs.declared.client.CallPoint.TheVariants.{Seeking, Snapping}
use Rattle.nam_protocol.specs.declared.client.CallPoint.{CallPoint}
use Rattle.nam_protocol.specs.declared.client.ClientState.{ClientState}
use Rattle.nam_protocol.specs.declared.client.Open.{Open}
use Rattle.nam_protocol.specs.declared.txn.CommitPoint.TheVariants.{Ending, Freeing}
use Rattle.nam_protocol.specs.declared.txn.CommitPoint.{CommitPoint}
use Rattle.nam_protocol.specs.declared.txn.TxnPoint.TheVariants.{Committing}
use Rattle.nam_protocol.specs.declared.txn.TxnPoint.{TxnPoint}
use Rattle.nam_store.proofs.Lists.{everyone_set, put_beside, put_here}
use Rattle.nam_store.proofs.ReachedLemmas.{reached_keeps}
use Rattle.nam_store.specs.Everyone.{Everyone, put}
use Rattle.nam_store.specs.Opening.{new_clients}
use Rattle.nam_store.specs.Reached.{Reached}
use Rattle.nam_store.specs.Store.{Abandons, Asks, Cuts, Store, StepsTo, Takes, found_word}
use Rattle.nam_tells.proofs.AskLemmas.{told_by_ask, told_by_leaving}
use Rattle.nam_tells.proofs.AskedLemmas.{IsAsked, asked_more, asked_now, goes_asked, none_at, none_now, ops_of}
use Rattle.nam_tells.proofs.AskedLemmas.{with_last}
use Rattle.nam_tells.proofs.AskedLemmas.{ops_more}
use Rattle.nam_tells.proofs.CutLemmas.{log_tells, told_cut}
use Rattle.nam_tells.proofs.EndWords.{ask_law, word_law}
use Rattle.nam_tells.proofs.StoreLemmas.{told_new}
use Rattle.nam_tells.proofs.WordLemmas.{told_by_word}
use Rattle.nam_tells.specs.AskedLaw.{AskedLaw, LeavesLaw, Tales, TellsAsked, asked_on, attempts_asked, no_tales}
use Rattle.nam_tells.specs.AskedLaw.{tales_next}
use Rattle.nam_tells.specs.Steps.{asking, call_ops, told_abandoned, told_after, told_asked, told_left, told_now}
use Rattle.nam_tells.specs.Teller.{IsTold, OpenTold, Teller, attempt_tell, bare_tell, call_end, end_of}
use Rattle.nam_tells.specs.Teller.{move_end, new_teller, now_end, running, treated_end, treated_txn_end, txn_end}
use Rattle.nam_tells.specs.TellsLaw.{tells_now}

-- 1. One step of a client

-- what the call leaves of this client
abbrev AskedBy : Shape → List Call → Teller → Call → ClientState → Type 0
AskedBy shape calls teller asked client =
    let now = told_asked shape client asked teller in
    let after = client_ask shape client asked in
    asked_on (attempts_asked calls) asked ≡ ops_of now.front ++ asked_now now after.txn after.call

module _ (shape : Shape) (calls : List Call) (client : ClientState) (teller : Teller) (told : IsTold client teller)
    (is : IsAsked calls client teller) where
  by_txn : (opened : Option Open) → client.txn ≡ opened
      → attempts_asked calls ≡ ops_of teller.front ++ asked_now teller opened client.call
  by_txn opened e = is ∙ ap (λ (o : Option Open). ops_of teller.front ++ asked_now teller o client.call) e

  pub word_asked : (found : ℕ) → IsAsked calls (client_after shape client found) (told_after shape client found teller)
  word_asked found = by client.txn refl
    where
      by : (opened : Option Open) → client.txn ≡ opened
          → IsAsked calls (client_after shape client found) (told_after shape client found teller)
      by (Some attempt) e =
          let after = client_after shape client found in
          goes_asked teller (told_after shape client found teller) attempt (attempts_asked calls)
          (by_txn (Some attempt) e) after.txn after.call (word_law shape client teller attempt found told e)
      by None e =
          subst (λ (o : Option Open).
          IsAsked calls (after_call shape (record client { txn = o }) client.call found)
          (told_now shape (record client { txn = o }) client.call found teller)) (sym e)
          (none_at shape client teller found
          (subst (λ (o : Option Open). OpenTold teller (running client.call) o) e told.opened)
          (attempts_asked calls) client.call (subst (λ (o : Option Open). IsOpenNow o client.call) e told.opens)
          (by_txn None e))

  module _ (rests : Rests client.call) where
    none_open : client.txn ≡ None → attempts_asked calls ≡ ops_of teller.front ++ []
    none_open e = by_txn None e ∙ ap (λ xs. ops_of teller.front ++ xs) (none_now teller client.call rests)

    module _ (attempt : Open) (e : client.txn ≡ Some attempt) where
      -- its operation is one of the attempt's
      of_attempt : (asked : Call) → CallFits shape (Some attempt) asked
          → asked_on (attempts_asked calls) asked ≡ ops_of teller.front ++ (teller.ops ++ call_ops asked) ∷ []
      of_attempt (Txn asked) fits =
          ap (λ xs. asked_on xs (Txn asked)) (by_txn (Some attempt) e)
          ∙ with_last (ops_of teller.front) teller.ops (call_ops (Txn asked))
      of_attempt (Scan table low high) fits =
          ap (λ xs. asked_on xs (Scan table low high)) (by_txn (Some attempt) e)
          ∙ with_last (ops_of teller.front) teller.ops (call_ops (Scan table low high))
      of_attempt (Begin txn nth) fits = absurd (cc)
      of_attempt (Tidy table key) fits = absurd (cc)
      of_attempt (Collect bucket) fits = absurd (cc)

    of_none : (asked : Call) → CallFits shape None asked → attempts_asked calls ≡ ops_of teller.front ++ []
        → AskedBy shape calls teller asked (record client { txn = None })
    of_none (Begin txn nth) fits was = ap (λ xs. xs ++ [] ∷ []) (was ∙ append-nil (ops_of teller.front))
    of_none (Tidy table key) fits was = was
    of_none (Collect bucket) fits was = was
    of_none (Txn asked) fits was = absurd fits
    of_none (Scan table low high) fits was = absurd (cc)

    pub ask_asked : (asked : Call) → MayAsk shape client asked
        → IsAsked (calls ++ asked ∷ []) (client_ask shape client asked) (told_asked shape client asked teller)
    ask_asked asked may = asked_more [] calls asked ∙ by client.txn refl
      where
        by : (opened : Option Open) → client.txn ≡ opened → AskedBy shape calls teller asked client
        by (Some attempt) e =
            let after = client_ask shape client asked in
            goes_asked (asking teller (call_ops asked)) (told_asked shape client asked teller) attempt
            (asked_on (attempts_asked calls) asked)
            (of_attempt attempt e asked (subst (λ (o : Option Open). CallFits shape o asked) e may.fits)) after.txn
            after.call (ask_law shape client teller attempt asked may e)
        by None e =
            subst (λ (o : Option Open). AskedBy shape calls teller asked (record client { txn = o })) (sym e)
            (of_none asked (subst (λ (o : Option Open). CallFits shape o asked) e may.fits) (none_open e))

    pub leave_asked : IsAsked calls (client_abandon client) (told_abandoned client teller)
    leave_asked = by client.txn refl
      where
        by : (opened : Option Open) → client.txn ≡ opened
            → IsAsked calls (abandon_open client opened) (told_left opened teller)
        by None e = is
        by (Some attempt) e =
            let t = attempt_tell teller attempt outcome.Left [] in
            by_txn (Some attempt) e ∙ sym (ops_more teller.front t) ∙ sym (append-nil (ops_of (teller.front ++ t ∷ [])))
            ∙ ap (λ xs. ops_of (teller.front ++ t ∷ []) ++ xs)
            (sym (none_now (told_left (Some attempt) teller) client.call rests))

-- 2. What is still to be told

module _ (shape : Shape) (teller : Teller) where
  abbrev Ends : Bool → Option Open → Option (Now CallPoint Answer) → Type 0
  Ends cut opened call = ops_of (call_end shape teller cut opened call) ≡ asked_now teller opened call

  txn_ends : (attempt : Open) (at : TxnPoint) → ops_of (txn_end shape teller attempt at) ≡ teller.ops ∷ []
  txn_ends attempt (Committing place) = by place
    where
      by : (place : CommitPoint) → ops_of (txn_end shape teller attempt (Committing place)) ≡ teller.ops ∷ []
      by (Freeing nth) = refl
      by Ending = refl
      by _ = refl
  txn_ends attempt _ = refl

  move_ends : (table key bucket : ℕ) (claimed : Option Stamp)
      → ops_of (move_end shape teller table key bucket claimed) ≡ []
  move_ends table key bucket None = refl
  move_ends table key bucket (Some stamp) = refl

  place_ends : (cut : Bool) (opened : Option Open) (place : CallPoint) → IsOpenNow opened (Some (At place))
      → Ends cut opened (Some (At place))
  place_ends cut None (Beginning txn nth at) is = refl
  place_ends cut (Some attempt) (Beginning txn nth at) is = absurd (cc)
  place_ends cut None (InTxn at) is = absurd (cc)
  place_ends cut (Some attempt) (InTxn at) is = txn_ends attempt at
  place_ends cut None (Scanning table low high at) is = absurd (cc)
  place_ends cut (Some attempt) (Scanning table low high at) is = refl
  place_ends cut None (Seeking table key passed) is = refl
  place_ends cut (Some attempt) (Seeking table key passed) is = absurd (cc)
  place_ends cut None (Moving table key position at) is =
      let place = place_of shape table position in
      move_ends table key (bucket_of shape place.row) (move_claimed place at)
  place_ends cut (Some attempt) (Moving table key position at) is = absurd (cc)
  place_ends cut None (Snapping bucket at) is = refl
  place_ends cut (Some attempt) (Snapping bucket at) is = absurd (cc)
  place_ends cut None (Collecting bucket prefix seen at) is = refl
  place_ends cut (Some attempt) (Collecting bucket prefix seen at) is = absurd (cc)

  call_ends : (cut : Bool) (opened : Option Open) (call : Option (Now CallPoint Answer)) → IsOpenNow opened call
      → Ends cut opened call
  call_ends cut None None is = refl
  call_ends cut (Some attempt) None is = refl
  call_ends cut None (Some (Over end)) is = refl
  call_ends cut (Some attempt) (Some (Over end)) is = refl
  call_ends cut opened (Some (At place)) is = place_ends cut opened place is

  treated_ends : (cut : Bool) (how : Finish) (opened : Option Open) (call : Option (Now CallPoint Answer))
      → IsOpenNow opened call
      → ops_of (treated_end shape teller cut how opened call) ≡ asked_now teller opened call
  treated_ends cut how opened None is = call_ends cut opened None is
  treated_ends cut how opened (Some (Over end)) is = call_ends cut opened (Some (Over end)) is
  treated_ends cut how opened (Some (At place)) is = by opened place is
    where
      at_txn : (attempt : Open) (at : TxnPoint) (b : Bool) → has_committed at how ≡ b
          → ops_of (treated_txn_end shape teller how at (Some attempt)) ≡ teller.ops ∷ []
      at_txn attempt at true e = rw e refl
      at_txn attempt at false e = rw e refl

      by : (opened : Option Open) (place : CallPoint) → IsOpenNow opened (Some (At place))
          → ops_of (treated_end shape teller cut how opened (Some (At place)))
          ≡ asked_now teller opened (Some (At place))
      by None (InTxn at) is = absurd (cc)
      by (Some attempt) (InTxn at) is = at_txn attempt at (has_committed at how) refl
      by opened place is = place_ends cut opened place is

  now_ends : (cut : Bool) (finish : Option Finish) (opened : Option Open) (call : Option (Now CallPoint Answer))
      → IsOpenNow opened call → ops_of (now_end shape teller cut finish opened call) ≡ asked_now teller opened call
  now_ends cut None opened call is = call_ends cut opened call is
  now_ends cut (Some how) opened call is =
      ops_more (treated_end shape teller cut how opened call) (bare_tell (Finished how) [])
      ∙ append-nil (ops_of (treated_end shape teller cut how opened call)) ∙ treated_ends cut how opened call is

-- so its log tells over the calls
pub tells_asked : (shape : Shape) (calls : List Call) (client : ClientState) (teller : Teller) → IsTold client teller
    → IsAsked calls client teller → TellsAsked shape calls teller client
tells_asked shape calls client teller told is =
    let all = tells_now shape teller client in
    let same : attempts_asked calls ≡ ops_of all =
    is ∙ ap (λ xs. ops_of teller.front ++ xs)
    (sym (now_ends shape teller client.cut (finish_of client.medic) client.txn client.call told.opens))
    ∙ sym (flat_map-append own_ops teller.front (end_of shape teller client)) in
    ap (λ (attempts : List (List Op)). tells_with attempts (into_log shape client)) same
    ∙ log_tells shape client teller told

-- 3. All clients of a store

pub record HasTale (calls : List Call) (client : ClientState) (teller : Teller) : Type 0 where
  pub told : IsTold client teller
  pub asked : IsAsked calls client teller

abbrev pub AllTales : Store → Tales → Type 0
AllTales store tales =
    Everyone (λ nth client. HasTale (tales.calls nth) client (tales.tellers nth)) store.clients

new_tales : (start worker n : ℕ) → Everyone (λ nth client. HasTale [] client new_teller) (new_clients start worker n)
new_tales start worker zero nth client e = absurd (cc)
new_tales start worker (suc n) zero client e =
    subst (λ (c : ClientState). HasTale [] c new_teller) (same_Some (new_client worker start) client e)
    (record { told = told_new worker start; asked = refl })
new_tales start worker (suc n) (suc nth) client e = new_tales start (worker + 1) n nth client e

module _ (store : Store) (tales : Tales) (all : AllTales store tales) (nth : ℕ) where
  -- the nth has another tale now; the others have theirs
  put_tale : (later : Tales) (client : ClientState) → HasTale (later.calls nth) client (later.tellers nth)
      → ((other : ℕ) → other ≢ nth → later.calls other ≡ tales.calls other)
      → ((other : ℕ) → other ≢ nth → later.tellers other ≡ tales.tellers other)
      → Everyone (λ other c. HasTale (later.calls other) c (later.tellers other)) (slice_set store.clients nth client)
  put_tale later client tale calls_stay tellers_stay =
      everyone_set (λ other c. HasTale (tales.calls other) c (tales.tellers other))
      (λ other c. HasTale (later.calls other) c (later.tellers other)) store.clients nth client all
      (λ other c apart e is.
      subst (λ (calls : List Call). HasTale calls c (later.tellers other)) (sym (calls_stay other apart))
      (subst (λ (teller : Teller). HasTale (tales.calls other) c teller) (sym (tellers_stay other apart)) is)) tale

pub tales_step : (shape : Shape) (before after : Store) (tales : Tales) (goes : StepsTo shape before after)
    → AllTales before tales → AllTales after (tales_next shape before after goes tales)
tales_step shape before _ tales (Takes nth client place here runs at) all =
    let found = found_word shape before client in
    let teller = tales.tellers nth in
    let is = all nth client here in
    put_tale before tales all nth (tales_next shape before _ (Takes nth client place here runs at) tales)
    (client_after shape client found)
    (subst (λ (t : Teller). HasTale (tales.calls nth) (client_after shape client found) t)
    (sym (put_here tales.tellers nth (told_after shape client found teller)))
    (record {
      told = told_by_word shape client teller found is.told;
      asked = word_asked shape (tales.calls nth) client teller is.told is.asked found;
    }))
    (λ other apart. refl) (λ other apart. put_beside tales.tellers nth _ other apart)
tales_step shape before _ tales (Asks nth client asked here may words) all =
    let teller = tales.tellers nth in
    let is = all nth client here in
    put_tale before tales all nth (tales_next shape before _ (Asks nth client asked here may words) tales)
    (client_ask shape client asked)
    (subst (λ (calls : List Call).
    HasTale calls (client_ask shape client asked) (put tales.tellers nth (told_asked shape client asked teller) nth))
    (sym (put_here tales.calls nth (tales.calls nth ++ asked ∷ [])))
    (subst (λ (t : Teller). HasTale (tales.calls nth ++ asked ∷ []) (client_ask shape client asked) t)
    (sym (put_here tales.tellers nth (told_asked shape client asked teller)))
    (record {
      told = told_by_ask shape client teller is.told may.rests asked may.fits;
      asked = ask_asked shape (tales.calls nth) client teller is.told is.asked may.rests asked may;
    })))
    (λ other apart. put_beside tales.calls nth _ other apart)
    (λ other apart. put_beside tales.tellers nth _ other apart)
tales_step shape before _ tales (Abandons nth client here rests) all =
    let teller = tales.tellers nth in
    let is = all nth client here in
    put_tale before tales all nth (tales_next shape before _ (Abandons nth client here rests) tales)
    (client_abandon client)
    (subst (λ (t : Teller). HasTale (tales.calls nth) (client_abandon client) t)
    (sym (put_here tales.tellers nth (told_abandoned client teller)))
    (record {
      told = told_by_leaving client teller is.told rests;
      asked = leave_asked shape (tales.calls nth) client teller is.told is.asked rests;
    }))
    (λ other apart. refl) (λ other apart. put_beside tales.tellers nth _ other apart)
tales_step shape before _ tales (Cuts nth client here) all =
    let is = all nth client here in
    put_tale before tales all nth tales (client_cut client)
    (record { told = told_cut client (tales.tellers nth) is.told; asked = is.asked }) (λ other apart. refl)
    (λ other apart. refl)

pub all_tales : (shape : Shape) (rows : List Row) (store : Store) (tales : Tales)
    → Reached shape rows no_tales (tales_next shape) store tales → AllTales store tales
all_tales shape rows =
    reached_keeps shape rows no_tales (tales_next shape) AllTales (new_tales shape.start 1 shape.workers)
    (λ before after tales goes all. tales_step shape before after tales goes all)

pub leaves_law : LeavesLaw
leaves_law shape rows store tales reached nth client here =
    let is = all_tales shape rows store tales reached nth client here in
    tells_asked shape (tales.calls nth) client (tales.tellers nth) is.told is.asked

pub asked_law : AskedLaw
asked_law shape rows store tales reached nth client here =
    let is = all_tales shape rows store tales reached nth client here in
    tells_asked shape (tales.calls nth) (client_cut client) (tales.tellers nth)
    (told_cut client (tales.tellers nth) is.told) is.asked
