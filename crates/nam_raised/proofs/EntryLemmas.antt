-- What is told of collections is that of the ended events, and of the collection that runs; the end of a log tells no
-- other.
use Rattle.std.proofs.Common.{Bool, List, None, Option, Some, [], ap, false, refl, sym, true, ℕ, ◌++◌, ◌+◌}
use Rattle.std.proofs.Common.{◌-◌, ◌==◌, ◌||◌, ◌∙◌, ◌∷◌, ◌≡◌, ◌⊎◌}
use Rattle.std.specs.Prelude.{slice_index}
use Rattle.std.proofs.Math.Bool.{or-false, or-true}
use Rattle.std.proofs.lemmas.Bool.{or_cases}
use Rattle.std.proofs.lemmas.List.Folds.{list_any-append}
use Rattle.si_model.specs.Causes.{collects_entry}
use Rattle.si_model.specs.Tells.{Tell}
use Rattle.si_model.specs.declared.log.Finish.{Finish}
use Rattle.si_model.specs.declared.log.Stamp.{Stamp}
use Rattle.nam_verbs.specs.declared.now.Now.{Now}
use Rattle.nam_verbs.specs.declared.now.Now.TheVariants.{At, Over}
use Rattle.nam_catalog.specs.declared.shape.Shape.{Shape}
use Rattle.nam_layout.specs.Place.{bucket_of, place_of}
use Rattle.nam_calls.specs.Mover.{move_claimed}
use Rattle.nam_protocol.specs.CutClient.{finish_of, has_committed}
use Rattle.nam_protocol.specs.declared.client.Answer.{Answer}
use Rattle.nam_protocol.specs.declared.client.CallPoint.{CallPoint}
use Rattle.nam_protocol.specs.declared.client.CallPoint.TheVariants.{Beginning, Collecting, InTxn, Moving, Scanning}
use Rattle.nam_protocol.specs.declared.client.CallPoint.TheVariants.{Seeking, Snapping}
use Rattle.nam_protocol.specs.declared.client.ClientState.{ClientState}
use Rattle.nam_protocol.specs.declared.client.Open.{Open}
use Rattle.nam_protocol.specs.declared.txn.CommitPoint.TheVariants.{Ending, Freeing}
use Rattle.nam_protocol.specs.declared.txn.TxnPoint.{TxnPoint}
use Rattle.nam_protocol.specs.declared.txn.TxnPoint.TheVariants.{Committing}
use Rattle.nam_verbs.proofs.TestLemmas.{by_test}
use Rattle.nam_tells.specs.Teller.{Teller, attempt_tell, bare_tell, call_end, commit_tell, end_of, in_txn_end, move_end}
use Rattle.nam_tells.specs.Teller.{now_end, open_end, treated_end, treated_txn_end}
use Rattle.nam_tells.specs.TellsLaw.{tells_now}
use Rattle.nam_raised.specs.Raised.{tells_entry}
use Rattle.si_model.specs.declared.log.Event.TheVariants as event
use Rattle.si_model.specs.declared.log.Outcome.TheVariants as outcome
use Rattle.si_model.specs.declared.log.Outcome.{Outcome}

module _ (worker entry : ℕ) where
  -- does the call that runs collect by the entry
  abbrev pub runs_entry : Option (Now CallPoint Answer) → Bool
  runs_entry (Some (At (Collecting bucket prefix seen at))) = slice_index seen (worker - 1) == entry
  runs_entry _ = false

  pub tells_more : (before more : List Tell)
      → tells_entry worker entry (before ++ more) ≡ (tells_entry worker entry before || tells_entry worker entry more)
  tells_more = list_any-append (λ (t : Tell). collects_entry worker entry t.event)

  module _ (shape : Shape) (teller : Teller) where
    abbrev Tells : List Tell → Bool → Type 0
    Tells tells is = tells_entry worker entry tells ≡ is

    -- 1. The end of a log

    open_says : (how : Outcome) (opened : Option Open) → Tells (open_end shape teller how opened) false
    open_says how None = refl
    open_says how (Some attempt) = refl

    in_txn_says : (at : TxnPoint) (opened : Option Open) → Tells (in_txn_end shape teller at opened) false
    in_txn_says at None = refl
    in_txn_says (Committing (Freeing nth)) (Some attempt) = refl
    in_txn_says (Committing Ending) (Some attempt) = refl
    in_txn_says (Committing _) (Some attempt) = refl
    in_txn_says _ (Some attempt) = refl

    move_says : (table key bucket : ℕ) (claimed : Option Stamp)
        → Tells (move_end shape teller table key bucket claimed) false
    move_says table key bucket None = refl
    move_says table key bucket (Some stamp) = refl

    call_says : (cut : Bool) (opened : Option Open) (call : Option (Now CallPoint Answer))
        → Tells (call_end shape teller cut opened call) (runs_entry call)
    call_says cut opened None = open_says _ opened
    call_says cut opened (Some (Over answer)) = open_says _ opened
    call_says cut opened (Some (At (Beginning txn nth at))) = refl
    call_says cut opened (Some (At (InTxn at))) = in_txn_says at opened
    call_says cut opened (Some (At (Scanning table low high at))) = open_says _ opened
    call_says cut opened (Some (At (Seeking table key passed))) = refl
    call_says cut opened (Some (At (Moving table key position at))) =
        let place = place_of shape table position in
        move_says table key (bucket_of shape place.row) (move_claimed place at)
    call_says cut opened (Some (At (Snapping bucket at))) = refl
    call_says cut opened (Some (At (Collecting bucket prefix seen at))) =
        or-false (slice_index seen (worker - 1) == entry)

    treated_txn_says : (how : Finish) (at : TxnPoint) (opened : Option Open)
        → Tells (treated_txn_end shape teller how at opened) false
    treated_txn_says how at None = refl
    treated_txn_says how at (Some attempt) =
        by_test (λ tells. Tells tells false) (has_committed at how)
        (commit_tell teller attempt (attempt.state.last + 1) ∷ [])
        (attempt_tell teller attempt outcome.Cut [] ∷ []) (λ e. refl) (λ e. refl)

    treated_says : (cut : Bool) (how : Finish) (opened : Option Open) (call : Option (Now CallPoint Answer))
        → Tells (treated_end shape teller cut how opened call) (runs_entry call)
    treated_says cut how opened (Some (At (InTxn at))) = treated_txn_says how at opened
    treated_says cut how opened None = call_says cut opened None
    treated_says cut how opened (Some call) = call_says cut opened (Some call)

    now_says : (cut : Bool) (finish : Option Finish) (opened : Option Open) (call : Option (Now CallPoint Answer))
        → Tells (now_end shape teller cut finish opened call) (runs_entry call)
    now_says cut None opened call = call_says cut opened call
    now_says cut (Some how) opened call =
        tells_more (treated_end shape teller cut how opened call) (bare_tell (event.Finished how) [] ∷ [])
        ∙ or-false (tells_entry worker entry (treated_end shape teller cut how opened call))
        ∙ treated_says cut how opened call

    pub end_says : (client : ClientState) → Tells (end_of shape teller client) (runs_entry client.call)
    end_says client = now_says client.cut (finish_of client.medic) client.txn client.call

    -- 2. All that is told

    says : (client : ClientState)
        → Tells (tells_now shape teller client) (tells_entry worker entry teller.front || runs_entry client.call)
    says client =
        tells_more teller.front (end_of shape teller client)
        ∙ ap (λ is. tells_entry worker entry teller.front || is) (end_says client)

    pub told_cases : (client : ClientState) → Tells (tells_now shape teller client) true
        → Tells teller.front true ⊎ (runs_entry client.call ≡ true)
    told_cases client is =
        or_cases (tells_entry worker entry teller.front) (runs_entry client.call) (sym (says client) ∙ is)

    pub front_told : (client : ClientState) → Tells teller.front true → Tells (tells_now shape teller client) true
    front_told client is = says client ∙ ap (λ front. front || runs_entry client.call) is

    pub call_told : (client : ClientState) → runs_entry client.call ≡ true → Tells (tells_now shape teller client) true
    call_told client is =
        says client ∙ ap (λ runs. tells_entry worker entry teller.front || runs) is
        ∙ or-true (tells_entry worker entry teller.front)
