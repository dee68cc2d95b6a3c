-- Operations that were asked: they stay asked, and the operation that runs is one of them.
use Rattle.std.proofs.Common.{List, None, Option, Some, [], inl, inr, refl, subst, sym, ℕ, ◌++◌, ◌∷◌, ◌≡◌}
use Rattle.std.specs.List.{AllByRecursion}
use Rattle.std.proofs.lemmas.Bool.{false≢true}
use Rattle.si_model.specs.Lists.{Listed, concat_of}
use Rattle.si_model.specs.declared.op.Op.{Op}
use Rattle.si_model.proofs.ListLemmas.{All-from_listed, listed_append_cases, listed_append_left, listed_append_right}
use Rattle.nam_verbs.specs.declared.now.Now.{Now}
use Rattle.nam_verbs.specs.declared.now.Now.TheVariants.{At, Over}
use Rattle.nam_catalog.specs.declared.shape.Shape.{Shape}
use Rattle.nam_protocol.specs.Own.{IsOpenNow}
use Rattle.nam_protocol.specs.declared.client.Answer.{Answer}
use Rattle.nam_protocol.specs.declared.client.Call.{Call}
use Rattle.nam_protocol.specs.declared.client.Call.TheVariants.{Begin, Collect, Scan, Tidy, Txn}
use Rattle.nam_protocol.specs.declared.client.CallPoint.{CallPoint}
use Rattle.nam_protocol.specs.declared.client.CallPoint.TheVariants.{Beginning, Collecting, InTxn, Moving, Scanning}
use Rattle.nam_protocol.specs.declared.client.CallPoint.TheVariants.{Seeking, Snapping}
use Rattle.nam_protocol.specs.declared.client.ClientState.{ClientState}
use Rattle.nam_protocol.specs.declared.client.Open.{Open}
use Rattle.nam_store.specs.Reached.{calls_after}
use Rattle.nam_store.specs.Store.{Abandons, Asks, Cuts, StepsTo, Store, Takes}
use Rattle.nam_store.proofs.Lists.{put_cases}
use Rattle.nam_tells.specs.AskedLaw.{asked_on, attempts_asked, with_asked}
use Rattle.nam_tells.specs.Steps.{call_ops}
use Rattle.nam_tells.specs.Teller.{OpenTold, Teller, running}
use Rattle.nam_tells.proofs.AskedLemmas.{asked_more, asked_now, ops_of}
use Rattle.nam_tells.proofs.AskedStores.{HasTale, all_tales}
use Rattle.nam_claimed.specs.Claimed.{RunsAskedOps, ops_asked}
use Rattle.nam_claimed.specs.ClaimedLaw.{AskedLaw}

-- 1. They stay asked

with_stays : (op : Op) (attempts : List (List Op)) (more : List Op) → Listed op (concat_of attempts)
    → Listed op (concat_of (with_asked attempts more))
with_stays op [] more listed = listed
with_stays op (ops ∷ []) more listed = elim (listed_append_cases ops [] op listed) [
  | inl here ↦ listed_append_left (ops ++ more) [] op (listed_append_left ops more op here)
  | inr none ↦ absurd none
]
with_stays op (ops ∷ next ∷ rest) more listed = elim (listed_append_cases ops (concat_of (next ∷ rest)) op listed) [
  | inl here ↦ listed_append_left ops (concat_of (with_asked (next ∷ rest) more)) op here
  | inr later ↦
      listed_append_right ops (concat_of (with_asked (next ∷ rest) more)) op (with_stays op (next ∷ rest) more later)
]

concat_stays : (op : Op) (attempts more : List (List Op)) → Listed op (concat_of attempts)
    → Listed op (concat_of (attempts ++ more))
concat_stays op [] more listed = absurd listed
concat_stays op (ops ∷ attempts) more listed = elim (listed_append_cases ops (concat_of attempts) op listed) [
  | inl here ↦ listed_append_left ops (concat_of (attempts ++ more)) op here
  | inr later ↦ listed_append_right ops (concat_of (attempts ++ more)) op (concat_stays op attempts more later)
]

on_stays : (op : Op) (attempts : List (List Op)) (asked : Call) → Listed op (concat_of attempts)
    → Listed op (concat_of (asked_on attempts asked))
on_stays op attempts (Begin txn nth) listed = concat_stays op attempts ([] ∷ []) listed
on_stays op attempts (Txn asked) listed = with_stays op attempts (call_ops (Txn asked)) listed
on_stays op attempts (Scan table low high) listed = with_stays op attempts (call_ops (Scan table low high)) listed
on_stays op attempts (Tidy table key) listed = listed
on_stays op attempts (Collect bucket) listed = listed

one_more : (op : Op) (calls : List Call) (asked : Call) → Listed op (ops_asked calls)
    → Listed op (ops_asked (calls ++ asked ∷ []))
one_more op calls asked listed =
    subst (λ attempts. Listed op (concat_of attempts)) (sym (asked_more [] calls asked))
    (on_stays op (attempts_asked calls) asked listed)

-- so it is of each client by a step
pub asked_stays : (shape : Shape) (before after : Store) (goes : StepsTo shape before after) (calls : ℕ → List Call)
    (nth : ℕ) (op : Op) → Listed op (ops_asked (calls nth))
    → Listed op (ops_asked (calls_after shape before after goes calls nth))
asked_stays shape before _ (Takes nth client place here runs at) calls other op listed = listed
asked_stays shape before _ (Asks nth client asked here may words) calls other op listed =
    put_cases (λ (those : List Call). Listed op (ops_asked those)) calls nth (calls nth ++ asked ∷ []) other
    (λ same. one_more op (calls nth) asked (subst (λ k. Listed op (ops_asked (calls k))) same listed))
    (λ apart. listed)
asked_stays shape before _ (Abandons nth client here rests) calls other op listed = listed
asked_stays shape before _ (Cuts nth client here) calls other op listed = listed

-- 2. What runs was asked

-- an operation runs only where a transaction is open
closed_runs : (call : Option (Now CallPoint Answer)) → IsOpenNow None call → running call ≡ []
closed_runs (Some (At (Beginning txn nth at))) is = refl
closed_runs (Some (At (InTxn at))) is = absurd (false≢true is)
closed_runs (Some (At (Scanning table low high at))) is = absurd (false≢true is)
closed_runs (Some (At (Seeking table key passed))) is = refl
closed_runs (Some (At (Moving table key position at))) is = refl
closed_runs (Some (At (Snapping bucket at))) is = refl
closed_runs (Some (At (Collecting bucket prefix seen at))) is = refl
closed_runs (Some (Over answer)) is = refl
closed_runs None is = refl

last_listed : (op : Op) (front : List (List Op)) (ops : List Op) → Listed op ops
    → Listed op (concat_of (front ++ ops ∷ []))
last_listed op [] ops listed = listed_append_left ops [] op listed
last_listed op (x ∷ front) ops listed =
    listed_append_right x (concat_of (front ++ ops ∷ [])) op (last_listed op front ops listed)

-- the teller's last operation is the one that runs, and all of them were asked
pub tale_asked : (calls : List Call) (client : ClientState) (teller : Teller) → HasTale calls client teller
    → RunsAskedOps calls client
tale_asked calls client teller tale = by client.txn tale.told.opens tale.told.opened tale.asked
  where
    by : (opened : Option Open) → IsOpenNow opened client.call → OpenTold teller (running client.call) opened
        → attempts_asked calls ≡ ops_of teller.front ++ asked_now teller opened client.call → RunsAskedOps calls client
    by None opens told asked =
        subst (AllByRecursion (λ op. Listed op (ops_asked calls))) (sym (closed_runs client.call opens)) tt
    by (Some attempt) opens told asked =
        All-from_listed (λ op. Listed op (ops_asked calls)) (running client.call) (λ op listed.
        subst (λ attempts. Listed op (concat_of attempts)) (sym asked)
        (last_listed op (ops_of teller.front) teller.ops
        (subst (Listed op) (sym told.asked) (listed_append_right teller.passed (running client.call) op listed))))

pub asked_holds : AskedLaw
asked_holds shape rows store tales reached nth client here =
    tale_asked (tales.calls nth) client (tales.tellers nth) (all_tales shape rows store tales reached nth client here)
