-- Calls that are neither moves nor collections: they list no collection, and whatever call follows has only begun.
use Rattle.std.proofs.Common.{List, None, Option, Some, [], arith, inr, length, refl, ℕ}
use Rattle.nam_verbs.specs.declared.now.Now.TheVariants.{At, Over}
use Rattle.nam_verbs.specs.declared.now.Now.{Now}
use Rattle.nam_vector.specs.Snap.{snap_after}
use Rattle.nam_calls.specs.Index.{find_after}
use Rattle.nam_calls.specs.Words.{path_of}
use Rattle.nam_calls.specs.declared.horizon.CollectPoint.TheVariants.{HorizonLook}
use Rattle.nam_calls.specs.declared.horizon.CollectPoint.{CollectPoint}
use Rattle.nam_calls.specs.declared.mover.MovePoint.TheVariants.{MoveCount}
use Rattle.nam_calls.specs.declared.mover.MovePoint.{MovePoint}
use Rattle.nam_catalog.specs.declared.shape.Shape.{Shape}
use Rattle.nam_filled.proofs.LogLemmas.{IsCalm}
use Rattle.nam_filled.specs.Filled.{NowOk, Scene}
use Rattle.nam_filled.specs.Moves.{Lists, NoEvent, OneEvent}
use Rattle.nam_protocol.proofs.GoesClient.{begin_goes, on_answer_goes, scan_goes, seek_goes, snap_goes, stepped_goes}
use Rattle.nam_protocol.proofs.GoesClient.{step_lists, step_opens}
use Rattle.nam_protocol.specs.Client.{abandon_open, ask_scan, ask_txn, call_after, client_abandon, client_ask}
use Rattle.nam_protocol.specs.Client.{take_scan, take_txn, with_call}
use Rattle.nam_protocol.specs.Own.{Rests}
use Rattle.nam_protocol.specs.Scan.{position_of, scan_after}
use Rattle.nam_protocol.specs.Telling.{go, stepped}
use Rattle.nam_protocol.specs.Txn.{Stepped}
use Rattle.nam_protocol.specs.TxnCalls.{taken_at, txn_after, txn_ask}
use Rattle.nam_protocol.specs.declared.client.Answer.{Answer}
use Rattle.nam_protocol.specs.declared.client.Call.TheVariants.{Begin, Collect, Scan, Tidy, Txn}
use Rattle.nam_protocol.specs.declared.client.Call.{Call}
use Rattle.nam_protocol.specs.declared.client.CallPoint.TheVariants.{Beginning, Collecting, InTxn, Moving, Scanning}
use Rattle.nam_protocol.specs.declared.client.CallPoint.TheVariants.{Seeking, Snapping}
use Rattle.nam_protocol.specs.declared.client.CallPoint.{CallPoint}
use Rattle.nam_protocol.specs.declared.client.ClientState.{ClientState}
use Rattle.nam_protocol.specs.declared.client.Open.{Open}
use Rattle.nam_protocol.specs.declared.scan.ScanPoint.{ScanPoint}
use Rattle.nam_protocol.specs.declared.txn.TxnPoint.{TxnPoint}
use Rattle.nam_protocol.specs.Telling as telling
use Rattle.nam_protocol.specs.declared.client.Answer.TheVariants as client_answer

-- 1. Which calls, and what may follow them

abbrev pub IsQuiet : CallPoint → Type 0
IsQuiet (Moving table key position at) = ⊥
IsQuiet (Collecting bucket prefix seen at) = ⊥
IsQuiet _ = Unit {0}

abbrev IsFirstMove : MovePoint → Type 0
IsFirstMove MoveCount = Unit {0}
IsFirstMove _ = ⊥

abbrev IsFirstCollect : CollectPoint → Type 0
IsFirstCollect (HorizonLook []) = Unit {0}
IsFirstCollect _ = ⊥

abbrev pub IsStarting : Option (Now CallPoint Answer) → Type 0
IsStarting (Some (At (Moving table key position at))) = IsFirstMove at
IsStarting (Some (At (Collecting bucket prefix seen at))) = IsFirstCollect at
IsStarting _ = Unit {0}

pub quiet_calm : (shape : Shape) (place : CallPoint) → IsQuiet place → IsCalm shape (Some (At place))
quiet_calm shape (Moving table key position at) quiet = absurd quiet
quiet_calm shape (Collecting bucket prefix seen at) quiet = absurd quiet
quiet_calm shape (Beginning txn nth at) quiet = record { none = refl; aside = λ b c f. f; idle = λ f. f }
quiet_calm shape (InTxn at) quiet = record { none = refl; aside = λ b c f. f; idle = λ f. f }
quiet_calm shape (Scanning table low high at) quiet = record { none = refl; aside = λ b c f. f; idle = λ f. f }
quiet_calm shape (Seeking table key passed) quiet = record { none = refl; aside = λ b c f. f; idle = λ f. f }
quiet_calm shape (Snapping bucket at) quiet = record { none = refl; aside = λ b c f. f; idle = λ f. f }

pub rests_calm : (shape : Shape) (call : Option (Now CallPoint Answer)) → Rests call → IsCalm shape call
rests_calm shape None rests = record { none = refl; aside = λ b c f. f; idle = λ f. f }
rests_calm shape (Some (Over answer)) rests = record { none = refl; aside = λ b c f. f; idle = λ f. f }
rests_calm shape (Some (At place)) rests = absurd rests

module _ (shape : Shape) (scene : Scene) (nth : ℕ) where
  first_move : (table key position : ℕ) (at : MovePoint) → IsFirstMove at
      → NowOk shape scene nth (Some (At (Moving table key position at)))
  first_move table key position MoveCount starting = tt
  first_move table key position _ starting = absurd starting

  first_collect : (bucket prefix : ℕ) (seen : List ℕ) (at : CollectPoint) → IsFirstCollect at
      → NowOk shape scene nth (Some (At (Collecting bucket prefix seen at)))
  first_collect bucket prefix seen (HorizonLook []) starting = inr (λ a less. absurd (omega arith))
  first_collect bucket prefix seen _ starting = absurd starting

  pub starts : (call : Option (Now CallPoint Answer)) → IsStarting call → NowOk shape scene nth call
  starts None starting = tt
  starts (Some (Over answer)) starting = tt
  starts (Some (At (Moving table key position at))) starting = first_move table key position at starting
  starts (Some (At (Collecting bucket prefix seen at))) starting = first_collect bucket prefix seen at starting
  starts (Some (At (Beginning txn n at))) starting = tt
  starts (Some (At (InTxn at))) starting = tt
  starts (Some (At (Scanning table low high at))) starting = tt
  starts (Some (At (Seeking table key passed))) starting = tt
  starts (Some (At (Snapping bucket at))) starting = tt

-- 2. Each call

abbrev pub Quiet : ClientState → ClientState → Type 0
Quiet client later = Lists client.log.events later.log.events × IsStarting later.call

module _ (shape : Shape) (client : ClientState) where
  abbrev Steps : ClientState → Type 0
  Steps later = Quiet client later

  stepped_quiet : (attempt : Open) (before : ℕ) (step : Stepped) → Steps (stepped client attempt before step)
  stepped_quiet attempt before step =
      stepped_goes Steps client attempt before step (λ place e. (NoEvent refl, tt))
      (λ answer e.
      on_answer_goes (λ c. Steps (telling.with_answer c (client_answer.Txn answer)))
      (step_lists client before step) (step_opens attempt before step) answer (λ f. (NoEvent refl, tt))
      (λ outcome f. (OneEvent _ refl refl, tt)) (λ outcome f. (OneEvent _ refl refl, tt))
      (λ number f. (OneEvent _ refl refl, tt)))

  txn_quiet : (at : TxnPoint) (opened : Option Open) (found : ℕ) → IsStarting client.call
      → Steps (take_txn shape client at opened found)
  txn_quiet at None found starting = (NoEvent refl, starting)
  txn_quiet at (Some attempt) found starting =
      stepped_quiet attempt (length (taken_at attempt.state at)) (txn_after shape attempt.state at found)

  scan_quiet : (table low high : ℕ) (at : ScanPoint) (opened : Option Open) (found : ℕ) → IsStarting client.call
      → Steps (take_scan shape client table low high at opened found)
  scan_quiet table low high at None found starting = (NoEvent refl, starting)
  scan_quiet table low high at (Some attempt) found starting =
      scan_goes Steps shape client attempt table low high (position_of at)
      (scan_after shape table low high attempt.state.seen at found)
      (λ place e. (NoEvent refl, tt)) (λ key e. (NoEvent refl, tt)) (λ rows e. (NoEvent refl, tt))
      (λ rows. (NoEvent refl, tt)) (λ outcome end e. (OneEvent _ refl refl, tt))

-- by a word
pub word_quiet : (shape : Shape) (client : ClientState) (place : CallPoint) (found : ℕ) → IsQuiet place
    → Quiet (go client place) (call_after shape (go client place) place found)
word_quiet shape client (Beginning txn nth at) found quiet =
    let c = go client (Beginning txn nth at) in
    begin_goes (Quiet c) shape c txn nth (snap_after shape.workers at found) (λ next e. (NoEvent refl, tt))
    (λ seen e. (NoEvent refl, tt)) (λ worker first second e. (OneEvent _ refl refl, tt))
word_quiet shape client (InTxn at) found quiet = txn_quiet shape (go client (InTxn at)) at client.txn found tt
word_quiet shape client (Scanning table low high at) found quiet =
    scan_quiet shape (go client (Scanning table low high at)) table low high at client.txn found tt
word_quiet shape client (Seeking table key passed) found quiet =
    let c = go client (Seeking table key passed) in
    seek_goes (Quiet c) shape c table key (find_after (path_of shape table key) passed found)
    (λ next e. (NoEvent refl, tt)) (λ position e. (NoEvent refl, tt)) (λ e. (NoEvent refl, tt))
word_quiet shape client (Snapping bucket at) found quiet =
    let c = go client (Snapping bucket at) in
    snap_goes (Quiet c) shape c bucket (snap_after shape.workers at found) (λ next e. (NoEvent refl, tt))
    (λ seen e. (NoEvent refl, tt)) (λ worker first second e. (OneEvent _ refl refl, tt))
word_quiet shape client (Moving table key position at) found quiet = absurd quiet
word_quiet shape client (Collecting bucket prefix seen at) found quiet = absurd quiet

rests_starting : (call : Option (Now CallPoint Answer)) → Rests call → IsStarting call
rests_starting None rests = tt
rests_starting (Some (Over answer)) rests = tt
rests_starting (Some (At place)) rests = absurd rests

-- by a call that is asked
pub ask_quiet : (shape : Shape) (client : ClientState) (asked : Call) → Rests client.call
    → Quiet client (client_ask shape client asked)
ask_quiet shape client (Begin txn nth) rests = (NoEvent refl, tt)
ask_quiet shape client (Tidy table key) rests = (NoEvent refl, tt)
ask_quiet shape client (Collect bucket) rests = (NoEvent refl, tt)
ask_quiet shape client (Txn asked) rests = by client.txn
  where
    by : (opened : Option Open) → Quiet client (ask_txn shape client asked opened)
    by None = (NoEvent refl, rests_starting client.call rests)
    by (Some attempt) = stepped_quiet shape client (with_call attempt asked) 0 (txn_ask shape attempt.state asked)
ask_quiet shape client (Scan table low high) rests = by client.txn
  where
    by : (opened : Option Open) → Quiet client (ask_scan shape client table low high opened)
    by None = (NoEvent refl, rests_starting client.call rests)
    by (Some attempt) = (NoEvent refl, tt)

-- by a transaction that is given up
pub abandon_quiet : (client : ClientState) → Rests client.call → Quiet client (client_abandon client)
abandon_quiet client rests = by client.txn
  where
    by : (opened : Option Open) → Quiet client (abandon_open client opened)
    by None = (NoEvent refl, rests_starting client.call rests)
    by (Some attempt) = (OneEvent _ refl refl, rests_starting client.call rests)
