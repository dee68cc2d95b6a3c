-- Each answer of a client is one to its call.
use Rattle.std.specs.Prelude.{ℕ, Option, Some}
use Rattle.nam_verbs.specs.declared.now.Now.{Now}
use Rattle.nam_verbs.specs.declared.now.Now.TheVariants.{Over}
use Rattle.nam_catalog.specs.declared.shape.Shape.{Shape}
use Rattle.nam_protocol.specs.declared.client.Answer.{Answer}
use Rattle.nam_protocol.specs.declared.client.Call.{Call}
use Rattle.nam_protocol.specs.declared.client.CallPoint.{CallPoint}
use Rattle.nam_protocol.specs.declared.client.ClientState.{ClientState}
use Rattle.nam_protocol.specs.AskedLaw.{call_at}
use Rattle.nam_protocol.specs.Client.{call_after, client_ask}
use Rattle.nam_protocol.specs.ClientFits.{CallFits, CallPointFits}
use Rattle.nam_worker.specs.Answering.{IsAnswerTo}

-- where the call was answered, it was so
abbrev pub NowAnswers : Call → Option (Now CallPoint Answer) → Type 0
NowAnswers asked (Some (Over end)) = IsAnswerTo asked end
NowAnswers asked _ = Unit {0}

abbrev pub AnswersAs : Call → ClientState → Type 0
AnswersAs asked client = NowAnswers asked client.call

-- after a word that a call takes, and once a call is asked
abbrev pub WordAnswersLaw : Type 0
WordAnswersLaw = (shape : Shape) (client : ClientState) (at : CallPoint) (found : ℕ)
    → CallPointFits shape client.txn at → AnswersAs (call_at at) (call_after shape client at found)

abbrev pub AskAnswersLaw : Type 0
AskAnswersLaw = (shape : Shape) (client : ClientState) (asked : Call) → CallFits shape client.txn asked
    → AnswersAs asked (client_ask shape client asked)
