-- Over the calls that a client was asked: the operations of its attempts are those that were asked in them.
use Rattle.std.specs.Prelude.{List, [], ℕ, ◌++◌, ◌∷◌, ◌≡◌}
use Rattle.si_model.specs.Tells.{tells_with}
use Rattle.si_model.specs.declared.op.Op.{Op}
use Rattle.si_model.specs.declared.row.Row.{Row}
use Rattle.nam_catalog.specs.declared.shape.Shape.{Shape}
use Rattle.nam_protocol.specs.CutClient.{client_cut, into_log}
use Rattle.nam_protocol.specs.declared.client.Call.TheVariants.{Begin, Scan, Txn}
use Rattle.nam_protocol.specs.declared.client.Call.{Call}
use Rattle.nam_protocol.specs.declared.client.ClientState.{ClientState}
use Rattle.nam_store.specs.Everyone.{Everyone}
use Rattle.nam_store.specs.Reached.{GhostStep, Reached, calls_after}
use Rattle.nam_store.specs.Store.{Store}
use Rattle.nam_tells.specs.Steps.{call_ops, no_tells, tells_next}
use Rattle.nam_tells.specs.Teller.{Teller}
use Rattle.nam_tells.specs.TellsLaw.{tells_now}

-- 1. The operations of the attempts, by the calls: a begin opens one, and what is asked then is of the last

abbrev pub with_asked : List (List Op) → List Op → List (List Op)
with_asked [] more = []
with_asked (ops ∷ []) more = (ops ++ more) ∷ []
with_asked (ops ∷ next ∷ rest) more = ops ∷ with_asked (next ∷ rest) more

abbrev pub asked_on : List (List Op) → Call → List (List Op)
asked_on attempts (Begin txn nth) = attempts ++ [] ∷ []
asked_on attempts (Txn asked) = with_asked attempts (call_ops (Txn asked))
asked_on attempts (Scan table low high) = with_asked attempts (call_ops (Scan table low high))
asked_on attempts _ = attempts

abbrev pub asked_from : List (List Op) → List Call → List (List Op)
asked_from attempts [] = attempts
asked_from attempts (asked ∷ calls) = asked_from (asked_on attempts asked) calls

abbrev pub attempts_asked : List Call → List (List Op)
attempts_asked calls = asked_from [] calls

-- 2. A store's clients: the calls that each was asked, oldest first, and its teller

pub record Tales : Type 0 where
  pub calls : ℕ → List Call
  pub tellers : ℕ → Teller

abbrev pub no_tales : Tales
no_tales = record { calls = λ nth. []; tellers = no_tells }

abbrev pub tales_next : (shape : Shape) → GhostStep shape Tales
tales_next shape before after goes tales = record {
  calls = calls_after shape before after goes tales.calls;
  tellers = tells_next shape before after goes tales.tellers;
}

-- the log of the client that is cut now tells, over those operations, what was told and what is still to be told
abbrev pub TellsAsked : Shape → List Call → Teller → ClientState → Type 0
TellsAsked shape calls teller client =
    tells_with (attempts_asked calls) (into_log shape client) ≡ tells_now shape teller client

abbrev pub AskedLaw : Type 0
AskedLaw = (shape : Shape) (rows : List Row) (store : Store) (tales : Tales)
    → Reached shape rows no_tales (tales_next shape) store tales
    → Everyone (λ nth client. TellsAsked shape (tales.calls nth) (tales.tellers nth) (client_cut client)) store.clients

-- so does the log that the client leaves as it is
abbrev pub LeavesLaw : Type 0
LeavesLaw = (shape : Shape) (rows : List Row) (store : Store) (tales : Tales)
    → Reached shape rows no_tales (tales_next shape) store tales
    → Everyone (λ nth client. TellsAsked shape (tales.calls nth) (tales.tellers nth) client) store.clients
