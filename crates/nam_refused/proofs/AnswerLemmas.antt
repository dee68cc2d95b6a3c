-- What the answers Newer and Locked come to at the word that ends a commit, and whose a lock is that a commit meets.
use Rattle.std.proofs.Common.{Some, length, subst, ℕ, ◌≡◌}
use Rattle.nam_calls.specs.Memory.{memory}
use Rattle.nam_catalog.specs.declared.shape.Shape.{Shape}
use Rattle.nam_ghost.specs.Locks.{LocksOk}
use Rattle.nam_ghost.specs.Versions.{Chain}
use Rattle.nam_protocol.specs.Client.{client_after}
use Rattle.nam_protocol.specs.Commit.{commit_after}
use Rattle.nam_protocol.specs.Sorts.{committing_at}
use Rattle.nam_protocol.specs.declared.client.ClientState.{ClientState}
use Rattle.nam_protocol.specs.declared.client.Open.{Open}
use Rattle.nam_protocol.specs.declared.txn.CommitPoint.{CommitPoint}
use Rattle.nam_protocol.specs.declared.txn.TxnAnswer.{TxnAnswer}
use Rattle.nam_protocol.specs.declared.txn.TxnState.{TxnState}
use Rattle.nam_refused.proofs.CommitLemmas.{commit_word}
use Rattle.nam_refused.proofs.StayLemmas.{goes_nowhere}
use Rattle.nam_refused.proofs.WordLemmas.{step_ends}
use Rattle.nam_refused.specs.Refused.{AnswerOk, PointOk, RefusedOk}
use Rattle.nam_refused.specs.RefusedLaw.{EndsWith, FoundLaw, NewerLaw}
use Rattle.nam_refused.specs.Views.{InNow}
use Rattle.nam_store.specs.Base.{BaseOk}
use Rattle.nam_store.specs.Store.{Store, found_word}
use Rattle.nam_verbs.specs.declared.now.Now.TheVariants.{Over}
use Rattle.nam_protocol.specs.declared.client.Answer.TheVariants as client_answer
use Rattle.nam_protocol.specs.declared.txn.TxnAnswer.TheVariants as txn_answer

-- What is said of a commit that has stepped, of the answer that ends it. Whatever is said of the commit's word is said
-- of the client at its point.
pub ends_as : (shape : Shape) (store : Store) (Point : TxnState → CommitPoint → Type 0)
    (Ends : TxnState → TxnAnswer → Type 0) (nth : ℕ) (client : ClientState) (attempt : Open) (answer : TxnAnswer)
    (ends : EndsWith shape store nth client attempt answer)
    → (let step = commit_after attempt.state ends.at (found_word shape store client) in
    InNow Point (Ends attempt.state) step.state step.call) → Ends attempt.state answer
ends_as shape store Point Ends nth client attempt answer ends ok =
    let at = ends.at in
    let found = found_word shape store client in
    let before = committing_at client attempt at in
    let same : client ≡ before = λ k. record client { call = ends.runs k; txn = ends.opened k } in
    step_ends Point (Ends attempt.state) before attempt (length attempt.state.held)
    (commit_after attempt.state at found) answer ok
    (subst (λ (c : ClientState). (client_after shape c found).call ≡ Some (Over (client_answer.Txn answer))) same
    ends.answers)

ends_ok : (shape : Shape) (store : Store) (chains : ℕ → Chain) → BaseOk shape store → LocksOk shape store chains
    → RefusedOk shape store chains → (nth : ℕ) (client : ClientState) (attempt : Open) (answer : TxnAnswer)
    → EndsWith shape store nth client attempt answer → AnswerOk shape chains attempt.state answer
ends_ok shape store chains base locks ok nth client attempt answer ends =
    let at = ends.at in
    let same : client ≡ committing_at client attempt at =
    λ k. record client { call = ends.runs k; txn = ends.opened k } in
    ends_as shape store (PointOk shape chains) (AnswerOk shape chains) nth client attempt answer ends
    (commit_word shape base.limits (memory shape store.words) chains chains locks.rows nth client client attempt at
    same (base.clients nth client ends.here) (λ seen listed row is. goes_nowhere seen (chains row))
    (ok nth client ends.here))

pub newer_holds : NewerLaw
newer_holds shape store chains base locks ok nth client attempt lock ends =
    ends_ok shape store chains base locks ok nth client attempt (txn_answer.Newer lock) ends

pub found_holds : FoundLaw
found_holds shape store chains base locks ok nth client attempt lock ends =
    ends_ok shape store chains base locks ok nth client attempt (txn_answer.Locked lock) ends
