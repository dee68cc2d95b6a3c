-- A word adds at most one claim, and only with the call's answer.
use Rattle.std.proofs.Common.{◌≡◌, ◌⊎◌, inl, inr, ℕ, refl}
use Rattle.nam_verbs.specs.declared.now.Now.TheVariants.{Over}
use Rattle.nam_catalog.specs.declared.shape.Shape.{Shape}
use Rattle.nam_protocol.specs.declared.txn.Record.{Record}
use Rattle.nam_protocol.specs.declared.txn.TxnState.{TxnState}
use Rattle.nam_protocol.specs.declared.txn.TxnPoint.{TxnPoint}
use Rattle.nam_protocol.specs.declared.txn.TxnPoint.TheVariants.{Finding, Reading, Claiming, Committing}
use Rattle.nam_protocol.specs.declared.txn.TxnAnswer.{TxnAnswer}
use Rattle.nam_protocol.specs.Txn.{Stepped, with_claim, record_of}
use Rattle.nam_protocol.specs.TxnCalls.{txn_after}
use Rattle.nam_protocol.proofs.GoesTxn.{finding_goes, reading_goes, claiming_goes}
use Rattle.nam_protocol.proofs.GoesCommit.{commit_goes}

-- the claims stay, or there is one more and the call was answered
abbrev pub ClaimsOnce : TxnState → Stepped → Type 0
ClaimsOnce state s =
    (s.state.claims ≡ state.claims)
    ⊎ ((r : Record) × (answer : TxnAnswer) × (s.state.claims ≡ with_claim state.claims r) × (s.call ≡ Over answer))

pub claims_once : (shape : Shape) (state : TxnState) (at : TxnPoint) (found : ℕ)
    → ClaimsOnce state (txn_after shape state at found)
claims_once shape state (Finding o passed) found =
    finding_goes shape (ClaimsOnce state) o state passed found (λ next e. inl refl) (λ position e. inl refl)
    (λ e f. inl refl) (λ e end silent. inl refl)
claims_once shape state (Reading o position place) found =
    reading_goes shape (ClaimsOnce state) o state position place found (λ next e. inl refl) (λ value e f. inl refl)
    (λ value e end silent. inl refl) (λ worker entry horizon e. inl refl) (λ e. inl refl)
claims_once shape state (Claiming o place) found =
    claiming_goes shape (ClaimsOnce state) o state place found (λ next e. inl refl) (λ e. inl refl)
    (λ position e end silent is. inr (record_of shape o position, end, refl, refl))
claims_once shape state (Committing place) found =
    commit_goes (ClaimsOnce state) state place found (λ next goes. inl refl) (λ header next is goes. inl refl)
    (λ at count next is goes. inl refl) (λ end ends. inl refl)
