-- The locks that the open attempt has told are those that it holds.
use Rattle.std.proofs.Common.{List, [], ap, arith, length, refl, subst, suc, sym, ℕ, ◌+◌, ◌++◌, ◌∙◌, ◌∷◌, ◌≡◌}
use Rattle.std.specs.List.{flat_map}
use Rattle.std.specs.Prelude.{drop}
use Rattle.std.proofs.Math.Seq.{drop-append_seam}
use Rattle.std.proofs.lemmas.List.{length-append}
use Rattle.si_model.specs.Tells.{Tell}
use Rattle.nam_protocol.specs.Carries.{OpenCarries}
use Rattle.nam_protocol.specs.Telling.{locks_from}
use Rattle.nam_protocol.specs.declared.txn.TxnState.{TxnState}
use Rattle.nam_tells.specs.Teller.{OpenTold, running}
use Rattle.nam_tells.specs.TellsLaw.{HeldLaw}

-- two ends of one list that are of one length
same_ends : {A : Type 0} (front xs other ys : List A) → front ++ xs ≡ other ++ ys → length xs ≡ length ys → xs ≡ ys
same_ends front xs other ys same long =
    let fronts : length front ≡ length other =
    let a = length-append front xs in
    let b = length-append other ys in
    let c = ap (λ zs. length zs) same in
    omega (arith, a, b, c, long) in
    sym (drop-append_seam front xs) ∙ ap (λ zs. drop (length front) zs) same
    ∙ ap (λ n. drop n (other ++ ys)) fronts ∙ drop-append_seam other ys

length-locks_from : (state : TxnState) (nth : ℕ) (headers : List ℕ)
    → length (locks_from state nth headers) ≡ length headers
length-locks_from state nth [] = refl
length-locks_from state nth (header ∷ headers) = ap suc (length-locks_from state (nth + 1) headers)

pub held_law : HeldLaw
held_law client teller attempt told carries opened =
    let counted = subst (OpenTold teller (running client.call)) opened told.opened in
    let took = (subst (OpenCarries client.last client.log.locks client.call) opened carries.opened).took in
    same_ends (flat_map (λ (t : Tell). t.locks) teller.front) teller.locks took.earlier
    (locks_from attempt.state 0 attempt.state.held) (sym told.lists.locks ∙ took.listed)
    (sym counted.locks_count ∙ took.number ∙ sym (length-locks_from attempt.state 0 attempt.state.held))
