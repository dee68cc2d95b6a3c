-- The cause of an attempt that is too old, in the model's words: what another client tells is among all others' events.
use Rattle.std.proofs.Common.{List, Some, [], arith, subst, suc, sym, zero, ℕ, ◌+◌, ◌++◌, ◌∷◌, ◌≡◌, ◌≢◌, ⊎_elim, true}
use Rattle.std.specs.Prelude.{slice_get, slice_index, ◌-◌}
use Rattle.std.proofs.lemmas.Option.{none-some, same_Some}
use Rattle.si_model.proofs.ListLemmas.{any_listed, listed_any, listed_append_left, listed_append_right}
use Rattle.si_model.specs.Causes.{collects_entry, others_from, others_of}
use Rattle.si_model.specs.Lists.{Listed}
use Rattle.si_model.specs.Tells.{Tell}
use Rattle.nam_verbs.proofs.TestLemmas.{by_equal}
use Rattle.nam_catalog.specs.declared.shape.Shape.{Shape}
use Rattle.nam_protocol.specs.CutClient.{client_cut}
use Rattle.nam_protocol.specs.declared.client.ClientState.{ClientState}
use Rattle.nam_tells.specs.Teller.{Teller}
use Rattle.nam_tells.specs.TellsLaw.{tells_now}
use Rattle.nam_raised.specs.OldLaw.{CauseLaw}
use Rattle.nam_raised.specs.Raised.{tells_entry}
use Rattle.nam_raised.proofs.EntryLemmas.{call_told, front_told, runs_entry, told_cases}

-- 1. The events of all workers but one; the first log is of worker i

pub among_others : (tss : List (List Tell)) (i j k : ℕ) (ts : List Tell) (x : Tell) → slice_get tss k ≡ Some ts
    → i + k ≢ j → Listed x ts → Listed x (others_from i j tss)
among_others [] i j k ts x there apart is = absurd (none-some ts there)
among_others (us ∷ uss) i j zero ts x there apart is =
    let rest = others_from (suc i) j uss in
    by_equal (λ (xs : List Tell). Listed x xs) i j rest (us ++ rest) (λ same. absurd (apart (omega arith)))
    (λ other. listed_append_left us rest x (subst (Listed x) (sym (same_Some us ts there)) is))
among_others (us ∷ uss) i j (suc k) ts x there apart is =
    let rest = others_from (suc i) j uss in
    let later : Listed x rest = among_others uss (suc i) j k ts x there (λ same. apart (omega arith)) is in
    by_equal (λ (xs : List Tell). Listed x xs) i j rest (us ++ rest) (λ same. later)
    (λ other. listed_append_right us rest x later)

-- 2. A collection is told alike where the client is stopped

pub cut_tells : (worker entry : ℕ) (shape : Shape) (teller : Teller) (client : ClientState)
    → tells_entry worker entry (tells_now shape teller client) ≡ true
    → tells_entry worker entry (tells_now shape teller (client_cut client)) ≡ true
cut_tells worker entry shape teller client is =
    ⊎_elim (λ (front : tells_entry worker entry teller.front ≡ true).
    front_told worker entry shape teller (client_cut client) front)
    (λ (runs : runs_entry worker entry client.call ≡ true).
    call_told worker entry shape teller (client_cut client) runs)
    (told_cases worker entry shape teller client is)

pub cause_holds : CauseLaw
cause_holds shape store tellers nth seen worker entry horizon old tss each s v done t shown =
    let (k, (client, (there, (apart, is)))) = old.collected in
    let ts = tells_now shape (tellers k) (client_cut client) in
    let one = any_listed (λ (o : Tell). collects_entry worker horizon o.event) ts
    (cut_tells worker horizon shape (tellers k) client is) in (
      old.other,
      subst (λ (entries : List ℕ). slice_index entries (worker - 1) ≡ entry) (sym shown) old.entry_is,
      old.above,
      listed_any (λ (o : Tell). collects_entry worker horizon o.event) (others_of (nth + 1) tss) one.0
          (among_others tss 1 (nth + 1) k ts one.0 (each k client there) (λ same. apart (omega arith)) one.1) one.2,
    )
