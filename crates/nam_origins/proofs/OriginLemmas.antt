-- What a step of one client owes is enough for all: each version has an origin, and each commit that has published
-- stands last.
use Rattle.std.proofs.Common.{List, Some, ap, arith, false, inl, inr, refl, subst, sym, ℕ, ⊎_elim, ◌+◌, ◌∙◌, ◌≡◌, ◌≢◌}
use Rattle.std.proofs.Common.{◌⊎◌}
use Rattle.std.proofs.lemmas.Bool.{cases_eq, false≢true}
use Rattle.std.proofs.lemmas.Option.{same_Some}
use Rattle.std.specs.Prelude.{slice_get, slice_set}
use Rattle.nam_catalog.specs.declared.shape.Shape.{Shape}
use Rattle.nam_ghost.proofs.IdleLemmas.{stepped_holder}
use Rattle.nam_ghost.specs.Holders.{Holder, holder_now, holder_of}
use Rattle.nam_ghost.specs.Moments.{has_published}
use Rattle.nam_ghost.specs.Origins.{HasOrigin, IsDoneAs, IsStanding, OriginsOk}
use Rattle.nam_ghost.specs.Publications.{Publication, publication_of}
use Rattle.nam_ghost.specs.Versions.{Chain, IsNth, Version}
use Rattle.nam_origins.specs.Goes.{CommitGoes, Goes, OriginIn, StandsNow}
use Rattle.nam_protocol.specs.Telling.{stepped}
use Rattle.nam_protocol.specs.Txn.{Stepped}
use Rattle.nam_protocol.specs.declared.client.ClientState.{ClientState}
use Rattle.nam_protocol.specs.declared.client.Open.{Open}
use Rattle.nam_protocol.specs.declared.txn.TxnAnswer.{TxnAnswer}
use Rattle.nam_protocol.specs.declared.txn.TxnPoint.{TxnPoint}
use Rattle.nam_protocol.specs.declared.txn.TxnState.{TxnState}
use Rattle.nam_store.proofs.Lists.{everyone_set, get_beside, get_set}
use Rattle.nam_store.specs.Everyone.{Someone}
use Rattle.nam_store.specs.Store.{Store, client_at, with_client}
use Rattle.nam_verbs.specs.declared.now.Now.{Now}
use Rattle.nam_verbs.specs.declared.now.Now.TheVariants.{At, Over}
use Rattle.si_model.specs.Lists.{last_of}

-- 1. One client for all

module _ (shape : Shape) (chains later : ℕ → Chain) (published now : ℕ → List Publication) (nth : ℕ) where
  pub origins_go : (store : Store) (words : List ℕ) (client after : ClientState)
      → client_at store nth ≡ Some client → Goes chains later published now nth client after
      → OriginsOk shape store chains published
      → OriginsOk shape (with_client (record store { words = words }) nth after) later now
  origins_go store words client after here goes ok = record {
    versions_are = λ row is number version nth_is.
        ⊎_elim (λ (old : IsNth (chains row) (number + 1) version).
        someone row version (ok.versions_are row is number version old))
        (λ (done : IsDoneAs (holder_of after) row version).
        (nth, (after, (get_set store.clients nth client after here, inr done))))
        (goes.grows row number version nth_is);
    standing = everyone_set (IsStanding published) (IsStanding now) store.clients nth after ok.standing
        (λ other x apart e stands attempt is same. ap last_of (goes.others other apart) ∙ stands attempt is same)
        goes.standing;
  }
    where
      someone : (row : ℕ) (version : Version) → Someone (HasOrigin published row version) store.clients
          → Someone (HasOrigin now row version) (slice_set store.clients nth after)
      someone row version (other, (x, (e, has))) =
          ⊎_elim (λ (same : other ≡ nth).
          let is : x ≡ client = same_Some x client (sym e ∙ ap (slice_get store.clients) same ∙ here) in (
            nth,
            (
              after,
              (
                get_set store.clients nth client after here,
                goes.kept row version (subst (HasOrigin published row version nth) is
                    (subst (λ k. HasOrigin published row version k x) same has)),
              ),
            ),
          ))
          (λ (apart : other ≢ nth). (
            other,
            (
              x,
              (
                get_beside store.clients nth other after apart ∙ e,
                subst (λ ps. OriginIn ps (holder_of x) row version) (sym (goes.others other apart)) has,
              ),
            ),
          ))
          (cases_eq other nth)

-- 2. A commit that has stepped

module _ (chains later : ℕ → Chain) (published now : ℕ → List Publication) (nth : ℕ) where
  stepped_stands : (client : ClientState) (attempt : Open) (before : ℕ) (step : Stepped)
      → StandsNow chains later published now nth step.state step.call
      → IsStanding now nth (stepped client attempt before step)
  stepped_stands client attempt before step = by_call step.state step.call
    where
      by_call : (state : TxnState) (call : Now TxnPoint TxnAnswer) → StandsNow chains later published now nth state call
          → IsStanding now nth (stepped client attempt before record { state = state; call = call })
      by_call state (At place) stands opened is same =
          stands is ∙ ap (λ (o : Open). Some (publication_of o.state)) (same_Some _ opened same)
      by_call state (Over answer) stands opened is same = absurd (false≢true is)

  pub commit_goes_on : (client : ClientState) (attempt : Open) (before : ℕ) (was : ClientState) (step : Stepped)
      → CommitGoes chains later published now nth (holder_of was) client.worker step
      → Goes chains later published now nth was (stepped client attempt before step)
  commit_goes_on client attempt before was step goes =
      let after = stepped client attempt before step in
      let same : holder_now client.worker step.state step.call ≡ holder_of after =
      sym (stepped_holder client attempt before step) in
      record {
        grows = λ row number version is. subst (λ (h : Holder). IsNth (chains row) (number + 1) version
            ⊎ IsDoneAs h row version) same (goes.grows row number version is);
        kept = λ row version has. subst (λ (h : Holder). OriginIn (now nth) h row version) same
            (⊎_elim (λ old. inl (old.0, goes.listed old.0 old.1, old.2)) (λ done. goes.kept row version done) has);
        others = goes.others;
        standing = stepped_stands client attempt before step goes.standing;
      }

-- 3. No commit before, and none that has published after: nothing is changed

pub rests_on : (chains : ℕ → Chain) (published : ℕ → List Publication) (nth : ℕ) (before after : ClientState)
    → (holder_of before).done ≡ 0 → has_published after.call ≡ false
    → Goes chains chains published published nth before after
rests_on chains published nth before after none not_yet = record {
  grows = λ row number version is. inl is;
  kept = λ row version has. ⊎_elim (λ old. inl old) (λ done. let less = done.1 in absurd (omega arith)) has;
  others = λ other apart. refl;
  standing = λ attempt is same. absurd (false≢true (sym not_yet ∙ is));
}
