-- What no snapshot sees: a number that isn't published. So no version comes after one of such a number.
use Rattle.std.proofs.Common.{List, arith, true, ℕ, ◌+◌, ◌<◌, ◌≡◌}
use Rattle.nam_ghost.proofs.ChainLemmas.{pairs_got}
use Rattle.nam_ghost.proofs.OrderLemmas.{snap_candidate}
use Rattle.nam_ghost.proofs.VisibleLemmas.{sees_says}
use Rattle.nam_ghost.specs.Chains.{ChainOk, IsSeenBy}
use Rattle.nam_ghost.specs.Moments.{AreObservers, IsCandidate, Observer}
use Rattle.nam_ghost.specs.Versions.{Chain, IsNth, Version, versions}
use Rattle.nam_header.specs.Visible.{is_visible}
use Rattle.si_model.specs.declared.log.Stamp.{Stamp}

module _ (start workers : ℕ) (V : ℕ → ℕ) (observers : List Observer) (ok : AreObservers start workers V observers) where
  -- a candidate sees no number that isn't published
  pub candidate_within : (s : List ℕ) (confirmed : ℕ) → IsCandidate workers observers s confirmed → (stamp : Stamp)
      → (nth : ℕ) → nth < workers → stamp.thread ≡ nth + 1 → V nth < stamp.number → is_visible stamp s ≡ true → ⊥
  candidate_within s confirmed is stamp nth less thread new sees =
      let says = (sees_says stamp nth s thread sees).1 in
      let most = (ok.moments.within s confirmed is nth less).1 in
      omega arith

  module _ (width : ℕ) (chain : Chain) (chain_ok : ChainOk width observers chain) where
    pub seen_by : (a b : ℕ) (earlier later : Version) → a < b → IsNth chain a earlier → IsNth chain b later
        → is_visible earlier.stamp later.seen ≡ true
    seen_by a b earlier later less at is =
        pairs_got IsSeenBy (versions chain) a b earlier later chain_ok.order less at is

    -- no version comes after one whose number isn't published
    pub none_after : (a b : ℕ) (earlier later : Version) → a < b + 1 → IsNth chain a earlier
        → IsNth chain (b + 1) later → (nth : ℕ) → nth < workers → earlier.stamp.thread ≡ nth + 1
        → V nth < earlier.stamp.number → ⊥
    none_after a b earlier later less at is nth within thread new =
        let (writer, (observer, (here, by))) = chain_ok.later b later is in
        candidate_within later.seen workers
        (snap_candidate start workers V observers ok later.seen (writer, (observer, (here, by.seen)))) earlier.stamp nth
        within thread new (seen_by a (b + 1) earlier later less at is)
