-- A snapshot that was taken sees a front of each chain: with a version each one before it.
use Rattle.std.proofs.Common.{List, arith, inr, length, refl, subst, suc, true, zero, ℕ, ⊎_elim, ◌+◌, ◌-◌, ◌<◌, ◌≡◌}
use Rattle.std.proofs.Common.{◌≤◌}
use Rattle.std.specs.Prelude.{slice_index}
use Rattle.nam_ghost.proofs.ChainLemmas.{pairs_got}
use Rattle.nam_ghost.proofs.VisibleLemmas.{visible_rises, visible_says}
use Rattle.nam_ghost.specs.Chains.{ChainOk, IsSeenBy, WrittenBy}
use Rattle.nam_ghost.specs.Moments.{AreFound, AreObservers, AreOrdered, AtMost, IsCandidate, Observer}
use Rattle.nam_ghost.specs.Versions.{Chain, IsNth, Version, versions}
use Rattle.nam_header.specs.Visible.{IsLoaders, IsReached, is_visible}
use Rattle.nam_store.specs.Everyone.{Someone}
use Rattle.si_model.specs.Lists.{Listed}

-- some observer has taken it
abbrev pub IsSnap : List Observer → List ℕ → Type 0
IsSnap observers s = Someone (λ _ (observer : Observer). Listed s observer.snaps) observers

module _ (start workers : ℕ) (V : ℕ → ℕ) (observers : List Observer)
    (ok : AreObservers start workers V observers) where
  pub snap_candidate : (s : List ℕ) → IsSnap observers s → IsCandidate workers observers s workers
  snap_candidate s (nth, (observer, (here, listed))) = (nth, (observer, (here, inr (refl, listed))))

  pub snap_wide : (s : List ℕ) → IsSnap observers s → length s ≡ workers
  snap_wide s (nth, (observer, (here, listed))) = (ok.each nth observer here).wide s listed

  pub snap_found : (s : List ℕ) → IsSnap observers s → AreFound start V workers s
  snap_found s is = ok.moments.within s workers (snap_candidate s is)

  snaps_ordered : (s t : List ℕ) → IsSnap observers s → IsSnap observers t → AreOrdered workers s t
  snaps_ordered s t one two =
      ok.moments.ordered s t workers workers (snap_candidate s one) (snap_candidate t two)
      (λ a from less. absurd (omega arith)) (λ a from less. absurd (omega arith))

  -- one that sees a version sees each that its writer saw
  sees_before : (version earlier : Version) → Someone (WrittenBy version) observers → IsSeenBy earlier version
      → (s : List ℕ) → IsSnap observers s → is_visible version.stamp s ≡ true → is_visible earlier.stamp s ≡ true
  sees_before version earlier (nth, (observer, (here, by))) before s is sees =
      let seen : IsSnap observers version.seen = (nth, (observer, (here, by.seen))) in
      let wide = snap_wide version.seen seen in
      let long = snap_wide s is in
      let thread = by.thread in
      let less = by.before in
      ⊎_elim (λ (most : AtMost workers version.seen s).
      visible_rises workers earlier.stamp version.seen s wide long most before)
      (λ (most : AtMost workers s version.seen).
      ⊎_elim (λ (loaders : IsLoaders version.stamp). let none = loaders.0 in absurd (omega arith))
      (λ (reached : IsReached version.stamp s).
      let few = reached.1 in
      let entry : version.stamp.thread - 1 ≡ nth = omega arith in
      let number : version.stamp.number ≤ slice_index s nth =
      subst (λ a. version.stamp.number ≤ slice_index s a) entry reached.2 in
      let past = most nth (omega arith) in
      absurd (omega arith))
      (visible_says version.stamp s sees))
      (snaps_ordered version.seen s seen is)

  module _ (width : ℕ) (chain : Chain) (chain_ok : ChainOk width observers chain) where
    -- so it sees a front
    pub sees_front : (s : List ℕ) → IsSnap observers s → (a b : ℕ) (u v : Version) → a < b → IsNth chain a u
        → IsNth chain b v → is_visible v.stamp s ≡ true → is_visible u.stamp s ≡ true
    sees_front s is a zero u v less at there sees = absurd (omega arith)
    sees_front s is a (suc b) u v less at there sees =
        let plain : suc b ≡ b + 1 = omega arith in
        sees_before v u (chain_ok.later b v (subst (λ n. IsNth chain n v) plain there))
        (pairs_got IsSeenBy (versions chain) a (suc b) u v chain_ok.order less at there) s is sees
