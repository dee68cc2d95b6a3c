-- What follows for snapshots that were taken, and that stamps come once.
use Rattle.std.proofs.Common.{List, ap, arith, inl, inr, map, subst, suc, sym, true, zero, ℕ, ⊎_elim, ◌+◌, ◌-◌, ◌<◌}
use Rattle.std.proofs.Common.{◌∙◌, ◌≡◌, ◌≤◌, ◌⊎◌}
use Rattle.std.proofs.lemmas.Option.{slice_get_within}
use Rattle.nam_calls.specs.Memory.{memory}
use Rattle.nam_catalog.specs.declared.shape.Shape.{Shape}
use Rattle.nam_ghost.proofs.ChainLemmas.{once}
use Rattle.nam_ghost.proofs.ListLemmas.{got_listed, someone_stays}
use Rattle.nam_ghost.proofs.OrderLemmas.{IsSnap, sees_front, snap_found, snap_wide}
use Rattle.nam_ghost.proofs.SnapshotLemmas.{snap_taken, taken_snap}
use Rattle.nam_ghost.proofs.VisibleLemmas.{visible_says}
use Rattle.nam_ghost.specs.Chains.{ChainOk, IsLoaded, WrittenBy}
use Rattle.nam_ghost.specs.Commits.{CommitsOk}
use Rattle.nam_ghost.specs.Ghost.{Ghost, ghost_step}
use Rattle.nam_ghost.specs.Moments.{IsTaken, Observer, observer_of, vector_of}
use Rattle.nam_ghost.specs.Versions.{Chain, IsNth, Version}
use Rattle.nam_header.specs.Visible.{IsLoaders, IsReached, is_visible}
use Rattle.nam_layout.specs.Address.{IsRow}
use Rattle.nam_layout.specs.Rows.{width_at}
use Rattle.nam_store.proofs.Lists.{some_within}
use Rattle.nam_store.specs.Everyone.{Someone}
use Rattle.nam_store.specs.Store.{Store}
use Rattle.nam_versions.proofs.ChainLemmas.{seen_stays, versions_stay}
use Rattle.nam_versions.proofs.StoreLemmas.{chains_next, step_turn}
use Rattle.nam_versions.specs.PublishedLaw.{IsPublished}
use Rattle.nam_versions.specs.SeenLaw.{FrontLaw, Sees, StaysLaw, WholeLaw}
use Rattle.si_model.specs.Lists.{Listed}
use Rattle.si_model.specs.declared.log.Stamp.{Stamp}
use Rattle.nam_versions.specs.ChainsLaw as chains
use Rattle.nam_versions.specs.PublishedLaw as published

module _ (shape : Shape) (store : Store) (ghost : Ghost) (rests : CommitsOk shape store ghost) where
  abbrev observers : List Observer
  observers = map observer_of store.clients

  abbrev V : ℕ → ℕ
  V = vector_of (memory shape store.words)

  -- 1. What a snapshot contains is published and installed

  -- a client has published each number from the start on to its entry
  pub number_published : (nth number : ℕ) → nth < shape.workers → shape.start < number → number ≤ V nth
      → IsPublished ghost.chains ghost.published record { thread = nth + 1; number = number }
  number_published nth number within least most =
      let all = rests.moments.all in
      let there = some_within observers nth (omega arith) in
      let ok = rests.published nth there.0 there.1 in
      let entry = (rests.moments.each nth there.0 there.1).entry in
      let many = ok.all in
      let k = number - shape.start - 1 in
      let at = some_within (ghost.published nth) k (omega arith) in
      let listed = got_listed (ghost.published nth) k at.0 at.1 in
      let number_is : shape.start + k + 1 ≡ number = omega arith in
      record {
        nth = nth;
        commit = at.0;
        listed = listed;
        stamp_is = subst (λ n. at.0.stamp ≡ record { thread = nth + 1; number = n }) number_is
            (ok.stamped k at.0 at.1);
        installed = ok.installed at.0 listed;
      }

  pub contained_installed : (s : List ℕ) → IsTaken store s → (stamp : Stamp) → is_visible stamp s ≡ true
      → shape.start < stamp.number → IsPublished ghost.chains ghost.published stamp
  contained_installed s taken stamp sees least =
      ⊎_elim (λ (loaders : IsLoaders stamp). let none = loaders.1 in absurd (omega arith))
      (λ (reached : IsReached stamp s).
      let snap = taken_snap store s taken in
      let nth = stamp.thread - 1 in
      let some = reached.0 in
      let few = reached.1 in
      let number = reached.2 in
      let wide = snap_wide shape.start shape.workers V observers rests.moments s snap in
      let within : nth < shape.workers = omega arith in
      let found = snap_found shape.start shape.workers V observers rests.moments s snap nth within in
      let most = found.1 in
      let thread : nth + 1 ≡ stamp.thread = omega arith in
      subst (IsPublished ghost.chains ghost.published) (λ t. record { thread = thread t; number = stamp.number })
      (number_published nth stamp.number within least (omega arith)))
      (visible_says stamp s sees)

  module _ (row : ℕ) (is : IsRow shape row) where
    abbrev chain : Chain
    chain = ghost.chains row

    chain_ok : ChainOk (width_at shape.tables row) observers chain
    chain_ok = rests.chains row is

    -- 2. It sees a front of a chain

    pub front_seen : (s : List ℕ) → IsTaken store s → (a b : ℕ) (u v : Version) → a < b → IsNth chain a u
        → Sees s chain b v → Sees s chain a u
    front_seen s taken a b u v less at sees = record {
      is = at;
      visible = sees_front shape.start shape.workers V observers rests.moments (width_at shape.tables row) chain
          chain_ok s (taken_snap store s taken) a b u v less at sees.is sees.visible;
    }

    -- 3. Each version that it sees is the loader's, or published and installed

    pub whole_seen : (s : List ℕ) → IsTaken store s → (number : ℕ) (version : Version) → Sees s chain number version
        → IsLoaded version ⊎ IsPublished ghost.chains ghost.published version.stamp
    whole_seen s taken zero version sees = inl (chain_ok.first version sees.is)
    whole_seen s taken (suc number) version sees =
        let next : suc number ≡ number + 1 = omega arith in
        let by = chain_ok.later number version (subst (λ n. IsNth chain n version) next sees.is) in
        inr (contained_installed s taken version.stamp sees.visible (above_start version by))
      where
        above_start : (version : Version) → Someone (WrittenBy version) observers → shape.start < version.stamp.number
        above_start version (nth, (observer, (here, by))) =
            let within = slice_get_within observers nth observer here in
            let all = rests.moments.all in
            let found = snap_found shape.start shape.workers V observers rests.moments version.seen
            (nth, (observer, (here, by.seen))) nth (omega arith) in
            let least = found.0 in
            let before = by.before in
            omega arith

-- 4. It sees the same after a step

pub seen_same : StaysLaw
seen_same shape before after goes ghost ok next row is s taken =
    let snap = taken_snap before s taken in
    let later = ghost_step shape before after goes ghost in
    let turn = step_turn shape before after goes ghost ok next in
    let width = width_at shape.tables row in
    let observers = map observer_of before.clients in
    let grows = chains_next shape before after goes ghost ok next row is in (
      snap_taken after s
          (subst (λ all. IsSnap all s) (sym turn.observers)
          (someone_stays (λ _ (observer : Observer). Listed s observer.snaps) observers turn.nth turn.was turn.is
          turn.here (turn.more s) snap)),
      λ number version. (
        λ sees. record {
          is = versions_stay width observers (ghost.chains row) (later.chains row) grows number version sees.is;
          visible = sees.visible;
        },
        λ sees. record {
          is = seen_stays width observers (ghost.chains row) (later.chains row) grows s snap number version sees.is
              sees.visible;
          visible = sees.visible;
        },
      ),
    )

-- 5. Stamps come once

pub chains_once : chains.OnceLaw
chains_once shape store ghost ok row is =
    once (width_at shape.tables row) (map observer_of store.clients) (ghost.chains row) (ok row is)

pub published_once : published.OnceLaw
published_once shape store ghost ok nth other k l one two within inside here there same =
    let all = ok.moments.all in
    let observers = map observer_of store.clients in
    let a = some_within observers nth (omega arith) in
    let b = some_within observers other (omega arith) in
    let stamps = sym ((ok.published nth a.0 a.1).stamped k one here) ∙ same
    ∙ (ok.published other b.0 b.1).stamped l two there in
    let thread = ap (λ (s : Stamp). s.thread) stamps in
    let number = ap (λ (s : Stamp). s.number) stamps in
    (omega arith, omega arith)

-- 6. The laws

pub published_installed : published.InstalledLaw
published_installed = contained_installed

pub seen_front : FrontLaw
seen_front = front_seen

pub seen_whole : WholeLaw
seen_whole = whole_seen
