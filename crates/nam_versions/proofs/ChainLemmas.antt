-- What one client's step makes of a chain keeps what is claimed of it, and is what a step may make of it.
use Rattle.std.proofs.Common.{List, Some, [], ap, arith, false, length, slice_get, subst, sym, true, ℕ, ⊎_elim, ◌++◌}
use Rattle.std.proofs.Common.{◌+◌, ◌-◌, ◌<◌, ◌∙◌, ◌∷◌, ◌≡◌, ◌≤◌, ◌⊎◌}
use Rattle.std.proofs.lemmas.Bool.{both_ways, false_from_ne_true}
use Rattle.std.proofs.lemmas.List.{length_push}
use Rattle.std.proofs.lemmas.Option.{slice_get_within}
use Rattle.std.specs.Prelude.{slice_index, slice_set}
use Rattle.nam_calls.specs.Fits.{HasWidth}
use Rattle.nam_ghost.proofs.ListLemmas.{got_end, got_front, got_push, pairs_push, someone_stays}
use Rattle.nam_ghost.proofs.OrderLemmas.{IsSnap, sees_front, snap_found}
use Rattle.nam_ghost.proofs.VisibleLemmas.{visible_says}
use Rattle.nam_ghost.specs.Chains.{ChainNext, ChainOk, Grows, IsSeenBy, Stands, WrittenBy}
use Rattle.nam_ghost.specs.Moments.{AreObservers, Observer}
use Rattle.nam_ghost.specs.Versions.{Chain, IsNth, IsVersion, Version, versions}
use Rattle.nam_header.specs.Visible.{IsLoaders, IsReached, is_visible}
use Rattle.nam_store.specs.Everyone.{Someone}
use Rattle.nam_versions.specs.Turn.{ChainGoes, Installs, Overwrites, Stays}
use Rattle.si_model.proofs.ListLemmas.{listed_append_cases, listed_append_left}
use Rattle.si_model.specs.Lists.{Listed, Pairwise}

-- 1. Versions stay with their numbers

pub versions_stay : (width : ℕ) (observers : List Observer) (chain later : Chain)
    → ChainNext width observers chain later → (number : ℕ) (version : Version) → IsNth chain number version
    → IsNth later number version
versions_stay width observers chain later (Stands old now) number version is =
    (λ t. slice_get (old t ++ now t ∷ []) number) ∙ is
versions_stay width observers chain later (Grows old new) number version is =
    ap (λ xs. slice_get (xs ++ later.now ∷ []) number) old
    ∙ got_front (versions chain) (later.now ∷ []) number version is

pub versions_grow : (width nth : ℕ) (observer : Observer) (chain later : Chain)
    → ChainGoes width nth observer chain later → (version : Version) → IsVersion chain version
    → IsVersion later version
versions_grow width nth observer chain later (Stays old now) version is =
    subst (Listed version) (sym (λ t. old t ++ now t ∷ [])) is
versions_grow width nth observer chain later (Installs old new) version is =
    subst (λ xs. Listed version (xs ++ later.now ∷ [])) (sym old)
    (listed_append_left (versions chain) (later.now ∷ []) version is)

-- and a snapshot that was taken sees none of those that come
pub seen_stays : (width : ℕ) (observers : List Observer) (chain later : Chain)
    → ChainNext width observers chain later → (s : List ℕ) → IsSnap observers s → (number : ℕ) (version : Version)
    → IsNth later number version → is_visible version.stamp s ≡ true → IsNth chain number version
seen_stays width observers chain later (Stands old now) s snap number version is sees =
    (λ t. slice_get (sym old t ++ sym now t ∷ []) number) ∙ is
seen_stays width observers chain later (Grows old new) s snap number version is sees =
    ⊎_elim (λ (before : IsNth chain number version). before)
    (λ (last : (number ≡ length (versions chain)) × (later.now ≡ version)).
    absurd (both_ways (is_visible later.now.stamp s) (new.hidden s snap)
    (ap (λ (x : Version). is_visible x.stamp s) last.1 ∙ sees)))
    (got_push (versions chain) later.now version number
    (ap (λ xs. slice_get (xs ++ later.now ∷ []) number) (sym old) ∙ is))

-- 2. Of observers, of whom one goes on

module _ (start workers : ℕ) (V : ℕ → ℕ) (observers : List Observer) (ok : AreObservers start workers V observers)
    (nth : ℕ) (was : Observer) (here : slice_get observers nth ≡ Some was) (width : ℕ) (chain : Chain)
    (chain_ok : ChainOk width observers chain) where
  -- what is installed was written before its number was published, and is in no snapshot that was taken
  module _ (version : Version) (new : Overwrites width nth was chain.now version) where
    seen_is : IsSnap observers version.seen
    seen_is = (nth, (was, (here, new.seen)))

    published : V nth ≡ was.number
    published = (ok.each nth was here).entry

    within : nth < workers
    within = let all = ok.all in let less = slice_get_within observers nth was here in omega arith

    pub written_now : WrittenBy version nth was
    written_now =
        let number = new.number in
        let found = snap_found start workers V observers ok version.seen seen_is nth within in
        let least = found.1 in
        let last = published in
        record { thread = new.thread; seen = new.seen; before = omega arith }

    unseen : (s : List ℕ) → IsSnap observers s → is_visible version.stamp s ≡ true → ⊥
    unseen s is sees =
        let thread = new.thread in
        let number = new.number in
        let last = published in
        ⊎_elim (λ (loaders : IsLoaders version.stamp). let none = loaders.0 in omega arith)
        (λ (reached : IsReached version.stamp s).
        let entry : version.stamp.thread - 1 ≡ nth = omega arith in
        let found = snap_found start workers V observers ok s is nth within in
        let most = found.1 in
        let past : version.stamp.number ≤ slice_index s nth =
        subst (λ a. version.stamp.number ≤ slice_index s a) entry reached.2 in
        omega arith)
        (visible_says version.stamp s sees)

    pub hidden : (s : List ℕ) → IsSnap observers s → is_visible version.stamp s ≡ false
    hidden s is = false_from_ne_true (is_visible version.stamp s) (unseen s is)

    -- its writer has seen all versions so far
    pub sees_all : (number : ℕ) (earlier : Version) → IsNth chain number earlier → IsSeenBy earlier version
    sees_all number earlier is =
        ⊎_elim (λ (before : slice_get chain.old number ≡ Some earlier).
        sees_front start workers V observers ok width chain chain_ok version.seen seen_is number (length chain.old)
        earlier chain.now (slice_get_within chain.old number earlier before) is (got_end chain.old chain.now)
        new.sees)
        (λ (last : (number ≡ length chain.old) × (chain.now ≡ earlier)).
        subst (λ (x : Version). IsSeenBy x version) last.1 new.sees)
        (got_push chain.old chain.now earlier number is)

  pub chain_next : (later : Chain) → ChainGoes width nth was chain later → ChainNext width observers chain later
  chain_next later (Stays old now) = Stands old now
  chain_next later (Installs old new) =
      Grows old record { wide = new.wide; hidden = hidden later.now new }

  module _ (is : Observer) (more : (s : List ℕ) → Listed s was.snaps → Listed s is.snaps) where
    abbrev After : List Observer
    After = slice_set observers nth is

    still_written : (version : Version) → Someone (WrittenBy version) observers → Someone (WrittenBy version) After
    still_written version =
        someone_stays (WrittenBy version) observers nth was is here
        (λ by. record { thread = by.thread; seen = more version.seen by.seen; before = by.before })

    stays_ok : (later : Chain) → versions later ≡ versions chain → ChainOk width After later
    stays_ok later same =
        let at : (n : ℕ) → slice_get (versions chain) n ≡ slice_get (versions later) n =
        λ n. ap (λ xs. slice_get xs n) (sym same) in
        record {
          first = λ version e. chain_ok.first version (at 0 ∙ e);
          later = λ n version e. still_written version (chain_ok.later n version (at (n + 1) ∙ e));
          order = subst (Pairwise IsSeenBy) (sym same) chain_ok.order;
          wide = λ version e. chain_ok.wide version (subst (Listed version) same e);
        }

    installs_ok : (later : Chain) → later.old ≡ versions chain → Overwrites width nth was chain.now later.now
        → ChainOk width After later
    installs_ok later old new =
        let some = length_push chain.old chain.now in
        let all : versions later ≡ versions chain ++ later.now ∷ [] = ap (λ xs. xs ++ later.now ∷ []) old in
        let at : (n : ℕ) → slice_get (versions chain ++ later.now ∷ []) n ≡ slice_get (versions later) n =
        λ n. ap (λ xs. slice_get xs n) (sym all) in
        record {
          first = λ version e.
              ⊎_elim (λ (before : slice_get (versions chain) 0 ≡ Some version). chain_ok.first version before)
              (λ (last : (0 ≡ length (versions chain)) × (later.now ≡ version)).
              let none = last.0 in absurd (omega arith))
              (got_push (versions chain) later.now version 0 (at 0 ∙ e));
          later = λ n version e. still_written version
              (⊎_elim (λ (before : slice_get (versions chain) (n + 1) ≡ Some version).
              chain_ok.later n version before)
              (λ (last : (n + 1 ≡ length (versions chain)) × (later.now ≡ version)).
              subst (λ (x : Version). Someone (WrittenBy x) observers) last.1
              (nth, (was, (here, written_now later.now new))))
              (got_push (versions chain) later.now version (n + 1) (at (n + 1) ∙ e)));
          order = subst (Pairwise IsSeenBy) (sym all)
              (pairs_push IsSeenBy (versions chain) later.now chain_ok.order (sees_all later.now new));
          wide = λ version e.
              ⊎_elim (λ (before : IsVersion chain version). chain_ok.wide version before)
              (λ (last : (later.now ≡ version) ⊎ ⊥).
              ⊎_elim (λ (same : later.now ≡ version).
              subst (λ (x : Version). HasWidth width x.value) same new.wide) (λ none. absurd none) last)
              (listed_append_cases (versions chain) (later.now ∷ []) version (subst (Listed version) all e));
        }

    pub chain_goes : (later : Chain) → ChainGoes width nth was chain later → ChainOk width After later
    chain_goes later (Stays old now) = stays_ok later (λ t. old t ++ now t ∷ [])
    chain_goes later (Installs old new) = installs_ok later old new
