-- Places rise along overtakings.
use Rattle.std.proofs.Common.{List, Some, arith, refl, ℕ, ⊎_elim, ◌<◌, ◌≡◌, ◌≢◌}
use Rattle.std.proofs.lemmas.Bool.{cases_order}
use Rattle.std.specs.Prelude.{slice_get, true}
use Rattle.nam_catalog.specs.declared.shape.Shape.{Shape}
use Rattle.nam_ghost.proofs.ChainLemmas.{pairs_got}
use Rattle.nam_ghost.proofs.ListLemmas.{listed_got}
use Rattle.nam_ghost.proofs.SnapshotLemmas.{taken_candidate}
use Rattle.nam_ghost.specs.Moments.{IsTaken}
use Rattle.nam_ghost.specs.Publications.{Publication}
use Rattle.nam_ghost.specs.Since.{IsOvertaken, SinceOk, WasPublished}
use Rattle.nam_header.specs.Visible.{is_visible}
use Rattle.nam_since.specs.CircleLaw.{CircleLaw, ContainedLaw, Further, IsPlace, Path, PlacesLaw, RisesLaw, Step}
use Rattle.nam_store.specs.Store.{Store}
use Rattle.si_model.specs.Lists.{Pairwise}
use Rattle.si_model.specs.declared.log.Stamp.{Stamp}

-- where no two elements are the same, none has two places
one_place : {A : Type 0} (xs : List A) → Pairwise (λ (a b : A). a ≢ b) xs → (i j : ℕ) (x : A)
    → slice_get xs i ≡ Some x → slice_get xs j ≡ Some x → i ≡ j
one_place {A} xs pairs i j x at is =
    ⊎_elim (λ e. e)
    (λ apart. ⊎_elim (λ (less : i < j). absurd (pairs_got (λ (a b : A). a ≢ b) xs i j x x pairs less at is refl))
    (λ (less : j < i). absurd (pairs_got (λ (a b : A). a ≢ b) xs j i x x pairs less is at refl)) apart)
    (cases_order i j)

pub placed_once : PlacesLaw
placed_once shape store published order since commit was =
    let at = listed_got order commit.stamp (since.listed commit was) in
    (at.0, at.1, λ other is. one_place order since.once other at.0 commit.stamp is at.1)

module _ (shape : Shape) (store : Store) (published : ℕ → List Publication) (order : List Stamp)
    (since : SinceOk shape store published order) where
  step_rises : (first second : Publication) → WasPublished published first → WasPublished published second
      → IsOvertaken first second → (i j : ℕ) → IsPlace order first i → IsPlace order second j → i < j
  step_rises first second was is over i j at to =
      let stands = since.before first second was is over in
      let less = stands.2 in
      let from = one_place order since.once i stands.0 first.stamp at stands.3 in
      let towards = one_place order since.once j stands.1 second.stamp to stands.4 in
      omega arith

  pub rises : (first last : Publication) → Path published first last → (i j : ℕ) → IsPlace order first i
      → IsPlace order last j → i < j
  rises first _ (Step was is over) i j at to = step_rises first _ was is over i j at to
  rises first _ (Further {second = second} was is over rest) i j at to =
      let middle = placed_once shape store published order since second is in
      let less = step_rises first second was is over i middle.0 at middle.1 in
      let more = rises second _ rest middle.0 j middle.1 to in
      omega arith

  starts : (first last : Publication) → Path published first last → WasPublished published first
  starts first _ (Step was is over) = was
  starts first _ (Further was is over rest) = was

  contained : (first last : Publication) → Path published first last → (s : List ℕ) → IsTaken store s
      → is_visible last.stamp s ≡ true → is_visible first.stamp s ≡ true
  contained first _ (Step was is over) s taken sees =
      since.contained first _ was is over s shape.workers (taken_candidate store shape.workers s taken)
      (λ a from less. absurd (omega arith)) sees
  contained first _ (Further {second = second} was is over rest) s taken sees =
      since.contained first second was is over s shape.workers (taken_candidate store shape.workers s taken)
      (λ a from less. absurd (omega arith)) (contained second _ rest s taken sees)

pub path_rises : RisesLaw
path_rises shape store published order since = rises shape store published order since

pub uncircled : CircleLaw
uncircled shape store published order since commit path =
    let at = placed_once shape store published order since commit
    (starts shape store published order since commit commit path) in
    let less = rises shape store published order since commit commit path at.0 at.0 at.1 at.1 in
    omega arith

pub path_contained : ContainedLaw
path_contained shape store published order since = contained shape store published order since
