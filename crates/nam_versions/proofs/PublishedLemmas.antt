-- What one client's step makes of publications keeps what is claimed of them.
use Rattle.std.proofs.Common.{List, Some, [], ap, arith, length, refl, slice_get, subst, sym, ℕ, ⊎_elim, ◌++◌, ◌+◌, ◌∙◌}
use Rattle.std.proofs.Common.{◌∷◌, ◌≡◌, ◌⊎◌}
use Rattle.std.proofs.lemmas.List.{length_push}
use Rattle.std.specs.Prelude.{slice_set}
use Rattle.nam_ghost.proofs.ListLemmas.{got_push}
use Rattle.nam_ghost.specs.Moments.{Observer}
use Rattle.nam_ghost.specs.Publications.{IsInstalled, Publication, PublicationsOk, published_version}
use Rattle.nam_ghost.specs.Versions.{Chain, IsVersion, Version}
use Rattle.nam_store.proofs.Lists.{everyone_set, put_beside, put_here}
use Rattle.nam_store.specs.Everyone.{Everyone, put}
use Rattle.nam_versions.specs.Turn.{Adds, Keeps, PublishedGoes, Publishes}
use Rattle.si_model.proofs.ListLemmas.{listed_append_cases}
use Rattle.si_model.specs.Lists.{Listed}

module _ (start : ℕ) (chains later : ℕ → Chain)
    (grows : (row : ℕ) (version : Version) → IsVersion (chains row) version → IsVersion (later row) version) where
  still_installed : (commit : Publication) → IsInstalled chains commit → IsInstalled later commit
  still_installed commit is p less = grows (commit.row p) (published_version commit p) (is p less)

  -- a client whose list is what it was
  same_list : (published after : ℕ → List Publication) (nth : ℕ) (was is : Observer)
      → after nth ≡ published nth → is.number ≡ was.number → PublicationsOk start chains published nth was
      → PublicationsOk start later after nth is
  same_list published after nth was is same number ok = record {
    all = ap (λ (l : List Publication). start + length l) same ∙ ok.all ∙ sym number;
    stamped = λ k commit e. ok.stamped k commit (ap (λ (l : List Publication). slice_get l k) (sym same) ∙ e);
    installed = λ commit e.
        still_installed commit (ok.installed commit (subst (Listed commit) same e));
  }

  -- and one that has published
  one_more : (published : ℕ → List Publication) (nth : ℕ) (was is : Observer) (commit : Publication)
      → Publishes chains nth was is commit → PublicationsOk start chains published nth was
      → PublicationsOk start later (put published nth (published nth ++ commit ∷ [])) nth is
  one_more published nth was is commit by ok =
      let list = published nth ++ commit ∷ [] in
      let here : put published nth list nth ≡ list = put_here published nth list in
      let long = length_push (published nth) commit in
      let all = ok.all in
      let number = by.number in
      let now : start + length list ≡ is.number = omega arith in
      record {
        all = ap (λ (l : List Publication). start + length l) here ∙ now;
        stamped = λ k other e.
            ⊎_elim (λ (before : slice_get (published nth) k ≡ Some other). ok.stamped k other before)
            (λ (last : (k ≡ length (published nth)) × (commit ≡ other)).
            let place = last.0 in
            let next : was.number + 1 ≡ start + k + 1 = omega arith in
            sym (ap (λ (x : Publication). x.stamp) last.1) ∙ by.stamp
            ∙ ap (λ (n : ℕ). record { thread = nth + 1; number = n }) next)
            (got_push (published nth) commit other k (ap (λ (l : List Publication). slice_get l k) (sym here) ∙ e));
        installed = λ other e. still_installed other
            (⊎_elim (λ (before : Listed other (published nth)). ok.installed other before)
            (λ (last : (commit ≡ other) ⊎ ⊥).
            ⊎_elim (λ (same : commit ≡ other). subst (IsInstalled chains) same by.installed) (λ none. absurd none) last)
            (listed_append_cases (published nth) (commit ∷ []) other (subst (Listed other) here e)));
      }

  pub published_goes : (observers : List Observer) (nth : ℕ) (was is : Observer) → slice_get observers nth ≡ Some was
      → (published after : ℕ → List Publication) → PublishedGoes chains nth was is published after
      → Everyone (PublicationsOk start chains published) observers
      → Everyone (PublicationsOk start later after) (slice_set observers nth is)
  published_goes observers nth was is here published _ (Keeps number) all =
      everyone_set (PublicationsOk start chains published) (PublicationsOk start later published) observers nth is all
      (λ other x apart there ok. same_list published published other x x refl refl ok)
      (same_list published published nth was is refl number (all nth was here))
  published_goes observers nth was is here published _ (Adds commit by) all =
      let after = put published nth (published nth ++ commit ∷ []) in
      everyone_set (PublicationsOk start chains published) (PublicationsOk start later after) observers nth is all
      (λ other x apart there ok.
      same_list published after other x x (put_beside published nth (published nth ++ commit ∷ []) other apart) refl ok)
      (one_more published nth was is commit by (all nth was here))
