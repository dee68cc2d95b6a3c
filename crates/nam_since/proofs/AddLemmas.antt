-- A commit is published: it stands last in the order, so whatever it overtakes stands before it.
use Rattle.std.proofs.Common.{List, [], ap, inl, inr, length, refl, subst, sym, ℕ, ◌++◌, ◌<◌, ◌∙◌, ◌∷◌, ◌≡◌, ◌≢◌, ◌⊎◌}
use Rattle.std.proofs.lemmas.Option.{slice_get_within}
use Rattle.std.specs.Prelude.{true}
use Rattle.nam_ghost.proofs.ListLemmas.{got_end, got_front, got_listed, listed_got, pairs_push}
use Rattle.nam_ghost.specs.Moments.{IsCandidate, IsUnpassed, Observer}
use Rattle.nam_ghost.specs.Publications.{Publication}
use Rattle.nam_ghost.specs.Since.{IsOvertaken, IsSince, StandsBefore, WasPublished}
use Rattle.nam_header.specs.Visible.{is_visible}
use Rattle.nam_store.proofs.Lists.{put_cases, put_here}
use Rattle.nam_store.specs.Everyone.{put}
use Rattle.si_model.proofs.ListLemmas.{listed_append_cases, listed_append_left, listed_append_right}
use Rattle.si_model.specs.Lists.{Listed}
use Rattle.si_model.specs.declared.log.Stamp.{Stamp}

module _ (published : ℕ → List Publication) (nth : ℕ) (commit : Publication) where
  abbrev pub one_more : ℕ → List Publication
  one_more = put published nth (published nth ++ commit ∷ [])

  -- what is published now was published before, or is the new one
  pub was_or_new : (other : Publication) → WasPublished one_more other → WasPublished published other ⊎ (commit ≡ other)
  was_or_new other (n, listed) =
      put_cases (λ (commits : List Publication). Listed other commits → WasPublished published other ⊎ (commit ≡ other))
      published nth (published nth ++ commit ∷ []) n
      (λ e more. elim (listed_append_cases (published nth) (commit ∷ []) other more) [
        | inl earlier ↦ inl (nth, earlier)
        | inr new ↦ elim new [ inl same ↦ inr same | inr none ↦ absurd none ]
      ])
      (λ apart same. inl (n, same)) listed

  still : (other : Publication) → WasPublished published other → WasPublished one_more other
  still other (n, listed) = (
    n,
    put_cases (λ (commits : List Publication). Listed other commits) published nth (published nth ++ commit ∷ []) n
        (λ e. listed_append_left (published nth) (commit ∷ []) other
        (subst (λ k. Listed other (published k)) e listed))
        (λ apart. listed),
  )

  newest : WasPublished one_more commit
  newest = (
    nth,
    subst (Listed commit) (sym (put_here published nth (published nth ++ commit ∷ [])))
        (listed_append_right (published nth) (commit ∷ []) commit (inl refl)),
  )

  -- of two commits, the second of which overtakes the first, where none overtakes the new one
  pub overtaken_cases : (P : Publication → Publication → Type 0)
      → ((second : Publication) → WasPublished published second → IsOvertaken commit second → ⊥)
      → ((first second : Publication) → WasPublished published first → WasPublished published second
      → IsOvertaken first second → P first second)
      → ((first : Publication) → WasPublished published first → P first commit)
      → (first second : Publication) → WasPublished one_more first → WasPublished one_more second
      → IsOvertaken first second → P first second
  overtaken_cases P last old new first second was is over =
      by_cases (was_or_new first was) (was_or_new second is)
    where
      by_cases : WasPublished published first ⊎ (commit ≡ first) → WasPublished published second ⊎ (commit ≡ second)
          → P first second
      by_cases (inl a) (inl b) = old first second a b over
      by_cases (inl a) (inr same) = subst (P first) same (new first a)
      by_cases (inr same) (inl b) =
          absurd (last second b (subst (λ (x : Publication). IsOvertaken x second) (sym same) over))
      by_cases (inr same) (inr also) =
          absurd (over.5 (ap (λ (x : Publication). x.stamp) (sym same) ∙ ap (λ (x : Publication). x.stamp) also))

  module _ (workers : ℕ) (V : ℕ → ℕ) (observers : List Observer) (order : List Stamp)
      (since : IsSince workers V observers published order) (within : nth < workers)
      (fresh : (other : Publication) → WasPublished published other → other.stamp ≢ commit.stamp)
      (last : (second : Publication) → WasPublished published second → IsOvertaken commit second → ⊥)
      (unseen : (s : List ℕ) (confirmed : ℕ) → IsCandidate workers observers s confirmed
      → is_visible commit.stamp s ≡ true → ⊥) where
    abbrev longer : List Stamp
    longer = order ++ commit.stamp ∷ []

    listed_now : (other : Publication) → WasPublished published other ⊎ (commit ≡ other) → Listed other.stamp longer
    listed_now other (inl was) = listed_append_left order (commit.stamp ∷ []) other.stamp (since.listed other was)
    listed_now other (inr same) =
        listed_append_right order (commit.stamp ∷ []) other.stamp (inl (ap (λ (x : Publication). x.stamp) same))

    comes_now : (stamp : Stamp) → Listed stamp longer
        → (other : Publication) × WasPublished one_more other × (other.stamp ≡ stamp)
    comes_now stamp listed = elim (listed_append_cases order (commit.stamp ∷ []) stamp listed) [
      | inl earlier ↦ let from = since.comes stamp earlier in (from.0, still from.0 from.1, from.2)
      | inr new ↦ elim new [ inl same ↦ (commit, newest, same) | inr none ↦ absurd none ]
    ]

    stood_before : (first second : Stamp) → StandsBefore order first second → StandsBefore longer first second
    stood_before first second (i, j, less, at, is) = (
      i,
      j,
      less,
      got_front order (commit.stamp ∷ []) i first at,
      got_front order (commit.stamp ∷ []) j second is,
    )

    before_new : (first : Publication) → WasPublished published first → StandsBefore longer first.stamp commit.stamp
    before_new first was =
        let at = listed_got order first.stamp (since.listed first was) in (
          at.0,
          length order,
          slice_get_within order at.0 first.stamp at.1,
          got_front order (commit.stamp ∷ []) at.0 first.stamp at.1,
          got_end order commit.stamp,
        )

    -- each snapshot that contains the second contains the first
    abbrev Contained : Publication → Publication → Type 0
    Contained first second = (s : List ℕ) (confirmed : ℕ) → IsCandidate workers observers s confirmed
        → IsUnpassed workers V s confirmed → is_visible second.stamp s ≡ true → is_visible first.stamp s ≡ true

    inside_now : (n : ℕ) (other : Publication) → Listed other (one_more n) → n < workers
    inside_now n other =
        put_cases (λ (commits : List Publication). Listed other commits → n < workers) published nth
        (published nth ++ commit ∷ []) n (λ e listed. subst (λ k. k < workers) (sym e) within)
        (λ apart listed. since.inside n other listed)

    pub since_adds : IsSince workers V observers one_more longer
    since_adds = record {
      inside = inside_now;
      listed = λ other is. listed_now other (was_or_new other is);
      comes = comes_now;
      once = pairs_push (λ (a b : Stamp). a ≢ b) order commit.stamp since.once
          (λ n stamp at. let from = since.comes stamp (got_listed order n stamp at) in
          subst (λ (x : Stamp). x ≢ commit.stamp) from.2 (fresh from.0 from.1));
      before = overtaken_cases (λ first second. StandsBefore longer first.stamp second.stamp) last
          (λ first second a b over. stood_before first.stamp second.stamp (since.before first second a b over))
          before_new;
      contained = overtaken_cases Contained last since.contained
          (λ first a s confirmed is unpassed sees. absurd (unseen s confirmed is sees));
    }
