-- A commit that the logs list is one of a client's, and stands beside its publication.
use Rattle.std.proofs.Common.{List, Some, [], ap, arith, inl, inr, length, refl, subst, suc, zero, ℕ}
use Rattle.std.proofs.Common.{◌+◌, ◌<◌, ◌∙◌, ◌∷◌, ◌≡◌}
use Rattle.std.specs.Prelude.{slice_get, slice_index_or}
use Rattle.std.proofs.lemmas.Option.{none-some, same_Some, slice_get-get_or}
use Rattle.si_model.specs.Commits.{Published, published_by, published_from, published_of}
use Rattle.si_model.specs.Lists.{Listed}
use Rattle.si_model.specs.Tells.{Tell}
use Rattle.si_model.proofs.ListLemmas.{contains_listed, listed_append_cases}
use Rattle.nam_catalog.specs.declared.shape.Shape.{Shape}
use Rattle.nam_layout.specs.declared.field.Field.{Field}
use Rattle.nam_protocol.specs.declared.client.ClientState.{ClientState}
use Rattle.nam_store.specs.Store.{Store}
use Rattle.nam_ghost.specs.Origins.{IsListedAs}
use Rattle.nam_ghost.specs.Publications.{Publication}
use Rattle.nam_tells.specs.Teller.{Teller}
use Rattle.nam_told.specs.Commits.{AreCommits, commits_of}
use Rattle.nam_tells.specs.Logs.{logs_cut, logs_from}

-- 1. Which log lists it

-- the commits of the logs from this number on are those of one of them
of_log : (i : ℕ) (tss : List (List Tell)) (c : Published) → Listed c (published_from (suc i) tss)
    → (n : ℕ) × (n < length tss) × Listed c (published_of (suc (i + n)) (slice_index_or tss n []))
of_log i [] c listed = absurd listed
of_log i (ts ∷ tss) c listed =
    elim (listed_append_cases (published_of (suc i) ts) (published_from (suc (suc i)) tss) c listed) [
      | inl here ↦ (0, omega arith, subst (λ j. Listed c (published_of (suc j) ts)) (omega arith) here)
      | inr later ↦
          let rest = of_log (suc i) tss c later in
          let within = rest.1 in
          let same : suc i + rest.0 ≡ i + suc rest.0 = omega arith in (
            suc rest.0,
            omega arith,
            subst (λ j. Listed c (published_of (suc j) (slice_index_or tss rest.0 []))) same rest.2,
          )
    ]

pub commit_listed : (tss : List (List Tell)) (c : Published) → Listed c (published_by tss)
    → (nth : ℕ) × (nth < length tss) × Listed c (commits_of tss nth)
commit_listed tss c listed =
    let of = of_log 0 tss c listed in
    let same : 0 + of.0 ≡ of.0 = omega arith in
    (of.0, of.1, subst (λ j. Listed c (published_of (suc j) (slice_index_or tss of.0 []))) same of.2)

-- 2. Its publication

-- the client, and the number that it has among its commits and publications
pub record IsFound (shape : Shape) (m : Field → ℕ) (published : ℕ → List Publication) (tss : List (List Tell))
    (c : Published) : Type 0 where
  pub nth : ℕ
  pub within : nth < shape.workers
  pub place : ℕ
  pub commit : Publication
  pub at : slice_get (published nth) place ≡ Some commit
  pub here : slice_get (commits_of tss nth) place ≡ Some c
  pub is : IsListedAs shape m commit c

module _ {A : Type 0} where
  pub listed_got : (xs : List A) (x : A) → Listed x xs → (place : ℕ) × (slice_get xs place ≡ Some x)
  listed_got xs x listed =
      let at = contains_listed xs x listed in (at.0, slice_get-get_or xs at.0 x at.1 ∙ ap Some at.2)

  pub got_listed : (xs : List A) (place : ℕ) (x : A) → slice_get xs place ≡ Some x → Listed x xs
  got_listed [] place x e = absurd (none-some x e)
  got_listed (y ∷ xs) zero x e = inl (same_Some y x e)
  got_listed (y ∷ xs) (suc place) x e = inr (got_listed xs place x e)

  pub got_within : (xs : List A) (place : ℕ) → place < length xs → (x : A) × (slice_get xs place ≡ Some x)
  got_within [] place less = absurd (omega arith)
  got_within (x ∷ xs) zero less = (x, refl)
  got_within (x ∷ xs) (suc place) less = got_within xs place (omega arith)

  pub place_within : (xs : List A) (place : ℕ) (x : A) → slice_get xs place ≡ Some x → place < length xs
  place_within [] place x e = absurd (none-some x e)
  place_within (y ∷ xs) zero x e = omega arith
  place_within (y ∷ xs) (suc place) x e = let rest = place_within xs place x e in omega arith

module _ (shape : Shape) (m : Field → ℕ) (published : ℕ → List Publication) (tss : List (List Tell))
    (long : length tss ≡ shape.workers) (ok : AreCommits shape m published tss) where
  pub found : (c : Published) → Listed c (published_by tss) → IsFound shape m published tss c
  found c listed =
      let of = commit_listed tss c listed in
      let less = of.1 in
      let within : of.0 < shape.workers = omega arith in
      let at = listed_got (commits_of tss of.0) c of.2 in
      let place = place_within (commits_of tss of.0) at.0 c at.1 in
      let count = ok.count of.0 within in
      let commit = got_within (published of.0) at.0 (omega arith) in
      record {
        nth = of.0;
        within = within;
        place = at.0;
        commit = commit.0;
        at = commit.1;
        here = at.1;
        is = ok.each of.0 at.0 within commit.0 c commit.1 at.1;
      }

-- 3. There is a log for each client

logs_long : (shape : Shape) (tellers : ℕ → Teller) (nth : ℕ) (clients : List ClientState)
    → length (logs_from shape tellers nth clients) ≡ length clients
logs_long shape tellers nth [] = refl
logs_long shape tellers nth (client ∷ clients) = ap suc (logs_long shape tellers (suc nth) clients)

pub all_logs : (shape : Shape) (store : Store) (tellers : ℕ → Teller) → length store.clients ≡ shape.workers
    → length (logs_cut shape tellers store) ≡ shape.workers
all_logs shape store tellers workers = logs_long shape tellers 0 store.clients ∙ workers
