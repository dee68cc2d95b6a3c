-- The newest version that a snapshot sees: it is one alone, and stays it as a chain goes on.
use Rattle.std.proofs.Common.{List, Option, Some, [], ap, false, inl, inr, slice_get, subst, suc, sym, zero, ℕ, ◌++◌}
use Rattle.std.proofs.Common.{◌<◌, ◌∙◌, ◌∷◌, ◌≡◌}
use Rattle.std.proofs.lemmas.Bool.{cases_order, true≢false}
use Rattle.std.proofs.lemmas.Option.{none-some, same_Some}
use Rattle.nam_ghost.proofs.ListLemmas.{got_front, got_push}
use Rattle.nam_ghost.specs.Keys.{IsUnused}
use Rattle.nam_ghost.specs.Slots.{Copies, Flags, Idles, Marks, Renews, Ring, RowNext}
use Rattle.nam_ghost.specs.Versions.{Chain, Version, versions}
use Rattle.nam_ghost.specs.Wanted.{IsNewest, Wanted}
use Rattle.nam_header.specs.Visible.{is_visible}
use Rattle.nam_layout.specs.declared.field.Place.{Place}

-- 1. One alone

wanted_once : (seen : List ℕ) (chain : Chain) (a b : ℕ) (u v : Version) → Wanted seen chain a u
    → Wanted seen chain b v → a < b → ⊥
wanted_once seen chain a b u v one other less =
    true≢false (sym other.sees ∙ one.newer b v less other.is)

pub newest_once : (seen : List ℕ) (chain : Chain) (one other : Option (List ℕ)) → IsNewest seen chain one
    → IsNewest seen chain other → one ≡ other
newest_once seen chain one other a b = elim (cases_order a.number b.number) [
  | inl same ↦
      let is : slice_get (versions chain) b.number ≡ Some a.version =
      subst (λ n. slice_get (versions chain) n ≡ Some a.version) same a.wanted.is in
      a.value_is ∙ ap (λ (v : Version). v.value) (same_Some a.version b.version (sym is ∙ b.wanted.is)) ∙ sym b.value_is
  | inr apart ↦ elim apart [
    | inl less ↦ absurd (wanted_once seen chain a.number b.number a.version b.version a.wanted b.wanted less)
    | inr more ↦ absurd (wanted_once seen chain b.number a.number b.version a.version b.wanted a.wanted more)
  ]
]

-- a position that was never used has no value
pub unused_absent : (seen : List ℕ) (chain : Chain) → IsUnused chain → (value : List ℕ)
    → IsNewest seen chain (Some value) → ⊥
unused_absent seen chain unused value newest =
    let is : slice_get (chain.now ∷ []) newest.number ≡ Some newest.version =
    subst (λ old. slice_get (old ++ chain.now ∷ []) newest.number ≡ Some newest.version) unused.old newest.wanted.is in
    by_number newest.number is
  where
    by_number : (n : ℕ) → slice_get (chain.now ∷ []) n ≡ Some newest.version → ⊥
    by_number zero is =
        none-some value (sym unused.absent ∙ ap (λ (v : Version). v.value) (same_Some chain.now newest.version is)
        ∙ sym newest.value_is)
    by_number (suc n) is = none-some newest.version is

-- 2. It stays: the chain stands, or has one version more, which the snapshot doesn't see

module _ (seen : List ℕ) (chain later : Chain) where
  module _ (same : versions later ≡ versions chain) where
    stands_on : (value : Option (List ℕ)) → IsNewest seen chain value → IsNewest seen later value
    stands_on value newest = record {
      number = newest.number;
      version = newest.version;
      wanted = record {
        is = subst (λ vs. slice_get vs newest.number ≡ Some newest.version) (sym same) newest.wanted.is;
        sees = newest.wanted.sees;
        newer = λ n v less is.
            newest.wanted.newer n v less (subst (λ vs. slice_get vs n ≡ Some v) same is);
      };
      value_is = newest.value_is;
    }

  module _ (version : Version) (grown : versions later ≡ versions chain ++ version ∷ [])
      (hidden : is_visible version.stamp seen ≡ false) where
    pub grows_on : (value : Option (List ℕ)) → IsNewest seen chain value → IsNewest seen later value
    grows_on value newest = record {
      number = newest.number;
      version = newest.version;
      wanted = record {
        is = subst (λ vs. slice_get vs newest.number ≡ Some newest.version) (sym grown)
            (got_front (versions chain) (version ∷ []) newest.number newest.version newest.wanted.is);
        sees = newest.wanted.sees;
        newer = λ n v less is.
            elim (got_push (versions chain) version v n (subst (λ vs. slice_get vs n ≡ Some v) grown is)) [
              | inl old ↦ newest.wanted.newer n v less old
              | inr last ↦ subst (λ (u : Version). is_visible u.stamp seen ≡ false) last.1 hidden
            ];
      };
      value_is = newest.value_is;
    }

    pub grew_from : (value : Option (List ℕ)) → IsNewest seen later value → IsNewest seen chain value
    grew_from value newest = elim (got_push (versions chain) version newest.version newest.number
        (subst (λ vs. slice_get vs newest.number ≡ Some newest.version) grown newest.wanted.is)) [
          | inl old ↦ record {
            number = newest.number;
            version = newest.version;
            wanted = record {
              is = old;
              sees = newest.wanted.sees;
              newer = λ n v less is.
                  newest.wanted.newer n v less
                  (subst (λ vs. slice_get vs n ≡ Some v) (sym grown)
                  (got_front (versions chain) (version ∷ []) n v is));
            };
            value_is = newest.value_is;
          }
          | inr last ↦
              absurd (true≢false (sym newest.wanted.sees
              ∙ subst (λ (u : Version). is_visible u.stamp seen ≡ false) last.1 hidden))
        ]

-- a row that goes on as it may has the newest version that it had, and no other
pub record SameNewest (seen : List ℕ) (chain later : Chain) : Type 0 where
  pub stays : (value : Option (List ℕ)) → IsNewest seen chain value → IsNewest seen later value
  pub was : (value : Option (List ℕ)) → IsNewest seen later value → IsNewest seen chain value

module _ (place : Place) (Flagged : ℕ → Type 0) (New : Version → Type 0) (seen : List ℕ)
    (hides : (version : Version) → New version → is_visible version.stamp seen ≡ false) where
  pub newest_stays : (chain later : Chain) (ring next : Ring) → RowNext place Flagged New chain ring later next
      → SameNewest seen chain later
  newest_stays chain later ring _ (Idles old now clean) =
      let same : versions later ≡ versions chain = (λ t. old t ++ now t ∷ []) in
      record { stays = stands_on seen chain later same; was = stands_on seen later chain (sym same) }
  newest_stays chain _ ring _ (Marks slot free before) = record { stays = λ value is. is; was = λ value is. is }
  newest_stays chain _ ring _ (Copies next empty) = record { stays = λ value is. is; was = λ value is. is }
  newest_stays chain _ ring _ (Flags slot elsewhere) = record { stays = λ value is. is; was = λ value is. is }
  newest_stays chain later ring _ (Renews old new whole ends) =
      let grown : versions later ≡ versions chain ++ later.now ∷ [] = ap (λ xs. xs ++ later.now ∷ []) old in
      let hidden = hides later.now new in
      record {
        stays = grows_on seen chain later later.now grown hidden;
        was = grew_from seen chain later later.now grown hidden;
      }
