-- At each key of a table a transaction finds one value, and one alone.
use Rattle.std.proofs.Common.{Bool, List, None, Option, Some, arith, false, inl, inr, length, refl, slice_get, subst}
use Rattle.std.proofs.Common.{suc, sym, true, zero, ℕ, ◌<◌, ◌∙◌, ◌≡◌, ◌≤◌, ◌⊎◌}
use Rattle.std.proofs.lemmas.Bool.{cases_Bool, cases_eq, cases_lt, true≢false}
use Rattle.std.proofs.lemmas.List.{length_push}
use Rattle.std.proofs.lemmas.Option.{same_Some, slice_get_within}
use Rattle.nam_calls.proofs.FieldLemmas.{row_within}
use Rattle.nam_calls.specs.Fits.{IsTableOf}
use Rattle.nam_calls.specs.Memory.{memory}
use Rattle.nam_calls.specs.Words.{capacity_of, key_word}
use Rattle.nam_catalog.specs.declared.shape.Shape.{Shape}
use Rattle.nam_ghost.specs.Chains.{ChainsOk, IsLoaded}
use Rattle.nam_ghost.specs.Keys.{Bears, KeysOk}
use Rattle.nam_ghost.specs.Versions.{Chain, IsNth, Version, versions}
use Rattle.nam_ghost.specs.Wanted.{IsNewest, Wanted}
use Rattle.nam_header.specs.Visible.{IsLoaders, is_visible}
use Rattle.nam_layout.specs.Rows.{row_of}
use Rattle.nam_layout.specs.declared.field.Field.{Field}
use Rattle.nam_layout.specs.declared.field.Field.TheVariants.{Key}
use Rattle.nam_protocol.specs.Operations.{own_value}
use Rattle.nam_protocol.specs.declared.txn.TxnState.{TxnState}
use Rattle.nam_scans.proofs.ListedLemmas.{at_once}
use Rattle.nam_scans.specs.Gathered.{FindsBy}
use Rattle.nam_scans.specs.ScannedLaw.{FindsKey, FindsLaw}
use Rattle.nam_store.proofs.Lists.{some_within}
use Rattle.nam_store.specs.Store.{Store}
use Rattle.si_model.specs.Rows.{key_at, writes_key}
use Rattle.si_model.specs.declared.log.Stamp.{Stamp}

-- 1. A snapshot sees some version of each row, the loader's at least

loaders_seen : (stamp : Stamp) (seen : List ℕ) → IsLoaders stamp → is_visible stamp seen ≡ true
loaders_seen stamp seen is = rw (is.0, is.1) refl

module _ (seen : List ℕ) (chain : Chain) (first : (version : Version) → IsNth chain 0 version → IsLoaded version) where
  newest_below : (n : ℕ) → n ≤ length (versions chain)
      → ((k : ℕ) (version : Version) → n ≤ k → IsNth chain k version → is_visible version.stamp seen ≡ false)
      → (number : ℕ) × (version : Version) × Wanted seen chain number version
  newest_below zero most hidden =
      let long = length_push chain.old chain.now in
      let there = some_within (versions chain) 0 (omega arith) in
      absurd (true≢false (sym (loaders_seen there.0.stamp seen (first there.0 there.1).stamp)
      ∙ hidden 0 there.0 (omega arith) there.1))
  newest_below (suc n) most hidden =
      let there = some_within (versions chain) n (omega arith) in
      elim (cases_Bool (is_visible there.0.stamp seen)) [
        | inl sees ↦ (
          n,
          there.0,
          record { is = there.1; sees = sees; newer = λ k newer less is. hidden k newer (omega arith) is },
        )
        | inr hides ↦
            newest_below n (omega arith) (λ k version least is. elim (cases_eq k n) [
              | inl same ↦
                  subst (λ (v : Version). is_visible v.stamp seen ≡ false)
                  (same_Some there.0 version
                  (sym there.1 ∙ subst (λ j. slice_get (versions chain) j ≡ Some version) same is)) hides
              | inr apart ↦ hidden k version (omega arith) is
            ])
      ]

  pub newest_there : (value : Option (List ℕ)) × IsNewest seen chain value
  newest_there =
      let wanted = newest_below (length (versions chain)) (omega arith) (λ k version least is.
      let less = slice_get_within (versions chain) k version is in absurd (omega arith)) in (
        wanted.1.value,
        record { number = wanted.0; version = wanted.1; wanted = wanted.2; value_is = refl },
      )

-- 2. A key has a position or none

module _ (shape : Shape) (m : Field → ℕ) (table key : ℕ) where
  abbrev Here : ℕ → Type 0
  Here position = Bears shape m table key position

  pub look : (n : ℕ) → ((position : ℕ) × (position < n) × Here position)
      ⊎ ((position : ℕ) → position < n → Here position → ⊥)
  look zero = inr (λ position less here. absurd (omega arith))
  look (suc n) = elim (look n) [
    | inl found ↦ let less = found.1 in inl (found.0, (omega arith), found.2)
    | inr none ↦ elim (cases_eq (m (Key (row_of shape.tables table n))) (key_word key)) [
      | inl here ↦ inl (n, (omega arith), here)
      | inr other ↦ inr (λ position less here. elim (cases_lt position n) [
        | inl earlier ↦ none position earlier here
        | inr most ↦ let same : position ≡ n = omega arith in other (subst Here same here)
      ])
    ]
  ]

module _ (shape : Shape) (store : Store) (chains : ℕ → Chain) (keys : KeysOk shape store chains)
    (ok : ChainsOk shape store chains) (state : TxnState) (table : ℕ) (is : IsTableOf shape table) (key : ℕ) where
  finds_by : (test : Bool) (position : ℕ) → position < capacity_of shape table → (value : Option (List ℕ))
      × FindsBy test state (chains (row_of shape.tables table position)) (key_at table key) value
  finds_by true position less = (own_value state.writes (key_at table key), refl)
  finds_by false position less =
      let row = row_of shape.tables table position in
      newest_there state.seen (chains row) (ok row (row_within shape table position is less)).first

  finds_some : (value : Option (List ℕ)) × FindsKey shape store chains state table key value
  finds_some = elim (look shape (memory shape store.words) table key (capacity_of shape table)) [
    | inl found ↦
        let finds = finds_by (writes_key state.writes (key_at table key)) found.0 found.1 in
        (finds.0, inl record { position = found.0; within = found.1; bears = found.2; finds = finds.1 })
    | inr none ↦ (None, inr (none, refl))
  ]

  finds_one : (one other : Option (List ℕ)) → FindsKey shape store chains state table key one
      → FindsKey shape store chains state table key other → one ≡ other
  finds_one one other (inl a) (inl b) =
      at_once shape store chains state table is keys.paths key one other a b
  finds_one one other (inl a) (inr none) = absurd (none.0 a.position a.within a.bears)
  finds_one one other (inr none) (inl b) = absurd (none.0 b.position b.within b.bears)
  finds_one one other (inr none) (inr too) = none.1 ∙ sym too.1

pub finds_law : FindsLaw
finds_law shape store chains keys ok state table is key =
    let some = finds_some shape store chains keys ok state table is key in (
      some.0,
      some.1,
      λ other finds. finds_one shape store chains keys ok state table is key other some.0 finds some.1,
    )
