-- Snapshots that don't contain one more commit say what they said.
use Rattle.std.proofs.Common.{◌≡◌, ℕ, suc, Bool, true, false, ◌⊎◌, inl, inr, List, [], ◌∷◌, ◌++◌, length, refl, ap, sym}
use Rattle.std.proofs.Common.{◌∙◌, subst, arith}
use Rattle.std.specs.Prelude.{◌&&◌, filter, map}
use Rattle.std.proofs.lemmas.Bool.{cases_Bool, true≢false, false_from_ne_true, or_parts, or_from, and_right}
use Rattle.std.proofs.lemmas.List.{append_assoc, length-append, length-map}
use Rattle.std.proofs.lemmas.List.Elements.{filter-append}
use Rattle.si_model.specs.declared.row.Key.{Key}
use Rattle.si_model.specs.declared.log.Stamp.{Stamp}
use Rattle.si_model.specs.declared.report.CommitLine.{CommitLine}
use Rattle.si_model.specs.Lists.{Listed}
use Rattle.si_model.specs.Rows.{Rows, writes_key}
use Rattle.si_model.specs.History.{loader, stamp_of, same_stamp, has_stamp, versions_of, is_version}
use Rattle.si_model.specs.Tells.{Tell}
use Rattle.si_model.specs.Commits.{Published, entry_of, published_of, published_from, published_by}
use Rattle.si_model.specs.Snapshots.{contains, inside, newest_in, stamp_or_loader, value_by, rows_in, is_after}
use Rattle.si_model.specs.Snapshots.{later_in}
use Rattle.si_model.specs.View.{by_snapshots}
use Rattle.si_model.proofs.ListLemmas.{All-from_listed, listed_append_cases, listed_append_left, listed_append_right}
use Rattle.si_model.proofs.ListLemmas.{filter_listed, listed_map, map_listed, any_listed, listed_any, filter-none}
use Rattle.si_law.specs.Views.{Extends, Agrees}
use Rattle.si_law.specs.Growth.{worker_of}
use Rattle.si_law.proofs.GrowthEnds.{published_ending}
use Rattle.si_law.proofs.Moved.{same_stamp-refl, same_stamp_says, version_listed, version_cases, is_version_moves}

-- the second list is the first with one more commit somewhere
pub record IsWithOneMore (c : Published) (cs more : List Published) : Type 0 where
  pub front : List Published
  pub back : List Published
  pub was : cs ≡ front ++ back
  pub now : more ≡ front ++ c ∷ back

-- so are the commits of all, where one worker's log has one more
pub one_more_ending : (c : Published) (before : List (List Tell)) (was now : List Tell) (after : List (List Tell)) →
    published_of (worker_of before) now ≡ published_of (worker_of before) was ++ c ∷ []
    → IsWithOneMore c (published_by (before ++ was ∷ after)) (published_by (before ++ now ∷ after))
one_more_ending c before was now after more =
    let own = published_of (worker_of before) was in
    let back = published_from (suc (worker_of before)) after in
    record {
      front = published_by before ++ own;
      back = back;
      was = published_ending was after before ∙ sym (append_assoc (published_by before) own back);
      now = published_ending now after before ∙ ap (λ ds. published_by before ++ (ds ++ back)) more
          ∙ ap (λ ds. published_by before ++ ds) (append_assoc own (c ∷ []) back)
          ∙ sym (append_assoc (published_by before) own (c ∷ back));
    }

module _ (c : Published) (cs more : List Published) (adds : IsWithOneMore c cs more) where
  pub one_more_listed : Listed c more
  one_more_listed = subst (Listed c) (sym adds.now) (listed_append_right adds.front (c ∷ adds.back) c (inl refl))

  pub one_more_keeps : (d : Published) → Listed d cs → Listed d more
  one_more_keeps d l = elim (listed_append_cases adds.front adds.back d (subst (Listed d) adds.was l)) [
    | inl a ↦ subst (Listed d) (sym adds.now) (listed_append_left adds.front (c ∷ adds.back) d a)
    | inr a ↦ subst (Listed d) (sym adds.now) (listed_append_right adds.front (c ∷ adds.back) d (inr a))
  ]

  pub one_more_cases : (d : Published) → Listed d more → Listed d cs ⊎ (c ≡ d)
  one_more_cases d l = elim (listed_append_cases adds.front (c ∷ adds.back) d (subst (Listed d) adds.now l)) [
    | inl a ↦ inl (subst (Listed d) (sym adds.was) (listed_append_left adds.front adds.back d a))
    | inr a ↦ elim a [
      | inl e ↦ inr e
      | inr b ↦
          inl (subst (Listed d) (sym adds.was) (listed_append_right adds.front adds.back d b))
    ]
  ]

  pub one_more_length : length more ≡ suc (length cs)
  one_more_length =
      omega (
        arith,
        ap length adds.was,
        ap length adds.now,
        length-append adds.front adds.back,
        length-append adds.front (c ∷ adds.back),
      )

  pub one_more_inside : (snap : List ℕ) → contains snap (stamp_of c.line) ≡ false → inside snap cs ≡ inside snap more
  one_more_inside snap out =
      let p : Published → Bool = λ d. contains snap (stamp_of d.line) in
      let skip : filter p (c ∷ adds.back) ≡ filter p adds.back = rw out refl in
      ap (inside snap) adds.was ∙ filter-append p adds.front adds.back ∙ ap (λ ds. filter p adds.front ++ ds) (sym skip)
      ∙ sym (filter-append p adds.front (c ∷ adds.back)) ∙ sym (ap (inside snap) adds.now)

  pub one_more_rows : (rows : Rows) (snap : List ℕ) → contains snap (stamp_of c.line) ≡ false
      → rows_in rows cs snap ≡ rows_in rows more snap
  one_more_rows rows snap out = ap (λ seen key. value_by rows key (newest_in key seen)) (one_more_inside snap out)

  entry_keeps : (e : CommitLine) → Listed e (map entry_of cs) → Listed e (map entry_of more)
  entry_keeps e l =
      let d = map_listed entry_of cs e l in
      subst (λ z. Listed z (map entry_of more)) d.2 (listed_map entry_of more d.0 (one_more_keeps d.0 d.1))

  pub one_more_extends : (rows : Rows) → Extends (by_snapshots rows cs) (by_snapshots rows more)
  one_more_extends rows = record {
    listed = entry_keeps;
    long = omega (arith, one_more_length, length-map cs entry_of, length-map more entry_of);
    unversioned = λ t key q e. rw e refl;
  }

  -- a stamp that is a version only with the new commit is the commit's
  new_version : (key : Key) (q : Stamp) → is_version key q (map entry_of cs) ≡ false
      → is_version key q (map entry_of more) ≡ true →
      stamp_of c.line ≡ q
  new_version key q none h =
      let a = any_listed (λ p. same_stamp p q) (versions_of key (map entry_of more)) h in
      let refuted : Listed a.0 (versions_of key (map entry_of cs)) → ⊥ = λ l.
      true≢false (sym (listed_any (λ p. same_stamp p q) (versions_of key (map entry_of cs)) a.0 l a.2) ∙ none) in
      elim (version_cases key a.0 (map entry_of more) a.1) [
        | inl e ↦ absurd (refuted (inl e))
        | inr (e, l, writes, is) ↦
            let d = map_listed entry_of more e l in
            elim (one_more_cases d.0 d.1) [
              | inl m ↦
                  let listed : Listed e (map entry_of cs) =
                  subst (λ z. Listed z (map entry_of cs)) d.2 (listed_map entry_of cs d.0 m) in
                  absurd (refuted (subst (λ z. Listed z (versions_of key (map entry_of cs))) is
                  (version_listed key e (map entry_of cs) listed writes)))
              | inr same ↦ ap (λ z. stamp_of z.line) same ∙ ap stamp_of d.2 ∙ is ∙ same_stamp_says a.0 q a.2
            ]
      ]

  module _ (unseen : (d : Published) → Listed d cs → contains d.snap (stamp_of c.line) ≡ false) (snap : List ℕ)
      (out : contains snap (stamp_of c.line) ≡ false) where
    abbrev counted : Key → Stamp → List Published → ℕ
    counted key q seen = length (filter (λ d. writes_key d.line.writes key && is_after q d) seen)

    fresh : (key : Key) (q : Stamp) → is_version key q (map entry_of cs) ≡ false
        → is_version key q (map entry_of more) ≡ true →
        counted key q (inside snap cs) ≡ 0
    fresh key q none h =
        let is = new_version key q none h in
        let not_loader : same_stamp q loader ≡ false = false_from_ne_true (same_stamp q loader) (λ e.
        true≢false
        (sym (same_stamp-refl q) ∙ sym (ap (λ z. same_stamp z q) (sym (same_stamp_says q loader e)))
        ∙ (or_parts (same_stamp loader q) _ none).0)) in
        ap length (filter-none (λ d. writes_key d.line.writes key && is_after q d) (inside snap cs)
        (All-from_listed (λ d. (writes_key d.line.writes key && is_after q d) ≡ false) (inside snap cs) (λ d l.
        let hidden : contains d.snap q ≡ false =
        subst (λ z. contains d.snap z ≡ false) is
        (unseen d (filter_listed (λ d. contains snap (stamp_of d.line)) cs d l).0) in
        and_right (writes_key d.line.writes key) (is_after q d)
        (or_from (same_stamp q loader) (contains d.snap q) not_loader hidden))))

    same_later : (key : Key) (q : Stamp) → later_in cs key q (inside snap cs) ≡ later_in more key q (inside snap more)
    same_later key q =
        let same : counted key q (inside snap cs) ≡ counted key q (inside snap more) =
        ap (counted key q) (one_more_inside snap out) in
        elim (cases_Bool (is_version key q (map entry_of cs))) [
          | inl h ↦ rw (h, is_version_moves key q (map entry_of cs) (map entry_of more) entry_keeps h) same
          | inr h ↦ elim (cases_Bool (is_version key q (map entry_of more))) [
            | inl k ↦ rw (h, k) (sym (fresh key q h k) ∙ same)
            | inr k ↦ rw (h, k) refl
          ]
        ]

  -- the views by both lists agree at an event whose snapshot doesn't contain the commit, where no commit's does
  pub one_more_agrees : (rows : Rows) (t : Tell)
      → ((d : Published) → Listed d cs → contains d.snap (stamp_of c.line) ≡ false) →
      contains t.snap (stamp_of c.line) ≡ false → Agrees (by_snapshots rows cs) (by_snapshots rows more) t
  one_more_agrees rows t unseen out =
      let seen = one_more_inside t.snap out in
      record {
        value = one_more_rows rows t.snap out;
        newest = ap (λ ds key. stamp_or_loader (newest_in key ds)) seen;
        entries = refl;
        has = ap (λ ds s. has_stamp (map entry_of ds) s) seen;
        later = same_later unseen t.snap out;
      }
