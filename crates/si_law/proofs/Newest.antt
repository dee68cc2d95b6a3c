-- The commit of the greatest prefix that writes a key, and what a key holds by it.
use Rattle.std.proofs.Common.{◌≡◌, ◌<◌, ◌≤◌, true, false, cond, inl, inr, List, [], ◌∷◌, refl, ap, sym, ◌∙◌, subst}
use Rattle.std.proofs.Common.{arith, ltb, Option, Some, None}
use Rattle.std.specs.Prelude.{map}
use Rattle.std.specs.List.{list_any}
use Rattle.std.proofs.lemmas.Bool.{cond_both, false≢true, true≢false, cases_Bool, le-ltb, ltb-true, ltb-false}
use Rattle.si_model.specs.declared.row.Key.{Key}
use Rattle.si_model.specs.declared.row.Item.{Item}
use Rattle.si_model.specs.declared.log.Stamp.{Stamp}
use Rattle.si_model.specs.Lists.{Listed, Pairwise}
use Rattle.si_model.specs.Rows.{Rows, same_key, item_key, writes_key, overlay}
use Rattle.si_model.specs.State.{state_at}
use Rattle.si_model.specs.History.{stamp_of, newest_from}
use Rattle.si_model.specs.Commits.{Published, entry_of}
use Rattle.si_model.specs.Snapshots.{newer_of, newest_in, value_by}
use Rattle.si_model.proofs.ListLemmas.{All-listed}
use Rattle.si_model.proofs.EvaluationLemmas.{same_key_says}

-- a key that both write sets have
pub share_from : (ws vs : List Item) (key : Key) → writes_key ws key ≡ true → writes_key vs key ≡ true
    → list_any (λ i. writes_key vs (item_key i)) ws ≡ true
share_from [] vs key h k = absurd (false≢true h)
share_from (i ∷ ws) vs key h k =
    elim (cases_Bool (same_key (item_key i) key)) [
      | inl e ↦ let at : writes_key vs (item_key i) ≡ true = rw (same_key_says (item_key i) key e) k in rw at refl
      | inr e ↦
          let rest = share_from ws vs key (rw e at h) k in
          elim (cases_Bool (writes_key vs (item_key i))) [ inl t ↦ rw t refl | inr f ↦ rw f rest ]
    ]

pub overlay_none : (ws : List Item) (rows : Rows) (key : Key) → writes_key ws key ≡ false
    → overlay ws rows key ≡ rows key
overlay_none [] rows key h = refl
overlay_none (i ∷ ws) rows key h =
    elim (cases_Bool (same_key (item_key i) key)) [
      | inl e ↦ absurd (true≢false (rw e at h))
      | inr e ↦ rw e (overlay_none ws rows key (rw e at h))
    ]

pub overlay_some : (ws : List Item) (rows rest : Rows) (key : Key) → writes_key ws key ≡ true
    → overlay ws rows key ≡ overlay ws rest key
overlay_some [] rows rest key h = absurd (false≢true h)
overlay_some (i ∷ ws) rows rest key h =
    elim (cases_Bool (same_key (item_key i) key)) [
      | inl e ↦ rw e refl
      | inr e ↦ rw e (overlay_some ws rows rest key (rw e at h))
    ]

-- what the newest is
abbrev pub IsNewest : Key → List Published → Option Published → Type 0
IsNewest key cs None = (c : Published) → Listed c cs → writes_key c.line.writes key ≡ false
IsNewest key cs (Some d) =
    Listed d cs × (writes_key d.line.writes key ≡ true)
    × ((c : Published) → Listed c cs → writes_key c.line.writes key ≡ true → c.line.prefix ≤ d.line.prefix)

module _ (key : Key) where
  pub newest_is : (cs : List Published) → IsNewest key cs (newest_in key cs)
  newest_is [] = λ c l. elim l [ ]
  newest_is (c ∷ cs) =
      cond_both (writes_key c.line.writes key) (Some (newer_of c (newest_in key cs))) (newest_in key cs)
      (IsNewest key (c ∷ cs))
      (λ e. first c cs e (newest_in key cs) (newest_is cs))
      (λ e. second c cs e (newest_in key cs) (newest_is cs))
    where
      first : (c : Published) (cs : List Published) → writes_key c.line.writes key ≡ true → (r : Option Published)
          → IsNewest key cs r
          → IsNewest key (c ∷ cs) (Some (newer_of c r))
      first c cs e None n = (
        inl refl,
        e,
        λ d l w. elim l [
          | inl q ↦ omega (arith, ap (λ z. z.line.prefix) q)
          | inr r ↦ absurd (false≢true (sym (n d r) ∙ w))
        ],
      )
      first c cs e (Some d) n =
          cond_both (ltb d.line.prefix c.line.prefix) c d (λ z. IsNewest key (c ∷ cs) (Some z))
          (λ t. let lt = ltb-true d.line.prefix c.line.prefix t in (
            inl refl,
            e,
            λ x l w. elim l [
              | inl q ↦ omega (arith, ap (λ z. z.line.prefix) q)
              | inr r ↦ omega (arith, lt, n.2 x r w)
            ],
          ))
          (λ t. let ge = ltb-false d.line.prefix c.line.prefix t in
          (inr n.0, n.1, λ x l w. elim l [ inl q ↦ omega (arith, ge, ap (λ z. z.line.prefix) q) | inr r ↦ n.2 x r w ]))

      second : (c : Published) (cs : List Published) → writes_key c.line.writes key ≡ false → (r : Option Published)
          → IsNewest key cs r
          → IsNewest key (c ∷ cs) r
      second c cs e None n = λ d l. elim l [
        | inl q ↦ ap (λ z. writes_key z.line.writes key) (sym q) ∙ e
        | inr r ↦ n d r
      ]
      second c cs e (Some d) n = (
        inr n.0,
        n.1,
        λ x l w. elim l [
          | inl q ↦ absurd (false≢true (sym e ∙ ap (λ z. writes_key z.line.writes key) q ∙ w))
          | inr r ↦ n.2 x r w
        ],
      )

  -- lists of the same members have the same newest, where a prefix names one writer
  pub newest_same : (xs ys : List Published) → ((c : Published) → Listed c xs → Listed c ys)
      → ((c : Published) → Listed c ys → Listed c xs)
      → ((c d : Published) → Listed c xs → Listed d xs → writes_key c.line.writes key ≡ true
      → writes_key d.line.writes key ≡ true
      → c.line.prefix ≡ d.line.prefix → c ≡ d)
      → newest_in key xs ≡ newest_in key ys
  newest_same xs ys to from one = same (newest_in key xs) (newest_in key ys) (newest_is xs) (newest_is ys)
    where
      same : (r s : Option Published) → IsNewest key xs r → IsNewest key ys s → r ≡ s
      same None None m n = refl
      same None (Some d) m n = absurd (false≢true (sym (m d (from d n.0)) ∙ n.1))
      same (Some c) None m n = absurd (false≢true (sym (n c (to c m.0)) ∙ m.1))
      same (Some c) (Some d) m n =
          ap Some (one c d m.0 (from d n.0) m.1 n.1 (omega (arith, m.2 d (from d n.0) n.1, n.2 c (to c m.0) m.1)))

  -- the writers' prefixes rise
  abbrev pub RisesBy : Published → Published → Type 0
  RisesBy c d = writes_key c.line.writes key ≡ true → writes_key d.line.writes key ≡ true
      → c.line.prefix < d.line.prefix

  abbrev pub Rises : List Published → Type 0
  Rises cs = Pairwise RisesBy cs

  -- where they rise, the newest is the last
  newest_last : (c : Published) (cs : List Published) → Rises (c ∷ cs) → (d : Published) → newest_in key cs ≡ Some d
      → newest_in key (c ∷ cs) ≡ Some d
  newest_last c cs r d e =
      let n : IsNewest key cs (Some d) = subst (IsNewest key cs) e (newest_is cs) in
      cond_both (writes_key c.line.writes key) (Some (newer_of c (newest_in key cs))) (newest_in key cs)
      (λ z. z ≡ Some d)
      (λ w. let lt : c.line.prefix < d.line.prefix = All-listed (RisesBy c) cs d r.0 n.0 w n.1 in
      rw (e, le-ltb d.line.prefix c.line.prefix (omega arith)) refl)
      (λ w. e)

  state_step : (rows : Rows) (c : Published) (cs : List Published) → Rises (c ∷ cs)
      → state_at (overlay c.line.writes rows) (map entry_of cs) key
      ≡ value_by (overlay c.line.writes rows) key (newest_in key cs)
      → (n : Option Published) → newest_in key cs ≡ n
      → state_at (overlay c.line.writes rows) (map entry_of cs) key ≡ value_by rows key (newest_in key (c ∷ cs))
  state_step rows c cs r ih (Some d) e =
      let w : IsNewest key cs (Some d) = subst (IsNewest key cs) e (newest_is cs) in
      ih ∙ ap (value_by (overlay c.line.writes rows) key) e
      ∙ overlay_some d.line.writes (overlay c.line.writes rows) rows key w.1
      ∙ ap (value_by rows key) (sym (newest_last c cs r d e))
  state_step rows c cs r ih None e =
      ih ∙ ap (value_by (overlay c.line.writes rows) key) e
      ∙ cond_both (writes_key c.line.writes key) (Some (newer_of c (newest_in key cs))) (newest_in key cs)
      (λ z. overlay c.line.writes rows key ≡ value_by rows key z)
      (λ w. rw e refl) (λ w. rw e (overlay_none c.line.writes rows key w))

  -- the state after the commits
  pub state_newest : (rows : Rows) (cs : List Published) → Rises cs
      → state_at rows (map entry_of cs) key ≡ value_by rows key (newest_in key cs)
  state_newest rows [] r = refl
  state_newest rows (c ∷ cs) r =
      state_step rows c cs r (state_newest (overlay c.line.writes rows) cs r.1) (newest_in key cs) refl

  abbrev pub stamp_or : Stamp → Option Published → Stamp
  stamp_or s None = s
  stamp_or s (Some c) = stamp_of c.line

  stamp_step : (s : Stamp) (c : Published) (cs : List Published) → Rises (c ∷ cs)
      → newest_from (cond (writes_key c.line.writes key) (stamp_of c.line) s) key (map entry_of cs)
      ≡ stamp_or (cond (writes_key c.line.writes key) (stamp_of c.line) s) (newest_in key cs)
      → (n : Option Published) → newest_in key cs ≡ n
      → newest_from (cond (writes_key c.line.writes key) (stamp_of c.line) s) key (map entry_of cs)
      ≡ stamp_or s (newest_in key (c ∷ cs))
  stamp_step s c cs r ih (Some d) e =
      ih ∙ ap (stamp_or (cond (writes_key c.line.writes key) (stamp_of c.line) s)) e
      ∙ ap (stamp_or s) (sym (newest_last c cs r d e))
  stamp_step s c cs r ih None e =
      ih ∙ ap (stamp_or (cond (writes_key c.line.writes key) (stamp_of c.line) s)) e
      ∙ elim (cases_Bool (writes_key c.line.writes key)) [ inl w ↦ rw (w, e) refl | inr w ↦ rw (w, e) refl ]

  -- the last stamp of the key
  pub stamp_newest : (s : Stamp) (cs : List Published) → Rises cs
      → newest_from s key (map entry_of cs) ≡ stamp_or s (newest_in key cs)
  stamp_newest s [] r = refl
  stamp_newest s (c ∷ cs) r =
      stamp_step s c cs r (stamp_newest (cond (writes_key c.line.writes key) (stamp_of c.line) s) cs r.1)
      (newest_in key cs) refl
