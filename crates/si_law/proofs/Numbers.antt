-- Each worker's numbers follow one by one in the arranged history.
use Rattle.std.proofs.Common.{◌≡◌, ℕ, suc, ◌+◌, ◌<◌, ◌≤◌, cond, inl, inr, List, [], ◌∷◌, ◌++◌, length, refl, ap, sym}
use Rattle.std.proofs.Common.{◌∙◌, subst, arith, eqb}
use Rattle.std.specs.Prelude.{map}
use Rattle.std.proofs.lemmas.Bool.{cond_both, cases_Bool, cases_lt, cases_eq, eqb-true, eqb-false}
use Rattle.si_model.specs.declared.report.CommitLine.{CommitLine}
use Rattle.si_model.specs.Lists.{Listed, Pairwise}
use Rattle.si_model.specs.Rows.{Rows}
use Rattle.si_model.specs.History.{stamp_of, count_of, IsNumberedAfter, IsNumbered}
use Rattle.si_model.specs.Tells.{Tell}
use Rattle.si_model.specs.Commits.{Published, entry_of, published_of, published_from, published_by}
use Rattle.si_model.specs.View.{by_snapshots}
use Rattle.si_model.specs.Setting.{Setting, Asked}
use Rattle.si_model.specs.Arranged.{level_of}
use Rattle.si_model.specs.Consistency.{NumbersFollow, AreOwned, HaveOrder, AreSound}
use Rattle.si_model.proofs.ListLemmas.{All-listed, Pairwise-weaker, listed_append_cases, listed_append_left}
use Rattle.si_model.proofs.ListLemmas.{listed_append_right}
use Rattle.si_law.proofs.Standing.{stamp_path, AreOutside, worker_is, number_above}
use Rattle.si_law.proofs.Counted.{IsOrdered, from_history, to_history, precedes_level, Before}
use Rattle.si_law.proofs.Order.{precedes_apart, level_outside}
use Rattle.si_law.proofs.OwnCommits.{own_before}

-- of numbers that follow m, each up to a listed one is listed
dense_one : (m : ℕ) (cs : List Published) → NumbersFollow m cs → (c : Published) → Listed c cs → (n : ℕ) → m < n
    → n ≤ c.line.number
    → (d : Published) × Listed d cs × (d.line.number ≡ n)
dense_one m [] h c l n a b = elim l [ ]
dense_one m (x ∷ cs) h c l n a b =
    elim (cases_eq n (suc m)) [
      | inl q ↦ (x, inl refl, h.0 ∙ sym q)
      | inr q ↦ elim l [
        | inl e ↦ absurd (q (omega (arith, h.0, ap (λ z. z.line.number) e)))
        | inr r ↦ let d = dense_one (suc m) cs h.1 c r n (omega arith) b in (d.0, inr d.1, d.2)
      ]
    ]

-- the numbers of worker j in a list: above n, and each from there up to a listed one
abbrev DenseAbove : ℕ → ℕ → List Published → Type 0
DenseAbove j n cs =
    (c : Published) → Listed c cs → c.line.worker ≡ j
    → (n < c.line.number) × ((m : ℕ) → n < m → m ≤ c.line.number → (d : Published) × Listed d cs × (d.line.worker ≡ j)
    × (d.line.number ≡ m))

abbrev RisesWith : Published → Published → Type 0
RisesWith c d = c.line.worker ≡ d.line.worker → c.line.number < d.line.number

-- worker j's numbers follow n
abbrev NumberedFrom : ℕ → ℕ → List CommitLine → Type 0
NumberedFrom j n [] = Unit {0}
NumberedFrom j n (e ∷ es) = (e.worker ≡ j → e.number ≡ suc n) × NumberedFrom j (cond (eqb e.worker j) (suc n) n) es

numbered_from : (j n : ℕ) (cs : List Published) → Pairwise RisesWith cs → DenseAbove j n cs
    → NumberedFrom j n (map entry_of cs)
numbered_from j n [] r h = tt
numbered_from j n (c ∷ cs) r h =
    let first : c.line.worker ≡ j → c.line.number ≡ suc n = λ w.
    let here = h c (inl refl) w in
    let d = here.1 (suc n) (omega arith) here.0 in
    elim d.1 [
      | inl e ↦ ap (λ z. z.line.number) e ∙ d.3
      | inr l ↦ absurd (omega (arith, here.0, d.3, All-listed (RisesWith c) cs d.0 r.0 l (w ∙ sym d.2)))
    ] in (
      first,
      cond_both (eqb c.line.worker j) (suc n) n (λ z. NumberedFrom j z (map entry_of cs))
          (λ t. let w = eqb-true c.line.worker j t in
          numbered_from j (suc n) cs r.1 (λ x l v. (
            omega (arith, first w, All-listed (RisesWith c) cs x r.0 l (w ∙ sym v)),
            λ m a b. let d = (h x (inr l) v).1 m (omega arith) b in
                elim d.1 [
                  | inl e ↦ absurd (omega (arith, first w, d.3, ap (λ z. z.line.number) e))
                  | inr k ↦ (d.0, k, d.2, d.3)
                ],
          )))
          (λ f. let no' = eqb-false c.line.worker j f in
          numbered_from j n cs r.1 (λ x l v. (
            (h x (inr l) v).0,
            λ m a b. let d = (h x (inr l) v).1 m a b in
                elim d.1 [ inl e ↦ absurd (no' (ap (λ z. z.line.worker) e ∙ d.2)) | inr k ↦ (d.0, k, d.2, d.3) ],
          ))),
    )

count_push : (j : ℕ) (es : List CommitLine) (e : CommitLine)
    → count_of j (es ++ e ∷ []) ≡ cond (eqb e.worker j) (suc (count_of j es)) (count_of j es)
count_push j [] e = elim (cases_Bool (eqb e.worker j)) [ inl t ↦ rw t refl | inr f ↦ rw f refl ]
count_push j (x ∷ es) e =
    let rest = count_push j es e in
    elim (cases_Bool (eqb e.worker j)) [
      | inl t ↦ rw t (let r : count_of j (es ++ e ∷ []) ≡ suc (count_of j es) = rw t at rest in omega (arith, r))
      | inr f ↦ rw f (let r : count_of j (es ++ e ∷ []) ≡ count_of j es = rw f at rest in omega (arith, r))
    ]

numbered_after : (start : ℕ) (done es : List CommitLine) → ((j : ℕ) → NumberedFrom j (start + count_of j done) es)
    → IsNumberedAfter start done es
numbered_after start done [] h = tt
numbered_after start done (e ∷ es) h = (
  let first = (h e.worker).0 refl in omega (arith, first),
  numbered_after start (done ++ e ∷ []) es (λ j. subst (λ n. NumberedFrom j n es) (next j) (h j).1),
)
  where
    next : (j : ℕ) → cond (eqb e.worker j) (suc (start + count_of j done)) (start + count_of j done) ≡ start
        + count_of j (done ++ e ∷ [])
    next j =
        let push = count_push j done e in
        elim (cases_Bool (eqb e.worker j)) [
          | inl t ↦ let p : count_of j (done ++ e ∷ []) ≡ suc (count_of j done) =
              rw t at push in rw t (omega (arith, p))
          | inr f ↦ let p : count_of j (done ++ e ∷ []) ≡ count_of j done = rw f at push in rw f (omega (arith, p))
        ]

dense_from : (start i j : ℕ) (tss : List (List Tell)) → AreOwned start i tss → DenseAbove j start (published_from i tss)
dense_from start i j [] w c l v = elim l [ ]
dense_from start i j (ts ∷ tss) w c l v =
    elim (listed_append_cases (published_of i ts) (published_from (suc i) tss) c l) [
      | inl h ↦
          let at : c.line.worker ≡ i = worker_is i ts c h in (
            number_above start (published_of i ts) w.0.numbers c h,
            λ m a b. let d = dense_one start (published_of i ts) w.0.numbers c h m a b in (
              d.0,
              listed_append_left (published_of i ts) (published_from (suc i) tss) d.0 d.1,
              worker_is i ts d.0 d.1 ∙ sym at ∙ v,
              d.2,
            ),
          )
      | inr h ↦
          let r = dense_from start (suc i) j tss w.1 c h v in (
            r.0,
            λ m a b. let d = r.1 m a b in
                (d.0, listed_append_right (published_of i ts) (published_from (suc i) tss) d.0 d.1, d.2, d.3),
          )
    ]

module _ (s : Setting) (asked : Asked) (rows : Rows) (tss : List (List Tell)) (one_log_each : length tss ≡ s.workers)
    (ok : HaveOrder s.start tss)
    (own : AreOutside tss)
    (sound : AreSound s asked (by_snapshots rows (published_by tss)) tss 1 tss) (history : List Published)
    (arr : IsOrdered s.start tss history) where
  -- one worker's numbers rise
  worker_rises : Pairwise RisesWith history
  worker_rises =
      Pairwise-weaker (λ c. Listed c (published_by tss)) (Before s.start tss arr.depth) RisesWith
      (λ c d l k p e. elim (cases_lt c.line.number d.line.number) [
        | inl less ↦ less
        | inr ge ↦ elim (cases_eq d.line.number c.line.number) [
          | inl q ↦
              let one = stamp_path c.line.worker d.line.worker c.line.number d.line.number e (sym q) in
              absurd (precedes_apart (level_of s.start tss) arr.depth c.line d.line p one)
          | inr q ↦
              let few : 1 + length tss ≤ suc s.workers = omega (arith, one_log_each) in
              let before =
              own_before s asked rows (published_by tss) tss 1 tss (omega arith) few ok.owned sound d c k l (sym e)
              (omega arith) in
              absurd (level_outside s.start tss ok own c l (stamp_of d.line) before
              (precedes_level (level_of s.start tss) arr.depth c.line d.line p))
        ]
      ])
      history (from_history s.start tss ok history arr) arr.ordered

  pub numbered : IsNumbered s.start (map entry_of history)
  numbered =
      let dense : (j : ℕ) → DenseAbove j s.start history = λ j c l v.
      let r = dense_from s.start 1 j tss ok.owned c (from_history s.start tss ok history arr c l) v in
      (r.0, λ m a b. let d = r.1 m a b in (d.0, to_history s.start tss ok history arr d.0 d.1, d.2, d.3)) in
      numbered_after s.start [] (map entry_of history)
      (λ j. subst (λ n. NumberedFrom j n (map entry_of history)) (omega arith)
      (numbered_from j s.start history worker_rises (dense j)))
