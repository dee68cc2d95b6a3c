-- Histories with one more entry.
use Rattle.std.proofs.Common.{◌≡◌, ◌≢◌, ℕ, zero, suc, ◌+◌, ◌-◌, ◌<◌, ◌≤◌, List, [], ◌∷◌, ◌++◌, refl, ap, sym, ◌∙◌}
use Rattle.std.proofs.Common.{subst, arith, append_assoc, append-nil, le_refl}
use Rattle.std.specs.Prelude.{slice_set, replicate}
use Rattle.std.proofs.lemmas.Bool.Decides.{nat_tests}
use Rattle.si_model.specs.declared.op.Op.{Op}
use Rattle.si_model.specs.declared.report.CommitLine.{CommitLine}
use Rattle.si_model.specs.Rows.{Rows}
use Rattle.si_model.specs.History.{count_of, entries_from, entries_at, MayFollow, IsLegalAfter, IsNumberedAfter}
use Rattle.si_model.specs.Knowledge.{AreAtMost}

-- a legal history with one more legal entry
pub legal_more : (widths : List ℕ) (rows : Rows) (jobs : List (List Op)) (done es : List CommitLine) (e : CommitLine)
    → IsLegalAfter widths rows jobs done es → MayFollow widths rows jobs (done ++ es) e
    → IsLegalAfter widths rows jobs done (es ++ e ∷ [])
legal_more widths rows jobs done [] e legal may =
    (subst (λ d. MayFollow widths rows jobs d e) (append-nil done) may, tt)
legal_more widths rows jobs done (d ∷ ds) e legal may = (
  legal.0,
  legal_more widths rows jobs (done ++ d ∷ []) ds e legal.1
      (subst (λ z. MayFollow widths rows jobs z e) (sym (append_assoc done (d ∷ []) ds)) may),
)

-- a numbered history with the next number
pub numbered_more : (start : ℕ) (done es : List CommitLine) (e : CommitLine) → IsNumberedAfter start done es
    → e.number ≡ start + count_of e.worker (done ++ es) + 1 → IsNumberedAfter start done (es ++ e ∷ [])
numbered_more start done [] e numbered next =
    (subst (λ d. e.number ≡ start + count_of e.worker d + 1) (append-nil done) next, tt)
numbered_more start done (d ∷ ds) e numbered next = (
  numbered.0,
  numbered_more start (done ++ d ∷ []) ds e numbered.1
      (subst (λ z. e.number ≡ start + count_of e.worker z + 1) (sym (append_assoc done (d ∷ []) ds)) next),
)

pub count_of-append : (j : ℕ) (xs ys : List CommitLine) → count_of j (xs ++ ys) ≡ count_of j xs + count_of j ys
count_of-append j [] ys = omega arith
count_of-append j (x ∷ xs) ys = omega (arith, count_of-append j xs ys)

-- an entry of worker j counts for j
pub count_of-own : (j : ℕ) (es : List CommitLine) (e : CommitLine) → e.worker ≡ j
    → count_of j (es ++ e ∷ []) ≡ count_of j es + 1
count_of-own j es e w = count_of-append j es (e ∷ []) ∙ grind (arith, nat_tests)

-- and for nobody else
pub count_of-other : (i : ℕ) (es : List CommitLine) (e : CommitLine) → e.worker ≢ i
    → count_of i (es ++ e ∷ []) ≡ count_of i es
count_of-other i es e w = count_of-append i es (e ∷ []) ∙ grind (arith, nat_tests)

-- the numbers of the workers after j stay
pub entries_from-other : (n i start : ℕ) (es : List CommitLine) (e : CommitLine) → e.worker < i
    → entries_from n i start (es ++ e ∷ []) ≡ entries_from n i start es
entries_from-other zero i start es e w = refl
entries_from-other (suc n) i start es e w =
    let other : e.worker ≢ i = λ same. omega (arith, same, w) in
    rw (count_of-other i es e other, entries_from-other n (suc i) start es e (omega arith)) refl

-- worker j's number is the next one
pub entries_from-own : (n i k start : ℕ) (es : List CommitLine) (e : CommitLine) → e.worker ≡ i + k → k < n
    → slice_set (entries_from n i start es) k (start + count_of e.worker es + 1) ≡ entries_from n i start (es ++ e ∷ [])
entries_from-own zero i k start es e w l = absurd (omega arith)
entries_from-own (suc n) i zero start es e w l =
    let own : e.worker ≡ i = omega arith in
    let here : start + count_of e.worker es + 1 ≡ start + count_of i (es ++ e ∷ []) =
    ap (λ w. start + count_of w es + 1) own ∙ omega (arith, count_of-own i es e own) in
    ap (λ z. z ∷ entries_from n (suc i) start es) here
    ∙ ap (λ zs. (start + count_of i (es ++ e ∷ [])) ∷ zs)
    (sym (entries_from-other n (suc i) start es e (omega arith)))
entries_from-own (suc n) i (suc k) start es e w l =
    let other : e.worker ≢ i = λ same. omega (arith, same, w) in
    ap (λ z. z ∷ slice_set (entries_from n (suc i) start es) k (start + count_of e.worker es + 1))
    (ap (λ z. start + z) (sym (count_of-other i es e other)))
    ∙ ap (λ zs. (start + count_of i (es ++ e ∷ [])) ∷ zs)
    (entries_from-own n (suc i) k start es e (omega arith) (omega arith))

-- the next number of worker j, published
pub entries_at-own : (n start : ℕ) (es : List CommitLine) (e : CommitLine) → 1 ≤ e.worker → e.worker ≤ n
    → slice_set (entries_at n start es) (e.worker - 1) (start + count_of e.worker es + 1)
    ≡ entries_at n start (es ++ e ∷ [])
entries_at-own n start es e low high = entries_from-own n 1 (e.worker - 1) start es e (omega arith) (omega arith)

pub at_most-refl : (ns : List ℕ) → AreAtMost ns ns
at_most-refl [] = tt
at_most-refl (n ∷ ns) = (le_refl n, at_most-refl ns)

-- at first each number is known to be at least start
pub start-at_most : (n i start : ℕ) (es : List CommitLine) → AreAtMost (replicate n start) (entries_from n i start es)
start-at_most zero i start es = tt
start-at_most (suc n) i start es = (omega arith, start-at_most n (suc i) start es)
