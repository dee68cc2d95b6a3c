-- Each entry of the arranged history is exactly one listed commit.
use Rattle.std.proofs.Common.{◌≡◌, ℕ, suc, ◌<◌, ◌≤◌, Bool, true, false, cond, inl, inr, List, [], ◌∷◌, length, refl, ap}
use Rattle.std.proofs.Common.{sym, ◌∙◌, arith, Option, Some, None}
use Rattle.std.specs.Prelude.{filter, ◌&&◌, ◌==◌}
use Rattle.std.proofs.lemmas.Bool.{cond_both, cases_Bool, cases_eq, false_from_ne_true, and_parts, and_from, eqb-true}
use Rattle.std.proofs.lemmas.Bool.{eq-eqb}
use Rattle.std.proofs.lemmas.List.{length-append}
use Rattle.std.proofs.lemmas.List.Elements.{filter-append}
use Rattle.si_model.specs.declared.log.Attempt.{Attempt}
use Rattle.si_model.specs.declared.log.Outcome.{Outcome}
use Rattle.si_model.specs.declared.log.Outcome.TheVariants.{Commit}
use Rattle.si_model.specs.declared.log.Event.{Event}
use Rattle.si_model.specs.declared.log.Event.TheVariants.{Tried}
use Rattle.si_model.specs.declared.report.CommitLine.{CommitLine}
use Rattle.si_model.specs.Lists.{Listed}
use Rattle.si_model.specs.Tells.{Tell, attempt_in, number_in}
use Rattle.si_model.specs.Commits.{Published, published_in, published_at, published_of, published_from, published_by}
use Rattle.si_model.specs.Consistency.{NumbersFollow, AreOwned}
use Rattle.si_model.specs.Run.{is_entry_of, is_listed_as, times_listed}
use Rattle.si_model.proofs.ListLemmas.{All-from_listed, filter-none, listed_filter}
use Rattle.si_law.proofs.Standing.{worker_from, worker_is, number_above}

-- has the commit the entry's worker, number, prefix and transaction
abbrev is_line : CommitLine → Published → Bool
is_line e d = (e.worker == d.line.worker) && (d.line.number == e.number) && (d.line.prefix == e.prefix)
    && (d.line.txn == e.txn)

one_or_none : {X : Type 0} (b : Bool) (x : X) → cond b 1 0 ≡ length (cond b (x ∷ []) [])
one_or_none true x = refl
one_or_none false x = refl

never : (b : Bool) → (b && false) ≡ false
never true = refl
never false = refl

-- an attempt of these words is listed as the entry
abbrev is_entry : CommitLine → ℕ → ℕ → Option ℕ → Outcome → Bool
is_entry e j txn p o =
    (e.worker == j) && elim (number_in o) [ None ↦ false | Some n ↦ n == e.number ]
    && elim p [ None ↦ false | Some q ↦ q == e.prefix ] && (txn == e.txn)

counted_in : (e : CommitLine) (j : ℕ) (t : Tell) (a : Attempt) (p : Option ℕ) (o : Outcome)
    → cond (is_entry e j a.txn p o) 1 0 ≡ length (filter (is_line e) (published_in j t a p o))
counted_in e j t a (Some p) (Commit n) =
    one_or_none ((e.worker == j) && (n == e.number) && (p == e.prefix) && (a.txn == e.txn))
    (record {
      line = record { worker = j; number = n; prefix = p; txn = a.txn; writes = t.writes };
      snap = t.snap;
      ops = t.ops;
    })
counted_in e j t a None (Commit n) =
    ap (λ b. cond (b && (a.txn == e.txn)) 1 0) (never ((e.worker == j) && (n == e.number)))
counted_in e j t a p o =
    ap (λ b. cond (b && elim p [ None ↦ false | Some q ↦ q == e.prefix ] && (a.txn == e.txn)) 1 0)
    (never (e.worker == j))

counted_at : (e : CommitLine) (j : ℕ) (t : Tell) (v : Event)
    → cond (elim (attempt_in v) [ None ↦ false | Some a ↦ is_entry_of e j a ]) 1 0
    ≡ length (filter (is_line e) (published_at j t v))
counted_at e j t (Tried a) = counted_in e j t a a.prefix a.outcome
counted_at e j t v = refl

counted_of : (e : CommitLine) (j : ℕ) (ts : List Tell)
    → length (filter (is_listed_as e j) ts) ≡ length (filter (is_line e) (published_of j ts))
counted_of e j [] = refl
counted_of e j (t ∷ ts) =
    let rest = counted_of e j ts in
    let here : cond (is_listed_as e j t) 1 0 ≡ length (filter (is_line e) (published_at j t t.event)) =
    counted_at e j t t.event in
    let apart = ap length (filter-append (is_line e) (published_at j t t.event) (published_of j ts)) in
    let long = length-append (filter (is_line e) (published_at j t t.event)) (filter (is_line e) (published_of j ts)) in
    elim (cases_Bool (is_listed_as e j t)) [
      | inl y ↦ let h : 1 ≡ length (filter (is_line e) (published_at j t t.event)) =
          rw y at here in rw y (omega (arith, rest, h, apart, long))
      | inr n ↦ let h : 0 ≡ length (filter (is_line e) (published_at j t t.event)) =
          rw n at here in rw n (omega (arith, rest, h, apart, long))
    ]

-- an entry is listed as often as commits are it
counted : (e : CommitLine) (j : ℕ) (tss : List (List Tell))
    → times_listed e j tss ≡ length (filter (is_line e) (published_from j tss))
counted e j [] = refl
counted e j (ts ∷ tss) =
    let rest = counted e (suc j) tss in
    let apart = ap length (filter-append (is_line e) (published_of j ts) (published_from (suc j) tss)) in
    let long = length-append (filter (is_line e) (published_of j ts)) (filter (is_line e) (published_from (suc j) tss))
    in
    omega (arith, rest, counted_of e j ts, apart, long)

-- a test that only commits of one worker and one number pass
module _ (q : Published → Bool) (worker number : ℕ)
    (says : (d : Published) → q d ≡ true → (d.line.worker ≡ worker) × (d.line.number ≡ number)) where
  no_other : (cs : List Published) → ((d : Published) → Listed d cs → q d ≡ true → ⊥) → length (filter q cs) ≡ 0
  no_other cs h =
      ap length (filter-none q cs (All-from_listed (λ d. q d ≡ false) cs (λ d l. false_from_ne_true (q d) (h d l))))

  once_of : (m : ℕ) (cs : List Published) → NumbersFollow m cs → length (filter q cs) ≤ 1
  once_of m [] h = omega arith
  once_of m (c ∷ cs) h =
      let rest = once_of (suc m) cs h.1 in
      cond_both (q c) (c ∷ filter q cs) (filter q cs) (λ zs. length zs ≤ 1)
      (λ t. let others = no_other cs (λ d l u.
      omega (arith, h.0, (says c t).1, (says d u).1, number_above (suc m) cs h.1 d l)) in omega (arith, others))
      (λ _. rest)

  once_from : (start j : ℕ) (tss : List (List Tell)) → AreOwned start j tss
      → length (filter q (published_from j tss)) ≤ 1
  once_from start j [] w = omega arith
  once_from start j (ts ∷ tss) w =
      let apart = ap length (filter-append q (published_of j ts) (published_from (suc j) tss)) in
      let long = length-append (filter q (published_of j ts)) (filter q (published_from (suc j) tss)) in
      elim (cases_eq worker j) [
        | inl e ↦
            let one = once_of start (published_of j ts) w.0.numbers in
            let others =
            no_other (published_from (suc j) tss) (λ d l u.
            omega (arith, e, (says d u).0, worker_from (suc j) tss d l)) in
            omega (arith, apart, long, one, others)
        | inr e ↦
            let rest = once_from start (suc j) tss w.1 in
            let others = no_other (published_of j ts) (λ d l u. e (sym (says d u).0 ∙ worker_is j ts d l)) in
            omega (arith, apart, long, rest, others)
      ]

length_listed : {X : Type 0} (xs : List X) (x : X) → Listed x xs → 0 < length xs
length_listed [] x l = elim l [ ]
length_listed (y ∷ xs) x l = omega arith

pub listed_once : (start : ℕ) (tss : List (List Tell)) → AreOwned start 1 tss → (c : Published)
    → Listed c (published_by tss)
    → times_listed c.line 1 tss ≡ 1
listed_once start tss w c l =
    let e = c.line in
    let says : (d : Published) → is_line e d ≡ true → (d.line.worker ≡ e.worker) × (d.line.number ≡ e.number) = λ d t.
    let h = and_parts _ _ (and_parts _ _ (and_parts _ _ t).0).0 in
    (sym (eqb-true e.worker d.line.worker h.0), eqb-true d.line.number e.number h.1) in
    let same = λ (n : ℕ). eq-eqb n n refl in
    let own : is_line e c ≡ true =
    and_from _ _ (and_from _ _ (and_from _ _ (same e.worker) (same e.number)) (same e.prefix)) (same e.txn) in
    let once = once_from (is_line e) e.worker e.number says start 1 tss w in
    let some = length_listed (filter (is_line e) (published_by tss)) c
    (listed_filter (is_line e) (published_by tss) c l own) in
    omega (arith, counted e 1 tss, once, some)
