-- How many commits a snapshot contains: as many as its prefix says, and they are the first of the arranged history.
use Rattle.std.proofs.Common.{◌≡◌, ℕ, zero, suc, ◌-◌, ◌<◌, ◌≤◌, min, true, false, inl, inr, List, [], ◌∷◌, length}
use Rattle.std.proofs.Common.{get_or, take, drop, refl, ap, sym, ◌∙◌, subst, arith}
use Rattle.std.specs.Prelude.{map, IsPermutation}
use Rattle.std.specs.List.{AllByRecursion}
use Rattle.std.proofs.lemmas.Bool.{cond_both, false≢true, cases_lt}
use Rattle.std.proofs.lemmas.List.{length-append}
use Rattle.std.proofs.lemmas.List.Elements.{filter-append}
use Rattle.std.proofs.lemmas.List.Sorted.{IsPermutation-sym}
use Rattle.si_model.specs.declared.log.Stamp.{Stamp}
use Rattle.si_model.specs.declared.report.CommitLine.{CommitLine}
use Rattle.si_model.specs.Lists.{Listed, Pairwise}
use Rattle.si_model.specs.History.{stamp_of}
use Rattle.si_model.specs.Tells.{Tell}
use Rattle.si_model.specs.Commits.{Published, entry_of, published_of, published_from, published_by, snaps_by}
use Rattle.si_model.specs.Snapshots.{contains, inside, sum_above}
use Rattle.si_model.specs.Arranged.{level_of, AreDepths, Precedes, IsArranged}
use Rattle.si_model.specs.Consistency.{NumbersFollow, AreOwned, IsWithin, HaveOrder}
use Rattle.si_model.proofs.ListLemmas.{Pairwise-weaker, Pairwise-unmap, filter_front, filter_rest}
use Rattle.si_model.proofs.ListLemmas.{length_filter_permutation, listed_permutation}
use Rattle.si_model.proofs.SnapshotLemmas.{contains_is, contains_says, contains_at_most, at_most_by_sum, level_at_most}
use Rattle.si_model.proofs.SnapshotLemmas.{level_says}
use Rattle.si_law.proofs.Lifts.{lifted}
use Rattle.si_law.proofs.Standing.{worker_of, last_number-is, is_inside}

-- the first commit stands before the second
abbrev pub Before : ℕ → List (List Tell) → (Stamp → ℕ) → Published → Published → Type 0
Before start tss depth c d = Precedes (level_of start tss) depth c.line d.line

-- the published commits in the order of an arranged history
pub record IsOrdered (start : ℕ) (tss : List (List Tell)) (history : List Published) : Type 0 where
  pub same : IsPermutation (published_by tss) history
  pub depth : Stamp → ℕ
  pub depths : AreDepths (level_of start tss) depth (published_by tss)
  pub ordered : Pairwise (Before start tss depth) history

pub ordered_lines : (start : ℕ) (tss : List (List Tell)) (lines : List CommitLine) → IsArranged start tss lines
    → (history : List Published) × IsOrdered start tss history × (map entry_of history ≡ lines)
ordered_lines start tss lines a =
    let h = lifted entry_of (published_by tss) lines a.same in (
      h.0,
      record {
        same = h.1;
        depth = a.depth;
        depths = a.depths;
        ordered =
            let before = Precedes (level_of start tss) a.depth in
            Pairwise-unmap entry_of before h.0 (subst (Pairwise before) (sym h.2) a.ordered);
      },
      h.2,
    )

-- of commits numbered from m on, a snapshot with entry n contains those up to n
pub count_one : (j m n : ℕ) (snap : List ℕ) → 0 < j → get_or snap (j - 1) 0 ≡ n → (cs : List Published)
    → AllByRecursion (λ c. c.line.worker ≡ j) cs → NumbersFollow m cs
    → length (inside snap cs) ≡ min (n - m) (length cs)
count_one j m n snap p e [] w h = omega arith
count_one j m n snap p e (c ∷ cs) w h =
    let rest = count_one j (suc m) n snap p e cs w.1 h.1 in
    let at : get_or snap (c.line.worker - 1) 0 ≡ n = rw w.0 e in
    cond_both (contains snap (stamp_of c.line)) (c ∷ inside snap cs) (inside snap cs)
    (λ l. length l ≡ min (n - m) (suc (length cs)))
    (λ t. let says = contains_says snap (stamp_of c.line) t in omega (arith, says.1, at, h.0, rest))
    (λ f. elim (cases_lt n c.line.number) [
      | inl lt ↦ omega (arith, h.0, rest)
      | inr ge ↦ absurd
          (false≢true (sym f ∙ contains_is snap (stamp_of c.line) (omega (arith, w.0)) (omega (arith, at))))
    ])

pub drop_cons : (xs : List ℕ) (i : ℕ) (n : ℕ) (ns : List ℕ) → drop i xs ≡ n ∷ ns → (get_or xs i 0 ≡ n)
    × (drop (suc i) xs ≡ ns)
drop_cons [] zero n ns e = (cc, cc)
drop_cons [] (suc i) n ns e = (cc, cc)
drop_cons (x ∷ xs) zero n ns e = (cc, cc)
drop_cons (x ∷ xs) (suc i) n ns e = drop_cons xs i n ns e

pub count_from : (start i : ℕ) (snap ns : List ℕ) (tss : List (List Tell)) → drop i snap ≡ ns → IsWithin start ns tss
    → AreOwned start (suc i) tss → length (inside snap (published_from (suc i) tss)) ≡ sum_above start ns
count_from start i snap [] [] e w h = refl
count_from start i snap [] (ts ∷ tss) e w h = elim w [ ]
count_from start i snap (n ∷ ns) [] e w h = elim w [ ]
count_from start i snap (n ∷ ns) (ts ∷ tss) e w h =
    let here : get_or snap (suc i - 1) 0 ≡ n = let q : suc i - 1 ≡ i =
    omega arith in rw q (drop_cons snap i n ns e).0 in
    let one = count_one (suc i) start n snap (omega arith) here (published_of (suc i) ts) (worker_of (suc i) ts)
    h.0.numbers in
    let rest = count_from start (suc i) snap ns tss (drop_cons snap i n ns e).1 w.2 h.1 in
    let last = last_number-is start (suc i) start ts h.0.snapshots h.0.numbers in
    let apart = ap length (filter-append (is_inside snap) (published_of (suc i) ts) (published_from (suc (suc i)) tss))
    in
    let both = length-append (inside snap (published_of (suc i) ts)) (inside snap (published_from (suc (suc i)) tss)) in
    omega (arith, apart, both, one, rest, last, w.0, w.1)

pub sum_within : (start j : ℕ) (ns : List ℕ) (tss : List (List Tell)) → IsWithin start ns tss → AreOwned start j tss
    → sum_above start ns ≤ length (published_from j tss)
sum_within start j [] [] w h = omega arith
sum_within start j [] (ts ∷ tss) w h = elim w [ ]
sum_within start j (n ∷ ns) [] w h = elim w [ ]
sum_within start j (n ∷ ns) (ts ∷ tss) w h =
    let rest = sum_within start (suc j) ns tss w.2 h.1 in
    let last = last_number-is start j start ts h.0.snapshots h.0.numbers in
    omega (arith, w.0, w.1, rest, last, length-append (published_of j ts) (published_from (suc j) tss))

pub length_within : (start : ℕ) (ns : List ℕ) (tss : List (List Tell)) → IsWithin start ns tss → length ns ≡ length tss
length_within start [] [] w = refl
length_within start [] (ts ∷ tss) w = elim w [ ]
length_within start (n ∷ ns) [] w = elim w [ ]
length_within start (n ∷ ns) (ts ∷ tss) w = ap suc (length_within start ns tss w.2)

pub level_top : (start : ℕ) (tss : List (List Tell)) → HaveOrder start tss → (s : Stamp)
    → level_of start tss s ≤ suc (length (published_by tss))
level_top start tss ok s =
    elim (level_says start (suc (length (published_by tss))) (snaps_by tss) s) [
      | inl t ↦ omega (arith, t)
      | inr (snap, l, c, q) ↦ omega (arith, q, sum_within start 1 snap tss (ok.within snap l) ok.owned)
    ]

module _ (start : ℕ) (tss : List (List Tell)) (ok : HaveOrder start tss) (snap : List ℕ)
    (l : Listed snap (snaps_by tss)) where
  -- a snapshot contains the commits whose level is at most its prefix
  pub inside_level : (s : Stamp) → level_of start tss s ≤ sum_above start snap → contains snap s ≡ true
  inside_level s h =
      let small = sum_within start 1 snap tss (ok.within snap l) ok.owned in
      elim (level_says start (suc (length (published_by tss))) (snaps_by tss) s) [
        | inl t ↦ absurd (omega arith)
        | inr (other, k, c, q) ↦
            let most = at_most_by_sum start other snap tss (ok.within other k) (ok.within snap l)
            (ok.ordered other snap k l) (omega (arith, q, h)) in
            contains_at_most other snap s most c
      ]

  pub level_inside : (s : Stamp) → contains snap s ≡ true → level_of start tss s ≤ sum_above start snap
  level_inside s c = level_at_most start (suc (length (published_by tss))) (snaps_by tss) snap s l c

  pub count_inside : length (inside snap (published_by tss)) ≡ sum_above start snap
  count_inside = count_from start 0 snap snap tss refl (ok.within snap l) ok.owned

pub precedes_level : (level depth : Stamp → ℕ) (a b : CommitLine) → Precedes level depth a b
    → level (stamp_of a) ≤ level (stamp_of b)
precedes_level level depth a b h = elim h [ inl p ↦ omega arith | inr p ↦ omega (arith, p.0) ]

module _ (start : ℕ) (tss : List (List Tell)) (ok : HaveOrder start tss) (history : List Published)
    (arr : IsOrdered start tss history) where
  pub from_history : (c : Published) → Listed c history → Listed c (published_by tss)
  from_history c l =
      listed_permutation history (published_by tss) c (IsPermutation-sym (published_by tss) history arr.same) l

  pub to_history : (c : Published) → Listed c (published_by tss) → Listed c history
  to_history c l = listed_permutation (published_by tss) history c arr.same l

  module _ (snap : List ℕ) (l : Listed snap (snaps_by tss)) where
    closed : Pairwise (λ c d. contains snap (stamp_of d.line) ≡ true → contains snap (stamp_of c.line) ≡ true) history
    closed =
        Pairwise-weaker (λ c. Unit {0}) (Before start tss arr.depth) (λ c d. is_inside snap d ≡ true
        → is_inside snap c ≡ true)
        (λ c d _ _ p h.
        let up = precedes_level (level_of start tss) arr.depth c.line d.line p in
        inside_level start tss ok snap l (stamp_of c.line)
        (omega (arith, up, level_inside start tss ok snap l (stamp_of d.line) h)))
        history (λ z _. tt) arr.ordered

    length_inside : length (inside snap history) ≡ sum_above start snap
    length_inside = sym (length_filter_permutation (is_inside snap) (published_by tss) history arr.same)
        ∙ count_inside start tss ok snap l

    -- as many entries as the prefix says are the commits that the snapshot contains
    pub first_entries : take (sum_above start snap) history ≡ inside snap history
    first_entries = rw (← length_inside) (sym (filter_front (is_inside snap) history closed))

    pub later_entries : (c : Published) → Listed c (drop (sum_above start snap) history)
        → contains snap (stamp_of c.line) ≡ false
    later_entries c h = filter_rest (is_inside snap) history closed c (rw length_inside h)
