-- Depths that settle round by round.
use Rattle.std.proofs.Common.{◌≡◌, ℕ, zero, suc, ◌+◌, ◌<◌, ◌≤◌, max, true, false, cond, inl, inr, List, [], ◌∷◌, length}
use Rattle.std.proofs.Common.{get_or, set, map, refl, ap, sym, ◌∙◌, subst, arith, ◌&&◌, ◌||◌, ◌==◌}
use Rattle.std.specs.List.{AllByRecursion, list_any}
use Rattle.std.proofs.lemmas.Bool.{cond_both, cases_Bool}
use Rattle.std.proofs.lemmas.Bool.Decides.{nat_tests}
use Rattle.si_model.specs.declared.row.Key.{Key}
use Rattle.si_model.specs.declared.row.Item.{Item}
use Rattle.si_model.specs.declared.log.Stamp.{Stamp}
use Rattle.si_model.specs.Lists.{Listed}
use Rattle.si_model.specs.Rows.{same_key, item_key, writes_key}
use Rattle.si_model.specs.History.{stamp_of}
use Rattle.si_model.proofs.ListLemmas.{All-from_listed, listed_map, map_listed}
use Rattle.nam_report.specs.declared.arranging.placed.Placed.{Placed}
use Rattle.nam_report.specs.declared.arranging.placed.LevelKey.{LevelKey}
use Rattle.nam_report.specs.Depths.{at_depth, flat, has_guard, reach, deepest, next_depth, with_next_depths, AreSettled}
use Rattle.nam_report.specs.Depths.{is_beside, Rises, SettledBelow, AreAcyclic}
use Rattle.nam_report.specs.Arranging.{after_rounds}

-- ---- a map over the front of a list

abbrev pub mapped_front : {X : Type 0} (f : X → X) → ℕ → List X → List X
mapped_front f zero xs = xs
mapped_front f (suc i) [] = []
mapped_front f (suc i) (x ∷ xs) = f x ∷ mapped_front f i xs

-- ---- depths by the commits that stand beside

-- the greatest of one more than the depths of those that stand beside the commit
abbrev pub next_by : List Placed → Placed → ℕ
next_by [] p = 0
next_by (q ∷ qs) p = max (cond (is_beside q p) (suc q.depth) 0) (next_by qs p)

deepest-max : (f g : LevelKey → ℕ) (level : ℕ) (ws : List Item)
    → deepest (λ k. max (f k) (g k)) level ws ≡ max (deepest f level ws) (deepest g level ws)
deepest-max f g level [] = refl
deepest-max f g level (w ∷ ws) = let rest = deepest-max f g level ws in omega (arith, rest)

deepest-none : (level : ℕ) (ws : List Item) → deepest (λ k. 0) level ws ≡ 0
deepest-none level [] = refl
deepest-none level (w ∷ ws) = let rest = deepest-none level ws in omega (arith, rest)

any-or : (w : Item) (ws : List Item) (guards : List Key)
    → list_any (λ key. writes_key (w ∷ ws) key) guards
    ≡ (list_any (λ key. same_key key (item_key w)) guards || list_any (λ key. writes_key ws key) guards)
any-or w ws [] = refl
any-or w ws (g ∷ gs) = let rest = any-or w ws gs in grind (arith, nat_tests)

any-none : (guards : List Key) → list_any (λ key. writes_key [] key) guards ≡ false
any-none [] = refl
any-none (g ∷ gs) = any-none gs

deepest-one : (l level n : ℕ) (guards : List Key) (ws : List Item)
    → deepest (λ k. cond (has_guard l guards k) n 0) level ws
    ≡ cond ((l == level) && list_any (λ key. writes_key ws key) guards) n 0
deepest-one l level n guards [] = let none = any-none guards in grind (arith, nat_tests)
deepest-one l level n guards (w ∷ ws) = let rest = deepest-one l level n guards ws in let or =
    any-or w ws guards in grind (arith, nat_tests)

pub next_is : (ps : List Placed) (p : Placed) → next_depth ps p ≡ next_by ps p
next_is [] p = deepest-none p.level p.line.writes
next_is (q ∷ qs) p =
    let rest = next_is qs p in
    let apart = deepest-max (λ k. cond (has_guard q.level q.guards k) (suc q.depth) 0) (reach qs) p.level p.line.writes
    in
    let one = deepest-one q.level p.level (suc q.depth) q.guards p.line.writes in
    omega (arith, rest, apart, one)

-- ---- a round

-- a next depth is at most one more than the depths
pub next_small : (n : ℕ) (ps : List Placed) (p : Placed) → AllByRecursion (λ q. q.depth ≤ n) ps → next_by ps p ≤ suc n
next_small n [] p h = omega arith
next_small n (q ∷ qs) p h = let rest = next_small n qs p h.1 in
    cond_both (is_beside q p) (suc q.depth) 0 (λ m. max m (next_by qs p) ≤ suc n) (λ _. omega (arith, rest, h.0))
    (λ _. omega (arith, rest))

-- the next depth stays where the depths of those beside do
next_stays : (f : Placed → ℕ) (qs : List Placed) (p : Placed)
    → ((q : Placed) → Listed q qs → is_beside q p ≡ true → q.depth ≡ f q)
    → next_by qs p ≡ next_by (map (λ q. at_depth (f q) q) qs) p
next_stays f [] p h = refl
next_stays f (q ∷ qs) p h =
    let rest = next_stays f qs p (λ r l. h r (inr l)) in
    elim (cases_Bool (is_beside q p)) [
      | inl e ↦ let here = h q (inl refl) e in rw e (omega (arith, rest, here))
      | inr e ↦ rw e (omega (arith, rest))
    ]

pub low_round : (n : ℕ) (ps : List Placed) → AllByRecursion (λ q. q.depth ≤ n) ps
    → AllByRecursion (λ q. q.depth ≤ suc n) (with_next_depths ps)
low_round n ps h = All-from_listed (λ q. q.depth ≤ suc n) (with_next_depths ps) (λ q l.
    let m = map_listed (λ p. at_depth (next_depth ps p) p) ps q l in
    let small = next_small n ps m.0 h in
    subst (λ (r : Placed). r.depth ≤ suc n) m.2 (omega (arith, small, next_is ps m.0)))

flat_round : (f : Placed → ℕ) (ps : List Placed) → map flat (map (λ p. at_depth (f p) p) ps) ≡ map flat ps
flat_round f [] = refl
flat_round f (p ∷ ps) = ap (λ qs. flat p ∷ qs) (flat_round f ps)

flat_deepened : (ps : List Placed) → map flat (with_next_depths ps) ≡ map flat ps
flat_deepened ps = flat_round (next_depth ps) ps

settled_round : (n : ℕ) (ps : List Placed) → SettledBelow n ps → SettledBelow (suc n) (with_next_depths ps)
settled_round n ps settled number rises p l lt =
    let m = map_listed (λ p. at_depth (next_depth ps p) p) ps p l in
    subst (λ (r : Placed). r.depth ≡ next_depth (with_next_depths ps) r) m.2
    (whole m.0 m.1 (subst (λ (r : Placed). number (stamp_of r.line) < suc n) (sym m.2) lt))
  where
    before : Rises number ps
    before a b la lb beside =
        rises (at_depth (next_depth ps a) a) (at_depth (next_depth ps b) b)
        (listed_map (λ p. at_depth (next_depth ps p) p) ps a la)
        (listed_map (λ p. at_depth (next_depth ps p) p) ps b lb) beside

    whole : (a : Placed) → Listed a ps → number (stamp_of a.line) < suc n
        → next_depth ps a ≡ next_depth (with_next_depths ps) a
    whole a la low =
        let stays = next_stays (next_depth ps) ps a
        (λ q lq beside. settled number before q lq (let lower = before q a lq la beside in
        omega (arith, lower, low))) in
        next_is ps a ∙ stays ∙ sym (next_is (with_next_depths ps) a)

-- ---- all rounds

-- commits that differ in depth alone stand so to each other
same_flat : (ps qs : List Placed) → map flat qs ≡ map flat ps → (q : Placed) → Listed q qs → (p : Placed) × Listed p ps
    × (flat p ≡ flat q)
same_flat ps qs same q l = map_listed flat ps (flat q) (subst (Listed (flat q)) same (listed_map flat qs q l))

rises_flat : (number : Stamp → ℕ) (ps qs : List Placed) → map flat qs ≡ map flat ps → Rises number ps
    → Rises number qs
rises_flat number ps qs same rises a b la lb beside =
    let x = same_flat ps qs same a la in
    let y = same_flat ps qs same b lb in
    let beside' : is_beside x.0 y.0 ≡ true =
    ap (λ (z : Placed). is_beside z (flat y.0)) x.2 ∙ ap (λ (z : Placed). is_beside (flat a) z) y.2 ∙ beside in
    let lt = rises x.0 y.0 x.1 y.1 beside' in
    omega (
      arith,
      lt,
      ap (λ (z : Placed). number (stamp_of z.line)) x.2,
      ap (λ (z : Placed). number (stamp_of z.line)) y.2,
    )

-- after as many rounds as commits all are settled
settled_all : (n : ℕ) (ps qs : List Placed) → map flat qs ≡ map flat ps → AreAcyclic n ps → SettledBelow n qs
    → AreSettled qs
settled_all n ps qs same acyclic settled =
    All-from_listed (λ q. q.depth ≡ next_depth qs q) qs (λ q l.
    let x = same_flat ps qs same q l in
    let low = acyclic.below x.0 x.1 in
    settled acyclic.number (rises_flat acyclic.number ps qs same acyclic.rises) q l
    (omega (arith, low, ap (λ (z : Placed). acyclic.number (stamp_of z.line)) x.2)))

-- rounds that change nothing
pub rounds_fixed : (n : ℕ) (ps : List Placed) → ps ≡ with_next_depths ps → ps ≡ after_rounds n ps
rounds_fixed zero ps h = refl
rounds_fixed (suc n) ps h = rounds_fixed n ps h ∙ ap (after_rounds n) h

-- rounds change depths alone
pub flat_rounds : (n : ℕ) (ps : List Placed) → map flat (after_rounds n ps) ≡ map flat ps
flat_rounds zero ps = refl
flat_rounds (suc n) ps = flat_rounds n (with_next_depths ps) ∙ flat_deepened ps

-- so many rounds settle the commits of lower numbers
settled_rounds : (m n : ℕ) (ps : List Placed) → SettledBelow m ps → SettledBelow (n + m) (after_rounds n ps)
settled_rounds m zero ps h = let e : m ≡ 0 + m = omega arith in subst (λ k. SettledBelow k ps) e h
settled_rounds m (suc n) ps h =
    let e : n + suc m ≡ suc n + m = omega arith in
    subst (λ k. SettledBelow k (after_rounds n (with_next_depths ps))) e
    (settled_rounds (suc m) n (with_next_depths ps) (settled_round m ps h))

-- as many rounds as commits settle all
pub rounds_settle : (n : ℕ) (ps : List Placed) → AreAcyclic n ps → AreSettled (after_rounds n ps)
rounds_settle n ps acyclic =
    let none : SettledBelow 0 ps = λ number rises p l lt. absurd (omega (arith, lt)) in
    let e : n + 0 ≡ n = omega arith in
    settled_all n ps (after_rounds n ps) (flat_rounds n ps) acyclic
    (subst (λ k. SettledBelow k (after_rounds n ps)) e (settled_rounds 0 n ps none))

-- ---- a map over the front, place by place

pub front_more : {X : Type 0} (f : X → X) (xs : List X) (i : ℕ) (d : X) → i < length xs
    → set (mapped_front f i xs) i (f (get_or (mapped_front f i xs) i d)) ≡ mapped_front f (i + 1) xs
front_more f [] i d h = absurd (omega arith)
front_more f (x ∷ xs) zero d h = refl
front_more f (x ∷ xs) (suc i) d h = let e : suc i + 1 ≡ suc (i + 1) =
    omega arith in rw e (ap (λ ys. f x ∷ ys) (front_more f xs i d (omega arith)))

pub front_all : {X : Type 0} (f : X → X) (xs : List X) (n : ℕ) → length xs ≤ n → mapped_front f n xs ≡ map f xs
front_all f [] zero h = refl
front_all f [] (suc n) h = refl
front_all f (x ∷ xs) zero h = absurd (omega arith)
front_all f (x ∷ xs) (suc n) h = ap (λ ys. f x ∷ ys) (front_all f xs n (omega arith))
