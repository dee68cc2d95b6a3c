-- The history of any logs, and that it is an arranged one where they can be arranged.
use Rattle.std.proofs.Common.{◌≡◌, ℕ, suc, ◌-◌, ◌<◌, ◌≤◌, max, Bool, true, false, cond, inl, inr, List}
use Rattle.std.proofs.Common.{[], ◌∷◌, length, map, refl, ap, sym, ◌∙◌, subst, arith}
use Rattle.std.specs.Prelude.{IsPermutation, filter}
use Rattle.std.specs.List.{AllByRecursion, IsDistinct}
use Rattle.std.proofs.Math.Path.{fun_ext}
use Rattle.std.proofs.lemmas.Bool.{false≢true, true≢false, cases_eq}
use Rattle.std.proofs.lemmas.Bool.Decides.{nat_tests}
use Rattle.std.proofs.lemmas.List.{length-map}
use Rattle.std.proofs.lemmas.Simd.{map-map}
use Rattle.std.proofs.lemmas.List.Sorted.{IsPermutation-sym, IsPermutation-map}
use Rattle.std.proofs.lemmas.Map.Keys.{IsDistinct-IsPermutation}
use Rattle.si_model.specs.declared.op.Op.{Op}
use Rattle.si_model.specs.declared.log.Stamp.{Stamp}
use Rattle.si_model.specs.declared.log.Log.{Log}
use Rattle.si_model.specs.declared.report.CommitLine.{CommitLine}
use Rattle.si_model.specs.Lists.{Listed, Pairwise}
use Rattle.si_model.specs.Evaluation.{guard_keys}
use Rattle.si_model.specs.History.{stamp_of, same_stamp}
use Rattle.si_model.specs.Tells.{Tell, CountsFit, tells_of}
use Rattle.si_model.specs.Commits.{Published, entry_of, published_by, snaps_by}
use Rattle.si_model.specs.Arranged.{level_from, level_of, guards_beside, above_all, AreDepths, Precedes, IsArranged}
use Rattle.si_model.specs.Consistency.{CanBeArranged}
use Rattle.si_model.proofs.ListLemmas.{All-listed, listed_permutation, listed_map, map_listed}
use Rattle.si_model.proofs.ListLemmas.{Pairwise-weaker, Pairwise-both, Pairwise-map, Pairwise-unmap}
use Rattle.si_model.proofs.SnapshotLemmas.{level_at_most, level_says}
use Rattle.nam_report.specs.declared.arranging.placed.Placed.{Placed}
use Rattle.nam_report.specs.declared.arranging.levels.Levels.{Levels}
use Rattle.nam_report.specs.Lines.{lines_by, snaps_in_logs, referents}
use Rattle.nam_report.specs.Depths.{placed_with, at_depth, flat, next_depth, AreSettled, is_beside, AreAcyclic}
use Rattle.nam_report.specs.Depths.{depth_in, NotAfter, line_of}
use Rattle.nam_report.specs.Arranging.{placed_at, after_rounds, placed_by, in_order, arranged}
use Rattle.nam_report.proofs.LineLemmas.{lines_by_told, snaps_told}
use Rattle.nam_report.proofs.LevelLemmas.{level_top}
use Rattle.nam_report.proofs.DepthLemmas.{next_by, next_is, flat_rounds, rounds_settle}
use Rattle.nam_report.proofs.OrderLemmas.{are_ordered, are_permuted}
use Rattle.nam_report.proofs.PublishedLemmas.{HasOps, ops_from, apart_from, distinct_from_pairs, pairs_from_distinct}

-- ---- levels

level_le : (start top : ℕ) (xs ys : List (List ℕ)) (s : Stamp) → ((x : List ℕ) → Listed x ys → Listed x xs)
    → level_from start top xs s ≤ level_from start top ys s
level_le start top xs ys s f = elim (level_says start top ys s) [
  | inl e ↦ let least = level_top start top xs s in omega (arith, e, least)
  | inr h ↦ let most = level_at_most start top xs h.0 s (f h.0 h.1) h.2 in omega (arith, h.3, most)
]

-- a level doesn't depend on the order of the snapshots
pub level_permuted : (start top : ℕ) (xs ys : List (List ℕ)) → IsPermutation xs ys
    → level_from start top ys ≡ level_from start top xs
level_permuted start top xs ys h = fun_ext (λ s.
    let below = level_le start top xs ys s (λ x l. listed_permutation ys xs x (IsPermutation-sym xs ys h) l) in
    let above = level_le start top ys xs s (λ x l. listed_permutation xs ys x h l) in
    omega (arith, below, above))

-- ---- depths

-- a published commit at its level and depth
abbrev pub told : (Stamp → ℕ) → (Stamp → ℕ) → Published → Placed
told level depth c = at_depth (depth (stamp_of c.line)) (placed_at level c)

pick : (depth : Stamp → ℕ) (d : Published) (ds : List Published) (n : ℕ) (a b : Bool) → a ≡ b
    → n ≡ above_all depth ds → max (cond a (suc (depth (stamp_of d.line))) 0) n ≡ above_all depth (cond b (d ∷ ds) ds)
pick depth d ds n true true e h = omega (arith, h)
pick depth d ds n true false e h = absurd (true≢false e)
pick depth d ds n false true e h = absurd (false≢true e)
pick depth d ds n false false e h = omega (arith, h)

next_told : (level depth : Stamp → ℕ) (c : Published) (cs : List Published)
    → next_by (map (told level depth) cs) (told level depth c)
    ≡ above_all depth (filter (λ d. guards_beside level d c) cs)
next_told level depth c [] = refl
next_told level depth c (d ∷ cs) =
    pick depth d (filter (λ d. guards_beside level d c) cs) (next_by (map (told level depth) cs) (told level depth c))
    (is_beside (told level depth d) (told level depth c)) (guards_beside level d c) refl (next_told level depth c cs)

-- commits are told where their depths are those of their stamps
regain : (level depth : Stamp → ℕ) (ps : List Placed) (cs : List Published) → map flat ps ≡ map (placed_at level) cs
    → ((p : Placed) → Listed p ps → depth (stamp_of p.line) ≡ p.depth) → ps ≡ map (told level depth) cs
regain level depth [] [] e h = refl
regain level depth [] (c ∷ cs) e h = cc
regain level depth (p ∷ ps) [] e h = cc
regain level depth (p ∷ ps) (c ∷ cs) e h =
    let here : flat p ≡ placed_at level c = cc in
    let rest : map flat ps ≡ map (placed_at level) cs = cc in
    let own : p ≡ at_depth (depth (stamp_of p.line)) (flat p) = ap (λ n. at_depth n (flat p)) (sym (h p (inl refl))) in
    let one : p ≡ told level depth c = own ∙ ap (λ (q : Placed). at_depth (depth (stamp_of q.line)) q) here in
    let all = regain level depth ps cs rest (λ q l. h q (inr l)) in
    ap (λ q. q ∷ ps) one ∙ ap (λ qs. told level depth c ∷ qs) all

abbrev AreApart : Placed → Placed → Type 0
AreApart p q = same_stamp (stamp_of p.line) (stamp_of q.line) ≡ false

same_is : (s t : Stamp) → s ≡ t → same_stamp s t ≡ true
same_is s t e = let a = ap (λ (z : Stamp). z.thread) e in let b =
    ap (λ (z : Stamp). z.number) e in grind (arith, nat_tests)

same_flips : (s t : Stamp) → same_stamp s t ≡ same_stamp t s
same_flips s t = grind (arith, nat_tests)

depth_is : (ps : List Placed) → Pairwise AreApart ps → (p : Placed) → Listed p ps
    → depth_in ps (stamp_of p.line) ≡ p.depth
depth_is [] apart p l = elim l [ ]
depth_is (q ∷ ps) apart p l = elim l [
  | inl e ↦ rw (same_is (stamp_of q.line) (stamp_of p.line) (ap (λ (z : Placed). stamp_of z.line) e))
      (ap (λ (z : Placed). z.depth) e)
  | inr r ↦ rw (All-listed (AreApart q) ps p apart.0 r) (depth_is ps apart.1 p r)
]

strict : (level depth : Stamp → ℕ) (a b : Placed) → level (stamp_of a.line) ≡ a.level
    → level (stamp_of b.line) ≡ b.level → depth (stamp_of a.line) ≡ a.depth → depth (stamp_of b.line) ≡ b.depth
    → NotAfter a b → AreApart a b → Precedes level depth a.line b.line
strict level depth a b la lb da db h apart = elim h [
  | inl p ↦ inl (omega (arith, la, lb, p))
  | inr p ↦ inr (
    la ∙ p.0 ∙ sym lb,
    elim p.1 [
      | inl q ↦ inl (omega (arith, da, db, q))
      | inr q ↦ inr (da ∙ q.0 ∙ sym db, elim q.1 [ inl w ↦ inl w | inr w ↦ inr (w.0, less w.0 w.1) ])
    ],
  )
]
  where
    less : a.line.worker ≡ b.line.worker → a.line.number ≤ b.line.number → a.line.number < b.line.number
    less w le = elim (cases_eq a.line.number b.line.number) [
      | inl n ↦ let same : same_stamp (stamp_of a.line) (stamp_of b.line) ≡ true =
          grind (arith, nat_tests) in absurd (false≢true (sym apart ∙ same))
      | inr n ↦ omega (arith, n)
    ]

pub no_depths : (level : Stamp → ℕ) (jobs : List (List Op)) (es : List CommitLine)
    → AllByRecursion (λ p. p.depth ≡ 0) (map (placed_with level jobs) es)
no_depths level jobs [] = tt
no_depths level jobs (e ∷ es) = (refl, no_depths level jobs es)

-- ---- the commits of any logs

-- entries placed by the jobs are the published commits placed by their operations
pub placed_told : (level : Stamp → ℕ) (jobs : List (List Op)) (logs : List Log)
    → map (placed_with level jobs) (lines_by 1 logs)
    ≡ map (placed_at level) (published_by (map (tells_of jobs) logs))
placed_told level jobs logs =
    let cs = published_by (map (tells_of jobs) logs) in
    ap (map (placed_with level jobs)) (sym (lines_by_told 1 jobs logs))
    ∙ map-map (placed_with level jobs) entry_of cs
    ∙ each cs (ops_from jobs 1 logs)
  where
    each : (cs : List Published) → AllByRecursion (HasOps jobs) cs
        → map (λ (c : Published). placed_with level jobs c.line) cs ≡ map (placed_at level) cs
    each [] h = refl
    each (c ∷ cs) h =
        let one : placed_with level jobs c.line ≡ placed_at level c = ap (λ (os : List Op). record {
          level = level (stamp_of c.line);
          depth = 0;
          guards = guard_keys os;
          line = c.line;
        }) (sym h.0) in
        ap (λ q. q ∷ map (λ (c : Published). placed_with level jobs c.line) cs) one
        ∙ ap (λ qs. placed_at level c ∷ qs) (each cs h.1)

module _ (start : ℕ) (tss : List (List Tell)) where
  abbrev all : List Published
  all = published_by tss

  abbrev level_by_all : Stamp → ℕ
  level_by_all = level_of start tss

  placed_long : length (map (placed_at level_by_all) all) ≡ length all
  placed_long = length-map all (placed_at level_by_all)

  pub flat_by : map flat (placed_by start tss) ≡ map (placed_at level_by_all) all
  flat_by = flat_rounds (length all) (map (placed_at level_by_all) all)
      ∙ map-map flat (placed_at level_by_all) all

  pub lines_by_all : map line_of (placed_by start tss) ≡ map entry_of all
  lines_by_all = sym (map-map line_of flat (placed_by start tss)) ∙ ap (map line_of) flat_by
      ∙ map-map line_of (placed_at level_by_all) all

  -- the history has exactly the published commits
  pub has_published : IsPermutation (map entry_of all) (arranged start tss)
  has_published = subst (λ es. IsPermutation es (arranged start tss)) lines_by_all
      (IsPermutation-map line_of (placed_by start tss) (in_order (placed_by start tss))
      (are_permuted (placed_by start tss)))

-- commits placed by any order of the snapshots, after the rounds
pub placed_is : (start : ℕ) (jobs : List (List Op)) (logs : List Log) (levels : Levels) (lines : List CommitLine)
    (ps : List Placed)
    → AllByRecursion CountsFit logs → lines ≡ lines_by 1 logs → levels.start ≡ start → levels.top ≡ suc (length lines)
    → IsPermutation (snaps_in_logs logs) (referents levels.snapshots.items)
    → ps ≡ map (placed_with (level_from levels.start levels.top (referents levels.snapshots.items)) jobs) lines
    → after_rounds (length ps) ps ≡ placed_by start (map (tells_of jobs) logs)
placed_is start jobs logs levels lines ps fit lines_are start_is top_is same ps_are =
    let tss = map (tells_of jobs) logs in
    let cs = published_by tss in
    let many : length lines ≡ length cs =
    ap length (lines_are ∙ sym (lines_by_told 1 jobs logs)) ∙ length-map cs entry_of in
    let top : levels.top ≡ suc (length cs) = top_is ∙ ap suc many in
    let snaps : IsPermutation (snaps_by tss) (referents levels.snapshots.items) =
    subst (λ zs. IsPermutation zs (referents levels.snapshots.items)) (sym (snaps_told jobs logs fit)) same in
    let level : level_from levels.start levels.top (referents levels.snapshots.items) ≡ level_of start tss =
    level_permuted levels.start levels.top (snaps_by tss) (referents levels.snapshots.items) snaps
    ∙ ap (λ n. level_from n levels.top (snaps_by tss)) start_is
    ∙ ap (λ n. level_from start n (snaps_by tss)) top in
    let placed : ps ≡ map (placed_at (level_of start tss)) cs =
    ps_are ∙ ap (λ l. map (placed_with l jobs) lines) level ∙ ap (map (placed_with (level_of start tss) jobs)) lines_are
    ∙ placed_told (level_of start tss) jobs logs in
    ap (λ qs. after_rounds (length qs) qs) placed
    ∙ ap (λ n. after_rounds n (map (placed_at (level_of start tss)) cs)) (placed_long start tss)

-- ---- the commits of logs that can be arranged

module _ (start : ℕ) (jobs : List (List Op)) (tss : List (List Tell)) (can : CanBeArranged start jobs tss) where
  abbrev cs : List Published
  cs = published_by tss

  abbrev level : Stamp → ℕ
  level = level_of start tss

  abbrev ps : List Placed
  ps = placed_by start tss

  abbrev qs : List Placed
  qs = in_order (placed_by start tss)

  acyclic : AreAcyclic (length cs) (map (placed_at level) cs)
  acyclic = record {
    number = can.no_circle.place;
    below = λ p l.
        let c = map_listed (placed_at level) cs p l in
        subst (λ (q : Placed). can.no_circle.place (stamp_of q.line) < length cs) c.2 (can.no_circle.below c.0 c.1);
    rises = λ p q lp lq beside.
        let c = map_listed (placed_at level) cs p lp in
        let d = map_listed (placed_at level) cs q lq in
        let b : is_beside (placed_at level c.0) (placed_at level d.0) ≡ true =
        ap (λ (z : Placed). is_beside z (placed_at level d.0)) c.2 ∙ ap (λ (z : Placed). is_beside p z) d.2
        ∙ beside in
        let lt = can.no_circle.rises c.0 d.0 c.1 d.1 b in
        omega (
          arith,
          lt,
          ap (λ (z : Placed). can.no_circle.place (stamp_of z.line)) c.2,
          ap (λ (z : Placed). can.no_circle.place (stamp_of z.line)) d.2,
        );
  }

  settled : AreSettled ps
  settled = rounds_settle (length cs) (map (placed_at level) cs) acyclic

  apart : Pairwise AreApart ps
  apart =
      let by_entry : Pairwise (λ (a b : CommitLine). same_stamp (stamp_of a) (stamp_of b) ≡ false) (map entry_of cs) =
      Pairwise-map entry_of (λ (a b : CommitLine). same_stamp (stamp_of a) (stamp_of b) ≡ false) cs
      (apart_from start 1 tss can.order.owned) in
      Pairwise-unmap line_of (λ (a b : CommitLine). same_stamp (stamp_of a) (stamp_of b) ≡ false) ps
      (subst (Pairwise (λ (a b : CommitLine). same_stamp (stamp_of a) (stamp_of b) ≡ false))
      (sym (lines_by_all start tss)) by_entry)

  are_told : ps ≡ map (told level (depth_in ps)) cs
  are_told = regain level (depth_in ps) ps cs (flat_by start tss) (depth_is ps apart)

  has_level : (p : Placed) → Listed p ps → level (stamp_of p.line) ≡ p.level
  has_level p l =
      let m = map_listed (told level (depth_in ps)) cs p (subst (Listed p) are_told l) in
      subst (λ (q : Placed). level (stamp_of q.line) ≡ q.level) m.2 refl

  depths : AreDepths level (depth_in ps) cs
  depths c l =
      let told_settled : AreSettled (map (told level (depth_in ps)) cs) = subst AreSettled are_told settled in
      let here = All-listed (λ p. p.depth ≡ next_depth (map (told level (depth_in ps)) cs) p)
      (map (told level (depth_in ps)) cs) (told level (depth_in ps) c) told_settled
      (listed_map (told level (depth_in ps)) cs c l) in
      here ∙ next_is (map (told level (depth_in ps)) cs) (told level (depth_in ps) c)
      ∙ next_told level (depth_in ps) c cs

  apart_sorted : Pairwise AreApart qs
  apart_sorted =
      let s : Placed → Stamp = λ p. stamp_of p.line in
      let before : IsDistinct same_stamp (map s ps) =
      distinct_from_pairs same_stamp (map s ps) (Pairwise-map s (λ a b. same_stamp a b ≡ false) ps apart) in
      let after : IsDistinct same_stamp (map s qs) =
      IsDistinct-IsPermutation same_stamp same_flips (map s ps) (map s qs)
      (IsPermutation-map s ps qs (are_permuted ps)) before in
      Pairwise-unmap s (λ a b. same_stamp a b ≡ false) qs (pairs_from_distinct same_stamp (map s qs) after)

  -- the history is the arranged one
  pub are_arranged : IsArranged start tss (arranged start tss)
  are_arranged = record {
    same = has_published start tss;
    depth = depth_in ps;
    depths = depths;
    ordered = Pairwise-map line_of (Precedes level (depth_in ps)) qs
        (Pairwise-weaker (λ q. Listed q ps) (λ a b. NotAfter a b × AreApart a b)
        (λ a b. Precedes level (depth_in ps) a.line b.line)
        (λ a b la lb h. strict level (depth_in ps) a b (has_level a la) (has_level b lb) (depth_is ps apart a la)
        (depth_is ps apart b lb) h.0 h.1)
        qs (λ q l. listed_permutation qs ps q (IsPermutation-sym ps qs (are_permuted ps)) l)
        (Pairwise-both NotAfter AreApart qs (are_ordered ps) apart_sorted));
  }
