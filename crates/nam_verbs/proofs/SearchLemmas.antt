-- searches of numbered items one after another: each is passed, or stops the search
use Rattle.std.proofs.Common.{◌≡◌, ◌⊎◌, inl, inr, ℕ, zero, suc, ◌+◌, ◌<◌, List, [], ◌∷◌, ◌++◌, refl, sym, subst, arith}
use Rattle.std.proofs.lemmas.List.{append_assoc}
use Rattle.nam_verbs.specs.declared.now.Now.{Now}
use Rattle.nam_verbs.specs.declared.now.Now.TheVariants.{At, Over}
use Rattle.nam_verbs.specs.VerbAt.{VerbAt}
use Rattle.nam_verbs.specs.Steps.{Step, Ends, Stretches, StopsAt}

module _ {W P E : Type 0} (verb : P → VerbAt W) (after : P → ℕ → Now P E) (start : ℕ → P) (next : ℕ → Now P E)
    (count : ℕ) (miss : E)
    (goes_on : (nth : ℕ) → nth + 1 < count → next nth ≡ At (start (nth + 1)))
    (misses : (nth : ℕ) → nth + 1 ≡ count → next nth ≡ Over miss)
    (Passed : ℕ → List (Step W) → Type 0) (Stops : E → ℕ → List (Step W) → Type 0) where
  -- what the steps from an item on say of the end
  abbrev Found : ℕ → ℕ → List (Step W) → E → Type 0
  Found from more steps end =
      (nth : ℕ) × (nth < more) × (before last : List (Step W)) × (steps ≡ before ++ last)
      × Stretches Passed from nth before × Stops end (from + nth) last

  abbrev Missed : ℕ → ℕ → List (Step W) → E → Type 0
  Missed from more steps end = Stretches Passed from more steps × (miss ≡ end)

  -- 1. Of a search that ended so

  -- an item stops the search, or is passed
  abbrev pub Parted : Type 0
  Parted = (nth : ℕ) → nth < count → (steps : List (Step W)) (end : E) → Ends verb after (At (start nth)) steps end
      → Stops end nth steps ⊎ ((first rest : List (Step W)) × (steps ≡ first ++ rest) × Passed nth first
      × Ends verb after (next nth) rest end)

  over_is : (over end : E) (steps : List (Step W)) → Ends verb after (Over over) steps end → (steps ≡ []) × (over ≡ end)
  over_is over end [] ends = (refl, ends)
  over_is over end (step ∷ steps) ends = absurd ends

  at_first : (from more : ℕ) (steps : List (Step W)) (end : E) → Stops end from steps → Found from (suc more) steps end
  at_first from more steps end stops = (
    0,
    omega arith,
    [],
    steps,
    refl,
    refl,
    (let same : from ≡ from + 0 = omega arith in subst (λ n. Stops end n steps) same stops),
  )

  then_later : (from more : ℕ) (first rest : List (Step W)) (end : E) → Passed from first
      → Found (from + 1) more rest end
      → Found from (suc more) (first ++ rest) end
  then_later from more first rest end passed found =
      let nth = found.0 in let before = found.2 in let last = found.3 in (
        suc nth,
        omega (arith, found.1),
        first ++ before,
        last,
        (rw (found.4) (sym (append_assoc first before last))),
        (first, before, refl, passed, found.5),
        (let same : from + 1 + nth ≡ from + suc nth = omega arith in subst (λ n. Stops end n last) same found.6),
      )

  -- after an item that was passed, where the items after it are searched so
  after_passed : (more from : ℕ) (steps : List (Step W)) (end : E) (first rest : List (Step W))
      → steps ≡ first ++ rest → Passed from first
      → Found (from + 1) more rest end ⊎ Missed (from + 1) more rest end
      → Found from (suc more) steps end ⊎ Missed from (suc more) steps end
  after_passed more from steps end first rest is passed (inl found) =
      inl (rw is (then_later from more first rest end passed found))
  after_passed more from steps end first rest is passed (inr missed) =
      inr ((first, rest, is, passed, missed.0), missed.1)

  search_from : Parted → (more from : ℕ) → from + suc more ≡ count → (steps : List (Step W)) (end : E)
      → Ends verb after (At (start from)) steps end
      → Found from (suc more) steps end ⊎ Missed from (suc more) steps end
  search_from parted zero from all steps end ends = elim (parted from (omega arith) steps end ends) [
    | inl stops ↦ inl (at_first from zero steps end stops)
    | inr passed ↦
        let over = over_is miss end passed.1
        (subst (λ now. Ends verb after now passed.1 end) (misses from (omega arith)) passed.4) in
        after_passed zero from steps end passed.0 passed.1 passed.2 passed.3 (inr (over.0, over.1))
  ]
  search_from parted (suc more) from all steps end ends = elim (parted from (omega arith) steps end ends) [
    | inl stops ↦ inl (at_first from (suc more) steps end stops)
    | inr passed ↦ after_passed (suc more) from steps end passed.0 passed.1 passed.2 passed.3
        (search_from parted more (from + 1) (omega arith) passed.1 end
        (subst (λ now. Ends verb after now passed.1 end) (goes_on from (omega arith)) passed.4))
  ]

  -- 2. By steps it ends so

  abbrev pub Joined : Type 0
  Joined = (nth : ℕ) → nth < count → (first rest : List (Step W)) (end : E) → Passed nth first
      → Ends verb after (next nth) rest end
      → Ends verb after (At (start nth)) (first ++ rest) end

  abbrev pub Stopped : Type 0
  Stopped = (nth : ℕ) → nth < count → (steps : List (Step W)) (end : E) → Stops end nth steps
      → Ends verb after (At (start nth)) steps end

  found_from : Joined → Stopped → (before_it more from : ℕ) → from + more ≡ count → before_it < more
      → (before last : List (Step W)) (end : E)
      → Stretches Passed from before_it before → Stops end (from + before_it) last
      → Ends verb after (At (start from)) (before ++ last) end
  found_from joined stopped zero more from all few before last end passed stops =
      let same : from + 0 ≡ from = omega arith in
      rw passed (stopped from (omega arith) last end (subst (λ n. Stops end n last) same stops))
  found_from joined stopped (suc n) zero from all few before last end passed stops = absurd (omega arith)
  found_from joined stopped (suc n) (suc more) from all few before last end passed stops =
      let same : from + suc n ≡ from + 1 + n = omega arith in
      let later = found_from joined stopped n more (from + 1) (omega arith) (omega arith) passed.1 last end passed.4
      (subst (λ n. Stops end n last) same stops) in
      rw (passed.2, append_assoc) (joined from (omega arith) passed.0 (passed.1 ++ last) end passed.3
      (subst (λ now. Ends verb after now (passed.1 ++ last) end) (sym (goes_on from (omega arith))) later))

  missed_from : Joined → (more from : ℕ) → from + suc more ≡ count → (steps : List (Step W))
      → Stretches Passed from (suc more) steps
      → Ends verb after (At (start from)) steps miss
  missed_from joined zero from all steps passed =
      let none = passed.4 in
      rw passed.2 (joined from (omega arith) passed.0 passed.1 miss passed.3
      (subst (λ now. Ends verb after now passed.1 miss) (sym (misses from (omega arith))) (rw none refl)))
  missed_from joined (suc more) from all steps passed =
      rw passed.2 (joined from (omega arith) passed.0 passed.1 miss passed.3
      (subst (λ now. Ends verb after now passed.1 miss) (sym (goes_on from (omega arith)))
      (missed_from joined more (from + 1) (omega arith) passed.1 passed.4)))

  -- 3. Both, from the first item on

  found_is : (items : ℕ) → items ≡ count → (steps : List (Step W)) (end : E) → Found 0 items steps end
      → StopsAt Passed (Stops end) count steps
  found_is items same steps end found = record {
    nth = found.0;
    within = omega (arith, found.1);
    before = found.2;
    last = found.3;
    steps_are = found.4;
    passed = found.5;
    stops = (let here : 0 + found.0 ≡ found.0 = omega arith in subst (λ n. Stops end n found.3) here found.6);
  }

  all_items : Parted → (items : ℕ) → items ≡ count → 0 < items → (steps : List (Step W)) (end : E)
      → Ends verb after (At (start 0)) steps end
      → StopsAt Passed (Stops end) count steps ⊎ (Stretches Passed 0 count steps × (miss ≡ end))
  all_items parted zero same some steps end ends = absurd (omega arith)
  all_items parted (suc more) same some steps end ends = elim (search_from parted more 0 (omega arith) steps end ends) [
    | inl found ↦ inl (found_is (suc more) same steps end found)
    | inr missed ↦ inr (subst (λ n. Stretches Passed 0 n steps) same missed.0, missed.1)
  ]

  -- a search of some items ends where one stops it, or after all were passed
  pub search_ends : Parted → 0 < count → (steps : List (Step W)) (end : E) → Ends verb after (At (start 0)) steps end
      → StopsAt Passed (Stops end) count steps ⊎ (Stretches Passed 0 count steps × (miss ≡ end))
  search_ends parted some = all_items parted count refl some

  pub search_stops : Joined → Stopped → (steps : List (Step W)) (end : E) → StopsAt Passed (Stops end) count steps
      → Ends verb after (At (start 0)) steps end
  search_stops joined stopped steps end found =
      let here : found.nth ≡ 0 + found.nth = omega arith in
      rw found.steps_are (found_from joined stopped found.nth count 0
      (omega arith) found.within found.before found.last end found.passed
      (subst (λ n. Stops end n found.last) here found.stops))

  all_missed : Joined → (items : ℕ) → items ≡ count → 0 < items → (steps : List (Step W))
      → Stretches Passed 0 items steps → Ends verb after (At (start 0)) steps miss
  all_missed joined zero same some steps passed = absurd (omega arith)
  all_missed joined (suc more) same some steps passed = missed_from joined more 0 (omega arith) steps passed

  pub search_misses : Joined → 0 < count → (steps : List (Step W)) → Stretches Passed 0 count steps
      → Ends verb after (At (start 0)) steps miss
  search_misses joined some = all_missed joined count refl some
