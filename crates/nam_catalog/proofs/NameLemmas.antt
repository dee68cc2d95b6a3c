-- Where the first table of a name is, and what it means that no table bears the name of an earlier one.
use Rattle.std.proofs.Common.{◌≡◌, ℕ, ◌+◌, ◌<◌, ◌≤◌, Bool, true, false, inl, inr, List, [], ◌∷◌, ◌++◌, length, refl}
use Rattle.std.proofs.Common.{ap, sym, ◌∙◌, subst, arith, Option, Some, None, cond}
use Rattle.std.specs.Prelude.{is_some, bytes_eq}
use Rattle.std.specs.List.{position_from}
use Rattle.std.proofs.lemmas.Bool.{cases_lt}
use Rattle.std.proofs.lemmas.List.{append_assoc, length-append}
use Rattle.std.proofs.lemmas.Option.{none-some, same_Some}
use Rattle.std.proofs.lemmas.Slice.Eq.{bytes_eq-Decides}
use Rattle.nam_catalog.specs.declared.shape.Table.{Table}
use Rattle.nam_catalog.specs.Tables.{name_of, first_named}
use Rattle.nam_catalog.specs.Limits.{first_twice_named}

-- the first that passes of a list is that of a longer one
position_stays : {K : Type 0} (p : K → Bool) (xs ys : List K) (i j : ℕ) → position_from p i xs ≡ Some j
    → (position_from p i (xs ++ ys) ≡ Some j) × (j < i + length xs)
position_stays p [] ys i j found = absurd (none-some j found)
position_stays p (x ∷ xs) ys i j found =
    let Claim : Bool → Type 0 = λ b. cond b (Some i) (position_from p (i + 1) xs) ≡ Some j →
    (cond b (Some i) (position_from p (i + 1) (xs ++ ys)) ≡ Some j) × (j < i + length (x ∷ xs)) in
    let either : (b : Bool) → Claim b = elim [
      | true ↦ λ found. (found, omega (arith, same_Some i j found))
      | false ↦ λ found. let rest = position_stays p xs ys (i + 1) j found in (rest.0, omega (arith, rest.1))
    ] in
    either (p x) found

-- where none passes before it, the next that passes is the first
position_next : {K : Type 0} (p : K → Bool) (xs : List K) (y : K) (ys : List K) (i : ℕ) → position_from p i xs ≡ None
    → p y ≡ true
    → position_from p i (xs ++ y ∷ ys) ≡ Some (i + length xs)
position_next p [] y ys i none passes = rw passes (ap Some (omega arith))
position_next p (x ∷ xs) y ys i none passes =
    let Claim : Bool → Type 0 = λ b. cond b (Some i) (position_from p (i + 1) xs) ≡ None →
    cond b (Some i) (position_from p (i + 1) (xs ++ y ∷ ys)) ≡ Some (i + length (x ∷ xs)) in
    let either : (b : Bool) → Claim b = elim [
      | true ↦ λ none. absurd (none-some i (sym none))
      | false ↦ λ none. position_next p xs y ys (i + 1) none passes ∙ ap Some (omega arith)
    ] in
    either (p x) none

-- the name of the table after these
name_after : (before : List Table) (t : Table) (ts : List Table) → name_of (before ++ t ∷ ts) (length before) ≡ t.name
name_after [] t ts = refl
name_after (x ∷ before) t ts = name_after before t ts

-- each table from the place on is the first of its name
abbrev pub FoundFrom : ℕ → List Table → Type 0
FoundFrom place tables = (k : ℕ) → place ≤ k → k < length tables → first_named (name_of tables k) tables ≡ Some k

-- a table whose name none before it bears is the first of its name
found_here : (before : List Table) (t : Table) (ts : List Table) → first_named t.name before ≡ None
    → first_named (name_of (before ++ t ∷ ts) (length before)) (before ++ t ∷ ts) ≡ Some (length before)
found_here before t ts none =
    let itself : bytes_eq t.name t.name ≡ true = (bytes_eq-Decides t.name t.name).1 refl in
    rw (name_after before t ts)
    (position_next (λ u. bytes_eq u.name t.name) before t ts 0 none itself ∙ ap Some (omega arith))

-- where no table bears the name of one before it, each is found by its name
pub found_from : (before : List Table) (place : ℕ) (ts : List Table) → place ≡ length before
    → first_twice_named before place ts ≡ None
    → FoundFrom place (before ++ ts)
found_from before place [] here none = λ k from within. absurd (omega (arith, length-append before []))
found_from before place (t ∷ ts) here none =
    let all = before ++ t ∷ ts in
    let Claim : Option ℕ → Type 0 = λ o. first_named t.name before ≡ o →
    cond (is_some o) (Some place) (first_twice_named (before ++ t ∷ []) (place + 1) ts) ≡ None → FoundFrom place all in
    let either : (o : Option ℕ) → Claim o = elim [
      | Some j ↦ λ is none. absurd (none-some place (sym none))
      | None ↦ λ is none k from within.
          let later = found_from (before ++ t ∷ []) (place + 1) ts
          (omega (arith, length-append before (t ∷ []))) none in
          let rest : FoundFrom (place + 1) all
          = subst (FoundFrom (place + 1)) (append_assoc before (t ∷ []) ts) later in
          elim (cases_lt place k) [
            | inl later ↦ rest k (omega arith) within
            | inr now ↦
                let same : length before ≡ k = omega arith in
                subst (λ n. first_named (name_of all n) all ≡ Some n) same (found_here before t ts is)
          ]
    ] in
    either (first_named t.name before) refl none

-- where each table is found by its name, none bears the name of one before it
pub none_twice : (before : List Table) (place : ℕ) (ts : List Table) → place ≡ length before
    → FoundFrom place (before ++ ts)
    → first_twice_named before place ts ≡ None
none_twice before place [] here found = refl
none_twice before place (t ∷ ts) here found =
    let all = before ++ t ∷ ts in
    let Claim : Option ℕ → Type 0 = λ o. first_named t.name before ≡ o →
    cond (is_some o) (Some place) (first_twice_named (before ++ t ∷ []) (place + 1) ts) ≡ None in
    let either : (o : Option ℕ) → Claim o = elim [
      | Some j ↦ λ is.
          let early = position_stays (λ u. bytes_eq u.name t.name) before (t ∷ ts) 0 j is in
          let at_place : first_named (name_of all (length before)) all ≡ Some (length before) =
          found (length before) (omega arith) (omega (arith, length-append before (t ∷ ts))) in
          let same : Some j ≡ Some (length before) = sym early.0 ∙ rw (name_after before t ts) at at_place in
          absurd (omega (arith, early.1, same_Some j (length before) same))
      | None ↦ λ is.
          none_twice (before ++ t ∷ []) (place + 1) ts (omega (arith, length-append before (t ∷ []))) (λ k from within.
          let same = append_assoc before (t ∷ []) ts in
          subst (λ tables. first_named (name_of tables k) tables ≡ Some k) (sym same)
          (found k (omega arith) (subst (λ tables. k < length tables) same within)))
    ] in
    either (first_named t.name before) refl
