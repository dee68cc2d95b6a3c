-- What follows from a line's tests, one after the other.
use Rattle.std.proofs.Common.{◌≡◌, ℕ, zero, suc, ◌+◌, ◌<◌, ◌≤◌, Bool, true, false, cond, ◌&&◌, ◌||◌, leb, List, []}
use Rattle.std.proofs.Common.{◌∷◌, map, length, Option, Some, None, Result, Ok, Err, refl, sym, ap, ◌∙◌, subst, arith}
use Rattle.std.proofs.Common.{◌⊎◌, inl, inr, add-zero}
use Rattle.std.specs.Prelude.{slice_index}
use Rattle.std.specs.List.{AllByRecursion}
use Rattle.std.specs.Str.{bytes_eq}
use Rattle.std.proofs.lemmas.Bool.{and_parts, leb-true, eqb-true}
use Rattle.std.proofs.lemmas.Slice.Eq.{bytes_eq-Decides}
use Rattle.nam_catalog.specs.declared.shape.Table.{Table}
use Rattle.nam_catalog.specs.Tables.{name_of, widths_of, capacities_of}
use Rattle.nam_script.specs.declared.refusal.Kind.{Kind}
use Rattle.nam_script.specs.declared.refusal.Kind.TheVariants as kind
use Rattle.nam_script.specs.declared.checks.Found.{Found}
use Rattle.nam_script.specs.declared.script.Stint.{Stint}
use Rattle.nam_script.specs.declared.line.SpeltStint.{SpeltStint}
use Rattle.nam_script.specs.declared.stage.Stage.{Stage}
use Rattle.nam_script.specs.declared.stage.Stage.TheVariants.{Empty, Version, Header, Workers, Tries, Tidy, Start}
use Rattle.nam_script.specs.declared.stage.Stage.TheVariants.{Overflow, Tables, Rows, Open, Between, Turns, Seed}
use Rattle.nam_script.specs.Stages.{rank, is_at}
use Rattle.nam_script.specs.Checks.{◌>>=◌, must, within, stint_within, all_small, all_stints, place_from, place_of}
use Rattle.nam_script.specs.Checks.{total_within}
use Rattle.nam_script.specs.Limits.{StintFits}
use Rattle.nam_script.specs.Spelling.{somes, spelt}

-- what follows from a step and from what comes after it
pub ok_then : {A B P : Type 0} (r : Result A Kind) (f : A → Result B Kind) (y : B) → (r >>= f) ≡ Ok y
    → ((x : A) → r ≡ Ok x → f x ≡ Ok y → P) → P
ok_then (Ok x) f y e p = p x refl e
ok_then (Err k) f y e p = absurd cc

pub must_then : {B P : Type 0} (b : Bool) (k : Kind) (x : Result B Kind) (y : B) → (must b k >>= (λ _. x)) ≡ Ok y
    → (b ≡ true → x ≡ Ok y → P) → P
must_then true k x y e p = p refl e
must_then false k x y e p = absurd cc

pub same_Ok : {A : Type 0} (x y : A) → ◌≡◌ {A = Result A Kind} (Ok x) (Ok y) → x ≡ y
same_Ok x y e = cc

chosen : (b : Bool) (n m : ℕ) (k : Kind) → cond b (Ok n) (Err k) ≡ Ok m → (b ≡ true) × (n ≡ m)
chosen true n m k e = (refl, cc)
chosen false n m k e = absurd cc

-- a number within limits
pub record IsWithin (low high : ℕ) (o : Option ℕ) (m : ℕ) : Type 0 where
  pub is : o ≡ Some m
  pub least : low ≤ m
  pub most : m ≤ high

pub within_fits : (low high : ℕ) (o : Option ℕ) (m : ℕ) → within low high o ≡ Ok m → IsWithin low high o m
within_fits low high None m e = absurd cc
within_fits low high (Some n) m e =
    let h = chosen (leb low n && leb n high) n m kind.Range e in
    let p = and_parts _ _ h.0 in
    record {
      is = ap (λ (k : ℕ). Some k) h.1;
      least = subst (λ (k : ℕ). low ≤ k) h.1 (leb-true _ _ p.0);
      most = subst
          (λ (k : ℕ). k ≤ high) h.1 (leb-true _ _ p.1);
    }

pub total_is : (a b most s : ℕ) → total_within a b most ≡ Ok s → (s ≡ a + b) × (s ≤ most)
total_is a b most s e =
    let h = chosen (leb (a + b) most) (a + b) s kind.Size e in
    (sym h.1, subst (λ (k : ℕ). k ≤ most) h.1 (leb-true _ _ h.0))

pub all_small_is : (ns : List (Option ℕ)) (ms : List ℕ) → all_small ns ≡ Ok ms → ns ≡ somes ms
unfolding all_small
all_small_is [] ms e = ap somes (same_Ok _ _ e)
all_small_is (None ∷ ns) ms e = absurd cc
all_small_is (Some n ∷ ns) ms e =
    ok_then (all_small ns) _ ms e (λ ks ek e1.
    subst (λ (js : List ℕ). Some n ∷ ns ≡ somes js) (same_Ok _ _ e1)
    (ap (λ (os : List (Option ℕ)). Some n ∷ os) (all_small_is ns ks ek)))

spelt_is : (s : SpeltStint) (w n : ℕ) → s.worker ≡ Some w → s.steps ≡ Some n
    → s ≡ spelt (record { worker = w; steps = n })
spelt_is s w n ew en =
    ap (λ (o : Option ℕ). record { worker = o; steps = s.steps }) ew
    ∙ ap (λ (o : Option ℕ). record { worker = Some w; steps = o }) en

stint_is : (workers : ℕ) (s : SpeltStint) (m : Stint) → stint_within workers s ≡ Ok m
    → (s ≡ spelt m) × StintFits workers m
stint_is workers s m e =
    ok_then (within 1 workers s.worker) _ m e (λ w ew e1.
    ok_then (within 1 1000000 s.steps) _ m e1 (λ n en e2.
    let fw = within_fits 1 workers s.worker w ew in
    let fn = within_fits 1 1000000 s.steps n en in
    subst (λ (x : Stint). (s ≡ spelt x) × StintFits workers x) (same_Ok _ _ e2)
    (spelt_is s w n fw.is fn.is, (fw.least, fw.most, fn.least, fn.most))))

pub all_stints_are : (workers : ℕ) (ss : List SpeltStint) (ms : List Stint) → all_stints workers ss ≡ Ok ms
    → (ss ≡ map spelt ms) × AllByRecursion (StintFits workers) ms
unfolding all_stints
all_stints_are workers [] ms e =
    subst (λ (js : List Stint). ([] ≡ map spelt js) × AllByRecursion (StintFits workers) js) (same_Ok _ _ e) (refl, tt)
all_stints_are workers (s ∷ ss) ms e =
    ok_then (stint_within workers s) _ ms e (λ m em e1.
    ok_then (all_stints workers ss) _ ms e1 (λ rest er e2.
    let f = stint_is workers s m em in
    let r = all_stints_are workers ss rest er in
    subst (λ (js : List Stint). (s ∷ ss ≡ map spelt js) × AllByRecursion (StintFits workers) js) (same_Ok _ _ e2)
    (ap (λ (x : SpeltStint). x ∷ ss) f.0 ∙ ap (λ (xs : List SpeltStint). spelt m ∷ xs) r.0, (f.1, r.1))))

-- ---- tables by their names

pub record IsPlace (from : ℕ) (ts : List Table) (name : List ℕ) (f : Found) : Type 0 where
  pub nth : ℕ
  pub at : f.table ≡ from + nth
  pub within : nth < length ts
  pub named : name_of ts nth ≡ name
  pub width : slice_index (widths_of ts) nth ≡ f.width
  pub capacity : slice_index (capacities_of ts) nth ≡ f.capacity

name_here : (b : Bool) (t : Table) (i : ℕ) (after : Result Found Kind) (f : Found) (P : Type 0)
    → cond b (Ok (record { table = i; width = t.width; capacity = t.capacity })) after ≡ Ok f
    → (b ≡ true → (record { table = i; width = t.width; capacity = t.capacity }) ≡ f → P) → (after ≡ Ok f → P) → P
name_here true t i after f P e p q = p refl (same_Ok _ _ e)
name_here false t i after f P e p q = q e

place_is : (i : ℕ) (ts : List Table) (name : List ℕ) (f : Found) → place_from i ts name ≡ Ok f → IsPlace i ts name f
unfolding place_from
place_is i [] name f e = absurd cc
place_is i (t ∷ ts) name f e =
    name_here (bytes_eq t.name name) t i _ f (IsPlace i (t ∷ ts) name f) e
    (λ same is. subst (IsPlace i (t ∷ ts) name) is (record {
      nth = 0;
      at = sym (add-zero i);
      within = omega arith;
      named
          = (bytes_eq-Decides t.name name).0 same;
      width = refl;
      capacity = refl;
    }))
    (λ e1.
    let r = place_is (i + 1) ts name f e1 in
    record {
      nth = suc r.nth;
      at = omega (arith, r.at);
      within = omega (arith, r.within);
      named = r.named;
      width =
          r.width;
      capacity = r.capacity;
    })

-- the table that a name finds
pub record IsFound (ts : List Table) (name : List ℕ) (f : Found) : Type 0 where
  pub within : f.table < length ts
  pub named : name_of ts f.table ≡ name
  pub width : slice_index (widths_of ts) f.table ≡ f.width
  pub capacity : slice_index (capacities_of ts) f.table ≡ f.capacity

pub found_is : (ts : List Table) (name : List ℕ) (f : Found) → place_of ts name ≡ Ok f → IsFound ts name f
found_is ts name f e =
    let r = place_is 0 ts name f e in
    let at : r.nth ≡ f.table = omega (arith, r.at) in
    record {
      within = subst (λ (k : ℕ). k < length ts) at r.within;
      named = subst (λ (k : ℕ). name_of ts k ≡ name) at r.named;
      width = subst (λ (k : ℕ). slice_index (widths_of ts) k ≡ f.width) at r.width;
      capacity = subst (λ (k : ℕ). slice_index (capacities_of ts) k ≡ f.capacity) at r.capacity;
    }

-- ---- stages

abbrev stage_of : ℕ → Stage
stage_of zero = Empty
stage_of (suc zero) = Version
stage_of (suc (suc zero)) = Header
stage_of (suc (suc (suc zero))) = Workers
stage_of (suc (suc (suc (suc zero)))) = Tries
stage_of (suc (suc (suc (suc (suc zero))))) = Tidy
stage_of (suc (suc (suc (suc (suc (suc zero)))))) = Start
stage_of (suc (suc (suc (suc (suc (suc (suc zero))))))) = Overflow
stage_of (suc (suc (suc (suc (suc (suc (suc (suc zero)))))))) = Tables
stage_of (suc (suc (suc (suc (suc (suc (suc (suc (suc zero))))))))) = Rows
stage_of (suc (suc (suc (suc (suc (suc (suc (suc (suc (suc zero)))))))))) = Open
stage_of (suc (suc (suc (suc (suc (suc (suc (suc (suc (suc (suc zero))))))))))) = Between
stage_of (suc (suc (suc (suc (suc (suc (suc (suc (suc (suc (suc (suc zero)))))))))))) = Turns
stage_of n = Seed

stage_again : (st : Stage) → stage_of (rank st) ≡ st
stage_again Empty = refl
stage_again Version = refl
stage_again Header = refl
stage_again Workers = refl
stage_again Tries = refl
stage_again Tidy = refl
stage_again Start = refl
stage_again Overflow = refl
stage_again Tables = refl
stage_again Rows = refl
stage_again Open = refl
stage_again Between = refl
stage_again Turns = refl
stage_again Seed = refl

pub at_is : (a b : Stage) → is_at a b ≡ true → a ≡ b
at_is a b e = sym (stage_again a) ∙ ap stage_of (eqb-true _ _ e) ∙ stage_again b

pub either : (x y : Bool) → (x || y) ≡ true → (x ≡ true) ⊎ (y ≡ true)
either true y e = inl refl
either false y e = inr e
