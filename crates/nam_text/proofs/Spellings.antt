-- What is written is read, and only what is written is read: so of each spelling that is made of such.
use Rattle.std.proofs.Common.{◌≡◌, ℕ, zero, suc, ◌^◌, ◌<◌, ◌≤◌, Bool, true, false, eqb, ltb, leb, List, [], ◌∷◌, ◌++◌}
use Rattle.std.proofs.Common.{map, length, Option, Some, None, refl, sym, ap, ◌∙◌, subst, arith, inl, inr}
use Rattle.std.specs.Prelude.{codes}
use Rattle.std.specs.Fmt.{decimal}
use Rattle.std.specs.List.{AllByRecursion}
use Rattle.std.specs.Str.{bytes_eq}
use Rattle.std.proofs.lemmas.Bool.{cases_Bool, le-leb, leb-true, lt-ltb, ltb-true, ne_eqb}
use Rattle.std.proofs.lemmas.List.{append-nil, length-map}
use Rattle.std.proofs.lemmas.Option.{cond_some, same_Some}
use Rattle.std.proofs.lemmas.Slice.Eq.{bytes_eq-Decides}
use Rattle.nam_text.specs.Token.{number_of, number_text, is_name}
use Rattle.nam_text.specs.Read.{◌>>=◌, word_at, field_at, done, all_read, some_read}
use Rattle.nam_text.specs.Spelling.{IsPlain, Field, IsField, Spelling, IsSpelling, FitsWord, number, name, below_of}
use Rattle.nam_text.specs.Spelling.{below, or_dash, among, choice, nothing, word, last, next, some, split_last}
use Rattle.nam_text.specs.Spelling.{before, mark, mark_read, with_mark, if_dash, or_lone_dash, through}
use Rattle.nam_text.proofs.Takes.{bind_then, if_then, word_takes, number_takes}
use Rattle.nam_text.proofs.Again.{number_again, decimal_plain, name_plain}

-- ---- single fields

pub number_reads : (o : Option ℕ) → FitsWord o → number_of (number_text o) ≡ Some o
number_reads None fits = absurd fits
number_reads (Some n) fits = number_again n fits

pub number_plain : (o : Option ℕ) → FitsWord o → IsPlain (number_text o)
number_plain None fits = absurd fits
number_plain (Some n) fits = decimal_plain n fits

pub number_is : IsField number
number_is = record { again = number_reads; only = number_takes; plain = number_plain }

pub name_is : IsField name
name_is = record {
  again = λ x fits. rw fits refl;
  only = λ f x e small.
      let h = cond_some (is_name f) f x e in
      (subst (λ (y : List ℕ). is_name y ≡ true) h.1 h.0, h.1);
  plain = name_plain;
}

below_read : (bound n : ℕ) (f : List ℕ) (o : Option ℕ) → number_of f ≡ Some o → below_of bound o ≡ Some n
    → ((n < bound) × (n < 2 ^ 64)) × (f ≡ decimal n)
below_read bound n f None eo e = absurd cc
below_read bound n f (Some m) eo e =
    let h = cond_some (ltb m bound) m n e in
    let r = number_takes f (Some m) eo tt in
    ((subst (λ (k : ℕ). k < bound) h.1 (ltb-true _ _ h.0), subst (λ (k : ℕ). k < 2 ^ 64) h.1 r.0), r.1 ∙ ap decimal h.1)

no_value : {A : Type 0} (x : A) → ◌≡◌ {A = Option A} None (Some x) → ⊥
no_value x e = cc

no_dash : {A : Type 0} (f : Field A) (x : A) (t : List ℕ) → f.text x ≡ t → f.read (codes "-") ≡ None
    → f.read (f.text x) ≡ Some x → bytes_eq t (codes "-") ≡ false
no_dash f x t is other again = elim (cases_Bool (bytes_eq t (codes "-"))) [
  | inl same ↦ absurd (no_value x (sym other ∙ ap f.read (sym (is ∙ (bytes_eq-Decides t (codes "-")).0 same)) ∙ again))
  | inr apart ↦ apart
]

below_again : (bound n : ℕ) → n < bound → n < 2 ^ 64 → (number_of (decimal n) >>= below_of bound) ≡ Some n
below_again bound n lt fits = rw (number_again n fits, lt-ltb _ _ lt) refl

below_only : (bound n : ℕ) (f : List ℕ) → (number_of f >>= below_of bound) ≡ Some n
    → ((n < bound) × (n < 2 ^ 64)) × (f ≡ decimal n)
below_only bound n f e = bind_then (number_of f) _ n e (λ o eo e1. below_read bound n f o eo e1)

pub below_is : (bound : ℕ) → IsField (below bound)
below_is bound = record {
  again = λ n fits. below_again bound n fits.0 fits.1;
  only = λ f n e _. below_only bound n f e;
  plain = λ n fits. decimal_plain n fits.1;
}

dash_again : {A : Type 0} {f : Field A} → IsField f → f.read (codes "-") ≡ None → (o : Option A) → (or_dash f).Fits o
    → (or_dash f).read ((or_dash f).text o) ≡ Some o
dash_again h other None fits = refl
dash_again {A} {f} h other (Some x) fits =
    let apart : bytes_eq (f.text x) (codes "-") ≡ false = no_dash f x (f.text x) refl other (h.again x fits) in
    rw (apart, h.again x fits) refl

dash_only : {A : Type 0} {f : Field A} → IsField f → (t : List ℕ) (o : Option A) → (or_dash f).read t ≡ Some o
    → (or_dash f).IsSmall o → (or_dash f).Fits o × (t ≡ (or_dash f).text o)
dash_only {A} {f} h t o e small =
    if_then (bytes_eq t (codes "-")) _ _ _ e
    (λ same e1. subst (λ (p : Option A). (or_dash f).Fits p × (t ≡ (or_dash f).text p)) (same_Some _ _ e1)
    (tt, (bytes_eq-Decides t (codes "-")).0 same))
    (λ _ e1. bind_then (f.read t) _ o e1 (λ x ex e2.
    subst (λ (p : Option A). (or_dash f).IsSmall p → (or_dash f).Fits p × (t ≡ (or_dash f).text p)) (same_Some _ _ e2)
    (λ few. h.only t x ex few) small))

dash_plain : {A : Type 0} {f : Field A} → IsField f → (o : Option A) → (or_dash f).Fits o → IsPlain ((or_dash f).text o)
dash_plain h None fits = refl
dash_plain h (Some x) fits = h.plain x fits

-- where a dash is no value
pub or_dash_is : {A : Type 0} {f : Field A} → IsField f → f.read (codes "-") ≡ None → IsField (or_dash f)
or_dash_is h other = record { again = dash_again h other; only = dash_only h; plain = dash_plain h }

among_only : {A : Type 0} (text : A → List ℕ) (xs : List A) (f : List ℕ) (x : A) → among text xs f ≡ Some x → f ≡ text x
among_only text [] f x e = absurd cc
among_only text (y ∷ ys) f x e =
    if_then (bytes_eq f (text y)) _ _ _ e
    (λ same e1. (bytes_eq-Decides f (text y)).0 same ∙ ap text (same_Some y x e1))
    (λ _ e1. among_only text ys f x e1)

pub choice_is : {A : Type 0} (text : A → List ℕ) (all : List A) → ((x : A) → among text all (text x) ≡ Some x)
    → ((x : A) → IsPlain (text x)) → IsField (choice text all)
choice_is text all again plain = record {
  again = λ x _. again x;
  only = λ f x e _. (tt, among_only text all f x e);
  plain = λ x _. plain x;
}

-- ---- the next field

field_again : {A : Type 0} {f : Field A} → IsField f → (x : A) (rest : List (List ℕ)) → f.Fits x
    → field_at f.read (f.text x ∷ rest) ≡ Some (x, rest)
unfolding field_at
field_again h x rest fits = rw (h.again x fits) refl

field_only : {A : Type 0} {f : Field A} → IsField f → (fs : List (List ℕ)) (x : A × List (List ℕ))
    → field_at f.read fs ≡ Some x → f.IsSmall x.0 → f.Fits x.0 × (fs ≡ f.text x.0 ∷ x.1)
unfolding field_at
field_only h [] x e small = absurd cc
field_only {A} {f} h (field ∷ fs) x e small =
    bind_then (f.read field) _ x e (λ y ey e1.
    subst (λ (z : A × List (List ℕ)). f.IsSmall z.0 → f.Fits z.0 × (field ∷ fs ≡ f.text z.0 ∷ z.1)) (same_Some _ _ e1)
    (λ s. let r = h.only field y ey s in (r.0, ap (λ (t : List ℕ). t ∷ fs) r.1)) small)

done_only : (fs : List (List ℕ)) (x : Unit {0}) → done fs ≡ Some x → fs ≡ []
done_only [] x e = refl
done_only (f ∷ fs) x e = absurd cc

-- ---- all the fields that are left

pub nothing_is : IsSpelling nothing
nothing_is = record {
  again = λ x _. refl;
  only = λ fs x e _. (tt, done_only fs x e);
  plain = λ x _. tt;
}

word_again : {A : Type 0} (w : List ℕ) (s : Spelling A) (x : A) → s.read (s.fields x) ≡ Some x
    → (word_at w (w ∷ s.fields x) >>= s.read) ≡ Some x
word_again w s x e = rw ((bytes_eq-Decides w w).1 refl) e

pub word_is : {A : Type 0} {s : Spelling A} (w : List ℕ) → IsPlain w → IsSpelling s → IsSpelling (word w s)
word_is {A} {s} w plain h = record {
  again = λ x fits. word_again w s x (h.again x fits);
  only = λ fs x e small.
      bind_then (word_at w fs) _ x e (λ rest er e1.
      let r = h.only rest x e1 small in
      (r.0, word_takes w fs rest er ∙ ap (λ (t : List (List ℕ)). w ∷ t) r.1));
  plain = λ x fits. (plain, h.plain x fits);
}

pub last_is : {A : Type 0} {f : Field A} → IsField f → IsSpelling (last f)
last_is {A} {f} h = record {
  again = λ x fits. rw (field_again h x [] fits) refl;
  only = λ fs x e small.
      bind_then (field_at f.read fs) _ x e (λ y ey e1.
      bind_then (done y.1) _ x e1 (λ u eu e2.
      let is : y.0 ≡ x = same_Some _ _ e2 in
      let r = field_only h fs y ey (subst f.IsSmall (sym is) small) in (
        subst f.Fits is r.0,
        r.1 ∙ ap (λ (t : List (List ℕ)). f.text y.0 ∷ t) (done_only y.1 u eu) ∙ ap
            (λ (z : A). f.text z ∷ []) is,
      )));
  plain = λ x fits. (h.plain x fits, tt);
}

pub next_is : {A B : Type 0} {f : Field A} {s : Spelling B} → IsField f → IsSpelling s → IsSpelling (next f s)
next_is {A} {B} {f} {s} hf hs = record {
  again = λ x fits. rw (field_again hf x.0 (s.fields x.1) fits.0, hs.again x.1 fits.1) refl;
  only = λ fs x e small.
      bind_then (field_at f.read fs) _ x e (λ y ey e1.
      bind_then (s.read y.1) _ x e1 (λ z ez e2.
      let is : (y.0, z) ≡ x = same_Some _ _ e2 in
      subst
      (λ (p : A × B). f.IsSmall p.0 × s.IsSmall p.1 → (f.Fits p.0 × s.Fits p.1) × (fs ≡ f.text p.0 ∷ s.fields p.1))
      is
      (λ few.
      let a = field_only hf fs y ey few.0 in
      let b = hs.only y.1 z ez few.1 in
      ((a.0, b.0), a.1 ∙ ap (λ (t : List (List ℕ)). f.text y.0 ∷ t) b.1)) small));
  plain = λ x fits. (hf.plain x.0 fits.0, hs.plain x.1 fits.1);
}

-- ---- a field each

all_again : {A : Type 0} {f : Field A} → IsField f → (xs : List A) → AllByRecursion f.Fits xs
    → all_read f.read (map f.text xs) ≡ Some xs
unfolding all_read
all_again h [] fits = refl
all_again h (x ∷ xs) fits = rw (h.again x fits.0, all_again h xs fits.1) refl

all_only : {A : Type 0} {f : Field A} → IsField f → (fs : List (List ℕ)) (xs : List A) → all_read f.read fs ≡ Some xs
    → AllByRecursion f.IsSmall xs → AllByRecursion f.Fits xs × (fs ≡ map f.text xs)
unfolding all_read
all_only {A} {f} h [] xs e small =
    subst (λ (ys : List A). AllByRecursion f.Fits ys × ([] ≡ map f.text ys)) (same_Some _ _ e) (tt, refl)
all_only {A} {f} h (field ∷ fs) xs e small =
    bind_then (f.read field) _ xs e (λ y ey e1.
    bind_then (all_read f.read fs) _ xs e1 (λ ys es e2.
    subst (λ (zs : List A). AllByRecursion f.IsSmall zs → AllByRecursion f.Fits zs × (field ∷ fs ≡ map f.text zs))
    (same_Some _ _ e2)
    (λ few.
    let a = h.only field y ey few.0 in
    let b = all_only h fs ys es few.1 in
    ((a.0, b.0), rw (a.1, b.1) refl)) small))

all_plain : {A : Type 0} {f : Field A} → IsField f → (xs : List A) → AllByRecursion f.Fits xs
    → AllByRecursion IsPlain (map f.text xs)
all_plain h [] fits = tt
all_plain h (x ∷ xs) fits = (h.plain x fits.0, all_plain h xs fits.1)

not_zero : (n : ℕ) → eqb n 0 ≡ false → 1 ≤ n
not_zero zero e = absurd cc
not_zero (suc n) e = omega arith

-- how many fields were read, and what of them
some_then : {A P : Type 0} (most : ℕ) (read : List ℕ → Option A) (fs : List (List ℕ)) (xs : List A)
    → some_read most read fs ≡ Some xs → (1 ≤ length fs → length fs ≤ most → all_read read fs ≡ Some xs → P) → P
unfolding some_read
some_then most read fs xs e p =
    if_then (eqb (length fs) 0) _ _ _ e (λ _ e1. absurd (no_value xs e1)) (λ one e1.
    if_then (leb (length fs) most) _ _ _ e1 (λ few e2. p (not_zero (length fs) one) (leb-true _ _ few) e2)
    (λ _ e2. absurd (no_value xs e2)))

some_again : {A : Type 0} (most : ℕ) (read : List ℕ → Option A) (fs : List (List ℕ)) (xs : List A)
    → all_read read fs ≡ Some xs → 1 ≤ length fs → length fs ≤ most → some_read most read fs ≡ Some xs
unfolding some_read
some_again most read fs xs e one few =
    let other : eqb (length fs) 0 ≡ false = ne_eqb _ _ (λ z. absurd (omega (arith, z, one))) in
    rw (other, le-leb _ _ few) e

pub some_is : {A : Type 0} {f : Field A} (most : ℕ) → IsField f → IsSpelling (some most f)
some_is {A} {f} most h = record {
  again = λ xs fits. some_again most f.read (map f.text xs) xs (all_again h xs fits.0)
      (omega (arith, length-map xs f.text, fits.1)) (omega (arith, length-map xs f.text, fits.2));
  only = λ fs xs e small.
      some_then most f.read fs xs e (λ one few e1.
      let r = all_only h fs xs e1 small in
      let len : length fs ≡ length xs = ap length r.1 ∙ length-map xs f.text in
      ((r.0, omega (arith, len, one), omega (arith, len, few)), r.1));
  plain = λ xs fits. all_plain h xs fits.0;
}

pub through_is : {A B : Type 0} {s : Spelling A} (to : A → B) (from : B → A) → ((x : A) → from (to x) ≡ x)
    → ((y : B) → to (from y) ≡ y) → IsSpelling s → IsSpelling (through to from s)
through_is {A} {B} {s} to from left right h = record {
  again = λ y fits. rw (h.again (from y) fits) (ap (λ (z : B). Some z) (right y));
  only = λ fs y e small.
      bind_then (s.read fs) _ y e (λ x ex e1.
      let is : x ≡ from y = sym (left x) ∙ ap from (same_Some _ _ e1) in
      h.only fs (from y) (ex ∙ ap (λ (z : A). Some z) is) small);
  plain = λ y fits. h.plain (from y) fits;
}

split_again : (xs : List (List ℕ)) (f : List ℕ) → split_last (xs ++ f ∷ []) ≡ Some (xs, f)
unfolding split_last
split_again [] f = refl
split_again (x ∷ []) f = refl
split_again (x ∷ y ∷ xs) f = rw (split_again (y ∷ xs) f) refl

split_only : (fs : List (List ℕ)) (x : List (List ℕ) × List ℕ) → split_last fs ≡ Some x → fs ≡ x.0 ++ x.1 ∷ []
unfolding split_last
split_only [] x e = absurd cc
split_only (f ∷ []) x e = subst (λ (y : List (List ℕ) × List ℕ). f ∷ [] ≡ y.0 ++ y.1 ∷ []) (same_Some _ _ e) refl
split_only (f ∷ g ∷ fs) x e =
    bind_then (split_last (g ∷ fs)) _ x e (λ y ey e1.
    subst (λ (z : List (List ℕ) × List ℕ). f ∷ g ∷ fs ≡ z.0 ++ z.1 ∷ []) (same_Some _ _ e1)
    (ap (λ (t : List (List ℕ)). f ∷ t) (split_only (g ∷ fs) y ey)))

all_both : (xs ys : List (List ℕ)) → AllByRecursion IsPlain xs → AllByRecursion IsPlain ys
    → AllByRecursion IsPlain (xs ++ ys)
all_both [] ys h k = k
all_both (x ∷ xs) ys h k = (h.0, all_both xs ys h.1 k)

pub before_is : {A B : Type 0} {s : Spelling A} {f : Field B} → IsSpelling s → IsField f → IsSpelling (before s f)
before_is {A} {B} {s} {f} hs hf = record {
  again = λ x fits. rw (split_again (s.fields x.0) (f.text x.1), hs.again x.0 fits.0, hf.again x.1 fits.1) refl;
  only = λ fs x e small.
      bind_then (split_last fs) _ x e (λ y ey e1.
      bind_then (s.read y.0) _ x e1 (λ a ea e2.
      bind_then (f.read y.1) _ x e2 (λ b eb e3.
      let is : (a, b) ≡ x = same_Some _ _ e3 in
      subst (λ (p : A × B). s.IsSmall p.0 × f.IsSmall p.1 → (s.Fits p.0 × f.Fits p.1) ×
      (fs ≡ s.fields p.0 ++ f.text p.1 ∷ [])) is
      (λ few.
      let l = hs.only y.0 a ea few.0 in
      let r = hf.only y.1 b eb few.1 in (
        (l.0, r.0),
        split_only fs y ey ∙ ap (λ (t : List (List ℕ)). t ++ y.1 ∷ []) l.1 ∙ ap
            (λ (t : List ℕ). s.fields a ++ t ∷ []) r.1,
      )) small)));
  plain = λ x fits. all_both (s.fields x.0) (f.text x.1 ∷ []) (hs.plain x.0 fits.0) (hf.plain x.1 fits.1, tt);
}

mark_only : {A : Type 0} (w : List ℕ) (s : Spelling A) → IsSpelling s
    → (fs : List (List ℕ)) (y : List (List ℕ) × List ℕ) (x : A × Bool) → fs ≡ y.0 ++ y.1 ∷ []
    → mark_read w s fs y ≡ Some x → s.IsSmall x.0 → s.Fits x.0 × (fs ≡ s.fields x.0 ++ mark w x.1)
mark_only {A} w s h fs y x parts e small =
    if_then (bytes_eq y.1 w) _ _ _ e
    (λ same e1. bind_then (s.read y.0) _ x e1 (λ a ea e2.
    subst (λ (p : A × Bool). s.IsSmall p.0 → s.Fits p.0 × (fs ≡ s.fields p.0 ++ mark w p.1)) (same_Some _ _ e2)
    (λ few.
    let r = h.only y.0 a ea few in (
      r.0,
      parts ∙ ap (λ (t : List (List ℕ)). t ++ y.1 ∷ []) r.1 ∙ ap (λ (t : List ℕ). s.fields a ++ t ∷ [])
          ((bytes_eq-Decides y.1 w).0 same),
    )) small))
    (λ _ e1. bind_then (s.read fs) _ x e1 (λ a ea e2.
    subst (λ (p : A × Bool). s.IsSmall p.0 → s.Fits p.0 × (fs ≡ s.fields p.0 ++ mark w p.1)) (same_Some _ _ e2)
    (λ few. let r = h.only fs a ea few in (r.0, r.1 ∙ sym (append-nil (s.fields a)))) small))

some_split : (f : List ℕ) (fs : List (List ℕ)) → (x : List (List ℕ) × List ℕ) × (split_last (f ∷ fs) ≡ Some x)
unfolding split_last
some_split f [] = (([], f), refl)
some_split f (g ∷ fs) = let r = some_split g fs in ((f ∷ r.0.0, r.0.1), rw r.1 refl)

-- the fields of a value, without the word
bare_again : {A : Type 0} (w : List ℕ) (s : Spelling A) (x : A) (fs : List (List ℕ))
    → ((xs : List (List ℕ)) → s.read (xs ++ w ∷ []) ≡ None) → s.read [] ≡ None → s.read fs ≡ Some x
    → (split_last fs >>= mark_read w s fs) ≡ Some (x, false)
bare_again w s x [] other some e = absurd (no_value x (sym some ∙ e))
bare_again w s x (f ∷ fs) other some e =
    let r = some_split f fs in
    let parts = split_only (f ∷ fs) r.0 r.1 in
    let apart : bytes_eq r.0.1 w ≡ false = elim (cases_Bool (bytes_eq r.0.1 w)) [
      | inl same ↦ absurd (no_value x (sym (other r.0.0) ∙ ap (λ (t : List ℕ). s.read (r.0.0 ++ t ∷ []))
          (sym ((bytes_eq-Decides r.0.1 w).0 same)) ∙ ap s.read (sym parts) ∙ e))
      | inr apart ↦ apart
    ] in
    rw (r.1, apart, e) refl

mark_again : {A : Type 0} (w : List ℕ) (s : Spelling A) (x : A) (b : Bool)
    → ((xs : List (List ℕ)) → s.read (xs ++ w ∷ []) ≡ None) → s.read [] ≡ None → s.read (s.fields x) ≡ Some x
    → (split_last (s.fields x ++ mark w b) >>= mark_read w s (s.fields x ++ mark w b)) ≡ Some (x, b)
mark_again w s x true other some e =
    let same : bytes_eq w w ≡ true = (bytes_eq-Decides w w).1 refl in
    rw (split_again (s.fields x) w, same, e) refl
mark_again w s x false other some e = rw (append-nil (s.fields x)) (bare_again w s x (s.fields x) other some e)

mark_plain : (w : List ℕ) (b : Bool) → IsPlain w → AllByRecursion IsPlain (mark w b)
mark_plain w true h = (h, tt)
mark_plain w false h = tt

-- where no value ends in the word, and each has a field
pub with_mark_is : {A : Type 0} {s : Spelling A} (w : List ℕ) → IsPlain w
    → ((xs : List (List ℕ)) → s.read (xs ++ w ∷ []) ≡ None) → s.read [] ≡ None → IsSpelling s
    → IsSpelling (with_mark w s)
with_mark_is {A} {s} w plain other some h = record {
  again = λ x fits. mark_again w s x.0 x.1 other some (h.again x.0 fits);
  only = λ fs x e small. bind_then (split_last fs) _ x e
      (λ y ey e1. mark_only w s h fs y x (split_only fs y ey) e1 small);
  plain = λ x fits. all_both (s.fields x.0) (mark w x.1) (h.plain x.0 fits) (mark_plain w x.1 plain);
}

dash_read : (fs : List (List ℕ)) (u : Unit {0}) → (word_at (codes "-") fs >>= done) ≡ Some u → fs ≡ codes "-" ∷ []
dash_read fs u e =
    bind_then (word_at (codes "-") fs) _ u e (λ rest er e1.
    word_takes (codes "-") fs rest er ∙ ap (λ (t : List (List ℕ)). codes "-" ∷ t) (done_only rest u e1))

if_dash_only : {A : Type 0} {s : Spelling A} → IsSpelling s
    → (fs : List (List ℕ)) (d : Option (Unit {0})) (o : Option A) → (word_at (codes "-") fs >>= done) ≡ d
    → if_dash d (s.read fs >>= (λ x. Some (Some x))) ≡ Some o → (or_lone_dash s).IsSmall o
    → (or_lone_dash s).Fits o × (fs ≡ (or_lone_dash s).fields o)
if_dash_only {A} {s} h fs (Some u) o ed e small =
    subst (λ (p : Option A). (or_lone_dash s).Fits p × (fs ≡ (or_lone_dash s).fields p)) (same_Some _ _ e)
    (tt, dash_read fs u ed)
if_dash_only {A} {s} h fs None o ed e small =
    bind_then (s.read fs) _ o e (λ x ex e1.
    subst (λ (p : Option A). (or_lone_dash s).IsSmall p → (or_lone_dash s).Fits p × (fs ≡ (or_lone_dash s).fields p))
    (same_Some _ _ e1) (λ few. h.only fs x ex few) small)

if_dash_again : {A : Type 0} (s : Spelling A) (x : A) (fs : List (List ℕ)) (d : Option (Unit {0}))
    → (word_at (codes "-") fs >>= done) ≡ d → s.read (codes "-" ∷ []) ≡ None → s.read fs ≡ Some x
    → if_dash d (s.read fs >>= (λ x. Some (Some x))) ≡ Some (Some x)
if_dash_again s x fs None ed other e = rw e refl
if_dash_again s x fs (Some u) ed other e = absurd (no_value x (sym other ∙ ap s.read (sym (dash_read fs u ed)) ∙ e))

lone_dash_again : {A : Type 0} {s : Spelling A} → IsSpelling s → s.read (codes "-" ∷ []) ≡ None → (o : Option A)
    → (or_lone_dash s).Fits o → (or_lone_dash s).read ((or_lone_dash s).fields o) ≡ Some o
lone_dash_again h other None fits = refl
lone_dash_again {A} {s} h other (Some x) fits = if_dash_again s x (s.fields x) _ refl other (h.again x fits)

lone_dash_plain : {A : Type 0} {s : Spelling A} → IsSpelling s → (o : Option A) → (or_lone_dash s).Fits o
    → AllByRecursion IsPlain ((or_lone_dash s).fields o)
lone_dash_plain h None fits = (refl, tt)
lone_dash_plain h (Some x) fits = h.plain x fits

-- where a dash is no value
pub or_lone_dash_is : {A : Type 0} {s : Spelling A} → IsSpelling s → s.read (codes "-" ∷ []) ≡ None
    → IsSpelling (or_lone_dash s)
or_lone_dash_is h other = record {
  again = lone_dash_again h other;
  only = λ fs o e small. if_dash_only h fs _ o refl e small;
  plain = lone_dash_plain h;
}
