-- Lines that lead from one draft to another, and what passes each test of a line.
use Rattle.std.proofs.Common.{◌≡◌, ℕ, ◌+◌, ◌<◌, ◌≤◌, Bool, true, false, cond, ltb, List, [], ◌∷◌, ◌++◌}
use Rattle.std.proofs.Common.{map, length, Option, Some, None, Result, Ok, Err, refl, sym, ap, ◌∙◌, subst, arith}
use Rattle.std.proofs.Common.{append_assoc, length-append}
use Rattle.std.specs.List.{AllByRecursion, flat_map}
use Rattle.std.proofs.lemmas.Bool.{le-leb, lt-ltb}
use Rattle.std.proofs.lemmas.List.{append-nil}
use Rattle.si_model.specs.declared.row.Key.{Key}
use Rattle.si_model.specs.declared.op.Op.{Op}
use Rattle.si_model.specs.Rows.{has_key}
use Rattle.si_model.specs.Evaluation.{with_guard, keys_from}
use Rattle.si_model.proofs.WriteLemmas.{guarded_has, guarded_new}
use Rattle.nam_script.specs.declared.refusal.Kind.{Kind}
use Rattle.nam_script.specs.declared.refusal.Kind.TheVariants as kind
use Rattle.nam_script.specs.Line.{Line}
use Rattle.nam_script.specs.declared.script.Stint.{Stint}
use Rattle.nam_script.specs.declared.draft.Draft.{Draft}
use Rattle.nam_script.specs.Checks.{◌>>=◌, must, within, all_small, stint_within, all_stints, total_within, keys_with}
use Rattle.nam_script.specs.Admit.{admit}
use Rattle.nam_script.specs.Limits.{StintFits}
use Rattle.nam_script.specs.Spelling.{IsGood, admit_all, somes, spelt}
use Rattle.nam_script.proofs.Kept.{all_both, with_key}
use Rattle.nam_script.proofs.Again.{all_then, done}

-- the lines are spelt right, and each is admitted after those before it: they make a draft of another
pub record Leads (d : Draft) (ls : List Line) (e : Draft) : Type 0 where
  pub good : AllByRecursion IsGood ls
  pub admits : admit_all d ls ≡ Ok e

admits_none : (d : Draft) → admit_all d [] ≡ Ok d
unfolding admit_all
admits_none d = refl

admits_next : (d c e : Draft) (l : Line) (ls : List Line) → admit d l ≡ Ok c → admit_all c ls ≡ Ok e
    → admit_all d (l ∷ ls) ≡ Ok e
unfolding admit_all
admits_next d c e l ls here after = ap (λ (r : Result Draft Kind). r >>= (λ x. admit_all x ls)) here ∙ after

admits_both : (d c e : Draft) (ks ls : List Line) → admit_all d ks ≡ Ok c → admit_all c ls ≡ Ok e
    → admit_all d (ks ++ ls) ≡ Ok e
admits_both d c e [] ls here after = subst (λ (x : Draft). admit_all x ls ≡ Ok e) (sym (done d c here)) after
admits_both d c e (k ∷ ks) ls here after =
    all_then d k ks c (admit_all d (k ∷ (ks ++ ls)) ≡ Ok e) here
    (λ m em rest. admits_next d m e k (ks ++ ls) em (admits_both m c e ks ls rest after))

pub leads_none : (d : Draft) → Leads d [] d
leads_none d = record { good = tt; admits = admits_none d }

pub leads_next : (d c e : Draft) (l : Line) (ls : List Line) → IsGood l → admit d l ≡ Ok c → Leads c ls e
    → Leads d (l ∷ ls) e
leads_next d c e l ls good here after =
    record { good = (good, after.good); admits = admits_next d c e l ls here after.admits }

pub leads_both : (d c e : Draft) (ks ls : List Line) → Leads d ks c → Leads c ls e → Leads d (ks ++ ls) e
leads_both d c e ks ls here after =
    record {
      good = all_both IsGood ks ls here.good after.good;
      admits = admits_both d c e ks ls here.admits after.admits;
    }

module _ {A : Type 0} (lines : A → List Line) (draft : List A → Draft) (all : List A)
    (step : (before : List A) (x : A) (rest : List A) → before ++ x ∷ rest ≡ all
    → Leads (draft before) (lines x) (draft (before ++ x ∷ []))) where
  each_from : (before rest : List A) → before ++ rest ≡ all → Leads (draft before) (flat_map lines rest) (draft all)
  each_from before [] is =
      subst (λ (xs : List A). Leads (draft before) [] (draft xs)) (sym (append-nil before) ∙ is)
      (leads_none (draft before))
  each_from before (x ∷ rest) is =
      leads_both (draft before) (draft (before ++ x ∷ [])) (draft all) (lines x) (flat_map lines rest)
      (step before x rest is) (each_from (before ++ x ∷ []) rest (append_assoc before (x ∷ []) rest ∙ is))

  -- the lines of each, one after the other
  pub each_leads : Leads (draft []) (flat_map lines all) (draft all)
  each_leads = each_from [] all refl

-- the line is spelt right and admitted
abbrev pub Leads1 : Draft → Line → Draft → Type 0
Leads1 d l e = IsGood l × (admit d l ≡ Ok e)

module _ {A : Type 0} (line : A → Line) (draft : List A → Draft) (all : List A)
    (step : (before : List A) (x : A) (rest : List A) → before ++ x ∷ rest ≡ all
    → Leads1 (draft before) (line x) (draft (before ++ x ∷ []))) where
  line_from : (before rest : List A) → before ++ rest ≡ all → Leads (draft before) (map line rest) (draft all)
  line_from before [] is =
      subst (λ (xs : List A). Leads (draft before) [] (draft xs)) (sym (append-nil before) ∙ is)
      (leads_none (draft before))
  line_from before (x ∷ rest) is =
      let here = step before x rest is in
      leads_next (draft before) (draft (before ++ x ∷ [])) (draft all) (line x) (map line rest) here.0 here.1
      (line_from (before ++ x ∷ []) rest (append_assoc before (x ∷ []) rest ∙ is))

  -- a line for each
  pub each_line_leads : Leads (draft []) (map line all) (draft all)
  each_line_leads = line_from [] all refl

-- ---- tests that are passed

pub ok_goes : {A B : Type 0} (r : Result A Kind) (f : A → Result B Kind) (x : A) (y : Result B Kind) → r ≡ Ok x
    → f x ≡ y → (r >>= f) ≡ y
ok_goes r f x y is goes = ap (λ (z : Result _ Kind). z >>= f) is ∙ goes

pub must_goes : {B : Type 0} (b : Bool) (k : Kind) (x y : Result B Kind) → b ≡ true → x ≡ y
    → (must b k >>= (λ _. x)) ≡ y
must_goes true k x y is goes = goes
must_goes false k x y is goes = absurd cc

pub within_goes : (low high n : ℕ) → low ≤ n → n ≤ high → within low high (Some n) ≡ Ok n
within_goes low high n least most = rw (le-leb low n least, le-leb n high most) refl

pub total_goes : (a b most : ℕ) → a + b ≤ most → total_within a b most ≡ Ok (a + b)
total_goes a b most le = rw (le-leb (a + b) most le) refl

pub all_small_goes : (vs : List ℕ) → all_small (somes vs) ≡ Ok vs
unfolding all_small
all_small_goes [] = refl
all_small_goes (v ∷ vs) = ok_goes (all_small (somes vs)) _ vs _ (all_small_goes vs) refl

stint_goes : (workers : ℕ) (s : Stint) → StintFits workers s → stint_within workers (spelt s) ≡ Ok s
stint_goes workers s fit =
    ok_goes (within 1 workers (Some s.worker)) _ s.worker _ (within_goes 1 workers s.worker fit.0 fit.1)
    (ok_goes (within 1 1000000 (Some s.steps)) _ s.steps _ (within_goes 1 1000000 s.steps fit.2 fit.3) refl)

pub all_stints_go : (workers : ℕ) (ss : List Stint) → AllByRecursion (StintFits workers) ss
    → all_stints workers (map spelt ss) ≡ Ok ss
unfolding all_stints
all_stints_go workers [] fit = refl
all_stints_go workers (s ∷ ss) fit =
    ok_goes (stint_within workers (spelt s)) _ s _ (stint_goes workers s fit.0)
    (ok_goes (all_stints workers (map spelt ss)) _ ss _ (all_stints_go workers ss fit.1) refl)

-- ---- the keys that a transaction writes or guards

guarded_goes : (b : Bool) (ks : List Key) (key : Key) → has_key ks key ≡ b → length (with_guard ks key) ≤ 16
    → cond b (Ok ks) (cond (ltb (length ks) 16) (Ok (ks ++ key ∷ [])) (Err kind.Size)) ≡ Ok (with_guard ks key)
guarded_goes true ks key has few = ap (λ (x : List Key). Ok x) (sym (guarded_has ks key has))
guarded_goes false ks key has few =
    let new = guarded_new ks key has in
    let room : length ks < 16 = omega (arith, few, ap length new, length-append ks (key ∷ [])) in
    rw (lt-ltb (length ks) 16 room) (ap (λ (x : List Key). Ok x) (sym new))

pub keys_go : (ks : List Key) (o : Option Key) → length (with_key ks o) ≤ 16 → keys_with ks o ≡ Ok (with_key ks o)
keys_go ks None few = refl
keys_go ks (Some key) few = guarded_goes (has_key ks key) ks key refl few

guarded_grows : (b : Bool) (ks : List Key) (key : Key) → has_key ks key ≡ b → length ks ≤ length (with_guard ks key)
guarded_grows true ks key has = omega (arith, ap length (guarded_has ks key has))
guarded_grows false ks key has = omega (arith, ap length (guarded_new ks key has), length-append ks (key ∷ []))

key_grows : (ks : List Key) (o : Option Key) → length ks ≤ length (with_key ks o)
key_grows ks None = omega arith
key_grows ks (Some key) = guarded_grows (has_key ks key) ks key refl

pub keys_grow : (f : Op → Option Key) (ks : List Key) (ops : List Op) → length ks ≤ length (keys_from f ks ops)
keys_grow f ks [] = omega arith
keys_grow f ks (o ∷ ops) = omega (arith, key_grows ks (f o), keys_grow f (with_key ks (f o)) ops)
