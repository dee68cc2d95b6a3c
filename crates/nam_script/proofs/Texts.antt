-- What is read is the text of the draft, with its stints in groups.
use Rattle.std.proofs.Common.{◌≡◌, ℕ, ◌+◌, true, ◌&&◌, eqb, List, [], ◌∷◌, ◌++◌, length, Option, Some, None, Result}
use Rattle.std.proofs.Common.{Ok, Err, refl, sym, ap, ◌∙◌, subst, append_assoc, arith, length-append}
use Rattle.std.specs.List.{flat_map, join_with_byte}
use Rattle.std.proofs.lemmas.Bool.{and_parts, eqb-true}
use Rattle.std.proofs.lemmas.List.{append-nil, nil_from_length}
use Rattle.std.proofs.lemmas.List.Splits.{join_with_byte-slice_split}
use Rattle.std.proofs.lemmas.Grind.{flat_map-append}
use Rattle.nam_text.specs.Fields.{fields_of, lines_of}
use Rattle.nam_text.proofs.Takes.{if_then}
use Rattle.nam_script.specs.declared.refusal.Kind.{Kind}
use Rattle.nam_script.specs.Line.{Line}
use Rattle.nam_script.specs.declared.script.Stint.{Stint}
use Rattle.nam_script.specs.declared.draft.Draft.{Draft}
use Rattle.nam_script.specs.Stages.{can_end}
use Rattle.nam_script.specs.Lines.{spelt_line, line_of}
use Rattle.nam_script.specs.Admit.{start, admit, admit_spelt, admit_text}
use Rattle.nam_script.specs.Parse.{Fault, at_line, draft_from, draft_of}
use Rattle.nam_text.specs.Kinds.{fields, text as spelt_text}
use Rattle.nam_text.proofs.KindLemmas.{join_is}
use Rattle.nam_script.specs.Spelling.{line_text, text_of, lines_of_draft}
use Rattle.nam_script.proofs.LineLaws.{line_takes}
use Rattle.nam_script.proofs.Kept.{bare_kept}
use Rattle.nam_script.proofs.Steps.{AreGroups, Stands}
use Rattle.nam_script.proofs.Admitted.{admitted}

spelt_then : {P : Type 0} (d : Draft) (o : Option Line) (e : Draft) → admit_spelt d o ≡ Ok e
    → ((l : Line) → o ≡ Some l → admit d l ≡ Ok e → P) → P
spelt_then d None e given p = absurd cc
spelt_then d (Some l) e given p = p l refl given

at_then : {P : Type 0} (n : ℕ) (r : Result Draft Kind) (f : Draft → Result Draft Fault) (e : Draft)
    → at_line n r f ≡ Ok e → ((c : Draft) → r ≡ Ok c → f c ≡ Ok e → P) → P
at_then n (Ok c) f e given p = p c refl given
at_then n (Err k) f e given p = absurd cc

-- after a line more
pub record Step (d : Draft) (text : List ℕ) (e : Draft) (gs : List (List Stint)) : Type 0 where
  pub groups : List (List Stint)
  pub are : AreGroups groups e.body.stints
  pub told : text_of (lines_of_draft e groups) ≡ text_of (lines_of_draft d gs) ++ (text ++ 10 ∷ [])
  pub count : length (lines_of_draft e groups) ≡ length (lines_of_draft d gs) + 1
  pub stands : Stands e

pub text_step : (d : Draft) (text : List ℕ) (e : Draft) (gs : List (List Stint)) → Stands d → AreGroups gs d.body.stints
    → admit_text d text ≡ Ok e → Step d text e gs
unfolding admit_text
text_step d text e gs s a given =
    spelt_then d (line_of (fields_of text)) e given (λ l el ea.
    let f = admitted d l e s (λ small. (line_takes (fields_of text) l el small).0) ea in
    let same : fields_of text ≡ fields (spelt_line l) = (line_takes (fields_of text) l el f.small).1 in
    let k = spelt_line l in
    let spelt : spelt_text k ≡ text = sym (join_is k.word k.rest) ∙ ap (join_with_byte 32) (sym same)
    ∙ join_with_byte-slice_split 32 text in
    let t = f.told gs a in
    record {
      groups = t.groups;
      are = t.are;
      told = ap (flat_map line_text) t.lines ∙ flat_map-append line_text (lines_of_draft d gs) (l ∷ [])
          ∙ ap (λ (x : List ℕ). text_of (lines_of_draft d gs) ++ x)
          (append-nil (line_text l) ∙ ap (λ (y : List ℕ). y ++ 10 ∷ []) spelt);
      count = ap length t.lines ∙ length-append (lines_of_draft d gs) (l ∷ []);
      stands = f.stands;
    })

same_draft : (x y : Draft) → ◌≡◌ {A = Result Draft Fault} (Ok x) (Ok y) → x ≡ y
same_draft x y e = cc

-- after all lines
pub record Taken (e : Draft) (text : List ℕ) : Type 0 where
  pub groups : List (List Stint)
  pub are : AreGroups groups e.body.stints
  pub told : text ≡ text_of (lines_of_draft e groups)
  pub stands : Stands e
  pub ends : can_end e.stage ≡ true

draft_takes : (n : ℕ) (d : Draft) (texts : List (List ℕ)) (e : Draft) (gs : List (List Stint)) → Stands d
    → AreGroups gs d.body.stints → draft_from n d texts ≡ Ok e
    → Taken e (text_of (lines_of_draft d gs) ++ join_with_byte 10 texts)
unfolding draft_from
draft_takes n d [] e gs s a given = absurd cc
draft_takes n d (text ∷ []) e gs s a given =
    if_then (eqb (length text) 0 && can_end d.stage) _ _ _ given
    (λ t e1.
    let p = and_parts _ _ t in
    let empty : text ≡ [] = nil_from_length text (eqb-true _ _ p.0) in
    subst (λ (x : Draft). Taken x (text_of (lines_of_draft d gs) ++ text)) (same_draft d e e1)
    (record {
      groups = gs;
      are = a;
      told = ap (λ (x : List ℕ). text_of (lines_of_draft d gs) ++ x) empty ∙ append-nil
          (text_of (lines_of_draft d gs));
      stands = s;
      ends = p.1;
    }))
    (λ _ e1. absurd cc)
draft_takes n d (text ∷ next ∷ texts) e gs s a given =
    at_then n (admit_text d text) _ e given (λ c ec e1.
    let t = text_step d text c gs s a ec in
    let r = draft_takes (n + 1) c (next ∷ texts) e t.groups t.stands t.are e1 in
    let same = ap (λ (x : List ℕ). x ++ join_with_byte 10 (next ∷ texts)) t.told
    ∙ append_assoc (text_of (lines_of_draft d gs)) (text ++ 10 ∷ []) (join_with_byte 10 (next ∷ texts))
    ∙ ap (λ (x : List ℕ). text_of (lines_of_draft d gs) ++ x)
    (append_assoc text (10 ∷ []) (join_with_byte 10 (next ∷ texts))) in
    subst (λ (x : List ℕ). Taken e x) same r)

pub start_stands : Stands start
start_stands =
    record {
      order = (refl, refl);
      kept = bare_kept start.stage start.shape (omega arith) tt tt refl refl;
      tries =
          (omega arith, omega arith);
    }

pub draft_is_taken : (text : List ℕ) (e : Draft) → draft_of text ≡ Ok e → Taken e text
unfolding draft_of
draft_is_taken text e given =
    subst (λ (x : List ℕ). Taken e x) (join_with_byte-slice_split 10 text)
    (draft_takes 1 start (lines_of text) e [] start_stands (refl, tt) given)
