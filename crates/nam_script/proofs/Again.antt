-- What is spelt so is read.
use Rattle.std.proofs.Common.{◌≡◌, ℕ, ◌+◌, true, false, eqb, List, [], ◌∷◌, Result, Ok, refl, sym, ap, ◌∙◌, subst}
use Rattle.std.proofs.Common.{append_assoc}
use Rattle.std.specs.List.{AllByRecursion}
use Rattle.std.proofs.lemmas.List.Elements.{All-from_recursion}
use Rattle.std.proofs.lemmas.List.Splits.{slice_split_at}
use Rattle.nam_text.specs.Fields.{fields_of, lines_of}
use Rattle.nam_text.specs.Kinds.{fields, text}
use Rattle.nam_text.proofs.KindLemmas.{join_is}
use Rattle.nam_text.proofs.Again.{no_newline, split_again}
use Rattle.nam_script.specs.Line.{Line}
use Rattle.nam_script.specs.declared.draft.Draft.{Draft}
use Rattle.nam_script.specs.declared.refusal.ParseEnd.{ParseEnd}
use Rattle.nam_script.specs.declared.script.Script.{Script}
use Rattle.nam_script.specs.Stages.{can_end}
use Rattle.nam_script.specs.Lines.{spelt_line}
use Rattle.nam_script.specs.Admit.{start, admit, admit_text}
use Rattle.nam_script.specs.Parse.{draft_from, draft_of, whole_script, script_if, script_of, Gives}
use Rattle.nam_script.specs.Spelling.{text_of, IsGood, admit_all}
use Rattle.nam_script.proofs.Chains.{ok_then, same_Ok}
use Rattle.nam_script.proofs.LineTurns.{goes_on}
use Rattle.nam_script.proofs.LineLaws.{IsReadable, readable}

all_readable : (ls : List Line) → AllByRecursion IsGood ls → AllByRecursion IsReadable ls
all_readable [] h = tt
all_readable (l ∷ ls) h = (readable l h.0, all_readable ls h.1)

admits_again : (d : Draft) (l : Line) → IsReadable l → admit_text d (text (spelt_line l)) ≡ admit d l
unfolding admit_text
admits_again d l s =
    let k = spelt_line l in
    let split : fields_of (text k) ≡ fields k = ap fields_of (sym (join_is k.word k.rest))
    ∙ split_again k.word k.rest s.plain.0 s.plain.1 in
    rw (split, s.again) refl

first_again : (l : Line) (ls : List Line) → IsReadable l
    → lines_of (text_of (l ∷ ls)) ≡ text (spelt_line l) ∷ lines_of (text_of ls)
first_again l ls s =
    let k = spelt_line l in
    let clean = subst (AllByRecursion (λ b. eqb b 10 ≡ false)) (join_is k.word k.rest) (no_newline (fields k) s.plain)
    in
    ap lines_of (append_assoc (text k) (10 ∷ []) (text_of ls))
    ∙ slice_split_at (λ b. eqb b 10) (text k) 10 (text_of ls) (All-from_recursion _ _ clean) refl

pub all_then : (d : Draft) (l : Line) (ls : List Line) (e : Draft) (P : Type 0) → admit_all d (l ∷ ls) ≡ Ok e
    → ((c : Draft) → admit d l ≡ Ok c → admit_all c ls ≡ Ok e → P) → P
unfolding admit_all
all_then d l ls e P given p = ok_then (admit d l) _ e given p

pub done : (d e : Draft) → admit_all d [] ≡ Ok e → d ≡ e
unfolding admit_all
done d e given = same_Ok d e given

draft_again : (n : ℕ) (d : Draft) (ls : List Line) (e : Draft) → AllByRecursion IsReadable ls → admit_all d ls ≡ Ok e
    → can_end e.stage ≡ true → draft_from n d (lines_of (text_of ls)) ≡ Ok e
unfolding draft_from
draft_again n d [] e spelt given ends =
    let is = done d e given in
    let here : can_end d.stage ≡ true = subst (λ (x : Draft). can_end x.stage ≡ true) (sym is) ends in
    rw here (ap (λ (x : Draft). Ok x) is)
draft_again n d (l ∷ ls) e spelt given ends =
    all_then d l ls e _ given (λ c ec e1.
    ap (draft_from n d) (first_again l ls spelt.0)
    ∙ goes_on n d c (text (spelt_line l)) (text_of ls) (admits_again d l spelt.0 ∙ ec)
    ∙ draft_again (n + 1) c ls e spelt.1 e1 ends)

-- a text of lines that may come in this order, where a script may end, is read
only_law : (ls : List Line) (e : Draft) → AllByRecursion IsReadable ls → admit_all start ls ≡ Ok e
    → can_end e.stage ≡ true → draft_of (text_of ls) ≡ Ok e
unfolding draft_of
only_law ls e spelt given ends = draft_again 1 start ls e spelt given ends

pub again : (text : List ℕ) (r : Result Script ParseEnd) → Gives r (script_of text) → (ls : List Line) (e : Draft)
    → AllByRecursion IsGood ls → admit_all start ls ≡ Ok e → can_end e.stage ≡ true → text ≡ text_of ls
    → Gives r (Ok (whole_script e))
again text r given ls e good admits ends is =
    let read : draft_of text ≡ Ok e = ap draft_of is ∙ only_law ls e (all_readable ls good) admits ends in
    subst (Gives r) (ap script_if read) given
