-- The values of a line within their limits, one after the other.
use Rattle.std.proofs.Common.{◌≡◌, ℕ, suc, ◌+◌, ◌<◌, ◌≤◌, List, [], ◌∷◌, ◌++◌, length, drop, get_or, Option, Some}
use Rattle.std.proofs.Common.{None, Result, Ok, Err, refl, sym, ap, ◌∙◌, append_assoc, add-one}
use Rattle.std.proofs.lemmas.List.{append-nil, drop_all}
use Rattle.std.proofs.Math.Seq.{drop-cons}
use Rattle.nam_script.specs.declared.refusal.Kind.{Kind}
use Rattle.nam_script.specs.declared.refusal.Kind.TheVariants as kind
use Rattle.nam_script.specs.Checks.{◌>>=◌, stint_within, all_small, all_stints}
use Rattle.nam_script.specs.declared.script.Stint.{Stint}
use Rattle.nam_script.specs.declared.line.SpeltStint.{SpeltStint}

abbrev pub after : List ℕ → Result (List ℕ) Kind → Result (List ℕ) Kind
after front read = read >>= (λ ms. Ok (front ++ ms))

regroup : (front : List ℕ) (m : ℕ) (read : Result (List ℕ) Kind)
    → after (front ++ m ∷ []) read ≡ after front (read >>= (λ ms. Ok (m ∷ ms)))
regroup front m (Err k) = refl
regroup front m (Ok ms) = ap (λ (x : List ℕ). Ok x) (append_assoc front (m ∷ []) ms)

pub word_more : (front : List ℕ) (ns : List (Option ℕ)) (i : ℕ) (m : ℕ) (all : Result (List ℕ) Kind)
    → drop i ns ≡ Some m ∷ drop (suc i) ns → after front (all_small (drop i ns)) ≡ all
    → after (front ++ m ∷ []) (all_small (drop (i + 1) ns)) ≡ all
unfolding all_small
word_more front ns i m all is so_far =
    let opened : all_small (drop i ns) ≡ (all_small (drop (suc i) ns) >>= (λ ms. Ok (m ∷ ms))) = rw is refl in
    ap (λ (n : ℕ). after (front ++ m ∷ []) (all_small (drop n ns))) (add-one i)
    ∙ regroup front m (all_small (drop (suc i) ns)) ∙ ap (after front) (sym opened) ∙ so_far

pub word_fails : (front : List ℕ) (ns : List (Option ℕ)) (i : ℕ) (all : Result (List ℕ) Kind)
    → drop i ns ≡ None ∷ drop (suc i) ns → after front (all_small (drop i ns)) ≡ all → all ≡ Err kind.Range
unfolding all_small
word_fails front ns i all is so_far =
    let opened : all_small (drop i ns) ≡ Err kind.Range = rw is refl in
    sym so_far ∙ ap (after front) opened

pub words_end : (front : List ℕ) (ns : List (Option ℕ)) (i : ℕ) (all : Result (List ℕ) Kind) → length ns ≤ i
    → after front (all_small (drop i ns)) ≡ all → Ok front ≡ all
unfolding all_small
words_end front ns i all past so_far =
    let opened : all_small (drop i ns) ≡ Ok [] = rw (drop_all i ns past) refl in
    ap (λ (x : List ℕ). Ok x) (sym (append-nil front)) ∙ ap (after front) (sym opened) ∙ so_far

pub at_front : (ns : List (Option ℕ)) (i : ℕ) (d x : Option ℕ) → i < length ns → get_or ns i d ≡ x
    → drop i ns ≡ x ∷ drop (suc i) ns
at_front ns i d x lt e = rw (drop-cons ns i d, e) refl

abbrev pub after_stints : List Stint → Result (List Stint) Kind → Result (List Stint) Kind
after_stints front read = read >>= (λ ms. Ok (front ++ ms))

regroup_stints : (front : List Stint) (m : Stint) (read : Result (List Stint) Kind)
    → after_stints (front ++ m ∷ []) read ≡ after_stints front (read >>= (λ ms. Ok (m ∷ ms)))
regroup_stints front m (Err k) = refl
regroup_stints front m (Ok ms) = ap (λ (x : List Stint). Ok x) (append_assoc front (m ∷ []) ms)

pub stint_more : (n : ℕ) (front : List Stint) (ss : List SpeltStint) (i : ℕ) (s : SpeltStint) (m : Stint)
    (all : Result (List Stint) Kind)
    → drop i ss ≡ s ∷ drop (suc i) ss → stint_within n s ≡ Ok m → after_stints front (all_stints n (drop i ss)) ≡ all
    → after_stints (front ++ m ∷ []) (all_stints n (drop (i + 1) ss)) ≡ all
unfolding all_stints
stint_more n front ss i s m all is within so_far =
    let opened : all_stints n (drop i ss) ≡ (all_stints n (drop (suc i) ss) >>= (λ ms. Ok (m ∷ ms))) = rw is
    (ap (λ (r : Result Stint Kind). r >>= (λ x. all_stints n (drop (suc i) ss) >>= (λ ms. Ok (x ∷ ms)))) within) in
    ap (λ (k : ℕ). after_stints (front ++ m ∷ []) (all_stints n (drop k ss))) (add-one i)
    ∙ regroup_stints front m (all_stints n (drop (suc i) ss)) ∙ ap (after_stints front) (sym opened) ∙ so_far

pub stint_fails : (n : ℕ) (front : List Stint) (ss : List SpeltStint) (i : ℕ) (s : SpeltStint) (k : Kind)
    (all : Result (List Stint) Kind)
    → drop i ss ≡ s ∷ drop (suc i) ss → stint_within n s ≡ Err k → after_stints front (all_stints n (drop i ss)) ≡ all
    → all ≡ Err k
unfolding all_stints
stint_fails n front ss i s k all is within so_far =
    let opened : all_stints n (drop i ss) ≡ Err k = rw is
    (ap (λ (r : Result Stint Kind). r >>= (λ x. all_stints n (drop (suc i) ss) >>= (λ ms. Ok (x ∷ ms)))) within) in
    sym so_far ∙ ap (after_stints front) opened

pub stints_end : (n : ℕ) (front : List Stint) (ss : List SpeltStint) (i : ℕ) (all : Result (List Stint) Kind)
    → length ss ≤ i → after_stints front (all_stints n (drop i ss)) ≡ all → Ok front ≡ all
unfolding all_stints
stints_end n front ss i all past so_far =
    let opened : all_stints n (drop i ss) ≡ Ok [] = rw (drop_all i ss past) refl in
    ap (λ (x : List Stint). Ok x) (sym (append-nil front)) ∙ ap (after_stints front) (sym opened) ∙ so_far

pub stint_at_front : (ss : List SpeltStint) (i : ℕ) (x : SpeltStint) → i < length ss → x ≡ get_or ss i x
    → drop i ss ≡ x ∷ drop (suc i) ss
stint_at_front ss i x lt e = drop-cons ss i x lt ∙ ap (λ (y : SpeltStint). y ∷ drop (suc i) ss) (sym e)
