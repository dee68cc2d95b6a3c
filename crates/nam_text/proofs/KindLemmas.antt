-- Lines of kinds that keep both laws.
use Rattle.std.proofs.Common.{◌≡◌, ℕ, List, [], ◌∷◌, ◌++◌, append_assoc, Some, refl, sym, ap, ◌∙◌, subst}
use Rattle.std.specs.List.{AllByRecursion, join_with_byte}
use Rattle.std.proofs.lemmas.List.{append-nil}
use Rattle.std.specs.Str.{bytes_eq}
use Rattle.std.proofs.lemmas.Option.{same_Some}
use Rattle.std.proofs.lemmas.Slice.Eq.{bytes_eq-Decides}
use Rattle.nam_text.specs.Spelling.{IsPlain, IsSpelling}
use Rattle.nam_text.specs.Kinds.{LineKind, Spelt, fields, behind_spaces, line_at, Reader, no_line, or, first_word}
use Rattle.nam_text.specs.Kinds.{by_word, IsKind}
use Rattle.nam_text.proofs.Takes.{bind_then, if_then}

-- what is read is spelt so, where its numbers are words
abbrev pub Takes : {L : Type 0} → (L → Spelt) → Reader L → Type 0
Takes {L} spelt read =
    (w : List ℕ) (fs : List (List ℕ)) (l : L) → read w fs ≡ Some l → (spelt l).IsSmall → (spelt l).Fits ×
    (w ∷ fs ≡ fields (spelt l))

pub none_takes : {L : Type 0} (spelt : L → Spelt) → Takes spelt no_line
none_takes spelt w fs l e small = absurd cc

line_takes : {L : Type 0} {spelt : L → Spelt} {k : LineKind L} → IsKind spelt k
    → (w : List ℕ) (fs : List (List ℕ)) (l : L) → w ≡ k.word → line_at k fs ≡ Some l → (spelt l).IsSmall
    → (spelt l).Fits × (w ∷ fs ≡ fields (spelt l))
line_takes {L} {spelt} {k} h w fs l same e small =
    bind_then (k.rest.read fs) _ l e (λ x ex e1.
    subst (λ (m : L). (spelt m).IsSmall → (spelt m).Fits × (w ∷ fs ≡ fields (spelt m))) (same_Some _ _ e1)
    (subst (λ (p : Spelt). p.IsSmall → p.Fits × (w ∷ fs ≡ fields p)) (sym (h.is x))
    (λ few.
    let r = h.rest.only fs x ex few in
    (r.0, ap (λ (v : List ℕ). v ∷ fs) same ∙ ap (λ (t : List (List ℕ)). k.word ∷ t) r.1))) small)

pub or_takes : {L : Type 0} {spelt : L → Spelt} {k : LineKind L} {others : Reader L} → IsKind spelt k
    → Takes spelt others → Takes spelt (or k others)
or_takes {L} {spelt} {k} {others} h more w fs l e small =
    if_then (bytes_eq w k.word) _ _ _ e
    (λ same e1. line_takes h w fs l ((bytes_eq-Decides w k.word).0 same) e1 small)
    (λ _ e1. more w fs l e1 small)

-- what is spelt so is read
pub line_again : {L : Type 0} {spelt : L → Spelt} {k : LineKind L} → IsKind spelt k → (x : k.Value) → k.rest.Fits x
    → line_at k (k.rest.fields x) ≡ Some (k.line x)
line_again h x fits = rw (h.rest.again x fits) refl

pub line_plain : {L : Type 0} {spelt : L → Spelt} {k : LineKind L} → IsKind spelt k → (x : k.Value) → k.rest.Fits x
    → AllByRecursion IsPlain (k.word ∷ k.rest.fields x)
line_plain h x fits = (h.word, h.rest.plain x fits)

first_takes : {L : Type 0} (spelt : L → Spelt) (read : Reader L) → Takes spelt read → (fs : List (List ℕ)) (l : L)
    → first_word read fs ≡ Some l → (spelt l).IsSmall → (spelt l).Fits × (fs ≡ fields (spelt l))
first_takes spelt read takes [] l e small = absurd cc
first_takes spelt read takes (w ∷ fs) l e small = takes w fs l e small

-- what is spelt by its first word
pub by_word_is : {L : Type 0} (spelt : L → Spelt) (read : Reader L) → Takes spelt read
    → ((l : L) → (spelt l).Fits → read (spelt l).word (spelt l).rest ≡ Some l)
    → ((l : L) → (spelt l).Fits → AllByRecursion IsPlain (fields (spelt l))) → IsSpelling (by_word spelt read)
by_word_is spelt read takes again plain = record { again = again; only = first_takes spelt read takes; plain = plain }

-- fields and those after them, each behind a space
pub behind_both : (xs ys : List (List ℕ)) → behind_spaces (xs ++ ys) ≡ behind_spaces xs ++ behind_spaces ys
behind_both [] ys = refl
behind_both (x ∷ xs) ys =
    ap (λ (t : List ℕ). 32 ∷ (x ++ t)) (behind_both xs ys)
    ∙ sym (ap (λ (t : List ℕ). 32 ∷ t) (append_assoc x (behind_spaces xs) (behind_spaces ys)))

-- fields parted by spaces are those behind spaces, but for the first
pub join_is : (f : List ℕ) (fs : List (List ℕ)) → join_with_byte 32 (f ∷ fs) ≡ f ++ behind_spaces fs
join_is f [] = sym (append-nil f)
join_is f (g ∷ fs) = ap (λ (t : List ℕ). f ++ 32 ∷ t) (join_is g fs)
