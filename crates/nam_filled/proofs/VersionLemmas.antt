-- Versions by their stamps, and what the header of an old one says.
use Rattle.std.proofs.Common.{List, Some, [], ap, false, refl, slice_get, suc, sym, true, zero, ℕ}
use Rattle.std.proofs.Common.{◌&&◌, ◌∙◌, ◌∷◌, ◌≡◌}
use Rattle.std.specs.Prelude.{Bool, ◌==◌}
use Rattle.std.proofs.lemmas.Bool.{and_from, and_parts, cond_both, eq-eqb, eqb-true, true≢false}
use Rattle.std.proofs.lemmas.Option.{none-some, same_Some}
use Rattle.si_model.specs.declared.log.Stamp.{Stamp}
use Rattle.nam_catalog.specs.declared.form.Form.{Form}
use Rattle.nam_ghost.proofs.ValueLemmas.{old_says}
use Rattle.nam_ghost.specs.Versions.{Version, number_by, old_word}
use Rattle.nam_header.specs.Header.{header_of}
use Rattle.nam_header.specs.Stamp.{FitsStamp, stamp_in}
use Rattle.nam_header.specs.declared.header.Header.{Header}

pub header_stamp : (form : Form) (version : Version) (header : ℕ) → FitsStamp form version.stamp
    → header ≡ old_word form false version → version.stamp ≡ stamp_in form header
header_stamp form version header fits is =
    sym (ap (λ (h : Header). h.stamp) (ap (header_of form) is ∙ old_says form false version fits))

abbrev same_stamps : Stamp → Stamp → Bool
same_stamps a b = (a.thread == b.thread) && (a.number == b.number)

stamps_equal : (a b : Stamp) → a ≡ b → same_stamps a b ≡ true
stamps_equal a b same =
    and_from (a.thread == b.thread) (a.number == b.number)
    (eq-eqb a.thread b.thread (ap (λ (s : Stamp). s.thread) same))
    (eq-eqb a.number b.number (ap (λ (s : Stamp). s.number) same))

-- where a version bears the stamp, the number that the stamp gives is that of one that bears it
pub number_found : (vs : List Version) (stamp : Stamp) (number : ℕ) (version : Version)
    → slice_get vs number ≡ Some version → version.stamp ≡ stamp
    → (found : Version) × (slice_get vs (number_by vs stamp) ≡ Some found) × (found.stamp ≡ stamp)
unfolding number_by
number_found [] stamp number version is same = absurd (none-some version is)
number_found (v ∷ vs) stamp number version is same =
    cond_both (same_stamps v.stamp stamp) 0 (suc (number_by vs stamp))
    (λ n. (found : Version) × (slice_get (v ∷ vs) n ≡ Some found) × (found.stamp ≡ stamp))
    (λ e. let parts = and_parts (v.stamp.thread == stamp.thread) (v.stamp.number == stamp.number) e in
    let thread = eqb-true v.stamp.thread stamp.thread parts.0 in
    let at = eqb-true v.stamp.number stamp.number parts.1 in
    (v, refl, λ k. record { thread = thread k; number = at k }))
    (λ e. rest (λ n at. number_found vs stamp n version at same) number is e)
  where
    rest : ((n : ℕ) → slice_get vs n ≡ Some version
        → (found : Version) × (slice_get vs (number_by vs stamp) ≡ Some found) × (found.stamp ≡ stamp))
        → (n : ℕ) → slice_get (v ∷ vs) n ≡ Some version → same_stamps v.stamp stamp ≡ false
        → (found : Version) × (slice_get vs (number_by vs stamp) ≡ Some found) × (found.stamp ≡ stamp)
    rest again zero is apart =
        let here = ap (λ (u : Version). u.stamp) (same_Some v version is) ∙ same in
        absurd (true≢false (sym (stamps_equal v.stamp stamp here) ∙ apart))
    rest again (suc n) is apart = again n is
