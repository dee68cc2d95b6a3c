-- Values, headers and stamps: what a value's words were copied to, and what the header of an old version says.
use Rattle.std.proofs.Common.{List, None, Option, Some, [], ap, arith, length, refl, sym, true, ℕ, ⊎_elim, ◌++◌, ◌<◌}
use Rattle.std.proofs.Common.{◌∙◌, ◌∷◌, ◌≡◌, ◌≤◌}
use Rattle.std.proofs.lemmas.Bool.{cases_lt}
use Rattle.std.proofs.lemmas.List.{get_or_append_left, get_or_push, length_push}
use Rattle.std.specs.Prelude.{Bool, false}
use Rattle.nam_catalog.specs.declared.form.Form.{Form}
use Rattle.nam_catalog.specs.declared.form.Form.TheVariants.{Held, Narrow, Wide}
use Rattle.nam_ghost.specs.Versions.{HasData, HasGot, Version, old_header, old_word}
use Rattle.nam_header.proofs.StampLemmas.{header_of-word_of, stamp_in-word_of}
use Rattle.nam_header.specs.Header.{IsWithin, fields_of, header_of}
use Rattle.nam_header.specs.Stamp.{FitsStamp, is_moved, mark, stamp_in, stamp_word}
use Rattle.si_model.specs.declared.log.Stamp.{Stamp}

-- 1. The words of a value

pub got_none : (value : Option (List ℕ)) → HasGot [] value
got_none None = tt
got_none (Some value) = λ nth less. absurd (omega arith)

pub got_more : (width : ℕ) (got : List ℕ) (body : ℕ → ℕ) (value : Option (List ℕ)) → length got < width
    → HasGot got value → HasData width body value → HasGot (got ++ body (length got) ∷ []) value
got_more width got body None less has data_is = tt
got_more width got body (Some value) less has data_is = λ nth short.
    let next = body (length got) in
    let long = length_push got next in
    ⊎_elim (λ (before : nth < length got). get_or_append_left got (next ∷ []) 0 nth before ∙ has nth before)
    (λ (least : length got ≤ nth).
    let last : nth ≡ length got = omega arith in
    get_or_push got next 0 nth (sym last) ∙ ap body (sym last) ∙ data_is nth (omega arith))
    (cases_lt nth (length got))

pub data_same : (width : ℕ) (body later : ℕ → ℕ) → ((nth : ℕ) → nth < width → later nth ≡ body nth)
    → (value : Option (List ℕ)) → HasData width body value → HasData width later value
data_same width body later same None has = tt
data_same width body later same (Some value) has = λ nth less. same nth less ∙ has nth less

-- 2. Headers and stamps

some_holder : (form : Form) → 0 < (fields_of form).holders
some_holder Narrow = omega arith
some_holder Wide = omega arith
some_holder Held = omega arith

old_within : (form : Form) (moved : Bool) (version : Version) → FitsStamp form version.stamp
    → IsWithin form (old_header moved version)
old_within form moved version fits =
    record { thread = fits.thread; number = fits.number; holder = some_holder form }

-- what the header of an old version says
pub old_says : (form : Form) (moved : Bool) (version : Version) → FitsStamp form version.stamp
    → header_of form (old_word form moved version) ≡ old_header moved version
old_says form moved version fits =
    header_of-word_of form (old_header moved version) (old_within form moved version fits)

pub stamp_says : (form : Form) (stamp : Stamp) → FitsStamp form stamp → stamp_in form (stamp_word form stamp) ≡ stamp
stamp_says form stamp fits =
    stamp_in-word_of form record { stamp = stamp; moved = false; deleted = false; locked = false; holder = 0 }
    record { thread = fits.thread; number = fits.number; holder = some_holder form }

pub mark_moved : (form : Form) → is_moved form mark ≡ true
mark_moved form = refl
