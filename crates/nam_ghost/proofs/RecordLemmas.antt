-- What a header says that is found: the current version, and whether it is locked.
use Rattle.std.proofs.Common.{List, ap, arith, false, sym, ℕ, ◌<◌, ◌∙◌, ◌≡◌, ◌≤◌}
use Rattle.std.proofs.lemmas.Bool.Decides.{nat_tests}
use Rattle.std.specs.Prelude.{nat_lt}
use Rattle.nam_catalog.specs.declared.form.Form.{Form}
use Rattle.nam_catalog.specs.declared.form.Form.TheVariants.{Held, Narrow, Wide}
use Rattle.nam_ghost.specs.Locks.{RecordOk}
use Rattle.nam_ghost.specs.Versions.{Chain, RecordImage, Version, current_header}
use Rattle.nam_header.proofs.StampLemmas.{header_of-word_of}
use Rattle.nam_header.specs.Flag.{holder_named}
use Rattle.nam_header.specs.Header.{IsWithin, fields_of, header_of}
use Rattle.nam_header.specs.Stamp.{FitsStamp, is_locked, sees}
use Rattle.nam_header.specs.Visible.{is_visible}
use Rattle.nam_header.specs.declared.header.Header.{Header}

-- 1. Headers

-- each worker can be named in a header
named_fits : (form : Form) (worker : ℕ) → worker ≤ 16 → holder_named form worker < (fields_of form).holders
named_fits Narrow worker few = omega arith
named_fits Wide worker few = omega arith
named_fits Held worker few = omega arith

pub header_fits : (form : Form) (holder : ℕ) (version : Version) → holder ≤ 16 → FitsStamp form version.stamp
    → IsWithin form (current_header form holder version)
header_fits form holder version few fits =
    record { thread = fits.thread; number = fits.number; holder = named_fits form holder few }

module _ (form : Form) (workers width : ℕ) (image : RecordImage) (chain : Chain) (few : workers ≤ 16)
    (ok : RecordOk form workers width image chain) where
  -- 2. What a header that is found says

  pub header_says : header_of form image.header ≡ current_header form chain.holder chain.now
  header_says =
      let worker = ok.worker in
      ap (header_of form) ok.header_is
      ∙ header_of-word_of form (current_header form chain.holder chain.now)
      (header_fits form chain.holder chain.now (omega arith) ok.fits)

  pub locked_says : is_locked form image.header ≡ nat_lt 0 chain.holder
  locked_says = ap (λ (h : Header). h.locked) header_says

  pub stamp_says : (seen : List ℕ) → sees form seen image.header ≡ is_visible chain.now.stamp seen
  stamp_says seen = ap (λ (h : Header). is_visible h.stamp seen) header_says

  pub free_says : is_locked form image.header ≡ false → chain.holder ≡ 0
  free_says unlocked = none_from chain.holder (sym locked_says ∙ unlocked)
    where
      none_from : (n : ℕ) → nat_lt 0 n ≡ false → n ≡ 0
      none_from n e = grind (arith, nat_tests)
