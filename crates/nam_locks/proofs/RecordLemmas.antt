-- How a position's words and its version chain change together: one fact for each kind of write.
use Rattle.std.proofs.Common.{List, None, Option, Some, [], ap, arith, false, inl, length, refl, subst, sym, true, ℕ}
use Rattle.std.proofs.Common.{◌+◌, ◌<◌, ◌∙◌, ◌∷◌, ◌≡◌, ◌≤◌}
use Rattle.std.proofs.lemmas.Bool.{lt-ltb}
use Rattle.std.proofs.lemmas.List.{length_push}
use Rattle.std.specs.Prelude.{Bool, is_some, not}
use Rattle.nam_calls.specs.Words.{wrapped}
use Rattle.nam_catalog.specs.declared.form.Form.{Form}
use Rattle.nam_catalog.specs.declared.form.Form.TheVariants.{Held, Narrow, Wide}
use Rattle.nam_ghost.proofs.RecordLemmas.{header_says}
use Rattle.nam_ghost.specs.Locks.{RecordOk}
use Rattle.nam_ghost.specs.Steps.{given_back, locked_for, renewed}
use Rattle.nam_ghost.specs.Versions.{Chain, HasData, IsVersion, RecordImage, Version, current_number, current_word}
use Rattle.nam_ghost.specs.Versions.{versions}
use Rattle.nam_header.specs.Flag.{holder_named}
use Rattle.nam_header.specs.Header.{flag, word_of}
use Rattle.nam_header.specs.Stamp.{FitsStamp, version_word, with_lock}
use Rattle.nam_header.specs.declared.header.Header.{Header}
use Rattle.si_model.proofs.ListLemmas.{listed_append_left, listed_append_right}

named_none : (form : Form) → holder_named form 0 ≡ 0
named_none Narrow = refl
named_none Wide = refl
named_none Held = refl

-- 1. A position's claims, where its words are what they were

pub record_same : (form : Form) (workers width : ℕ) (image later : RecordImage) (chain : Chain)
    → later.header ≡ image.header → later.count ≡ image.count
    → ((nth : ℕ) → nth < width → later.body nth ≡ image.body nth) → RecordOk form workers width image chain
    → RecordOk form workers width later chain
record_same form workers width image later chain header count body ok = record {
  header_is = header ∙ ok.header_is;
  fits = ok.fits;
  count_is = count ∙ ok.count_is;
  data_is = λ e. data_same chain.now.value (ok.data_is e);
  free = ok.free;
  worker = ok.worker;
}
  where
    data_same : (value : Option (List ℕ)) → HasData width image.body value → HasData width later.body value
    data_same None has = tt
    data_same (Some value) has = λ nth less. body nth less ∙ has nth less

module _ (form : Form) (workers width : ℕ) (image : RecordImage) (chain : Chain) (few : workers ≤ 16)
    (ok : RecordOk form workers width image chain) where
  -- 2. The kinds of write

  -- the lock is taken
  pub lock_ok : (worker : ℕ) → chain.holder ≡ 0 → 0 < worker → worker ≤ workers
      → RecordOk form workers width (record image { header = with_lock form worker image.header })
      (locked_for worker chain)
  lock_ok worker unlocked some within = record {
    header_is =
        ap (λ (h : Header). word_of form record {
          stamp = h.stamp;
          moved = h.moved;
          deleted = h.deleted;
          locked = true;
          holder = holder_named form worker;
        })
        (header_says form workers width image chain few ok)
        ∙ ap (λ (locked : Bool). word_of form record {
          stamp = chain.now.stamp;
          moved = false;
          deleted = not (is_some chain.now.value);
          locked = locked;
          holder = holder_named form worker;
        })
        (sym (lt-ltb 0 worker some));
    fits = ok.fits;
    count_is = ok.count_is;
    data_is = ok.data_is;
    free = λ e. ok.free unlocked;
    worker = within;
  }

  -- the header is written back
  pub back_ok : (word : ℕ) → word ≡ current_word form 0 chain.now → chain.dirty ≡ false → chain.counted ≡ false
      → RecordOk form workers width (record image { header = word }) (given_back chain)
  back_ok word is clean uncounted = record {
    header_is = is;
    fits = ok.fits;
    count_is = ok.count_is;
    data_is = ok.data_is;
    free = λ e. (clean, uncounted);
    worker = omega arith;
  }

  -- a data word is written
  pub word_ok : (body : ℕ → ℕ) → 0 < chain.holder
      → RecordOk form workers width (record image { body = body }) (record chain { dirty = true })
  word_ok body some = record {
    header_is = ok.header_is;
    fits = ok.fits;
    count_is = ok.count_is;
    data_is = λ e. absurd (cc);
    free = λ e. absurd (omega arith);
    worker = ok.worker;
  }

  -- the count is written
  pub count_ok : (count : ℕ) → count ≡ wrapped (current_number chain) → 0 < chain.holder
      → RecordOk form workers width (record image { count = wrapped (count + 1) }) (record chain { counted = true })
  count_ok count is some = record {
    header_is = ok.header_is;
    fits = ok.fits;
    count_is = omega arith;
    data_is = ok.data_is;
    free = λ e. absurd (omega arith);
    worker = ok.worker;
  }

  -- the new header is written
  pub renewed_ok : (version : Version) → chain.counted ≡ true → FitsStamp form version.stamp
      → HasData width image.body version.value
      → RecordOk form workers width
      (record image { header = version_word form version.stamp (not (is_some version.value)) })
      (renewed version chain)
  renewed_ok version counted fits has = record {
    header_is =
        ap (λ (holder : ℕ). word_of form record {
          stamp = version.stamp;
          moved = false;
          deleted = not (is_some version.value);
          locked = false;
          holder = holder;
        })
        (sym (named_none form));
    fits = fits;
    count_is =
        let e : image.count ≡ wrapped (length chain.old + 1) =
        subst (λ (b : Bool). image.count ≡ wrapped (length chain.old + flag b)) counted ok.count_is in
        let long = length_push chain.old chain.now in
        omega arith;
    data_is = λ e. has;
    free = λ e. (refl, refl);
    worker = omega arith;
  }

-- 3. Versions stay, and the new one is there

pub renewed_grows : (chain : Chain) (version other : Version) → IsVersion chain other
    → IsVersion (renewed version chain) other
renewed_grows chain version other is = listed_append_left (versions chain) (version ∷ []) other is

pub renewed_has : (chain : Chain) (version : Version) → IsVersion (renewed version chain) version
renewed_has chain version = listed_append_right (versions chain) (version ∷ []) version (inl refl)
