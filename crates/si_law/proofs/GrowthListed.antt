-- Ends that list what others list.
use Rattle.std.proofs.Common.{◌≡◌, ℕ, ◌≤◌, Bool, true, false, List, [], ◌∷◌, ◌++◌, refl, ap, sym, ◌∙◌, subst, arith}
use Rattle.std.specs.Prelude.{◌||◌, ◌&&◌}
use Rattle.std.specs.List.{list_any}
use Rattle.std.proofs.lemmas.Bool.{false≢true, or_left}
use Rattle.std.proofs.lemmas.List.{append-nil}
use Rattle.std.proofs.lemmas.List.Folds.{list_any-append}
use Rattle.si_model.specs.declared.log.Lock.{Lock}
use Rattle.si_model.specs.declared.log.Attempt.{Attempt}
use Rattle.si_model.specs.declared.log.Stamp.{Stamp}
use Rattle.si_model.specs.declared.log.Event.{Event}
use Rattle.si_model.specs.declared.log.Event.TheVariants.{Tried, Moved, Collected}
use Rattle.si_model.specs.declared.row.Key.{Key}
use Rattle.si_model.specs.Rows.{same_key}
use Rattle.si_model.specs.History.{same_stamp}
use Rattle.si_model.specs.Tells.{Tell}
use Rattle.si_model.specs.Answers.{lock_key}
use Rattle.si_model.specs.Causes.{lists_lock, collects_entry, has_collected, move_count, moves_version, moves_into}
use Rattle.si_model.specs.Causes.{is_done}
use Rattle.si_law.specs.Growth.{KeepsListed}
use Rattle.si_law.proofs.GrowthEnds.{any_behind, moves_behind}

pub listed_nothing : (now : List Tell) → KeepsListed [] now
listed_nothing now = record {
  locks = λ key q h. absurd (false≢true h);
  entries = λ i n h. absurd (false≢true h);
  collects = λ h. absurd (false≢true h);
  done = λ key q h. absurd (false≢true h);
  moves = λ b. omega arith;
}

pub listed_trans : (xs ys zs : List Tell) → KeepsListed xs ys → KeepsListed ys zs → KeepsListed xs zs
listed_trans xs ys zs h k = record {
  locks = λ key q l. k.locks key q (h.locks key q l);
  entries = λ i n l. k.entries i n (h.entries i n l);
  collects = λ l. k.collects (h.collects l);
  done = λ key q l. k.done key q (h.done key q l);
  moves = λ b. omega (arith, h.moves b, k.moves b);
}

-- behind a front that both have
pub listed_behind : (front was now : List Tell) → KeepsListed was now → KeepsListed (front ++ was) (front ++ now)
listed_behind front was now h = record {
  locks = λ key q. any_behind (lists_lock key q) front was now (h.locks key q);
  entries = λ i n. any_behind (λ t. collects_entry i n t.event) front was now (h.entries i n);
  collects = any_behind (λ t. has_collected t.event) front was now h.collects;
  done = λ key q. any_behind (λ t. moves_version is_done key q t.event) front was now (h.done key q);
  moves = λ b. moves_behind b front was now (h.moves b);
}

-- with more events at the end
pub listed_more : (was more : List Tell) → KeepsListed was (was ++ more)
listed_more was more =
    subst (λ xs. KeepsListed xs (was ++ more)) (append-nil was) (listed_behind was [] more (listed_nothing more))

-- an attempt lists its locks alone, so one that has locked more may stand for it, with whatever follows
pub listed_locking : (t u : Tell) (a : Attempt) (locks : List Lock) (rest : List Tell) → t.event ≡ Tried a
    → u.locks ≡ t.locks ++ locks →
    KeepsListed (t ∷ []) (u ∷ rest)
listed_locking t u a locks rest is more = record {
  locks = λ key q h.
      let p : Lock → Bool = λ l. same_key (lock_key l) key && same_stamp l.stamp q in
      let has : list_any p t.locks ≡ true = one (list_any p t.locks) h in
      or_left (lists_lock key q u) (list_any (lists_lock key q) rest)
      (ap (list_any p) more ∙ list_any-append p t.locks locks ∙ or_left (list_any p t.locks) (list_any p locks) has);
  entries = λ i n h. absurd (false≢true (sym (ap (λ e. collects_entry i n e || false) is) ∙ h));
  collects = λ h. absurd (false≢true (sym (ap (λ e. has_collected e || false) is) ∙ h));
  done = λ key q h. absurd (false≢true (sym (ap (λ e. moves_version is_done key q e || false) is) ∙ h));
  moves = λ b. subst (λ n. n ≤ move_count b (u ∷ rest)) (sym (none b)) (omega arith);
}
  where
    one : (b : Bool) → (b || false) ≡ true → b ≡ true
    one true h = refl
    one false h = h

    none : (b : ℕ) → move_count b (t ∷ []) ≡ 0
    none b = rw (ap (moves_into b) is) refl

-- ---- an event that may be dropped

-- may others rest on the event, its locks apart
abbrev pub is_rested_on : Event → Bool
is_rested_on (Moved b table key q how) = true
is_rested_on (Collected b prefix entries cut) = true
is_rested_on event = false

module _ (e : Event) (none : is_rested_on e ≡ false) where
  no_entry : (i n : ℕ) → collects_entry i n e ≡ false
  no_entry i n = by e none
    where
      by : (e : Event) → is_rested_on e ≡ false → collects_entry i n e ≡ false
      by (Collected b prefix entries cut) h = absurd (false≢true (sym h))
      by event h = refl

  no_collect : has_collected e ≡ false
  no_collect = by e none
    where
      by : (e : Event) → is_rested_on e ≡ false → has_collected e ≡ false
      by (Collected b prefix entries cut) h = absurd (false≢true (sym h))
      by event h = refl

  no_done : (key : Key) (q : Stamp) → moves_version is_done key q e ≡ false
  no_done key q = by e none
    where
      by : (e : Event) → is_rested_on e ≡ false → moves_version is_done key q e ≡ false
      by (Moved b table k r how) h = absurd (false≢true (sym h))
      by event h = refl

  no_move : (b : ℕ) → moves_into b e ≡ false
  no_move b = by e none
    where
      by : (e : Event) → is_rested_on e ≡ false → moves_into b e ≡ false
      by (Moved c table k r how) h = absurd (false≢true (sym h))
      by event h = refl

-- an event without locks on which nobody rests may be dropped
pub listed_dropped : (t : Tell) → t.locks ≡ [] → is_rested_on t.event ≡ false → KeepsListed (t ∷ []) []
listed_dropped t unlocked none = record {
  locks = λ key q h.
      absurd (false≢true (sym (ap (λ ls. list_any (λ l. same_key (lock_key l) key && same_stamp l.stamp q) ls || false)
      unlocked) ∙ h));
  entries = λ i n h. absurd (false≢true (sym (ap (λ b. b || false) (no_entry t.event none i n)) ∙ h));
  collects = λ h. absurd (false≢true (sym (ap (λ b. b || false) (no_collect t.event none)) ∙ h));
  done = λ key q h. absurd (false≢true (sym (ap (λ b. b || false) (no_done t.event none key q)) ∙ h));
  moves = λ b. subst (λ n. n ≤ 0) (sym (moves_none b)) (omega arith);
}
  where
    moves_none : (b : ℕ) → move_count b (t ∷ []) ≡ 0
    moves_none b = rw (no_move t.event none b) refl
