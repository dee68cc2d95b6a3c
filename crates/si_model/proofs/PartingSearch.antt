-- All ways to part a worker's log are tried, so that a log which can't be parted is seen by computing.
use Rattle.std.proofs.Common.{◌≡◌, ℕ, zero, suc, Bool, true, false, List, [], ◌∷◌, ◌++◌, refl, ap, sym, subst}
use Rattle.std.proofs.Common.{Option, Some, None, inl, inr, arith, append-nil}
use Rattle.std.specs.Prelude.{◌==◌, ◌&&◌, ◌||◌, not, IsTrue, if◌then◌else◌}
use Rattle.std.specs.List.{flat_map}
use Rattle.std.proofs.lemmas.Bool.{false≢true, cases_Bool}
use Rattle.std.proofs.lemmas.Bool.Decides.{nat_tests}
use Rattle.std.proofs.lemmas.List.{append_assoc}
use Rattle.si_model.specs.declared.row.Key.{Key}
use Rattle.si_model.specs.declared.op.Policy.{Policy}
use Rattle.si_model.specs.declared.log.Outcome.{Outcome}
use Rattle.si_model.specs.declared.log.Outcome.TheVariants.{Full}
use Rattle.si_model.specs.declared.log.Event.{Event}
use Rattle.si_model.specs.declared.log.Event.TheVariants.{Tried}
use Rattle.si_model.specs.Rows.{same_key}
use Rattle.si_model.specs.Tells.{Tell}
use Rattle.si_model.specs.Tries.{Part, Owed, tells_in, owed_after, owed_after_tidying, is_settled, settles}
use Rattle.si_model.specs.Tries.{goes_on, owes_all, failed_after, FullOutcome, FullEvent, FullPart, FullsFollow}
use Rattle.si_model.specs.Tries.{FollowsPolicy}
use Rattle.si_model.specs.Tries.Part.{attempted, tidied, stopped}
use Rattle.si_model.specs.Answers.{lock_key}
use Rattle.si_model.specs.View.{View}
use Rattle.si_model.specs.Setting.{Setting, txns_of}
use Rattle.si_model.proofs.EvaluationLemmas.{same_key_says}

-- does one way to cut the list in two pass, where the first half begins with the front
abbrev pub by_split : (List Tell → List Tell → Bool) → List Tell → List Tell → Bool
by_split passes front [] = passes front []
by_split passes front (t ∷ ts) = passes front (t ∷ ts) || by_split passes (front ++ t ∷ []) ts

-- nothing is left, and nothing is owed
abbrev pub by_end : Owed → List Tell → Bool
by_end owed [] = is_settled owed
by_end owed (t ∷ ts) = false

module _ (policy : Policy) (test : List Part → Part → Bool) (next : List Part → Owed → List Tell → Bool) where
  -- may the part stand here, and the rest after it
  abbrev pub by_part : List Part → Owed → Part → List Tell → Bool
  by_part done owed p ts =
      test done p && elim (owed_after policy owed p) [ None ↦ false | Some after ↦ next (done ++ p ∷ []) after ts ]

  abbrev pub by_event : List Part → Owed → List Tell → Bool
  by_event done owed [] = false
  by_event done owed (t ∷ ts) = by_part done owed (attempted t) ts || by_part done owed (stopped t) ts

  abbrev pub by_tidying : List Part → Owed → List Key → List Tell → Bool
  by_tidying done owed [] ts = false
  by_tidying done owed (key ∷ keys) ts = by_split (λ us vs. by_part done owed (tidied key us) vs) [] ts

-- may the events be parted so that each part may follow those before and passes the test after them, and nothing is
-- owed at the end; also where that takes n parts or more
abbrev pub may_part : ℕ → Policy → (List Part → Part → Bool) → List Part → Owed → List Tell → Bool
may_part zero policy test done owed ts = true
may_part (suc n) policy test done owed ts =
    by_end owed ts
    || (by_event policy test (may_part n policy test) done owed ts
    || by_tidying policy test (may_part n policy test) done owed owed.keys ts)

-- each part passes the test after those before
abbrev pub AllPass : (List Part → Part → Bool) → List Part → List Part → Type 0
AllPass test done [] = Unit {0}
AllPass test done (p ∷ ps) = (test done p ≡ true) × AllPass test (done ++ p ∷ []) ps

pub or_left : (a b : Bool) → a ≡ true → (a || b) ≡ true
or_left a b h = rw h refl

pub or_right : (a b : Bool) → b ≡ true → (a || b) ≡ true
or_right true b h = refl
or_right false b h = h

split_at : (passes : List Tell → List Tell → Bool) (front us ts : List Tell) → passes (front ++ us) ts ≡ true
    → by_split passes front (us ++ ts) ≡ true
split_at passes front [] [] h = subst (λ us. passes us [] ≡ true) (append-nil front) h
split_at passes front [] (t ∷ ts) h = or_left _ _ (subst (λ us. passes us (t ∷ ts) ≡ true) (append-nil front) h)
split_at passes front (u ∷ us) ts h =
    or_right (passes front (u ∷ (us ++ ts))) _ (split_at passes (front ++ u ∷ []) us ts
    (subst (λ vs. passes vs ts ≡ true) (sym (append_assoc front (u ∷ []) us)) h))

-- what some value passes another test passes that is weaker
weaker : {A : Type 0} (found : Option A) (f g : A → Bool) → ((a : A) → f a ≡ true → g a ≡ true)
    → elim found [ None ↦ false | Some a ↦ f a ] ≡ true → elim found [ None ↦ false | Some a ↦ g a ] ≡ true
weaker None f g h e = e
weaker (Some a) f g h e = h a e

-- a tidying stands only where its key is owed next
tidied_key : (owed : Owed) (keys : List Key) (key : Key) (ts : List Tell) (f : Owed → Bool)
    → elim (owed_after_tidying keys owed key ts) [ None ↦ false | Some a ↦ f a ] ≡ true
    → (rest : List Key) × (keys ≡ key ∷ rest)
tidied_key owed [] key ts f h = absurd (false≢true h)
tidied_key owed (k ∷ keys) key ts f h =
    elim (cases_Bool (same_key k key)) [
      | inl e ↦ (keys, ap (λ (q : Key). q ∷ keys) (same_key_says k key e))
      | inr e ↦ absurd (false≢true (rw e at h))
    ]

going_key : (goes : Bool) (owed : Owed) (keys : List Key) (key : Key) (ts : List Tell) (f : Owed → Bool)
    → elim (if goes then owed_after_tidying keys owed key ts else None) [ None ↦ false | Some a ↦ f a ] ≡ true
    → (rest : List Key) × (keys ≡ key ∷ rest)
going_key true owed keys key ts f h = tidied_key owed keys key ts f h
going_key false owed keys key ts f h = absurd (false≢true h)

part_stands : (policy : Policy) (test : List Part → Part → Bool) (next : List Part → Owed → List Tell → Bool)
    (done : List Part) (owed : Owed) (p : Part) (ps : List Part) → test done p ≡ true
    → ((after : Owed) → settles policy after ps ≡ true → next (done ++ p ∷ []) after (flat_map tells_in ps) ≡ true)
    → settles policy owed (p ∷ ps) ≡ true → by_part policy test next done owed p (flat_map tells_in ps) ≡ true
part_stands policy test next done owed p ps h k s =
    rw h (weaker (owed_after policy owed p) (λ a. settles policy a ps)
    (λ a. next (done ++ p ∷ []) a (flat_map tells_in ps)) k s)

pub parts_may : (n : ℕ) (policy : Policy) (test : List Part → Part → Bool) (done : List Part) (owed : Owed)
    (ps : List Part) → settles policy owed ps ≡ true → AllPass test done ps
    → may_part n policy test done owed (flat_map tells_in ps) ≡ true
parts_may zero policy test done owed ps s h = refl
parts_may (suc n) policy test done owed [] s h = or_left (is_settled owed) _ s
parts_may (suc n) policy test done owed (attempted t ∷ ps) s h =
    or_left _ _ (or_left _ _ (part_stands policy test (may_part n policy test) done owed (attempted t) ps h.0
    (λ a e. parts_may n policy test (done ++ attempted t ∷ []) a ps e h.1) s))
parts_may (suc n) policy test done owed (tidied key us ∷ ps) s h =
    let k = going_key (goes_on owed.stage) owed owed.keys key us (λ a. settles policy a ps) s in
    or_right _ _ (or_right _ _ (subst (λ keys. by_tidying policy test (may_part n policy test) done owed keys
    (us ++ flat_map tells_in ps) ≡ true) (sym k.1)
    (split_at (λ vs ws. by_part policy test (may_part n policy test) done owed (tidied key vs) ws) [] us
    (flat_map tells_in ps) (part_stands policy test (may_part n policy test) done owed (tidied key us) ps h.0
    (λ a e. parts_may n policy test (done ++ tidied key us ∷ []) a ps e h.1) s))))
parts_may (suc n) policy test done owed (stopped t ∷ ps) s h =
    or_left _ _ (or_right _ _ (part_stands policy test (may_part n policy test) done owed (stopped t) ps h.0
    (λ a e. parts_may n policy test (done ++ stopped t ∷ []) a ps e h.1) s))

-- ---- what a log that follows the policy passes

abbrev pub any_part : List Part → Part → Bool
any_part done p = true

any_passes : (done ps : List Part) → AllPass any_part done ps
any_passes done [] = tt
any_passes done (p ∷ ps) = (refl, any_passes (done ++ p ∷ []) ps)

pub follows_may : (n : ℕ) {s : Setting} {v : View} {j : ℕ} {ts : List Tell} → FollowsPolicy s v j ts
    → may_part n s.policy any_part [] (owes_all (txns_of j s.owners)) ts ≡ true
follows_may n {s} {v} {j} {ts} follows =
    subst (λ us. may_part n s.policy any_part [] (owes_all (txns_of j s.owners)) us ≡ true) follows.read
    (parts_may n s.policy any_part [] (owes_all (txns_of j s.owners)) follows.parts follows.settled
    (any_passes [] follows.parts))

module _ (v : View) (j : ℕ) (done : List Part) (t : Tell) where
  abbrev pub full_outcome : Outcome → Bool
  full_outcome (Full l) =
      not ((v.newest t (lock_key l)).thread == j)
      || failed_after (v.newest t (lock_key l)).number (lock_key l) false done
  full_outcome outcome = true

  abbrev pub full_event : Event → Bool
  full_event (Tried a) = full_outcome a.outcome
  full_event event = true

-- where the ring is full of the worker's own commit, its tidying after it failed
abbrev pub full_part : View → ℕ → List Part → Part → Bool
full_part v j done (attempted t) = full_event v j done t t.event
full_part v j done p = true

own_failed : (i j : ℕ) (failed : Bool) → (i ≡ j → failed ≡ true) → (not (i == j) || failed) ≡ true
own_failed i j failed h =
    elim (cases_Bool (i == j)) [
      | inl e ↦ let same : i ≡ j = grind (arith, nat_tests) in or_right _ _ (h same)
      | inr e ↦ rw e refl
    ]

outcome_passes : (v : View) (j : ℕ) (done : List Part) (t : Tell) (o : Outcome) → FullOutcome v j done t o
    → full_outcome v j done t o ≡ true
outcome_passes v j done t (Full l) h = own_failed _ _ _ h
outcome_passes v j done t outcome h = refl

event_passes : (v : View) (j : ℕ) (done : List Part) (t : Tell) (e : Event) → FullEvent v j done t e
    → full_event v j done t e ≡ true
event_passes v j done t (Tried a) h = outcome_passes v j done t a.outcome h
event_passes v j done t event h = refl

part_passes : (v : View) (j : ℕ) (done : List Part) (p : Part) → FullPart v j done p → full_part v j done p ≡ true
part_passes v j done (attempted t) h = event_passes v j done t t.event h
part_passes v j done (tidied key ts) h = refl
part_passes v j done (stopped t) h = refl

fulls_pass : (v : View) (j : ℕ) (done ps : List Part) → FullsFollow v j done ps → AllPass (full_part v j) done ps
fulls_pass v j done [] h = tt
fulls_pass v j done (p ∷ ps) h = (part_passes v j done p h.0, fulls_pass v j (done ++ p ∷ []) ps h.1)

pub fulls_may : (n : ℕ) {s : Setting} {v : View} {j : ℕ} {ts : List Tell} → IsTrue s.policy.tidy
    → FollowsPolicy s v j ts → may_part n s.policy (full_part v j) [] (owes_all (txns_of j s.owners)) ts ≡ true
fulls_may n {s} {v} {j} {ts} tidy follows =
    subst (λ us. may_part n s.policy (full_part v j) [] (owes_all (txns_of j s.owners)) us ≡ true) follows.read
    (parts_may n s.policy (full_part v j) [] (owes_all (txns_of j s.owners)) follows.parts follows.settled
    (fulls_pass v j [] follows.parts (follows.fulls tidy)))
