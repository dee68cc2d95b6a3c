-- Where a ring is full of a worker's own commit stands in views that agree.
use Rattle.std.proofs.Common.{◌≡◌, ℕ, false, inl, List, [], ◌∷◌, ◌++◌, refl, subst, Option, Some, None}
use Rattle.std.specs.Prelude.{IsTrue}
use Rattle.std.specs.List.{flat_map}
use Rattle.si_model.specs.declared.row.Key.{Key}
use Rattle.si_model.specs.declared.log.Stamp.{Stamp}
use Rattle.si_model.specs.declared.log.Lock.{Lock}
use Rattle.si_model.specs.declared.log.Attempt.{Attempt}
use Rattle.si_model.specs.declared.log.Outcome.{Outcome}
use Rattle.si_model.specs.declared.log.Outcome.TheVariants.{Full}
use Rattle.si_model.specs.declared.log.Event.{Event}
use Rattle.si_model.specs.declared.log.Event.TheVariants.{Tried}
use Rattle.si_model.specs.Lists.{Listed}
use Rattle.si_model.specs.Tells.{Tell}
use Rattle.si_model.specs.View.{View}
use Rattle.si_model.specs.Setting.{Setting, Asked}
use Rattle.si_model.specs.Answers.{lock_key, AnswersWithout, AnswersOn, AnswersIn, AnswersMatch}
use Rattle.si_model.specs.Tries.{Part, attempted, tells_in, failed_after, FullOutcome, FullEvent, FullPart, FullsFollow}
use Rattle.si_model.specs.Tries.{FollowsPolicy, Walk, FollowsSoFar}
use Rattle.si_model.proofs.ListLemmas.{All-listed, listed_append_left, listed_append_right}
use Rattle.si_law.specs.Views.{Agrees, AgreeOn}
use Rattle.si_law.proofs.Moved.{AgreesAt}

-- an attempt that found a ring full got a snapshot
abbrev pub FullSees : Event → Type 0
FullSees (Tried a) = (l : Lock) → a.outcome ≡ Full l → (p : ℕ) × (a.prefix ≡ Some p)
FullSees event = Unit {0}

-- as any that answers does
sees_on : (s : Setting) (asked : Asked) (v : View) (j : ℕ) (t : Tell) (a : Attempt) (p : Option ℕ)
    → AnswersOn s asked v j t a p → (l : Lock) → a.outcome ≡ Full l → (q : ℕ) × (p ≡ Some q)
sees_on s asked v j t a None answers l e = elim (subst (AnswersWithout t) e answers) [ ]
sees_on s asked v j t a (Some p) answers l e = (p, refl)

pub full_sees : (s : Setting) (asked : Asked) (v : View) (j : ℕ) (t : Tell) (e : Event) → AnswersIn s asked v j t e
    → FullSees e
full_sees s asked v j t (Tried a) answers = sees_on s asked v j t a a.prefix answers
full_sees s asked v j t e answers = tt

pub fulls_see : (s : Setting) (asked : Asked) (v : View) (j : ℕ) (ts : List Tell) → AnswersMatch s asked v j ts
    → (t : Tell) → Listed t ts → FullSees t.event
fulls_see s asked v j ts answers t l =
    full_sees s asked v j t t.event (All-listed (λ t. AnswersIn s asked v j t t.event) ts t answers l)

module _ (v w : View) (j : ℕ) where
  moved_outcome : (done : List Part) (t : Tell) (p : Option ℕ) → ((q : ℕ) → p ≡ Some q → Agrees v w t) → (o : Outcome)
      → ((l : Lock) → o ≡ Full l → (q : ℕ) × (p ≡ Some q)) → FullOutcome v j done t o → FullOutcome w j done t o
  moved_outcome done t p agree (Full l) sees h =
      let key = lock_key l in
      let seen = sees l refl in
      subst (λ (newest : Key → Stamp). (newest key).thread ≡ j
      → IsTrue (failed_after (newest key).number key false done)) (agree seen.0 seen.1).newest h
  moved_outcome done t p agree o sees h = h

  moved_event : (done : List Part) (t : Tell) (e : Event) → AgreesAt v w t e → FullSees e → FullEvent v j done t e
      → FullEvent w j done t e
  moved_event done t (Tried a) agree sees h = moved_outcome done t a.prefix agree a.outcome sees h
  moved_event done t e agree sees h = h

  module _ (ts : List Tell) (agree : AgreeOn v w ts) (sees : (t : Tell) → Listed t ts → FullSees t.event) where
    moved_part : (done : List Part) (p : Part) → ((t : Tell) → Listed t (tells_in p) → Listed t ts)
        → FullPart v j done p → FullPart w j done p
    moved_part done (attempted t) among h =
        let l = among t (inl refl) in
        moved_event done t t.event (agree t l) (sees t l) h
    moved_part done p among h = h

    -- full rings that follow the policy do so in a view that agrees at their attempts
    pub moved_fulls : (done parts : List Part) → ((t : Tell) → Listed t (flat_map tells_in parts) → Listed t ts)
        → FullsFollow v j done parts
        → FullsFollow w j done parts
    moved_fulls done [] among h = tt
    moved_fulls done (p ∷ ps) among h = (
      moved_part done p (λ t l. among t (listed_append_left (tells_in p) (flat_map tells_in ps) t l)) h.0,
      moved_fulls (done ++ p ∷ []) ps (λ t l. among t (listed_append_right (tells_in p) (flat_map tells_in ps) t l))
          h.1,
    )

    -- and so does what follows it so far
    pub moved_so_far : (s : Setting) (walk : Walk) → FollowsSoFar s v j ts walk → FollowsSoFar s w j ts walk
    moved_so_far s walk h = record {
      read = h.read;
      along = h.along;
      begun = h.begun;
      fulls = λ tidy. moved_fulls [] walk.parts
          (λ t l. subst (Listed t) h.read (listed_append_left (flat_map tells_in walk.parts) walk.at_hand t l))
          (h.fulls tidy);
    }

pub moved_policy : (s : Setting) (asked : Asked) (v w : View) (j : ℕ) (ts : List Tell) → AgreeOn v w ts
    → AnswersMatch s asked v j ts → FollowsPolicy s v j ts → FollowsPolicy s w j ts
moved_policy s asked v w j ts agree answers h = record {
  parts = h.parts;
  read = h.read;
  settled = h.settled;
  fulls = λ tidy. moved_fulls v w j ts agree (fulls_see s asked v j ts answers) [] h.parts
      (λ t l. subst (Listed t) h.read l) (h.fulls tidy);
}
