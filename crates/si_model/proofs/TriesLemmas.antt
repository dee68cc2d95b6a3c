-- The walk of the policy over events so far: to the end of a whole log, and on by more events.
use Rattle.std.proofs.Common.{◌≡◌, ℕ, Bool, true, false, List, [], ◌∷◌, ◌++◌, length, refl, ap, sym, ◌∙◌, subst, arith}
use Rattle.std.proofs.Common.{Option, Some}
use Rattle.std.proofs.Common.{None}
use Rattle.std.specs.Prelude.{IsTrue, ◌==◌}
use Rattle.std.specs.List.{flat_map}
use Rattle.std.proofs.lemmas.Bool.{and_parts}
use Rattle.std.proofs.lemmas.Bool.Decides.{nat_tests}
use Rattle.std.proofs.lemmas.List.{append_assoc, append-nil, nil_from_length}
use Rattle.std.proofs.lemmas.Grind.{flat_map-append}
use Rattle.si_model.specs.declared.row.Key.{Key}
use Rattle.si_model.specs.declared.op.Policy.{Policy}
use Rattle.si_model.specs.Tells.{Tell}
use Rattle.si_model.specs.View.{View}
use Rattle.si_model.specs.Setting.{Setting, txns_of}
use Rattle.si_model.specs.Tries.{Part, attempted, tidied, stopped, tells_in, Owed, owed_after, is_settled, settles}
use Rattle.si_model.specs.Tries.{owed_along, owes_all, FullEvent, FullPart, FullsFollow, FollowsPolicy}
use Rattle.si_model.specs.Tries.{may_be_at_hand, Walk, FollowsSoFar, is_through, first_walk}

-- ---- the walk over parts

-- it goes on from what is owed after the first ones
pub along_append : (policy : Policy) (owed next : Owed) (ps qs : List Part) → owed_along policy owed ps ≡ Some next
    → owed_along policy owed (ps ++ qs) ≡ owed_along policy next qs
along_append policy owed next [] qs e = let same : owed ≡ next = cc in ap (λ o. owed_along policy o qs) same
along_append policy owed next (p ∷ ps) qs e =
    by (λ o. along_append policy o next ps qs) (owed_after policy owed p) e
  where
    by : ((o : Owed) → owed_along policy o ps ≡ Some next → owed_along policy o (ps ++ qs) ≡ owed_along policy next qs)
        → (o : Option Owed)
        → elim o as (λ x. Option Owed) [ None ↦ None | Some n ↦ owed_along policy n ps ] ≡ Some next
        → elim o as (λ x. Option Owed) [ None ↦ None | Some n ↦ owed_along policy n (ps ++ qs) ]
        ≡ owed_along policy next qs
    by rest None h = absurd cc
    by rest (Some n) h = rest n h

-- parts settle where their walk ends owing nothing
pub settles_along : (policy : Policy) (owed end : Owed) (ps : List Part) → owed_along policy owed ps ≡ Some end
    → settles policy owed ps ≡ is_settled end
settles_along policy owed end [] e = let same : owed ≡ end = cc in ap is_settled same
settles_along policy owed end (p ∷ ps) e =
    by (λ o. settles_along policy o end ps) (owed_after policy owed p) e
  where
    by : ((o : Owed) → owed_along policy o ps ≡ Some end → settles policy o ps ≡ is_settled end) → (o : Option Owed)
        → elim o as (λ x. Option Owed) [ None ↦ None | Some n ↦ owed_along policy n ps ] ≡ Some end
        → elim o as (λ x. Bool) [ None ↦ false | Some n ↦ settles policy n ps ] ≡ is_settled end
    by rest None h = absurd cc
    by rest (Some n) h = rest n h

-- and only there
pub along_settles : (policy : Policy) (owed : Owed) (ps : List Part) → settles policy owed ps ≡ true
    → (end : Owed) × (owed_along policy owed ps ≡ Some end) × (is_settled end ≡ true)
along_settles policy owed [] h = (owed, refl, h)
along_settles policy owed (p ∷ ps) h = by (λ o. along_settles policy o ps) (owed_after policy owed p) h
  where
    by : ((o : Owed) → settles policy o ps ≡ true
        → (end : Owed) × (owed_along policy o ps ≡ Some end) × (is_settled end ≡ true))
        → (o : Option Owed) → elim o as (λ x. Bool) [ None ↦ false | Some n ↦ settles policy n ps ] ≡ true
        → (end : Owed)
        × (elim o as (λ x. Option Owed) [ None ↦ None | Some n ↦ owed_along policy n ps ] ≡ Some end)
        × (is_settled end ≡ true)
    by rest None k = absurd cc
    by rest (Some n) k = rest n k

-- ---- full rings

pub fulls_append : (v : View) (j : ℕ) (done ps qs : List Part) → FullsFollow v j done ps
    → FullsFollow v j (done ++ ps) qs → FullsFollow v j done (ps ++ qs)
fulls_append v j done [] qs h k = subst (λ ds. FullsFollow v j ds qs) (append-nil done) k
fulls_append v j done (p ∷ ps) qs h k = (
  h.0,
  fulls_append v j (done ++ p ∷ []) ps qs h.1
      (subst (λ ds. FullsFollow v j ds qs) (sym (append_assoc done (p ∷ []) ps)) k),
)

-- the first parts follow where all do
pub fulls_front : (v : View) (j : ℕ) (done ps qs : List Part) → FullsFollow v j done (ps ++ qs)
    → FullsFollow v j done ps
fulls_front v j done [] qs h = tt
fulls_front v j done (p ∷ ps) qs h = (h.0, fulls_front v j (done ++ p ∷ []) ps qs h.1)

-- ---- events so far

no_events : (ts : List Tell) → (length ts == 0) ≡ true → ts ≡ []
no_events ts h = nil_from_length ts (none (length ts) h)
  where
    none : (n : ℕ) → (n == 0) ≡ true → n ≡ 0
    none n e = grind (arith, nat_tests)

module _ (s : Setting) (v : View) (j : ℕ) where
  -- where nothing is done yet
  pub follows_nothing : FollowsSoFar s v j [] (first_walk s j)
  follows_nothing = record { read = refl; along = refl; begun = refl; fulls = λ tidy. tt }

  -- a whole log follows the policy where its walk ends owing nothing
  pub through_follows : (ts : List Tell) (walk : Walk) → FollowsSoFar s v j ts walk → is_through walk ≡ true
      → FollowsPolicy s v j ts
  through_follows ts walk h through =
      let both = and_parts (length walk.at_hand == 0) (is_settled walk.owed) through in
      record {
        parts = walk.parts;
        read = sym (ap (λ us. flat_map tells_in walk.parts ++ us) (no_events walk.at_hand both.0)
            ∙ append-nil (flat_map tells_in walk.parts))
            ∙ h.read;
        settled = settles_along s.policy (owes_all (txns_of j s.owners)) walk.owed walk.parts h.along ∙ both.1;
        fulls = h.fulls;
      }

  -- and only there
  pub follows_through : (ts : List Tell) → FollowsPolicy s v j ts
      → (walk : Walk) × FollowsSoFar s v j ts walk × (is_through walk ≡ true)
  follows_through ts h =
      let end = along_settles s.policy (owes_all (txns_of j s.owners)) h.parts h.settled in (
        record { parts = h.parts; at_hand = []; owed = end.0 },
        record {
          read = append-nil (flat_map tells_in h.parts) ∙ h.read;
          along = end.1;
          begun = refl;
          fulls = h.fulls;
        },
        end.2,
      )

  module _ (ts : List Tell) (walk : Walk) (h : FollowsSoFar s v j ts walk) (now : List Tell) where
    -- more events, which with those at hand are parts that may stand there, and the events then at hand
    pub parts_follow : (ps : List Part) (hand : List Tell) (owed : Owed)
        → flat_map tells_in ps ++ hand ≡ walk.at_hand ++ now → owed_along s.policy walk.owed ps ≡ Some owed
        → IsTrue (may_be_at_hand owed hand) → (IsTrue s.policy.tidy → FullsFollow v j walk.parts ps)
        → FollowsSoFar s v j (ts ++ now) (record { parts = walk.parts ++ ps; at_hand = hand; owed = owed })
    parts_follow ps hand owed reads along begun fulls = record {
      read =
          ap (λ us. us ++ hand) (flat_map-append tells_in walk.parts ps)
          ∙ append_assoc (flat_map tells_in walk.parts) (flat_map tells_in ps) hand
          ∙ ap (λ us. flat_map tells_in walk.parts ++ us) reads
          ∙ sym (append_assoc (flat_map tells_in walk.parts) walk.at_hand now)
          ∙ ap (λ us. us ++ now) h.read;
      along = along_append s.policy (owes_all (txns_of j s.owners)) walk.owed walk.parts ps h.along ∙ along;
      begun = begun;
      fulls = λ tidy. fulls_append v j [] walk.parts ps (h.fulls tidy) (fulls tidy);
    }

    -- more events of the tidying at hand, or the first ones of the next
    pub hand_follows : IsTrue (may_be_at_hand walk.owed (walk.at_hand ++ now))
        → FollowsSoFar s v j (ts ++ now) (record walk { at_hand = walk.at_hand ++ now })
    hand_follows begun = record {
      read = sym (append_assoc (flat_map tells_in walk.parts) walk.at_hand now) ∙ ap (λ us. us ++ now) h.read;
      along = h.along;
      begun = begun;
      fulls = h.fulls;
    }

    -- events that with those at hand are one part
    pub part_follows : (p : Part) (owed : Owed) → tells_in p ≡ walk.at_hand ++ now
        → owed_after s.policy walk.owed p ≡ Some owed → (IsTrue s.policy.tidy → FullPart v j walk.parts p)
        → FollowsSoFar s v j (ts ++ now) (record { parts = walk.parts ++ p ∷ []; at_hand = []; owed = owed })
    part_follows p owed reads after full =
        parts_follow (p ∷ []) [] owed
        (append-nil (tells_in p ++ []) ∙ append-nil (tells_in p) ∙ reads)
        (ap (λ o. elim o as (λ x. Option Owed) [ None ↦ None | Some n ↦ Some n ]) after) refl
        (λ tidy. (full tidy, tt))

  module _ (ts : List Tell) (walk : Walk) (h : FollowsSoFar s v j ts walk) where
    -- an attempt, while no tidying is at hand
    pub attempt_follows : (t : Tell) (owed : Owed) → walk.at_hand ≡ []
        → owed_after s.policy walk.owed (attempted t) ≡ Some owed
        → (IsTrue s.policy.tidy → FullEvent v j walk.parts t t.event)
        → FollowsSoFar s v j (ts ++ t ∷ [])
        (record { parts = walk.parts ++ attempted t ∷ []; at_hand = []; owed = owed })
    attempt_follows t owed none after full =
        part_follows ts walk h (t ∷ []) (attempted t) owed (ap (λ us. us ++ t ∷ []) (sym none)) after full

    -- the event of a worker that was stopped
    pub stop_follows : (t : Tell) (owed : Owed) → walk.at_hand ≡ []
        → owed_after s.policy walk.owed (stopped t) ≡ Some owed
        → FollowsSoFar s v j (ts ++ t ∷ [])
        (record { parts = walk.parts ++ stopped t ∷ []; at_hand = []; owed = owed })
    stop_follows t owed none after =
        part_follows ts walk h (t ∷ []) (stopped t) owed (ap (λ us. us ++ t ∷ []) (sym none)) after (λ tidy. tt)

    -- the tidying of the key is over, with these events more or with none
    pub tidying_follows : (key : Key) (more : List Tell) (owed : Owed)
        → owed_after s.policy walk.owed (tidied key (walk.at_hand ++ more)) ≡ Some owed
        → FollowsSoFar s v j (ts ++ more)
        (record { parts = walk.parts ++ tidied key (walk.at_hand ++ more) ∷ []; at_hand = []; owed = owed })
    tidying_follows key more owed after =
        part_follows ts walk h more (tidied key (walk.at_hand ++ more)) owed refl after (λ tidy. tt)

-- what a front has come to stays, in another view too, where the whole log goes on from it there
pub front_follows : (s : Setting) (v w : View) (j : ℕ) (ts : List Tell) (walk : Walk) → FollowsSoFar s v j ts walk
    → (us : List Tell) (whole : Walk) (ps : List Part) → whole.parts ≡ walk.parts ++ ps → FollowsSoFar s w j us whole
    → FollowsSoFar s w j ts walk
front_follows s v w j ts walk h us whole ps goes_on more = record {
  read = h.read;
  along = h.along;
  begun = h.begun;
  fulls = λ tidy. fulls_front w j [] walk.parts ps (subst (FullsFollow w j []) goes_on (more.fulls tidy));
}
