-- For which version a move holds a claimed cell, whatever words it found.
use Rattle.std.proofs.Common.{◌≡◌, ℕ, List, [], ◌∷◌, ◌++◌, length, refl, sym, ◌∙◌, ap, subst, false, Some, IsNone}
use Rattle.std.specs.Prelude.{◌==◌}
use Rattle.std.proofs.lemmas.List.{append_assoc, append-nil}
use Rattle.si_model.specs.declared.log.Stamp.{Stamp}
use Rattle.nam_verbs.specs.declared.now.Now.{Now}
use Rattle.nam_verbs.specs.declared.now.Now.TheVariants.{At, Over}
use Rattle.nam_verbs.specs.Now.{end_now}
use Rattle.nam_verbs.specs.Machine.{after_words}
use Rattle.nam_verbs.specs.Steps.{Step, saw}
use Rattle.nam_verbs.proofs.TestLemmas.{by_test}
use Rattle.nam_verbs.specs.SoFar.{steps_by}
use Rattle.nam_verbs.proofs.HistoryLemmas as past
use Rattle.nam_header.specs.Stamp.{stamp_in, is_moved, without_moved}
use Rattle.nam_layout.specs.declared.field.Place.{Place}
use Rattle.nam_layout.specs.declared.field.Cells.{Cells}
use Rattle.nam_layout.specs.PlaceFits.{FitsCells}
use Rattle.nam_layout.specs.Place.{slot_of, known_address, place_end, cells_end, later}
use Rattle.nam_layout.specs.declared.field.Field.{Field}
use Rattle.nam_layout.specs.declared.field.Field.TheVariants as field
use Rattle.nam_calls.specs.declared.overflow.ClaimPoint.{ClaimPoint}
use Rattle.nam_calls.specs.declared.overflow.ClaimPoint.TheVariants.{ClaimLook}
use Rattle.nam_calls.specs.declared.overflow.ClaimEnd.{ClaimEnd}
use Rattle.nam_calls.specs.declared.overflow.FillPoint.{FillPoint}
use Rattle.nam_calls.specs.declared.overflow.Version.{Version}
use Rattle.nam_calls.specs.declared.mover.MovePoint.{MovePoint}
use Rattle.nam_calls.specs.declared.mover.MovePoint.TheVariants.{MoveCount, MoveHead, MoveEnding, MoveClaim}
use Rattle.nam_calls.specs.declared.mover.MovePoint.TheVariants.{MoveWords, MoveFill, MoveAgain, MoveFull, MoveFlag}
use Rattle.nam_calls.specs.declared.mover.MovePoint.TheVariants.{MoveBack}
use Rattle.nam_calls.specs.declared.mover.MoveAnswer.{MoveAnswer}
use Rattle.nam_calls.specs.declared.mover.MoveAnswer.TheVariants.{Nothing}
use Rattle.nam_calls.specs.Overflow.{claim_verb, claim_after, fill_after, fill_begin}
use Rattle.nam_calls.specs.Mover.{move_verb, move_after, move_left, on_claim, on_fill}
use Rattle.nam_calls.specs.declared.overflow.ClaimEnd.TheVariants as claim
use Rattle.nam_overflow.proofs.ClaimLemmas.{claimed_by, claims_by}
use Rattle.nam_mover.specs.Move.{moving, running, claimed_in}
use Rattle.nam_mover.specs.MoveLaw.{look_steps, end_steps}
use Rattle.nam_mover.specs.ClaimedLaw.{HasTaken}

-- the word that the second of the steps found
abbrev second_found : List (Step Field) → ℕ
second_found [] = 0
second_found (first ∷ []) = 0
second_found (first ∷ second ∷ steps) = second.found

module _ (place : Place) (cells : Cells) (room : FitsCells cells) where
  abbrev pub ClaimLeads : Now ClaimPoint ClaimEnd → List (Step Field) → Now ClaimPoint ClaimEnd → Type 0
  ClaimLeads = past.Leads (claim_verb cells) (claim_after cells)

  -- the steps took a cell for the version of this header, and it is this one
  abbrev pub Took : ℕ → ℕ → List (Step Field) → Type 0
  Took header cell steps = (taken : HasTaken place cells (stamp_in place.form header) steps) × (taken.cell ≡ cell)

  -- the steps that led to each point
  abbrev pub Holds : MovePoint → List (Step Field) → Type 0
  Holds MoveCount steps = steps ≡ []
  Holds (MoveHead slot) steps =
      (count : ℕ) × (slot ≡ slot_of place count) × (steps ≡ saw (field.Count place.row) count ∷ [])
  Holds (MoveEnding slot header) steps =
      (count : ℕ) × (slot ≡ slot_of place count) × (is_moved place.form header ≡ false)
      × (steps ≡ look_steps place cells count header)
  Holds (MoveClaim slot header ending at) steps =
      (count : ℕ) × (claims : List (Step Field)) × (is_moved place.form header ≡ false)
      × (steps ≡ end_steps place cells count header ending ++ claims)
      × ClaimLeads (At (ClaimLook 0)) claims (At at)
  Holds (MoveWords slot header ending cell tag got) steps = Took header cell steps
  Holds (MoveFill slot header cell tag version at) steps = Took header cell steps
  Holds (MoveAgain slot header cell tag) steps = Took header cell steps
  Holds (MoveFull slot header cell tag) steps = Took header cell steps
  Holds (MoveFlag slot header) steps = HasTaken place cells (stamp_in place.form header) steps
  Holds (MoveBack header cell tag) steps = Took header cell steps

  abbrev pub HoldsNow : Now MovePoint MoveAnswer → List (Step Field) → Type 0
  HoldsNow = past.HoldsNow (move_verb place cells) (move_after place cells) (known_address place cells 0)
      (later (place_end place) (cells_end cells)) (move_left place cells) Holds

  -- 1. Each point comes from the one before

  abbrev taken_longer : (stamp : Stamp) (steps more : List (Step Field)) → HasTaken place cells stamp steps
      → HasTaken place cells stamp (steps ++ more)
  taken_longer stamp steps more t = record {
    count = t.count;
    header = t.header;
    ending = t.ending;
    cell = t.cell;
    tag = t.tag;
    claims = t.claims;
    later = t.later ++ more;
    unmoved = t.unmoved;
    claimed = t.claimed;
    stamp_is = t.stamp_is;
    steps_are = ap (λ all. all ++ more) t.steps_are
        ∙ append_assoc (end_steps place cells t.count t.header t.ending ++ t.claims) t.later more;
  }

  took_longer : (header cell : ℕ) (steps more : List (Step Field)) → Took header cell steps
      → Took header cell (steps ++ more)
  took_longer header cell steps more took = (taken_longer (stamp_in place.form header) steps more took.0, took.1)

  on_claim_keeps : (slot header ending count : ℕ) → is_moved place.form header ≡ false
      → (now : Now ClaimPoint ClaimEnd) (claims : List (Step Field))
      → ClaimLeads (At (ClaimLook 0)) claims now
      → HoldsNow (on_claim cells slot header ending now) (end_steps place cells count header ending ++ claims)
  on_claim_keeps slot header ending count unmoved (At at) claims leads = (count, claims, unmoved, refl, leads)
  on_claim_keeps slot header ending count unmoved (Over claim.NoRoom) claims leads = tt
  on_claim_keeps slot header ending count unmoved (Over (claim.Claimed cell tag)) claims leads = (
    record {
      count = count;
      header = header;
      ending = ending;
      cell = cell;
      tag = tag;
      claims = claims;
      later = [];
      unmoved = unmoved;
      claimed = claimed_by cells room.least_cells claims cell tag
          (past.leads_to_end (claim_verb cells) (claim_after cells) (At (ClaimLook 0)) claims (claim.Claimed cell tag)
          leads);
      stamp_is = refl;
      steps_are = rw append-nil refl;
    },
    refl,
  )

  on_fill_keeps : (slot header cell tag : ℕ) (version : Version) (now : Now FillPoint (Unit {0}))
      (steps : List (Step Field))
      → Took header cell steps → HoldsNow (on_fill slot header cell tag version now) steps
  on_fill_keeps slot header cell tag version (At at) steps taken = taken
  on_fill_keeps slot header cell tag version (Over done) steps taken = taken

  abbrev step_at : MovePoint → ℕ → Step Field
  step_at = past.step_at (move_verb place cells) (move_after place cells)

  keeps : (at : MovePoint) (before : List (Step Field)) → Holds at before → (found : ℕ)
      → HoldsNow (move_after place cells at found) (before ++ step_at at found ∷ [])
  keeps MoveCount before holds found = (found, refl, rw holds refl)
  keeps (MoveHead slot) before holds found =
      by_test (λ now. HoldsNow now (before ++ step_at (MoveHead slot) found ∷ [])) (is_moved place.form found)
      (Over Nothing) (At (MoveEnding slot found))
      (λ test. tt) (λ test. (holds.0, holds.1, test, rw (holds.2, holds.1) refl))
  keeps (MoveEnding slot header) before holds found = (holds.0, [], holds.2, rw (holds.3, holds.1) refl, refl)
  keeps (MoveClaim slot header ending at) before holds found =
      let step = step_at (MoveClaim slot header ending at) found in
      let first = end_steps place cells holds.0 header ending in
      let all : before ++ step ∷ [] ≡ first ++ (holds.1 ++ step ∷ []) = ap (λ steps. steps ++ step ∷ []) holds.3
      ∙ append_assoc first holds.1 (step ∷ []) in
      rw all (on_claim_keeps slot header ending holds.0 holds.2 (claim_after cells at found) (holds.1 ++ step ∷ [])
      (past.one_more (claim_verb cells) (claim_after cells) (At (ClaimLook 0)) holds.1 at found holds.4))
  keeps (MoveWords slot header ending cell tag got) before holds found =
      let step = step_at (MoveWords slot header ending cell tag got) found in
      let all = got ++ found ∷ [] in
      let version : Version = record { begin = without_moved place.form header; «end» = ending; value = all } in
      let longer = took_longer header cell before (step ∷ []) holds in
      by_test (λ at. Holds at (before ++ step ∷ [])) (length all == place.width)
      (MoveFill slot header cell tag version fill_begin)
      (MoveWords slot header ending cell tag all) (λ test. longer) (λ test. longer)
  keeps (MoveFill slot header cell tag version at) before holds found =
      let step = step_at (MoveFill slot header cell tag version at) found in
      on_fill_keeps slot header cell tag version (fill_after place.width at) (before ++ step ∷ [])
      (took_longer header cell before (step ∷ []) holds)
  keeps (MoveAgain slot header cell tag) before holds found =
      let step = step_at (MoveAgain slot header cell tag) found in
      let longer = took_longer header cell before (step ∷ []) holds in
      by_test (λ now. HoldsNow now (before ++ step ∷ [])) (found == header) (At (MoveFull slot header cell tag))
      (At (MoveBack header cell tag))
      (λ test. longer) (λ test. longer)
  keeps (MoveFull slot header cell tag) before holds found =
      taken_longer (stamp_in place.form header) before (step_at (MoveFull slot header cell tag) found ∷ []) holds.0
  keeps (MoveFlag slot header) before holds found = tt
  keeps (MoveBack header cell tag) before holds found = tt

  -- 2. What a point says of its claim, and what its steps do

  abbrev IsClaimed : Stamp → Now MovePoint MoveAnswer → List (Step Field) → Type 0
  IsClaimed stamp now steps = IsNone (end_now now) × HasTaken place cells stamp steps

  same_stamp : (header : ℕ) (stamp : Stamp) (steps : List (Step Field))
      → HasTaken place cells (stamp_in place.form header) steps
      → Some (stamp_in place.form header) ≡ Some stamp → HasTaken place cells stamp steps
  same_stamp header stamp steps taken is =
      let same : stamp_in place.form header ≡ stamp = cc in subst (λ s. HasTaken place cells s steps) same taken

  taken_by : (now : Now MovePoint MoveAnswer) (steps : List (Step Field)) (stamp : Stamp) → HoldsNow now steps
      → claimed_in place now ≡ Some stamp
      → IsClaimed stamp now steps
  taken_by (Over end) steps stamp holds is = absurd (cc)
  taken_by (At MoveCount) steps stamp holds is = absurd (cc)
  taken_by (At (MoveHead slot)) steps stamp holds is = absurd (cc)
  taken_by (At (MoveEnding slot header)) steps stamp holds is = absurd (cc)
  taken_by (At (MoveClaim slot header ending at)) steps stamp holds is = absurd (cc)
  taken_by (At (MoveWords slot header ending cell tag got)) steps stamp holds is =
      (refl, same_stamp header stamp steps holds.0 is)
  taken_by (At (MoveFill slot header cell tag version at)) steps stamp holds is =
      (refl, same_stamp header stamp steps holds.0 is)
  taken_by (At (MoveAgain slot header cell tag)) steps stamp holds is = (refl, same_stamp header stamp steps holds.0 is)
  taken_by (At (MoveFull slot header cell tag)) steps stamp holds is = (refl, same_stamp header stamp steps holds.0 is)
  taken_by (At (MoveFlag slot header)) steps stamp holds is = (refl, same_stamp header stamp steps holds is)
  taken_by (At (MoveBack header cell tag)) steps stamp holds is = (refl, same_stamp header stamp steps holds.0 is)

  -- the steps name one header
  one_stamp : (a b : Stamp) (steps : List (Step Field)) → HasTaken place cells a steps → HasTaken place cells b steps
      → Some a ≡ Some b
  one_stamp a b steps t u =
      let same : t.header ≡ u.header = ap second_found (sym t.steps_are ∙ u.steps_are) in
      ap Some (t.stamp_is ∙ ap (stamp_in place.form) same ∙ sym u.stamp_is)

  by_taken : (now : Now MovePoint MoveAnswer) (steps : List (Step Field)) (stamp : Stamp) → HoldsNow now steps
      → IsClaimed stamp now steps
      → claimed_in place now ≡ Some stamp
  by_taken (Over end) steps stamp holds is = let none = is.0 in absurd (cc)
  by_taken (At MoveCount) steps stamp holds is = let all = sym holds ∙ is.1.steps_are in absurd (cc)
  by_taken (At (MoveHead slot)) steps stamp holds is = let all = sym holds.2 ∙ is.1.steps_are in absurd (cc)
  by_taken (At (MoveEnding slot header)) steps stamp holds is = let all = sym holds.3 ∙ is.1.steps_are in absurd (cc)
  by_taken (At (MoveClaim slot header ending at)) steps stamp holds is =
      let t = is.1 in
      let all = sym holds.3 ∙ t.steps_are in
      let same : holds.1 ≡ t.claims ++ t.later = cc in
      absurd (past.ended_before (claim_verb cells) (claim_after cells) (At (ClaimLook 0)) t.claims t.later
      (claim.Claimed t.cell t.tag) at
      (claims_by cells room.least_cells t.claims t.cell t.tag t.claimed)
      (subst (λ steps. ClaimLeads (At (ClaimLook 0)) steps (At at)) same holds.4))
  by_taken (At (MoveWords slot header ending cell tag got)) steps stamp holds is =
      one_stamp (stamp_in place.form header) stamp steps holds.0 is.1
  by_taken (At (MoveFill slot header cell tag version at)) steps stamp holds is =
      one_stamp (stamp_in place.form header) stamp steps holds.0 is.1
  by_taken (At (MoveAgain slot header cell tag)) steps stamp holds is =
      one_stamp (stamp_in place.form header) stamp steps holds.0 is.1
  by_taken (At (MoveFull slot header cell tag)) steps stamp holds is =
      one_stamp (stamp_in place.form header) stamp steps holds.0 is.1
  by_taken (At (MoveFlag slot header)) steps stamp holds is =
      one_stamp (stamp_in place.form header) stamp steps holds is.1
  by_taken (At (MoveBack header cell tag)) steps stamp holds is =
      one_stamp (stamp_in place.form header) stamp steps holds.0 is.1

  -- 3. After any words

  pub holds_after : (words : List ℕ)
      → HoldsNow (after_words (running (moving place cells)) words).state
      (steps_by (running (moving place cells)) words)
  holds_after words =
      past.history (move_verb place cells) (move_after place cells) (known_address place cells 0)
      (later (place_end place) (cells_end cells)) (move_left place cells) Holds keeps (At MoveCount) [] refl words

  pub claimed_is : (words : List ℕ) (stamp : Stamp)
      → claimed_in place (after_words (running (moving place cells)) words).state ≡ Some stamp
      → IsClaimed stamp (after_words (running (moving place cells)) words).state
      (steps_by (running (moving place cells)) words)
  claimed_is words stamp = taken_by _ _ stamp (holds_after words)

  pub is_claimed : (words : List ℕ) (stamp : Stamp)
      → IsClaimed stamp (after_words (running (moving place cells)) words).state
      (steps_by (running (moving place cells)) words)
      → claimed_in place (after_words (running (moving place cells)) words).state ≡ Some stamp
  is_claimed words stamp = by_taken _ _ stamp (holds_after words)
