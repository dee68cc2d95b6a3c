-- The operation that an attempt stopped at is looked for among all, so that an attempt without one is seen by
-- computing.
use Rattle.std.proofs.Common.{◌≡◌, ℕ, zero, suc, Bool, true, false, List, [], ◌∷◌, ◌++◌, refl, ap, sym, subst}
use Rattle.std.proofs.Common.{Option, Some, None, take, length, arith, append-nil}
use Rattle.std.specs.Prelude.{◌==◌, ◌&&◌, ◌||◌, not}
use Rattle.std.specs.List.{AllByRecursion}
use Rattle.std.proofs.lemmas.Bool.Decides.{nat_tests}
use Rattle.std.proofs.lemmas.List.{append_assoc}
use Rattle.si_model.specs.declared.row.Key.{Key}
use Rattle.si_model.specs.declared.op.Op.{Op}
use Rattle.si_model.specs.declared.log.Attempt.{Attempt}
use Rattle.si_model.specs.declared.log.Outcome.{Outcome}
use Rattle.si_model.specs.declared.log.Outcome.TheVariants.{NoSpace, TooOld}
use Rattle.si_model.specs.declared.log.Event.{Event}
use Rattle.si_model.specs.declared.log.Event.TheVariants.{Tried}
use Rattle.si_model.specs.declared.evaluated.Evaluated.{Evaluated}
use Rattle.si_model.specs.Lists.{StandsAt}
use Rattle.si_model.specs.Evaluation.{key_claimed, ops_claim, reads_from}
use Rattle.si_model.specs.Tells.{Tell}
use Rattle.si_model.specs.View.{View}
use Rattle.si_model.specs.Setting.{Setting, Asked, by_script, is_crowded}
use Rattle.si_model.specs.Answers.{LacksRoom, reads_overtaken, AnswersWith, AnswersWithout, AnswersOn, AnswersIn}
use Rattle.si_model.specs.Answers.{AnswersMatch}
use Rattle.si_model.specs.Run.{IsWorkerRun}
use Rattle.si_model.proofs.PartingSearch.{or_left, or_right}

-- does an operation pass the test after those before it
abbrev pub any_place : (List Op → Op → Bool) → List Op → List Op → Bool
any_place test before [] = false
any_place test before (op ∷ ops) = test before op || any_place test (before ++ op ∷ []) ops

placed : (test : List Op → Op → Bool) (before : List Op) (k : ℕ) (op : Op) (ops : List Op) → StandsAt k op ops
    → test (before ++ take k ops) op ≡ true → any_place test before ops ≡ true
placed test before zero op [] (rest, same) h = absurd cc
placed test before zero op (o ∷ ops) (rest, same) h =
    let here : o ≡ op = cc in
    let first : test before op ≡ true = subst (λ front. test front op ≡ true) (append-nil before) h in
    or_left _ _ (subst (λ x. test before x ≡ true) (sym here) first)
placed test before (suc k) op [] (rest, same) h = absurd cc
placed test before (suc k) op (o ∷ ops) stands h =
    or_right _ _ (placed test (before ++ o ∷ []) k op ops stands
    (subst (λ front. test front op ≡ true) (sym (append_assoc before (o ∷ []) (take k ops))) h))

-- is there a key, of the crowded table, and new after these operations
abbrev pub room_lacking : Setting → Asked → ℕ → List Op → Option Key → Bool
room_lacking s asked table before None = false
room_lacking s asked table before (Some key) =
    (key.table == table) && (not (ops_claim key before) && is_crowded s asked key)

abbrev pub lacks_room : Setting → Asked → ℕ → List Op → Op → Bool
lacks_room s asked table before op = room_lacking s asked table before (key_claimed op)

room_lacked : (s : Setting) (asked : Asked) (table : ℕ) (before : List Op) (op : Op) → LacksRoom s asked table before op
    → lacks_room s asked table before op ≡ true
room_lacked s asked table before op (key, (claimed, same, new), crowded) =
    let here : (key.table == table) ≡ true = grind (arith, nat_tests) in
    subst (λ found. room_lacking s asked table before found ≡ true) (sym claimed) (rw (here, new) crowded)

-- may the operation have been too old, so that as many reads are listed as those before it give
abbrev pub too_old_at : Setting → View → Tell → List Op → Op → Bool
too_old_at s v t before op =
    reads_overtaken v t before op && (length t.reads == length (reads_from s.widths (v.value t) [] before))

module _ (s : Setting) (v : View) (t : Tell) where
  abbrev pub outcome_placed : Outcome → Bool
  outcome_placed (NoSpace table) = any_place (lacks_room s (by_script s) table) [] t.ops
  outcome_placed (TooOld i entry horizon) = any_place (too_old_at s v t) [] t.ops
  outcome_placed outcome = true

  -- where an attempt had no position, or was too old: is there an operation that this can be said of
  abbrev pub is_placed : Event → Bool
  is_placed (Tried a) = outcome_placed a.outcome
  is_placed event = true

outcome_places : (s : Setting) (v : View) (j : ℕ) (t : Tell) (a : Attempt) (e : Evaluated) (p : ℕ) (o : Outcome)
    → AnswersWith s (by_script s) v j t a e p o → outcome_placed s v t o ≡ true
outcome_places s v j t a e p (NoSpace table) (k, op, stands, lacks, reads, none) =
    placed (lacks_room s (by_script s) table) [] k op t.ops stands
    (room_lacked s (by_script s) table (take k t.ops) op lacks)
outcome_places s v j t a e p (TooOld i entry horizon) (k, op, stands, overtaken, reads, none) =
    let many : length t.reads ≡ length (reads_from s.widths (v.value t) [] (take k t.ops)) = ap length reads.1 in
    let same : (length t.reads == length (reads_from s.widths (v.value t) [] (take k t.ops))) ≡ true =
    grind (arith, nat_tests) in
    placed (too_old_at s v t) [] k op t.ops stands (rw (overtaken, same) refl)
outcome_places s v j t a e p outcome h = refl

untaken_places : (s : Setting) (v : View) (t : Tell) (o : Outcome) → AnswersWithout t o → outcome_placed s v t o ≡ true
untaken_places s v t (NoSpace table) h = absurd h
untaken_places s v t (TooOld i entry horizon) h = absurd h
untaken_places s v t outcome h = refl

prefix_places : (s : Setting) (v : View) (j : ℕ) (t : Tell) (a : Attempt) (p : Option ℕ)
    → AnswersOn s (by_script s) v j t a p → outcome_placed s v t a.outcome ≡ true
prefix_places s v j t a None h = untaken_places s v t a.outcome h
prefix_places s v j t a (Some p) h = outcome_places s v j t a _ p a.outcome h.0

event_places : (s : Setting) (v : View) (j : ℕ) (t : Tell) (e : Event) → AnswersIn s (by_script s) v j t e
    → is_placed s v t e ≡ true
event_places s v j t (Tried a) h = prefix_places s v j t a a.prefix h
event_places s v j t event h = refl

all_placed : (s : Setting) (v : View) (j : ℕ) (ts : List Tell) → AnswersMatch s (by_script s) v j ts
    → AllByRecursion (λ t. is_placed s v t t.event ≡ true) ts
all_placed s v j [] h = tt
all_placed s v j (t ∷ ts) h = (event_places s v j t t.event h.0, all_placed s v j ts h.1)

pub places_may : {s : Setting} {v : View} {tss : List (List Tell)} {j : ℕ} {ts : List Tell} → IsWorkerRun s v tss j ts
    → AllByRecursion (λ t. is_placed s v t t.event ≡ true) ts
places_may {s} {v} {tss} {j} {ts} run = all_placed s v j ts run.answers
