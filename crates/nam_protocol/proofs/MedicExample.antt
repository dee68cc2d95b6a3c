-- A worker of form Held that is cut is finished by its medic: a verb in each of its turns, and no line is asked.
use Rattle.std.proofs.Common.{◌≡◌, ℕ, true, false, List, [], ◌∷◌, map, replicate, Some, refl}
use Rattle.si_model.specs.declared.log.Finish.TheVariants.{Clean, Undone, RolledOn}
use Rattle.si_model.specs.declared.log.Event.TheVariants.{Finished}
use Rattle.si_model.specs.declared.log.Outcome.TheVariants as outcome
use Rattle.si_model.specs.declared.op.Op.TheVariants.{Put}
use Rattle.nam_catalog.specs.declared.form.Form.TheVariants.{Held}
use Rattle.nam_header.specs.Stamp.{stamp_word, with_lock}
use Rattle.nam_layout.specs.declared.field.Field.{Field}
use Rattle.nam_layout.specs.declared.field.Field.TheVariants.{Header}
use Rattle.nam_calls.specs.declared.intent.IntentPhase.{IntentPhase}
use Rattle.nam_calls.specs.declared.intent.IntentPhase.TheVariants.{Listed, Decided}
use Rattle.nam_calls.specs.declared.intent.IntentKind.TheVariants.{Value}
use Rattle.nam_calls.specs.Intent.{state_field, number_field, row_field, kind_field, count_field, data_field}
use Rattle.nam_calls.specs.Intent.{state_word, kind_word}
use Rattle.nam_calls.specs.Memory.{with_word}
use Rattle.nam_protocol.specs.Schedule.{Scenario, Stints, opened, run_to_end, until_ended, stint_workers, picked}
use Rattle.nam_protocol.specs.Schedule.{after_workers}
use Rattle.nam_protocol.specs.Session.{settle, has_ended}
use Rattle.nam_protocol.specs.Opening.{copies, load_from}
use Rattle.nam_protocol.specs.World.{World, Turn, Step, Cut, after_turns}
use Rattle.nam_protocol.specs.Closed.{closed}
use Rattle.nam_protocol.proofs.Shown.{shape, table, loaded, txn, stint, up, fuse, row, tried, unbegun, shown}

unfoldable puts_of_form_held : Scenario
puts_of_form_held = record {
  shape = shape Held 2 (table 1 2 2 ∷ []) 1 1 0;
  rows = loaded 0 0 (0 ∷ []) ∷ loaded 0 1 (0 ∷ []) ∷ [];
  policy = record { tries = 1; tidy = false };
  txns = txn 1 (Put 0 0 (1 ∷ []) ∷ Put 0 1 (1 ∷ []) ∷ []) ∷ [];
  schedule = Stints (stint 1 100 ∷ []);
}

-- 1. No intent

cut_at_the_begin : shown puts_of_form_held (fuse 2 ∷ up ∷ []) ≡ record {
  logs =
      record {
        events = unbegun 1 1 outcome.Cut ∷ Finished Clean ∷ [];
        reads = [];
        locks = [];
        writes = [];
        snaps = [];
      } ∷
      record { events = []; reads = []; locks = []; writes = []; snaps = [] } ∷
      [];
  audit = row 0 0 (Some (0 ∷ [])) false ∷ row 0 1 (Some (0 ∷ [])) false ∷ [];
}
unfolding puts_of_form_held stint_workers picked after_workers until_ended settle copies load_from
cut_at_the_begin = refl

cut_in_an_operation : shown puts_of_form_held (fuse 5 ∷ up ∷ []) ≡ record {
  logs =
      record {
        events = tried 1 1 0 0 0 0 outcome.Cut ∷ Finished Clean ∷ [];
        reads = [];
        locks = [];
        writes = [];
        snaps = (0 ∷ 0 ∷ []) ∷ [];
      } ∷
      record { events = []; reads = []; locks = []; writes = []; snaps = [] } ∷
      [];
  audit = row 0 0 (Some (0 ∷ [])) false ∷ row 0 1 (Some (0 ∷ [])) false ∷ [];
}
unfolding puts_of_form_held stint_workers picked after_workers until_ended settle copies load_from
cut_in_an_operation = refl

-- the refused verb is asked for; the medic's is not, and is no verb of the line's
asked_lines : map (λ line. line.asked) (run_to_end 1000000 puts_of_form_held (fuse 2 ∷ up ∷ [])).lines ≡ 2 ∷ 0 ∷ []
unfolding puts_of_form_held stint_workers picked after_workers until_ended settle copies load_from
asked_lines = refl

-- 2. A hand-laid intent

abbrev lay : List (Field × ℕ) → World → World
lay [] world = world
lay (laid ∷ rest) world =
    lay rest (record world { words = with_word puts_of_form_held.shape world.words laid.0 laid.1 })

-- worker 1 is cut after one verb, where these words stand; then it has so many turns
abbrev finished : List (Field × ℕ) → ℕ → World
finished words turns =
    after_turns puts_of_form_held.shape
    (lay words (after_turns puts_of_form_held.shape (opened puts_of_form_held []).world (Step 1 ∷ Cut 1 ∷ [])))
    (replicate {A = Turn} turns (Step 1))

abbrev one_record : IntentPhase → List (Field × ℕ)
one_record phase =
    (Header 0, with_lock Held 1 (stamp_word Held record { thread = 0; number = 0 })) ∷ (row_field 1 0, 0)
    ∷ (kind_field 1 0, kind_word Value) ∷ (count_field 1 0, 1) ∷ (data_field 1 0 0, 5) ∷ (number_field 1, 1)
    ∷ (state_field 1, state_word 1 phase) ∷ []

undone : closed puts_of_form_held.shape (finished (one_record Listed) 5) ≡ record {
  logs =
      record {
        events = unbegun 1 1 outcome.Cut ∷ Finished Undone ∷ [];
        reads = [];
        locks = [];
        writes = [];
        snaps = [];
      } ∷
      record { events = []; reads = []; locks = []; writes = []; snaps = [] } ∷
      [];
  audit = row 0 0 (Some (0 ∷ [])) false ∷ row 0 1 (Some (0 ∷ [])) false ∷ [];
}
unfolding puts_of_form_held settle copies load_from
undone = refl

rolled_on : closed puts_of_form_held.shape (finished (one_record Decided) 20) ≡ record {
  logs =
      record {
        events = unbegun 1 1 outcome.Cut ∷ Finished RolledOn ∷ [];
        reads = [];
        locks = [];
        writes = [];
        snaps = [];
      } ∷
      record { events = []; reads = []; locks = []; writes = []; snaps = [] } ∷
      [];
  audit = row 0 0 (Some (5 ∷ [])) false ∷ row 0 1 (Some (0 ∷ [])) false ∷ [];
}
unfolding puts_of_form_held settle copies load_from
rolled_on = refl

-- a session that is cut has not ended before its medic has answered, and is not cut twice
ends_with_its_medic : map (λ turns. map has_ended (finished (one_record Listed) turns).sessions) (0 ∷ 4 ∷ 5 ∷ [])
    ≡ (false ∷ true ∷ []) ∷ (false ∷ true ∷ []) ∷ (true ∷ true ∷ []) ∷ []
unfolding puts_of_form_held settle copies load_from
ends_with_its_medic = refl

cut_again : after_turns puts_of_form_held.shape (finished (one_record Listed) 2) (Cut 1 ∷ [])
    ≡ finished (one_record Listed) 2
unfolding puts_of_form_held settle copies load_from
cut_again = refl
