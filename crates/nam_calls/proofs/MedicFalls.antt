-- The verbs to come fall in the medic.
use Rattle.std.specs.List.{AllByRecursion}
use Rattle.std.specs.Prelude.{nat_lt, nat_le, is_some}
use Rattle.std.proofs.Common.{◌≡◌, ℕ, ◌+◌, ◌-◌, ◌*◌, ◌<◌, ◌≤◌, ◌==◌, List, [], ◌∷◌, ◌++◌, length, length-append}
use Rattle.std.proofs.Common.{Option, Some, None, refl, arith}
use Rattle.std.proofs.lemmas.Bool.Decides.{nat_tests}
use Rattle.si_model.specs.declared.log.Finish.TheVariants.{Clean}
use Rattle.nam_verbs.specs.declared.now.Now.{Now}
use Rattle.nam_verbs.specs.declared.now.Now.TheVariants.{At, Over}
use Rattle.nam_verbs.specs.Falls.{Falls, Any}
use Rattle.nam_verbs.proofs.TestLemmas.{by_test}
use Rattle.nam_catalog.specs.declared.bounds.TheConstants.{MOST_KEYS}
use Rattle.nam_catalog.specs.declared.shape.Shape.{Shape}
use Rattle.nam_catalog.specs.Fits.{FitsLimits}
use Rattle.nam_catalog.specs.Greatest.{greatest_number}
use Rattle.nam_layout.specs.declared.field.Place.{Place}
use Rattle.nam_layout.specs.Rows.{rows_in}
use Rattle.nam_layout.specs.Address.{IsRow}
use Rattle.nam_layout.specs.Place.{place_at}
use Rattle.nam_layout.specs.PlaceFits.{FitsPlace}
use Rattle.nam_layout.proofs.LimitLemmas.{place_within_limits}
use Rattle.nam_calls.specs.declared.intent.IntentPhase.{IntentPhase}
use Rattle.nam_calls.specs.declared.intent.IntentPhase.TheVariants.{Listed, Decided}
use Rattle.nam_calls.specs.declared.intent.IntentState.{IntentState}
use Rattle.nam_calls.specs.declared.intent.IntentKind.{IntentKind}
use Rattle.nam_calls.specs.declared.intent.IntentKind.TheVariants.{Value, Deletion, Guard}
use Rattle.nam_calls.specs.declared.record.InstallPoint.{InstallPoint}
use Rattle.nam_calls.specs.declared.ring.CopyPoint.{CopyPoint}
use Rattle.nam_calls.specs.declared.medic.Walk.{Walk}
use Rattle.nam_calls.specs.declared.medic.NextVersion.{NextVersion}
use Rattle.nam_calls.specs.declared.medic.MedicPoint.{MedicPoint}
use Rattle.nam_calls.specs.declared.medic.MedicPoint.TheVariants.{MedicState, UndoRow, UndoHead, UndoBack, UndoClear}
use Rattle.nam_calls.specs.declared.medic.MedicPoint.TheVariants.{RollNumber, RollRow, RollKind, RollCount, RollData}
use Rattle.nam_calls.specs.declared.medic.MedicPoint.TheVariants.{RollHead, RollSlot, RollOld, RollCopy, RollInstall}
use Rattle.nam_calls.specs.declared.medic.MedicPoint.TheVariants.{RollEntry, GuardRow, GuardKind, GuardHead}
use Rattle.nam_calls.specs.declared.medic.MedicPoint.TheVariants.{GuardBack, RollClear}
use Rattle.nam_calls.specs.Intent.{state_in, kind_in}
use Rattle.nam_calls.specs.Medic.{MedicNow, holds_lock, is_copied, on_row, next_undo, on_phase, on_state, this_record}
use Rattle.nam_calls.specs.Medic.{next_record, new_walk, on_kind, next_version, install_next, on_old, on_copy}
use Rattle.nam_calls.specs.Medic.{on_install, next_guard, medic_after}
use Rattle.nam_calls.specs.MedicLeft.{medic_left, medic_most, record_most, walk_left}
use Rattle.nam_calls.specs.Record.{install_begin, install_left, words_after, install_after}
use Rattle.nam_calls.specs.Ring.{copy_after}
use Rattle.nam_calls.specs.Fits.{InstallFits, WordsEnd}
use Rattle.nam_calls.specs.MedicFits.{MedicFits, WalkFits, NextFits, GuardsFit, IsListed}
use Rattle.nam_calls.specs.MedicLaw.{MedicFallsLaw, MedicBeginsLaw}
use Rattle.nam_calls.proofs.FallsTests.{either, one_more}
use Rattle.nam_calls.proofs.FallsMachines.{WordsFall, words_fall, InstallFalls, install_falls, CopyFalls, copy_falls}
use Rattle.nam_calls.proofs.IntentLemmas.{state_written}

-- one more record is listed
listed_push : (guards : List ℕ) (nth : ℕ) → AllByRecursion IsListed guards → IsListed nth
    → AllByRecursion IsListed (guards ++ nth ∷ [])
listed_push [] nth all is = (is, tt)
listed_push (g ∷ gs) nth all is = (all.0, listed_push gs nth all.1 is)

-- the begin of an install
install_begins : (place : Place) (value : Option (List ℕ)) → 1 ≤ place.width
    → InstallFits place (install_begin value) × (install_left place (install_begin value) ≤ place.width + 2)
install_begins place None least = (tt, omega arith)
install_begins place (Some value) least = (omega arith, omega arith)

-- a walk that may stand behind its last record
record Reaches (shape : Shape) (walk : Walk) : Type 0 where
  few : walk.records ≤ MOST_KEYS
  reached : walk.nth ≤ walk.records
  number : walk.number ≤ greatest_number shape.form
  before : length walk.guards ≤ walk.nth
  are_listed : AllByRecursion IsListed walk.guards

module _ (shape : Shape) (worker : ℕ) (limits : FitsLimits shape) where
  abbrev MedicFall : ℕ → MedicNow → Type 0
  MedicFall = Falls (MedicFits shape) Any (medic_left shape)

  row_fits : (row : ℕ) → IsRow shape row → FitsPlace (place_at shape row)
  row_fits row is = place_within_limits shape row limits is

  on_row_falls : (found n : ℕ) (point : MedicPoint) → (IsRow shape found → MedicFits shape point)
      → medic_left shape point < n → MedicFall n (on_row shape found point)
  on_row_falls found n point fits less =
      by_test (MedicFall n) (nat_lt found (rows_in shape.tables)) (At point) (Over Clean)
      (λ e. (fits (grind (arith, nat_tests)), less)) (λ e. (tt, omega arith))

  -- 1. A commit that is only listed

  next_undo_falls : (records nth n : ℕ) → records ≤ MOST_KEYS → nth ≤ records → 3 * (records - nth) + 1 < n
      → MedicFall n (next_undo records nth)
  next_undo_falls records nth n few l m =
      by_test (MedicFall n) (nth == records) (At UndoClear) (At (UndoRow records nth)) (λ e. (tt, omega arith))
      (λ e. let less : nth < records = grind (arith, nat_tests) in ((few, less), omega arith))

  on_phase_falls : (records : ℕ) (phase : IntentPhase) → records ≤ MOST_KEYS
      → MedicFall medic_most (on_phase records phase)
  on_phase_falls records Listed few = next_undo_falls records 0 medic_most few (omega arith) (omega arith)
  on_phase_falls records Decided few = (few, omega arith)

  on_state_falls : (state : Option IntentState) → ((s : IntentState) → state ≡ Some s → s.records ≤ MOST_KEYS)
      → MedicFall medic_most (on_state state)
  on_state_falls None few = (tt, omega arith)
  on_state_falls (Some state) few = on_phase_falls state.records state.phase (few state refl)

  -- 2. The walk

  this_record_falls : (walk : Walk) (n : ℕ) → Reaches shape walk
      → (walk.records - walk.nth) * record_most + 4 * length walk.guards + 2 < n
      → MedicFall n (this_record walk)
  this_record_falls walk n r m =
      let few = r.few in
      let reached = r.reached in
      let before = r.before in
      by_test (MedicFall n) (walk.nth == walk.records) (At (RollEntry walk.number walk.guards)) (At (RollRow walk))
      (λ e. ((r.number, record { few = omega arith; are_listed = r.are_listed }), omega arith))
      (λ e.
      let less : walk.nth < walk.records = grind (arith, nat_tests) in (
        record { is_record = (few, less); number = r.number; before = before; are_listed = r.are_listed },
        omega arith,
      ))

  next_record_falls : (walk : Walk) (n : ℕ) → WalkFits shape walk → walk_left walk < n
      → MedicFall n (next_record walk)
  next_record_falls walk n fits m =
      let less = fits.is_record.1 in
      let before = fits.before in
      this_record_falls (record walk { nth = walk.nth + 1 }) n
      record {
        few = fits.is_record.0;
        reached = omega arith;
        number = fits.number;
        before = omega arith;
        are_listed = fits.are_listed;
      }
      (omega arith)

  guard_falls : (walk : Walk) (n : ℕ) → WalkFits shape walk → walk_left walk + 4 < n
      → MedicFall n (next_record (record walk { guards = walk.guards ++ walk.nth ∷ [] }))
  guard_falls walk n fits m =
      let few = fits.is_record.0 in
      let less = fits.is_record.1 in
      let before = fits.before in
      let more : length (walk.guards ++ walk.nth ∷ []) ≡ length walk.guards + 1 =
      length-append walk.guards (walk.nth ∷ [])
      in
      this_record_falls (record walk { nth = walk.nth + 1; guards = walk.guards ++ walk.nth ∷ [] }) n
      record {
        few = few;
        reached = omega arith;
        number = fits.number;
        before = omega arith;
        are_listed = listed_push walk.guards walk.nth fits.are_listed (omega arith);
      }
      (omega arith)

  on_kind_falls : (walk : Walk) (row : ℕ) (kind : Option IntentKind) → WalkFits shape walk → IsRow shape row
      → MedicFall (medic_left shape (RollKind walk row)) (on_kind walk row kind)
  on_kind_falls walk row None fits is = (tt, omega arith)
  on_kind_falls walk row (Some Value) fits is =
      let w = (row_fits row is).most_width in ((fits, is), omega arith)
  on_kind_falls walk row (Some Deletion) fits is =
      let w = (row_fits row is).most_width in ((fits, is), omega arith)
  on_kind_falls walk row (Some Guard) fits is =
      guard_falls walk (medic_left shape (RollKind walk row)) fits (omega arith)

  -- 3. One record

  module _ (walk : Walk) (next : NextVersion) (fits : WalkFits shape walk) (is : NextFits shape next) where
    abbrev place : Place
    place = place_at shape next.row

    install_next_falls : (n : ℕ) → walk_left walk + (place.width + 2) < n → MedicFall n (At (install_next walk next))
    install_next_falls n m =
        let begins = install_begins place next.value (row_fits next.row is.0).least_width in
        let l = begins.1 in ((fits, is, begins.0), omega arith)

    on_old_falls : (header n : ℕ) (now : Now (List ℕ) (List ℕ)) → WordsFall place (row_fits next.row is.0) n now
        → MedicFall (walk_left walk + (n + (2 * place.width + 5))) (on_old walk next header now)
    on_old_falls header n (At got) h = ((fits, is, h.0), omega arith)
    on_old_falls header n (Over old) h = ((fits, is, h.0, tt), omega arith)

    on_copy_falls : (header n : ℕ) (old : List ℕ) (now : Now CopyPoint (Unit {0})) → WordsEnd place old
        → CopyFalls place (row_fits next.row is.0) n now
        → MedicFall (walk_left walk + (n + (place.width + 2))) (on_copy walk next header old now)
    on_copy_falls header n old (At at) whole h = ((fits, is, whole, h.0), omega arith)
    on_copy_falls header n old (Over done) whole h = install_next_falls _ (omega arith)

    on_install_falls : (n : ℕ) (now : Now InstallPoint (Unit {0})) → InstallFalls place (row_fits next.row is.0) n now
        → MedicFall (walk_left walk + n) (on_install walk next now)
    on_install_falls n (At at) h = ((fits, is, h.0), omega arith)
    on_install_falls n (Over done) h = next_record_falls walk (walk_left walk + n) fits (omega arith)

  -- 4. The guards

  next_guard_falls : (guards : List ℕ) (passed n : ℕ) → GuardsFit guards → passed ≤ length guards
      → 4 * (length guards - passed) + 1 < n
      → MedicFall n (next_guard guards passed)
  next_guard_falls guards passed n fits l m =
      by_test (MedicFall n) (passed == length guards) (At RollClear) (At (GuardRow guards passed))
      (λ e. (tt, omega arith))
      (λ e. let less : passed < length guards = grind (arith, nat_tests) in ((fits, less), omega arith))

  -- 5. Each point

  pub falls : (at : MedicPoint) (found : ℕ) → MedicFits shape at
      → MedicFall (medic_left shape at) (medic_after shape worker at found)
  falls MedicState found l = on_state_falls (state_in found) (λ state e. (state_written found state e).1)
  falls (UndoRow records nth) found l = on_row_falls found _ (UndoHead records nth found) (λ is. (l, is)) (omega arith)
  falls (UndoHead records nth row) found l =
      let n = medic_left shape (UndoHead records nth row) in
      let less = l.0.1 in
      either (MedicFall n) (holds_lock shape.form worker found) (At (UndoBack records nth row found))
      (next_undo records (nth + 1)) (l, omega arith)
      (next_undo_falls records (nth + 1) n l.0.0 (omega arith) (omega arith))
  falls (UndoBack records nth row header) found l =
      let less = l.0.1 in
      next_undo_falls records (nth + 1) (medic_left shape (UndoBack records nth row header)) l.0.0 (omega arith)
      (omega arith)
  falls UndoClear found l = (tt, omega arith)
  falls (RollNumber records) found l =
      let n = medic_left shape (RollNumber records) in
      by_test (MedicFall n) (nat_le found (greatest_number shape.form)) (this_record (new_walk records found))
      (Over Clean)
      (λ e. this_record_falls (new_walk records found) n
      record {
        few = l;
        reached = omega arith;
        number = grind (arith, nat_tests);
        before = omega arith;
        are_listed = tt;
      }
      (omega arith))
      (λ e. (tt, omega arith))
  falls (RollRow walk) found l = on_row_falls found _ (RollKind walk found) (λ is. (l, is)) (omega arith)
  falls (RollKind walk row) found l = on_kind_falls walk row (kind_in found) l.0 l.1
  falls (RollCount walk row deleted) found l =
      let w = (row_fits row l.1).least_width in
      either (MedicFall (medic_left shape (RollCount walk row deleted))) deleted
      (At (RollHead walk (next_version row found None)))
      (At (RollData walk row found []))
      ((l.0, (l.1, tt)), omega arith) ((l.0, l.1, omega arith), omega arith)
  falls (RollData walk row count got) found l =
      one_more (λ at. MedicFits shape at × (medic_left shape at < medic_left shape (RollData walk row count got)))
      (place_at shape row).width got found (RollData walk row count)
      (λ value. RollHead walk (next_version row count (Some value))) l.2
      (λ e m. ((l.0, l.1, m), omega arith))
      (λ e m. ((l.0, (l.1, m)), omega arith))
  falls (RollHead walk next) found l =
      let n = medic_left shape (RollHead walk next) in
      either (MedicFall n) (holds_lock shape.form worker found) (At (RollSlot walk next found)) (next_record walk)
      (l, omega arith)
      (next_record_falls walk n l.0 (omega arith))
  falls (RollSlot walk next header) found l =
      let n = medic_left shape (RollSlot walk next header) in
      let w = (row_fits next.row l.1.0).least_width in
      either (MedicFall n) (is_copied shape.form header found) (At (install_next walk next))
      (At (RollOld walk next header [])) (install_next_falls walk next l.0 l.1 n (omega arith))
      ((l.0, l.1, omega arith), omega arith)
  falls (RollOld walk next header got) found l =
      let fits = row_fits next.row l.1.0 in
      on_old_falls walk next l.0 l.1 header _ (words_after (place_at shape next.row) got found)
      (words_fall (place_at shape next.row) fits got found l.2)
  falls (RollCopy walk next header old at) found l =
      let fits = row_fits next.row l.1.0 in
      on_copy_falls walk next l.0 l.1 header _ old (copy_after (place_at shape next.row) at) l.2
      (copy_falls (place_at shape next.row) fits at l.3)
  falls (RollInstall walk next at) found l =
      let fits = row_fits next.row l.1.0 in
      on_install_falls walk next l.0 l.1 _ (install_after (place_at shape next.row) at)
      (install_falls (place_at shape next.row) fits at l.2)
  falls (RollEntry number guards) found l = next_guard_falls guards 0 _ l.1 (omega arith) (omega arith)
  falls (GuardRow guards passed) found l =
      on_row_falls found _ (GuardKind guards passed found) (λ is. (l, is)) (omega arith)
  falls (GuardKind guards passed row) found l =
      either (MedicFall (medic_left shape (GuardKind guards passed row))) (is_some (kind_in found))
      (At (GuardHead guards passed row)) (Over Clean) (l, omega arith) (tt, omega arith)
  falls (GuardHead guards passed row) found l =
      let n = medic_left shape (GuardHead guards passed row) in
      let less = l.0.1 in
      either (MedicFall n) (holds_lock shape.form worker found) (At (GuardBack guards passed row found))
      (next_guard guards (passed + 1)) (l, omega arith)
      (next_guard_falls guards (passed + 1) n l.0.0 (omega arith) (omega arith))
  falls (GuardBack guards passed row header) found l =
      let less = l.0.1 in
      next_guard_falls guards (passed + 1) (medic_left shape (GuardBack guards passed row header)) l.0.0 (omega arith)
      (omega arith)
  falls RollClear found l = (tt, omega arith)

pub falls_law : MedicFallsLaw
falls_law = falls

pub begins_law : MedicBeginsLaw
begins_law shape = (tt, omega arith)
