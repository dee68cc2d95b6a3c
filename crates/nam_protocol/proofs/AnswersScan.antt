-- Each word of a scan keeps what its client carries, and its answer tells.
use Rattle.std.specs.Prelude.{nat_le, nat_lt, slice_index}
use Rattle.std.proofs.Common.{◌≡◌, ℕ, ◌+◌, ◌-◌, ◌<◌, ◌≤◌, true, List, [], ◌∷◌, ◌++◌, map, length, Option, Some, None}
use Rattle.std.proofs.Common.{refl, ap, suc, arith}
use Rattle.std.proofs.lemmas.List.{length-map, length_push}
use Rattle.std.specs.List.{AllByRecursion}
use Rattle.std.proofs.lemmas.Bool.{and_parts}
use Rattle.std.proofs.lemmas.Bool.Decides.{nat_tests}
use Rattle.si_model.specs.declared.row.Item.{Item}
use Rattle.si_model.specs.Rows.{key_at, writes_key}
use Rattle.si_model.specs.declared.log.Outcome.TheVariants as outcome
use Rattle.nam_verbs.specs.declared.now.Now.{Now}
use Rattle.nam_verbs.specs.declared.now.Now.TheVariants.{At, Over}
use Rattle.nam_verbs.proofs.TestLemmas.{by_equal, by_test}
use Rattle.nam_catalog.specs.declared.shape.Shape.{Shape}
use Rattle.nam_calls.specs.Reading.{read_begin, sight_of}
use Rattle.nam_calls.specs.Words.{capacity_of}
use Rattle.nam_protocol.specs.declared.client.Answer.{Answer}
use Rattle.nam_protocol.specs.declared.client.CallPoint.TheVariants.{Scanning}
use Rattle.nam_protocol.specs.declared.client.ClientState.{ClientState}
use Rattle.nam_protocol.specs.declared.client.Open.{Open}
use Rattle.nam_protocol.specs.declared.client.Scanned.{Scanned}
use Rattle.nam_protocol.specs.declared.scan.ScanAnswer.{ScanAnswer}
use Rattle.nam_protocol.specs.declared.scan.ScanPoint.{ScanPoint}
use Rattle.nam_protocol.specs.declared.scan.ScanPoint.TheVariants.{ScanKey, ScanRead}
use Rattle.nam_protocol.specs.AnswersLaw.{ScanTells}
use Rattle.nam_protocol.specs.Carries.{AreBetween, IsBetween, KeyBetween}
use Rattle.nam_protocol.specs.Log.{with_event, with_reads, attempt_of}
use Rattle.nam_protocol.specs.Operations.{own_value}
use Rattle.nam_protocol.specs.Scan.{in_range, scan_after, scan_skip, position_of}
use Rattle.nam_protocol.specs.ScanCall.{inserted, item_of, on_scan, on_skip, scanned_items, sorted_onto}
use Rattle.nam_protocol.specs.ScanCall.{with_gathered, scan_listed}
use Rattle.nam_protocol.specs.Telling.{go}
use Rattle.nam_protocol.proofs.AnswersOps.{Good, TakesNone, none_took, passed_facts}
use Rattle.nam_protocol.proofs.GoesParts.{scan_read_goes}
use Rattle.nam_protocol.specs.declared.scan.ScanAnswer.TheVariants as scan_answer

-- 1. The rows, sorted

module _ (P : Scanned → Type 0) where
  all_inserted : (row : Scanned) (rows : List Scanned) → P row → AllByRecursion P rows
      → AllByRecursion P (inserted row rows)
  all_inserted row [] p all = (p, tt)
  all_inserted row (r ∷ rs) p all =
      by_test (AllByRecursion P) (nat_lt row.key r.key) (row ∷ r ∷ rs) (r ∷ inserted row rs) (λ e. (p, all))
      (λ e. (all.0, all_inserted row rs p all.1))

  all_sorted : (done rows : List Scanned) → AllByRecursion P done → AllByRecursion P rows
      → AllByRecursion P (sorted_onto done rows)
  all_sorted done [] all more = all
  all_sorted done (row ∷ rows) all more =
      all_sorted (inserted row done) rows (all_inserted row done more.0 all) more.1

  all_pushed : (rows : List Scanned) (row : Scanned) → AllByRecursion P rows → P row
      → AllByRecursion P (rows ++ row ∷ [])
  all_pushed [] row all p = (p, tt)
  all_pushed (r ∷ rs) row all p = (all.0, all_pushed rs row all.1 p)

length_inserted : (row : Scanned) (rows : List Scanned) → length (inserted row rows) ≡ suc (length rows)
length_inserted row [] = refl
length_inserted row (r ∷ rs) =
    by_test (λ rows. length rows ≡ suc (suc (length rs))) (nat_lt row.key r.key) (row ∷ r ∷ rs) (r ∷ inserted row rs)
    (λ e. refl) (λ e. ap suc (length_inserted row rs))

length_sorted : (done rows : List Scanned) → length (sorted_onto done rows) ≡ length done + length rows
length_sorted done [] = let n = length done in omega arith
length_sorted done (row ∷ rows) =
    let more = length_inserted row done in
    let all = length_sorted (inserted row done) rows in
    omega arith

items_between : (table low high : ℕ) (rows : List Scanned) → AreBetween low high rows
    → AllByRecursion (λ (item : Item). (item.table ≡ table) × IsBetween low high item.key) (map (item_of table) rows)
items_between table low high [] all = tt
items_between table low high (row ∷ rows) all = ((refl, all.0), items_between table low high rows all.1)

-- 2. What a word of the scan says

module _ (shape : Shape) (table low high : ℕ) (seen : List ℕ) (word : ℕ) where
  abbrev Says : ℕ → Now ScanPoint ScanAnswer → Type 0
  Says position (At place) = KeyBetween low high place × (position ≤ position_of place)
  Says position (Over (scan_answer.Key key)) = IsBetween low high key
  Says position (Over (scan_answer.Row item)) = IsBetween low high item.key
  Says position (Over (scan_answer.TooOld worker entry horizon)) =
      (entry ≡ slice_index seen (worker - 1)) × (horizon ≡ word) × (entry < horizon)
  Says position _ = Unit {0}

  skip_says : (position : ℕ) → Says position (scan_skip shape table position)
  skip_says position =
      by_equal (Says position) (position + 1) (capacity_of shape table) (Over scan_answer.Done)
      (At (ScanKey (position + 1)))
      (λ e. tt) (λ e. (tt, omega arith))

  pub after_says : (at : ScanPoint) → KeyBetween low high at
      → Says (position_of at) (scan_after shape table low high seen at word)
  after_says (ScanKey position) between =
      by_test (Says position) (in_range low high word) _ _
      (λ e. let ends = and_parts (nat_le (low + 1) word) (nat_le word (high + 1)) e in
      (ranged ends.0 ends.1))
      (λ e. skip_says position)
    where
      ranged : nat_le (low + 1) word ≡ true → nat_le word (high + 1) ≡ true → IsBetween low high (word - 1)
      ranged a b = (grind (arith, nat_tests), grind (arith, nat_tests))
  after_says (ScanRead position key at) between =
      scan_read_goes table (Says position) position key _ (λ next e. (between, omega arith)) (λ value e. between)
      (λ worker entry horizon e. passed_facts (sight_of shape table position) seen at word worker entry horizon e)
      (λ e. tt)

-- 3. What follows it

module _ (shape : Shape) (attempt : Open) (table low high word : ℕ) (before : ClientState) where
  abbrev Tells : ClientState → Answer → Type 0
  Tells after = ScanTells shape word before after (Some attempt) table low high

  abbrev opens : ClientState → ClientState
  opens client = record client { txn = Some attempt }

  goes_on : (client : ClientState) (place : ScanPoint) → TakesNone client attempt → AreBetween low high client.scanned
      → length client.scanned ≤ position_of place → KeyBetween low high place
      → Good Tells (go (opens client) (Scanning table low high place))
  goes_on client place rest rows few between = (
    record {
      opened = record {
        last_is = rest.last_is;
        took = none_took _ _ rest.held rest.locks;
        held = rest.held;
        point = tt;
      };
      scanned = (rows, between, few);
      collected = tt;
    },
    tt,
  )

  lists : (client : ClientState) → client.log ≡ before.log → TakesNone client attempt
      → AreBetween low high client.scanned → length client.scanned ≤ capacity_of shape table
      → Good Tells (scan_listed (opens client) attempt table)
  lists client log rest rows few = (
    record {
      opened = record {
        last_is = rest.last_is;
        took = none_took _ _ rest.held rest.locks;
        held = rest.held;
        point = tt;
      };
      scanned = tt;
      collected = tt;
    },
    (
      record {
        items = scanned_items table client.scanned;
        number_is = refl;
        between =
            items_between table low high (sorted_onto [] client.scanned)
            (all_sorted (λ row. IsBetween low high row.key) [] client.scanned tt rows);
        log = ap (λ l. with_reads l (scanned_items table client.scanned)) log;
        opened = refl;
      },
      (let sorted = length_sorted [] client.scanned in
          let mapped = length-map (sorted_onto [] client.scanned) (item_of table) in
          omega arith),
    ),
  )

  skips : (client : ClientState) → client.log ≡ before.log → TakesNone client attempt
      → AreBetween low high client.scanned → (position : ℕ) → length client.scanned ≤ position + 1
      → position < capacity_of shape table
      → Good Tells (on_skip (opens client) attempt table low high (scan_skip shape table position))
  skips client log rest rows position few within =
      by_equal (λ now. Good Tells (on_skip (opens client) attempt table low high now)) (position + 1)
      (capacity_of shape table) _ _ (λ e. lists client log rest rows (omega arith))
      (λ e. goes_on client (ScanKey (position + 1)) rest rows few tt)

  gathered : (client : ClientState) → client.log ≡ before.log → TakesNone client attempt
      → AreBetween low high client.scanned → (position key : ℕ) → length client.scanned ≤ position
      → position < capacity_of shape table → IsBetween low high key → (value : Option (List ℕ))
      → Good Tells
      (on_skip (with_gathered (opens client) position key value) attempt table low high
      (scan_skip shape table position))
  gathered client log rest rows position key few within between None =
      skips client log rest rows position (omega arith) within
  gathered client log rest rows position key few within between (Some value) =
      let row : Scanned = record { position = position; key = key; value = value } in
      skips (record client { scanned = client.scanned ++ row ∷ [] }) log
      record { last_is = rest.last_is; locks = rest.locks; held = rest.held }
      (all_pushed (λ r. IsBetween low high r.key) client.scanned row rows between) position
      (let more = length_push client.scanned row in omega arith) within

  pub scan_good : (client : ClientState) → client.log ≡ before.log → TakesNone client attempt
      → AreBetween low high client.scanned → (position : ℕ) → length client.scanned ≤ position
      → position < capacity_of shape table → (now : Now ScanPoint ScanAnswer)
      → Says shape table low high attempt.state.seen word position now
      → Good Tells (on_scan shape (opens client) attempt table low high position now)
  scan_good client log rest rows position few within (At place) says =
      (let ahead = says.1 in goes_on client place rest rows (omega arith) says.0)
  scan_good client log rest rows position few within (Over (scan_answer.Key key)) says =
      let own = key_at table key in
      by_test (Good Tells) (writes_key attempt.state.writes own) _ _
      (λ e. gathered client log rest rows position key few within says (own_value attempt.state.writes own))
      (λ e. goes_on client (ScanRead position key read_begin) rest rows few says)
  scan_good client log rest rows position few within (Over (scan_answer.Row item)) says =
      gathered client log rest rows position item.key few within says item.value
  scan_good client log rest rows position few within (Over scan_answer.Done) says =
      lists client log rest rows (omega arith)
  scan_good client log rest rows position few within (Over (scan_answer.TooOld worker entry horizon)) says = (
    record { opened = tt; scanned = tt; collected = tt },
    record {
      entry_is = says.0;
      horizon_is = says.1;
      above = says.2;
      log = ap (λ l. with_event l (attempt_of attempt (outcome.TooOld worker entry horizon) 0)) log;
    },
  )
  scan_good client log rest rows position few within (Over scan_answer.Astray) says = (
    record { opened = tt; scanned = tt; collected = tt },
    ap (λ l. with_event l (attempt_of attempt outcome.Left 0)) log,
  )
