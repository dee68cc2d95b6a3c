-- The scan that runs takes a word.
use Rattle.std.proofs.Common.{◌≡◌, ℕ, ◌+◌, ◌-◌, ◌==◌, ◌<◌, ◌≤◌, Bool, true, false, List, Option, Some, if◌then◌else◌}
use Rattle.std.proofs.Common.{refl, sym, ap, ◌∙◌, subst, arith}
use Rattle.std.specs.Prelude.{IsNone, is_some}
use Rattle.nam_verbs.specs.declared.now.Now.{Now}
use Rattle.nam_verbs.specs.declared.now.Now.TheVariants.{At, Over}
use Rattle.nam_verbs.specs.Now.{end_now}
use Rattle.nam_verbs.specs.Running.{after_found}
use Rattle.nam_catalog.specs.declared.bounds.TheConstants.{MOST_CAPACITY}
use Rattle.nam_catalog.specs.declared.shape.Shape.{Shape}
use Rattle.nam_calls.specs.Words.{capacity_of}
use Rattle.nam_calls.specs.declared.reading.ReadPoint.{ReadPoint}
use Rattle.nam_calls.specs.declared.reading.ReadingEnd.{ReadingEnd}
use Rattle.nam_calls.specs.declared.reading.ReadingEnd.TheVariants as read_end
use Rattle.nam_protocol.specs.declared.scan.ScanPoint.{ScanPoint}
use Rattle.nam_protocol.specs.declared.scan.ScanPoint.TheVariants.{ScanKey, ScanRead}
use Rattle.nam_protocol.specs.declared.scan.ScanAnswer.{ScanAnswer}
use Rattle.nam_protocol.specs.declared.scan.ScanAnswer.TheVariants as scan_answer
use Rattle.nam_protocol.specs.declared.client.Answer.{Answer}
use Rattle.nam_protocol.specs.declared.client.CallPoint.{CallPoint}
use Rattle.nam_protocol.specs.declared.client.CallPoint.TheVariants.{Scanning}
use Rattle.nam_protocol.specs.Client.{client_after}
use Rattle.nam_protocol.specs.Own.{IsOpenNow}
use Rattle.nam_protocol.specs.Scan.{position_of, in_range, scan_after as point_after, on_scan_read}
use Rattle.nam_scan.specs.Scan.{Scanning as ScanValue, ScanningFits, IsScanOf, goes_on, position_after, running}
use Rattle.nam_client.specs.declared.registers.Registers.{Registers}
use Rattle.nam_client.specs.declared.registers.Step.TheVariants as step
use Rattle.nam_client.specs.Registers.{call_of, client_of, open_of}
use Rattle.nam_client.specs.Room.{Holds, Counts, owed_reads}
use Rattle.nam_client.specs.Fits.{IsClientOf, IsScanIn, HandFits}
use Rattle.nam_client.specs.Gathered.{RiseWithin, Gathers}
use Rattle.nam_client.specs.Scanning.{after_scan, HasAnswered, IsOver}
use Rattle.nam_client.proofs.ScanLemmas.{opened_by, few_positions, rise_grows}
use Rattle.nam_client.proofs.TakeLemmas.{Goes, IsGood, good_after}
use Rattle.nam_client.proofs.ScanCallLemmas.{after_is, client_goes}

-- the point at which it stands
pub point_in : (now : Now ScanPoint ScanAnswer) → IsNone (end_now now) → (place : ScanPoint) × (now ≡ At place)
point_in (At place) none = (place, refl)
point_in (Over end) none = absurd (cc)

over_stays : (p : ℕ) (now : Now ScanPoint ScanAnswer) → IsOver now → position_after p now ≡ p
over_stays p (At place) over = absurd over
over_stays p (Over end) over = refl

skip_rises : (p : ℕ) (end : ScanAnswer) (found last : Bool)
    → p
    ≤ position_after p
    (if found then Over end else (if last then Over scan_answer.Done else At (ScanKey (p + 1))))
skip_rises p end true last = omega arith
skip_rises p end false true = omega arith
skip_rises p end false false = omega arith

read_rises : (table p key : ℕ) (now : Now ReadPoint ReadingEnd) → p ≤ position_after p (on_scan_read table p key now)
read_rises table p key (At at) = omega arith
read_rises table p key (Over (read_end.Got value)) = omega arith
read_rises table p key (Over (read_end.Passed worker entry horizon)) = omega arith
read_rises table p key (Over read_end.Astray) = omega arith

point_rises : (shape : Shape) (table low high : ℕ) (seen : List ℕ) (place : ScanPoint) (found : ℕ)
    → position_of place ≤ position_after (position_of place) (point_after shape table low high seen place found)
point_rises shape table low high seen (ScanKey p) found =
    skip_rises p (scan_answer.Key (found - 1)) (in_range low high found) (p + 1 == capacity_of shape table)
point_rises shape table low high seen (ScanRead p key at) found = read_rises table p key _

pub over_in : (now : Now ScanPoint ScanAnswer) → is_some (end_now now) ≡ true → IsOver now
over_in (At place) over = absurd (cc)
over_in (Over end) over = tt

module _ (shape : Shape) (a : Registers) (scan : ScanValue) (of : IsClientOf shape a) (holds : Holds a)
    (at : a.step ≡ step.Scanning) (is : a.scan ≡ Some scan) (fits : ScanningFits scan) (place : ScanPoint)
    (point_is : scan.state ≡ At place) where
  call_is : call_of a.step a ≡ Some (At (Scanning scan.range.table scan.range.low scan.range.high place))
  call_is = rw (at, is, point_is) refl

  pub is_open : a.is_open ≡ true
  is_open =
      opened_by a
      (subst (λ (c : Option (Now CallPoint Answer)). IsOpenNow (client_of a).txn c) call_is holds.opened)

  scan_in : IsScanIn shape a.txn.state.seen (Some scan)
  scan_in =
      subst (IsScanIn shape a.txn.state.seen) is
      (subst (λ (c : Option (Now CallPoint Answer)). HandFits shape a c) call_is of.hand)

  position_is : position_of place ≡ scan.position
  position_is = let there = rw point_is at fits.at in there.0

  counts : Counts (open_of a) scan.range.capacity
      (Some (At (Scanning scan.range.table scan.range.low scan.range.high place)))
  counts = let owed : owed_reads a ≡ scan.range.capacity = rw (call_is, is) refl in
      rw (owed, call_is) at (holds.room.counts is_open)

  few : scan.range.capacity ≤ MOST_CAPACITY
  few = rw scan_in.0.sees.capacity_is (few_positions shape of.limits scan.range.table scan_in.0.table_is)

  pub rows : RiseWithin 0 scan.position a.scanned.items
  rows = subst (Gathers a.scanned.items) is ((rw at at holds.at).1)

  module _ (next : ScanValue) (next_of : IsScanOf shape next) (range_is : next.range ≡ scan.range)
      (seen_is : next.seen ≡ scan.seen) where
    goes : Goes shape (record a { scan = Some next }) next
    goes =
        let room = holds.room in
        let owed : owed_reads a ≡ scan.range.capacity = rw (call_is, is) refl in
        let c = counts in
        record {
          is_open = is_open;
          at = at;
          of = next_of;
          seen = seen_is ∙ scan_in.1;
          few = rw range_is few;
          events = let h = rw is_open at room.events in omega arith;
          closes = room.closes (rw is_open (omega arith));
          reads = rw range_is (let h = room.reads in omega arith);
          locks = let h = rw is_open at room.locks in h;
          writes = let h = rw is_open at room.writes in h;
          snaps = let h = rw call_is at room.snaps in omega arith;
          scanned = rw range_is (let h = rw is at room.scanned in h);
          ops = c.ops;
          word = c.word;
          claims = rw range_is c.claims;
          so_far = rw range_is c.reads;
          none = c.locks;
          held = c.held;
          written = c.written;
          calm = rw at at (holds.calm is_open);
        }

  module _ (found : ℕ) (next : ScanValue) (next_of : IsScanOf shape next)
      (value : next ≡ goes_on shape scan (after_found (running shape scan) found).state) where
    range_is : next.range ≡ scan.range
    range_is = ap (λ (s : ScanValue). s.range) value

    state_is : next.state
        ≡ point_after shape scan.range.table scan.range.low scan.range.high a.txn.state.seen place found
    state_is = ap (λ (s : ScanValue). s.state) value ∙ rw (point_is, scan_in.1) refl

    next_position : next.position ≡ position_after scan.position next.state
    next_position =
        ap (λ (s : ScanValue). s.position) value
        ∙ ap (position_after scan.position) (sym (ap (λ (s : ScanValue). s.state) value))

    rises : scan.position ≤ next.position
    rises =
        let up = point_rises shape scan.range.table scan.range.low scan.range.high a.txn.state.seen place found in
        rw (next_position, state_is) (subst (λ p. p ≤ position_after p
        (point_after shape scan.range.table scan.range.low scan.range.high a.txn.state.seen place found))
        position_is up)

    pub still_rows : RiseWithin 0 next.position a.scanned.items
    still_rows = rise_grows 0 scan.position next.position a.scanned.items rises rows

    mid : Registers
    mid = record a { scan = Some next }

    next_goes : Goes shape (record a { scan = Some next }) next
    next_goes = goes next next_of range_is (ap (λ (s : ScanValue). s.seen) value)

    within : scan.position < next.range.capacity
    within = rw range_is fits.position

    module _ (position : ℕ) (there : position ≡ scan.position) (over : is_some (end_now next.state) ≡ true) where
      stays : next.position ≡ scan.position
      stays = next_position ∙ over_stays scan.position next.state (over_in next.state over)

      pub comes : HasAnswered shape (record a { scan = Some next }) position next
      comes =
          let g = next_goes in (
            record {
              of = next_of;
              position_is = there ∙ sym stays;
              within = rw stays within;
              can = record {
                few = g.few;
                events = let h = g.events in omega arith;
                reads = let h = g.reads in omega arith;
                word = let h = g.so_far in let w = g.word in omega arith;
                scanned = let h = g.scanned in omega arith;
              };
              rows = still_rows;
            },
            over_in next.state over,
          )

      module _ (new : Registers)
          (is_new : new ≡ after_scan shape (record a { scan = Some next }) next position next.state) where
        pub good : IsGood shape a.spare a.txn new
        good =
            subst (IsGood shape a.spare a.txn) (sym is_new)
            (good_after shape (record a { scan = Some next }) next position next_goes (rw there within) (rw there rows)
            next.state (over_in next.state over))

        pub client : client_of new ≡ client_after shape (client_of a) found
        client =
            ap client_of is_new
            ∙ after_is shape (call_of a.step a) (record a { scan = Some next }) next position is_open at next.state
            (over_in next.state over)
            ∙ rw (range_is, state_is, there, ← position_is) refl
            ∙ sym
            (client_goes shape (client_of a) (open_of a) scan.range.table scan.range.low scan.range.high found place
            call_is (rw is_open refl))
