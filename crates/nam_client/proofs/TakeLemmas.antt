-- What an answer of a scan does keeps the room, and is what the client does.
use Rattle.std.proofs.Common.{◌≡◌, ℕ, ◌+◌, ◌^◌, ◌<◌, ◌≤◌, min, Bool, true, false, List, [], ◌∷◌, ◌++◌, length, map}
use Rattle.std.proofs.Common.{Option, Some, None, if◌then◌else◌, refl, ap, ◌∙◌, arith, inl, inr}
use Rattle.std.proofs.lemmas.Bool.{cases_lt, false≢true}
use Rattle.nam_verbs.specs.declared.now.Now.{Now}
use Rattle.nam_verbs.specs.declared.now.Now.TheVariants.{At, Over}
use Rattle.nam_catalog.specs.declared.bounds.TheConstants.{MOST_CAPACITY}
use Rattle.nam_catalog.specs.declared.shape.Shape.{Shape}
use Rattle.nam_layout.proofs.TestLemmas.{if_less, if_not_less}
use Rattle.si_model.specs.declared.log.Outcome.{Outcome}
use Rattle.si_model.specs.Rows.{key_at, writes_key}
use Rattle.nam_calls.specs.Reading.{read_begin}
use Rattle.nam_protocol.specs.declared.scan.ScanPoint.{ScanPoint}
use Rattle.nam_protocol.specs.declared.scan.ScanPoint.TheVariants.{ScanKey, ScanRead}
use Rattle.nam_protocol.specs.declared.scan.ScanAnswer.{ScanAnswer}
use Rattle.nam_protocol.specs.declared.scan.ScanAnswer.TheVariants as scan_answer
use Rattle.nam_protocol.specs.declared.client.Scanned.{Scanned}
use Rattle.nam_protocol.specs.Operations.{own_value}
use Rattle.nam_protocol.specs.Scan.{position_of}
use Rattle.nam_protocol.specs.ScanCall.{inserted, sorted_onto, item_of, scanned_items}
use Rattle.nam_scan.specs.Scan.{Scanning as ScanValue, IsScanOf, goes_on}
use Rattle.nam_txn.specs.Txn.{Rests, Transacting}
use Rattle.nam_client.specs.declared.registers.Registers.{Registers}
use Rattle.nam_client.specs.declared.registers.Spare.{Spare}
use Rattle.nam_client.specs.declared.registers.Step.TheVariants as step
use Rattle.nam_client.specs.declared.registers.Told.{Told}
use Rattle.nam_client.specs.Registers.{call_of}
use Rattle.nam_client.specs.Room.{HasRoom, StepHolds, TxnRests}
use Rattle.nam_client.specs.Fits.{HandFits}
use Rattle.nam_client.specs.Gathered.{RiseWithin}
use Rattle.nam_client.specs.Scanning.{gathered, rows_listed, scan_failed, with_scan, after_skip}
use Rattle.nam_client.specs.Scanning.{left_at}
use Rattle.nam_client.specs.Scanning.{after_scan, IsOver}
use Rattle.nam_client.proofs.ScanLemmas.{rise_grows, rise_push, rise_few}

-- 1. As many items as rows

inserted_length : (r : Scanned) (rs : List Scanned) → length (inserted r rs) ≡ length rs + 1
inserted_length r [] = refl
inserted_length r (s ∷ rs) = elim (cases_lt r.key s.key) [
  | inl low ↦ ap length (if_less r.key s.key _ _ low) ∙ omega arith
  | inr past ↦ let rest = inserted_length r rs in ap length (if_not_less r.key s.key _ _ past) ∙ omega arith
]

sorted_length : (done rs : List Scanned) → length (sorted_onto done rs) ≡ length done + length rs
sorted_length done [] = omega arith
sorted_length done (r ∷ rs) =
    let one = inserted_length r done in let rest = sorted_length (inserted r done) rs in omega arith

mapped_length : (table : ℕ) (rows : List Scanned) → length (map (item_of table) rows) ≡ length rows
mapped_length table [] = refl
mapped_length table (r ∷ rs) = let rest = mapped_length table rs in omega arith

items_length : (table : ℕ) (rows : List Scanned) → length (scanned_items table rows) ≡ length rows
items_length table rows = mapped_length table (sorted_onto [] rows) ∙ sorted_length [] rows ∙ omega arith

pushed_length : (rows : List Scanned) (row : Scanned) → length (rows ++ row ∷ []) ≡ length rows + 1
pushed_length [] row = refl
pushed_length (r ∷ rs) row = let rest = pushed_length rs row in omega arith

-- 2. The room

-- a scan of the open transaction is at hand, and there is room for what may follow
pub record Goes (shape : Shape) (a : Registers) (scan : ScanValue) : Type 0 where
  pub is_open : a.is_open ≡ true
  pub at : a.step ≡ step.Scanning
  pub of : IsScanOf shape scan
  pub seen : scan.seen ≡ a.txn.state.seen
  pub few : scan.range.capacity ≤ MOST_CAPACITY
  pub events : a.spare.attempts + a.spare.tidies + 1 + a.closing ≤ a.log.room.events
  pub closes : a.closing ≡ 2
  pub reads : a.spare.ops + scan.range.capacity ≤ a.log.room.reads
  pub locks : a.spare.ops + a.attempt.ops_so_far ≤ a.log.room.locks + a.attempt.locks
  pub writes : a.spare.ops + a.attempt.ops_so_far ≤ a.log.room.writes
  pub snaps : a.spare.attempts + a.spare.tidies ≤ a.log.room.snaps
  pub scanned : min (a.spare.ops + scan.range.capacity) MOST_CAPACITY ≤ length a.scanned.items + a.scanned.room
  pub ops : a.attempt.ops ≤ a.attempt.ops_so_far
  pub word : a.attempt.ops_so_far < 2 ^ 32
  pub claims : length a.txn.state.claims + scan.range.capacity ≤ a.attempt.ops_so_far
  pub so_far : a.attempt.reads + scan.range.capacity ≤ a.attempt.ops_so_far
  pub none : a.attempt.locks ≡ 0
  pub held : length a.txn.state.held ≡ a.attempt.locks
  pub written : length a.txn.state.writes ≤ a.attempt.ops_so_far
  pub calm : Rests a.txn.call

-- what is left of the registers
pub record IsGood (shape : Shape) (spared : Spare) (open_txn : Transacting) (a : Registers) : Type 0 where
  pub spare : a.spare ≡ spared
  pub txn : a.txn ≡ open_txn
  pub hand : HandFits shape a (call_of a.step a)
  pub room : HasRoom a
  pub at : StepHolds a.step a
  pub calm : a.is_open ≡ true → TxnRests a.step a.txn.call

goes_is : (shape : Shape) (scan : ScanValue) (now : Now ScanPoint ScanAnswer) → IsScanOf shape scan
    → IsScanOf shape (goes_on shape scan now)
goes_is shape scan now of = record {
  limits = of.limits;
  table_is = of.table_is;
  seen_is = of.seen_is;
  sees = record { capacity_is = of.sees.capacity_is; sight_is = refl };
}

module _ (shape : Shape) where
  good_failed : (a : Registers) (scan : ScanValue) → Goes shape a scan → (end : Outcome) (told : Told)
      → IsGood shape a.spare a.txn (scan_failed a end told)
  good_failed a scan goes end told = record {
    spare = refl;
    txn = refl;
    hand = tt;
    room = record {
      events = let h = goes.events in omega arith;
      closes = λ some. goes.closes;
      reads = let h = goes.reads in omega arith;
      locks = let h = goes.locks in let n = goes.none in omega arith;
      writes = let h = goes.writes in omega arith;
      snaps = let h = goes.snaps in omega arith;
      scanned = let h = goes.scanned in omega arith;
      counts = λ e. absurd (false≢true e);
    };
    at = tt;
    calm = λ e. goes.calm;
  }

  good_listed : (a : Registers) (scan : ScanValue) → Goes shape a scan
      → length a.scanned.items ≤ scan.range.capacity → (table : ℕ)
      → IsGood shape a.spare a.txn (rows_listed a table)
  good_listed a scan goes few table =
      let same = items_length table a.scanned.items in
      record {
        spare = refl;
        txn = refl;
        hand = tt;
        room = record {
          events = rw goes.is_open (let h = goes.events in omega arith);
          closes = λ some. goes.closes;
          reads = let h = goes.reads in omega arith;
          locks = rw goes.is_open (let h = goes.locks in omega arith);
          writes = rw goes.is_open (let h = goes.writes in omega arith);
          snaps = let h = goes.snaps in omega arith;
          scanned = let h = goes.scanned in omega arith;
          counts = λ e. record {
            ops = goes.ops;
            word = goes.word;
            claims = let h = goes.claims in omega arith;
            reads = let h = goes.so_far in omega arith;
            locks = goes.none;
            held = goes.held;
            written = goes.written;
          };
        };
        at = tt;
        calm = λ e. goes.calm;
      }

  good_scanning : (a : Registers) (scan : ScanValue) → Goes shape a scan → (place : ScanPoint)
      → RiseWithin 0 (position_of place) a.scanned.items
      → IsGood shape a.spare a.txn (with_scan shape a scan (At place))
  good_scanning a scan goes place rise = record {
    spare = refl;
    txn = refl;
    hand = rw goes.at (goes_is shape scan (At place) goes.of, goes.seen);
    room = record {
      events = rw (goes.at, goes.is_open) (let h = goes.events in omega arith);
      closes = λ some. goes.closes;
      reads = rw goes.at (let h = goes.reads in omega arith);
      locks = rw goes.is_open (let h = goes.locks in omega arith);
      writes = rw goes.is_open (let h = goes.writes in omega arith);
      snaps = rw goes.at (let h = goes.snaps in omega arith);
      scanned = goes.scanned;
      counts = λ e. rw goes.at record {
        ops = goes.ops;
        word = goes.word;
        claims = goes.claims;
        reads = goes.so_far;
        locks = goes.none;
        held = goes.held;
        written = goes.written;
      };
    };
    at = rw goes.at (refl, rise);
    calm = λ e. rw goes.at goes.calm;
  }

  goes_gathered : (a : Registers) (scan : ScanValue) (position key : ℕ) (value : Option (List ℕ))
      → Goes shape a scan → Goes shape (gathered a position key value) scan
  goes_gathered a scan position key None goes = goes
  goes_gathered a scan position key (Some value) goes =
      let more = pushed_length a.scanned.items record { position = position; key = key; value = value } in
      let h = goes.scanned in
      record {
        is_open = goes.is_open;
        at = goes.at;
        of = goes.of;
        seen = goes.seen;
        few = goes.few;
        events = goes.events;
        closes = goes.closes;
        reads = goes.reads;
        locks = goes.locks;
        writes = goes.writes;
        snaps = goes.snaps;
        scanned = omega arith;
        ops = goes.ops;
        word = goes.word;
        claims = goes.claims;
        so_far = goes.so_far;
        none = goes.none;
        held = goes.held;
        written = goes.written;
        calm = goes.calm;
      }

  good_skip : (a : Registers) (scan : ScanValue) (position : ℕ) → Goes shape a scan
      → position < scan.range.capacity → RiseWithin 0 (position + 1) a.scanned.items → (last : Bool)
      → IsGood shape a.spare a.txn
      (after_skip shape a scan (if last then Over scan_answer.Done else At (ScanKey (position + 1))))
  good_skip a scan position goes within rise true =
      let few = rise_few 0 (position + 1) a.scanned.items rise in
      good_listed a scan goes (omega arith) scan.range.table
  good_skip a scan position goes within rise false = good_scanning a scan goes (ScanKey (position + 1)) rise

  good_left : (a : Registers) (scan : ScanValue) (position key : ℕ) (value : Option (List ℕ)) → Goes shape a scan
      → position < scan.range.capacity → RiseWithin 0 position a.scanned.items
      → IsGood shape a.spare a.txn (left_at shape a scan position key value)
  good_left a scan position key None goes within rise =
      good_skip a scan position goes within
      (rise_grows 0 position (position + 1) a.scanned.items (omega arith) rise) _
  good_left a scan position key (Some value) goes within rise =
      good_skip (gathered a position key (Some value)) scan position
      (goes_gathered a scan position key (Some value) goes) within
      (rise_push 0 position a.scanned.items record { position = position; key = key; value = value } refl rise) _

  good_either : (spare : Spare) (txn : Transacting) (b : Bool) (x y : Registers) → IsGood shape spare txn x
      → IsGood shape spare txn y → IsGood shape spare txn (if b then x else y)
  good_either spare txn true x y left right = left
  good_either spare txn false x y left right = right

  -- whatever the scan answers
  pub good_after : (a : Registers) (scan : ScanValue) (position : ℕ) → Goes shape a scan
      → position < scan.range.capacity → RiseWithin 0 position a.scanned.items
      → (now : Now ScanPoint ScanAnswer) → IsOver now
      → IsGood shape a.spare a.txn (after_scan shape a scan position now)
  good_after a scan position goes within rise (At place) is = absurd is
  good_after a scan position goes within rise (Over (scan_answer.Key key)) is =
      good_either a.spare a.txn (writes_key a.txn.state.writes (key_at scan.range.table key)) _ _
      (good_left a scan position key (own_value a.txn.state.writes (key_at scan.range.table key)) goes within rise)
      (good_scanning a scan goes (ScanRead position key read_begin) rise)
  good_after a scan position goes within rise (Over (scan_answer.Row item)) is =
      good_left a scan position item.key item.value goes within rise
  good_after a scan position goes within rise (Over scan_answer.Done) is =
      let few = rise_few 0 position a.scanned.items rise in
      good_listed a scan goes (omega arith) scan.range.table
  good_after a scan position goes within rise (Over (scan_answer.TooOld worker entry horizon)) is =
      good_failed a scan goes _ _
  good_after a scan position goes within rise (Over scan_answer.Astray) is = good_failed a scan goes _ _
