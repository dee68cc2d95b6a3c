-- The rows that a scan gathers, and the room for them.
use Rattle.std.proofs.Common.{◌≡◌, ℕ, zero, suc, ◌+◌, ◌^◌, ◌<◌, ◌≤◌, Bool, true, false, List, [], ◌∷◌, ◌++◌, length}
use Rattle.std.proofs.Common.{Option, Some, None, if◌then◌else◌, refl, arith}
use Rattle.std.specs.Prelude.{IsSome, slice_index}
use Rattle.std.specs.List.{AllByRecursion}
use Rattle.std.proofs.lemmas.List.Elements.{recursion_from_All}
use Rattle.nam_catalog.specs.declared.bounds.TheConstants.{MOST_CAPACITY}
use Rattle.nam_catalog.specs.declared.shape.Table.{Table}
use Rattle.nam_catalog.specs.declared.shape.Shape.{Shape}
use Rattle.nam_catalog.specs.Fits.{FitsTable, FitsLimits}
use Rattle.nam_catalog.specs.Tables.{capacities_of}
use Rattle.nam_calls.specs.Fits.{IsTableOf}
use Rattle.nam_calls.specs.Words.{capacity_of}
use Rattle.nam_calls.proofs.FallsTables.{has_capacity}
use Rattle.nam_protocol.specs.declared.client.Scanned.{Scanned}
use Rattle.nam_scan.specs.Scan.{Scanning as ScanValue}
use Rattle.nam_client.specs.declared.registers.Registers.{Registers}
use Rattle.nam_client.specs.Registers.{client_of}
use Rattle.nam_client.specs.Gathered.{RiseWithin, OfScan}
use Rattle.nam_client.specs.Scanning.{HasCome, HasLeft, HasAnswered}

-- 1. A transaction is open, and its table has positions

open_if : {A : Type 0} (opens : Bool) (a : A) → IsSome (if opens then Some a else None) → opens ≡ true
open_if true a some = refl
open_if false a some = absurd (cc)

pub opened_by : (a : Registers) → IsSome (client_of a).txn → a.is_open ≡ true
opened_by a some = open_if a.is_open _ some

capacity_most : (tables : List Table) (table : ℕ) → AllByRecursion FitsTable tables → table < length tables
    → slice_index (capacities_of tables) table ≤ MOST_CAPACITY
capacity_most [] table all l = absurd (omega arith)
capacity_most (t ∷ ts) zero all l = all.0.most_capacity
capacity_most (t ∷ ts) (suc table) all l = capacity_most ts table all.1 (omega arith)

module _ (shape : Shape) (limits : FitsLimits shape) (table : ℕ) (is : IsTableOf shape table) where
  pub has_positions : 1 ≤ capacity_of shape table
  has_positions = has_capacity shape limits table is

  pub few_positions : capacity_of shape table ≤ MOST_CAPACITY
  few_positions = capacity_most shape.tables table (recursion_from_All FitsTable shape.tables limits.tables) is

-- 2. Rising positions

pub rise_grows : (first m n : ℕ) (rows : List Scanned) → m ≤ n → RiseWithin first m rows → RiseWithin first n rows
rise_grows first m n [] le rise = omega (arith, rise)
rise_grows first m n (r ∷ rs) le rise = (rise.0, rise_grows (r.position + 1) m n rs le rise.1)

pub rise_push : (first last : ℕ) (rows : List Scanned) (row : Scanned) → row.position ≡ last
    → RiseWithin first last rows → RiseWithin first (last + 1) (rows ++ row ∷ [])
rise_push first last [] row at rise = (omega (arith, rise), omega arith)
rise_push first last (r ∷ rs) row at rise = (rise.0, rise_push (r.position + 1) last rs row at rise.1)

pub rise_few : (first last : ℕ) (rows : List Scanned) → RiseWithin first last rows → first + length rows ≤ last
rise_few first last [] rise = omega (arith, rise)
rise_few first last (r ∷ rs) rise =
    let low = rise.0 in
    let rest = rise_few (r.position + 1) last rs rise.1 in
    omega arith

-- 3. There is room for them

-- such rows may be listed
pub record CanListThese (a : Registers) (rows : List Scanned) : Type 0 where
  pub rise : RiseWithin 0 (2 ^ 32) rows
  pub reads : length rows ≤ a.log.room.reads
  pub word : a.attempt.reads + length rows < 2 ^ 32

module _ (shape : Shape) (a : Registers) (position : ℕ) where
  come_room : (scan : ScanValue) → HasCome shape a position scan → 0 < a.scanned.room
  come_room scan come =
      let can = come.can in
      let few = rise_few 0 scan.position a.scanned.items come.rows in
      let within = come.within in
      let most = can.few in
      let room = can.scanned in
      omega arith

  come_lists : (scan : ScanValue) (rows : List Scanned) → HasCome shape a position scan
      → RiseWithin 0 (position + 1) rows → CanListThese a rows
  come_lists scan rows come rise =
      let can = come.can in
      let few = rise_few 0 (position + 1) rows rise in
      let at = come.position_is in
      let within = come.within in
      let most = can.few in
      let reads = can.reads in
      let word = can.word in
      record {
        rise = rise_grows 0 (position + 1) (2 ^ 32) rows (omega arith) rise;
        reads = omega arith;
        word = omega arith;
      }

  come_rows : (scan : ScanValue) → HasCome shape a position scan → RiseWithin 0 position a.scanned.items
  come_rows scan come = rw come.position_is come.rows

  pub left_room : (scan : Option ScanValue) → OfScan (HasLeft shape a position) scan → 0 < a.scanned.room
  left_room None left = absurd left
  left_room (Some scan) left = come_room scan left.0

  pub left_same : (scan : Option ScanValue) → OfScan (HasLeft shape a position) scan
      → CanListThese a a.scanned.items
  left_same None left = absurd left
  left_same (Some scan) left =
      come_lists scan a.scanned.items left.0
      (rise_grows 0 position (position + 1) a.scanned.items (omega arith) (come_rows scan left.0))

  pub left_more : (scan : Option ScanValue) (row : Scanned) → row.position ≡ position
      → OfScan (HasLeft shape a position) scan → CanListThese a (a.scanned.items ++ row ∷ [])
  left_more None row at left = absurd left
  left_more (Some scan) row at left =
      come_lists scan (a.scanned.items ++ row ∷ []) left.0
      (rise_push 0 position a.scanned.items row at (come_rows scan left.0))

  pub answered_same : (scan : Option ScanValue) → OfScan (HasAnswered shape a position) scan
      → CanListThese a a.scanned.items
  answered_same None left = absurd left
  answered_same (Some scan) left =
      come_lists scan a.scanned.items left.0
      (rise_grows 0 position (position + 1) a.scanned.items (omega arith) (come_rows scan left.0))
