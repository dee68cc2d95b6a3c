-- A shape has no fault exactly where it fits the limits.
use Rattle.std.proofs.Common.{◌≡◌, ℕ, ◌+◌, ◌≤◌, Bool, true, false, List, [], ◌∷◌, length, refl, sym, arith, Option}
use Rattle.std.proofs.Common.{Some, None, cond}
use Rattle.std.specs.Prelude.{◌==◌, All, option_map, nat_lt}
use Rattle.std.specs.List.{position_from}
use Rattle.std.proofs.lemmas.Bool.{eqb-false, ltb-false, ne_eqb, le-ltb}
use Rattle.std.proofs.lemmas.Bool.Decides.{nat_tests}
use Rattle.std.proofs.lemmas.List.Elements.{All-nil, All-cons, All-head, All-tail, All-weaker}
use Rattle.std.proofs.lemmas.Option.{none-some}
use Rattle.nam_catalog.specs.declared.bounds.TheConstants.{MOST_WORKERS, MOST_WIDTH, MOST_CAPACITY, MOST_RING}
use Rattle.nam_catalog.specs.declared.bounds.TheConstants.{MOST_BUCKETS, MOST_CELLS, MOST_WORDS}
use Rattle.nam_catalog.specs.declared.fault.ShapeFault.{ShapeFault}
use Rattle.nam_catalog.specs.declared.fault.ShapeFault.TheVariants.{NoWorkers, TooManyWorkers, NoTables, BadWidth}
use Rattle.nam_catalog.specs.declared.fault.ShapeFault.TheVariants.{BadCapacity, BadRing, BadBuckets, BadCells}
use Rattle.nam_catalog.specs.declared.fault.ShapeFault.TheVariants.{BadStart, TwiceNamed, TooManyWords}
use Rattle.nam_catalog.specs.declared.shape.Table.{Table}
use Rattle.nam_catalog.specs.declared.shape.Shape.{Shape}
use Rattle.nam_catalog.specs.Greatest.{greatest_number}
use Rattle.nam_catalog.specs.Words.{words_of}
use Rattle.nam_catalog.specs.Limits.{◌or_else◌, fault_if, is_outside, first_table, first_twice_named, limit_fault_of}
use Rattle.nam_catalog.specs.Limits.{fault_of}
use Rattle.nam_catalog.specs.Fits.{FitsTable, FitsLimits}
use Rattle.nam_catalog.proofs.NameLemmas.{found_from, none_twice}

-- where the faults before a fault are none, and it is none itself
none_before : (before : Option ShapeFault) (bad : Bool) (fault : ShapeFault) → before or_else fault_if bad fault ≡ None
    → (before ≡ None) × (bad ≡ false)
none_before None false fault none = (refl, refl)
none_before None true fault none = absurd (none-some fault (sym none))
none_before (Some first) bad fault none = absurd (none-some first (sym none))

still_none : (before : Option ShapeFault) (bad : Bool) (fault : ShapeFault) → before ≡ None → bad ≡ false
    → before or_else fault_if bad fault ≡ None
still_none before bad fault none good = rw (none, good) refl

-- the same for the fault of a table
none_before_table : (before : Option ShapeFault) (fault_at : ℕ → ShapeFault) (table : Option ℕ)
    → before or_else option_map fault_at table ≡ None → (before ≡ None) × (table ≡ None)
none_before_table None fault_at None none = (refl, refl)
none_before_table None fault_at (Some k) none = absurd (none-some (fault_at k) (sym none))
none_before_table (Some first) fault_at table none = absurd (none-some first (sym none))

still_none_at_table : (before : Option ShapeFault) (fault_at : ℕ → ShapeFault) (table : Option ℕ) → before ≡ None
    → table ≡ None
    → before or_else option_map fault_at table ≡ None
still_none_at_table before fault_at table none good = rw (none, good) refl

within : (greatest n : ℕ) → is_outside greatest n ≡ false → (1 ≤ n) × (n ≤ greatest)
within greatest n inside = (grind (arith, nat_tests), grind (arith, nat_tests))

inside : (greatest n : ℕ) → 1 ≤ n → n ≤ greatest → is_outside greatest n ≡ false
inside greatest n least most = grind (arith, nat_tests)

-- where no table is the first that fails, none fails
none_fails : (fails : Table → Bool) (ts : List Table) (i : ℕ) → position_from fails i ts ≡ None
    → All (λ t. fails t ≡ false) ts
none_fails fails [] i none = All-nil (λ t. fails t ≡ false)
none_fails fails (t ∷ ts) i none =
    let Claim : Bool → Type 0 = λ b.
    cond b (Some i) (position_from fails (i + 1) ts) ≡ None → (b ≡ false) × All (λ t. fails t ≡ false) ts in
    let either : (b : Bool) → Claim b = elim [
      | true ↦ λ none. absurd (none-some i (sym none))
      | false ↦ λ none. (refl, none_fails fails ts (i + 1) none)
    ] in
    let both = either (fails t) none in
    All-cons (λ t. fails t ≡ false) t ts both.0 both.1

all_pass : (fails : Table → Bool) (ts : List Table) (i : ℕ) → All (λ t. fails t ≡ false) ts
    → position_from fails i ts ≡ None
all_pass fails [] i good = refl
all_pass fails (t ∷ ts) i good =
    rw (All-head (λ t. fails t ≡ false) t ts good)
    (all_pass fails ts (i + 1) (All-tail (λ t. fails t ≡ false) t ts good))

-- the tests of a table's numbers
abbrev width_fails : Table → Bool
width_fails t = is_outside MOST_WIDTH t.width

abbrev capacity_fails : Table → Bool
capacity_fails t = is_outside MOST_CAPACITY t.capacity

abbrev ring_fails : Table → Bool
ring_fails t = is_outside MOST_RING t.ring

-- a table whose three numbers are within their limits fits
table_fits : (ts : List Table) → All (λ t. width_fails t ≡ false) ts → All (λ t. capacity_fails t ≡ false) ts
    → All (λ t. ring_fails t ≡ false) ts → All FitsTable ts
table_fits ts widths capacities rings = λ k d here.
    let width = within MOST_WIDTH _ (widths k d here) in
    let capacity = within MOST_CAPACITY _ (capacities k d here) in
    let ring = within MOST_RING _ (rings k d here) in
    record {
      least_width = width.0;
      most_width = width.1;
      least_capacity = capacity.0;
      most_capacity = capacity.1;
      least_ring = ring.0;
      most_ring = ring.1;
    }

-- what holds of a shape that has no fault but for the words of the whole
pub record IsWithin (shape : Shape) : Type 0 where
  pub workers : shape.workers ≤ MOST_WORKERS
  pub tables : All FitsTable shape.tables
  pub buckets : shape.buckets ≤ MOST_BUCKETS
  pub cells : shape.cells ≤ MOST_CELLS
  pub fits : words_of shape ≤ MOST_WORDS → FitsLimits shape

pub is_within : (shape : Shape) → limit_fault_of shape ≡ None → IsWithin shape
is_within shape none =
    let ts = shape.tables in
    let names = none_before_table _ TwiceNamed (first_twice_named [] 0 ts) none in
    let start = none_before _ (nat_lt (greatest_number shape.form) shape.start) BadStart names.0 in
    let cells = none_before _ (is_outside MOST_CELLS shape.cells) BadCells start.0 in
    let buckets = none_before _ (is_outside MOST_BUCKETS shape.buckets) BadBuckets cells.0 in
    let rings = none_before_table _ BadRing (first_table ring_fails ts) buckets.0 in
    let capacities = none_before_table _ BadCapacity (first_table capacity_fails ts) rings.0 in
    let widths = none_before_table _ BadWidth (first_table width_fails ts) capacities.0 in
    let some_table = none_before _ (length ts == 0) NoTables widths.0 in
    let workers = none_before (fault_if (shape.workers == 0) NoWorkers)
    (nat_lt MOST_WORKERS shape.workers) TooManyWorkers some_table.0 in
    let some_worker = none_before None (shape.workers == 0) NoWorkers workers.0 in
    let most_workers = ltb-false MOST_WORKERS shape.workers workers.1 in
    let tables = table_fits ts (none_fails width_fails ts 0 widths.1)
    (none_fails capacity_fails ts 0 capacities.1) (none_fails ring_fails ts 0 rings.1) in
    let bucket = within MOST_BUCKETS shape.buckets buckets.1 in
    let cell = within MOST_CELLS shape.cells cells.1 in
    let found = found_from [] 0 ts refl names.1 in
    record {
      workers = most_workers;
      tables = tables;
      buckets = bucket.1;
      cells = cell.1;
      fits = λ words. record {
        least_workers = omega (arith, eqb-false shape.workers 0 some_worker.1);
        most_workers = most_workers;
        least_tables = omega (arith, eqb-false (length ts) 0 some_table.1);
        tables = tables;
        least_buckets = bucket.0;
        most_buckets = bucket.1;
        least_cells = cell.0;
        most_cells = cell.1;
        start = ltb-false (greatest_number shape.form) shape.start start.1;
        names = λ k here. found k (omega arith) here;
        words = words;
      };
    }

pub fits_limits : (shape : Shape) → fault_of shape ≡ None → FitsLimits shape
fits_limits shape none =
    let words = none_before (limit_fault_of shape) (nat_lt MOST_WORDS (words_of shape)) TooManyWords none in
    let is = is_within shape words.0 in
    is.fits (ltb-false MOST_WORDS (words_of shape) words.1)

pub has_no_fault : (shape : Shape) → FitsLimits shape → fault_of shape ≡ None
has_no_fault shape fits =
    let ts = shape.tables in
    let passes : (fails : Table → Bool) → ((t : Table) → FitsTable t → fails t ≡ false) → first_table fails ts ≡ None =
    λ fails good. all_pass fails ts 0 (All-weaker FitsTable (λ t. fails t ≡ false) good ts fits.tables) in
    let some_worker = still_none None (shape.workers == 0) NoWorkers refl
    (ne_eqb shape.workers 0 (λ e. omega (arith, fits.least_workers))) in
    let workers = still_none _ (nat_lt MOST_WORKERS shape.workers) TooManyWorkers some_worker
    (le-ltb MOST_WORKERS shape.workers fits.most_workers) in
    let some_table = still_none _ (length ts == 0) NoTables workers
    (ne_eqb (length ts) 0 (λ e. omega (arith, fits.least_tables))) in
    let widths = still_none_at_table _ BadWidth (first_table width_fails ts) some_table
    (passes width_fails (λ t is. inside MOST_WIDTH t.width is.least_width is.most_width)) in
    let capacities = still_none_at_table _ BadCapacity (first_table capacity_fails ts) widths
    (passes capacity_fails (λ t is. inside MOST_CAPACITY t.capacity is.least_capacity is.most_capacity)) in
    let rings = still_none_at_table _ BadRing (first_table ring_fails ts) capacities
    (passes ring_fails (λ t is. inside MOST_RING t.ring is.least_ring is.most_ring)) in
    let buckets = still_none _ (is_outside MOST_BUCKETS shape.buckets) BadBuckets rings
    (inside MOST_BUCKETS shape.buckets fits.least_buckets fits.most_buckets) in
    let cells = still_none _ (is_outside MOST_CELLS shape.cells) BadCells buckets
    (inside MOST_CELLS shape.cells fits.least_cells fits.most_cells) in
    let start = still_none _ (nat_lt (greatest_number shape.form) shape.start) BadStart cells
    (le-ltb (greatest_number shape.form) shape.start fits.start) in
    let names = still_none_at_table _ TwiceNamed (first_twice_named [] 0 ts) start
    (none_twice [] 0 ts refl (λ k from here. fits.names k here)) in
    still_none _ (nat_lt MOST_WORDS (words_of shape)) TooManyWords names (le-ltb MOST_WORDS (words_of shape) fits.words)
