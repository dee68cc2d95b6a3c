-- The rows that a scan has gathered.
use Rattle.std.specs.Prelude.{ℕ, ◌+◌, ◌≤◌, List, [], ◌∷◌, Option, Some, None}
use Rattle.nam_protocol.specs.declared.client.Scanned.{Scanned}
use Rattle.nam_scan.specs.Scan.{Scanning as ScanValue}

-- they stand at rising positions, from the first on and below the last
abbrev pub RiseWithin : ℕ → ℕ → List Scanned → Type 0
RiseWithin first last [] = first ≤ last
RiseWithin first last (row ∷ rows) = (first ≤ row.position) × RiseWithin (row.position + 1) last rows

-- of the scan at hand it holds
abbrev pub OfScan : (ScanValue → Type 0) → Option ScanValue → Type 0
OfScan Is None = ⊥
OfScan Is (Some scan) = Is scan

-- a scan has gathered rows of positions that it has passed
abbrev pub Gathers : List Scanned → Option ScanValue → Type 0
Gathers rows scan = OfScan (λ scan. RiseWithin 0 scan.position rows) scan
