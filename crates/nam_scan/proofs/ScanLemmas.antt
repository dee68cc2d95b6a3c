-- A scan that is of a table of the shape: where its verbs are, and how many are to come.
use Rattle.std.proofs.Common.{◌≡◌, ℕ, ◌+◌, ◌-◌, ◌*◌, ◌<◌, refl, sym, ◌∙◌, ap, arith}
use Rattle.nam_verbs.specs.VerbAt.{VerbAt, ReadAt, WriteAt, ExchangeAt, target, verb_by}
use Rattle.nam_verbs.specs.declared.verb.Verb.{Verb}
use Rattle.nam_verbs.specs.declared.now.Now.{Now}
use Rattle.nam_verbs.specs.declared.now.Now.TheVariants.{At, Over}
use Rattle.nam_verbs.specs.Now.{FitsNow, left_now}
use Rattle.nam_verbs.specs.Falls.{FallsTo}
use Rattle.nam_verbs.specs.Verb.{address_of}
use Rattle.nam_catalog.specs.declared.shape.Shape.{Shape}
use Rattle.nam_catalog.specs.Fits.{FitsLimits}
use Rattle.nam_catalog.specs.Words.{words_of}
use Rattle.nam_layout.specs.declared.field.Field.{Field}
use Rattle.nam_layout.specs.Rows.{row_of}
use Rattle.nam_layout.specs.Address.{address}
use Rattle.nam_layout.specs.Place.{bucket_of}
use Rattle.nam_layout.proofs.PlaceLemmas.{known_stands}
use Rattle.nam_calls.specs.declared.reading.Sight.{Sight}
use Rattle.nam_calls.specs.declared.reading.ReadPoint.{ReadPoint}
use Rattle.nam_calls.specs.Words.{capacity_of}
use Rattle.nam_calls.specs.Reading.{sight_of, read_left, read_most}
use Rattle.nam_calls.specs.Fits.{IsTableOf}
use Rattle.nam_calls.proofs.FallsTables.{sight_fits, read_figure}
use Rattle.nam_calls.proofs.FieldLemmas.{read_field}
use Rattle.nam_protocol.specs.declared.scan.ScanPoint.{ScanPoint}
use Rattle.nam_protocol.specs.declared.scan.ScanPoint.TheVariants.{ScanKey, ScanRead}
use Rattle.nam_protocol.specs.declared.scan.ScanAnswer.{ScanAnswer}
use Rattle.nam_protocol.specs.Scan.{scan_verb, scan_after, scan_left, position_of}
use Rattle.nam_protocol.specs.TxnFits.{ScanFits}
use Rattle.nam_protocol.proofs.FallsScan.{scan_falls}
use Rattle.nam_protocol.proofs.FieldLemmas.{scan_at, reached_within}
use Rattle.nam_scan.specs.Reading.{sight_address}
use Rattle.nam_scan.specs.Scan.{position_whole, Scanning, StandsAt, ScanningFits, IsScanOf}

-- a verb is the same where its word has the same address
same_verb : (verb : VerbAt Field) (f g : Field → ℕ) → f (target verb) ≡ g (target verb)
    → verb_by f verb ≡ verb_by g verb
same_verb (ReadAt at) f g same = rw same refl
same_verb (WriteAt at word) f g same = rw same refl
same_verb (ExchangeAt at expect word) f g same = rw same refl

-- where a call goes that falls, it fits and has fewer verbs to come
falls_now : {P E : Type 0} (Fits : P → Type 0) (Ends : E → Type 0) (left : P → ℕ) (after : E → ℕ) (n : ℕ)
    (now : Now P E) → FallsTo Fits Ends left after n now → FitsNow Fits now × (left_now left now < n)
falls_now Fits Ends left after n (At at) falls = falls
falls_now Fits Ends left after n (Over end) falls = let less = falls.1 in (tt, omega arith)

module _ (shape : Shape) (limits : FitsLimits shape) (table : ℕ) (is : IsTableOf shape table) where
  -- 1. Verbs to come

  whole_is : (position : ℕ) → position < capacity_of shape table
      → position_whole (sight_of shape table position) ≡ 1 + read_most shape table
  whole_is position less = let figure = read_figure shape limits table position is less in omega arith

  pub key_left : (capacity position whole : ℕ) (sight : Sight) → whole ≡ position_whole sight
      → capacity ≡ capacity_of shape table → position < capacity → sight ≡ sight_of shape table position
      → (capacity - position) * whole ≡ scan_left shape table (ScanKey position)
  key_left capacity position whole sight w c less s =
      rw (w, s, whole_is position (rw c at less), c) refl

  pub read_at_left : (capacity position key whole left : ℕ) (sight : Sight) (at : ReadPoint)
      → left ≡ read_left sight at → whole ≡ position_whole sight
      → capacity ≡ capacity_of shape table → position < capacity → sight ≡ sight_of shape table position
      → left + (capacity - position - 1) * whole ≡ scan_left shape table (ScanRead position key at)
  read_at_left capacity position key whole left sight at l w c less s =
      rw (l, w, s, whole_is position (rw c at less), c) refl

  -- 2. Addresses

  address_is : (at : ScanPoint) → ScanFits shape table at
      → sight_address (sight_of shape table (position_of at)) (target (scan_verb shape table at))
      ≡ address shape (target (scan_verb shape table at))
  address_is (ScanKey position) fits =
      let row = row_of shape.tables table position in
      sym (known_stands shape row (bucket_of shape row) (target (scan_verb shape table (ScanKey position))) refl).0
  address_is (ScanRead position key at) fits =
      let row = row_of shape.tables table position in
      sym
      (known_stands shape row (bucket_of shape row) (target (scan_verb shape table (ScanRead position key at)))
      (read_field (sight_of shape table position) (sight_fits shape limits table position is fits.0) at fits.1)).0

  pub verb_is : (at : ScanPoint) → ScanFits shape table at
      → verb_by (sight_address (sight_of shape table (position_of at))) (scan_verb shape table at)
      ≡ verb_by (address shape) (scan_verb shape table at)
  verb_is at fits =
      same_verb (scan_verb shape table at) (sight_address (sight_of shape table (position_of at))) (address shape)
      (address_is at fits)

  pub verb_within : (at : ScanPoint) → ScanFits shape table at
      → address_of (verb_by (address shape) (scan_verb shape table at)) < words_of shape
  verb_within at fits = (reached_within shape (scan_verb shape table at) (scan_at shape limits table is at fits)).0

-- 3. The point of a scan

module _ (shape : Shape) (a : Scanning) (of : IsScanOf shape a) (fits : ScanningFits a) where
  pub position_within : a.position < capacity_of shape a.range.table
  position_within = rw of.sees.capacity_is at fits.position

  pub sight_at : (at : ScanPoint) → StandsAt a.sight a.position at
      → a.sight ≡ sight_of shape a.range.table (position_of at)
  sight_at at stands = rw stands.0 of.sees.sight_is

  pub point_fits : (at : ScanPoint) → StandsAt a.sight a.position at → ScanFits shape a.range.table at
  point_fits (ScanKey position) stands = rw stands.0 position_within
  point_fits (ScanRead position key at) stands =
      (rw stands.0 position_within, rw (stands.0, ← of.sees.sight_is) stands.1)

  -- the verb is at a word of the shape
  pub reached : (at : ScanPoint) (verb : Verb) → StandsAt a.sight a.position at
      → verb ≡ verb_by (sight_address a.sight) (scan_verb shape a.range.table at)
      → address_of verb < words_of shape
  reached at verb stands is =
      let fits = point_fits at stands in
      let there = is
      ∙ ap (λ (sight : Sight). verb_by (sight_address sight) (scan_verb shape a.range.table at)) (sight_at at stands)
      ∙ verb_is shape of.limits a.range.table of.table_is at fits in
      rw there (verb_within shape of.limits a.range.table of.table_is at fits)

  -- what follows a word fits, with fewer verbs to come
  pub goes_down : (at : ScanPoint) (found : ℕ) (now : Now ScanPoint ScanAnswer) → StandsAt a.sight a.position at
      → now ≡ scan_after shape a.range.table a.range.low a.range.high a.seen at found
      → FitsNow (ScanFits shape a.range.table) now
      × (left_now (scan_left shape a.range.table) now < scan_left shape a.range.table at)
  goes_down at found now stands is =
      rw is
      (falls_now _ _ _ _ _ _
      (scan_falls shape of.limits a.range.table of.table_is a.range.low a.range.high a.seen at found
      (point_fits at stands)))
