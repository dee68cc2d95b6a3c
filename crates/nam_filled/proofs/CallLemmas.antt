-- Under a step of one client what is said of each other client's move and collection stays.
use Rattle.std.proofs.Common.{List, None, Option, Some, [], ap, arith, inl, inr, length, ℕ, ⊎_elim}
use Rattle.std.proofs.Common.{◌++◌, ◌<◌, ◌∙◌, ◌∷◌, ◌≡◌, ◌≢◌, ◌≤◌, ◌⊎◌}
use Rattle.si_model.specs.Lists.{last_of}
use Rattle.nam_verbs.specs.declared.now.Now.{Now}
use Rattle.nam_verbs.specs.declared.now.Now.TheVariants.{At, Over}
use Rattle.nam_calls.specs.Fits.{CollectFits, MoveFits}
use Rattle.nam_calls.specs.declared.horizon.CollectPoint.TheVariants.{CollectEnding, CollectFree, CollectTag}
use Rattle.nam_calls.specs.declared.horizon.CollectPoint.TheVariants.{HorizonLook, HorizonRaise}
use Rattle.nam_calls.specs.declared.horizon.CollectPoint.{CollectPoint}
use Rattle.nam_calls.specs.declared.mover.MovePoint.TheVariants.{MoveClaim}
use Rattle.nam_calls.specs.declared.mover.MovePoint.{MovePoint}
use Rattle.nam_calls.specs.declared.overflow.ClaimPoint.TheVariants.{ClaimLook, ClaimTake}
use Rattle.nam_catalog.specs.Fits.{FitsLimits}
use Rattle.nam_catalog.specs.declared.shape.Shape.{Shape}
use Rattle.nam_filled.proofs.CellLemmas.{passed_stays}
use Rattle.nam_filled.proofs.ListLemmas.{last_push}
use Rattle.nam_filled.proofs.StayLemmas.{others_own, others_stay}
use Rattle.nam_filled.specs.Filled.{ArePassed, CallOk, ClaimerAt, CollectorAt, IsFilled, IsFullAt, IsTaken}
use Rattle.nam_filled.specs.Filled.{MoverAt, NowOk, OthersCollected, Scene}
use Rattle.nam_filled.specs.Holders.{mover_of}
use Rattle.nam_filled.specs.Turn.{CellGoes, Claims, Fills, Frees, GivesBack, Keeps, Sticks, Turn}
use Rattle.nam_layout.specs.Address.{IsCell}
use Rattle.nam_layout.specs.Place.{bucket_of, cells_of, place_at}
use Rattle.nam_layout.specs.Rows.{row_of}
use Rattle.nam_protocol.specs.ClientFits.{CallPointFits, NowFits}
use Rattle.nam_protocol.specs.declared.client.Answer.{Answer}
use Rattle.nam_protocol.specs.declared.client.CallPoint.TheVariants.{Beginning, Collecting, InTxn, Moving, Scanning}
use Rattle.nam_protocol.specs.declared.client.CallPoint.TheVariants.{Seeking, Snapping}
use Rattle.nam_protocol.specs.declared.client.CallPoint.{CallPoint}
use Rattle.nam_protocol.specs.declared.client.ClientState.{ClientState}
use Rattle.nam_protocol.specs.declared.client.Open.{Open}

pub bucket_within : (shape : Shape) → FitsLimits shape → (row : ℕ) → bucket_of shape row < shape.buckets
bucket_within shape limits row = let least = limits.least_buckets in omega arith

module _ (shape : Shape) (limits : FitsLimits shape) (s t : Scene) (nth : ℕ) (client later : ClientState)
    (turn : Turn shape s t nth client later) (filled : IsFilled shape s) (j : ℕ) (apart : j ≢ nth) where
  -- 1. A mover that looks for a free cell

  module _ (bucket cell : ℕ) where
    abbrev Goes : Type 0
    Goes = CellGoes shape s t nth client later bucket cell

    abbrev Was : Type 0
    Was = IsTaken shape s j bucket cell

    abbrev Is : Type 0
    Is = IsTaken shape t j bucket cell

    same_last : t.holders bucket cell ≡ s.holders bucket cell → Was → Is
    same_last holders (mover, last, worker) = (mover, ap last_of holders ∙ last, worker)

    claimed_last : t.holders bucket cell ≡ s.holders bucket cell ++ mover_of nth client ∷ [] → Is
    claimed_last holders = (
      mover_of nth client,
      ap last_of holders ∙ last_push (s.holders bucket cell) (mover_of nth client),
      λ same. apart (omega arith),
    )

    taken_stays : Goes → Was → Is
    taken_stays (Keeps tag same holders fills) was = same_last holders was
    taken_stays (Claims free tag claimed holders fills) was = claimed_last holders
    taken_stays (Fills row number writes own tag stored holders by_move) was = same_last holders was
    taken_stays (GivesBack writes next tag free holders) was = same_last holders was
    taken_stays (Sticks writes none tag own holders) was = same_last holders was
    taken_stays (Frees was_full next tag free holders collects) was = same_last holders was

    take_stays : (tag : ℕ) → Goes → ClaimerAt shape s j bucket (ClaimTake cell tag)
        → ClaimerAt shape t j bucket (ClaimTake cell tag)
    take_stays tag goes (inr was) = inr (taken_stays goes was)
    take_stays tag (Keeps up same holders fills) (inl was) = inl (up ∙ was.0, was.1)
    take_stays tag (Claims free up claimed holders fills) (inl was) = inr (claimed_last holders)
    take_stays tag (Fills row number writes own up stored holders by_move) (inl was) =
        let e = was.0 in let zero = was.1 in absurd (omega arith)
    take_stays tag (GivesBack writes next up free holders) (inl was) =
        let e = was.0 in let zero = was.1 in absurd (omega arith)
    take_stays tag (Sticks writes none up own holders) (inl was) =
        let e = was.0 in let zero = was.1 in absurd (omega arith)
    take_stays tag (Frees was_full next up free holders collects) (inl was) =
        let e = was.0 in let zero = was.1 in absurd (omega arith)

    -- 2. A collector's cell

    full_stays : (tag : ℕ) → Goes → IsFullAt shape s bucket cell tag
        → OthersCollected shape t j ⊎ IsFullAt shape t bucket cell tag
    full_stays tag (Keeps up same holders fills) was = inr (up ∙ was.0, was.1)
    full_stays tag (Claims free up claimed holders fills) was =
        let e = was.0 in let two = was.1 in absurd (omega arith)
    full_stays tag (Fills row number writes own up stored holders by_move) was =
        let e = was.0 in let two = was.1 in absurd (omega arith)
    full_stays tag (GivesBack writes next up free holders) was =
        let e = was.0 in let two = was.1 in absurd (omega arith)
    full_stays tag (Sticks writes none up own holders) was =
        let e = was.0 in let two = was.1 in absurd (omega arith)
    full_stays tag (Frees was_full next up free holders collects) was =
        inl (others_own shape s t nth client later turn j apart collects)

  cells_passed : (bucket : ℕ) (seen : List ℕ) (count : ℕ) → bucket < shape.buckets → count ≤ shape.cells
      → ArePassed shape s j bucket seen count → ArePassed shape t j bucket seen count
  cells_passed bucket seen count within most passed cell less =
      let is : IsCell shape bucket cell = (within, omega arith) in
      passed_stays shape s t nth client later turn bucket cell is j seen apart (turn.cells bucket cell is)
      (filled.cells bucket cell is) (passed cell less)

  -- 3. Its call

  mover_stays : (row : ℕ) (at : MovePoint) → MoveFits (place_at shape row) (cells_of shape (bucket_of shape row)) at
      → MoverAt shape s j (bucket_of shape row) at → MoverAt shape t j (bucket_of shape row) at
  mover_stays row (MoveClaim slot header ending (ClaimLook cell)) fits was = tt
  mover_stays row (MoveClaim slot header ending (ClaimTake cell tag)) fits was =
      let bucket = bucket_of shape row in
      take_stays bucket cell tag (turn.cells bucket cell (bucket_within shape limits row, fits.1)) was
  mover_stays row _ fits was = tt

  abbrev Collects : ℕ → List ℕ → CollectPoint → Type 0
  Collects bucket seen at = OthersCollected shape t j ⊎ CollectorAt shape t j bucket seen at

  collector_stays : (bucket : ℕ) (seen : List ℕ) (at : CollectPoint) → bucket < shape.buckets
      → CollectFits (cells_of shape bucket) shape.workers at → CollectorAt shape s j bucket seen at
      → Collects bucket seen at
  collector_stays bucket seen (HorizonLook known) within fits was = inr was
  collector_stays bucket seen (HorizonRaise known found) within fits was =
      ⊎_elim (λ has. inl (others_own shape s t nth client later turn j apart has))
      (λ same. inr (was.0, same (length known) fits ∙ was.1)) turn.horizon
  collector_stays bucket seen (CollectTag known cell) within fits was =
      let less = fits.1 in inr (was.0, cells_passed bucket seen cell within (omega arith) was.1)
  collector_stays bucket seen (CollectEnding known cell tag) within fits was =
      let less = fits.1 in
      ⊎_elim (λ others. inl others)
      (λ same. inr (was.0, cells_passed bucket seen cell within (omega arith) was.1, same))
      (full_stays bucket cell tag (turn.cells bucket cell (within, less)) was.2)
  collector_stays bucket seen (CollectFree known cell tag) within fits was =
      let less = fits.1 in
      ⊎_elim (λ others. inl others)
      (λ same. inr (was.0, cells_passed bucket seen cell within (omega arith) was.1, same))
      (full_stays bucket cell tag (turn.cells bucket cell (within, less)) was.2)

  call_stays : (opened : Option Open) (place : CallPoint) → CallPointFits shape opened place → CallOk shape s j place
      → CallOk shape t j place
  call_stays opened (Moving table key position at) fits was =
      mover_stays (row_of shape.tables table position) at fits.2 was
  call_stays opened (Collecting bucket prefix seen at) fits (inl others) =
      inl (others_stay shape s t nth client later turn j others)
  call_stays opened (Collecting bucket prefix seen at) fits (inr was) =
      collector_stays bucket seen at fits.0 fits.2 was
  call_stays opened (Beginning txn n at) fits was = tt
  call_stays opened (InTxn at) fits was = tt
  call_stays opened (Scanning table low high at) fits was = tt
  call_stays opened (Seeking table key passed) fits was = tt
  call_stays opened (Snapping bucket at) fits was = tt

  pub now_stays : (opened : Option Open) (call : Option (Now CallPoint Answer)) → NowFits shape opened call
      → NowOk shape s j call → NowOk shape t j call
  now_stays opened (Some (At place)) fits was = call_stays opened place fits was
  now_stays opened (Some (Over answer)) fits was = tt
  now_stays opened None fits was = tt
