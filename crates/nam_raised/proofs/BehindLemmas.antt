-- What a client has collected by is behind the snapshots that it takes later: collections tell the entries of their
-- snapshots, and the log lists snapshots in the order of the events that own them.
use Rattle.std.proofs.Common.{List, None, Option, Some, [], append_assoc, inl, inr, refl, subst, sym, ℕ, ◌++◌, ◌∷◌}
use Rattle.std.proofs.Common.{if◌then◌else◌, ◌≡◌}
use Rattle.std.specs.List.{AllByRecursion, flat_map}
use Rattle.si_model.proofs.ListLemmas.{All-from_listed, All-listed, listed_append_left, listed_append_right}
use Rattle.si_model.specs.Lists.{Listed, Pairwise}
use Rattle.si_model.specs.Tells.{Tell, own_snaps, prefix_in}
use Rattle.si_model.specs.declared.log.Event.{Event}
use Rattle.si_model.specs.declared.log.Event.TheVariants.{Collected}
use Rattle.std.specs.Prelude.{is_some}
use Rattle.nam_verbs.specs.declared.now.Now.{Now}
use Rattle.nam_verbs.specs.declared.now.Now.TheVariants.{At, Over}
use Rattle.nam_protocol.specs.Own.{IsOpenNow}
use Rattle.nam_protocol.specs.declared.client.Answer.{Answer}
use Rattle.nam_protocol.specs.declared.client.CallPoint.{CallPoint}
use Rattle.nam_protocol.specs.declared.client.CallPoint.TheVariants.{Beginning, Collecting, InTxn, Moving, Scanning}
use Rattle.nam_protocol.specs.declared.client.CallPoint.TheVariants.{Seeking, Snapping}
use Rattle.nam_protocol.specs.declared.client.ClientState.{ClientState}
use Rattle.nam_protocol.specs.declared.client.Open.{Open}
use Rattle.nam_ghost.specs.Moments.{AtMost}
use Rattle.nam_tells.specs.Teller.{IsTold, Teller, snaps_pending}
use Rattle.nam_raised.specs.Raised.{OfEntries, ShowsSnap, SnapsRise}
use Rattle.nam_raised.specs.RaisedLaw.{BehindLaw, IsBehind, StaysBehind}

-- 1. Lists

Pairwise-rest : {A : Type 0} (R : A → A → Type 0) (xs ys : List A) → Pairwise R (xs ++ ys) → Pairwise R ys
Pairwise-rest R [] ys pairs = pairs
Pairwise-rest R (x ∷ xs) ys pairs = Pairwise-rest R xs ys pairs.1

listed_in : {A B : Type 0} (f : A → List B) (xs : List A) (x : A) (y : B) → Listed x xs → Listed y (f x)
    → Listed y (flat_map f xs)
listed_in f [] x y there is = absurd there
listed_in f (z ∷ zs) x y (inl same) is =
    listed_append_left (f z) (flat_map f zs) y (subst (λ w. Listed y (f w)) (sym same) is)
listed_in f (z ∷ zs) x y (inr there) is = listed_append_right (f z) (flat_map f zs) y (listed_in f zs x y there is)

module _ (workers : ℕ) where
  -- 2. One event, and the snapshots that are listed after its own

  event_behind : (event : Event) (snap : List ℕ) (rest : List (List ℕ)) → OfEntries (λ entries. entries ≡ snap) event
      → Pairwise (AtMost workers) ((if is_some (prefix_in event) then snap ∷ [] else []) ++ rest) → (seen : List ℕ)
      → Listed seen rest → OfEntries (λ entries. AtMost workers entries seen) event
  event_behind (Collected bucket prefix entries cut) snap rest shows pairs seen there =
      subst (λ s. AtMost workers s seen) (sym shows) (All-listed (AtMost workers snap) rest seen pairs.0 there)
  event_behind _ snap rest shows pairs seen there = tt

  -- so of all that was told before what is pending
  module _ (pending : List (List ℕ)) where
    abbrev Listing : List Tell → Type 0
    Listing tells = Pairwise (AtMost workers) (flat_map own_snaps tells ++ pending)

    apart : (t : Tell) (ts : List Tell) → Listing (t ∷ ts)
        → Pairwise (AtMost workers) (own_snaps t ++ (flat_map own_snaps ts ++ pending))
    apart t ts pairs =
        subst (Pairwise (AtMost workers)) (append_assoc (own_snaps t) (flat_map own_snaps ts) pending) pairs

    tells_behind : (tells : List Tell) → AllByRecursion ShowsSnap tells → Listing tells → (seen : List ℕ)
        → Listed seen pending → AllByRecursion (IsBehind workers seen) tells
    tells_behind [] shows pairs seen there = tt
    tells_behind (t ∷ ts) shows pairs seen there = (
      event_behind t.event t.snap (flat_map own_snaps ts ++ pending) shows.0 (apart t ts pairs) seen
          (listed_append_right (flat_map own_snaps ts) pending seen there),
      tells_behind ts shows.1
          (Pairwise-rest (AtMost workers) (own_snaps t) (flat_map own_snaps ts ++ pending) (apart t ts pairs)) seen
          there,
    )

    -- and of each event before another
    tells_later : (tells : List Tell) → AllByRecursion ShowsSnap tells → Listing tells
        → Pairwise (λ earlier now. AllByRecursion (λ seen. IsBehind workers seen earlier) (own_snaps now)) tells
    tells_later [] shows pairs = tt
    tells_later (t ∷ ts) shows pairs = (
      All-from_listed (λ now. AllByRecursion (λ seen. IsBehind workers seen t) (own_snaps now)) ts
          (λ now there. All-from_listed (λ seen. IsBehind workers seen t) (own_snaps now)
          (λ seen is. event_behind t.event t.snap (flat_map own_snaps ts ++ pending) shows.0 (apart t ts pairs) seen
          (listed_append_left (flat_map own_snaps ts) pending seen (listed_in own_snaps ts now seen there is)))),
      tells_later ts shows.1
          (Pairwise-rest (AtMost workers) (own_snaps t) (flat_map own_snaps ts ++ pending) (apart t ts pairs)),
    )

  -- 3. One client

  open_pending : (attempt : Open) (call : Option (Now CallPoint Answer)) → IsOpenNow (Some attempt) call
      → Listed attempt.state.seen (snaps_pending (Some attempt) call)
  open_pending attempt None opens = inl refl
  open_pending attempt (Some (Over answer)) opens = inl refl
  open_pending attempt (Some (At (Beginning txn nth at))) opens = inl refl
  open_pending attempt (Some (At (InTxn at))) opens = inl refl
  open_pending attempt (Some (At (Scanning table low high at))) opens = inl refl
  open_pending attempt (Some (At (Seeking table key passed))) opens = inl refl
  open_pending attempt (Some (At (Moving table key position at))) opens = inl refl
  open_pending attempt (Some (At (Snapping bucket at))) opens = inl refl
  open_pending attempt (Some (At (Collecting bucket prefix seen at))) opens = absurd (cc)

  module _ (client : ClientState) (teller : Teller) (nth : ℕ) (told : IsTold client teller)
      (rises : SnapsRise workers nth client teller) where
    abbrev pending : List (List ℕ)
    pending = snaps_pending client.txn client.call

    listing : Pairwise (AtMost workers) (flat_map own_snaps teller.front ++ pending)
    listing = subst (Pairwise (AtMost workers)) told.lists.snaps rises.rising

    pub open_behind : (attempt : Open) → client.txn ≡ Some attempt
        → AllByRecursion (IsBehind workers attempt.state.seen) teller.front
    open_behind attempt opened =
        tells_behind pending teller.front rises.shows listing attempt.state.seen
        (subst (λ (o : Option Open). Listed attempt.state.seen (snaps_pending o client.call)) (sym opened)
        (open_pending attempt client.call (subst (λ (o : Option Open). IsOpenNow o client.call) opened told.opens)))

    stays_behind : StaysBehind workers client teller
    stays_behind = record {
      later = tells_later pending teller.front rises.shows listing;
      opened = open_behind;
      collects = λ bucket prefix seen at runs.
          tells_behind pending teller.front rises.shows listing seen
          (subst (λ (call : Option (Now CallPoint Answer)). Listed seen (snaps_pending client.txn call)) (sym runs)
          (inl refl));
    }

pub behind_holds : BehindLaw
behind_holds shape store tellers rests ok nth client here =
    stays_behind shape.workers client (tellers nth) nth (rests.told nth client here) (ok.each nth client here)
