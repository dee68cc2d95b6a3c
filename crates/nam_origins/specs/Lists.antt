-- How a client's log goes on with a step, and how its listed commits stand to its publications.
use Rattle.std.specs.Prelude.{List, Some, [], drop, length, slice_get, slice_index_or, take, ℕ, ◌++◌, ◌+◌, ◌∷◌, ◌≡◌}
use Rattle.nam_catalog.specs.declared.shape.Shape.{Shape}
use Rattle.nam_ghost.specs.Origins.{IsListedAs}
use Rattle.nam_ghost.specs.Publications.{Publication}
use Rattle.nam_layout.specs.declared.field.Field.{Field}
use Rattle.nam_origins.specs.Logs.{pending}
use Rattle.nam_protocol.specs.declared.client.ClientState.{ClientState}
use Rattle.si_model.specs.Commits.{Published, published_at}
use Rattle.si_model.specs.Tells.{Tell, snaps_in, total, writes_in}
use Rattle.si_model.specs.declared.log.Event.{Event}
use Rattle.si_model.specs.declared.row.Item.{Item}

-- an event with its written items and its snapshot alone, which stand first in these lists
abbrev pub tell_of : Event → List Item → List (List ℕ) → Tell
tell_of event ws ss = record {
  event = event;
  ops = [];
  reads = [];
  locks = [];
  writes = take (writes_in event) ws;
  snap = slice_index_or (take (snaps_in event) ss) 0 [];
}

-- the commits among these events of worker j
abbrev pub commits_of : ℕ → List Event → List Item → List (List ℕ) → List Published
commits_of j [] ws ss = []
commits_of j (e ∷ es) ws ss =
    published_at j (tell_of e ws ss) e ++ commits_of j es (drop (writes_in e) ws) (drop (snaps_in e) ss)

-- The log has these events, written items and snapshots more. Of the snapshots, with the one that was pending, its new
-- events own the first, and what is left is pending then. These of the events are commits.
pub record LogGoes (was : List (List ℕ)) (before after : ClientState) (commits : List Published) : Type 0 where
  pub events_more : List Event
  pub writes_more : List Item
  pub snaps_more : List (List ℕ)
  pub own : List (List ℕ)
  pub worker : after.worker ≡ before.worker
  pub events : after.log.events ≡ before.log.events ++ events_more
  pub writes : after.log.writes ≡ before.log.writes ++ writes_more
  pub snaps : after.log.snaps ≡ before.log.snaps ++ snaps_more
  pub moves : was ++ snaps_more ≡ own ++ pending after.txn after.call
  pub all_writes : total writes_in events_more ≡ length writes_more
  pub all_snaps : total snaps_in events_more ≡ length own
  pub lists : commits_of before.worker events_more writes_more own ≡ commits

-- the listed commits are the publications, in order, but that so many of the last aren't listed yet
pub record Matches (shape : Shape) (m : Field → ℕ) (published : List Publication) (listed : List Published) (late : ℕ)
    : Type 0 where
  pub count : length listed + late ≡ length published
  pub each : (k : ℕ) (commit : Publication) (line : Published) → slice_get published k ≡ Some commit
      → slice_get listed k ≡ Some line → IsListedAs shape m commit line
