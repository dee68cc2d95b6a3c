-- The commits that the logs list, were each client cut now, beside the publications: one for each, in order.
use Rattle.nam_catalog.specs.declared.shape.Shape.{Shape}
use Rattle.nam_ghost.specs.Origins.{IsListedAs}
use Rattle.nam_ghost.specs.Publications.{Publication}
use Rattle.nam_layout.specs.declared.field.Field.{Field}
use Rattle.si_model.specs.Causes.{tells_by}
use Rattle.si_model.specs.Commits.{Published, published_of}
use Rattle.si_model.specs.Tells.{Tell}
use Rattle.std.specs.Prelude.{List, Some, length, slice_get, suc, ℕ, ◌<◌, ◌≡◌}

module _ (tss : List (List Tell)) where
  -- the commits of the nth client, which is worker nth + 1
  abbrev pub commits_of : ℕ → List Published
  commits_of nth = published_of (suc nth) (tells_by (suc nth) tss)

-- Each client lists as many commits as it has published, each with the stamp, the snapshot and the writes of its own. A
-- commit that has published is listed, though its guards' locks stand or its intent: it has a tail that is cut.
pub record AreCommits (shape : Shape) (m : Field → ℕ) (published : ℕ → List Publication) (tss : List (List Tell))
    : Type 0 where
  pub count : (nth : ℕ) → nth < shape.workers → length (commits_of tss nth) ≡ length (published nth)
  pub each : (nth k : ℕ) → nth < shape.workers → (commit : Publication) (listed : Published)
      → slice_get (published nth) k ≡ Some commit → slice_get (commits_of tss nth) k ≡ Some listed
      → IsListedAs shape m commit listed
