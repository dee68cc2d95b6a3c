-- What an evaluation gives an entry of a history.
use Rattle.std.specs.Prelude.{◌<◌, ◌≡◌, IsTrue, List, length}
use Rattle.si_model.specs.declared.row.Key.{Key}
use Rattle.si_model.specs.declared.row.Item.{Item}
use Rattle.si_model.specs.declared.report.CommitLine.{CommitLine}
use Rattle.si_model.specs.declared.evaluated.Evaluated.{Evaluated}
use Rattle.si_model.specs.declared.evaluated.Evaluated.TheVariants.{Done}
use Rattle.si_model.specs.History.{keys_of, none_writes}

-- the evaluation is done with this write set, which isn't empty, and no entry since wrote one of its keys
pub record Gives (e : Evaluated) (writes : List Item) (since : List CommitLine) : Type 0 where
  pub reads : List Item
  pub guards : List Key
  pub done : e ≡ Done reads writes guards
  pub some : 0 < length writes
  pub first_wins : IsTrue (none_writes (keys_of writes guards) since)
