pub mod Runs
mod RunsLemmas
pub mod RowLemmas
pub mod ChainLemmas
pub mod ValueLemmas
pub mod LawLemmas
pub mod CommitExample
pub mod MoveExample
pub mod Small
mod ClaimsExample
mod ViewsExample
mod ReadsExample
pub mod UpkeepExample
mod OriginsExample
mod KeysExample
pub mod LawExample
mod LawsExample
mod EdgesExample
mod SearchExample
pub mod ListLemmas
pub mod VisibleLemmas
pub mod OrderLemmas
pub mod ObserverLemmas
pub mod SteppingLemmas
pub mod SnapshotLemmas
pub mod EntryLemmas
pub mod IdleLemmas
pub mod RecordLemmas
pub mod ListedLemmas
pub mod KeyLemmas
pub mod CellLemmas
