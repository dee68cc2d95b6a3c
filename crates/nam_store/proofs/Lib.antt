mod StoreExample
pub mod Lists
pub mod StepLemmas
pub mod ClientLemmas
pub mod BaseLemmas
pub mod KindsLemmas
pub mod OpeningLemmas
pub mod PathLemmas
pub mod KeysOpen
pub mod RowsStand
pub mod ReachedLemmas
pub mod SettleLemmas
pub mod TurnLemmas
pub mod WorldOpens
