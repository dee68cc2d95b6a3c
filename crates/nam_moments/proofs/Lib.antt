pub mod CandidateLemmas
pub mod NextLemmas
pub mod SnapLemmas
pub mod ViewLemmas
pub mod StepLemmas
pub mod OpeningLemmas
pub mod SnapshotLemmas
