pub mod MomentsLaw
pub mod SnapshotsLaw
