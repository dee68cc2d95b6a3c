pub mod WordsLaw
pub mod WorldsLaw
pub mod AnswersLaw
pub mod EndsLaw
pub mod CountsLaw
pub mod SnapshotsLaw
pub mod LockersLaw
