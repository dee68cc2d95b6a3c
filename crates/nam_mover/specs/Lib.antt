pub mod Move
pub mod MoveLaw
pub mod ClaimedLaw
pub mod OrderLaw
