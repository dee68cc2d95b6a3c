pub mod Home
pub mod Claimed
pub mod ClaimedLaw
pub mod HomeLaw
pub mod EndsLaw
