pub mod Change
pub mod Spots
pub mod SlotsLaw
