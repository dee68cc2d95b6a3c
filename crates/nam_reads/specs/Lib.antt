pub mod ReadsLaw
pub mod Facts
pub mod Comes
pub mod FoundLaw
