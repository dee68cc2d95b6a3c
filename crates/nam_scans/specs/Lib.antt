pub mod Gathered
pub mod ScansLaw
pub mod ScannedLaw
