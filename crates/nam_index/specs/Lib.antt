pub mod Path
pub mod Find
pub mod Claim
pub mod PathLaw
pub mod FieldLaw
pub mod FindLaw
pub mod ClaimLaw
