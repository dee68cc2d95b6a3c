pub mod PathLemmas
pub mod FieldLemmas
pub mod FindLemmas
pub mod ClaimLemmas
