mod SearchLemmas
pub mod ClaimLemmas
pub mod FillLemmas
mod FieldLemmas
