pub mod NameLemmas
pub mod FitsLemmas
pub mod WordLemmas
