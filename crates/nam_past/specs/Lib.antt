pub mod Past
pub mod PastLaw
pub mod PrefixLaw
