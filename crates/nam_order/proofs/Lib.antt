pub mod FoundLemmas
pub mod KeyLemmas
pub mod WinsLemmas
pub mod GuardsLemmas
pub mod CircleLemmas
pub mod OrderLemmas
