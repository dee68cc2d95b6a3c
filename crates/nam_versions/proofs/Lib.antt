pub mod ChainLemmas
pub mod PublishedLemmas
pub mod OpeningLemmas
pub mod TurnLemmas
pub mod StoreLemmas
pub mod SeenLemmas
