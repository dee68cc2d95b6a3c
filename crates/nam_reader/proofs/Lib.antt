pub mod EndLemmas
pub mod SearchLemmas
pub mod TakenLemmas
