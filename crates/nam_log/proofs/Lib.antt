pub mod FlatLemmas
pub mod NoteLemmas
