pub mod RecordsLemmas
pub mod StandsLemmas
pub mod VerbLemmas
pub mod KeptLemmas
pub mod HeldLemmas
pub mod LeftLemmas
