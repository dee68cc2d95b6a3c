pub mod SnapLemmas
pub mod OrderLemmas
pub mod SerialLemmas
