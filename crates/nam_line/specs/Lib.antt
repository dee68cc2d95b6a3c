pub mod Plan
pub mod CountedLine
pub mod PassedLaw
