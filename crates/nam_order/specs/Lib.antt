pub mod OrderLaw
