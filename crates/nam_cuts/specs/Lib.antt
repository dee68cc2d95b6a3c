pub mod Cuts
pub mod CutsLaw
