pub mod Flat
pub mod Notes
pub mod Roomy
pub mod Running
