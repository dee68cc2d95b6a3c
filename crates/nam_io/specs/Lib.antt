pub mod Faults
pub mod Fronts
pub mod Calls
pub mod Memory
pub mod Adapted
