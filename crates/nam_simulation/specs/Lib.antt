pub mod Simulation
pub mod SimulatedText
