mod TurnLemmas
mod RunLemmas
mod JobLemmas
pub mod OpenedLemmas
mod SessionJobs
mod SimulatedLemmas
