pub mod Scenario
pub mod ScenarioLaw
