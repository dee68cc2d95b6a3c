pub mod ScenarioLemmas
mod ScriptExample
