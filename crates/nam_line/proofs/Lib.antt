pub mod PassedLemmas
pub mod PlanExample
