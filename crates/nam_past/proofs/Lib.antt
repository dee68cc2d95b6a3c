pub mod CountLemmas
pub mod SumLemmas
pub mod MomentLemmas
pub mod OpeningLemmas
pub mod OrderLemmas
pub mod StepLemmas
pub mod PrefixLemmas
pub mod PastExample
