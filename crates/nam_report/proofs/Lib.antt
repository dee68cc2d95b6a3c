pub mod FitsLemmas
pub mod SpellingLemmas
mod NamedLemmas
mod LineFitsLemmas
mod Reader
mod ToldLemmas
mod TextLemmas
mod LevelLemmas
mod DepthLemmas
mod OrderLemmas
mod LineLemmas
mod PublishedLemmas
mod ArrangedLemmas
mod ArrangedExamples
