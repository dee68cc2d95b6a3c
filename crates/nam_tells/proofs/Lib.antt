pub mod EventLemmas
pub mod CutLemmas
pub mod StepLemmas
pub mod AskLemmas
pub mod WordLemmas
pub mod StoreLemmas
pub mod HeldLemmas
pub mod EndLemmas
pub mod EndWords
pub mod GrowLemmas
pub mod AskedLemmas
pub mod AskedStores
pub mod QuietLemmas
mod TellsExample
