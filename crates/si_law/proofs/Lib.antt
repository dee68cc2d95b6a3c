pub mod GrowthCrowded
pub mod Moved
pub mod GrowthEnds
pub mod GrowthCommits
pub mod GrowthKeeps
pub mod GrowthQuiet
pub mod GrowthView
pub mod GrowthCommit
pub mod GrowthStart
pub mod Outcomes
pub mod GrowthListed
pub mod GrowthEvent
pub mod GrowthOldEnd
pub mod Lifts
pub mod Standing
pub mod Counted
pub mod Newest
pub mod Order
pub mod Legal
pub mod OwnCommits
pub mod Numbers
pub mod Agree
pub mod ListedOnce
pub mod Fulls
pub mod TheLaw
mod GuardBesideExample
pub mod GrowthScript
pub mod GrowthSteps
pub mod GrowthExample
pub mod GrowthOutcomesExample
pub mod GrowthEventsExample
pub mod GrowthOthersExample
mod GrowthExchangesExample
mod GrowthScriptExample
