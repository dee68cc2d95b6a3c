pub mod Shown
pub mod Logs
pub mod OfShape
pub mod Commits
