pub mod Opening
pub mod Turn
pub mod Audit
pub mod World
