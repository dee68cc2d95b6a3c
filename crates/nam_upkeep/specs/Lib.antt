pub mod Cells
pub mod Snapper
pub mod Move
pub mod Mover
pub mod Collector
