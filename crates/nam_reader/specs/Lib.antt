pub mod Reading
pub mod Registers
