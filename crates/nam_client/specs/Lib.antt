pub mod Registers
pub mod Gathered
pub mod Scanning
pub mod Room
pub mod Client
pub mod Fits
pub mod Ending
pub mod Closing
