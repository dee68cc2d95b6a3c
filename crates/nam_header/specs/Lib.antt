pub mod Header
pub mod Flag
pub mod HeaderLaw
pub mod Visible
pub mod Stamp
pub mod Tag
