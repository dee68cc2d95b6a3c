pub mod Views
pub mod Growth
pub mod Law
