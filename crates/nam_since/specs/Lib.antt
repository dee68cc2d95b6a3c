pub mod SinceLaw
pub mod CircleLaw
