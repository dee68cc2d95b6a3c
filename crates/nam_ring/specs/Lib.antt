pub mod Check
pub mod CheckLaw
pub mod Copy
pub mod CopyLaw
pub mod Search
pub mod SearchLaw
