pub mod Value
pub mod Fields
pub mod Token
pub mod Read
pub mod Spelling
pub mod Kinds
