pub mod Tells
pub mod KeysLaw
