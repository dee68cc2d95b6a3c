pub mod Snap
pub mod SnapLaw
pub mod Publish
pub mod PublishLaw
