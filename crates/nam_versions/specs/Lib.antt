pub mod Turn
pub mod ChainsLaw
pub mod PublishedLaw
pub mod SeenLaw
