pub mod Words
pub mod Views
pub mod Turn
pub mod CellsLaw
