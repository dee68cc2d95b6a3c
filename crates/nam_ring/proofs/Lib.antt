pub mod CheckLemmas
pub mod CopyLemmas
pub mod SearchLemmas
pub mod FieldLemmas
