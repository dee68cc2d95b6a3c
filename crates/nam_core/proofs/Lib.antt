pub mod CopyLemmas
pub mod LoadLemmas
pub mod SortLemmas
pub mod ReadLemmas
pub mod AuditLemmas
pub mod WorldLemmas
