pub mod LogLaw
pub mod AuditLaw
pub mod RunLaw
pub mod ReportLaw
