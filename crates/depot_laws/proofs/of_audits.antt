-- Audits and receipts.
pub mod TrueReceipts
pub mod Settled
pub mod AuditLaws
pub mod ReceiptExamples
pub mod AuditExamples
pub mod OneFinding
pub mod TracedWorlds
pub mod YesOfTraces
pub mod ReadTestLaws
