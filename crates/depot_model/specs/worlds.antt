-- Worlds of nodes, what is promised of them, and audits.
pub mod World
pub mod Causality
pub mod ReadTests
pub mod Receipts
pub mod Audit
pub mod Traces
