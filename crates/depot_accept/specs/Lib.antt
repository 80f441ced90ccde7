pub mod StateView
pub mod Convicts
pub mod OwnVouchers
pub mod Content
pub mod CheckResults
pub mod AfterSignature
pub mod ToSignature
