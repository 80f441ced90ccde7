pub mod Acting
pub mod Asking
pub mod Auditing
pub mod Doing
pub mod Drafts
pub mod EachRun
pub mod Playing
pub mod Readers
