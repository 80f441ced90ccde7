pub mod Read
pub mod Rows
pub mod Search
pub mod Writes
