pub mod Handing
pub mod Words
pub mod Runs
pub mod Statuses
pub mod Nodes
pub mod Servers
