pub mod lists
pub mod texts
pub mod updates
pub mod journals
pub mod checks
pub mod exchange
pub mod worlds
pub mod readers
