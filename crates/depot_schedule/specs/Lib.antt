pub mod EventWords
pub mod EventLines
pub mod Schedules
