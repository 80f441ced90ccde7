pub mod Holdings
pub mod JournalRecords
pub mod Commits
pub mod StoreCalls
pub mod Starting
pub mod StartReading
pub mod Keyed
