pub mod Disks
pub mod PrintedRuns
pub mod MemHostFacts
pub mod MemHosts
pub mod BegunSchedules
