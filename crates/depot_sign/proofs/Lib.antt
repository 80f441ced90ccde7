pub mod KeyLeaves
pub mod Keys
pub mod RosterEntries
pub mod Agreeing
pub mod ReaderStops
pub mod RosterCauses
mod RosterExamples
pub mod EntryLoop
pub mod RosterParsing
