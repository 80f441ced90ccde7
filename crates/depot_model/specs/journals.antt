-- Journals: what they say, which are lawful, what calls do to them.
pub mod Journal
pub mod Lawful
pub mod LawfulFacts
pub mod Stops
pub mod JournalCalls
pub mod Replicas
pub mod ShownWrites
