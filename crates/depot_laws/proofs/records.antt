-- What the records of a lawful journal say.
pub mod Rosters
pub mod LawfulRecords
pub mod JournalLimits
pub mod Births
pub mod Taken
pub mod Causes
pub mod LateChecks
pub mod Growing
pub mod LeafCounts
pub mod Counts
pub mod HeldValues
pub mod HeldByHash
pub mod WantedValues
pub mod NewVouchers
pub mod FewLeaves
pub mod HeldStays
pub mod FaultLaws
