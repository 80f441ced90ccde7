mod FindingExamples
pub mod ChangeLists
pub mod TopLeaves
mod LatestOfEachExamples
mod ReadExamples
mod ConvictionExamples
mod NamedValueExamples
mod BranchExamples
mod FirstFoundExamples
mod TrueReceiptExamples
mod BelowExamples
mod RejoinExamples
mod HollowWorld
mod SeveralKeysWorld
pub mod SettledWorld
pub mod TrimmedWorld
pub mod ReadersShow
mod HostReads
mod ReadsTold
mod SessionReads
mod ReadsAndVerdicts
mod SessionExamples
mod ValueOrderExamples
mod ShelfExamples
mod DamageExamples
