mod OfRead
mod NewStatements
pub mod Decided
mod FreshIds
mod NextOwn
pub mod PutLaws
mod Dues
mod ProofAnswers
mod ValueAnswers
mod ForeignIds
mod VoucherGroups
pub mod VoucherPlans
mod RecordParts
mod RowsOfNew
mod RecordChecks
mod PutValues
mod RecordFaultExamples
pub mod TakenTexts
