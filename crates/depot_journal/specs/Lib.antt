pub mod DiskCalls
pub mod Groups
pub mod JournalAnswers
pub mod Mirrored
pub mod Stable
pub mod WriteSteps
pub mod JournalView
