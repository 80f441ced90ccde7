-- Checkpoints, and readers that trim.
pub mod TrimLaw
pub mod NeverLatest
pub mod TrimmingExamples
pub mod PrunedReadings
pub mod PrunedAnswers
pub mod PrunedGrowth
pub mod Superseded
pub mod NeverBelow
