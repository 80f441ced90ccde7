-- Loads: schedules that a number makes.
pub mod DraftFits
pub mod Draws
pub mod EventFits
pub mod LoadExamples
pub mod Fresh
pub mod KeptLoads
pub mod LoadFits
pub mod DrawSteps
pub mod Sums
pub mod Updates
pub mod WordLaws
