pub mod EventWordLaws
pub mod EventLineLaws
pub mod ScheduleLaws
pub mod ScheduleSteps
pub mod LabelSteps
