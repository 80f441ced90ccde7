pub mod LabelTable
pub mod ScheduleReading
