pub mod Deciding
pub mod PlanErrors
pub mod PlannedPuts
pub mod PlannedVouchers
pub mod ReadRecords
pub mod TextFaults
