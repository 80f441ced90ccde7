-- The checks of what comes, and what a node makes itself.
pub mod Checks
pub mod Room
pub mod Taking
pub mod Own
pub mod Limits
pub mod Vouching
pub mod Putting
pub mod RecordFaults
