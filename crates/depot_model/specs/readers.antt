-- Checkpoints, and readers that trim.
pub mod Checkpoints
pub mod Trimming
pub mod Pruning
pub mod Opening
pub mod Readers
pub mod ReaderFeeds
