-- Journals, calls and streams.
pub mod FeedLaws
pub mod FeedGrowth
pub mod BundleLaws
pub mod TakeLaws
pub mod StopLaws
pub mod CallsOnDisk
pub mod JournalCallLaws
