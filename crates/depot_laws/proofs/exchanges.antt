-- Hellos, bundles, and histories that rejoin.
pub mod Parcels
pub mod Meetings
pub mod Joining
pub mod Arrivals
pub mod PlainFrames
pub mod Carrying
pub mod Candidates
pub mod Sending
pub mod Feeds
pub mod Rejoining
pub mod WholeBundles
pub mod BundleSizes
pub mod RejoinLaw
pub mod HelloTexts
pub mod ClosedBundles
pub mod LawfulFeeds
pub mod Newcomer
pub mod FramesTold
mod LateMeetings
