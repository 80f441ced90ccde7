-- The order of updates, and histories.
pub mod Clocks
pub mod Prevs
pub mod ChainLaws
pub mod Follows
pub mod ParentClocks
pub mod Paths
pub mod Histories
pub mod SamePasts
pub mod ClosedPaths
pub mod SameBodies
pub mod Branches
