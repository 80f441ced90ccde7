-- The world of a schedule.
pub mod GoodNodes
pub mod GoodRequests
pub mod GoodEffects
pub mod GoodRuns
pub mod GoodEvents
pub mod GoodWorlds
pub mod SoundRuns
