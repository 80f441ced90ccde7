-- Worlds are fork-join causal, and convict no correct node.
pub mod Worlds
pub mod Observed
pub mod Traces
pub mod TraceLines
pub mod Exact
pub mod NoVerdicts
pub mod ForkJoin
pub mod TwoNodes
pub mod ObservedTests
pub mod InLine
pub mod ByParents
pub mod ExactTests
pub mod WritesAlone
mod Apart
mod ForkWorld
