-- A node that stays.
pub mod Folding
pub mod SameNodes
pub mod ServerTurns
pub mod GroupTurns
pub mod KeptFiles
pub mod AppendedGroups
pub mod KeptGroups
pub mod GroupOutcomes
pub mod ServerEndings
pub mod NodesOnDisks
