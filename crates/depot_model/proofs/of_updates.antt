-- Orders of updates, and contradictions.
pub mod ContradictionLaws
pub mod JudgementLaws
pub mod Orders
pub mod Pasts
pub mod NamedIds
pub mod LatestLaws
pub mod ChangeLaws
pub mod LimitLaws
pub mod DueLaws
pub mod LatestWrites
