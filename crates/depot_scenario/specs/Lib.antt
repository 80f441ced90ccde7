pub mod DraftEntries
pub mod MemberSigners
pub mod Scenarios
pub mod Labels
pub mod LabelUses
pub mod KnownUpdates
pub mod ScenarioTexts
