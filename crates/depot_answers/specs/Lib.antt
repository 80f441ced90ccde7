pub mod AnswerTexts
pub mod Closings
pub mod Sightings
