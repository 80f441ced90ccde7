pub mod TraceTexts
pub mod TraceAnswers
pub mod SeenTraces
pub mod ToldTraces
