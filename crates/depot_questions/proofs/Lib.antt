pub mod ToldUpdates
pub mod ToldLatest
pub mod LeastLaws
pub mod ToldConvictions
pub mod QuestionLaws
pub mod AnswerLaws
