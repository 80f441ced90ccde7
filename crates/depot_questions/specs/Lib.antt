pub mod Answers
pub mod LeastKeys
pub mod AddedConvictions
pub mod QuestionTexts
pub mod QuestionAnswers
