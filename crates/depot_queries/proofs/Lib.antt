pub mod ReadLaws
mod OwnBodies
pub mod StatementTexts
mod BesidePlaces
mod TailLaws
mod LeafInserts
mod RecordItems
mod FrontOrder
mod HeldNames
pub mod BookLaws
pub mod DueReceipts
pub mod GivenAnswers
pub mod GivenLaws
mod GivingExamples
pub mod HolderLaws
pub mod KeyLaws
pub mod RisingPuts
