pub mod RecordTextLaws
pub mod LeafLaws
pub mod VoucherRecords
pub mod RoomLaws
pub mod GrowthLaws
pub mod CountLaws
pub mod NamedLaws
pub mod OwnIdLaws
pub mod NoRecords
pub mod ReadingsLaws
pub mod HeldLaws
pub mod TotalLaws
pub mod BoundLaws
pub mod StateGrowth
pub mod TakenLaws
pub mod KeptLaws
pub mod AcceptPlaceLaws
pub mod VoucherSteps
pub mod VoucherTexts
pub mod AddingLaws
mod LackingLaws
mod HashesOfNames
pub mod FrontPlaceLaws
mod PairsInRange
