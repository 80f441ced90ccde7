-- Texts are read in one way.
pub mod TextLaws
pub mod FieldFacts
pub mod BodyLaws
pub mod LogLaws
pub mod RecordLaws
pub mod HelloLaws
pub mod ContentLaws
pub mod FrameLaws
pub mod OpenLaws
pub mod TreeNodes
pub mod CheckpointLaws
