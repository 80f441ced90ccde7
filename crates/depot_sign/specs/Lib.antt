pub mod KeptEntries
pub mod RosterReading
pub mod PlainLaws
