-- Lists, groups and tests.
pub mod Splits
pub mod Tests
pub mod Sorted
pub mod Groups
pub mod RisingBytes
pub mod RisingNumbers
pub mod FirstOfRow
pub mod EachPasses
