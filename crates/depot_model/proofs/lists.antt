-- Lists, their members and their order.
pub mod FirstLaws
pub mod Members
pub mod RisingLists
pub mod RisingIds
pub mod RisingUpdates
pub mod Elements
pub mod InsertionLaws
