-- What two nodes send each other.
pub mod Hello
pub mod Bundle
pub mod Feeding
