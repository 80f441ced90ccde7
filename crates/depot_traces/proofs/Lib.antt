pub mod ToldAgain
pub mod TraceLaws
