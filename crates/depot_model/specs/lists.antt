-- Lists, their places and orders.
pub mod Lists
pub mod Items
pub mod Codes
pub mod Insertion
