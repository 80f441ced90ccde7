pub mod Met
pub mod LastPoint
pub mod Asked
pub mod Commanded
