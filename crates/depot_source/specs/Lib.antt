pub mod Pieces
pub mod Messages
pub mod Inputs
pub mod Ahead
