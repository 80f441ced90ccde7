pub mod FrameHeads
pub mod Sendings
pub mod NodeCalls
pub mod Pieces
pub mod Lasting
