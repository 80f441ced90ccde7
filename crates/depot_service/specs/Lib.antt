pub mod Printing
pub mod ReaderFeeding
pub mod ReaderCalls
pub mod TracePrinting
pub mod Replying
pub mod RequestCalls
pub mod Answering
pub mod Bodies
