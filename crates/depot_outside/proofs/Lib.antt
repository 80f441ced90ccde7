pub mod Blank
pub mod StopExamples
pub mod Undone
pub mod PieceWriting
pub mod Written
pub mod Calling
