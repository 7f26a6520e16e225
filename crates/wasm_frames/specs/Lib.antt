pub mod Record
pub mod Order
pub mod Frames
pub mod Steps
pub mod Until
pub mod Spelling
pub mod Pieces
pub mod PieceSteps
