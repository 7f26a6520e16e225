pub mod Answer
pub mod ChosenRoots
pub mod Edits
pub mod Flags
pub mod Names
pub mod Questions
