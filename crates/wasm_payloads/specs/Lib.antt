pub mod Fault
pub mod Lent
pub mod Names
pub mod Producers
pub mod Sink
pub mod Spelling
pub mod Steps
