pub mod Fields
pub mod Producers
pub mod Seen
pub mod Values
