pub mod Agree
pub mod Agreed
pub mod Found
pub mod Handing
pub mod FieldTurns
pub mod Fields
pub mod Entries
