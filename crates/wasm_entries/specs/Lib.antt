pub mod Forms
pub mod Record
pub mod Spelling
pub mod TypeForms
pub mod TypeSpelling
