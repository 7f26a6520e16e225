mod Bytes
pub mod Causes
pub mod Renamed
pub mod Items
pub mod Segments
pub mod SegmentsNamed
pub mod Listed
pub mod NamedAll
