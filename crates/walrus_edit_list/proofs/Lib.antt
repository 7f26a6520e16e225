pub use Rattle.walrus_module.proofs.CheckedWell
mod BodiesKept
mod ClosingEnd
mod Counting
pub mod EditRows
mod Exporting
mod FineFronts
pub mod FineFunctions
pub mod FineItems
pub mod FineSegments
pub mod FineSlots
mod Folding
pub mod FormedStays
mod Found
mod FrontFormed
mod FrontNamed
mod FrontNests
mod FunctionEdits
mod FunctionRefusals
mod Importing
mod Joining
pub mod Keeping
mod Numbered
pub mod ParsedFormed
mod Places
mod PlacesInTurn
mod ReadFormed
mod Refusing
mod RefusingBodies
mod SegmentSets
mod TagsKept
mod Turns
