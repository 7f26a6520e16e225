pub mod FollowedSlots
mod Handed
pub mod KeptRaw
pub mod RawLemmas
pub mod Asking
pub mod Declaring
pub mod OwnSections
pub mod WellWritten
pub mod CountedBodies
pub mod ReplacedLemmas
mod WrittenForms
pub mod WrittenSections
pub mod EditedCustoms
pub mod EditedDeleted
pub mod EditedExports
pub mod EditedFunctions
pub mod EditedItems
pub mod EditedReplaced
pub mod HeldSegments
pub mod Emission
mod EmissionForms
pub mod FewLocals
pub mod NamesApart
pub mod RulesTested
pub mod OffsetsTested
pub mod FormsTested
pub mod Checked
pub mod CheckedWell
pub mod FirstRaw
pub mod RawStays
mod TakenRaws
pub use Rattle.walrus_bodies.proofs.LawNamed
pub use Rattle.walrus_bodies.proofs.MoreNames
pub use Rattle.walrus_reading.proofs.AllHeld
pub use Rattle.walrus_reading.proofs.EditedSlots
pub use Rattle.walrus_writing.proofs.NamesLemmas
pub use Rattle.walrus_writing.proofs.Parted
pub use Rattle.wasm_frames.proofs.Modules
