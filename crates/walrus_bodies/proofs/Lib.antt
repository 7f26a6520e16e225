pub mod AddedLemmas
pub mod BlockLemmas
pub mod BodyLemmas
mod DeclarationLemmas
pub mod EmitLemmas
pub mod LocatedLemmas
mod NamedLemmas
mod ReadLemmas
mod RelationLemmas
pub mod LawNamed
pub mod NestLemmas
pub mod Lists
pub mod MoreNames
mod AgainLemmas
pub mod AtMarks
pub mod FlagLemmas
mod HeldLemmas
mod KeptLemmas
mod LeftLemmas
mod LeftNames
mod LocationLemmas
mod PlacedLemmas
pub mod NamesShown
pub mod OrderLemmas
mod PlainLemmas
mod PushedLemmas
mod RangeLemmas
mod RenamedLemmas
mod RoomLemmas
mod ScannedLemmas
mod Scanning
mod StandLemmas
mod TextLemmas
mod UnmarkedLemmas
mod WrittenLemmas
