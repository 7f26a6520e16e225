pub mod AlikeLemmas
mod AmongLemmas
mod EntryLemmas
mod GivenLemmas
pub mod HandlerLemmas
pub mod KnownLemmas
mod ParameterLemmas
mod PlainLemmas
mod RankLemmas
pub mod ApartLemmas
pub mod AppendLemmas
pub mod BareWritten
pub mod CountLemmas
pub mod DeclarationLemmas
pub mod FitLemmas
pub mod InPlaceLemmas
pub mod InPlaceWritten
pub mod KeptLemmas
pub mod KeptWritten
pub mod LawMoves
pub mod LawOnce
pub mod LawOrder
pub mod LawWritable
pub mod LowestLemmas
pub mod MarkLemmas
pub mod NumberedLemmas
pub mod OnceLemmas
pub mod OrderLemmas
pub mod RunLemmas
pub mod SpellingLemmas
pub mod StrictLemmas
pub mod TypedLemmas
pub mod ValueLemmas
pub mod WrittenLemmas
pub mod SpaceList
pub mod Pigeon
pub mod SortedPairs
pub mod BodyTypes
pub use Rattle.walrus_bodies.proofs.LawNamed
pub use Rattle.walrus_code.proofs.Named
pub use Rattle.walrus_code.proofs.Somes
pub use Rattle.walrus_code.proofs.OneText
