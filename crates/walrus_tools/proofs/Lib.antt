mod AloneEnds
mod BodiesFit
pub mod BodiesRise
mod BodySearch
mod CallersEnds
mod CallersTurn
mod ChosenEnds
mod ChosenImports
mod ChosenListed
pub mod Closures
pub mod ExportedNames
mod FaultEnds
mod GoersTurn
pub mod ImportMatches
mod KeptWhole
mod KindLemmas
mod LineLemmas
mod LinkLemmas
mod MarkLemmas
mod MatchingEnds
mod MeantLemmas
mod MeantTexts
mod MeantThere
pub mod MeasuredEnds
mod NamedExports
mod NoneChosen
mod PartSizes
pub mod PlacedOps
pub mod Places
pub use Rattle.walrus.proofs.DeviceLemmas
mod ReasonSpelled
mod RootLemmas
mod SizeEnds
mod SizeLemmas
mod SpelledEnds
mod Spellings
pub mod StubCall
mod StubStep
mod StubTurn
mod ThoseLemmas
mod TradeLemmas
mod TrapBody
mod TrapReached
pub mod TrapSound
mod TrapTurn
mod TrapWhole
mod WeighEnds
mod WeighLines
mod WhyEnds
