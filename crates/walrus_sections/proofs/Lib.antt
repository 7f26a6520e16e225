pub mod Among
mod ChoiceLemmas
mod ChoiceLists
pub mod Choosers
mod Fronts
mod GoingLists
mod LookUps
mod OneBeginning
mod PartItems
mod PartListLemmas
mod PartRows
mod PartText
pub mod Records
mod SectionLemmas
mod Stars
mod StripLemmas
mod ToldRows
