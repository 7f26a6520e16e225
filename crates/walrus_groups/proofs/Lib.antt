pub mod AppendedGroups
mod Each
pub mod Kept
mod GroupLemmas
pub mod OrderWhole
mod WrittenEach
pub mod WrittenCauses
mod WrittenWalk
mod WrittenTurns
mod WrittenWhole
mod Unnamed
pub mod TypeLists
pub mod OneGroup
pub mod OneList
pub mod Loops
mod OneVector
