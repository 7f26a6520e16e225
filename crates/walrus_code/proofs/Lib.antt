pub mod Arguments
pub mod BackLemmas
pub mod Placing
pub mod LawTags
pub mod LawSpelled
pub mod OneText
pub mod Named
pub mod Somes
