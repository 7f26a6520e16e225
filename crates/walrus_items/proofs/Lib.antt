pub mod KeepingLemmas
pub mod SeenLemmas
pub mod ItemLemmas
