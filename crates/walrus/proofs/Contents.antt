-- Lemmas of `walrus_contents`, for those who stand on this crate.
pub use Rattle.walrus_contents.proofs.ExportedRefs
pub use Rattle.walrus_contents.proofs.Groups
pub use Rattle.walrus_contents.proofs.NamedLemmas
