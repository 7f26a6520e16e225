-- Lemmas of `walrus_base`, for those who stand on this crate.
pub use Rattle.walrus_base.proofs.Agree
pub use Rattle.walrus_base.proofs.Filters
pub use Rattle.walrus_base.proofs.Indexed
pub use Rattle.walrus_base.proofs.Lists
pub use Rattle.walrus_base.proofs.Lookups
pub use Rattle.walrus_base.proofs.SearchFound
pub use Rattle.walrus_base.proofs.ShapesEnd
pub use Rattle.walrus_base.proofs.ShapesKept
pub use Rattle.walrus_base.proofs.Standing
pub use Rattle.walrus_base.proofs.Taking
