-- Lemmas of `walrus_items`, for those who stand on this crate.
pub use Rattle.walrus_items.proofs.ItemLemmas
