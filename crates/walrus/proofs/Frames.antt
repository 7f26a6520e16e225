-- Lemmas of `wasm_frames`, for those who stand on this crate.
pub use Rattle.walrus_module.proofs.Modules
