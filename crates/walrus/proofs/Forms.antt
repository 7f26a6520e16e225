-- Lemmas of `wasm_forms`, for those who stand on this crate.
pub use Rattle.wasm_forms.proofs.Bind
pub use Rattle.wasm_forms.proofs.Exact
