-- Lemmas of `wasm_operators`, for those who stand on this crate.
pub use Rattle.wasm_operators.proofs.Stands
