-- Words of `wasm_operators`, for those who stand on this crate.
pub use Rattle.wasm_operators.specs.Forms
pub use Rattle.wasm_operators.specs.Operators
pub use Rattle.wasm_operators.specs.Spelling
pub use Rattle.wasm_operators.specs.Standing
pub use Rattle.wasm_operators.specs.Table
pub use Rattle.wasm_operators.specs.declared.operator.RawArg
