-- Words of `wasm_forms`, for those who stand on this crate.
pub use Rattle.wasm_forms.specs.Grammar
pub use Rattle.wasm_forms.specs.Number
pub use Rattle.wasm_forms.specs.Reading
pub use Rattle.wasm_forms.specs.Spelling
pub use Rattle.wasm_forms.specs.declared.types.RawVal
