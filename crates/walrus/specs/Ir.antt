-- Words of `walrus_ir`, for those who stand on this crate.
pub use Rattle.walrus_ir.specs.Instructions
pub use Rattle.walrus_ir.specs.Sequence
pub use Rattle.walrus_ir.specs.declared.sequence.InstrSeqBuilder
