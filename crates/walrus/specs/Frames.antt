-- Words of `wasm_frames`, for those who stand on this crate.
pub use Rattle.walrus_module.specs.Frames
pub use Rattle.walrus_module.specs.Record
