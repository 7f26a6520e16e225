-- Words of `walrus_code`, for those who stand on this crate.
pub use Rattle.walrus_code.specs.Code
pub use Rattle.walrus_code.specs.FromRaw
pub use Rattle.walrus_code.specs.Indices
pub use Rattle.walrus_code.specs.Location
pub use Rattle.walrus_code.specs.Names
pub use Rattle.walrus_code.specs.Transform
pub use Rattle.walrus_code.specs.declared.indices.IndicesToIds
pub use Rattle.walrus_code.specs.declared.items.ItemId
pub use Rattle.walrus_code.specs.declared.location.InstrLocId
