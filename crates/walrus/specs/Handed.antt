-- Words of the crates below, for those who stand on this one.
pub use Rattle.walrus_base.specs.Id.{place}
pub use Rattle.walrus_base.specs.Operators.{Functions}
