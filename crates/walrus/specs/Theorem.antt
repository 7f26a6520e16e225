-- Words of `walrus_theorem`, for those who stand on this crate.
pub use Rattle.walrus_theorem.specs.Chain
pub use Rattle.walrus_theorem.specs.EditLaws
pub use Rattle.walrus_theorem.specs.Edits
pub use Rattle.walrus_theorem.specs.Features
pub use Rattle.walrus_theorem.specs.Headline
pub use Rattle.walrus_theorem.specs.Pinned
pub use Rattle.walrus_theorem.specs.Refused
pub use Rattle.walrus_theorem.specs.Report
pub use Rattle.walrus_theorem.specs.Sound
pub use Rattle.walrus_theorem.specs.WellMade
