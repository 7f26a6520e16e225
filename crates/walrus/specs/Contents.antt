-- Words of `walrus_contents`, for those who stand on this crate.
pub use Rattle.walrus_contents.specs.Named
pub use Rattle.walrus_contents.specs.There
pub use Rattle.walrus_contents.specs.View
pub use Rattle.walrus_contents.specs.declared.parts.Contents
