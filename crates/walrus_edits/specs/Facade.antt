-- Words of the crates below, for those who stand on this one.
pub use Rattle.walrus.specs.Modules.Flaws.{flaw_number}
pub use Rattle.walrus.specs.Modules.Flaw.{Flaw}
pub use Rattle.walrus.specs.Modules.Flaw.TheVariants.{Form}
