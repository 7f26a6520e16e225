-- Words of the crates below, for those who stand on this one.
pub use Rattle.walrus.specs.Items.Error.{Error}
pub use Rattle.walrus.specs.Items.Error.TheVariants.{InvalidWasm, Memory, NotFound, NotReplaceable, TooLarge}
pub use Rattle.walrus.specs.Base.Operators.{Item}
pub use Rattle.walrus.specs.Code.Code.{item_of}
pub use Rattle.walrus.specs.Model.Config.{Config}
pub use Rattle.walrus.specs.Modules.Flags.{config_of, defaults}
pub use Rattle.walrus.specs.Headline.{RunsOn}
pub use Rattle.walrus.specs.Reported.{ReportsOn}
pub use Rattle.walrus.specs.Theorem.Headline.{Accepts}
pub use Rattle.walrus.specs.Device.{Counts, WroteFront}
pub use Rattle.walrus.specs.Headline.{ReadsWhole}
pub use Rattle.walrus.specs.Message.{IsUntouched, Stream, Tells, stream_of}
pub use Rattle.walrus.specs.Tool.{CountsReads, CountsWrites}
pub use Rattle.walrus.specs.declared.tool.ToolError.{ToolError}
pub use Rattle.walrus.specs.declared.tool.ToolError.TheVariants.{Module, Read, Write}
pub use Rattle.walrus.specs.Items.Errors.{error_text}
pub use Rattle.walrus.specs.Modules.Fault.{Fault}
