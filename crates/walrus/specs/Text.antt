-- The text of each refusal of a run.
use Rattle.std.specs.Prelude.{ℕ, List, codes}
use Rattle.walrus_items.specs.Errors.{error_text}
use Rattle.walrus.specs.declared.tool.ToolError.{ToolError}
use Rattle.walrus.specs.declared.tool.ToolError.TheVariants.{Read, Write, Module}

-- a device's failure, or why the module was refused
abbrev pub tool_text : ToolError → List ℕ
tool_text Read = codes "read failed"
tool_text Write = codes "write failed"
tool_text (Module e) = error_text e
