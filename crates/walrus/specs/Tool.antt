-- What a run or a report says of its two devices.
use Rattle.std.specs.Prelude.{◌≡◌, ℕ, ◌+◌, ◌-◌, ◌^◌, min, Result, Ok, Err}
use Rattle.walrus.specs.declared.tool.ToolError.{ToolError}
use Rattle.walrus.specs.declared.tool.ToolError.TheVariants.{Read, Write, Module}

-- a failure of the source is counted, up to 2 ^ 64 - 1; nothing else counts
abbrev pub CountsReads : {A : Type 0} → ℕ → ℕ → Result A ToolError → Type 0
CountsReads old new (Ok x) = new ≡ old
CountsReads old new (Err Read) = new ≡ min (old + 1) (2 ^ 64 - 1)
CountsReads old new (Err Write) = new ≡ old
CountsReads old new (Err (Module e)) = new ≡ old

-- a failure of the sink is counted, up to 2 ^ 64 - 1; nothing else counts
abbrev pub CountsWrites : {A : Type 0} → ℕ → ℕ → Result A ToolError → Type 0
CountsWrites old new (Ok x) = new ≡ old
CountsWrites old new (Err Read) = new ≡ old
CountsWrites old new (Err Write) = new ≡ min (old + 1) (2 ^ 64 - 1)
CountsWrites old new (Err (Module e)) = new ≡ old
