-- Why reading all of a source ends.
use Rattle.std.specs.Prelude.{◌≡◌, ℕ, ◌+◌, ◌-◌, ◌^◌, min, Result, Ok, Err}
use Rattle.walrus.specs.declared.transfer.ReadAllError.{ReadAllError}
use Rattle.walrus.specs.declared.transfer.ReadAllError.TheVariants.{Device, Memory}

-- a failure of the device is counted, up to 2 ^ 64 - 1; nothing else counts
abbrev pub CountsRead : {A : Type 0} → ℕ → ℕ → Result A ReadAllError → Type 0
CountsRead old new (Ok x) = new ≡ old
CountsRead old new (Err Device) = new ≡ min (old + 1) (2 ^ 64 - 1)
CountsRead old new (Err (Memory e)) = new ≡ old
