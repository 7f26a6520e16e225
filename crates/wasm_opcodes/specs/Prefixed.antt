-- The one number of an instruction that is a prefix byte and a number behind it ("Binary Format > Instructions").
use Rattle.std.specs.Prelude.{ℕ, ◌*◌, ◌+◌}

-- the one number that stands for an instruction of a prefix byte and a number behind it; of numbers below 65,536 no two instructions share one
abbrev pub opcode_behind : (prefix number : ℕ) → ℕ
opcode_behind prefix number = prefix * 65536 + number
