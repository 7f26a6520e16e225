use Rattle.std.proofs.Common.{◌≡◌, ◌++◌, flat_map, map, take}
use Rattle.std.specs.Prelude.{string_bytes}
use Rattle.walrus.specs.Items.Transform.{range_of}
use Rattle.walrus_tools.specs.Reasons.{size_line}
use Rattle.walrus_tools.proofs.lines.add_sizes.Given as goal

-- behind the text stand the lines of the functions before
abbrev pub invariant-loop-function : goal.invariant-loop-function
invariant-loop-function l = string_bytes l.text ≡ string_bytes l.initial.text ++ flat_map size_line (map range_of (take l.function-index l.functions))
