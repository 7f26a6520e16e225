use Rattle.std.proofs.Common.{◌≡◌, ◌++◌, ◌≤◌, length, map, flat_map, take, drop}
use Rattle.walrus_base.specs.Id.{place}
use Rattle.walrus_base.specs.Operators.{arg_locals}
use Rattle.walrus_code.specs.Code.{arg_of}
use Rattle.walrus_code.proofs.items.push_arg_locals.Given as goal

-- what was named so far and what is left to name are what the whole names; what was there stands in front
abbrev pub invariant-loop-arg : goal.invariant-loop-arg
invariant-loop-arg l =
    (map place l.to.items ++ flat_map arg_locals (map arg_of (drop l.arg-index l.args)) ≡ map place l.initial.to.items ++ flat_map arg_locals (map arg_of l.args))
    × (take (length l.initial.to.items) l.to.items ≡ l.initial.to.items)
    × (length l.initial.to.items ≤ length l.to.items)
