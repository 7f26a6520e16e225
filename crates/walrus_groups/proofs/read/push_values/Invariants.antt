use Rattle.std.proofs.Common.{◌≡◌, ◌++◌, map, drop, option_map}
use Rattle.walrus_base.specs.Value.{val_type}
use Rattle.walrus_code.specs.Indices.{ids_at}
use Rattle.walrus_code.specs.FromRaw.{val_of}
use Rattle.walrus_groups.specs.Named.{named_vals}
use Rattle.walrus_groups.proofs.read.push_values.Given as goal

-- what stands there and what is left are what stood there and all
abbrev pub invariant-loop-value : goal.invariant-loop-value
invariant-loop-value l =
    option_map (λ more. map val_type l.values.items ++ more) (named_vals (ids_at l.indices) (map val_of (drop l.value-index l.raw)))
    ≡ option_map (λ more. map val_type l.fn.values.items ++ more) (named_vals (ids_at l.indices) (map val_of l.raw))
