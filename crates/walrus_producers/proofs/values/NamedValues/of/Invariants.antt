use Rattle.std.proofs.Common.{◌≡◌, map, take}
use Rattle.walrus_producers.specs.Values.{pair_value, values_seen}
use Rattle.walrus_producers.proofs.values.NamedValues.of.Given as goal

-- those before are held
abbrev pub invariant-values : goal.invariant-values
invariant-values l = values_seen l.held ≡ map pair_value (take l.name-index l.values)
