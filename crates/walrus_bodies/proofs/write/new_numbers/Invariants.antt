use Rattle.std.proofs.Common.{◌≡◌, map}
use Rattle.std.specs.List.{range_with_len}
use Rattle.walrus_code.specs.Indices.{local_index}
use Rattle.walrus_bodies.proofs.write.new_numbers.Given as goal

-- the numbers so far are those of the first places
abbrev pub invariant-locals : goal.invariant-locals
invariant-locals l = l.table.items ≡ map (local_index l.locals) (range_with_len l.first l.offset)
