use Rattle.std.proofs.Common.{◌≡◌, map}
use Rattle.std.specs.List.{range_with_len}
use Rattle.walrus_base.specs.Id.{place}
use Rattle.walrus_bodies.proofs.function.ids_from.Given as goal

-- the ids so far are those of the first places
abbrev pub invariant-locals : goal.invariant-locals
invariant-locals l = map place l.ids.items ≡ range_with_len l.first l.offset
