use Rattle.std.proofs.Common.{List, map, string_bytes, refl, ap}
use Rattle.std.specs.Prelude.{String}
use Rattle.std.specs.Vec.Iter.{into_iter_items}
use Rattle.std.specs.declared.alloc.Global.{Global}
use Rattle.mulkavesh.proofs.words.alone.Goals as goal

pub returns-in-Some : goal.returns-in-Some
returns-in-Some c = (
  c.in-Some.extra,
  map string_bytes (into_iter_items c.next.new.self),
  refl,
  ap (λ (l : List (String Global)). map string_bytes l) c.in-Some.ensures.items,
)
