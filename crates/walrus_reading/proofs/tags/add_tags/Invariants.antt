use Rattle.std.proofs.Common.{map, take}
use Rattle.walrus_items.specs.Tags.{tags}
use Rattle.walrus_model.specs.Sections.{tag_of}
use Rattle.walrus_reading.specs.Held.{HoldsTag}
use Rattle.walrus_reading.specs.Placed.{AddsPlaced}
use Rattle.walrus_reading.proofs.tags.add_tags.Given as goal

abbrev pub invariant-loop-ty : goal.invariant-loop-ty
invariant-loop-ty l = AddsPlaced HoldsTag (map tag_of (take l.ty-index l.raw)) (tags l.fn.all) (tags l.all)
