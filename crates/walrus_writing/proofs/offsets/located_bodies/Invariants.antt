use Rattle.std.proofs.Common.{map, take}
use Rattle.std.specs.List.{AllZip}
use Rattle.walrus_base.specs.Id.{place}
use Rattle.walrus_code.specs.Indices.{index_of}
use Rattle.walrus_items.specs.Transform.{location_of}
use Rattle.walrus_writing.specs.Located.{AreOffsets}
use Rattle.walrus_writing.specs.Parts.{HasBytes}
use Rattle.walrus_writing.proofs.offsets.located_bodies.Given as goal

-- the bodies so far are those of the functions so far
abbrev pub invariant-order : goal.invariant-order
invariant-order l = record {
  written : AllZip (λ id body. HasBytes l.under.parts (index_of l.under.indices.now) l.under.features.now (place id) body.bytes.items) (take l.id-index l.order) l.bodies.items;
  located : AllZip (λ id body. AreOffsets l.under.parts (place id) body.bytes.items (map location_of body.places.items)) (take l.id-index l.order) l.bodies.items;
}
