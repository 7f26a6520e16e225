use Rattle.std.proofs.Common.{◌≡◌, ◌+◌, map, take}
use Rattle.wasm_payloads.specs.Lent.{locals_entry}
use Rattle.walrus_code.specs.Indices.{index_of}
use Rattle.walrus_writing.specs.Bodies.{AppendsBodies}
use Rattle.walrus_writing.proofs.bodies.append_bodies.Given as goal

-- the bodies so far are those of the functions so far
abbrev pub invariant-order : goal.invariant-order
invariant-order l = record {
  counted : l.function ≡ l.first + l.id-index;
  appended : AppendsBodies l.under.parts (index_of l.under.indices.now) l.under.features.now (take l.id-index l.order) l.first l.chosen l.asked (map locals_entry l.named.items) l.lengths.items l.fn.to.items l.to.items;
}
