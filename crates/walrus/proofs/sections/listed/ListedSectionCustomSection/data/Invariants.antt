use Rattle.std.proofs.Common.{◌≡◌, ℕ, flat_map, take}
use Rattle.walrus_base.specs.Operators.{Functions}
use Rattle.walrus_code.specs.Indices.{index_of}
use Rattle.walrus_items.specs.Roots.{places}
use Rattle.walrus.specs.Listed.{found_bytes}
use Rattle.walrus.proofs.sections.listed.ListedSectionCustomSection.data.Given as goal

-- the bytes of the functions so far
abbrev pub invariant-ids : goal.invariant-ids
invariant-ids l = l.bytes.items ≡ flat_map (λ (f : ℕ). found_bytes (index_of l.indices Functions f)) (places (take l.id-index l.self.ids.items))
