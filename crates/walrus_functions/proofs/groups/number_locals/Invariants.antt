use Rattle.std.proofs.Common.{◌≡◌, ℕ, map, take}
use Rattle.walrus_base.specs.Id.{place}
use Rattle.walrus_base.specs.Shape.{place_in}
use Rattle.walrus_code.specs.Indices.{local_index, locals_given}
use Rattle.walrus_functions.proofs.groups.number_locals.Given as goal

-- the locals so far have their indices
abbrev pub invariant-loop-id : goal.invariant-loop-id
invariant-loop-id l = record {
  count : locals_given l.numbers ≡ l.id-index;
  are : (x : ℕ) → local_index l.numbers x ≡ place_in (map place (take l.id-index l.ids)) x;
}
