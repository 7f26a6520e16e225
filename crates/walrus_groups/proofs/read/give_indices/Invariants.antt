use Rattle.std.proofs.Common.{◌≡◌, ◌+◌, length}
use Rattle.std.specs.List.{range_with_len}
use Rattle.walrus_base.specs.Operators.{Types}
use Rattle.walrus_code.specs.Indices.{places_in}
use Rattle.walrus_groups.specs.Reading.{OnlyTypesChange}
use Rattle.walrus_groups.proofs.read.give_indices.Given as goal

-- the types so far have the places of their indices
abbrev pub invariant-loop-id : goal.invariant-loop-id
invariant-loop-id l = record {
  in_place : places_in l.indices Types ≡ range_with_len 0 (length (places_in l.fn.indices Types) + l.id-index);
  only_types : OnlyTypesChange l.fn.indices l.indices;
}
