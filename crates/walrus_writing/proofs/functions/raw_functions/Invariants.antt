use Rattle.std.proofs.Common.{◌≡◌, ◌++◌, map, drop, Some}
use Rattle.std.specs.Prelude.{option_and_then}
use Rattle.walrus_base.specs.Id.{place}
use Rattle.walrus_code.specs.Indices.{index_of}
use Rattle.walrus_contents.specs.View.{parts_view}
use Rattle.walrus_writing.specs.Parts.{type_index}
use Rattle.walrus_writing.proofs.functions.raw_functions.Given as goal

-- the indices so far, and those that are still to come
abbrev pub invariant-loop-id : goal.invariant-loop-id
invariant-loop-id l =
    map Some l.raw.items ++ map (λ id. option_and_then (type_index (index_of l.indices)) ((parts_view l.parts).functions (place id))) (drop l.id-index l.order)
    ≡ map (λ id. option_and_then (type_index (index_of l.indices)) ((parts_view l.parts).functions (place id))) l.order
