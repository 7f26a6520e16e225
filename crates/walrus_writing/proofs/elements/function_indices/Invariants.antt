use Rattle.std.proofs.Common.{map, drop}
use Rattle.walrus_base.specs.Id.{place}
use Rattle.walrus_code.specs.Indices.{index_of}
use Rattle.walrus_writing.proofs.ElementRecords.{FunctionsSoFar}
use Rattle.walrus_writing.proofs.elements.function_indices.Given as goal

-- the indices so far, and the functions that are still to come
abbrev pub invariant-loop-id : goal.invariant-loop-id
invariant-loop-id l = FunctionsSoFar (index_of l.indices) (map place l.ids) (map place (drop l.id-index l.ids)) l.raw.items
