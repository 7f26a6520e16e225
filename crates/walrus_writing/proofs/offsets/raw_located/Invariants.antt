use Rattle.std.proofs.Common.{◌≡◌, ◌++◌, map, drop}
use Rattle.wasm_frames.specs.Record.{body_record}
use Rattle.walrus_writing.specs.Parts.{unplaced}
use Rattle.walrus_writing.proofs.offsets.raw_located.Given as goal

-- the bodies so far, and those that are still to come
abbrev pub invariant-loop-body : goal.invariant-loop-body
invariant-loop-body l = map body_record l.raw.items ++ map unplaced (map (λ body. body.bytes.items) (drop l.body-index l.bodies)) ≡ map unplaced (map (λ body. body.bytes.items) l.bodies)
