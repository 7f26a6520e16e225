use Rattle.std.proofs.Common.{◌≡◌, ◌≤◌, ◌++◌, drop, length, map}
use Rattle.std.specs.Prelude.{sum_by}
use Rattle.wasm_frames.specs.Record.{body_record}
use Rattle.wasm_writer.specs.Measuring.{size_with_count}
use Rattle.walrus_writing.specs.Bodies.{texts_in}
use Rattle.walrus_writing.specs.Parts.{unplaced}
use Rattle.walrus_writing.proofs.bodies.raw_texts.Given as goal

-- the bodies so far, and those that are still to come, with which the rest of the bytes begins
abbrev pub invariant-lengths : goal.invariant-lengths
invariant-lengths l = record {
  listed : map body_record l.raw.items ++ map unplaced (texts_in (drop l.size-index l.lengths) l.rest) ≡ map unplaced (texts_in l.lengths l.bytes);
  within : sum_by size_with_count (drop l.size-index l.lengths) ≤ length l.rest;
}
