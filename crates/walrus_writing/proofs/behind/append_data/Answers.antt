use Rattle.std.proofs.Common.{◌≡◌, ◌<◌, length, map, arith}
use Rattle.std.proofs.lemmas.Bool.Decides.{nat_tests}
use Rattle.std.proofs.lemmas.List.{length-map}
use Rattle.wasm_entries.specs.Record.{data_entry}
use Rattle.wasm_entries.specs.Spelling.{DataFits, data_bytes}
use Rattle.wasm_frames.specs.Frames.{DataSegments}
use Rattle.wasm_writer.proofs.Listed.{no_section}
use Rattle.walrus_writing.proofs.AppendedBodies.{data_listed}
use Rattle.walrus_writing.proofs.behind.append_data.Goals as goal

pub returns-then-is_empty : goal.returns-then-is_empty
returns-then-is_empty c =
    let none : length c.args.segments.now ≡ 0 = grind (arith, nat_tests) in
    no_section DataSegments DataFits data_bytes (map data_entry c.args.segments.now) _ (omega (arith, none, length-map c.args.segments.now data_entry))

pub returns : goal.returns
returns c =
    let some : 0 < length c.args.segments.now = grind (arith, nat_tests) in
    data_listed c.args.segments.now _ _ _ c.in_ok-size.size some c.in_ok-size.ensures c.in_ok-open.ensures c.in_ok-write_vector.ensures.adds.0
