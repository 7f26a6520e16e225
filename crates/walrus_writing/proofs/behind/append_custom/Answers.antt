use Rattle.wasm_frames.specs.Record.{custom_record}
use Rattle.wasm_frames.specs.Spelling.{custom_bytes}
use Rattle.walrus_writing.proofs.AppendedBodies.{content_behind}
use Rattle.walrus_writing.proofs.behind.append_custom.Goals as goal

pub returns : goal.returns
returns c = content_behind 0 c.in_ok-size.size (custom_bytes (custom_record c.args.custom.now)) _ _ _ c.in_ok-size.ensures c.in_ok-open.ensures c.in_ok-write.ensures.adds.0
