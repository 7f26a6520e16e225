use Rattle.std.proofs.Common.{refl}
use Rattle.wasm_frames.specs.Frames.{CustomSection}
use Rattle.wasm_frames.specs.Record.{custom_record}
use Rattle.walrus_writing.proofs.one_section.measure_custom.Goals as goal

pub returns : goal.returns
returns c = (c.in_ok-measure.ensures (CustomSection (custom_record c.args.custom.now)) (record { bytes = c.args.custom.now.bytes.now; is = refl; long = refl })).1
