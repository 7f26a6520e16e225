use Rattle.std.proofs.Common.{refl}
use Rattle.wasm_frames.specs.Frames.{DataCount}
use Rattle.walrus_writing.proofs.WritesSections.{given}
use Rattle.walrus_writing.proofs.one_section.write_count.Goals as goal

pub returns : goal.returns
returns c = rw c.in-Some.is (given DataCount c.in-Some.number _ _ c.in_ok-data_count_section.ensures.appends.0 (c.in_ok-measure.ensures (DataCount c.in-Some.number) refl).1)
