use Rattle.std.proofs.Common.{refl}
use Rattle.wasm_frames.specs.Frames.{Start}
use Rattle.walrus_writing.proofs.WritesSections.{given}
use Rattle.walrus_writing.proofs.one_section.write_start.Goals as goal

pub returns : goal.returns
returns c = rw c.in-Some.is (given Start c.in-Some.index _ _ c.in_ok-start_section.ensures.appends.0 (c.in_ok-measure.ensures (Start c.in-Some.index) refl).1)
