use Rattle.std.proofs.Common.{ℕ, List}
use Rattle.wasm_frames.specs.Frames.{Tags}
use Rattle.walrus_writing.proofs.WritesSections.{wrote}
use Rattle.walrus_writing.proofs.one_section.write_tags.Goals as goal

pub returns : goal.returns
returns c = wrote Tags (λ (types : List ℕ). types) _ _ _ _ _ c.as_slice.ensures.value c.in_ok-raw.ensures.value c.in_ok-tag_section.ensures.appends
