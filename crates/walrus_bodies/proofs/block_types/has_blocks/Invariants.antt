use Rattle.std.proofs.Common.{◌≡◌, ◌<◌, ℕ, false, length, get_or}
use Rattle.std.specs.Prelude.{◌≢◌}
use Rattle.wasm_text.specs.Marks.{kind_of}
use Rattle.walrus_bodies.proofs.block_types.has_blocks.Given as goal

-- where none was found, none of those so far is one
abbrev pub invariant-marks : goal.invariant-marks
invariant-marks l = l.found ≡ false → (k d : ℕ) → k < l.mark-index → k < length l.marks → kind_of (get_or l.marks k d) ≢ 10
