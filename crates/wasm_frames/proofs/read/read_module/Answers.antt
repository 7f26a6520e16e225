use Rattle.wasm_frames.proofs.Until.{whole_holds, not_held}
use Rattle.wasm_frames.proofs.read.read_module.Goals as goal

pub returns-in-Whole-clause-only : goal.returns-in-Whole-clause-only
returns-in-Whole-clause-only c = λ m h. whole_holds m _ _ c.in-Whole.is (c.in_ok-raw.ensures.only m h)

pub returns-in-NoHeader : goal.returns-in-NoHeader
returns-in-NoHeader c = record {
  found = tt;
  only = λ m h. absurd (not_held m _ c.in-NoHeader.is (c.in_ok-raw.ensures.only m h));
  not_large = λ e. cc;
}
