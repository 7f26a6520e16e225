use Rattle.std.proofs.Common.{arith}
use Rattle.wasm_text.proofs.Marked.{index_of_mark}
use Rattle.wasm_text.proofs.append.put_long_index.Goals as goal

pub read_index_at-requires : goal.read_index_at-requires
read_index_at-requires g c = index_of_mark c.args.bytes.now c.args.mark c.requires.kind c.requires.stands

pub overflow_sub-behind : goal.overflow_sub-behind
overflow_sub-behind g c = omega (arith, c.in_ok-index.ensures.forward)
