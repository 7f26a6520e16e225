use Rattle.std.proofs.Common.{ℕ, ◌<◌, ◌≤◌, ◌^◌, false, length, arith}
use Rattle.wasm_forms.specs.Spelling.{number_bytes}
use Rattle.wasm_forms.proofs.Spelled.{groups_short}
use Rattle.wasm_writer.proofs.writer.Writer.rows_section.Goals as goal

-- the count has five bytes at most
short_count : (n : ℕ) → n < 2 ^ 32 → length (number_bytes n) ≤ 5
unfolding number_bytes
short_count n h = groups_short false 128 9 4 n (omega arith)

pub overflow_add-leb128_len : goal.overflow_add-leb128_len
overflow_add-leb128_len c = omega (arith, short_count c.args.count (omega arith), c.leb128_len.ensures.written)
