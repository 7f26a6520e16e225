use Rattle.std.proofs.Common.{arith}
use Rattle.walrus_sections.proofs.PartItems.{data_shorter}
use Rattle.walrus_sections.proofs.parts.read_item.Goals as goal

pub overflow_sub-size : goal.overflow_sub-size
overflow_sub-size c = omega (arith, data_shorter _ _ _ c.in_ok-_segment.ensures)
