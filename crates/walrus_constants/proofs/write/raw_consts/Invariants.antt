use Rattle.std.proofs.Common.{map, drop, All}
use Rattle.wasm_entries.specs.Record.{expression}
use Rattle.wasm_entries.specs.Spelling.{ExpressionStands}
use Rattle.walrus_base.specs.ConstOps.{const_ops}
use Rattle.walrus_code.specs.Indices.{index_of}
use Rattle.walrus_model.specs.Constants.{consts_of}
use Rattle.walrus_constants.proofs.Listed.{SoFar}
use Rattle.walrus_constants.proofs.write.raw_consts.Given as goal

-- those that were written are those in front of what is left
abbrev pub invariant-loop-expr : goal.invariant-loop-expr
invariant-loop-expr l = record {
  indexed : SoFar (index_of l.indices) (map const_ops l.all) (map const_ops (drop l.expr-index l.all)) (map consts_of (map expression l.raw.items));
  spelled : All ExpressionStands (map expression l.raw.items);
}
