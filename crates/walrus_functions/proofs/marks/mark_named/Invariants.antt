use Rattle.std.proofs.Common.{◌≡◌, length, take}
use Rattle.walrus_base.specs.Operators.{locals_of}
use Rattle.walrus_code.specs.Code.{ops_of}
use Rattle.walrus_functions.specs.Marked.{Marks}
use Rattle.walrus_functions.proofs.marks.mark_named.Given as goal

-- the locals so far are marked
abbrev pub invariant-loop-operator : goal.invariant-loop-operator
invariant-loop-operator l = record {
  so_far : Marks l.first l.initial.marks.items l.marks.items (locals_of (ops_of (take l.operator-index l.operators)));
  span : length l.marks.items ≡ length l.initial.marks.items;
}
