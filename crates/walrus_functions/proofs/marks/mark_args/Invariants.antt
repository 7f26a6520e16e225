use Rattle.std.proofs.Common.{◌≡◌, flat_map, length, map, take}
use Rattle.walrus_base.specs.Operators.{arg_locals}
use Rattle.walrus_code.specs.Code.{arg_of}
use Rattle.walrus_functions.specs.Marked.{Marks}
use Rattle.walrus_functions.proofs.marks.mark_args.Given as goal

-- the locals so far are marked
abbrev pub invariant-loop-arg : goal.invariant-loop-arg
invariant-loop-arg l = record {
  so_far : Marks l.first l.initial.marks.items l.marks.items (flat_map arg_locals (map arg_of (take l.arg-index l.args)));
  span : length l.marks.items ≡ length l.initial.marks.items;
}
