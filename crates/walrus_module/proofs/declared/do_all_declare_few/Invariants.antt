use Rattle.std.specs.Prelude.{All, ◌↔◌}
use Rattle.walrus_base.specs.Arena.{items}
use Rattle.walrus_items.specs.Functions.{FunctionValue, functions, functions_left}
use Rattle.walrus_module.specs.Tested.{KindDeclaresFew}
use Rattle.walrus_module.proofs.declared.do_all_declare_few.Given as goal

-- each so far declares few: whether all do shows in those that are still to come
abbrev pub invariant-loop-function : goal.invariant-loop-function
invariant-loop-function l =
    goal.iterator-loop-function.can_next l.function-iterator
    × goal.iterator-loop-function.is_finite l.function-iterator
    × (All (λ (f : FunctionValue). KindDeclaresFew f.kind) (items (functions l.funcs)) ↔ All (λ (f : FunctionValue). KindDeclaresFew f.kind) (functions_left l.function-iterator))
