use Rattle.std.proofs.Common.{◌∙◌, ◌∷◌, [], ap, sym, append-nil}
use Rattle.walrus_base.specs.Operators.{arg_names}
use Rattle.walrus_code.specs.Code.{arg_of, item_of}
use Rattle.walrus_code.proofs.Arguments.{pushed, all_pushed}
use Rattle.walrus_code.proofs.items.push_items.Goals as goal
use Rattle.walrus_code.proofs.items.push_items.Goals.{in-Some+in_ok-push, in_default}

pub loop-arg-preserved : goal.loop-arg-preserved
loop-arg-preserved c = elim c.match-item_of_arg.branch [
  | in-Some+in_ok-push w ↦ pushed item_of arg_of arg_names c.args.args.now c.loop-arg.arg-index _ c.args.to.now.items c.loop-arg.to.items (w.in-Some.item ∷ []) c.match-item_of_arg.to.items _ c.loop-arg-test.true (ap (λ t. t.items) w.to-is ∙ w.in_ok-push.ensures.items) w.in-Some.ensures c.loop-arg.invariant
  | in_default w ↦ pushed item_of arg_of arg_names c.args.args.now c.loop-arg.arg-index _ c.args.to.now.items c.loop-arg.to.items [] c.match-item_of_arg.to.items _ c.loop-arg-test.true (ap (λ t. t.items) w.to-is ∙ sym (append-nil c.loop-arg.to.items)) w.in_default.ensures c.loop-arg.invariant
]

pub returns-in_err-push-clause-kept : goal.returns-in_err-push-clause-kept
returns-in_err-push-clause-kept c = rw c.in_err-push.ensures.items c.loop-arg.invariant.1

pub returns-clause-kept : goal.returns-clause-kept
returns-clause-kept c = c.loop-arg.invariant.1

pub returns-clause-names : goal.returns-clause-names
returns-clause-names c = all_pushed item_of arg_of arg_names c.args.args.now c.loop-arg.arg-index c.args.to.now.items c.loop-arg.to.items _ c.loop-arg-test.false c.loop-arg.invariant
