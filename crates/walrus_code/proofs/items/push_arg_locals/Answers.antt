use Rattle.std.proofs.Common.{◌∙◌, ◌∷◌, [], ap, sym, append-nil}
use Rattle.walrus_base.specs.Id.{place}
use Rattle.walrus_base.specs.Operators.{arg_locals}
use Rattle.walrus_code.specs.Code.{arg_of}
use Rattle.walrus_code.proofs.Arguments.{pushed, all_pushed, no_local}
use Rattle.walrus_code.proofs.items.push_arg_locals.Goals as goal
use Rattle.walrus_code.proofs.items.push_arg_locals.Goals.{in-Local+in_ok-push, in_default}

pub loop-arg-preserved : goal.loop-arg-preserved
loop-arg-preserved c = elim c.match-arg.branch [
  | in-Local+in_ok-push w ↦ pushed place arg_of arg_locals c.args.args.now c.loop-arg.arg-index _ c.args.to.now.items c.loop-arg.to.items (w.in-Local.id ∷ []) c.match-arg.to.items _ c.loop-arg-test.true (ap (λ t. t.items) w.to-is ∙ w.in_ok-push.ensures.items) (sym (ap (λ a. arg_locals (arg_of a)) w.in-Local.is)) c.loop-arg.invariant
  | in_default w ↦ pushed place arg_of arg_locals c.args.args.now c.loop-arg.arg-index _ c.args.to.now.items c.loop-arg.to.items [] c.match-arg.to.items _ c.loop-arg-test.true (ap (λ t. t.items) w.to-is ∙ sym (append-nil c.loop-arg.to.items)) (sym (no_local _ w.in_default.not-Local)) c.loop-arg.invariant
]

pub returns-in_err-push-clause-kept : goal.returns-in_err-push-clause-kept
returns-in_err-push-clause-kept c = rw c.in_err-push.ensures.items c.loop-arg.invariant.1

pub returns-clause-kept : goal.returns-clause-kept
returns-clause-kept c = c.loop-arg.invariant.1

pub returns-clause-locals : goal.returns-clause-locals
returns-clause-locals c = all_pushed place arg_of arg_locals c.args.args.now c.loop-arg.arg-index c.args.to.now.items c.loop-arg.to.items _ c.loop-arg-test.false c.loop-arg.invariant
