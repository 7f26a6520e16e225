use Rattle.walrus_items.specs.Functions.{FunctionValue}
use Rattle.walrus_module.specs.Tested.{KindDeclaresFew}
use Rattle.walrus_model.proofs.Deciding.{all_goes}
use Rattle.walrus_module.proofs.declared.do_all_declare_few.Goals as goal

pub loop-function-preserved : goal.loop-function-preserved
loop-function-preserved c = (
  tt,
  tt,
  all_goes (λ (f : FunctionValue). KindDeclaresFew f.kind) _ _ _ _ c.in-Some.ensures.steps (c.in_ok-kind_declares_few.ensures.0 c.if-not-branch.false) c.loop-function.invariant.2,
)
