use Rattle.std.proofs.Common.{sym, subst}
use Rattle.std.specs.Prelude.{IfOk}
use Rattle.std.specs.Bool.{Decides}
use Rattle.walrus_items.specs.declared.function_kind.FunctionKind.{FunctionKind}
use Rattle.walrus_module.specs.Tested.{KindDeclaresFew}
use Rattle.walrus_module.proofs.declared.kind_declares_few.Goals as goal

pub returns-in-Local : goal.returns-in-Local
returns-in-Local c = subst (λ (k : FunctionKind). IfOk c.declares_few.result (λ few. Decides few (KindDeclaresFew k))) (sym c.in-Local.is) c.declares_few.ensures
