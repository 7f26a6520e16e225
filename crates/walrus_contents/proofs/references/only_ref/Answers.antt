use Rattle.std.proofs.Common.{refl, ⊎_elim}
use Rattle.walrus_base.specs.declared.const_expr.ConstExpr.TheVariants as expression
use Rattle.walrus_contents.proofs.ExportedRefs.{no_ref, value_alone}
use Rattle.walrus_contents.proofs.references.only_ref.Goals as goal

pub returns-in-Value : goal.returns-in-Value
returns-in-Value c =
    let e = c.args.expr.now in
    ⊎_elim
    (λ h. no_ref e (expression.Value h.0) h.1 (value_alone h.0))
    (λ others. ⊎_elim (λ h. no_ref e (expression.Global h.0) h.1 refl) (λ h. no_ref e (expression.RefNull h.0) h.1 refl) others)
    c.in-Value.is
