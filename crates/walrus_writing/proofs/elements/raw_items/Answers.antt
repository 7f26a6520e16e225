use Rattle.std.proofs.Common.{List, map, subst}
use Rattle.walrus_code.specs.Indices.{index_of}
use Rattle.walrus_model.specs.Abstract.{Expressions}
use Rattle.walrus_base.specs.ConstOps.{const_ops}
use Rattle.walrus_base.specs.Value.{ref_type}
use Rattle.walrus_base.specs.declared.const_expr.ConstExpr.{ConstExpr}
use Rattle.walrus_writing.specs.Elements.{IndexesItems}
use Rattle.walrus_writing.proofs.elements.raw_items.Goals as goal

pub returns-in-Expressions : goal.returns-in-Expressions
returns-in-Expressions c =
    rw (c.in-Expressions.is) (subst (λ (l : List ConstExpr). IndexesItems (index_of c.args.indices.now) (Expressions (ref_type c.in-Expressions.ty) (map const_ops l)) c.raw_expressions.result) c.as_slice-in-Expressions.ensures.value c.raw_expressions.ensures)
