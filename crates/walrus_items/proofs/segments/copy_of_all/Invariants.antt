use Rattle.std.proofs.Common.{take}
use Rattle.std.specs.List.{AllZip}
use Rattle.walrus_base.specs.ConstOps.{SameExpr}
use Rattle.walrus_items.proofs.segments.copy_of_all.Given as goal

-- the copies so far are those of the expressions so far
abbrev pub invariant-copied : goal.invariant-copied
invariant-copied l = AllZip SameExpr (take l.expression-index l.all) l.copy.items
