use Rattle.std.proofs.Common.{refl}
use Rattle.walrus_base.specs.Arena.{item_at}
use Rattle.walrus_base.specs.Id.{place}
use Rattle.walrus_items.specs.Kinds.{imported}
use Rattle.walrus_items.specs.Imports.{import_value, imports}
use Rattle.walrus_contents.specs.View.{parts_view}
use Rattle.walrus_plan.proofs.Matching.{named_by, other_named}
use Rattle.walrus_plan.proofs.matched.is_named_by.Goals as goal

pub returns-then-contains-clause-named : goal.returns-then-contains-clause-named
returns-then-contains-clause-named c = λ is.
    let p = c.args.parts in
    named_by (parts_view p) (item_at (imports p.imports.now) (place c.args.«import»)) (place c.args.«import») refl (imported c.args.kind) (import_value c.get.result.now) c.get.ensures (c.is_same.ensures.same is)

pub returns-then-contains-clause-not : goal.returns-then-contains-clause-not
returns-then-contains-clause-not c = λ is.
    let p = c.args.parts in
    other_named (parts_view p) (item_at (imports p.imports.now) (place c.args.«import»)) (place c.args.«import») refl (imported c.args.kind) (import_value c.get.result.now) c.get.ensures (c.is_same.ensures.not is)
