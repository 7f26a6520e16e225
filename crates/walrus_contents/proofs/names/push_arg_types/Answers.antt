use Rattle.std.proofs.Common.{List, ℕ, subst, sym}
use Rattle.walrus_base.specs.Id.{place}
use Rattle.walrus_contents.specs.Named.{PutsTypes}
use Rattle.walrus_code.proofs.Arguments.{no_local}
use Rattle.walrus_contents.proofs.LocalTypes.{types_none, types_one}
use Rattle.walrus_contents.proofs.names.push_arg_types.Goals as goal

pub returns-in-Local : goal.returns-in-Local
returns-in-Local c =
    rw c.in-Local.is (types_one c.args.locals.now (place c.in-Local.id) c.push_local_type.result c.args.to.now c.push_local_type.new.to
    c.push_local_type.ensures)

pub returns-in_default : goal.returns-in_default
returns-in_default c =
    let to = c.args.to.now in
    subst (λ (ls : List ℕ). PutsTypes c.args.locals.now ls to to) (sym (no_local _ c.in_default.not-Local)) (types_none c.args.locals.now to)
