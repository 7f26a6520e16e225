use Rattle.std.proofs.Common.{◌<◌, List, length, take, get_or, subst, arith}
use Rattle.walrus_base.specs.Locals.{locals}
use Rattle.walrus_base.specs.declared.value.ValType.{ValType}
use Rattle.walrus_base.specs.declared.value.ValType.TheVariants.{I32}
use Rattle.walrus_bodies.proofs.AddedLemmas.{AddsTypes, one_added, take_next}
use Rattle.walrus_bodies.proofs.added.add_types.Goals as goal

pub types-preserved : goal.types-preserved
types-preserved c =
    let types = c.args.types.now in
    let i = c.types.ty-index in
    let first : ValType = I32 in
    let below : i < length types = omega arith in
    let old = locals c.args.module_locals.now in
    let more = one_added old (locals c.types.module_locals) (locals c.add.new.self) (take i types) c.in_ok-add.field-0 (get_or types i first) c.types.invariant c.in_ok-add.ensures in
    subst (λ (ts : List ValType). AddsTypes old (locals c.add.new.self) ts) (take_next types i first below) more
