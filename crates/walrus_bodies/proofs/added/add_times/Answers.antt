use Rattle.std.proofs.Common.{ℕ, List, replicate, ap, sym, ◌∙◌, subst, add-one}
use Rattle.walrus_base.specs.Locals.{locals}
use Rattle.walrus_base.specs.declared.value.ValType.{ValType}
use Rattle.walrus_bodies.proofs.AddedLemmas.{AddsTypes, one_added}
use Rattle.walrus_bodies.proofs.DeclarationLemmas.{replicate_more}
use Rattle.walrus_bodies.proofs.added.add_times.Goals as goal

pub turns-preserved : goal.turns-preserved
turns-preserved c =
    let ty = c.args.ty in
    let n = c.turns._turn in
    let old = locals c.args.module_locals.now in
    let more = one_added old (locals c.turns.module_locals) (locals c.add.new.self) (replicate n ty) c.in_ok-add.field-0 ty c.turns.invariant c.in_ok-add.ensures in
    subst (λ (ts : List ValType). AddsTypes old (locals c.add.new.self) ts) (replicate_more n ty ∙ ap (λ (m : ℕ). replicate m ty) (sym (add-one n))) more
