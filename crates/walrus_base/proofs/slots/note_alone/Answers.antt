use Rattle.std.proofs.Common.{◌≡◌, ap, sym, ◌∙◌}
use Rattle.walrus_base.specs.Alone.{alone}
use Rattle.walrus_base.specs.Composite.{function_type}
use Rattle.walrus_base.specs.TypeDef.{type_def, type_place}
use Rattle.walrus_base.proofs.Indexed.{some_same}
use Rattle.walrus_base.proofs.slots.note_alone.Goals as goal

pub returns-in-None-alone_function-clause-noted : goal.returns-in-None-alone_function-clause-noted
returns-in-None-alone_function-clause-noted c = λ ty f at is apart.
    let same : ty ≡ c.in-Some.ty = some_same ty c.in-Some.ty (sym at ∙ c.in-Some.is) in
    absurd (c.in-None-alone_function.ensures (function_type f) (ap (λ t. type_def t) (sym same) ∙ is ∙ ap (λ t. alone (type_place t) (function_type f)) same))
