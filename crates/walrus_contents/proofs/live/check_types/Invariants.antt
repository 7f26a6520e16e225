use Rattle.walrus_base.specs.ModuleTypes.{type_slots}
use Rattle.walrus_base.specs.Operators.{Types}
use Rattle.walrus_base.specs.TypesLeft.{types_left}
use Rattle.walrus_contents.specs.There.{IsWhole}
use Rattle.walrus_contents.specs.View.{parts_view}
use Rattle.walrus_model.proofs.Walked.{Walked}
use Rattle.walrus_contents.proofs.live.check_types.Given as goal

-- the types that aren't left are whole
abbrev pub invariant-loop-ty : goal.invariant-loop-ty
invariant-loop-ty l =
    (goal.iterator-loop-ty).can_next l.ty-iterator
    × (goal.iterator-loop-ty).is_finite l.ty-iterator
    × Walked (λ i. IsWhole (parts_view l.parts) (Types, i)) (type_slots l.parts.types.now) (types_left l.ty-iterator)
