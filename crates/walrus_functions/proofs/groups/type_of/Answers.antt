use Rattle.std.proofs.Common.{◌≡◌, None, Option, sym, subst}
use Rattle.std.specs.Prelude.{IsSome}
use Rattle.walrus_base.proofs.Standing.{none_there}
use Rattle.walrus_functions.proofs.groups.type_of.Goals as goal

no_type : {A : Type 0} (o : Option A) → None ≡ o → IsSome o → ⊥
no_type {A} o none there = none_there (subst (λ (p : Option A). IsSome p) (sym none) there)

pub unreachable-requires : goal.unreachable-requires
unreachable-requires c = no_type _ c.in_default.ensures c.requires
