-- A group of one member.
use Rattle.std.proofs.Common.{◌≡◌, ℕ, ◌+◌, List, [], ◌∷◌, ◌++◌, length, Option, Some, sym, ap, ◌∙◌}
use Rattle.std.proofs.lemmas.List.{map-append}
use Rattle.walrus_base.specs.TypeDef.{type_def, places_between}
use Rattle.walrus_base.specs.TypeSlots.{defs, new_group}
use Rattle.walrus_base.specs.declared.composite.NewType.{NewType}
use Rattle.walrus_base.specs.declared.types.Type.{«Type»}
use Rattle.walrus_base.proofs.Indexed.{length-defs}
use Rattle.walrus_base.proofs.NewGroups.{member_def}
use Rattle.walrus_base.proofs.Places.{between_count}

one_group : (ty : «Type») (member : NewType) (first end : ℕ) → type_def ty ≡ member_def (places_between first end) member → end ≡ first + 1 → defs (Some ty ∷ []) ≡ new_group first (member ∷ [])
one_group ty member first end is one = ap (λ x. Some x ∷ []) (is ∙ ap (λ group. member_def group member) (between_count first end 1 one))

-- a type that is alone in its group comes behind the others
pub one_more : (old : List (Option «Type»)) (ty : «Type») (member : NewType) (first end : ℕ) → first ≡ length old → type_def ty ≡ member_def (places_between first end) member → end ≡ first + 1
    → defs (old ++ Some ty ∷ []) ≡ defs old ++ new_group (length (defs old)) (member ∷ [])
one_more old ty member first end at is one =
    map-append _ old (Some ty ∷ [])
    ∙ ap (λ xs. defs old ++ xs) (one_group ty member first end is one ∙ ap (λ n. new_group n (member ∷ [])) (at ∙ sym (length-defs old)))
