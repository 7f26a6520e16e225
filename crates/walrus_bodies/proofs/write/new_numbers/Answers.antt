use Rattle.std.proofs.Common.{List, Option, ℕ, [], ◌∷◌, ◌++◌, ap, ap₂, ◌∙◌, refl, sym}
use Rattle.std.proofs.lemmas.List.FromFn.{map-range_with_len_more}
use Rattle.walrus_code.specs.Indices.{local_index}
use Rattle.walrus_bodies.proofs.write.new_numbers.Goals as goal

pub locals-preserved : goal.locals-preserved
locals-preserved c =
    let number = local_index c.args.locals.now in
    c.in_ok-push.ensures.items
    ∙ ap₂ (λ (xs : List (Option ℕ)) (x : Option ℕ). xs ++ x ∷ []) c.locals.invariant (c.get.ensures ∙ ap number c.at.ensures)
    ∙ sym (map-range_with_len_more number c.args.first c.locals.offset _ refl)
