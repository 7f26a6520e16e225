use Rattle.std.proofs.Common.{◌≡◌, arith, length, refl, ◌∙◌}
use Rattle.std.proofs.lemmas.Bool.Decides.{nat_tests}
use Rattle.walrus_edit_list.proofs.Folding.{begins, ends_all, ends_short, next, refused, refused_first}
use Rattle.walrus_edit_list.proofs.TagsKept.{tags_kept}
use Rattle.walrus_edit_list.proofs.list.apply_all.Goals as goal

pub edits-init : goal.edits-init
edits-init g c = (begins _ _ _, refl, c.in-Ok.ensures.value)

pub edits-preserved : goal.edits-preserved
edits-preserved g c =
    let one = c.in-Ok-apply_first.ensures in
    (next _ _ _ _ _ _ _ _ c.edits.invariant.0 one.0 one.1 one.2, refl, c.edits.invariant.2 ∙ tags_kept c.args.features.now one.0 _ _ one.2)

pub returns-in-Err : goal.returns-in-Err
returns-in-Err g c = refused_first _ _ _ _ c.in-Err.ensures.fails

pub returns-in-Err-places_of_items : goal.returns-in-Err-places_of_items
returns-in-Err-places_of_items g c = refused_first _ _ _ _ c.in-Err-places_of_items.ensures.fails

pub returns-in-Err-apply_first : goal.returns-in-Err-apply_first
returns-in-Err-apply_first g c =
    let some : length c.edits.rest.now ≡ 0 → ⊥ = λ none. absurd (grind (arith, nat_tests)) in
    refused _ _ _ _ _ _ _ c.edits.invariant.0 some c.in-Err-apply_first.ensures

pub returns-then-is_empty : goal.returns-then-is_empty
returns-then-is_empty g c =
    let short : length c.edits.rest.now ≡ 0 = grind (arith, nat_tests) in
    ends_short _ _ _ _ _ _ c.edits.invariant.0 short

pub returns : goal.returns
returns g c =
    let last : c.edits.applied ≡ length c.args.edits.now = omega (arith, c.edits-test.false, c.edits.auto.applied-end) in
    ends_all _ _ _ _ _ _ c.edits.invariant.0 last
