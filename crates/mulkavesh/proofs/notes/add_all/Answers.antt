use Rattle.std.proofs.Common.{List, ℕ, ◌++◌, codes, ap, ◌∙◌}
use Rattle.mulkavesh.specs.Notes.{vec_bytes}
use Rattle.mulkavesh.proofs.RowLists.{text_more}
use Rattle.mulkavesh.proofs.notes.add_all.Goals as goal

pub parts-preserved : goal.parts-preserved
parts-preserved c =
    let put = c.in_ok-extend_from_slice.ensures.items ∙ ap (λ (t : List ℕ). c.add_comma.new.to.items ++ t) c.deref.ensures.value in
    text_more vec_bytes (codes ", ") c.args.parts.now c.parts.place _ _ c.parts-test.true c.index-parts-place.is _ _ _ _ c.parts.invariant c.in_ok-add_comma.ensures put
