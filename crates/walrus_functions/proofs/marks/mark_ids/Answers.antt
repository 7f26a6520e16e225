use Rattle.std.proofs.Common.{◌≤◌, ℕ, List, [], ◌∷◌, length, map, arith, ◌∙◌, refl, subst}
use Rattle.walrus_base.specs.Id.{place}
use Rattle.walrus_functions.specs.Marked.{Marks}
use Rattle.walrus_functions.proofs.MarkLemmas.{each_alone, marks_next, marks_all}
use Rattle.walrus_functions.proofs.marks.mark_ids.Goals as goal

pub ids-preserved : goal.ids-preserved
ids-preserved c = record {
  so_far = marks_next (λ (p : ℕ). p ∷ []) place c.args.ids.now c.ids.id-index _ c.args.first c.args.marks.now.items c.ids.marks.items c.mark.new.marks.items c.ids-test.true c.ids.invariant.so_far
      (subst (λ (p : ℕ). Marks c.args.first c.ids.marks.items c.mark.new.marks.items (p ∷ [])) c.index.ensures (c.if-not-mark.ensures.marks refl));
  span = c.mark.ensures.span ∙ c.ids.invariant.span;
}

pub returns-clause-marks : goal.returns-clause-marks
returns-clause-marks c _ =
    let past : length c.args.ids.now ≤ c.ids.id-index = omega arith in
    subst (λ (ps : List ℕ). Marks c.args.first c.args.marks.now.items c.ids.marks.items ps) (each_alone (map place c.args.ids.now))
    (marks_all (λ (p : ℕ). p ∷ []) place c.args.ids.now c.ids.id-index c.args.first c.args.marks.now.items c.ids.marks.items past c.ids.invariant.so_far)
