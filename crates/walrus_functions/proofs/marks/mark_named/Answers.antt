use Rattle.std.proofs.Common.{◌≡◌, ◌<◌, ◌≤◌, ℕ, List, flat_map, get_or, length, map, arith, ◌∙◌, refl, sym, ap, subst, rules}
use Rattle.walrus_base.specs.Operators.{arg_locals, op_locals}
use Rattle.walrus_code.specs.Code.{arg_of, op_of}
use Rattle.walrus_functions.specs.Marked.{Marks}
use Rattle.walrus_functions.proofs.MarkLemmas.{marks_next, marks_all}
use Rattle.walrus_functions.proofs.marks.mark_named.Goals as goal

pub loop-operator-preserved : goal.loop-operator-preserved
loop-operator-preserved c =
    let xs = c.args.operators.now in
    let i = c.loop-operator.operator-index in
    let x = c.operator-item.result in
    let below : i < length xs = omega arith in
    let item : get_or xs i x ≡ x = search rules in
    let names : flat_map arg_locals (map arg_of c.as_slice.result.now) ≡ op_locals (op_of (get_or xs i x)) = ap (λ args. flat_map arg_locals args) c.as_slice.ensures ∙ ap (λ o. op_locals (op_of o)) (sym item) in
    record {
      so_far = marks_next op_locals op_of xs i x c.args.first c.args.marks.now.items c.loop-operator.marks.items c.mark_args.new.marks.items below c.loop-operator.invariant.so_far (subst (λ (ps : List ℕ). Marks c.args.first c.loop-operator.marks.items c.mark_args.new.marks.items ps) names (c.if-not-mark_args.ensures.marks refl));
      span = c.mark_args.ensures.span ∙ c.loop-operator.invariant.span;
    }

pub returns-clause-marks : goal.returns-clause-marks
returns-clause-marks c _ =
    let past : length c.args.operators.now ≤ c.loop-operator.operator-index = omega arith in
    marks_all op_locals op_of c.args.operators.now c.loop-operator.operator-index c.args.first c.args.marks.now.items c.loop-operator.marks.items past c.loop-operator.invariant.so_far
