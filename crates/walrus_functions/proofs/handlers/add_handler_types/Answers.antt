use Rattle.std.proofs.Common.{◌≡◌, ◌<◌, ◌≤◌, [], ℕ, List, Option, ◌+◌, length, map, option_map, drop, get_or, ap, ◌∙◌, sym, subst, refl, rules, arith}
use Rattle.std.proofs.lemmas.List.{drop_all}
use Rattle.std.proofs.lemmas.Result.{err_from_is_err_and}
use Rattle.walrus_base.specs.Arena.{item_at}
use Rattle.walrus_base.specs.Id.{place}
use Rattle.walrus_base.specs.Composite.{FunctionType}
use Rattle.walrus_base.specs.ModuleTypes.{type_slots}
use Rattle.walrus_base.specs.Operators.{BlockType, Op}
use Rattle.walrus_base.specs.TypeDef.{TypeDef}
use Rattle.walrus_code.specs.Code.{block_of, op_of, ops_of}
use Rattle.walrus_functions.specs.Known.{IsOfTypes}
use Rattle.walrus_functions.specs.ReadFunction.{AddsTypes}
use Rattle.walrus_functions.specs.Signatures.{first_opened, handler_in, needed_by, opened, pair_of, slots_of, tag_places, types_below}
use Rattle.walrus_functions.proofs.HandlerLemmas.{SoFar, next_op, none_needed, so_far_all, so_far_none, so_far_more, stays_same, stays_trans, types_are}
use Rattle.walrus_functions.proofs.AlikeLemmas.{bound_held, held_later}
use Rattle.walrus_functions.proofs.KnownLemmas.{handler_is}
use Rattle.walrus_functions.proofs.handlers.add_handler_types.Goals as goal

pub loop-operator-init : goal.loop-operator-init
unfolding IsOfTypes
loop-operator-init c =
    let types = item_at (type_slots c.args.types.now) in
    let tags = tag_places c.args.tag_types.now in
    let old = slots_of c.args.types.now in
    let all = ops_of c.args.operators.now in
    let none : map place c.new-ids.result.items ≡ [] = ap (map place) c.new-ids.ensures.items in (
      subst (λ (ps : List ℕ). SoFar types tags old old (opened c.in_ok-blocks.blocks) all all ps) (sym none) (so_far_none types tags old (opened c.in_ok-blocks.blocks) all c.in_ok-blocks.ensures),
      c.requires,
    )

pub returns-then-not-has_catch-clause-added : goal.returns-then-not-has_catch-clause-added
returns-then-not-has_catch-clause-added c =
    none_needed (item_at (type_slots c.args.types.now)) (tag_places c.args.tag_types.now) (slots_of c.args.types.now) c.args.operators.now (map place c.new.result.items) (sym c.has_catch.ensures ∙ c.if-not-has_catch.true) (ap (map place) c.new.ensures.items)

pub returns-then-not-has_catch-clause-stays : goal.returns-then-not-has_catch-clause-stays
returns-then-not-has_catch-clause-stays c = stays_same (type_slots c.args.types.now) (type_slots c.args.types.now) refl

pub add_needed-requires : goal.add_needed-requires
add_needed-requires c =
    let old = type_slots c.args.types.now in
    let now = type_slots c.loop-operator.types in
    let under = types_are c.in_ok-bound.bound old now c.in_ok-bound.ensures c.loop-operator.invariant.0.stays in
    bound_held c.in_ok-bound.bound (length old) (types_below c.in_ok-bound.bound now) (item_at old) now c.loop-operator.handlers c.in_ok-bound.ensures under c.loop-operator.invariant.1

pub loop-operator-preserved : goal.loop-operator-preserved
loop-operator-preserved c =
    let xs = c.args.operators.now in
    let i = c.loop-operator.operator-index in
    let x = c.operator-item.result in
    let below : i < length xs = omega arith in
    let item : get_or xs i x ≡ x = search rules in
    let types = item_at (type_slots c.args.types.now) in
    let tags = tag_places c.args.tag_types.now in
    let old = slots_of c.args.types.now in
    let now = slots_of c.loop-operator.types in
    let next = slots_of c.add_needed.new.types in
    let blocks = opened c.loop-operator.blocks in
    let left = ops_of (drop (i + 1) xs) in
    let begun = option_map pair_of c.handler_begun-handler.result in
    let so_far = subst (λ (os : List Op). SoFar types tags old now blocks os (ops_of xs) (map place c.loop-operator.ids.items)) (next_op xs i x below item) c.loop-operator.invariant.0 in
    let under = types_are c.in_ok-bound.bound (type_slots c.args.types.now) (type_slots c.loop-operator.types) c.in_ok-bound.ensures c.loop-operator.invariant.0.stays in
    let needed : needed_by (types_below c.in_ok-bound.bound (type_slots c.loop-operator.types)) begun ≡ handler_in types tags (first_opened blocks) (op_of x) =
    ap (λ (ts : ℕ → Option TypeDef). needed_by ts begun) under ∙ ap (needed_by types) c.handler_begun-handler.ensures ∙ sym (handler_is types tags (option_map block_of c.innermost_try-block.result) (op_of x))
    ∙ ap (λ (b : Option BlockType). handler_in types tags b (op_of x)) c.innermost_try-block.ensures in
    let added = c.in_ok-add_needed.ensures.added in
    let adds = subst (λ (fs : List FunctionType). AddsTypes fs now next added.0) needed added.1.1 in (
      so_far_more types tags old now next blocks (opened c.step.new.self) (op_of x) left (ops_of xs) (map place c.loop-operator.ids.items) added.0 (map place c.add_needed.new.ids.items) so_far adds c.in_ok-add_needed.ensures.stays c.in_ok-step.ensures added.1.0,
      bound_held (length (type_slots c.args.types.now)) c.in_ok-bound.bound types (types_below c.in_ok-bound.bound (type_slots c.loop-operator.types)) (type_slots c.add_needed.new.types) c.add_needed.new.handlers (sym c.in_ok-bound.ensures) (sym under) c.in_ok-add_needed.ensures.kept,
    )

pub returns-in_err-bound-clause-added : goal.returns-in_err-bound-clause-added
returns-in_err-bound-clause-added c = let p = err_from_is_err_and c.from_residual.result c.from_residual.ensures.1 in rw p.1 tt

pub returns-in_err-bound-clause-stays : goal.returns-in_err-bound-clause-stays
returns-in_err-bound-clause-stays c = stays_same (type_slots c.args.types.now) (type_slots c.args.types.now) refl

pub returns-in_err-blocks-clause-added : goal.returns-in_err-blocks-clause-added
returns-in_err-blocks-clause-added c = let p = err_from_is_err_and c.from_residual-in_err-blocks.result c.from_residual-in_err-blocks.ensures.1 in rw p.1 tt

pub returns-in_err-blocks-clause-stays : goal.returns-in_err-blocks-clause-stays
returns-in_err-blocks-clause-stays c = stays_same (type_slots c.args.types.now) (type_slots c.args.types.now) refl

pub returns-in_err-add_needed-clause-added : goal.returns-in_err-add_needed-clause-added
returns-in_err-add_needed-clause-added c = let p = err_from_is_err_and c.from_residual-in_err-add_needed.result c.from_residual-in_err-add_needed.ensures.1 in rw p.1 tt

pub returns-in_err-add_needed-clause-stays : goal.returns-in_err-add_needed-clause-stays
returns-in_err-add_needed-clause-stays c = stays_trans (type_slots c.args.types.now) (type_slots c.loop-operator.types) (type_slots c.add_needed.new.types) c.loop-operator.invariant.0.stays c.add_needed.ensures.stays

pub returns-in_err-step-clause-added : goal.returns-in_err-step-clause-added
returns-in_err-step-clause-added c = let p = err_from_is_err_and c.from_residual-in_err-step.result c.from_residual-in_err-step.ensures.1 in rw p.1 tt

pub returns-in_err-step-clause-stays : goal.returns-in_err-step-clause-stays
returns-in_err-step-clause-stays c = stays_trans (type_slots c.args.types.now) (type_slots c.loop-operator.types) (type_slots c.add_needed.new.types) c.loop-operator.invariant.0.stays c.add_needed.ensures.stays

pub returns-clause-added : goal.returns-clause-added
returns-clause-added c =
    let xs = c.args.operators.now in
    let i = c.loop-operator.operator-index in
    let past : length xs ≤ i = omega arith in
    so_far_all (item_at (type_slots c.args.types.now)) (tag_places c.args.tag_types.now) (slots_of c.args.types.now) (slots_of c.loop-operator.types) (opened c.loop-operator.blocks) (ops_of (drop i xs)) (ops_of xs) (map place c.loop-operator.ids.items) (ap ops_of (drop_all i xs past)) c.loop-operator.invariant.0

pub returns-clause-stays : goal.returns-clause-stays
returns-clause-stays c = c.loop-operator.invariant.0.stays

pub returns-clause-kept : goal.returns-clause-kept
unfolding IsOfTypes
returns-clause-kept c = held_later (type_slots c.args.types.now) (type_slots c.loop-operator.types) c.loop-operator.handlers c.loop-operator.invariant.0.stays c.loop-operator.invariant.1
