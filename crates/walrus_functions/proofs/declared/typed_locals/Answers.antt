use Rattle.std.proofs.Common.{ℕ, ◌+◌, ◌≤◌, List, [], ◌∷◌, ◌++◌, sym, ap, subst, ◌∙◌, map, take, drop, length, inl, inr, nat_eq, arith}
use Rattle.walrus_base.specs.Id.{place}
use Rattle.walrus_base.specs.Arena.{item_at}
use Rattle.walrus_base.specs.Locals.{locals}
use Rattle.walrus_base.specs.Value.{val_type}
use Rattle.walrus_functions.specs.Declaring.{is_taken, typed, AreTyped, same_local}
use Rattle.walrus_functions.specs.EmittedBody.{types_of}
use Rattle.walrus_base.proofs.Turns.{map_more, map_snoc, split_at}
use Rattle.std.specs.List.{IsDistinct, list_any}
use Rattle.std.specs.List.Sorted.{IsStrictlySortedBy}
use Rattle.std.specs.Ordering.{nat_cmp}
use Rattle.walrus_base.specs.declared.value.ValType.{ValType as DeclaredValType}
use Rattle.walrus_base.proofs.DistinctLemmas.{not_before}
use Rattle.walrus_functions.proofs.OnceLemmas.{new-distinct, none-distinct, none-typed}
use Rattle.walrus_functions.proofs.TypedLemmas.{typed-skip, typed-more, rise_skip, rise_more, rise_all}
use Rattle.walrus_functions.proofs.declared.typed_locals.Goals as goal
use Rattle.walrus_functions.proofs.declared.typed_locals.Goals.{in-Some+in_ok-push, in_default}

pub loop-id-preserved-then-contains : goal.loop-id-preserved-then-contains
loop-id-preserved-then-contains c = record {
  so_far = typed-skip (types_of (locals c.args.module_locals.now)) (is_taken c.args.parameters.now) (map place (take c.loop-id.id-index c.args.named.now)) (map place (take (c.loop-id.id-index + 1) c.args.named.now)) c.index.result (map typed c.loop-id.found.items)
      (map_more place c.args.named.now c.loop-id.id-index _ c.loop-id-test.true ∙ ap (λ (p : ℕ). map place (take c.loop-id.id-index c.args.named.now) ++ p ∷ []) (sym c.index.ensures))
      (inl (sym c.contains.ensures ∙ c.if-contains.true)) c.loop-id.invariant.so_far;
  distinct = c.loop-id.invariant.distinct;
  rising = rise_skip (map (λ e. e.0) c.loop-id.found.items) c.args.named.now c.loop-id.id-index c.loop-id-test.true c.loop-id.invariant.rising;
}

pub loop-id-preserved : goal.loop-id-preserved
loop-id-preserved c =
    let slots = types_of (locals c.args.module_locals.now) in
    let is_parameter = is_taken c.args.parameters.now in
    let done = map place (take c.loop-id.id-index c.args.named.now) in
    let all = map place (take (c.loop-id.id-index + 1) c.args.named.now) in
    let had = c.loop-id.found.items in
    let next = map_more place c.args.named.now c.loop-id.id-index _ c.loop-id-test.true in
    let parts = split_at place c.args.named.now c.loop-id.id-index _ c.loop-id-test.true in
    elim c.match-type_at.branch [
      | in-Some+in_ok-push w ↦ record {
        so_far = typed-more slots is_parameter done all w.index-in-Some.result (val_type w.in-Some.ty) (map typed had) (map typed c.match-type_at.found.items)
            (next ∙ ap (λ (p : ℕ). done ++ p ∷ []) (sym w.index-in-Some.ensures))
            (ap (λ f. map typed f.items) w.found-is ∙ ap (map typed) w.in_ok-push.ensures.items ∙ map_snoc typed had (w.index-in-Some.result, w.in-Some.ty))
            (ap is_parameter (w.index-in-Some.ensures ∙ sym c.index.ensures) ∙ sym c.contains.ensures ∙ c.if-contains.false)
            (ap (item_at slots) w.index-in-Some.ensures ∙ sym w.in-Some.ensures)
            c.loop-id.invariant.so_far;
        rising = rise_more (map (λ e. e.0) had) (map (λ e. e.0) c.match-type_at.found.items) c.args.named.now c.loop-id.id-index _ c.loop-id-test.true
            (ap (λ f. map (λ e. e.0) f.items) w.found-is ∙ ap (map (λ (e : ℕ × DeclaredValType). e.0)) w.in_ok-push.ensures.items ∙ map_snoc (λ (e : ℕ × DeclaredValType). e.0) had (w.index-in-Some.result, w.in-Some.ty) ∙ ap (λ (p : ℕ). map (λ (e : ℕ × DeclaredValType). e.0) had ++ p ∷ []) w.index-in-Some.ensures)
            c.loop-id.invariant.rising;
        distinct =
            let fresh = not_before done _ parts.0 (subst (λ (ps : List ℕ). IsDistinct nat_eq ps) parts.1 c.requires.distinct) in
            subst (λ (es : List (ℕ × DeclaredValType)). IsDistinct same_local es) (sym (ap (λ f. f.items) w.found-is ∙ w.in_ok-push.ensures.items))
            (new-distinct slots is_parameter done w.index-in-Some.result w.in-Some.ty had c.loop-id.invariant.so_far (ap (λ (p : ℕ). list_any (nat_eq p) done) w.index-in-Some.ensures ∙ fresh) c.loop-id.invariant.distinct);
      }
      | in_default w ↦ record {
        so_far = subst (λ f. AreTyped slots all is_parameter (map typed f.items)) (sym w.found-is)
            (typed-skip slots is_parameter done all c.index.result (map typed had) (next ∙ ap (λ (p : ℕ). done ++ p ∷ []) (sym c.index.ensures)) (inr (ap (item_at slots) c.index.ensures ∙ sym w.in_default.ensures)) c.loop-id.invariant.so_far);
        distinct = subst (λ f. IsDistinct same_local f.items) (sym w.found-is) c.loop-id.invariant.distinct;
        rising = subst (λ f. IsStrictlySortedBy nat_cmp (map (λ e. e.0) f.items ++ map place (drop (c.loop-id.id-index + 1) c.args.named.now))) (sym w.found-is)
            (rise_skip (map (λ e. e.0) had) c.args.named.now c.loop-id.id-index c.loop-id-test.true c.loop-id.invariant.rising);
      }
    ]

pub loop-id-init : goal.loop-id-init
loop-id-init c = record {
  so_far = none-typed (types_of (locals c.args.module_locals.now)) (is_taken c.args.parameters.now) c.in_ok-found.found.items c.in_ok-found.ensures.items;
  distinct = none-distinct c.in_ok-found.found.items c.in_ok-found.ensures.items;
  rising = subst (λ (es : List (ℕ × DeclaredValType)). IsStrictlySortedBy nat_cmp (map (λ e. e.0) es ++ map place c.args.named.now)) (sym c.in_ok-found.ensures.items) c.requires.rising;
}

pub returns-clause-rising : goal.returns-clause-rising
returns-clause-rising c =
    let past : length c.args.named.now ≤ c.loop-id.id-index = omega arith in
    rise_all (map (λ e. e.0) c.loop-id.found.items) c.args.named.now c.loop-id.id-index past c.loop-id.invariant.rising
