use Rattle.std.proofs.Common.{◌≡◌, ◌+◌, ◌≤◌, ℕ, List, map, sym, subst, arith}
use Rattle.std.specs.List.Sorted.{IsStrictlySortedBy}
use Rattle.std.specs.Ordering.{nat_cmp}
use Rattle.walrus_base.specs.Id.{place}
use Rattle.walrus_base.specs.Locals.{locals}
use Rattle.walrus_base.specs.Value.{val_type}
use Rattle.walrus_base.specs.declared.value.ValType.{ValType as DeclaredValType}
use Rattle.walrus_functions.specs.Declaring.{is_taken, AreTyped, AreInOrder, typed}
use Rattle.walrus_functions.specs.EmittedBody.{types_of}
use Rattle.walrus_functions.proofs.OnceLemmas.{ordered_ids}
use Rattle.walrus_functions.proofs.RankLemmas.{ranked_ids}
use Rattle.walrus_functions.proofs.declared.order_declared.Goals as goal

pub returns : goal.returns
returns c =
    let slots = types_of (locals c.args.module_locals.now) in
    let is_parameter = is_taken c.args.parameters.now in
    let once = map place c.args.named.now in
    let found = c.as_slice-held.result.now in
    let are : AreTyped slots once is_parameter (map typed found) = subst (λ es. AreTyped slots once is_parameter (map typed es)) (sym c.as_slice-held.ensures.value) c.in_ok-found.ensures.typed in
    let order = subst (λ (ks : List (ℕ × ℕ × ℕ)). (o : AreInOrder found ks) × ((v w : DeclaredValType) → val_type v ≡ val_type w → o.lowest v ≡ o.lowest w)) (sym c.as_slice.ensures.value) c.in_ok-keys.ensures in
    ordered_ids (λ ids. map place ids.items) c.ids_of.result slots once is_parameter found c.as_slice.result.now c.ids_of.ensures are order.0 order.1

pub returns-then-highest-lt5 : goal.returns-then-highest-lt5
returns-then-highest-lt5 c =
    let slots = types_of (locals c.args.module_locals.now) in
    let is_parameter = is_taken c.args.parameters.now in
    let once = map place c.args.named.now in
    let found = c.as_slice-held.result.now in
    let are : AreTyped slots once is_parameter (map typed found) = subst (λ es. AreTyped slots once is_parameter (map typed es)) (sym c.as_slice-held.ensures.value) c.in_ok-found.ensures.typed in
    let rising : IsStrictlySortedBy nat_cmp (map (λ e. e.0) found) = subst (λ (es : List (ℕ × DeclaredValType)). IsStrictlySortedBy nat_cmp (map (λ e. e.0) es)) (sym c.as_slice-held.ensures.value) c.in_ok-found.ensures.rising in
    let highest = c.highest_rank-highest.result in
    let low = c.if-highest-lt5.true in
    let few : highest + 1 ≤ 5 = omega (arith, low) in
    ranked_ids (λ ids. map place ids.items) c.by_ranks.result slots once is_parameter found (highest + 1) c.by_ranks.ensures are rising few (λ k d within. let h = c.highest_rank-highest.ensures k d within in omega (arith, h))
