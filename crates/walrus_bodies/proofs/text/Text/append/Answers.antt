use Rattle.std.proofs.Common.{List, Option, None, ◌≡◌, ◌+◌, ◌-◌, ◌<◌, ◌≤◌, ℕ, get_or, length, map, ap, ◌∙◌, refl, sym, subst, arith}
use Rattle.std.specs.List.{range_with_len}
use Rattle.std.proofs.lemmas.List.FromFn.{get_or-map-range_with_len, length-map-range_with_len}
use Rattle.walrus_code.specs.Indices.{index_of, local_index}
use Rattle.walrus_bodies.specs.Numbers.{table_index}
use Rattle.walrus_bodies.specs.Text.{entry_of, first_local_of, local_count_of}
use Rattle.walrus_bodies.specs.declared.plain_code.LeftOut.{LeftOut}
use Rattle.walrus_bodies.proofs.text.Text.append.Goals as goal

pub returns : goal.returns
unfolding first_local_of local_count_of
returns c features =
    let t = c.args.self.now in
    let number = local_index c.args.locals.now in
    let table = c.as_slice.result.now in
    let count = (entry_of t).locals in
    let items : c.in_ok-table.table.items ≡ map number (range_with_len t.first_local count) = c.in_ok-table.ensures ∙ ap (λ (n : ℕ). map number (range_with_len t.first_local n)) c.local_count.ensures in
    let is : table ≡ map number (range_with_len t.first_local count) = c.as_slice.ensures.value ∙ items in
    let same : c.deref.result.now ≡ table = c.deref.ensures.value ∙ sym c.as_slice.ensures.value in
    let long : length c.deref.result.now ≡ count = ap length (c.deref.ensures.value ∙ items) ∙ length-map-range_with_len number t.first_local count in
    let at_place : (i : ℕ) → table_index t.first_local table (t.first_local + i) ≡ get_or table i None = λ i.
    let back : (t.first_local + i) - t.first_local ≡ i = omega arith in
    ap (λ (k : ℕ). get_or table k None) back in
    c.append_numbered.ensures (index_of c.args.indices.now) (table_index t.first_local table) number features refl
    (λ n from low.
    let low_so : n < length c.deref.result.now = omega (arith, low, long) in
    let from_so : c.left_out.result.first ≤ n = subst (λ (o : LeftOut). o.first ≤ n) (sym c.left_out.ensures) from in
    at_place n ∙ sym (ap (λ (xs : List (Option ℕ)). get_or xs n None) same) ∙ c.are_kept.ensures c.if-not-are_kept.false n from_so low_so)
    (λ accessed. c.memory_stays.ensures c.if-not-memory_stays.false accessed)
    (λ i low. at_place i ∙ ap (λ (xs : List (Option ℕ)). get_or xs i None) is ∙ get_or-map-range_with_len number t.first_local count i (t.first_local + i) None low refl)
