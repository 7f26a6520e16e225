use Rattle.std.proofs.Common.{◌≡◌, suc, ◌+◌, ◌-◌, ap, sym, ◌∙◌, arith}
use Rattle.wasm_operators.specs.Standing as standing
use Rattle.wasm_operators.proofs.Skipped.{entries_next, entries_none, entries_over}
use Rattle.wasm_operators.proofs.standing.behind_entries.Goals as goal

pub returns-in_default : goal.returns-in_default
returns-in_default g c =
    let entry = g.E.Listed.behind in
    let e : c.args.count - c.entries._taken ≡ suc (c.args.count - (c.entries._taken + 1)) = omega arith in
    sym (c.entries.invariant ∙ ap (λ k. standing.behind_entries entry k c.entries.rest.now) e ∙ entries_none entry (c.args.count - (c.entries._taken + 1)) c.entries.rest.now c.in_default.ensures)

pub entries-preserved : goal.entries-preserved
entries-preserved g c =
    let entry = g.E.Listed.behind in
    let e : c.args.count - c.entries._taken ≡ suc (c.args.count - (c.entries._taken + 1)) = omega arith in
    c.entries.invariant ∙ ap (λ k. standing.behind_entries entry k c.entries.rest.now) e ∙ entries_next entry (c.args.count - (c.entries._taken + 1)) c.entries.rest.now c.in-Some.after.now c.in-Some.ensures

pub returns : goal.returns
returns g c =
    let entry = g.E.Listed.behind in
    let e : c.args.count - c.entries._taken ≡ 0 = omega arith in
    sym (c.entries.invariant ∙ ap (λ k. standing.behind_entries entry k c.entries.rest.now) e ∙ entries_over entry c.entries.rest.now)
